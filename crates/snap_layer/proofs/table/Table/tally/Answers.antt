use Rattle.std.proofs.Common.{◌≡◌, ap, ◌∙◌}
use Rattle.std.specs.Prelude.{count_by}
use Rattle.std.specs.Map.{values_of}
use Rattle.snap_layer.specs.Tree.{Entries, is_dir, is_whiteout}
use Rattle.snap_layer.specs.Counts.{dir_count, whiteout_count}
use Rattle.snap_layer.proofs.Listed.{inside_root}
use Rattle.snap_layer.proofs.table.Table.tally.Goals as goal

pub returns : goal.returns
returns c =
    let dirs : c.tally_walk.result.0 ≡ dir_count c.args.self.now = c.tally_walk.ensures.dirs ∙ ap (λ (es : Entries). count_by is_dir (values_of es)) (inside_root c.args.self.now.entries) in
    let whiteouts : c.tally_walk.result.1 ≡ whiteout_count c.args.self.now = c.tally_walk.ensures.whiteouts ∙ ap (λ (es : Entries). count_by is_whiteout (values_of es)) (inside_root c.args.self.now.entries) in
    λ i. (dirs i, whiteouts i)
