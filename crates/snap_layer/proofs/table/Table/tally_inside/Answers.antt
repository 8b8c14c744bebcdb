use Rattle.std.proofs.Common.{◌≡◌, ◌∙◌, sym, ap, subst}
use Rattle.std.specs.Prelude.{count_by}
use Rattle.std.specs.Map.{values_of}
use Rattle.snap_layer.specs.Tree.{Entries, at, is_dir, is_whiteout, IsDirAt}
use Rattle.snap_layer.specs.Edits.{inside}
use Rattle.snap_layer.specs.Rows.{own}
use Rattle.snap_layer.proofs.Leaves.{inside_leaf, not_true}
use Rattle.snap_layer.proofs.table.Table.tally_inside.Goals as goal

pub returns-then-not-is_directory : goal.returns-then-not-is_directory
returns-then-not-is_directory c =
    let leaf : IsDirAt (at c.args.self.now c.args.front.now) → ⊥ = λ dir. not_true c.is_directory.result c.if-not-is_directory.true (c.is_directory.ensures.1 (subst IsDirAt (sym c.requires.node) dir)) in
    let same : own c.args.front.now c.args.node ≡ inside c.args.front.now c.args.self.now.entries = ap (own c.args.front.now) c.requires.node ∙ sym (inside_leaf c.args.self.now c.requires.layer c.args.front.now leaf) in
    record {
      dirs = c.counts_of.ensures.dirs c.args.front.now ∙ ap (λ (es : Entries). count_by is_dir (values_of es)) same;
      whiteouts = c.counts_of.ensures.whiteouts c.args.front.now ∙ ap (λ (es : Entries). count_by is_whiteout (values_of es)) same;
    }
