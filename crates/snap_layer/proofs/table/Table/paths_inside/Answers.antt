use Rattle.std.proofs.Common.{◌≡◌, ◌≤◌, ◌++◌, ◌∷◌, [], List, length, take, sym, ap, subst, ◌∙◌}
use Rattle.snap_path.specs.Limits.{most_path_bytes}
use Rattle.snap_path.specs.Text.{Names, text_below}
use Rattle.snap_layer.specs.Tree.{at}
use Rattle.snap_layer.specs.Edits.{inside}
use Rattle.snap_layer.specs.Rows.{own}
use Rattle.snap_layer.proofs.Below.{AreListed, listed_first, next_path}
use Rattle.snap_layer.proofs.Somes.{match_some, if_some}
use Rattle.snap_layer.proofs.table.Table.paths_inside.Goals as goal

pub loop-rows-init : goal.loop-rows-init
loop-rows-init c =
    let t = c.args.self.now in
    let p = c.args.front.now in
    record {
      last = c.in_ok-last.ensures.cases ∙ sym (c.below-rows.ensures.path ∙ c.names.ensures.names);
      listed =
          subst (λ (q : Names). AreListed t p c.new-paths.result.items q c.below-rows.result.rest) (sym c.in_ok-last.ensures.cases)
          (subst (λ (ps : List Names). AreListed t p ps p c.below-rows.result.rest) (sym c.new-paths.ensures.items)
          (listed_first t p c.below-rows.result.rest c.requires (subst (λ (q : Names). inside q t.entries ≡ own q (at t q) ++ c.below-rows.result.rest) c.names.ensures.names c.below-rows.ensures.rest)));
    }

pub path_beside-requires-clause-short : goal.path_beside-requires-clause-short
path_beside-requires-clause-short c =
    subst (λ (q : Names). length (text_below q) ≤ most_path_bytes)
    ((if_some _ c.in-Some.is c.in_ok-row.ensures.path) ∙ ap (λ (q : Names). take c.in-Some.row.above q ++ c.in-Some.row.name.now ∷ []) (sym c.loop-rows.invariant.last))
    (next_path c.args.self.now c.below-rows.ensures.layer c.args.front.now c.loop-rows.paths.items c.loop-rows.last c.try_next.new.self.path c.in-Some.row.node c.loop-rows.rows.rest c.try_next.new.self.rest c.loop-rows.invariant.listed (match_some _ _ c.in-Some.is c.in_ok-row.ensures.row)).1
