use Rattle.std.proofs.Common.{Err, ap}
use Rattle.snap_layer.specs.declared.error.LayerError.{LayerError}
use Rattle.snap_layer.specs.Edits.{with_moved}
use Rattle.snap_upper.specs.After.{shifted}
use Rattle.snap_upper.proofs.Shifted.{move_refused, shifted_full}
use Rattle.snap_upper.proofs.names.relocate.Goals as goal

pub returns-in_err-move_tree-clause-error : goal.returns-in_err-move_tree-clause-error
returns-in_err-move_tree-clause-error c =
    let u = c.args.layer.now in
    let from = c.args.from.now in
    let to = c.args.to.now in
    move_refused c.from_residual.result c.in_err-move_tree.field-0.0 (with_moved u from to c.args.leaves) (shifted u from to c.args.leaves c.args.covers) c.from_residual.ensures.1
    (λ full. c.in_err-move_tree.ensures.full.0 (ap (λ (x : LayerError). Err x) full))
    (shifted_full u from to c.requires.layer.sorted_paths c.args.leaves c.args.covers)
