use Rattle.std.proofs.Common.{◌≡◌, ◌∷◌, false, Some, sym, ◌∙◌}
use Rattle.snap_upper.specs.declared.op.Op.TheVariants as op
use Rattle.snap_upper.specs.After.{tests, first_error, is_same_name}
use Rattle.snap_upper.proofs.Movable.{ends_fail, move_decides, move_fails, move_fails_or, move_lists_none, or_memory}
use Rattle.snap_upper.proofs.checks.check_rename.Goals as goal

pub returns-in_err-ends-clause-error : goal.returns-in_err-ends-clause-error
returns-in_err-ends-clause-error c =
    let u = c.args.layer.now in
    let ls = c.args.lowers.now in
    let from = c.args.from.now in
    let to = c.args.to.now in
    or_memory (λ e. first_error (tests (op.Rename from to) (u ∷ ls)) ≡ Some e) c.from_residual.result (ends_fail u ls from to _ c.from_residual.result c.in_err-ends.field-0.0 c.over.ensures c.from_residual.ensures.1 c.in_err-ends.ensures.error)

pub returns-in_err-ends-clause-sure : goal.returns-in_err-ends-clause-sure
returns-in_err-ends-clause-sure c = λ other.
    ends_fail c.args.layer.now c.args.lowers.now c.args.from.now c.args.to.now _ c.from_residual.result c.in_err-ends.field-0.0 c.over.ensures c.from_residual.ensures.1 c.in_err-ends.ensures.error

pub returns-in_err-check_move-clause-error : goal.returns-in_err-check_move-clause-error
returns-in_err-check_move-clause-error c =
    move_fails_or c.args.layer.now c.args.lowers.now c.args.from.now c.args.to.now _ c.from_residual-in_err-check_move.result c.in_err-check_move.field-0.0 c.over.ensures c.in_ok-ends.ensures.error (sym c.is_same_name.ensures ∙ c.if-is_same_name.false) c.from_residual-in_err-check_move.ensures.1 c.in_err-check_move.ensures.error

pub returns-in_err-check_move-clause-sure : goal.returns-in_err-check_move-clause-sure
returns-in_err-check_move-clause-sure c = λ none.
    let u = c.args.layer.now in
    let ls = c.args.lowers.now in
    let from = c.args.from.now in
    let to = c.args.to.now in
    let other : is_same_name u from to ≡ false = sym c.is_same_name.ensures ∙ c.if-is_same_name.false in
    let decides = move_decides u ls from to _ c.over.ensures c.in_ok-ends.ensures.error other in
    move_fails u ls from to _ c.from_residual-in_err-check_move.result c.in_err-check_move.field-0.0 c.over.ensures c.in_ok-ends.ensures.error other c.from_residual-in_err-check_move.ensures.1 (c.in_err-check_move.ensures.sure (move_lists_none u ls from to other decides none))
