use Rattle.snap_copyup.proofs.Alone.{OnOk-weaker}
use Rattle.snap_upper.proofs.Changing.{after_changes}
use Rattle.snap_upper.proofs.Made.{made_changes, made_first}
use Rattle.snap_upper.specs.After.{after}
use Rattle.snap_upper.proofs.Sure.{lists_none, made_sure, refused_sure}
use Rattle.snap_upper.proofs.upper.apply.Goals as goal

pub returns-in_err-change-clause-law : goal.returns-in_err-change-clause-law
returns-in_err-change-clause-law c = λ lowers v layers e. after_changes c.args.op.now c.args.layer.now lowers v c.in_err-change.ensures.layer layers e

pub returns-clause-view : goal.returns-clause-view
returns-clause-view c = OnOk-weaker c.perform.result (made_changes c.args.op.now c.args.layer.now c.args.lowers.now c.perform.new.layer c.in_ok-change.change c.in_ok-change.ensures.layer c.in_ok-change.ensures.ok) c.perform.ensures.ok

pub returns-clause-law : goal.returns-clause-law
returns-clause-law c = λ lowers v layers e. after_changes c.args.op.now c.args.layer.now lowers v c.in_ok-change.ensures.layer layers e

pub returns-clause-first : goal.returns-clause-first
returns-clause-first c = λ none. made_first c.args.op.now c.args.layer.now c.args.lowers.now c.in_ok-change.change c.perform.result c.in_ok-change.ensures.ok

pub returns-in_err-change-clause-sure : goal.returns-in_err-change-clause-sure
returns-in_err-change-clause-sure c = λ none.
    let op = c.args.op.now in
    let u = c.args.layer.now in
    let ls = c.args.lowers.now in
    refused_sure (after op u ls) c.in_err-change.field-0.0 c.from_residual.result c.from_residual.ensures.1 (c.in_err-change.ensures.sure (lists_none op u ls none))

pub returns-clause-sure : goal.returns-clause-sure
returns-clause-sure c = made_sure c.args.op.now c.args.layer.now c.args.lowers.now c.in_ok-change.change c.perform.result c.in_ok-change.ensures.ok c.perform.ensures.sure
