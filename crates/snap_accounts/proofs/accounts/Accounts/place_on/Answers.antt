use Rattle.std.proofs.Common.{sym, ap, ◌∙◌}
use Rattle.snap_call.specs.declared.state.State.{State}
use Rattle.snap_call.specs.Records.{has_key}
use Rattle.snap_call.specs.State.{is_present, is_base, is_too_deep}
use Rattle.snap_accounts.proofs.Prepared.{parent-too_deep, parent-fits}
use Rattle.snap_accounts.proofs.accounts.Accounts.place_on.Goals as goal

pub returns-then-is_too_deep-clause-refused : goal.returns-then-is_too_deep-clause-refused
returns-then-is_too_deep-clause-refused g c =
    let place = c.args.place in
    let parent = c.args.parent.now in
    parent-too_deep c.args.self.now.ancestors c.args.self.now.records c.args.key.now parent place
    (ap (λ (s : State). is_present place parent s.records) (sym c.self.view_is) ∙ sym c.is_present.ensures ∙ c.if-not-is_present.false)
    (ap (λ (s : State). has_key place c.args.key.now s.records) (sym c.self.view_is) ∙ sym c.has_key.ensures ∙ c.if-has_key.false)
    (ap (λ (s : State). is_base place parent s.records) (sym c.self.view_is) ∙ sym c.is_base.ensures ∙ c.if-not-is_base.false)
    (ap (λ (s : State). is_too_deep s.ancestors place parent s.records) (sym c.self.view_is) ∙ sym c.is_too_deep.ensures ∙ c.if-is_too_deep.true)

pub returns-clause-ok : goal.returns-clause-ok
returns-clause-ok g c =
    let place = c.args.place in
    let parent = c.args.parent.now in
    parent-fits c.args.self.now.ancestors c.args.self.now.records c.args.key.now parent place
    (ap (λ (s : State). is_present place parent s.records) (sym c.self.view_is) ∙ sym c.is_present.ensures ∙ c.if-not-is_present.false)
    (ap (λ (s : State). has_key place c.args.key.now s.records) (sym c.self.view_is) ∙ sym c.has_key.ensures ∙ c.if-has_key.false)
    (ap (λ (s : State). is_base place parent s.records) (sym c.self.view_is) ∙ sym c.is_base.ensures ∙ c.if-not-is_base.false)
    (ap (λ (s : State). is_too_deep s.ancestors place parent s.records) (sym c.self.view_is) ∙ sym c.is_too_deep.ensures ∙ c.if-is_too_deep.false)
