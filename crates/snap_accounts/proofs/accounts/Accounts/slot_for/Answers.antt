use Rattle.std.proofs.Common.{◌<◌, sym, ap, ◌∙◌, subst, arith}
use Rattle.snap_call.specs.declared.state.State.{State}
use Rattle.snap_call.specs.Records.{active_at}
use Rattle.snap_call.proofs.Lowest.{lowest_free-Some}
use Rattle.snap_accounts.proofs.accounts.Accounts.slot_for.Goals as goal

pub returns-clause-low : goal.returns-clause-low
returns-clause-low g c =
    let slot = c.in-Some.slot in
    subst (λ (s : State). slot < s.slots) c.self.view_is (lowest_free-Some c.self.inside.state.slots c.self.inside.state.records slot (sym c.lowest_free.ensures ∙ c.in-Some.is)).0

pub returns-clause-few : goal.returns-clause-few
returns-clause-few g c =
    let low = (lowest_free-Some c.self.inside.state.slots c.self.inside.state.records c.in-Some.slot (sym c.lowest_free.ensures ∙ c.in-Some.is)).0 in
    omega (arith, low, c.self.invariant.good.few_slots.1)

pub returns-clause-free : goal.returns-clause-free
returns-clause-free g c =
    let slot = c.in-Some.slot in
    let found = lowest_free-Some c.self.inside.state.slots c.self.inside.state.records slot (sym c.lowest_free.ensures ∙ c.in-Some.is) in
    ap (λ (s : State). active_at slot s.records) (sym c.self.view_is) ∙ found.1
