use Rattle.std.proofs.Common.{◌≡◌, ◌+◌, List, refl, sym, ap, ◌∙◌, subst, arith}
use Rattle.snap_record.specs.declared.record.Record.{Record}
use Rattle.snap_call.specs.declared.state.State.{State}
use Rattle.snap_call.specs.Good.{Good}
use Rattle.snap_call.specs.Records.{open_count, with_record}
use Rattle.snap_accounts.specs.Accounts.{AreAccounts}
use Rattle.snap_accounts.specs.Changes.{IsNewView}
use Rattle.snap_accounts.proofs.Accounting.{accounts_same}
use Rattle.snap_accounts.proofs.Changes.{accounts_viewed, open_count-view}
use Rattle.snap_accounts.proofs.accounts.Accounts.add_view.Goals as goal

pub invariant_of-self : goal.invariant_of-self
invariant_of-self g c =
    let s = c.self.inside.state in
    let same : c.insert.new.self ≡ s.records = c.in-Err.ensures.err in
    accounts_same s (record s { records = c.insert.new.self }) c.self.inside.totals c.self.inside.slots c.self.inside.opened c.self.invariant
    (subst (λ (l : List Record). Good (record s { records = l })) (sym same) c.self.invariant.good)
    refl same

pub invariant_of-self-2 : goal.invariant_of-self-2
invariant_of-self-2 g c =
    let s = c.self.inside.state in
    let new : IsNewView s c.args.snapshot = subst (λ (u : State). IsNewView u c.args.snapshot) (sym c.self.view_is) c.requires.possible in
    subst (λ (l : List Record). AreAccounts (record s { records = l; next_id = s.next_id + 1; entries = s.entries + 1 }) c.self.inside.totals c.self.inside.slots c.self.inside.opened) (sym (c.in_default.ensures.ok ∙ ap (λ (r : Record). with_record r s.records) c.in_ok-held.ensures))
    (accounts_viewed s c.self.inside.totals c.self.inside.slots c.self.inside.opened c.args.snapshot c.self.invariant new)

pub returns-clause-open : goal.returns-clause-open
returns-clause-open g c =
    let s = c.self.inside.state in
    ap open_count (c.in_default.ensures.ok ∙ ap (λ (r : Record). with_record r s.records) c.in_ok-held.ensures) ∙ (open_count-view c.args.snapshot _ c.requires.possible.view s.records ∙ ap (λ (u : State). open_count u.records) c.self.view_is)

pub insert-requires-clause-few : goal.insert-requires-clause-few
insert-requires-clause-few g c =
    omega (arith, c.self.invariant.good.fewer, ap (λ (u : State). u.next_id) c.self.view_is, c.requires.possible.site.numbers)
