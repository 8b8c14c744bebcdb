use Rattle.std.proofs.Common.{◌≡◌, ◌+◌, set, sym, ap, ◌∙◌, subst}
use Rattle.snap_usage.specs.declared.usage.Usage.{Usage}
use Rattle.snap_usage.specs.Counted.{Covers}
use Rattle.snap_ledger.specs.States.{minus}
use Rattle.snap_call.specs.declared.state.State.{State}
use Rattle.snap_call.specs.Records.{charge_of, open_count}
use Rattle.snap_call.specs.Step.{swept_at}
use Rattle.snap_call.proofs.Sweeping.{open_count-unswept, swept_covers}
use Rattle.snap_accounts.specs.Accounts.{AreAccounts}
use Rattle.snap_accounts.specs.Changes.{IsSweepAt}
use Rattle.snap_accounts.proofs.Sweeps.{accounts_swept, stay}
use Rattle.snap_accounts.proofs.accounts.Accounts.sweep.Goals as goal
use Rattle.snap_call.proofs.Parts.{unswept}

pub difference-rest-requires : goal.difference-rest-requires
difference-rest-requires g c =
    let s = c.args.self.now in
    subst (λ (u : Usage). Covers u c.args.freed) (sym c.total.ensures.total)
    (subst (λ (u : Usage). Covers (charge_of c.args.place s.records) u) (sym c.requires.possible.charged) (swept_covers s c.args.namespace.now c.args.place c.args.moment))

-- what the sweep takes away, of the state inside
possible : (g : _) (c : goal.After-self-1 g) → IsSweepAt c.self.inside.state c.args.place c.args.namespace.now c.args.moment c.args.keys.now c.args.freed
possible g c = subst (λ (u : State). IsSweepAt u c.args.place c.args.namespace.now c.args.moment c.args.keys.now c.args.freed) (sym c.self.view_is) c.requires.possible

left : (g : _) (c : goal.After-self-1 g) → c.take_keys.new.self ≡ unswept c.self.inside.state c.args.namespace.now c.args.place c.args.moment
left g c = c.take_keys.ensures ∙ stay c.self.inside.state c.args.place c.args.namespace.now c.args.moment c.args.keys.now c.args.freed (possible g c) c.self.invariant.good

-- the state after it
after : (g : _) (c : goal.After-self-1 g) → record c.self.inside.state { records = c.take_keys.new.self; leases = c.drop_ended.new.self; entries = c.self.inside.state.entries + 1 } ≡ swept_at c.self.inside.state c.args.namespace.now c.args.place c.args.moment
after g c = λ i. record c.self.inside.state { records = left g c i; leases = c.drop_ended.ensures.leases i; entries = c.self.inside.state.entries + 1 }

pub invariant_of-self : goal.invariant_of-self
invariant_of-self g c =
    let s = c.self.inside.state in
    let total : c.total.result ≡ charge_of c.args.place s.records = c.total.ensures.total ∙ ap (λ (u : State). charge_of c.args.place u.records) (sym c.self.view_is) in
    subst (λ (u : State). AreAccounts u c.set.new.self c.self.inside.slots c.self.inside.opened) (sym (after g c))
    (accounts_swept s c.args.place c.args.namespace.now c.args.moment c.args.keys.now c.args.freed (possible g c) c.self.inside.totals c.set.new.self c.self.inside.slots c.self.inside.opened c.self.invariant
    (c.set.ensures ∙ (λ i. set c.self.inside.totals c.args.place ((c.difference-rest.ensures ∙ (λ j. minus (total j) c.args.freed)) i))))

pub returns-clause-done : goal.returns-clause-done
returns-clause-done g c = after g c ∙ ap (λ (u : State). swept_at u c.args.namespace.now c.args.place c.args.moment) c.self.view_is

pub returns-clause-open : goal.returns-clause-open
returns-clause-open g c =
    ap open_count (left g c) ∙ (open_count-unswept c.self.inside.state c.args.namespace.now c.args.place c.args.moment ∙ ap (λ (u : State). open_count u.records) c.self.view_is)
