use Rattle.std.proofs.Common.{◌≡◌, ◌+◌, List, set, sym, ap, ◌∙◌, subst}
use Rattle.std.specs.Option.{option_map_or}
use Rattle.snap_usage.specs.declared.usage.Usage.{Usage}
use Rattle.snap_usage.specs.Counted.{Covers, no_usage}
use Rattle.snap_ledger.specs.States.{minus}
use Rattle.snap_record.specs.Records.{usage_of}
use Rattle.snap_record.specs.declared.record.Record.{Record}
use Rattle.snap_call.specs.declared.state.State.{State}
use Rattle.snap_call.specs.Records.{charge_of, open_count, record_at}
use Rattle.snap_accounts.specs.Accounts.{AreAccounts}
use Rattle.snap_accounts.specs.Changes.{IsUnused}
use Rattle.snap_accounts.proofs.Changes.{accounts_removed, freed-covered, open_count-removed}
use Rattle.snap_accounts.proofs.accounts.Accounts.remove.Goals as goal

pub difference-rest-requires : goal.difference-rest-requires
difference-rest-requires g c =
    let freed : c.freed_by.result ≡ option_map_or (λ r. usage_of r.content) (record_at c.args.place c.args.key.now c.self.inside.state.records) no_usage =
    c.freed_by.ensures ∙ ap (λ o. option_map_or (λ r. usage_of r.content) o no_usage) c.take_key-taken.ensures.record_taken in
    let unused : IsUnused c.self.inside.state c.args.place c.args.key.now = subst (λ (u : State). IsUnused u c.args.place c.args.key.now) (sym c.self.view_is) c.requires.possible in
    let total : c.total-total.result ≡ charge_of c.args.place c.self.inside.state.records = c.total-total.ensures.total ∙ ap (λ (u : State). charge_of c.args.place u.records) (sym c.self.view_is) in
    subst (λ (u : Usage). Covers u c.freed_by.result) (sym total)
    (subst (λ (u : Usage). Covers (charge_of c.args.place c.self.inside.state.records) u) (sym freed) (freed-covered c.self.inside.state c.args.place c.args.key.now unused))

pub invariant_of-self : goal.invariant_of-self
invariant_of-self g c =
    let s = c.self.inside.state in
    let freed : c.freed_by.result ≡ option_map_or (λ r. usage_of r.content) (record_at c.args.place c.args.key.now s.records) no_usage =
    c.freed_by.ensures ∙ ap (λ o. option_map_or (λ r. usage_of r.content) o no_usage) c.take_key-taken.ensures.record_taken in
    let unused : IsUnused s c.args.place c.args.key.now = subst (λ (u : State). IsUnused u c.args.place c.args.key.now) (sym c.self.view_is) c.requires.possible in
    let total : c.total-total.result ≡ charge_of c.args.place s.records = c.total-total.ensures.total ∙ ap (λ (u : State). charge_of c.args.place u.records) (sym c.self.view_is) in
    subst (λ (l : List Record). AreAccounts (record s { records = l; entries = s.entries + 1 }) c.set.new.self c.self.inside.slots c.self.inside.opened) (sym c.take_key-taken.ensures.taken)
    (accounts_removed s c.self.inside.totals _ c.self.inside.slots c.self.inside.opened c.args.place c.args.key.now c.self.invariant unused
    (c.set.ensures ∙ (λ i. set c.self.inside.totals c.args.place ((c.difference-rest.ensures ∙ (λ j. minus (total j) (freed j))) i))))

pub returns-clause-open : goal.returns-clause-open
returns-clause-open g c =
    let s = c.self.inside.state in
    let unused : IsUnused s c.args.place c.args.key.now = subst (λ (u : State). IsUnused u c.args.place c.args.key.now) (sym c.self.view_is) c.requires.possible in
    ap open_count c.take_key-taken.ensures.taken ∙ (open_count-removed s c.args.place c.args.key.now unused ∙ ap (λ (u : State). open_count u.records) c.self.view_is)
