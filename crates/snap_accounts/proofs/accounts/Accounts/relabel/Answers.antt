use Rattle.std.proofs.Common.{◌+◌, List, sym, ap, ◌∙◌, subst}
use Rattle.snap_record.specs.declared.record.Record.{Record}
use Rattle.snap_call.specs.declared.state.State.{State}
use Rattle.snap_call.specs.Records.{open_count, relabelled}
use Rattle.snap_call.proofs.Alike.{alike-open_count, bare-relabelled}
use Rattle.snap_accounts.specs.Accounts.{AreAccounts}
use Rattle.snap_accounts.proofs.Changes.{accounts_relabelled}
use Rattle.snap_accounts.proofs.accounts.Accounts.relabel.Goals as goal

pub invariant_of-self : goal.invariant_of-self
invariant_of-self g c =
    let s = c.self.inside.state in
    subst (λ (l : List Record). AreAccounts (record s { records = l; entries = s.entries + 1 }) c.self.inside.totals c.self.inside.slots c.self.inside.opened) (sym c.relabel.ensures)
    (accounts_relabelled s c.self.inside.totals c.self.inside.slots c.self.inside.opened c.args.place c.args.key.now c.args.labels c.self.invariant c.requires.formed)

pub returns-clause-open : goal.returns-clause-open
returns-clause-open g c =
    let s = c.self.inside.state in
    let ts = relabelled c.args.place c.args.key.now c.args.labels (s.entries + 1) s.records in
    ap open_count c.relabel.ensures
    ∙ (alike-open_count s.records ts (bare-relabelled c.args.place c.args.key.now c.args.labels (s.entries + 1) s.records)
    ∙ ap (λ (u : State). open_count u.records) c.self.view_is)
