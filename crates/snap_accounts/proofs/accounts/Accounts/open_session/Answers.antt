use Rattle.std.proofs.Common.{◌+◌, refl, arith}
use Rattle.snap_call.proofs.Keeping.{good_counters}
use Rattle.snap_accounts.proofs.Accounting.{accounts_same}
use Rattle.snap_accounts.proofs.accounts.Accounts.open_session.Goals as goal

pub invariant_of-self : goal.invariant_of-self
invariant_of-self g c =
    let s = c.self.inside.state in
    accounts_same s (record s { sessions = s.sessions + 1; entries = s.entries + 1 }) c.self.inside.totals c.self.inside.slots c.self.inside.opened c.self.invariant (good_counters s (s.sessions + 1) (s.entries + 1) (omega arith) c.self.invariant.good) refl refl
