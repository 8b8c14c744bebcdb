use Rattle.std.proofs.Common.{◌+◌, refl}
use Rattle.snap_call.proofs.Keeping.{good_counted}
use Rattle.snap_accounts.proofs.Accounting.{accounts_same}
use Rattle.snap_accounts.proofs.accounts.Accounts.count_entry.Goals as goal

pub invariant_of-self : goal.invariant_of-self
invariant_of-self g c =
    let s = c.self.inside.state in
    accounts_same s (record s { entries = s.entries + 1 }) c.self.inside.totals c.self.inside.slots c.self.inside.opened c.self.invariant (good_counted s c.self.invariant.good) refl refl
