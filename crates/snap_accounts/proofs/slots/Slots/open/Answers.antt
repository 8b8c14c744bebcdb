use Rattle.std.proofs.Common.{sym, subst}
use Rattle.snap_accounts.specs.Slots.{IsRow}
use Rattle.snap_accounts.proofs.Rows.{row-free}
use Rattle.snap_accounts.proofs.slots.Slots.open.Goals as goal

pub invariant_of-result : goal.invariant_of-result
invariant_of-result g c = subst IsRow (sym c.in_ok-row.ensures) row-free

pub returns : goal.returns
returns g c = c.in_ok-row.ensures
