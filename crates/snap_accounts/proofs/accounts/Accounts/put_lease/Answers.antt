use Rattle.snap_call.proofs.BackLeases.{put_leases_back}
use Rattle.snap_accounts.proofs.accounts.Accounts.put_lease.Goals as goal

pub returns-in_err-place-clause-back : goal.returns-in_err-place-clause-back
returns-in_err-place-clause-back g c = put_leases_back

pub returns-in_err-put_unnamed-clause-back : goal.returns-in_err-put_unnamed-clause-back
returns-in_err-put_unnamed-clause-back g c = put_leases_back

pub returns-clause-back : goal.returns-clause-back
returns-clause-back g c = put_leases_back
