use Rattle.std.proofs.Common.{◌≡◌, drop}
use Rattle.snap_call.specs.SavedLeases.{lease_of, put_lease_names, with_leases}
use Rattle.snap_accounts.specs.Saved.{HasLeaseAt}
use Rattle.snap_accounts.proofs.accounts.Accounts.put_names.Given as goal

-- what the names that are left make of the state is what all make of the first one
abbrev pub invariant-loop-name : goal.invariant-loop-name
invariant-loop-name g l = record {
  there : HasLeaseAt l.self l.place (lease_of l.lease);
  left : put_lease_names l.self l.place (lease_of l.lease) (drop l.name-index l.name-items) ≡ put_lease_names l.initial.self l.place (lease_of l.lease) l.name-items;
  rest : l.self ≡ with_leases l.initial.self l.self.leases;
}
