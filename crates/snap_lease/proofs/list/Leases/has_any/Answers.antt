use Rattle.snap_lease.proofs.NumberLemmas.{has_leases_at_number}
use Rattle.snap_lease.proofs.list.Leases.has_any.Goals as goal

pub returns : goal.returns
returns c = has_leases_at_number c.args.namespace.now c.self.inside.list.entries c.args.self.now c.self.inside.numbers c.has_any.result c.has_any.ensures c.self.invariant.3 c.self.view_is
