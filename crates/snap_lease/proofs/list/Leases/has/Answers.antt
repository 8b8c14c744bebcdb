use Rattle.std.proofs.Common.{◌∙◌, sym}
use Rattle.snap_lease.proofs.NumberLemmas.{has_lease_at_number}
use Rattle.snap_lease.proofs.list.Leases.has.Goals as goal

pub returns : goal.returns
returns c =
    c.is_some.ensures
    ∙ sym (has_lease_at_number c.self.inside.list.entries c.args.self.now c.self.inside.numbers c.args.namespace.now c.args.lease.now c.get.result c.get.ensures c.self.invariant.3 c.self.view_is)
