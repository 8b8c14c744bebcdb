use Rattle.std.proofs.Common.{◌∙◌, ◌≡◌, false, ap, refl}
use Rattle.snap_lease.specs.Lease.{does_name, with_lease_name}
use Rattle.snap_lease.specs.contracts.entry.LeaseEntry.{the_view}
use Rattle.snap_lease.proofs.LeaseLemmas.{with_name-inserted}
use Rattle.snap_lease.proofs.entry.LeaseEntry.put.Goals as goal

pub returns-clause-ok : goal.returns-clause-ok
returns-clause-ok c =
    let absent : does_name c.args.name.now (the_view c.self.inside) ≡ false = ap (does_name c.args.name.now) c.self.view_is ∙ c.requires in
    with_name-inserted c.args.name.now (the_view c.self.inside) c.self.inside.names.entries c.insert.new.self.entries c.in_ok-name.name tt
    absent refl c.in_ok-name.ensures.ok c.in_ok-insert.ensures.entries
    ∙ ap (with_lease_name c.args.name.now) c.self.view_is
