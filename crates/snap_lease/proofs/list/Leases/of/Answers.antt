use Rattle.std.proofs.Common.{◌∙◌, ◌≡◌, Some, true, false, rules, ap, find, is_some, option_map, sym}
use Rattle.snap_lease.specs.Lease.{Lease, is_lease}
use Rattle.snap_lease.specs.Leases.{has_lease}
use Rattle.snap_lease.proofs.NumberLemmas.{at_number, found_at_number, has_lease_at_number, lookup-find}
use Rattle.snap_lease.proofs.list.Leases.of.Goals as goal
use Rattle.std.specs.BTreeMap.{is_at}
use Rattle.std.specs.Ordering.{nat_cmp}

pub returns-in_default-clause-no_lease : goal.returns-in_default-clause-no_lease
returns-in_default-clause-no_lease c =
    let absent : has_lease c.args.self.now c.args.namespace.now c.args.lease.now ≡ false =
    has_lease_at_number c.self.inside.list.entries c.args.self.now c.self.inside.numbers c.args.namespace.now c.args.lease.now c.get.result c.get.ensures c.self.invariant.3 c.self.view_is ∙ ap is_some c.in_default.is in
    search rules

pub index-requires : goal.index-requires
index-requires c =
    found_at_number c.self.inside.list.entries c.self.inside.numbers c.args.namespace.now c.args.lease.now c.in-Some.number c.self.invariant.4 c.self.invariant.0 c.self.invariant.3 c.in-Some.ensures

pub returns-in_err-names-clause-no_lease : goal.returns-in_err-names-clause-no_lease
returns-in_err-names-clause-no_lease c =
    let there : has_lease c.args.self.now c.args.namespace.now c.args.lease.now ≡ true =
    has_lease_at_number c.self.inside.list.entries c.args.self.now c.self.inside.numbers c.args.namespace.now c.args.lease.now (Some c.in-Some.number) c.in-Some.ensures c.self.invariant.3 c.self.view_is in
    search rules

pub returns-clause-ok : goal.returns-clause-ok
returns-clause-ok c =
    let es = c.self.inside.list.entries in
    let test = is_lease c.args.namespace.now c.args.lease.now in
    let agree = at_number es c.self.inside.numbers c.args.namespace.now c.args.lease.now c.in-Some.number c.self.invariant.4 c.self.invariant.0 c.self.invariant.3 c.in-Some.ensures in
    let found : find test c.args.self.now ≡ Some c.index.result.now =
    ap (find test) (sym c.self.view_is) ∙ sym (lookup-find (is_at (nat_cmp c.in-Some.number)) test es agree) ∙ c.index.ensures in
    ap (option_map (λ (l : Lease). l.names)) found ∙ ap Some (sym c.in_ok-names.ensures)

pub returns-clause-no_lease : goal.returns-clause-no_lease
returns-clause-no_lease c =
    let there : has_lease c.args.self.now c.args.namespace.now c.args.lease.now ≡ true =
    has_lease_at_number c.self.inside.list.entries c.args.self.now c.self.inside.numbers c.args.namespace.now c.args.lease.now (Some c.in-Some.number) c.in-Some.ensures c.self.invariant.3 c.self.view_is in
    search rules
