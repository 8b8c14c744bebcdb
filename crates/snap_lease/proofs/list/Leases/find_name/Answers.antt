use Rattle.std.proofs.Common.{◌∙◌, ◌≡◌, Some, false, true, ap, is_some, refl, sym, true≢false}
use Rattle.snap_lease.specs.Leases.{has_lease}
use Rattle.snap_lease.proofs.CountLemmas.{lease_names-none}
use Rattle.snap_lease.proofs.DropLemmas.{lease_names_at_number}
use Rattle.snap_lease.proofs.NumberLemmas.{found_at_number, has_lease_at_number}
use Rattle.snap_lease.proofs.list.Leases.find_name.Goals as goal

-- without the lease no name is in it
absent : (c : goal.In_default) → has_lease c.args.self.now c.args.namespace.now c.args.lease.now ≡ false
absent c =
    has_lease_at_number c.self.inside.list.entries c.args.self.now c.self.inside.numbers c.args.namespace.now c.args.lease.now c.get.result c.get.ensures c.self.invariant.3 c.self.view_is ∙ ap is_some c.in_default.is

pub returns-in_default-clause-named : goal.returns-in_default-clause-named
returns-in_default-clause-named c =
    let none = lease_names-none c.args.self.now c.args.namespace.now c.args.lease.now c.args.name.now (absent c) in
    (λ ok. absurd (true≢false (sym ok)), λ named. absurd (true≢false (sym named ∙ none)))

pub returns-in_default-clause-no_lease : goal.returns-in_default-clause-no_lease
returns-in_default-clause-no_lease c = (λ _. absent c, λ _. refl)

pub index-requires : goal.index-requires
index-requires c =
    found_at_number c.self.inside.list.entries c.self.inside.numbers c.args.namespace.now c.args.lease.now c.in-Some.number c.self.invariant.4 c.self.invariant.0 c.self.invariant.3 c.in-Some.ensures

pub returns-then-does_name-clause-named : goal.returns-then-does_name-clause-named
returns-then-does_name-clause-named c =
    let named =
    lease_names_at_number c.self.inside.list.entries c.args.self.now c.self.inside.numbers c.args.namespace.now c.args.lease.now c.args.name.now c.in-Some.number c.index.result.now
    c.self.invariant.4 c.self.invariant.0 c.self.invariant.3 c.in-Some.ensures c.index.ensures c.self.view_is in
    (λ _. named ∙ sym c.does_name.ensures ∙ c.if-does_name.true, λ _. refl)

pub returns-then-does_name-clause-no_lease : goal.returns-then-does_name-clause-no_lease
returns-then-does_name-clause-no_lease c =
    let there =
    has_lease_at_number c.self.inside.list.entries c.args.self.now c.self.inside.numbers c.args.namespace.now c.args.lease.now (Some c.in-Some.number) c.in-Some.ensures c.self.invariant.3 c.self.view_is in
    (λ e. absurd (cc), λ none. absurd (true≢false (sym there ∙ none)))

pub returns-else-does_name-clause-named : goal.returns-else-does_name-clause-named
returns-else-does_name-clause-named c =
    let named =
    lease_names_at_number c.self.inside.list.entries c.args.self.now c.self.inside.numbers c.args.namespace.now c.args.lease.now c.args.name.now c.in-Some.number c.index.result.now
    c.self.invariant.4 c.self.invariant.0 c.self.invariant.3 c.in-Some.ensures c.index.ensures c.self.view_is in
    (λ ok. absurd (true≢false (sym ok)), λ is. absurd (true≢false (sym is ∙ named ∙ sym c.does_name.ensures ∙ c.if-does_name.false)))

pub returns-else-does_name-clause-no_lease : goal.returns-else-does_name-clause-no_lease
returns-else-does_name-clause-no_lease c =
    let there =
    has_lease_at_number c.self.inside.list.entries c.args.self.now c.self.inside.numbers c.args.namespace.now c.args.lease.now (Some c.in-Some.number) c.in-Some.ensures c.self.invariant.3 c.self.view_is in
    (λ e. absurd (cc), λ none. absurd (true≢false (sym there ∙ none)))
