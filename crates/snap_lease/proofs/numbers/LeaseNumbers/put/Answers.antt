use Rattle.std.proofs.Common.{◌∙◌, ◌≡◌, ◌≢◌, None, Some, ap, bytes_eq, cond, length, refl, sym}
use Rattle.std.specs.BTreeMap.{btree_map_len, get_by_text, is_at}
use Rattle.std.specs.Cmp.Lexicographic.{slice_cmp}
use Rattle.std.specs.Map.{lookup}
use Rattle.std.specs.Option.{option_copied_mut}
use Rattle.std.specs.Ordering.{nat_cmp}
use Rattle.std.specs.Prelude.{string_bytes}
use Rattle.snap_counts.proofs.Reading.{AllValues-Sets, AllValues-found, Sets-inserted, Sets-written, read-Sets}
use Rattle.snap_lease.proofs.NumberLemmas.{named-put, no_names, number_among, number_in-same, number_in-set, on_err}
use Rattle.snap_lease.proofs.numbers.LeaseNumbers.put.Goals as goal

pub returns-in_err-insert-clause-err : goal.returns-in_err-insert-clause-err
returns-in_err-insert-clause-err c =
    let m = c.self.inside.map in
    let names = c.in-Some.leases.now in
    let more = c.insert.new.self in
    let sets = Sets-written m (c.get_mut.follows.lender more) c.args.namespace.now names more c.in-Some.ensures.value (c.get_mut.follows.holds more).3 in
    on_err c.from_residual-in_err-insert.result
    (number_in-same m (c.get_mut.follows.lender more) c.args.self.now c.args.namespace.now (Some more) c.self.view_is sets
    (λ q. ap (lookup (is_at (λ k. slice_cmp nat_cmp q (string_bytes k)))) c.in_err-insert.ensures.err ∙ ap (number_among q) c.in-Some.ensures.value))

pub invariant_of-self : goal.invariant_of-self
invariant_of-self c =
    let m = c.self.inside.map in
    let names = c.in-Some.leases.now in
    let more = c.insert.new.self in
    let sets = Sets-written m (c.get_mut.follows.lender more) c.args.namespace.now names more c.in-Some.ensures.value (c.get_mut.follows.holds more).3 in
    let had = AllValues-found (λ names. btree_map_len names ≢ 0) m c.args.namespace.now names c.in-Some.ensures.value c.self.invariant in
    AllValues-Sets (λ names. btree_map_len names ≢ 0) m (c.get_mut.follows.lender more) c.args.namespace.now (Some more) sets (λ none. had (ap length (sym c.in_err-insert.ensures.err) ∙ none)) c.self.invariant

pub invariant_of-self-in-Some : goal.invariant_of-self-in-Some
invariant_of-self-in-Some c =
    let m = c.self.inside.map in
    let names = c.in-Some.leases.now in
    let more = c.insert.new.self in
    let sets = Sets-written m (c.get_mut.follows.lender more) c.args.namespace.now names more c.in-Some.ensures.value (c.get_mut.follows.holds more).3 in
    let inner = Sets-inserted names names more c.args.lease.now c.in_ok-key.key c.args.number refl c.in_ok-key.ensures.ok c.in_ok-insert.ensures.updates in
    AllValues-Sets (λ names. btree_map_len names ≢ 0) m (c.get_mut.follows.lender more) c.args.namespace.now (Some more) sets (named-put names more c.args.lease.now c.args.number inner) c.self.invariant

pub returns-in-Some-clause-ok : goal.returns-in-Some-clause-ok
returns-in-Some-clause-ok c =
    let m = c.self.inside.map in
    let names = c.in-Some.leases.now in
    let more = c.insert.new.self in
    let sets = Sets-written m (c.get_mut.follows.lender more) c.args.namespace.now names more c.in-Some.ensures.value (c.get_mut.follows.holds more).3 in
    let inner = Sets-inserted names names more c.args.lease.now c.in_ok-key.key c.args.number refl c.in_ok-key.ensures.ok c.in_ok-insert.ensures.updates in
    number_in-set m (c.get_mut.follows.lender more) c.args.self.now c.args.namespace.now c.args.lease.now (Some more) (Some c.args.number) c.self.view_is sets
    (λ q. read-Sets (λ o. o) names more c.args.lease.now (Some c.args.number) inner q ∙ ap (λ o. cond (bytes_eq q c.args.lease.now) (Some c.args.number) (number_among q o)) c.in-Some.ensures.value)

pub returns-clause-ok : goal.returns-clause-ok
returns-clause-ok c =
    let m = c.self.inside.map in
    let more = c.insert-2.new.self in
    let absent : get_by_text m c.args.namespace.now ≡ None = sym c.get_mut.ensures.value ∙ ap option_copied_mut c.in_default.is in
    let sets = Sets-inserted m c.get_mut.follows.lender-at-none c.insert-3.new.self c.args.namespace.now c.in_ok-space.space more c.get_mut.follows.holds-at-none c.in_ok-space.ensures.ok c.in_ok-insert-3.ensures.updates in
    let inner = Sets-inserted c.new-leases.result c.new-leases.result more c.args.lease.now c.in_ok-key.key c.args.number refl c.in_ok-key.ensures.ok c.in_ok-insert-2.ensures.updates in
    number_in-set m c.insert-3.new.self c.args.self.now c.args.namespace.now c.args.lease.now (Some more) (Some c.args.number) c.self.view_is sets
    (λ q. read-Sets (λ o. o) c.new-leases.result more c.args.lease.now (Some c.args.number) inner q
    ∙ ap (cond (bytes_eq q c.args.lease.now) (Some c.args.number)) (no_names q c.new-leases.result c.new-leases.ensures.len ∙ sym (ap (number_among q) absent)))

pub invariant_of-self-2 : goal.invariant_of-self-2
invariant_of-self-2 c =
    let m = c.self.inside.map in
    let more = c.insert-2.new.self in
    let sets = Sets-inserted m c.get_mut.follows.lender-at-none c.insert-3.new.self c.args.namespace.now c.in_ok-space.space more c.get_mut.follows.holds-at-none c.in_ok-space.ensures.ok c.in_ok-insert-3.ensures.updates in
    let inner = Sets-inserted c.new-leases.result c.new-leases.result more c.args.lease.now c.in_ok-key.key c.args.number refl c.in_ok-key.ensures.ok c.in_ok-insert-2.ensures.updates in
    AllValues-Sets (λ names. btree_map_len names ≢ 0) m c.insert-3.new.self c.args.namespace.now (Some more) sets (named-put c.new-leases.result more c.args.lease.now c.args.number inner) c.self.invariant
