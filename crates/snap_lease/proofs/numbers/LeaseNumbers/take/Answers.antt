use Rattle.std.proofs.Common.{◌∙◌, ◌≡◌, ◌≢◌, None, Some, ap, bytes_eq, cond, sym}
use Rattle.std.proofs.lemmas.Map.Text.{btree_map_updates_text}
use Rattle.std.specs.BTreeMap.{btree_map_len, get_by_text}
use Rattle.std.specs.Option.{option_copied_mut}
use Rattle.snap_counts.proofs.Reading.{AllValues-Sets, Sets-none, Sets-removed, Sets-written, read-Sets}
use Rattle.snap_lease.proofs.NumberLemmas.{no_names, none_either, not_both, number_among, number_in-set}
use Rattle.snap_lease.proofs.numbers.LeaseNumbers.take.Goals as goal

pub returns-in_default : goal.returns-in_default
returns-in_default c =
    let m = c.self.inside.map in
    let lease = c.args.lease.now in
    let absent : get_by_text m c.args.namespace.now ≡ None = sym c.get_mut.ensures.value ∙ ap option_copied_mut c.in_default.is in
    number_in-set m c.get_mut.follows.lender-at-none c.args.self.now c.args.namespace.now lease None None c.self.view_is
    (Sets-none m c.get_mut.follows.lender-at-none c.args.namespace.now absent c.get_mut.follows.holds-at-none)
    (λ q. none_either (bytes_eq q lease) (number_among q (get_by_text m c.args.namespace.now)) (ap (number_among q) absent))

pub invariant_of-self-then-is_empty : goal.invariant_of-self-then-is_empty
invariant_of-self-then-is_empty c =
    let m = c.self.inside.map in
    let names = c.in-Some.leases.now in
    let left = c.remove.new.self in
    let kept = Sets-written m (c.get_mut.follows.lender left) c.args.namespace.now names left c.in-Some.ensures.value (c.get_mut.follows.holds left).3 in
    let sets = Sets-removed m (c.get_mut.follows.lender left) c.remove-then-is_empty.new.self c.args.namespace.now (Some left) kept c.remove-then-is_empty.ensures.updates in
    AllValues-Sets (λ names. btree_map_len names ≢ 0) m c.remove-then-is_empty.new.self c.args.namespace.now None sets tt c.self.invariant

pub invariant_of-self-else-is_empty : goal.invariant_of-self-else-is_empty
invariant_of-self-else-is_empty c =
    let m = c.self.inside.map in
    let names = c.in-Some.leases.now in
    let left = c.remove.new.self in
    let sets = Sets-written m (c.get_mut.follows.lender left) c.args.namespace.now names left c.in-Some.ensures.value (c.get_mut.follows.holds left).3 in
    AllValues-Sets (λ names. btree_map_len names ≢ 0) m (c.get_mut.follows.lender left) c.args.namespace.now (Some left) sets (λ none. not_both c.is_empty.result c.if-is_empty.false (c.is_empty.ensures.1 none)) c.self.invariant

pub returns-then-is_empty : goal.returns-then-is_empty
returns-then-is_empty c =
    let m = c.self.inside.map in
    let names = c.in-Some.leases.now in
    let left = c.remove.new.self in
    let lease = c.args.lease.now in
    let kept = Sets-written m (c.get_mut.follows.lender left) c.args.namespace.now names left c.in-Some.ensures.value (c.get_mut.follows.holds left).3 in
    let sets = Sets-removed m (c.get_mut.follows.lender left) c.remove-then-is_empty.new.self c.args.namespace.now (Some left) kept c.remove-then-is_empty.ensures.updates in
    number_in-set m c.remove-then-is_empty.new.self c.args.self.now c.args.namespace.now lease None None c.self.view_is sets
    (λ q. sym (no_names q left (c.is_empty.ensures.0 c.if-is_empty.true)) ∙ read-Sets (λ o. o) names left lease None (btree_map_updates_text lease names left None c.remove.ensures.updates) q
    ∙ ap (λ o. cond (bytes_eq q lease) None (number_among q o)) c.in-Some.ensures.value)

pub returns-else-is_empty : goal.returns-else-is_empty
returns-else-is_empty c =
    let m = c.self.inside.map in
    let names = c.in-Some.leases.now in
    let left = c.remove.new.self in
    let lease = c.args.lease.now in
    let sets = Sets-written m (c.get_mut.follows.lender left) c.args.namespace.now names left c.in-Some.ensures.value (c.get_mut.follows.holds left).3 in
    number_in-set m (c.get_mut.follows.lender left) c.args.self.now c.args.namespace.now lease (Some left) None c.self.view_is sets
    (λ q. read-Sets (λ o. o) names left lease None (btree_map_updates_text lease names left None c.remove.ensures.updates) q
    ∙ ap (λ o. cond (bytes_eq q lease) None (number_among q o)) c.in-Some.ensures.value)
