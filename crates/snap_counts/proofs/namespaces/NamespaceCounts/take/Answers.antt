use Rattle.std.proofs.Common.{◌∙◌, ◌≡◌, ◌-◌, ℕ, Bool, true, false, [], None, Some, ap, arith, sym, unwrap_or, bytes_eq}
use Rattle.std.specs.BTreeMap.{get_by_text}
use Rattle.std.specs.Option.{option_copied_mut}
use Rattle.snap_counts.specs.Counts.{count_in, HasCounted}
use Rattle.snap_counts.proofs.Lists.{one_if}
use Rattle.snap_counts.proofs.Reading.{AllValues-Sets, Sets-none, Sets-removed, Sets-written, within_step}
use Rattle.snap_counts.proofs.namespaces.NamespaceCounts.take.Goals as goal

none_less : (n b : ℕ) → n ≡ 0 → 0 ≡ n - b
none_less n b is = omega arith

pub returns-in_default : goal.returns-in_default
returns-in_default c =
    let m = c.self.inside.map in
    let absent : get_by_text m c.args.namespace.now ≡ None = sym c.get_mut.ensures.value ∙ ap option_copied_mut c.in_default.is in
    within_step (λ a b. a - b) (λ a. omega arith) m c.get_mut.follows.lender-at-none c.args.self.now c.args.namespace.now c.args.text.now None c.self.view_is
    (Sets-none m c.get_mut.follows.lender-at-none c.args.namespace.now absent c.get_mut.follows.holds-at-none)
    (λ q. none_less (count_in q (unwrap_or (get_by_text m c.args.namespace.now) [])) (one_if (bytes_eq q c.args.text.now)) (ap (λ o. count_in q (unwrap_or o [])) absent))

pub invariant_of-self-then-is_empty : goal.invariant_of-self-then-is_empty
invariant_of-self-then-is_empty c =
    let m = c.self.inside.map in
    let left = c.take.new.self in
    let kept = Sets-written m (c.get_mut.follows.lender left) c.args.namespace.now c.in-Some.counts.now left c.in-Some.ensures.value (c.get_mut.follows.holds left).3 in
    let sets = Sets-removed m (c.get_mut.follows.lender left) c.remove.new.self c.args.namespace.now (Some left) kept c.remove.ensures.updates in
    AllValues-Sets HasCounted m c.remove.new.self c.args.namespace.now None sets tt c.self.invariant

not_both : (b : Bool) → b ≡ false → b ≡ true → ⊥
not_both b not_so so = let both : true ≡ false = sym so ∙ not_so in cc

pub invariant_of-self-else-is_empty : goal.invariant_of-self-else-is_empty
invariant_of-self-else-is_empty c =
    let m = c.self.inside.map in
    let left = c.take.new.self in
    let sets = Sets-written m (c.get_mut.follows.lender left) c.args.namespace.now c.in-Some.counts.now left c.in-Some.ensures.value (c.get_mut.follows.holds left).3 in
    AllValues-Sets HasCounted m (c.get_mut.follows.lender left) c.args.namespace.now (Some left) sets (λ none. not_both c.is_empty.result c.if-is_empty.false (c.is_empty.ensures.1 none)) c.self.invariant

pub returns-then-is_empty : goal.returns-then-is_empty
returns-then-is_empty c =
    let m = c.self.inside.map in
    let left = c.take.new.self in
    let kept = Sets-written m (c.get_mut.follows.lender left) c.args.namespace.now c.in-Some.counts.now left c.in-Some.ensures.value (c.get_mut.follows.holds left).3 in
    let sets = Sets-removed m (c.get_mut.follows.lender left) c.remove.new.self c.args.namespace.now (Some left) kept c.remove.ensures.updates in
    within_step (λ a b. a - b) (λ a. omega arith) m c.remove.new.self c.args.self.now c.args.namespace.now c.args.text.now None c.self.view_is sets
    (λ q. sym (c.is_empty.ensures.0 c.if-is_empty.true q) ∙ c.take.ensures q ∙ ap (λ o. count_in q (unwrap_or o []) - one_if (bytes_eq q c.args.text.now)) c.in-Some.ensures.value)

pub returns-else-is_empty : goal.returns-else-is_empty
returns-else-is_empty c =
    let m = c.self.inside.map in
    let left = c.take.new.self in
    let sets = Sets-written m (c.get_mut.follows.lender left) c.args.namespace.now c.in-Some.counts.now left c.in-Some.ensures.value (c.get_mut.follows.holds left).3 in
    within_step (λ a b. a - b) (λ a. omega arith) m (c.get_mut.follows.lender left) c.args.self.now c.args.namespace.now c.args.text.now (Some left) c.self.view_is sets
    (λ q. c.take.ensures q ∙ ap (λ o. count_in q (unwrap_or o []) - one_if (bytes_eq q c.args.text.now)) c.in-Some.ensures.value)
