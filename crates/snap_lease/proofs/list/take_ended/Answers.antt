use Rattle.std.proofs.Common.{◌∙◌, ◌≡◌, ◌∷◌, ◌&&◌, List, [], None, true, false, cond, ap, arith, subst, sym}
use Rattle.std.proofs.lemmas.Map.Iter.{rest_all, rest_more}
use Rattle.std.specs.List.{AllByRecursion, list_any}
use Rattle.std.specs.Map.Iter.{deref}
use Rattle.snap_lease.specs.Lease.{Lease, NamesOnce, is_lease}
use Rattle.snap_lease.specs.Leases.{has_ended}
use Rattle.snap_lease.proofs.NumberLemmas.{uncounted-ahead, uncounted-kept, unnumbered-ahead, unnumbered-kept}
use Rattle.snap_counts.specs.Counts.{count_within}
use Rattle.snap_lease.specs.Numbers.{number_in}
use Rattle.snap_lease.proofs.list.take_ended.Goals.{else-is_of-via-then-is_of+else-not-is_live, else-is_of-via-else-is_of}
use Rattle.snap_lease.proofs.list.take_ended.Goals as goal

pub loop-lease-preserved-then-not-is_live : goal.loop-lease-preserved-then-not-is_live
loop-lease-preserved-then-not-is_live c =
    let x = c.in-Some.lease.now in
    let test = has_ended c.args.namespace.now c.args.now in
    let left = c.loop-lease.lease-iterator in
    let rest = c.next.new.self in
    let is : left ≡ x ∷ rest = rest_more deref left rest c.next.result c.in-Some.lease c.in-Some.is c.next.ensures.steps in
    let passes : test x ≡ true = grind arith in (
      (subst (AllByRecursion NamesOnce) is c.loop-lease.invariant.0).1,
      (λ space name. uncounted-ahead test x left rest c.loop-lease.counts c.take_counts.new.counts space name _ is passes c.take_counts.ensures (c.loop-lease.invariant.1 space name)),
      (λ space name. unnumbered-ahead test x left rest c.loop-lease.numbers c.take_number.new.numbers space name _ is passes (c.take_number.ensures space name) (c.loop-lease.invariant.2 space name)),
    )

pub loop-lease-preserved : goal.loop-lease-preserved
loop-lease-preserved c =
    let x = c.in-Some.lease.now in
    let test = has_ended c.args.namespace.now c.args.now in
    let left = c.loop-lease.lease-iterator in
    let rest = c.next.new.self in
    let is : left ≡ x ∷ rest = rest_more deref left rest c.next.result c.in-Some.lease c.in-Some.is c.next.ensures.steps in
    let stays : test x ≡ false = elim c.else-is_of.branch [ else-is_of-via-then-is_of+else-not-is_live w ↦ grind arith | else-is_of-via-else-is_of w ↦ grind arith ] in (
      (subst (AllByRecursion NamesOnce) is c.loop-lease.invariant.0).1,
      (λ space name. uncounted-kept test x left rest (count_within space name c.loop-lease.counts) space name _ is stays (c.loop-lease.invariant.1 space name)),
      (λ space name. unnumbered-kept test x left rest (number_in space name c.loop-lease.numbers) space name _ is stays (c.loop-lease.invariant.2 space name)),
    )

pub returns-clause-numbered : goal.returns-clause-numbered
returns-clause-numbered c = λ space name.
    let left = c.loop-lease.lease-iterator in
    let none : left ≡ [] = rest_all deref left c.next.new.self c.next.result c.in-None.is c.next.ensures.steps in
    ap (λ (ls : List Lease). cond (list_any (λ k. has_ended c.args.namespace.now c.args.now k && is_lease space name k) ls) None (number_in space name c.loop-lease.numbers)) (sym none)
    ∙ c.loop-lease.invariant.2 space name
