use Rattle.std.proofs.Common.{sym, ap, ◌∙◌, arith, []}
use Rattle.std.specs.Ordering.{is_le}
use Rattle.std.proofs.lemmas.Map.Keys.{sorted_from_all_adjacent}
use Rattle.snap_layer.proofs.Paths.{path_cmp_total}
use Rattle.snap_saved.proofs.InTurn.{order_begins, order_breaks, order_ends, order_goes_on}
use Rattle.snap_saved.proofs.Rising.{neighbours, unordered}
use Rattle.snap_saved.proofs.order.unsorted.Goals as goal

pub loop-place-init : goal.loop-place-init
loop-place-init c = record { rises = λ k below. absurd (omega (arith, below)); left = order_begins c.args.paths.now }

pub loop-place-preserved : goal.loop-place-preserved
loop-place-preserved c =
    let after = ap is_le (sym c.cmp.ensures) ∙ sym c.is_le.ensures ∙ c.if-is_le.false in
    record {
      rises = neighbours c.args.paths.now c.loop-place.place c.index-paths-place-in-loop-place.result c.index-paths-place.result (omega arith) (omega arith) c.index-paths-place-in-loop-place.is c.index-paths-place.is after c.loop-place.invariant.rises;
      left = order_goes_on c.args.paths.now c.loop-place.place c.index-paths-place-in-loop-place.result c.index-paths-place.result (omega arith) (omega arith) c.index-paths-place-in-loop-place.is c.index-paths-place.is c.loop-place.invariant.left after;
    }

pub returns-then-is_le-clause-sorted : goal.returns-then-is_le-clause-sorted
returns-then-is_le-clause-sorted c = λ sorted. unordered c.args.paths.now c.loop-place.place c.index-paths-place-in-loop-place.result c.index-paths-place.result (omega arith) (omega arith) c.index-paths-place-in-loop-place.is c.index-paths-place.is
    (ap is_le (sym c.cmp.ensures) ∙ sym c.is_le.ensures ∙ c.if-is_le.true) sorted

pub returns-then-is_le-clause-first : goal.returns-then-is_le-clause-first
returns-then-is_le-clause-first c = sym (order_breaks c.args.paths.now c.loop-place.place c.index-paths-place-in-loop-place.result c.index-paths-place.result (omega arith) (omega arith) c.index-paths-place-in-loop-place.is c.index-paths-place.is c.loop-place.invariant.left
    (ap is_le (sym c.cmp.ensures) ∙ sym c.is_le.ensures ∙ c.if-is_le.true))

pub returns-clause-sorted : goal.returns-clause-sorted
returns-clause-sorted c = sorted_from_all_adjacent path_cmp_total c.args.paths.now [] (λ k lt. c.loop-place.invariant.rises k (omega (arith, lt)))

pub returns-clause-first : goal.returns-clause-first
returns-clause-first c = sym (order_ends c.args.paths.now c.loop-place.place _ (omega arith) c.loop-place.invariant.left)
