use Rattle.std.proofs.Common.{◌∙◌, ◌≡◌, ◌+◌, Bool, Some, true, false, ap, arith, get_or, length, slice_get, subst, sym}
use Rattle.std.proofs.lemmas.List.{with_items_is}
use Rattle.std.proofs.lemmas.Option.{slice_get-get_or}
use Rattle.snap_lease.proofs.Walks.{IsMidSweep, sweep_walks, sweep_passes, sweep_ends}
use Rattle.snap_lease.proofs.sweep.sweep_set.Goals as goal
use Rattle.snap_lease.proofs.sweep.sweep_set.Goals.{then-is_root, else-is_root}

-- the test of a root reads the list
root_read : (c : goal.Joined-is_root) (b : Bool) → get_or c.args.roots.now c.loop-place.place false ≡ b → slice_get c.args.roots.now c.loop-place.place ≡ Some b
root_read c b is = slice_get-get_or c.args.roots.now c.loop-place.place false (omega arith) ∙ ap Some is

pub loop-place-preserved : goal.loop-place-preserved
loop-place-preserved c = elim c.if-is_root.branch [
  | then-is_root w ↦
      let same : length w.take_out_walk.new.swept ≡ length w.as_mut_slice.result.now = omega (arith, w.take_out_walk.auto.swept) in
      let items : c.if-is_root.swept.items ≡ w.take_out_walk.new.swept =
      ap (λ v. v.items) w.swept-is ∙ with_items_is c.loop-place.swept w.take_out_walk.new.swept (same ∙ w.as_mut_slice.ensures.len) in
      subst (λ s. IsMidSweep c.args.parents.now c.args.roots.now s (c.loop-place.place + 1)) (sym items)
      (sweep_walks c.args.parents.now c.args.roots.now w.as_mut_slice.result.now w.take_out_walk.new.swept c.loop-place.place
      (root_read c true w.if-is_root.true) same w.take_out_walk.ensures
      (subst (λ s. IsMidSweep c.args.parents.now c.args.roots.now s c.loop-place.place) (sym w.as_mut_slice.ensures.value) c.loop-place.invariant))
  | else-is_root w ↦
      subst (λ s. IsMidSweep c.args.parents.now c.args.roots.now s (c.loop-place.place + 1)) (ap (λ v. v.items) (sym w.swept-is))
      (sweep_passes c.args.parents.now c.args.roots.now c.loop-place.swept.items c.loop-place.place (root_read c false w.if-is_root.false) c.loop-place.invariant)
]

pub returns : goal.returns
returns c = sweep_ends c.args.parents.now c.args.roots.now c.loop-place.swept.items c.loop-place.place (omega arith) c.loop-place.invariant
