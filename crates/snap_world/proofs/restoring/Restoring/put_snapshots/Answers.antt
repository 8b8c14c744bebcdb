use Rattle.std.proofs.Common.{◌≡◌, [], ◌∷◌, List, length, arith, rules, sym, ap, ◌∙◌}
use Rattle.std.specs.Prelude.{Err}
use Rattle.std.proofs.lemmas.List.{nil_from_length}
use Rattle.std.specs.Vec.Iter.{into_iter_items}
use Rattle.snap_world.specs.declared.fault.RestoreFault.TheVariants.{Snapshot}
use Rattle.snap_world.specs.declared.save.SavedSnapshot.{SavedSnapshot}
use Rattle.snap_world.specs.Restored.{put_snapshots_from}
use Rattle.snap_world.specs.Saved.{put_snapshot}
use Rattle.snap_world.proofs.InTurn.{no_snapshots, part_refused, snapshot_put, snapshot_refused}
use Rattle.snap_world.proofs.restoring.Restoring.put_snapshots.Goals as goal

pub returns-in-Err-clause-refused : goal.returns-in-Err-clause-refused
returns-in-Err-clause-refused g c =
    let at = c.loop-snapshot.place in
    let was = c.loop-snapshot.self in
    let x = c.in-Some.snapshot in
    let why = c.in-Err.why in
    let rest : List SavedSnapshot = into_iter_items c.next.new.self in
    let left : into_iter_items c.loop-snapshot.snapshot-iterator ≡ x ∷ rest = search rules in
    part_refused (put_snapshots_from 0 c.args.self.now c.args.snapshots.items) (put_snapshot was x.saved x.hand ≡ Err why) why (Snapshot at why) c.fault_of.result
    (λ e. sym c.loop-snapshot.invariant.left ∙ ap (put_snapshots_from at was) left ∙ snapshot_refused at was x rest why e) c.in-Err.ensures.refused c.fault_of.ensures.part c.fault_of.ensures.memory

pub loop-snapshot-preserved : goal.loop-snapshot-preserved
loop-snapshot-preserved g c =
    let at = c.loop-snapshot.place in
    let was = c.loop-snapshot.self in
    let x = c.in-Some.snapshot in
    let rest : List SavedSnapshot = into_iter_items c.next.new.self in
    let left : into_iter_items c.loop-snapshot.snapshot-iterator ≡ x ∷ rest = search rules in
    record {
      left = sym (snapshot_put at was x rest c.put.new.self c.in_default.ensures.ok) ∙ ap (put_snapshots_from at was) (sym left) ∙ c.loop-snapshot.invariant.left;
      count = omega (arith, c.loop-snapshot.invariant.count, c.in-Some.ensures.steps.1, ap length left);
      place = omega (arith, c.loop-snapshot.invariant.place, ap length left);
    }

pub returns-clause-ok : goal.returns-clause-ok
returns-clause-ok g c =
    let at = c.loop-snapshot.place in
    let was = c.loop-snapshot.self in
    let none : into_iter_items c.loop-snapshot.snapshot-iterator ≡ [] = nil_from_length (into_iter_items c.loop-snapshot.snapshot-iterator) (omega (arith, c.loop-snapshot.invariant.count, c.in-None.ensures.steps.0)) in
    sym c.loop-snapshot.invariant.left ∙ ap (put_snapshots_from at was) none ∙ no_snapshots at was
