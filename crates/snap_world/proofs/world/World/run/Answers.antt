use Rattle.std.proofs.Common.{rules, arith, ◌≡◌, ◌++◌, ◌∷◌, List, append_assoc, length, sym, ap, ◌∙◌}
use Rattle.std.specs.Vec.Iter.{into_iter_items}
use Rattle.snap_world.specs.declared.step.Step.{Step}
use Rattle.snap_world.proofs.Running.{runs_step}
use Rattle.snap_world.proofs.world.World.run.Goals as goal

pub loop-step-preserved : goal.loop-step-preserved
loop-step-preserved g c =
    let was = c.loop-step.invariant in
    let p = c.push_reserved.ensures in
    let left : into_iter_items c.loop-step.step-iterator ≡ c.in-Some.step ∷ into_iter_items c.next.new.self = search rules in
    record {
      runs = runs_step _ _ _ _ _ _ _ _ was.runs c.take_step.ensures.moves c.take_step.ensures.fits p.items;
      steps = append_assoc c.loop-step.yielded _ _ ∙ (ap (λ (steps : List Step). c.loop-step.yielded ++ steps) (sym left) ∙ was.steps);
      room = omega (arith, was.room, p.len, p.capacity, ap length left);
    }
