use Rattle.std.proofs.Common.{Option, subst, sym, ◌∙◌}
use Rattle.std.specs.Prelude.{IfSome}
use Rattle.snap_layer.specs.Tree.{Tree}
use Rattle.snap_world.specs.Layers.{MayHave, open_layer_at}
use Rattle.snap_world.specs.World.{hand_at}
use Rattle.snap_session.proofs.Whole.{may_after, none_all, put_keeps, whole_some}
use Rattle.snap_session.proofs.batch.whole_batch.Goals as goal

pub returns-in_default-clause-done : goal.returns-in_default-clause-done
returns-in_default-clause-done g c =
    none_all c.charge_and_operate.result c.args.slot (open_layer_at c.args.slot c.args.world.now.hands) _ c.charge_and_operate.new.world (sym c.in_ok-copied.ensures.copy ∙ c.in_default.is) c.charge_and_operate.ensures.done

pub unless_stopped-requires : goal.unless_stopped-requires
unless_stopped-requires g c =
    may_after c.args.n c.args.namespace.now c.args.key.now c.args.slot c.args.id c.in-Some.layer c.args.need c.args.ops.now c.args.world.now c.charge_and_operate-2.new.world c.in-Ok.answer
    c.copy_layer.ensures.fits (subst (λ (o : Option Tree). IfSome o (λ layer. MayHave layer (hand_at c.args.slot c.args.world.now.hands))) c.in-Some.is c.in_ok-copied.ensures.may) c.in-Ok.ensures.done

pub returns-in-Ok-clause-done : goal.returns-in-Ok-clause-done
returns-in-Ok-clause-done g c =
    whole_some c.args.slot (open_layer_at c.args.slot c.args.world.now.hands) c.in-Some.layer _ (c.charge_and_operate-2.new.world, c.in-Ok.answer) c.unless_stopped.new.world c.unless_stopped.result
    (sym c.in_ok-copied.ensures.copy ∙ c.in-Some.is) c.in-Ok.ensures.done c.unless_stopped.ensures.done

pub returns-in-Err-clause-opening : goal.returns-in-Err-clause-opening
returns-in-Err-clause-opening g c =
    put_keeps c.put_layer-back.result c.charge_and_operate-2.new.world c.put_layer-back.new.self c.args.slot c.in-Some.layer c.put_layer-back.ensures.ok c.put_layer-back.ensures.same ∙ c.charge_and_operate-2.ensures.opening
