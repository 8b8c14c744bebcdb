use Rattle.std.proofs.Common.{ap, sym, ◌∙◌}
use Rattle.snap_world.specs.World.{WorldValue}
use Rattle.snap_session.proofs.Whole.{was_undone, went_on}
use Rattle.snap_session.proofs.batch.unless_stopped.Goals as goal

pub returns-in_default-clause-done : goal.returns-in_default-clause-done
returns-in_default-clause-done g c = went_on c.args.slot c.args.before c.args.world.now c.args.answer (sym c.stopped.ensures ∙ c.in_default.is)

pub returns-clause-done : goal.returns-clause-done
returns-clause-done g c =
    was_undone c.args.slot c.args.before c.args.world.now c.put_back.new.world c.args.answer c.came_to.result c.in-Some.refused (sym c.stopped.ensures ∙ c.in-Some.is) c.put_back.ensures c.came_to.ensures

pub returns-clause-opening : goal.returns-clause-opening
returns-clause-opening g c = ap (λ (w : WorldValue). w.opening) c.put_back.ensures
