use Rattle.std.proofs.Common.{sym, ◌∙◌}
use Rattle.snap_session.proofs.Carrying.{none_carried}
use Rattle.snap_session.proofs.opened.Opened.new.Goals as goal

pub invariant_of-result : goal.invariant_of-result
invariant_of-result g c = c.new.ensures ∙ sym (none_carried c.args.world.opening c.requires)
