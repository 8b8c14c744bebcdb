use Rattle.std.proofs.Common.{◌∙◌}
use Rattle.snap_durable.proofs.step.replace.Goals as goal

pub returns-in-Ok-clause-written : goal.returns-in-Ok-clause-written
returns-in-Ok-clause-written g c = λ h v can.
    c.coming.ensures.written h v (c.split.ensures.coming ∙ (c.in-Ok.ensures.begun (c.split.ensures.honest (c.coming.ensures.clean h))).1) can
