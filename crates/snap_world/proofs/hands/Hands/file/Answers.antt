use Rattle.std.proofs.Common.{Some, ap, ◌∙◌}
use Rattle.snap_world.specs.World.{HandValue, with_hand}
use Rattle.snap_world.proofs.Does.{file_moves}
use Rattle.snap_world.proofs.hands.Hands.file.Goals as goal

pub returns : goal.returns
returns g c b =
    let found = c.in-Some.ensures in
    file_moves b _ _ _ _ _ c.in-Some.active _ _ found.0 c.apply-outcome.ensures.ok c.apply-outcome.ensures.same c.apply-outcome.ensures.error c.apply-outcome.ensures.unchanged c.apply-outcome.ensures.first found.2
    (c.put.ensures ∙ ap (λ (h : HandValue). with_hand c.args.slot (Some h) c.take_unsealed.new.self) c.of.ensures)
