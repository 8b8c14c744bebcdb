use Rattle.std.proofs.Common.{Some, ap, ◌∙◌}
use Rattle.snap_world.specs.World.{HandValue, with_hand}
use Rattle.snap_world.proofs.Putting.{put_lacks, put_may, put_stayed, put_went}
use Rattle.snap_world.proofs.hands.Hands.put_layer.Goals as goal

pub returns-clause-ok : goal.returns-clause-ok
returns-clause-ok g c =
    let found = c.in-Some.ensures in
    put_went _ _ _ _ c.args.layer c.in-Some.active _ found.0 c.put_layer-outcome.result
    (found.2, c.put.ensures ∙ ap (λ (h : HandValue). with_hand c.args.slot (Some h) c.take_unsealed.new.self) c.of.ensures) c.put_layer-outcome.ensures.ok

pub returns-clause-same : goal.returns-clause-same
returns-clause-same g c =
    let found = c.in-Some.ensures in
    put_stayed _ _ _ _ c.args.layer c.in-Some.active _ found.0 c.put_layer-outcome.result
    (found.2, c.put.ensures ∙ ap (λ (h : HandValue). with_hand c.args.slot (Some h) c.take_unsealed.new.self) c.of.ensures) c.put_layer-outcome.ensures.same

pub returns-clause-may : goal.returns-clause-may
returns-clause-may g c = put_may c.args.self.now c.args.slot c.args.layer c.in-Some.active c.in-Some.ensures.0 c.put_layer-outcome.result c.put_layer-outcome.ensures.covers

pub returns-clause-lacks : goal.returns-clause-lacks
returns-clause-lacks g c = put_lacks c.args.self.now c.args.slot c.args.layer c.in-Some.active c.in-Some.ensures.0 c.put_layer-outcome.result c.put_layer-outcome.ensures.lacks
