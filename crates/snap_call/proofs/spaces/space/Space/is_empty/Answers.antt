use Rattle.std.proofs.Common.{◌∙◌, sym}
use Rattle.snap_call.proofs.Groups.{groups-empty, groups-none}
use Rattle.snap_call.proofs.spaces.space.Space.is_empty.Goals as goal

pub returns : goal.returns
returns c = (
  λ empty. sym c.self.view_is ∙ groups-none c.self.inside.map.entries (c.is_empty.ensures.0 empty),
  λ none. c.is_empty.ensures.1 (groups-empty c.self.inside.map.entries c.self.invariant.0.full (c.self.view_is ∙ none)),
)
