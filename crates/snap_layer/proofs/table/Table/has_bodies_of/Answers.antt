use Rattle.snap_layer.proofs.Housed.{are_housed}
use Rattle.snap_layer.proofs.table.Table.has_bodies_of.Goals as goal

pub has_same_bodies-requires-clause-bodies : goal.has_same_bodies-requires-clause-bodies
has_same_bodies-requires-clause-bodies c = are_housed c.self.inside.slots c.self.inside.places.entries c.self.invariant.filed.sorted c.self.invariant.filed.housed

pub has_same_bodies-requires-clause-others : goal.has_same_bodies-requires-clause-others
has_same_bodies-requires-clause-others c = are_housed c.other.inside.slots c.other.inside.places.entries c.other.invariant.filed.sorted c.other.invariant.filed.housed
