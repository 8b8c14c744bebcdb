use Rattle.test_tables.proofs.on_layer.standing.Goals as goal

pub inodes_without-requires : goal.inodes_without-requires
inodes_without-requires c = (c.has_place-has_place.ensures.place.0 c.if-has_place.true).clear
