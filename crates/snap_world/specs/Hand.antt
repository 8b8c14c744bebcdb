-- What clauses see of a snapshot in the world's hands.
use Rattle.std.specs.Prelude.{true, false}
use Rattle.snap_book.specs.declared.active.Held.{Held}
use Rattle.snap_book.specs.declared.active.Held.TheVariants.{Active, Sealed}
use Rattle.snap_world.specs.World.{HandValue}

-- the snapshot, sealed or not
abbrev pub hand_of : {N : Type 0} → Held N → HandValue
hand_of (Active a) = record { snapshot = a; sealed = false }
hand_of (Sealed a) = record { snapshot = a; sealed = true }
