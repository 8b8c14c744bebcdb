-- Who has a record.
use Rattle.std.specs.Prelude.{◌≡◌, None}
use Rattle.std.specs.Arc.{arc_value}
use Rattle.snap_record.specs.declared.record.Record.{Record}
use Rattle.snap_call.specs.Indexes.{slot_of}
use Rattle.snap_call.specs.declared.held_record.Holding.{Holding}
use Rattle.snap_call.specs.declared.held_record.Holding.TheVariants.{Own, Shared}

-- the record
abbrev pub record_held : Holding → Record
record_held (Own boxed) = boxed.value
record_held (Shared shared) = arc_value shared

-- one that may have several holders isn't active
abbrev pub IsHolding : Holding → Type 0
IsHolding (Own boxed) = Unit {0}
IsHolding (Shared shared) = slot_of (arc_value shared).content ≡ None
