-- What clauses see of an entry in the hands of its holders.
use Rattle.std.specs.Arc.{arc_value}
use Rattle.snap_call.specs.declared.entry.Entry.{Entry}
use Rattle.snap_call.specs.declared.shared_entry.Holder.{Holder}
use Rattle.snap_call.specs.declared.shared_entry.Holder.TheVariants.{Counted, Own}

-- the entry, wherever it stands
abbrev pub held_in : Holder → Entry
held_in (Counted entry) = arc_value entry
held_in (Own entry) = entry.value
