-- Which refusals and replies an entry can have, and which calls are plain.
use Rattle.snap_call.specs.declared.call.Call.{Call}
use Rattle.snap_call.specs.declared.call.Call.TheVariants as calls
use Rattle.snap_call.specs.declared.refusal.Refusal.{Refusal}
use Rattle.snap_call.specs.declared.refusal.Refusal.TheVariants.{JournalFull, OutOfMemory}
use Rattle.snap_call.specs.declared.reply.Reply.{Reply}
use Rattle.snap_call.specs.declared.reply.Reply.TheVariants.{Refused}

-- a refusal that leaves no entry
abbrev pub IsUnrecorded : Refusal → Type 0
IsUnrecorded JournalFull = Unit {0}
IsUnrecorded (OutOfMemory want) = Unit {0}
IsUnrecorded why = ⊥

-- a refusal that is recorded
abbrev pub IsRecorded : Refusal → Type 0
IsRecorded why = IsUnrecorded why → ⊥

-- a reply that can stand in an entry
abbrev pub IsInEntry : Reply → Type 0
IsInEntry (Refused why) = IsRecorded why
IsInEntry reply = Unit {0}

-- a call that changes nothing
abbrev pub IsAsk : Call → Type 0
IsAsk (calls.Stat namespace key) = Unit {0}
IsAsk (calls.Usage namespace key) = Unit {0}
IsAsk (calls.Mounts namespace key) = Unit {0}
IsAsk (calls.Walk namespace after most asked) = Unit {0}
IsAsk call = ⊥

-- a call that takes no snapshot out of its writer's hands, and puts none into them
abbrev pub IsPlain : Call → Type 0
IsPlain (calls.Stat namespace key) = Unit {0}
IsPlain (calls.Usage namespace key) = Unit {0}
IsPlain (calls.Mounts namespace key) = Unit {0}
IsPlain (calls.View namespace key parent labels) = Unit {0}
IsPlain (calls.Remove namespace key) = Unit {0}
IsPlain (calls.Update namespace key labels paths) = Unit {0}
IsPlain (calls.Walk namespace after most asked) = Unit {0}
IsPlain (calls.NamespaceCreate namespace limit) = Unit {0}
IsPlain (calls.NamespaceRemove namespace) = Unit {0}
IsPlain (calls.SetLimit namespace limit) = Unit {0}
IsPlain (calls.LeaseCreate namespace lease until) = Unit {0}
IsPlain (calls.LeaseAdd namespace lease name) = Unit {0}
IsPlain (calls.LeaseDrop namespace lease name) = Unit {0}
IsPlain (calls.LeaseRelease namespace lease) = Unit {0}
IsPlain (calls.Sweep namespace moment) = Unit {0}
IsPlain call = ⊥
