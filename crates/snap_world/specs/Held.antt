-- What is held of a world for a save.
use Rattle.std.specs.Prelude.{List, Option}
use Rattle.snap_record.specs.declared.record.Record.{Record}
use Rattle.snap_call.specs.Saved.{saved_content, saved_of}
use Rattle.snap_call.specs.declared.config.Namespace.{Namespace}
use Rattle.snap_world.specs.declared.save.HeldSnapshot.{HeldSnapshot}
use Rattle.snap_world.specs.declared.save.SavedSnapshot.{SavedSnapshot}
use Rattle.snap_world.specs.Saved.{saved_hand}
use Rattle.snap_world.specs.World.{HandValue}

-- a snapshot with its hand
abbrev pub held_of : List (Option HandValue) → Record → HeldSnapshot
held_of hands r = record { held = r; hand = saved_hand (saved_content r.content) hands }

-- what is saved of it, of a store with these namespaces
abbrev pub held_snapshot : List Namespace → HeldSnapshot → SavedSnapshot
held_snapshot ns s = record { saved = saved_of ns s.held; hand = s.hand }
