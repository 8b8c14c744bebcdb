-- What of a store moves to another one; cited by the public clauses of `move_log` and `move_saved`.
use Rattle.std.specs.Prelude.{◌≡◌, ℕ, ◌≤◌, Bool, true, false, List, Option, None, Some, Ok, Err, bytes_eq, filter, is_some, length, option_map, unwrap_or, ⊤}
use Rattle.std.specs.Option.{option_map_or}
use Rattle.std.specs.Io.KnownBytes.{Appends}
use Rattle.snap_record.specs.Labels.{Bytes}
use Rattle.snap_call.specs.State.{place_of}
use Rattle.snap_call.specs.declared.config.Config.{Config}
use Rattle.snap_call.specs.declared.config.Namespace.{Namespace}
use Rattle.snap_world.specs.Restored.{SavedWorldValue, restored, saved_world}
use Rattle.snap_world.specs.World.{WorldValue}
use Rattle.snap_checkpoint.specs.Lines.{store_lines}
use Rattle.snap_marks.specs.Sums.{marks_agree}
use Rattle.snap_pieces.specs.declared.line.Line.{Line}
use Rattle.snap_lines.specs.declared.stop.Stop.{Stop}
use Rattle.snap_lines.specs.declared.stop.Stop.TheVariants.{InputFailed, Line as AtLine, OutOfMemory, OutputFailed}
use Rattle.snap_session.specs.Kept.{KeptValue, idle_kept, served_kept}
use Rattle.snap_session.specs.Opened.{ScriptValue, only_store}
use Rattle.snap_session.specs.Resumed.{resumed_kept}
use Rattle.snap_session.specs.Restoring.{opened_again}
use Rattle.snap_durable.specs.Checked.{IsFirstFault, saved_run}
use Rattle.snap_durable.specs.Checkpoints.{has_long, saved_text}
use Rattle.snap_durable.specs.Holdings.{contents_of, holding_at}
use Rattle.snap_durable.specs.Served.{IsReplayed, text_limit}
use Rattle.snap_durable.specs.declared.holding.Holding.{Holding}
use Rattle.snap_durable.specs.declared.moved.Move.{Move}
use Rattle.snap_durable.specs.declared.moved.Unmoved.{Unmoved}
use Rattle.snap_durable.specs.declared.moved.Unmoved.TheVariants as whys
use Rattle.snap_durable.specs.declared.restart.ReplayError.{ReplayError}
use Rattle.snap_durable.specs.declared.restart.ReplayError.TheVariants as replays
use Rattle.snap_durable.specs.declared.saved.Unwritten.{Unwritten}
use Rattle.snap_durable.specs.declared.saved.Unwritten.TheVariants as parts

-- ---- the saved store

-- a namespace of this name moves: it is the one that is asked for, or all are
abbrev pub moves : Move → Bytes → Bool
moves m name = option_map_or (λ one. bytes_eq one name) m.namespace true

-- those that belong to a namespace that moves
abbrev pub moving : {X : Type 0} → Move → (X → Bytes) → List X → List X
moving m namespace xs = filter (λ x. moves m (namespace x)) xs

-- the configuration with the root that is given, if one is, and the namespaces that move
abbrev pub moved_config : Move → Config → Config
moved_config m c = record c { root = unwrap_or m.root c.root; namespaces = moving m (λ n. n.name) c.namespaces }

-- the saved store with these, their snapshots and their leases; all numbers and ids are as they were
abbrev pub moved_store : Move → SavedWorldValue → SavedWorldValue
moved_store m w = record w { config = moved_config m w.config; snapshots = moving m (λ s. s.saved.namespace) w.snapshots; leases = moving m (λ l. l.namespace) w.leases }

-- what a world has of each namespace: its charge and its limit, and how many snapshots of each kind and leases
abbrev pub holdings_of : WorldValue → List (Bytes × Holding)
holdings_of w = (contents_of holding_at w).namespaces

-- ---- its lines

-- the moved store of a world has of each namespace what the world has
pub record IsSameThere (m : Move) (w : WorldValue) : Type 0 where
  pub there : WorldValue
  pub restores : restored (moved_store m (saved_world w)) ≡ Ok there
  pub same : holdings_of there ≡ moving m (λ h. h.0) (holdings_of w)

-- the lines of the moved store of a world were written, which has the same; a server makes it of them
pub record HasMoved (m : Move) (w : WorldValue) (before after : Option (List ℕ)) : Type 0 where
  pub lines : List Line
  pub are : lines ≡ store_lines (moved_store m (saved_world w))
  pub written : Appends before after (saved_text lines)
  pub stands : IsSameThere m w
  pub makes : length (saved_text lines) ≤ text_limit → (again : KeptValue) → IsReplayed served_kept idle_kept (saved_text lines) again → again.server.stepped.script ≡ only_store (opened_again stands.there).0

-- the namespace that is asked for is there, if one is
abbrev pub has_moving : Move → List Namespace → Bool
has_moving m ns = option_map_or (λ name. is_some (place_of name ns)) m.namespace true

-- the moved store has of a namespace what the world hasn't
pub record IsChanged (m : Move) (w : WorldValue) : Type 0 where
  pub there : WorldValue
  pub restores : restored (moved_store m (saved_world w)) ≡ Ok there
  pub other : holdings_of there ≡ moving m (λ h. h.0) (holdings_of w) → ⊥

-- it stopped, but not at a line
abbrev pub IsAtNoLine : Stop → Type 0
IsAtNoLine (AtLine fault) = ⊥
IsAtNoLine InputFailed = ⊤
IsAtNoLine OutputFailed = ⊤
IsAtNoLine (OutOfMemory want) = ⊤

-- not all lines were written of a world
abbrev pub IsUnmoved : Move → WorldValue → Unmoved → Type 0
IsUnmoved m w (whys.Io error) = ⊥
IsUnmoved m w (whys.Stopped stop) = IsAtNoLine stop
IsUnmoved m w (whys.Differs sums) = ⊥
IsUnmoved m w whys.NoStore = ⊥
IsUnmoved m w whys.NoNamespace = has_moving m w.state.namespaces ≡ false
IsUnmoved m w (whys.Unfit fault) = restored (moved_store m (saved_world w)) ≡ Err fault
IsUnmoved m w whys.Changed = IsChanged m w
IsUnmoved m w whys.TooLong = has_long (store_lines (moved_store m (saved_world w))) ≡ true

-- not all of these lines were written
abbrev pub IsUnwrittenOf : List Line → Unmoved → Type 0
IsUnwrittenOf lines (whys.Stopped stop) = IsAtNoLine stop
IsUnwrittenOf lines whys.TooLong = has_long lines ≡ true
IsUnwrittenOf lines why = ⊥

-- why a part of them isn't made: no write has failed
abbrev pub IsUnfilled : Unwritten → Type 0
IsUnfilled (parts.OutOfMemory want) = ⊤
IsUnfilled parts.TooLong = ⊤
IsUnfilled (parts.Io error) = ⊥

-- the same as why not all were written
abbrev pub unfilled : Unwritten → Unmoved
unfilled (parts.OutOfMemory want) = whys.Stopped (OutOfMemory want)
unfilled parts.TooLong = whys.TooLong
unfilled (parts.Io error) = whys.Io error

-- a log wasn't carried out
abbrev pub unreplayed : ReplayError → Unmoved
unreplayed (replays.Io error) = whys.Io error
unreplayed (replays.Stopped stop) = whys.Stopped stop

-- but where a run stopped or a line is too long, nothing was written
abbrev pub IsSilent : Unmoved → Option (List ℕ) → Option (List ℕ) → Type 0
IsSilent (whys.Stopped stop) before after = ⊤
IsSilent whys.TooLong before after = ⊤
IsSilent why before after = after ≡ before

-- ---- of a script

-- the world of its store, where one stands
abbrev pub world_in : ScriptValue → Option WorldValue
world_in s = option_map (λ opened. opened.world) s.store

-- the lines of its store were written
abbrev pub HasMovedStore : Move → Option WorldValue → Option (List ℕ) → Option (List ℕ) → Type 0
HasMovedStore m None before after = ⊥
HasMovedStore m (Some w) before after = HasMoved m w before after

-- or not all of them
abbrev pub IsUnmovedStore : Move → Option WorldValue → Unmoved → Type 0
IsUnmovedStore m None why = why ≡ whys.NoStore
IsUnmovedStore m (Some w) why = IsUnmoved m w why

-- ---- of a log

-- a log of this text was carried out from no store on, its marks agree, and the lines of its store were written
pub record IsLogMoved (m : Move) (text : List ℕ) (before after : Option (List ℕ)) : Type 0 where
  pub value : KeptValue
  pub replayed : IsReplayed resumed_kept idle_kept text value
  pub agrees : marks_agree value.sums ≡ true
  pub moved : HasMovedStore m (world_in value.server.stepped.script) before after

-- of what lines have made not all lines were written: marks don't agree, or so of its store
abbrev pub IsUnmovedBy : Move → KeptValue → Unmoved → Type 0
IsUnmovedBy m v (whys.Io error) = ⊥
IsUnmovedBy m v (whys.Differs sums) = (sums ≡ v.sums) × (marks_agree v.sums ≡ false)
IsUnmovedBy m v why = (marks_agree v.sums ≡ true) × IsUnmovedStore m (world_in v.server.stepped.script) why

-- a text has made that, where it was carried out
abbrev pub HasUnmoved : Move → List ℕ → Unmoved → Type 0
HasUnmoved m text why = (v : KeptValue) × IsReplayed resumed_kept idle_kept text v × IsUnmovedBy m v why

-- not all lines were written of a log: it wasn't carried out, or so of what it has made
abbrev pub IsLogUnmoved : Move → List ℕ → Unmoved → Type 0
IsLogUnmoved m text (whys.Io error) = ⊤
IsLogUnmoved m text (whys.Stopped stop) = ⊤
IsLogUnmoved m text why = HasUnmoved m text why

-- ---- of a saved store

-- no line of a saved store has a fault or is refused, and the lines of the store that they make were written
pub record IsSavedMoved (m : Move) (bytes : List ℕ) (before after : Option (List ℕ)) : Type 0 where
  pub whole : (saved_run bytes).fault ≡ None
  pub moved : HasMovedStore m (world_in (saved_run bytes).value.stepped.script) before after

-- not all lines were written: a line has a fault or is refused, or so of the store
abbrev pub IsSavedUnmoved : Move → List ℕ → Unmoved → Type 0
IsSavedUnmoved m bytes (whys.Stopped stop) = IsFirstFault bytes stop
IsSavedUnmoved m bytes why = ((saved_run bytes).fault ≡ None) × IsUnmovedStore m (world_in (saved_run bytes).value.stepped.script) why
