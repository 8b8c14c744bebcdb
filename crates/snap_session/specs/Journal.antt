-- The round's entries, all or those of a namespace; the snapshots that were active when it began are given beside the world.
use Rattle.std.specs.Prelude.{ℕ, ◌-◌, ◌==◌, Bool, true, false, if◌then◌else◌, List, [], ◌∷◌, length, map, slice_get, Option, None, Some, is_some, option_and_then}
use Rattle.std.specs.Option.{option_map, option_map_or, option_or}
use Rattle.snap_record.specs.Labels.{Bytes}
use Rattle.snap_call.specs.Forms.{is_page}
use Rattle.snap_call.specs.State.{place_of}
use Rattle.snap_call.specs.declared.call.Call.{Call}
use Rattle.snap_call.specs.declared.call.Call.TheVariants as calls
use Rattle.snap_call.specs.declared.entry.Entry.{Entry}
use Rattle.snap_call.specs.declared.reply.Reply.{Reply}
use Rattle.snap_call.specs.declared.reply.Reply.TheVariants as replies
use Rattle.snap_call.specs.declared.refusal.Refusal.TheVariants.{BadArgument, NoNamespace}
use Rattle.snap_history.specs.History.{entries_from, history_page, history_since, namespace_in}
use Rattle.snap_history.specs.declared.info.EntryInfo.{EntryInfo}
use Rattle.snap_world.specs.World.{WorldValue}
use Rattle.snap_values.specs.Calls.{call_line}
use Rattle.snap_script.specs.declared.answer.JournalEntry.{JournalEntry}
use Rattle.snap_script.specs.declared.answer.Answer.{Answer}
use Rattle.snap_script.specs.declared.answer.Answer.TheVariants as answers
use Rattle.snap_session.specs.declared.carried.Carried.{Carried}
use Rattle.snap_session.specs.declared.carried.SnapshotName.{SnapshotName}
use Rattle.snap_session.specs.Carried.{carried_name}
use Rattle.snap_session.specs.Found.{refusal_answer}

-- the name of the snapshot of this id, where the call has prepared it
abbrev pub name_by : ℕ → Call → Reply → Option SnapshotName
name_by id (calls.Prepare namespace key parent labels) (replies.Prepared made slot chain) = if made == id then Some (record { namespace = namespace; key = key }) else None
name_by id call reply = None

-- the name that it has where one of the entries has prepared it
abbrev pub name_among : ℕ → List Entry → Option SnapshotName
name_among id [] = None
name_among id (e ∷ es) = option_or (name_by id e.call e.reply) (name_among id es)

-- the name of the active snapshot of this id: that under which the round has prepared it, or that which it had when the round began
abbrev pub name_of : List Carried → List Entry → ℕ → Option SnapshotName
name_of carried entries id = option_or (name_among id entries) (carried_name id carried)

-- the name of the snapshot of this id that the call is on, where it names no namespace
abbrev pub held_name : List Carried → List Entry → Option ℕ → Call → Option SnapshotName
held_name carried entries id call = if is_some (namespace_in call) then None else option_and_then (name_of carried entries) id

-- the entry of this number, where it is one of the round
abbrev pub entry_numbered : WorldValue → ℕ → Option Entry
entry_numbered w number = slice_get w.journal (number - (w.state.entries - length w.journal) - 1)

-- the name of the namespace that a call names, or else of that of the active snapshot that it is on
abbrev pub namespace_of : Option SnapshotName → Call → Option Bytes
namespace_of held call = option_or (namespace_in call) (option_map (λ h. h.namespace) held)

-- the call in this session opens session 0
abbrev pub opens_first : Call → ℕ → Bool
opens_first calls.Session session = session == 0
opens_first call session = false

-- the entry is that of session 0, which is opened as the round begins
abbrev pub is_first : Entry → Bool
is_first e = opens_first e.call e.session

-- the line of the entry: where the call names its snapshot by the slot, with this name. That of session 0 has none, since no line opens it
abbrev pub entry_line : Option SnapshotName → Entry → Option Bytes
entry_line held e = if is_first e then None else Some (call_line (option_map_or (λ h. h.namespace) held []) e.session (option_map (λ h. h.key) held) e.call)

-- the name of the namespace of the entry that is told
abbrev pub namespace_at : WorldValue → List Carried → EntryInfo → Option Bytes
namespace_at w carried info = option_and_then (λ e. namespace_of (held_name carried w.journal info.id e.call) e.call) (entry_numbered w info.number)

-- its line
abbrev pub line_at : WorldValue → List Carried → EntryInfo → Option Bytes
line_at w carried info = option_and_then (λ e. entry_line (held_name carried w.journal info.id e.call) e) (entry_numbered w info.number)

-- an entry that is told: where all are, with its namespace, and in full with its line
abbrev pub journal_entry : WorldValue → List Carried → Bool → Bool → EntryInfo → JournalEntry
journal_entry w carried all full info = record { entry = info; namespace = if all then namespace_at w carried info else None; line = if full then line_at w carried info else None }

-- those of the namespace of this name since it was last made, of a greater number, at most `most`, or that there is no such namespace
abbrev pub journal_in : WorldValue → List Carried → ℕ → ℕ → Bool → Bytes → Answer
journal_in w carried after most full namespace = option_map_or (λ place. answers.Journal (map (journal_entry w carried false full) (history_page after most (history_since namespace w.opening w.journal)))) (place_of namespace w.state.namespaces) (refusal_answer NoNamespace)

-- those of the round
abbrev pub journal_all : WorldValue → List Carried → ℕ → ℕ → Bool → Answer
journal_all w carried after most full = answers.Journal (map (journal_entry w carried true full) (history_page after most (entries_from (w.state.entries - length w.journal) w.journal)))

-- all, or those of a namespace; a page has 1 to 64 of them
abbrev pub journal_of : WorldValue → List Carried → Option Bytes → ℕ → ℕ → Bool → Answer
journal_of w carried namespace after most full = if is_page most then option_map_or (journal_in w carried after most full) namespace (journal_all w carried after most full) else refusal_answer BadArgument
