-- A session as clauses see it, and what a call leaves on its tape.
use Rattle.std.specs.Prelude.{◌≡◌, ℕ, ◌+◌, ◌-◌, ◌≤◌, Bool, true, false, List, [], ◌∷◌, ◌++◌, Option, None, Some}
use Rattle.snap_call.specs.declared.call.Call.{Call}
use Rattle.snap_call.specs.declared.call.Given.{Given}
use Rattle.snap_call.specs.declared.entry.Entry.{Entry}
use Rattle.snap_call.specs.declared.refusal.Refusal.{Refusal}
use Rattle.snap_call.specs.declared.refusal.Refusal.TheVariants.{JournalFull, OutOfMemory}
use Rattle.snap_call.specs.declared.reply.Reply.{Reply}
use Rattle.snap_call.specs.declared.reply.Reply.TheVariants.{Refused}
use Rattle.snap_call.specs.Journal.{call_entry}

-- a session: its number, its tape, which has each entry that its calls left in the journal, in order, and for how many more entries it has memory
pub record SessionValue : Type 0 where
  pub number : ℕ
  pub tape : List Entry
  pub spare : ℕ

-- the call left an entry: its own session, call, what was given, and the reply; at most that entry's room is gone
pub record Taped (old new : SessionValue) (call : Call) (given : Given) (reply : Reply) : Type 0 where
  pub number : new.number ≡ old.number
  pub tape : new.tape ≡ old.tape ++ call_entry old.number call given reply ∷ []
  pub spare : old.spare ≤ new.spare + 1

-- the call left no entry; room may have come
pub record Untaped (old new : SessionValue) : Type 0 where
  pub number : new.number ≡ old.number
  pub tape : new.tape ≡ old.tape
  pub spare : old.spare ≤ new.spare

-- a refused call leaves its entry, except where the journal is full or memory is refused
abbrev pub RefusedOn : SessionValue → SessionValue → Call → Given → Refusal → Type 0
RefusedOn old new call given JournalFull = Untaped old new
RefusedOn old new call given (OutOfMemory want) = Untaped old new
RefusedOn old new call given why = Taped old new call given (Refused why)

-- a call by its reply: a refusal as above, and any other reply is an entry's
abbrev pub AnsweredOn : SessionValue → SessionValue → Call → Given → Reply → Type 0
AnsweredOn old new call given (Refused why) = RefusedOn old new call given why
AnsweredOn old new call given reply = Taped old new call given reply

-- the session once it has the entry, where there is one
abbrev pub session_with_entry : SessionValue → Option Entry → SessionValue
session_with_entry s None = s
session_with_entry s (Some e) = record { number = s.number; tape = s.tape ++ e ∷ []; spare = s.spare - 1 }

-- n entries, and this one, where there is one
abbrev pub count_with : ℕ → Option Entry → ℕ
count_with n None = n
count_with n (Some e) = n + 1

-- whether a refused call leaves an entry
abbrev pub is_recorded : Refusal → Bool
is_recorded JournalFull = false
is_recorded (OutOfMemory want) = false
is_recorded why = true

-- whether a call with this reply does
abbrev pub is_noted : Reply → Bool
is_noted (Refused why) = is_recorded why
is_noted reply = true
