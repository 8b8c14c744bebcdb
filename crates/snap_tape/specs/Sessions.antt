-- What is asked of the sessions of a round and of their tapes.
use Rattle.std.specs.Prelude.{◌≡◌, ◌≢◌, ◌⊎◌, ℕ, ◌<◌, ◌≤◌, ◌==◌, Bool, List, length, take, slice_get, count_by, Any, Option, None, Some, Result, Ok, Err}
use Rattle.std.specs.List.{AllByRecursion}
use Rattle.snap_call.specs.declared.entry.Entry.{Entry}
use Rattle.snap_call.specs.Journal.{session_entries}
use Rattle.snap_tape.specs.Tapes.{SessionValue}
use Rattle.snap_tape.specs.declared.mismatch.Mismatch.{Mismatch}
use Rattle.snap_tape.specs.declared.check.SessionsFault.{SessionsFault}
use Rattle.snap_tape.specs.declared.check.SessionsFault.TheVariants as faults

-- ---- the sessions

-- the session has the number n
abbrev pub has_session_number : ℕ → SessionValue → Bool
has_session_number n s = s.number == n

-- the numbers of the sessions are 0 to n - 1, where n is how many they are, each once
pub record AreOnce (sessions : List SessionValue) : Type 0 where
  pub inside : AllByRecursion (λ s. s.number < length sessions) sessions
  pub once : (n : ℕ) → n < length sessions → count_by (has_session_number n) sessions ≡ 1

-- the sessions are all those of the round: each once, and every entry of the journal is of one of them
pub record AreAll (journal : List Entry) (sessions : List SessionValue) : Type 0 where
  pub once : AreOnce sessions
  pub known : AllByRecursion (λ e. e.session < length sessions) journal

-- ---- their tapes

-- the tape has just the session's own entries of the journal, in order
abbrev pub IsOwn : List Entry → SessionValue → Type 0
IsOwn journal s = s.tape ≡ session_entries journal s.number

-- two lists are the same up to a place, counted from 0, and differ there; the end of one of them is a difference too
pub record DiffersAt (tape entries : List Entry) (place : ℕ) : Type 0 where
  pub same : take place tape ≡ take place entries
  pub other : slice_get tape place ≢ slice_get entries place

-- the session's tape and its own entries of the journal differ there first
abbrev pub IsMismatch : List Entry → ℕ → SessionValue → Type 0
IsMismatch journal place s = DiffersAt s.tape (session_entries journal s.number) place

-- the one mismatch is of a lesser session, or of the same session and at no later place
abbrev pub IsNotAfter : Mismatch → Mismatch → Type 0
IsNotAfter m n = (m.session < n.session) ⊎ ((m.session ≡ n.session) × (m.place ≤ n.place))

-- no mismatch of the session comes before this one
abbrev pub IsBound : List Entry → Mismatch → SessionValue → Type 0
IsBound journal m s = (place : ℕ) → IsMismatch journal place s → IsNotAfter m (record { session = s.number; place = place })

-- the mismatch is that of one of the sessions, and none comes before it
pub record IsFirst (journal : List Entry) (sessions : List SessionValue) (m : Mismatch) : Type 0 where
  pub there : Any (λ s. (s.number ≡ m.session) × IsMismatch journal m.place s) sessions
  pub least : AllByRecursion (IsBound journal m) sessions

-- the first mismatch of the sessions, or there is none
abbrev pub IsFirstMismatch : List Entry → List SessionValue → Option Mismatch → Type 0
IsFirstMismatch journal sessions None = AllByRecursion (IsOwn journal) sessions
IsFirstMismatch journal sessions (Some m) = IsFirst journal sessions m

-- ---- both

-- the sessions are all those of the round, and each tape is its session's own entries; or the first of the two fails; or the second, and this is the first mismatch
abbrev pub IsCheck : List Entry → List SessionValue → Result Unit SessionsFault → Type 0
IsCheck journal sessions (Ok done) = AreAll journal sessions × AllByRecursion (IsOwn journal) sessions
IsCheck journal sessions (Err faults.Missing) = AreAll journal sessions → ⊥
IsCheck journal sessions (Err (faults.Mismatch m)) = AreAll journal sessions × IsFirst journal sessions m
