-- How far a tape was compared with its session's entries, while a journal is gone through.
use Rattle.std.specs.Prelude.{◌≡◌, ℕ, ◌<◌, ◌≤◌, Bool, true, false, List, length, take, slice_get, Option, None, Some, option_and_then}
use Rattle.snap_call.specs.declared.entry.Entry.{Entry}
use Rattle.snap_call.specs.Journal.{session_entries}
use Rattle.snap_tape.specs.Tapes.{SessionValue}
use Rattle.snap_tape.specs.Sessions.{DiffersAt}
use Rattle.snap_tape.specs.declared.mismatch.Progress.{Progress}

-- of the session's entries so far, the tape has those before the place; or it differs there
abbrev pub HasFollowed : List Entry → List Entry → ℕ → Bool → Type 0
HasFollowed tape seen place false = (take place tape ≡ seen) × (place ≤ length tape)
HasFollowed tape seen place true = DiffersAt tape seen place × (place < length seen)

abbrev pub IsProgress : List Entry → List Entry → Progress → Type 0
IsProgress tape seen p = HasFollowed tape seen p.place p.differs

-- the place at which they differ first, or they are the same
abbrev pub IsDifference : List Entry → List Entry → Option ℕ → Type 0
IsDifference tape seen None = tape ≡ seen
IsDifference tape seen (Some place) = DiffersAt tape seen place

-- how far each session's tape was compared
pub record AreFollowed (journal : List Entry) (sessions : List SessionValue) (progress : List Progress) : Type 0 where
  pub size : length progress ≡ length sessions
  pub each : (i : ℕ) (s : SessionValue) (p : Progress) → slice_get sessions i ≡ Some s → slice_get progress i ≡ Some p → IsProgress s.tape (session_entries journal s.number) p

-- the place that stands at a number
abbrev pub index_in : List (Option ℕ) → ℕ → Option ℕ
index_in indexes n = option_and_then (λ index. index) (slice_get indexes n)

-- each session's place in a list stands at its number, and no other place stands there
pub record AreIndexes (sessions : List SessionValue) (indexes : List (Option ℕ)) : Type 0 where
  pub index : (i : ℕ) (s : SessionValue) → slice_get sessions i ≡ Some s → index_in indexes s.number ≡ Some i
  pub held : (n i : ℕ) → index_in indexes n ≡ Some i → (s : SessionValue) × (slice_get sessions i ≡ Some s) × (s.number ≡ n)
