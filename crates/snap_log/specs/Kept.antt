-- What is on the disk between two calls of a log, and what a crash leaves of an append.
use Rattle.std.specs.Prelude.{◌≡◌, ◌⊎◌, ℕ, ◌<◌, List, ◌∷◌, ◌++◌, length, take, slice_index}
use Rattle.sqlite_disk.specs.Disk.{Only}
use Rattle.snap_log.specs.Texts.{log_text, gate_at, AreLines}

-- the file begins with the text, and then has a closed gate
pub record IsGated (text file : List ℕ) : Type 0 where
  pub within : length text < length file
  pub begins : take (length text) file ≡ text
  pub gate : slice_index file (length text) ≡ gate_at (length text)

-- the file has these lines and a closed gate, and so has each one that a crash leaves
pub record IsDurable (text seen : List ℕ) (may_leave : List ℕ → Type 0) : Type 0 where
  pub lines : AreLines text
  pub file : IsGated text seen
  pub left : (c : List ℕ) → may_leave c → IsGated text c

-- behind the closed gate stand the bytes of further lines, but for the first one's brace, and the next closed gate, and a crash leaves this
pub record IsStaged (text rest seen : List ℕ) (may_leave : List ℕ → Type 0) : Type 0 where
  pub lines : AreLines text
  pub file : (behind : List ℕ) × (seen ≡ text ++ gate_at (length text) ∷ (rest ++ 32 ∷ behind))
  pub durable : Only seen may_leave

-- the file stands for the text, with the lines or without
abbrev pub IsBeforeOrAfter : List ℕ → List ℕ → List ℕ → Type 0
IsBeforeOrAfter text lines file = (log_text file ≡ text) ⊎ (log_text file ≡ text ++ lines)
