-- What a server over a log in two files leaves.
use Rattle.std.specs.Prelude.{◌≡◌, ℕ, Bool, if◌then◌else◌, List, [], ◌∷◌, Option, IsTrue}
use Rattle.sqlite_disk.specs.declared.Disk.{Ghosts}
use Rattle.snap_log.specs.Log.{disk_of, text_in}
use Rattle.snap_log.specs.Texts.{log_text}
use Rattle.snap_log.specs.declared.log.Log.{Log}
use Rattle.snap_marks.specs.declared.sums.Sums.{Sums}
use Rattle.snap_pair.specs.Pair.{ArePairHonest, lines_in}
use Rattle.snap_pair.specs.declared.pair.Pair.{Pair}
use Rattle.snap_durable.specs.Logged.{HasServedLog, IsRefused, disk_left}
use Rattle.snap_durable.specs.declared.pair.ServedPair.{ServedPair}

-- the file of two that counts: the second one where it has a line
abbrev pub file_by : List ℕ → List ℕ → List ℕ → List ℕ
file_by [] first second = first
file_by (b ∷ text) first second = second

-- the same of two files that a crash leaves
abbrev pub counting_file : List ℕ → List ℕ → List ℕ
counting_file first second = file_by (log_text second) first second

module _ {D : Type 0} {g : Ghosts D} where
  -- the first file
  abbrev pub first_served : ServedPair D g → D
  first_served s = if s.is_second then disk_of s.other else disk_left s.served

  -- the second one
  abbrev pub second_served : ServedPair D g → D
  second_served s = if s.is_second then disk_left s.served else disk_of s.other

  -- no answer of them was a lie
  abbrev pub AreHonestServed : ServedPair D g → Type 0
  AreHonestServed s = IsTrue (g.is_clean (first_served s)) × IsTrue (g.is_clean (second_served s))

  -- the log that counts was served over
  abbrev pub HasServedPair : Bool → List ℕ → Pair D g → Option (List ℕ) → Log D g → Option (List ℕ) → Type 0
  HasServedPair rebases bytes pair before log_new after = (log : Log D g) × (ArePairHonest pair → text_in log ≡ lines_in pair) × HasServedLog rebases bytes log before log_new after

  -- its marks don't agree, and it is as it was
  abbrev pub IsPairRefused : Pair D g → Log D g → Sums → Type 0
  IsPairRefused pair log_new sums = (log : Log D g) × (ArePairHonest pair → text_in log ≡ lines_in pair) × IsRefused log log_new sums
