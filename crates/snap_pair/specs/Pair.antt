-- What two files show, and what calls on them answer.
use Rattle.std.specs.Prelude.{◌≡◌, ◌⊎◌, ℕ, List, Result, Ok, Err, IsTrue, ⊤, if◌then◌else◌}
use Rattle.sqlite_disk.specs.Disk.{MoreFaults}
use Rattle.sqlite_disk.specs.declared.Disk.{Ghosts}
use Rattle.snap_log.specs.Log.{disk_of, text_in, IsHonest}
use Rattle.snap_log.specs.Texts.{IsLog}
use Rattle.snap_pair.specs.Texts.{counting, pair_text}
use Rattle.snap_pair.specs.declared.error.Which.{Which}
use Rattle.snap_pair.specs.declared.error.Which.TheVariants.{First, Second}
use Rattle.snap_pair.specs.declared.error.Failed.{Failed}
use Rattle.snap_pair.specs.declared.error.Failed.TheVariants.{NotKept, Unknown}
use Rattle.snap_pair.specs.declared.error.PairUnopened.{PairUnopened}
use Rattle.snap_pair.specs.declared.halves.Halves.{Halves}
use Rattle.snap_pair.specs.declared.pair.Pair.{Pair}

-- this one of two files
abbrev pub file_of : {D : Type 0} → Which → D → D → D
file_of First first second = first
file_of Second first second = second

-- a call of one of two files has failed, by their counts of failed calls
abbrev pub OneFailed : {D : Type 0} → (D → ℕ) → D → D → D → D → Type 0
OneFailed faults first second first_then second_then = MoreFaults (faults first) (faults first_then) ⊎ MoreFaults (faults second) (faults second_then)

-- the first file after a call, whatever it answered, where this is the one of its value
abbrev pub first_after : {T D : Type 0} → (T → D) → Result T (Failed T D) → D
first_after first_of (Ok it) = first_of it
first_after first_of (Err (NotKept it error)) = first_of it
first_after first_of (Err (Unknown first second error)) = first

-- the second one
abbrev pub second_after : {T D : Type 0} → (T → D) → Result T (Failed T D) → D
second_after second_of (Ok it) = second_of it
second_after second_of (Err (NotKept it error)) = second_of it
second_after second_of (Err (Unknown first second error)) = second

-- where a write failed, this holds of what is left
abbrev pub IfPairNotKept : {T D : Type 0} → Result T (Failed T D) → (T → Type 0) → Type 0
IfPairNotKept (Ok it) P = ⊤
IfPairNotKept (Err (NotKept it error)) P = P it
IfPairNotKept (Err (Unknown first second error)) P = ⊤

module _ {D : Type 0} {g : Ghosts D} where
  -- the lines that count
  abbrev pub lines_in : Pair D g → List ℕ
  lines_in p = counting (text_in p.first) (text_in p.second)

  -- the files
  abbrev pub first_of : Pair D g → D
  first_of p = disk_of p.first

  abbrev pub second_of : Pair D g → D
  second_of p = disk_of p.second

  -- the pair of two logs, of which one was apart
  abbrev pub joined : Halves D g → Pair D g
  joined h = if h.is_second then record { first = h.other; second = h.counting } else record { first = h.counting; second = h.other }

  -- no answer of the disks was a lie
  abbrev pub ArePairHonest : Pair D g → Type 0
  ArePairHonest p = IsHonest p.first × IsHonest p.second

  -- these lines count, and so they do in each two files that a crash leaves, which are logs
  pub record PairKeeps (p : Pair D g) (text : List ℕ) : Type 0 where
    pub now : lines_in p ≡ text
    pub crash : (c d : List ℕ) → g.may_leave (first_of p) c → g.may_leave (second_of p) d → pair_text c d ≡ text
    pub first : (c : List ℕ) → g.may_leave (first_of p) c → IsLog c
    pub second : (d : List ℕ) → g.may_leave (second_of p) d → IsLog d

  -- the files after an opening, whatever it answered
  abbrev pub first_opened : Result (Pair D g) (PairUnopened D) → D
  first_opened (Ok p) = first_of p
  first_opened (Err failed) = failed.first

  abbrev pub second_opened : Result (Pair D g) (PairUnopened D) → D
  second_opened (Ok p) = second_of p
  second_opened (Err failed) = failed.second

  -- no answer of these was a lie
  abbrev pub AreHonestAfter : Result (Pair D g) (Failed (Pair D g) D) → Type 0
  AreHonestAfter result = IsTrue (g.is_clean (first_after first_of result)) × IsTrue (g.is_clean (second_after second_of result))
