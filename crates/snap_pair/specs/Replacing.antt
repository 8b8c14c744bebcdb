-- What two files show while lines are written that are to take the place of all others.
use Rattle.std.specs.Prelude.{◌≡◌, ℕ, if◌then◌else◌, List, Result, Ok, Err, IsTrue}
use Rattle.sqlite_disk.specs.declared.Disk.{Ghosts}
use Rattle.snap_log.specs.Log.{disk_of, text_in, IsHonest}
use Rattle.snap_log.specs.Staged.{IsHonestStage, disk_behind, lines_staged}
use Rattle.snap_pair.specs.Texts.{pair_text}
use Rattle.snap_pair.specs.Pair.{first_after, second_after}
use Rattle.snap_pair.specs.declared.error.Failed.{Failed}
use Rattle.snap_pair.specs.declared.error.ReplaceFailed.{ReplaceFailed}
use Rattle.snap_pair.specs.declared.replacing.Replacing.{Replacing}
use Rattle.snap_pair.specs.declared.replacing.ReplacingParts.{ReplacingParts}

module _ {D : Type 0} {g : Ghosts D} where
  -- the lines that count
  abbrev pub lines_counting : Replacing D g → List ℕ
  lines_counting r = text_in r.counting

  -- those that are to take their place
  abbrev pub lines_coming : Replacing D g → List ℕ
  lines_coming r = lines_staged r.coming

  -- the files
  abbrev pub first_in : Replacing D g → D
  first_in r = if r.is_second then disk_of r.counting else disk_behind r.coming

  abbrev pub second_in : Replacing D g → D
  second_in r = if r.is_second then disk_behind r.coming else disk_of r.counting

  -- the same apart
  abbrev pub first_apart : ReplacingParts D g → D
  first_apart p = if p.is_second then disk_of p.counting else disk_behind p.coming

  abbrev pub second_apart : ReplacingParts D g → D
  second_apart p = if p.is_second then disk_behind p.coming else disk_of p.counting

  abbrev pub ArePartsHonest : ReplacingParts D g → Type 0
  ArePartsHonest p = IsHonest p.counting × IsHonestStage p.coming

  -- no answer of the disks was a lie
  abbrev pub AreReplacingHonest : Replacing D g → Type 0
  AreReplacingHonest r = IsHonest r.counting × IsHonestStage r.coming

  -- a crash leaves the lines that count
  abbrev pub LeavesCounting : Replacing D g → Type 0
  LeavesCounting r = (c d : List ℕ) → g.may_leave (first_in r) c → g.may_leave (second_in r) d → pair_text c d ≡ lines_counting r

  -- the files after `replace`, whatever it answered
  abbrev pub first_replaced : Result (Replacing D g) (ReplaceFailed D) → D
  first_replaced (Ok r) = first_in r
  first_replaced (Err failed) = failed.first

  abbrev pub second_replaced : Result (Replacing D g) (ReplaceFailed D) → D
  second_replaced (Ok r) = second_in r
  second_replaced (Err failed) = failed.second

  -- no answer of these was a lie
  abbrev pub AreHonestReplaced : Result (Replacing D g) (ReplaceFailed D) → Type 0
  AreHonestReplaced result = IsTrue (g.is_clean (first_replaced result)) × IsTrue (g.is_clean (second_replaced result))

  -- no answer of the files after an addition was a lie
  abbrev pub AreHonestAdding : Result (Replacing D g) (Failed (Replacing D g) D) → Type 0
  AreHonestAdding result = IsTrue (g.is_clean (first_after first_in result)) × IsTrue (g.is_clean (second_after second_in result))
