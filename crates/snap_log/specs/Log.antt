-- What a log shows, and what its calls answer.
use Rattle.std.specs.Prelude.{◌≡◌, ℕ, List, Result, Ok, Err, IsTrue, ⊤}
use Rattle.sqlite_disk.specs.declared.Disk.{Ghosts}
use Rattle.snap_log.specs.declared.log.Log.{Log}
use Rattle.snap_log.specs.declared.error.OpenFailed.{OpenFailed}
use Rattle.snap_log.specs.declared.error.AppendFailed.{AppendFailed}
use Rattle.snap_log.specs.declared.error.ClearFailed.{ClearFailed}
use Rattle.snap_log.specs.declared.error.AppendFailed.TheVariants.{NotKept, Unknown}
use Rattle.snap_log.specs.Texts.{log_text, IsLog}

module _ {D : Type 0} {g : Ghosts D} where
  abbrev pub disk_of : Log D g → D
  disk_of log = log.disk

  -- the lines that are in the log
  abbrev pub text_in : Log D g → List ℕ
  text_in log = log_text (g.seen log.disk)

  -- no answer of its disk was a lie
  abbrev pub IsHonest : Log D g → Type 0
  IsHonest log = IsTrue (g.is_clean log.disk)

  -- the log has this text, and so has each file that a crash leaves, which is a log
  pub record Keeps (log : Log D g) (text : List ℕ) : Type 0 where
    pub now : text_in log ≡ text
    pub crash : (c : List ℕ) → g.may_leave log.disk c → log_text c ≡ text
    pub opens : (c : List ℕ) → g.may_leave log.disk c → IsLog c

  -- the disk after an opening, whatever it answered
  abbrev pub disk_opened : Result (Log D g) (OpenFailed D) → D
  disk_opened (Ok log) = log.disk
  disk_opened (Err failed) = failed.disk

  -- the disk after an append, whatever it answered
  abbrev pub disk_after : Result (Log D g) (AppendFailed D g) → D
  disk_after (Ok log) = log.disk
  disk_after (Err (NotKept log error)) = log.disk
  disk_after (Err (Unknown disk error)) = disk

  -- the disk after a clearing, whatever it answered
  abbrev pub disk_cleared : Result (Log D g) (ClearFailed D) → D
  disk_cleared (Ok log) = log.disk
  disk_cleared (Err failed) = failed.disk

  -- where a write failed, this holds of the log
  abbrev pub IfNotKept : Result (Log D g) (AppendFailed D g) → (Log D g → Type 0) → Type 0
  IfNotKept (Ok log) P = ⊤
  IfNotKept (Err (NotKept log error)) P = P log
  IfNotKept (Err (Unknown disk error)) P = ⊤
