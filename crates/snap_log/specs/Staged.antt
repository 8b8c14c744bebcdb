-- Lines that are written behind a log's text and don't count yet; cited by the public clauses of `Appending`.
use Rattle.std.specs.Prelude.{ℕ, List, IsTrue}
use Rattle.sqlite_disk.specs.declared.Disk.{Ghosts}
use Rattle.snap_log.specs.declared.log.appending.Appending.{Appending}
use Rattle.snap_log.specs.Parts.{staged_text}
use Rattle.snap_log.specs.Texts.{log_text}

module _ {D : Type 0} {g : Ghosts D} where
  abbrev pub disk_behind : Appending D g → D
  disk_behind a = a.disk

  -- the lines of the log
  abbrev pub text_before : Appending D g → List ℕ
  text_before a = log_text (g.seen a.disk)

  -- the lines behind it
  abbrev pub lines_staged : Appending D g → List ℕ
  lines_staged a = staged_text (g.seen a.disk) a.end a.staged

  -- no answer of its disk was a lie
  abbrev pub IsHonestStage : Appending D g → Type 0
  IsHonestStage a = IsTrue (g.is_clean a.disk)
