-- What any log keeps, and one behind whose lines others are written.
use Rattle.std.proofs.Common.{◌≡◌, List, ℕ, refl}
use Rattle.sqlite_disk.specs.declared.Disk.{Ghosts}
use Rattle.snap_log.specs.Texts.{log_text, IsLog}
use Rattle.snap_log.specs.Log.{IsHonest, Keeps, text_in}
use Rattle.snap_log.specs.Staged.{IsHonestStage, disk_behind, text_before}
use Rattle.snap_log.specs.declared.log.Log.{Log}
use Rattle.snap_log.specs.declared.log.appending.Appending.{Appending}
use Rattle.snap_log.proofs.GateLaws.{left_opens, left_stands}

module _ {D : Type 0} {g : Ghosts D} where
  pub log_keeps : (log : Log D g) → IsHonest log → Keeps log (text_in log)
  log_keeps log honest = record { now = refl; crash = left_stands _ _ _ (log.kept honest); opens = left_opens _ _ _ (log.kept honest) }

  pub stage_leaves : (a : Appending D g) → IsHonestStage a → (c : List ℕ) → g.may_leave (disk_behind a) c → log_text c ≡ text_before a
  stage_leaves a honest = left_stands _ _ _ (a.kept honest)

  pub stage_opens : (a : Appending D g) → IsHonestStage a → (c : List ℕ) → g.may_leave (disk_behind a) c → IsLog c
  stage_opens a honest = left_opens _ _ _ (a.kept honest)
