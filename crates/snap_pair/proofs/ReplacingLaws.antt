-- A crash leaves the lines that count while others are written.
use Rattle.std.proofs.Common.{◌≡◌, ℕ, Bool, true, false, List, length, refl, ap, ◌∙◌, IsTrue}
use Rattle.std.specs.Prelude.{if◌then◌else◌}
use Rattle.sqlite_disk.specs.declared.Disk.{Ghosts}
use Rattle.snap_log.specs.Log.{disk_of, text_in}
use Rattle.snap_log.specs.Staged.{disk_behind, text_before}
use Rattle.snap_log.proofs.LogLaws.{log_keeps, stage_leaves}
use Rattle.snap_log.specs.Log.{IsHonest}
use Rattle.snap_log.specs.Staged.{IsHonestStage}
use Rattle.snap_pair.specs.Replacing.{AreReplacingHonest, LeavesCounting, first_in, second_in}
use Rattle.snap_pair.specs.Texts.{pair_text}
use Rattle.snap_pair.specs.declared.replacing.Replacing.{Replacing}
use Rattle.snap_pair.proofs.PairLaws.{first_of, second_of}

module _ {D : Type 0} {g : Ghosts D} where
  pub leaves : (r : Replacing D g) → AreReplacingHonest r → LeavesCounting r
  leaves r honest = by r.is_second refl
    where
      by : (b : Bool) → r.is_second ≡ b → (c d : List ℕ) → g.may_leave (if b then disk_of r.counting else disk_behind r.coming) c → g.may_leave (if b then disk_behind r.coming else disk_of r.counting) d → pair_text c d ≡ text_in r.counting
      by true is c d left right =
          first_of c d (text_before r.coming) (ap (λ (t : List ℕ). length t) (r.none honest.1)) (stage_leaves r.coming honest.1 d right) ∙ (log_keeps r.counting honest.0).crash c left
      by false is c d left right =
          let keeps = log_keeps r.counting honest.0 in
          second_of c d (text_in r.counting) (r.some honest.0 is) (keeps.crash d right) ∙ keeps.crash d right

  -- the files, whichever is which
  pub honest_in : (r : Replacing D g) → IsTrue (g.is_clean (first_in r)) × IsTrue (g.is_clean (second_in r)) → AreReplacingHonest r
  honest_in r both = by r.is_second both
    where
      by : (b : Bool) → IsTrue (g.is_clean (if b then disk_of r.counting else disk_behind r.coming)) × IsTrue (g.is_clean (if b then disk_behind r.coming else disk_of r.counting)) → IsHonest r.counting × IsHonestStage r.coming
      by true both = both
      by false both = (both.1, both.0)
