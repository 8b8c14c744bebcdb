-- A pair of which one log was apart.
use Rattle.std.proofs.Common.{◌≡◌, ℕ, Bool, true, false, List, ap}
use Rattle.sqlite_disk.specs.declared.Disk.{Ghosts}
use Rattle.snap_log.specs.Log.{text_in}
use Rattle.snap_log.specs.declared.log.Log.{Log}
use Rattle.snap_pair.specs.Pair.{joined, lines_in}
use Rattle.snap_pair.specs.Texts.{counting}

-- the lines that count are the same where the log has the same text
pub joined_lines : {D : Type 0} {g : Ghosts D} (log log_new other : Log D g) (is_second : Bool) → text_in log_new ≡ text_in log
    → lines_in (joined (record { counting = log_new; other = other; is_second = is_second })) ≡ lines_in (joined (record { counting = log; other = other; is_second = is_second }))
joined_lines log log_new other true same = ap (λ (t : List ℕ). counting (text_in other) t) same
joined_lines log log_new other false same = ap (λ (t : List ℕ). counting t (text_in other)) same
