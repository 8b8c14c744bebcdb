use Rattle.std.proofs.Common.{◌≡◌, ◌∙◌, ◌++◌, inl, List, ℕ, length, ap, sym, subst, IsTrue}
use Rattle.snap_log.specs.Kept.{IsBeforeOrAfter}
use Rattle.snap_log.specs.Log.{IsHonest, Keeps, text_in}
use Rattle.snap_log.specs.Staged.{IsHonestStage, lines_staged, text_before}
use Rattle.snap_log.specs.Texts.{log_text}
use Rattle.snap_log.proofs.LogLaws.{log_keeps}
use Rattle.snap_pair.specs.Pair.{ArePairHonest, PairKeeps}
use Rattle.snap_pair.specs.declared.pair.Pair.{Pair}
use Rattle.snap_pair.proofs.PairLaws.{either_counts, first_keeps, second_keeps}
use Rattle.snap_pair.proofs.finish.finish_second.Goals as goal

pub returns-in-Ok-clause-replaced : goal.returns-in-Ok-clause-replaced
returns-in-Ok-clause-replaced g c = subst (λ (p : Pair g.row.D.Denot g.D.Disk). ArePairHonest p → PairKeeps p (lines_staged c.args.coming)) (sym c.of.ensures) (λ honest.
    let lines : List ℕ = lines_staged c.args.coming in
    let stage : IsHonestStage c.args.coming = c.in-Ok.ensures.clean honest.1 in
    second_keeps c.args.first c.in-Ok.second lines honest.0 (c.requires.some honest.0 stage)
    (subst (Keeps c.in-Ok.second) (ap (λ (t : List ℕ). t ++ lines) (c.requires.none stage)) (c.in-Ok.ensures.added honest.1)))

-- a write failed
pub returns-in-Err-NotKept-clause-not_kept : goal.returns-in-Err-NotKept-clause-not_kept
returns-in-Err-NotKept-clause-not_kept g c = subst (λ (p : Pair g.row.D.Denot g.D.Disk). ArePairHonest p → PairKeeps p (text_in c.args.first)) (sym c.of-in-Err-NotKept.ensures) (λ honest.
    let second = c.in-Err-NotKept.second in
    let clean : IsHonest second → IsHonestStage c.args.coming = rw c.in-Err-NotKept.field-0-is at c.in-Err-NotKept.ensures.clean in
    let kept : IsHonest second → Keeps second (text_before c.args.coming) = rw c.in-Err-NotKept.field-0-is at c.in-Err-NotKept.ensures.not_kept in
    let none : length (text_in second) ≡ 0 = ap (λ (t : List ℕ). length t) ((kept honest.1).now ∙ c.requires.none (clean honest.1)) in
    first_keeps c.args.first second (text_in c.args.first) honest.1 none (log_keeps c.args.first honest.0))

pub returns-in-Err-NotKept-clause-crash : goal.returns-in-Err-NotKept-clause-crash
returns-in-Err-NotKept-clause-crash g c = λ both f h left right. inl ((returns-in-Err-NotKept-clause-not_kept g c both).crash f h left right)

-- nobody knows
pub returns-in-Err-Unknown-clause-crash : goal.returns-in-Err-Unknown-clause-crash
returns-in-Err-Unknown-clause-crash g c = λ both f h left right.
    let first = c.args.first in
    let coming = c.args.coming in
    let second = c.in-Err-Unknown.second in
    let own : IsHonest first = subst (λ (disk : g.row.D.Denot). IsTrue (g.D.Disk.is_clean disk)) c.into_disk.ensures both.0 in
    let clean : IsTrue (g.D.Disk.is_clean second) → IsHonestStage coming = rw c.in-Err-Unknown.field-0-is at c.in-Err-Unknown.ensures.clean in
    let crash : IsTrue (g.D.Disk.is_clean second) → (k : List ℕ) → g.D.Disk.may_leave second k → IsBeforeOrAfter (text_before coming) (lines_staged coming) k = rw c.in-Err-Unknown.field-0-is at c.in-Err-Unknown.ensures.crash in
    let there : log_text f ≡ text_in first = (log_keeps first own).crash f (subst (λ (disk : g.row.D.Denot). g.D.Disk.may_leave disk f) c.into_disk.ensures left) in
    either_counts (text_in first) (text_before coming) (lines_staged coming) f h (c.requires.some own (clean both.1)) there (c.requires.none (clean both.1)) (crash both.1 h right)
