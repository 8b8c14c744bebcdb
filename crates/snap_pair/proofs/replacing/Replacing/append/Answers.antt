use Rattle.std.proofs.Common.{◌≡◌, ◌∙◌, inl, inr, List, ℕ, length, ap, refl, subst, IsTrue}
use Rattle.snap_log.specs.Kept.{IsBeforeOrAfter}
use Rattle.snap_log.specs.Log.{IsHonest, Keeps, text_in}
use Rattle.snap_log.specs.Staged.{IsHonestStage, disk_behind, text_before}
use Rattle.snap_log.specs.Texts.{log_text}
use Rattle.snap_log.proofs.LogLaws.{stage_leaves}
use Rattle.snap_pair.specs.declared.replacing.Replacing.{Replacing}
use Rattle.snap_pair.proofs.PairLaws.{either_in, first_of}
use Rattle.snap_pair.proofs.ReplacingLaws.{honest_in, leaves}
use Rattle.snap_pair.proofs.replacing.Replacing.append.Goals as goal

pub returns-in-Ok-clause-crash : goal.returns-in-Ok-clause-crash
returns-in-Ok-clause-crash g c = λ both f h left right.
    let r : Replacing g.row.D.Denot g.D.Disk = record { counting = c.in-Ok.counting; coming = c.args.self.coming; is_second = c.args.self.is_second; none = c.result-1.given.0; some = c.result-1.given.1.0 } in
    let honest = honest_in r both in
    inr (leaves r honest f h left right ∙ (c.in-Ok.ensures.added honest.0).now)

-- a write failed
pub returns-in-Err-NotKept-clause-not_kept : goal.returns-in-Err-NotKept-clause-not_kept
returns-in-Err-NotKept-clause-not_kept g c = λ honest.
    let r : Replacing g.row.D.Denot g.D.Disk = record { counting = c.in-Err-NotKept.counting; coming = c.args.self.coming; is_second = c.args.self.is_second; none = c.result-in-Err-NotKept-1.given.0; some = c.result-in-Err-NotKept-1.given.1.0 } in
    let kept : IsHonest c.in-Err-NotKept.counting → Keeps c.in-Err-NotKept.counting (text_in c.args.self.counting) = rw c.in-Err-NotKept.field-0-is at c.in-Err-NotKept.ensures.not_kept in
    ((kept honest.0).now, refl, leaves r honest)

pub returns-in-Err-NotKept-clause-crash : goal.returns-in-Err-NotKept-clause-crash
returns-in-Err-NotKept-clause-crash g c = λ both f h left right.
    let r : Replacing g.row.D.Denot g.D.Disk = record { counting = c.in-Err-NotKept.counting; coming = c.args.self.coming; is_second = c.args.self.is_second; none = c.result-in-Err-NotKept-1.given.0; some = c.result-in-Err-NotKept-1.given.1.0 } in
    let honest = honest_in r both in
    let kept : IsHonest c.in-Err-NotKept.counting → Keeps c.in-Err-NotKept.counting (text_in c.args.self.counting) = rw c.in-Err-NotKept.field-0-is at c.in-Err-NotKept.ensures.not_kept in
    inl (leaves r honest f h left right ∙ (kept honest.0).now)

-- nobody knows
pub returns-then-is_second-clause-crash : goal.returns-then-is_second-clause-crash
returns-then-is_second-clause-crash g c = λ both f h left right.
    let coming = c.args.self.coming in
    let same : c.into_disk-other.result ≡ disk_behind coming = c.into_disk-other.ensures ∙ c.give_up.ensures.disk in
    let stage : IsHonestStage coming = subst (λ (disk : g.row.D.Denot). IsTrue (g.D.Disk.is_clean disk)) same both.1 in
    let crash : IsTrue (g.D.Disk.is_clean c.in-Err-Unknown.disk) → (k : List ℕ) → g.D.Disk.may_leave c.in-Err-Unknown.disk k → IsBeforeOrAfter (text_in c.args.self.counting) c.args.lines.now k =
    rw c.in-Err-Unknown.field-0-is at c.in-Err-Unknown.ensures.crash in
    let other : log_text h ≡ text_before coming = stage_leaves coming stage h (subst (λ (disk : g.row.D.Denot). g.D.Disk.may_leave disk h) same right) in
    either_in _ _ f _ (first_of f h (text_before coming) (ap (λ (t : List ℕ). length t) (c.args.self.none stage)) other) (crash both.0 f left)
