use Rattle.std.proofs.Common.{◌++◌, ◌<◌, List, ℕ, length, length-append, ap, sym, subst, arith, refl, IsTrue}
use Rattle.snap_log.specs.Kept.{IsBeforeOrAfter}
use Rattle.snap_log.specs.Log.{IsHonest, Keeps, text_in}
use Rattle.snap_log.proofs.LogLaws.{log_keeps}
use Rattle.snap_pair.specs.Pair.{PairKeeps}
use Rattle.snap_pair.proofs.PairLaws.{added_first, second_counts, second_keeps}
use Rattle.snap_pair.proofs.pair.Pair.append.Goals as goal

pub returns-in-Err-Unknown-clause-crash : goal.returns-in-Err-Unknown-clause-crash
returns-in-Err-Unknown-clause-crash g c = λ honest f h left right.
    let second = c.args.self.second in
    let crash : IsTrue (g.D.Disk.is_clean c.in-Err-Unknown.first) → (k : List ℕ) → g.D.Disk.may_leave c.in-Err-Unknown.first k → IsBeforeOrAfter (text_in c.args.self.first) c.args.lines.now k =
    rw c.in-Err-Unknown.field-0-is at c.in-Err-Unknown.ensures.crash in
    let own : IsHonest second = subst (λ (disk : g.row.D.Denot). IsTrue (g.D.Disk.is_clean disk)) c.into_disk.ensures honest.1 in
    added_first (text_in c.args.self.first) (text_in second) c.args.lines.now f h (c.if-is_empty.ensures.none own refl)
    ((log_keeps second own).crash h (subst (λ (disk : g.row.D.Denot). g.D.Disk.may_leave disk h) c.into_disk.ensures right))
    (crash honest.0 f left)

pub returns-in-Ok-append-clause-added : goal.returns-in-Ok-append-clause-added
returns-in-Ok-append-clause-added g c = λ honest.
    let first = c.args.self.first in
    let second = c.args.self.second in
    let some : 0 < length (text_in second) = c.if-is_empty.ensures.some (c.in-Ok-append.ensures.clean honest.1) refl in
    subst (PairKeeps _) (ap (λ (t : List ℕ). t ++ c.args.lines.now) (sym (second_counts (text_in first) (text_in second) some)))
    (second_keeps first c.in-Ok-append.second (text_in second ++ c.args.lines.now) honest.0 (omega (arith, some, length-append (text_in second) c.args.lines.now)) (c.in-Ok-append.ensures.added honest.1))

pub returns-in-Err-NotKept-append-clause-not_kept : goal.returns-in-Err-NotKept-append-clause-not_kept
returns-in-Err-NotKept-append-clause-not_kept g c = λ honest.
    let first = c.args.self.first in
    let second = c.args.self.second in
    let clean : IsHonest c.in-Err-NotKept-append.second → IsHonest second = rw c.in-Err-NotKept-append.field-0-is at c.in-Err-NotKept-append.ensures.clean in
    let kept : IsHonest c.in-Err-NotKept-append.second → Keeps c.in-Err-NotKept-append.second (text_in second) = rw c.in-Err-NotKept-append.field-0-is at c.in-Err-NotKept-append.ensures.not_kept in
    let some : 0 < length (text_in second) = c.if-is_empty.ensures.some (clean honest.1) refl in
    subst (PairKeeps _) (sym (second_counts (text_in first) (text_in second) some))
    (second_keeps first c.in-Err-NotKept-append.second (text_in second) honest.0 some (kept honest.1))
