use Rattle.std.proofs.Common.{◌≡◌, ◌++◌, ℕ, List, [], refl, sym, ap, ◌∙◌, subst, append-nil, Err}
use Rattle.std.specs.Prelude.{IsTrue}
use Rattle.snap_log.specs.Kept.{IsBeforeOrAfter}
use Rattle.snap_log.specs.Log.{IfNotKept, IsHonest, Keeps, disk_after, text_in}
use Rattle.snap_log.specs.Texts.{AreLines}
use Rattle.snap_session.specs.Kept.{KeptValue, gone_on}
use Rattle.snap_durable.specs.Files.{GoesOnFrom}
use Rattle.snap_durable.specs.Turns.{GivesBack}
use Rattle.snap_durable.proofs.FileLaws.{lines_on}
use Rattle.snap_durable.proofs.LeavesLaws.{added_longer}
use Rattle.snap_durable.proofs.RollLaws.{goes_from, mark_back, mark_leaves}
use Rattle.snap_durable.proofs.roll.add_mark.Goals as goal

pub returns-in-Ok-clause-mark : goal.returns-in-Ok-clause-mark
returns-in-Ok-clause-mark g c =
    let v = c.args.server.now in
    let text : List ℕ = c.in-Some.text.items in
    let mark : List ℕ = c.in-Some.mark in
    let goes : GoesOnFrom (gone_on text v) text mark = goes_from v text mark c.in-Some.ensures.text c.in-Some.ensures.line c.in-Some.ensures.short (subst AreLines c.mark.view_is c.mark.invariant) in
    let go : c.go_on.new.self ≡ gone_on text v = c.go_on.ensures ∙ ap (λ (m : List ℕ). gone_on m v) c.as_slice-in-Ok.ensures.value in
    (text, subst (λ (k : KeptValue). GoesOnFrom k text mark) (sym go) goes)

pub returns-in-Ok-clause-back : goal.returns-in-Ok-clause-back
returns-in-Ok-clause-back g c = λ honest.
    let v = c.args.server.now in
    let text : List ℕ = c.in-Some.text.items in
    let mark : List ℕ = c.in-Some.mark in
    let goes : GoesOnFrom (gone_on text v) text mark = goes_from v text mark c.in-Some.ensures.text c.in-Some.ensures.line c.in-Some.ensures.short (subst AreLines c.mark.view_is c.mark.invariant) in
    let go : c.go_on.new.self ≡ gone_on text v = c.go_on.ensures ∙ ap (λ (m : List ℕ). gone_on m v) c.as_slice-in-Ok.ensures.value in
    let clean = c.in-Ok.ensures.clean honest in
    let added : text_in c.in-Ok.log ≡ text_in c.args.log ++ mark = (c.in-Ok.ensures.added honest).now ∙ ap (λ (l : List ℕ). text_in c.args.log ++ l) c.as_slice.ensures.same in
    (clean, λ gives. subst (λ (k : KeptValue). GivesBack (text_in c.in-Ok.log) k) (sym go) (subst (λ (l : List ℕ). GivesBack l (gone_on text v)) (sym added) (mark_back v (gone_on text v) (text_in c.args.log) text mark (lines_on c.args.log clean) gives refl goes)))

pub returns-in-Err-NotKept-clause-longer : goal.returns-in-Err-NotKept-clause-longer
returns-in-Err-NotKept-clause-longer g c = λ honest.
    let kept = subst (λ e. IfNotKept (Err e) (λ log. IsHonest log → Keeps log (text_in c.args.log))) c.in-Err-NotKept.field-0-is c.in-Err-NotKept.ensures.not_kept in
    ([], (kept honest).now ∙ sym (append-nil (text_in c.args.log)))

pub returns-clause-crash : goal.returns-clause-crash
returns-clause-crash g c = λ honest gives x may.
    let v = c.args.server.now in
    let text : List ℕ = c.in-Some.text.items in
    let mark : List ℕ = c.in-Some.mark in
    let goes : GoesOnFrom (gone_on text v) text mark = goes_from v text mark c.in-Some.ensures.text c.in-Some.ensures.line c.in-Some.ensures.short (subst AreLines c.mark.view_is c.mark.invariant) in
    let clean = subst (λ e. IsTrue (g.D.Disk.is_clean (disk_after (Err e))) → IsHonest c.args.log) c.in-Err-Unknown.field-0-is c.in-Err-Unknown.ensures.clean in
    let crash = subst (λ e. IsTrue (g.D.Disk.is_clean (disk_after (Err e))) → (y : List ℕ) → g.D.Disk.may_leave (disk_after (Err e)) y → IsBeforeOrAfter (text_in c.args.log) c.as_slice.result.now y) c.in-Err-Unknown.field-0-is c.in-Err-Unknown.ensures.crash in
    mark_leaves v (text_in c.args.log) text mark x (lines_on c.args.log (clean honest)) gives goes (subst (λ (l : List ℕ). IsBeforeOrAfter (text_in c.args.log) l x) c.as_slice.ensures.same (crash honest x may))

pub returns-clause-grows : goal.returns-clause-grows
returns-clause-grows g c = λ honest x may.
    let crash = subst (λ e. IsTrue (g.D.Disk.is_clean (disk_after (Err e))) → (y : List ℕ) → g.D.Disk.may_leave (disk_after (Err e)) y → IsBeforeOrAfter (text_in c.args.log) c.as_slice.result.now y) c.in-Err-Unknown.field-0-is c.in-Err-Unknown.ensures.crash in
    added_longer (text_in c.args.log) c.as_slice.result.now x (crash honest x may)
