use Rattle.std.proofs.Common.{inl, ℕ, List, refl, sym, ◌∙◌, subst}
use Rattle.std.specs.Prelude.{IfErr}
use Rattle.snap_pair.specs.Texts.{pair_text}
use Rattle.snap_session.specs.Kept.{KeptValue}
use Rattle.snap_durable.specs.Files.{AreEndsHonest, AreFilesHonest, FilesStand, IsBesideHonest, IsWritten, LeavesStep, first_end, second_end}
use Rattle.snap_durable.proofs.LeavesLaws.{same_files}
use Rattle.snap_durable.proofs.RollLaws.{if_err}
use Rattle.snap_durable.proofs.step.step.Goals as goal

pub returns-in-Coming-clause-crash : goal.returns-in-Coming-clause-crash
returns-in-Coming-clause-crash g c =
    let v = c.args.server.now in
    if_err c.write_on.result (λ ended crash. λ honest.
    let it = crash honest in (
      (it.0, subst (λ b. IsBesideHonest b) (sym c.in-Coming.is) it.1),
      λ stand x y one two. (v, inl refl, it.2 v stand.back (subst (IsWritten v) c.in-Coming.is stand.written) x y one two),
    )) c.write_on.ensures.crash

pub returns-in-Ok-Some-clause-crash : goal.returns-in-Ok-Some-clause-crash
returns-in-Ok-Some-clause-crash g c =
    let v = c.args.server.now in
    let now = c.idle-files.result in
    let same = same_files c.args.files now c.idle-files.ensures.counting (c.idle-files.ensures.beside ∙ sym c.in-Idle.is) c.idle-files.ensures.second in
    subst (λ f. IfErr c.begin.result (λ ended. AreEndsHonest ended → AreFilesHonest f × (FilesStand v f → (x y : List ℕ) → g.D.Disk.may_leave (first_end ended) x → g.D.Disk.may_leave (second_end ended) y → LeavesStep v (pair_text x y)))) same
    (subst (λ (k : KeptValue). IfErr c.begin.result (λ ended. AreEndsHonest ended → AreFilesHonest now × (FilesStand k now → (x y : List ℕ) → g.D.Disk.may_leave (first_end ended) x → g.D.Disk.may_leave (second_end ended) y → LeavesStep k (pair_text x y)))) c.roll_of.ensures.same c.begin.ensures.crash)
