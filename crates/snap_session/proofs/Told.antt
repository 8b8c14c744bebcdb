-- The answer of a command, by whether it says already what its refusal is about.
use Rattle.std.proofs.Common.{◌≡◌, refl}
use Rattle.std.specs.Prelude.{if◌then◌else◌}
use Rattle.snap_script.specs.declared.about.Subjects.{Subjects}
use Rattle.snap_script.specs.declared.answer.Answer.{Answer}
use Rattle.snap_script.specs.declared.answer.Answer.TheVariants as answers
use Rattle.snap_script.specs.About.{about, answer_about, command_answer}
use Rattle.snap_session.specs.About.{is_told}

pub told_as : (s : Subjects) (a : Answer) → command_answer s a ≡ (if is_told a then a else answer_about (about s) a)
told_as s (answers.Reply r) = refl
told_as s (answers.Session n) = refl
told_as s (answers.Share u) = refl
told_as s (answers.Changed count share) = refl
told_as s (answers.Batch done count share stopped) = refl
told_as s (answers.Seen o) = refl
told_as s (answers.Names ns) = refl
told_as s (answers.Head head size) = refl
told_as s (answers.Part bytes size) = refl
told_as s (answers.Known size digest) = refl
told_as s (answers.Path p) = refl
told_as s (answers.Taken u) = refl
told_as s (answers.Quota q) = refl
told_as s (answers.Leases l) = refl
told_as s (answers.Tree t) = refl
told_as s (answers.Diff d) = refl
told_as s (answers.Journal j) = refl
told_as s (answers.Report entries actives records totals) = refl
told_as s (answers.Jobs committed discarded refused totals) = refl
told_as s (answers.Saved lines next) = refl
told_as s (answers.BadRestore why) = refl
told_as s (answers.BadConfig f) = refl
told_as s (answers.Failed e) = refl
told_as s answers.NoSession = refl
told_as s answers.NoHand = refl
told_as s answers.StillOut = refl
told_as s (answers.Refused why of) = refl
