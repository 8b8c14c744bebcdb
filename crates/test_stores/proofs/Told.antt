-- Laws of what a refused command is told: each follows from `command_done`, the definition of the clause `done` of `Script::act`.
use Rattle.std.proofs.Common.{◌≡◌, ℕ, List, Option, None, Some, Ok, Err, sym, ap, ◌∙◌}
use Rattle.snap_record.specs.Labels.{Bytes, Label}
use Rattle.snap_call.specs.declared.call.Call.TheVariants as calls
use Rattle.snap_call.specs.declared.refusal.Refusal.{Refusal}
use Rattle.snap_call.specs.declared.refusal.Refusal.TheVariants.{NotFound}
use Rattle.snap_call.specs.declared.reply.Reply.{Reply}
use Rattle.snap_call.specs.declared.reply.Reply.TheVariants as replies
use Rattle.snap_world.specs.World.{WorldValue}
use Rattle.snap_world.specs.Move.{move}
use Rattle.snap_world.specs.declared.step.Step.TheVariants.{Locked}
use Rattle.snap_world.specs.declared.step.Answer.{Answer as StepAnswer}
use Rattle.snap_world.specs.declared.step.Answer.TheVariants as step_answers
use Rattle.snap_script.specs.declared.about.Subjects.{Subjects}
use Rattle.snap_script.specs.declared.answer.Answer.{Answer}
use Rattle.snap_script.specs.declared.answer.Answer.TheVariants as answers
use Rattle.snap_script.specs.declared.command.Command.TheVariants as commands
use Rattle.snap_script.specs.declared.fault.Field.{Field}
use Rattle.snap_script.specs.declared.fault.Field.TheVariants as fields
use Rattle.snap_script.specs.declared.refused.Refused.{Refused}
use Rattle.snap_script.specs.declared.refused.Refused.TheVariants as refused
use Rattle.snap_script.specs.About.{about, command_answer, new_subjects}
use Rattle.snap_session.specs.Commands.{answer_of_step, command_done, step_kept}
use Rattle.snap_session.specs.Opened.{OpenedValue}

abbrev why_in : Answer → Refused
why_in (answers.Refused why of) = why
why_in answer = refused.StillOut

abbrev field_in : Answer → Option Field
field_in (answers.Refused why of) = of
field_in answer = None

-- a refusal of the store has the field that the command's subjects say
told_reply : (own : Subjects) (session slot : ℕ) (w : WorldValue) (reply : Reply) (why : Refusal) (of : Option Field)
    → command_answer own (answer_of_step session slot w (step_answers.Reply reply)) ≡ answers.Refused (refused.Book why) of → of ≡ about own (refused.Book why)
told_reply own session slot w (replies.Refused given) why of is = sym (ap field_in is) ∙ ap (about own) (ap why_in is)
told_reply own session slot w replies.Opened why of is = absurd (cc)
told_reply own session slot w replies.Trimmed why of is = absurd (cc)
told_reply own session slot w reply why of is = absurd (cc)

told : (own : Subjects) (session slot : ℕ) (w : WorldValue) (answer : StepAnswer) (why : Refusal) (of : Option Field)
    → command_answer own (answer_of_step session slot w answer) ≡ answers.Refused (refused.Book why) of → of ≡ about own (refused.Book why)
told own session slot w (step_answers.Reply reply) why of is = told_reply own session slot w reply why of is
told own session slot w (step_answers.File (Ok done)) why of is = absurd (cc)
told own session slot w (step_answers.File (Err error)) why of is = let e = ap why_in is in absurd (cc)
told own session slot w step_answers.NoSession why of is = let e = ap why_in is in absurd (cc)
told own session slot w step_answers.NoHand why of is = let e = ap why_in is in absurd (cc)

-- `act`: a prepare whose parent isn't there is told so
pub missing_parent_told : (s : OpenedValue) (n : ℕ) (namespace key parent : Bytes) (labels : List Label) (of : Option Field)
    → (command_done (Some s) n (commands.Call (calls.Prepare namespace key parent labels))).1 ≡ answers.Refused (refused.Book NotFound) of → of ≡ Some fields.Parent
missing_parent_told s n namespace key parent labels of is =
    told (new_subjects key parent) n 0 (move s.world (step_kept s.world.state (Locked n (calls.Prepare namespace key parent labels)))).0 _ NotFound of is
