-- Which answers of a step are want of memory; cited by private clauses alone.
use Rattle.std.specs.Prelude.{Bool, true, false, Result, Ok, Err}
use Rattle.snap_merge.specs.declared.error.FsError.{FsError}
use Rattle.snap_merge.specs.declared.error.FsError.TheVariants as errors
use Rattle.snap_call.specs.declared.refusal.Refusal.{Refusal}
use Rattle.snap_call.specs.declared.refusal.Refusal.TheVariants as refusals
use Rattle.snap_call.specs.declared.reply.Reply.{Reply}
use Rattle.snap_call.specs.declared.reply.Reply.TheVariants as replies
use Rattle.snap_script.specs.declared.answer.Answer.{Answer as ScriptAnswer}
use Rattle.snap_script.specs.declared.answer.Answer.TheVariants as script_answers
use Rattle.snap_world.specs.declared.applied.Unapplied.{Unapplied}
use Rattle.snap_world.specs.declared.applied.Unapplied.TheVariants as faults
use Rattle.snap_world.specs.declared.step.Answer.{Answer}
use Rattle.snap_world.specs.declared.step.Answer.TheVariants as answers

abbrev pub is_memory : Refusal → Bool
is_memory (refusals.OutOfMemory want) = true
is_memory why = false

abbrev pub is_reply_want : Reply → Bool
is_reply_want (replies.Refused why) = is_memory why
is_reply_want reply = false

abbrev pub is_error_want : FsError → Bool
is_error_want (errors.OutOfMemory want) = true
is_error_want e = false

abbrev pub is_outcome_want : Result Unit FsError → Bool
is_outcome_want (Ok done) = false
is_outcome_want (Err e) = is_error_want e

-- a step's answer that memory was refused
abbrev pub is_want : Answer → Bool
is_want (answers.Reply reply) = is_reply_want reply
is_want (answers.File outcome) = is_outcome_want outcome
is_want answer = false

-- what a script says of an operation that was not done
abbrev pub unapplied_answer : Unapplied → ScriptAnswer
unapplied_answer (faults.File e) = script_answers.Failed e
unapplied_answer (faults.Charge why) = script_answers.Reply (replies.Refused why)
unapplied_answer faults.NoSession = script_answers.NoSession
unapplied_answer faults.NoHand = script_answers.NoHand
