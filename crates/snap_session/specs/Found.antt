-- The answer where something may not be found.
use Rattle.std.specs.Prelude.{Result, Ok, Err}
use Rattle.snap_call.specs.declared.refusal.Refusal.{Refusal}
use Rattle.snap_call.specs.declared.reply.Reply.TheVariants as replies
use Rattle.snap_script.specs.declared.answer.Answer.{Answer}
use Rattle.snap_script.specs.declared.answer.Answer.TheVariants as answers

-- the answer of a refusal
abbrev pub refusal_answer : Refusal → Answer
refusal_answer why = answers.Reply (replies.Refused why)

-- the first function of what was found, or else the other one of why nothing was
abbrev pub found_or_else : {A B E : Type 0} → (A → B) → (E → B) → Result A E → B
found_or_else answer other (Ok found) = answer found
found_or_else answer other (Err why) = other why
