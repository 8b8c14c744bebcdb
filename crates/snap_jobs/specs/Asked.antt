-- Questions among jobs, and what they are answered of the closed store; cited by the public clauses of `JobLines::take_line`
-- and `write_jobs` through Lines.antt and Answer.antt.
use Rattle.std.specs.Prelude.{ℕ, Bool, true, false, ◌&&◌, ◌||◌, List, [], ◌∷◌, ◌++◌, Some, Result, Ok, Err, codes}
use Rattle.std.specs.Str.{bytes_eq}
use Rattle.serde_json.specs.Data.{Data}
use Rattle.serde_json.specs.Find.{as_bool}
use Rattle.snap_usage.specs.declared.usage.Usage.{Usage}
use Rattle.snap_record.specs.Labels.{Bytes}
use Rattle.snap_call.specs.declared.refusal.Refusal.{Refusal}
use Rattle.snap_call.specs.declared.reply.Reply.TheVariants as replies
use Rattle.snap_call.specs.declared.state.State.{State}
use Rattle.snap_call.specs.Questions.{asking, reply_to}
use Rattle.snap_call.specs.Results.{◌>>=◌}
use Rattle.snap_book.specs.Questions.{chain_usage}
use Rattle.snap_script.specs.declared.answer.Answer.{Answer}
use Rattle.snap_script.specs.declared.answer.Answer.TheVariants.{Reply}
use Rattle.snap_script.specs.declared.command.Command.{Command}
use Rattle.snap_script.specs.declared.command.Command.TheVariants as commands
use Rattle.snap_script.specs.declared.fault.Field.TheVariants as fields
use Rattle.snap_script.specs.declared.fault.Found.TheVariants.{Text}
use Rattle.snap_script.specs.declared.fault.Fault.{Fault}
use Rattle.snap_script.specs.declared.fault.Fault.TheVariants.{BadField}
use Rattle.snap_script.specs.declared.line.Line.{Line}
use Rattle.snap_script.specs.declared.line.Line.TheVariants as lines
use Rattle.snap_script.specs.declared.unknown.FieldRule.{FieldRule}
use Rattle.snap_script.specs.About.{call_subjects, command_answer, key_subjects}
use Rattle.snap_script.specs.Answers.{answer_line, answer_told}
use Rattle.snap_script.specs.Fields.{text, optional}
use Rattle.snap_script.specs.Lines.{command_in}
use Rattle.snap_jobs.specs.declared.asked.Asked.{Asked}
use Rattle.snap_jobs.specs.declared.asked.Asked.TheVariants as asks

-- ---- which lines are questions

-- the words of the commands that may be quiet
abbrev pub is_asking : Bytes → Bool
is_asking word = bytes_eq word (codes "stat") || (bytes_eq word (codes "usage") || (bytes_eq word (codes "mounts") || bytes_eq word (codes "walk")))

-- the word that was read is one of these
abbrev pub is_asking_in : Result Bytes Fault → Bool
is_asking_in (Ok word) = is_asking word
is_asking_in (Err fault) = false

-- what was read is `true`
abbrev pub is_quiet_in : Result Bool Fault → Bool
is_quiet_in (Ok quiet) = quiet
is_quiet_in (Err fault) = false

-- the line of a command that may be quiet, and is; every other one is a job
abbrev pub is_question : Data → Bool
is_question line = is_asking_in (text fields.Do line) && is_quiet_in (optional as_bool fields.Quiet (Ok false) line)

-- what a command asks; no other one stands among jobs
abbrev pub asked_command : Command → Result Asked Fault
asked_command (commands.Ask question) = Ok (asks.Question question)
asked_command (commands.ChainUsage namespace key) = Ok (asks.ChainUsage namespace key)
asked_command command = Err (BadField fields.Do (Some Text))

-- the same of the command of a line
abbrev pub asked_in : Line → Result Asked Fault
asked_in (lines.Command session command) = asked_command command
asked_in lines.Empty = Err (BadField fields.Do (Some Text))

-- what a question asks, by the fields that it may have: it is read as in a script
unfoldable pub asked_of : FieldRule → Data → Result Asked Fault
asked_of rule line = command_in rule true line >>= asked_in

-- ---- what they are answered

-- the answer of a usage, or of why there is none
abbrev pub usage_answer : Result Usage Refusal → Answer
usage_answer (Ok usage) = Reply (replies.Usage usage)
usage_answer (Err why) = Reply (replies.Refused why)

-- what the command is answered in a script, with the field that its refusal is about
abbrev pub answer_to : State → Asked → Answer
answer_to s (asks.Question question) = command_answer (call_subjects (asking question)) (Reply (reply_to s question))
answer_to s (asks.ChainUsage namespace key) = command_answer key_subjects (usage_answer (chain_usage s namespace key))

-- the lines of the answers, in order, each as the rule tells it
abbrev pub answers_text : FieldRule → State → List Asked → List ℕ
answers_text rule s [] = []
answers_text rule s (asked ∷ more) = answer_line (answer_told rule (answer_to s asked)) ++ answers_text rule s more
