-- What a script answers, line for line, and its first fault; cited by the public clauses of `replay`.
use Rattle.std.specs.Prelude.{List, [], ℕ, if◌then◌else◌, Option, None, Some, is_some, Result, Ok, Err}
use Rattle.std.specs.Option.{option_map, option_map_or, option_or}
use Rattle.snap_call.specs.Results.{◌>>=◌}
use Rattle.snap_call.specs.declared.config.Config.{Config}
use Rattle.snap_script.specs.declared.answer.Answer.{Answer}
use Rattle.snap_script.specs.declared.answer.Answer.TheVariants.{BadRestore, NoSession}
use Rattle.snap_script.specs.declared.command.Command.{Command as AnyCommand}
use Rattle.snap_script.specs.declared.command.Command.TheVariants.{Open, Restore, Save}
use Rattle.snap_script.specs.declared.restore.RestoreRefusal.TheVariants.{Misplaced}
use Rattle.snap_script.specs.declared.fault.Fault.{Fault}
use Rattle.snap_script.specs.declared.fault.Fault.TheVariants as faults
use Rattle.snap_script.specs.declared.line.Line.{Line}
use Rattle.snap_script.specs.declared.line.Line.TheVariants.{Empty, Command}
use Rattle.snap_script.specs.Refusals.{refusal_in_answer}
use Rattle.snap_script.specs.Answers.{answer_line, answer_told}
use Rattle.snap_script.specs.Lines.{line_of}
use Rattle.snap_lines.specs.Effects.{Effect, Effects}
use Rattle.snap_lines.specs.Transcripts.{Stops, Transcript, max_bytes, transcript}
use Rattle.snap_lines.specs.declared.stop.Stop.{Stop}
use Rattle.snap_session.specs.declared.run.RunOptions.{RunOptions}
use Rattle.snap_session.specs.Opened.{OpenedValue, ScriptValue, unopened}
use Rattle.snap_session.specs.Commands.{command_done, store_opened}
use Rattle.snap_session.specs.Pages.{PagesValue, no_pages, page_told}
use Rattle.snap_session.specs.Restoring.{restored_by}

-- the script with the store that a command leaves, and its answer
abbrev pub with_store : ScriptValue → Option OpenedValue × Answer → ScriptValue × Answer
with_store s after = (record s { store = after.0 }, after.1)

-- the first command: open has no place among the lines of a saved store, nor after a saved store that couldn't be opened
abbrev pub opened_by : ScriptValue → Config → ScriptValue × Answer
opened_by s config = option_map_or (λ why. (s, BadRestore why)) (option_or s.lost (option_map (λ g. Misplaced) s.gathered)) (with_store s (store_opened config))

-- a command of a script without a store
abbrev pub first_done : ScriptValue → AnyCommand → ScriptValue × Answer
first_done s (Open config) = opened_by s config
first_done s (Restore line) = restored_by s line
first_done s command = (s, NoSession)

-- a command in the session n, and its answer: it doesn't spend the name
abbrev pub script_done : ScriptValue → ℕ → AnyCommand → ScriptValue × Answer
script_done s n command = option_map_or (λ opened. with_store s (command_done (Some opened) n command)) s.store (first_done s command)

-- the lines of the saved store that are asked for: after how many, and how many at most
abbrev pub page_wanted : AnyCommand → Option (ℕ × ℕ)
page_wanted (Save after most) = Some (after, most)
page_wanted command = None

-- a script, and how many lines of saved stores have come, with those that are left of the last one
pub record SteppedValue : Type 0 where
  pub script : ScriptValue
  pub pages : PagesValue

-- a page of the store's lines
abbrev pub paged : SteppedValue → ℕ → ℕ → SteppedValue × Option Answer
paged s after most = option_map_or (λ opened. let page = page_told opened.world s.pages after most in (record s { pages = page.0 }, Some page.1)) s.script.store (s, Some NoSession)

-- what a line makes of a script, and its answer: an empty line does nothing and has none, any other does its command
abbrev pub line_step : SteppedValue → Line → SteppedValue × Option Answer
line_step s Empty = (s, None)
line_step s (Command session command) =
    option_map_or (λ wanted. paged s wanted.0 wanted.1) (page_wanted command)
    (let after = script_done s.script session command in (record s { script = after.0 }, Some after.1))

-- a script, and how it is run
pub record RunnerValue : Type 0 where
  pub stepped : SteppedValue
  pub options : RunOptions

-- before the first line
abbrev pub unstepped : SteppedValue
unstepped = record { script = unopened; pages = no_pages }

-- the same of a run
abbrev pub unbegun : RunOptions → RunnerValue
unbegun options = record { stepped = unstepped; options = options }

-- the line of an answer, told by the rule of the run's fields, or, where refusals end the run, that its command was refused
abbrev pub text_told : RunOptions → Answer → Result (List ℕ) Fault
text_told options answer = option_map_or (λ why. Err (faults.Refused why)) (if options.stops_at_refusal then refusal_in_answer answer else None) (Ok (answer_line (answer_told options.fields answer)))

-- the same of the answer that there may be
abbrev pub answer_text_of : RunOptions → Option Answer → Result (List ℕ) Fault
answer_text_of options answer = option_map_or (text_told options) answer (Ok [])

-- the effect of a step
abbrev pub effect_step : RunOptions → SteppedValue × Option Answer → Result (Effect RunnerValue) Fault
effect_step options after = do Ok (record { value = record { stepped = after.0; options = options }; text = (← answer_text_of options after.1) })

-- what the bytes of a line do
unfoldable pub effect_of : Effects RunnerValue
effect_of r bytes = do effect_step r.options (line_step r.stepped (← line_of r.options.fields (is_some r.stepped.script.store) bytes))

-- the transcript of a script that is run so, which begins without a store; its lines have at most 1 GiB
abbrev pub script : RunOptions → List ℕ → Transcript RunnerValue
script options = transcript (Some max_bytes) effect_of (unbegun options)

-- what was written where the run of a script over these bytes stops, with what the input has left
abbrev pub HasStopped : RunOptions → List ℕ → Option (List ℕ) → Stop → Option (List ℕ) → Option (List ℕ) → Type 0
HasStopped options = Stops (Some max_bytes) effect_of (unbegun options)
