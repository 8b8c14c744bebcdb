-- What a line of a saved store makes of a script that has no store.
use Rattle.std.specs.Prelude.{Option, None, Some, Result, Ok, Err}
use Rattle.std.specs.Option.{option_map_or}
use Rattle.std.specs.Result.{result_ok}
use Rattle.snap_path.specs.declared.memory.NoMemory.{NoMemory}
use Rattle.snap_call.specs.Results.{◌>>=◌}
use Rattle.snap_call.specs.declared.call.Call.TheVariants as calls
use Rattle.snap_call.specs.declared.refusal.Refusal.TheVariants as refusals
use Rattle.snap_call.specs.declared.reply.Reply.TheVariants as replies
use Rattle.snap_world.specs.declared.fault.RestoreFault.{RestoreFault}
use Rattle.snap_world.specs.declared.fault.RestoreFault.TheVariants as world_faults
use Rattle.snap_world.specs.declared.step.Step.TheVariants.{Locked}
use Rattle.snap_world.specs.Move.{move}
use Rattle.snap_world.specs.Restored.{SavedWorldValue, restored}
use Rattle.snap_world.specs.World.{WorldValue}
use Rattle.snap_pieces.specs.declared.field.LineField.{LineField}
use Rattle.snap_pieces.specs.declared.line.Line.{Line}
use Rattle.snap_checkpoint.specs.Lines.{LineGatheringValue, line_put}
use Rattle.snap_checkpoint.specs.declared.fault.StoreFault.{StoreFault}
use Rattle.snap_checkpoint.specs.declared.fault.StoreFault.TheVariants as store_faults
use Rattle.snap_script.specs.declared.answer.Answer.{Answer}
use Rattle.snap_script.specs.declared.answer.Answer.TheVariants as answers
use Rattle.snap_script.specs.declared.restore.RestoreRefusal.{RestoreRefusal}
use Rattle.snap_script.specs.declared.restore.RestoreRefusal.TheVariants as restore_refusals
use Rattle.snap_session.specs.Commands.{round_opened}
use Rattle.snap_session.specs.Opened.{OpenedValue, ScriptValue}

-- why a line isn't taken, or that memory was refused
abbrev pub store_told : StoreFault → Result RestoreRefusal NoMemory
store_told store_faults.Misplaced = Ok restore_refusals.Misplaced
store_told store_faults.Incomplete = Ok restore_refusals.Incomplete
store_told store_faults.TooBig = Ok restore_refusals.TooBig
store_told store_faults.LabelTwice = Ok restore_refusals.LabelTwice
store_told store_faults.TooManyLabels = Ok restore_refusals.TooManyLabels
store_told (store_faults.Layer place part fault) = Ok (restore_refusals.Layer place part fault)
store_told (store_faults.OutOfMemory no_memory) = Err no_memory

-- why a saved store isn't opened, or that memory was refused
abbrev pub world_told : RestoreFault → Result RestoreRefusal NoMemory
world_told (world_faults.Config field) = Ok (restore_refusals.Config field)
world_told world_faults.Entries = Ok restore_refusals.Entries
world_told (world_faults.Snapshot place why) = Ok (restore_refusals.Snapshot place why)
world_told (world_faults.Lease place why) = Ok (restore_refusals.Lease place why)
world_told world_faults.NextId = Ok restore_refusals.NextId
world_told (world_faults.Journal why) = Ok (restore_refusals.Journal why)
world_told (world_faults.OutOfMemory no_memory) = Err no_memory

-- the answer that says so
abbrev pub restore_answer : Result RestoreRefusal NoMemory → Answer
restore_answer (Ok why) = answers.BadRestore why
restore_answer (Err no_memory) = answers.Reply (replies.Refused (refusals.OutOfMemory no_memory))

-- the world with its session 0, and the answer
abbrev pub opened_again : WorldValue → OpenedValue × Answer
opened_again w = let after = round_opened (move w (Locked 0 calls.Session)) in (record { world = after.0 }, after.1)

-- the store of a saved one, and its session 0, as after a roll
abbrev pub begun_again : SavedWorldValue → Result (OpenedValue × Answer) RestoreFault
begun_again saved = do
  w ← restored saved
  Ok (opened_again w)

-- the store stands, or it can't be opened, and no other then
abbrev pub store_restored : ScriptValue → Result (OpenedValue × Answer) RestoreFault → ScriptValue × Answer
store_restored s (Ok begun) = (record s { store = Some begun.0 }, begun.1)
store_restored s (Err fault) = (record s { lost = result_ok (world_told fault) }, restore_answer (world_told fault))

-- what is gathered with a line, of which nothing is left after a fault, and the store at the end
abbrev pub line_taken : ScriptValue → Result (Option LineGatheringValue × Option SavedWorldValue) StoreFault → ScriptValue × Answer
line_taken s (Err fault) = (record s { gathered = None }, restore_answer (store_told fault))
line_taken s (Ok (gathered, None)) = (record s { gathered = gathered }, answers.Reply replies.Done)
line_taken s (Ok (gathered, Some saved)) = store_restored (record s { gathered = gathered }) (begun_again saved)

-- the same of what was read of a line; a field that is missing or isn't of its kind ends what is gathered
abbrev pub line_given : ScriptValue → Result Line LineField → ScriptValue × Answer
line_given s (Ok line) = line_taken s (line_put s.gathered line)
line_given s (Err field) = (record s { gathered = None }, answers.BadRestore (restore_refusals.BadField field))

-- a line of a saved store; where one couldn't be opened, none can be any more
abbrev pub restored_by : ScriptValue → Result Line LineField → ScriptValue × Answer
restored_by s line = option_map_or (λ why. (s, answers.BadRestore why)) s.lost (line_given s line)
