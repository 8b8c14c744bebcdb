-- What refusals are called, and which answers tell of one; cited by the public clauses of `Refused` and `Answer::refusal`.
use Rattle.std.specs.Prelude.{ℕ, List, Option, Some, None, codes}
use Rattle.snap_usage.specs.declared.usage.Usage.{Usage}
use Rattle.snap_merge.specs.declared.error.FsError.{FsError}
use Rattle.snap_merge.specs.declared.error.FsError.TheVariants as errors
use Rattle.snap_call.specs.declared.config.ConfigField.{ConfigField}
use Rattle.snap_call.specs.declared.config.ConfigField.TheVariants as config_fields
use Rattle.snap_call.specs.declared.refusal.Refusal.TheVariants as refusals
use Rattle.snap_call.specs.declared.reply.Reply.TheVariants as replies
use Rattle.snap_values.specs.Values.{refusal_name}
use Rattle.snap_script.specs.declared.answer.Answer.{Answer}
use Rattle.snap_script.specs.declared.answer.Answer.TheVariants as answers
use Rattle.snap_script.specs.declared.refused.Refused.{Refused}
use Rattle.snap_script.specs.declared.refused.Refused.TheVariants as refused

-- the name of each error of a file call
abbrev pub error_name : FsError → List ℕ
error_name errors.BadPath = codes "BadPath"
error_name errors.NotFound = codes "NotFound"
error_name errors.NotDir = codes "NotDir"
error_name errors.IsDir = codes "IsDir"
error_name errors.Exists = codes "Exists"
error_name errors.NotEmpty = codes "NotEmpty"
error_name errors.CrossDevice = codes "CrossDevice"
error_name errors.Invalid = codes "Invalid"
error_name errors.NotPermitted = codes "NotPermitted"
error_name errors.TooBig = codes "TooBig"
error_name errors.LayerFull = codes "LayerFull"
error_name (errors.NeedsCharge after) = codes "NeedsCharge"
error_name errors.TooManyLinks = codes "TooManyLinks"
error_name (errors.OutOfMemory want) = codes "OutOfMemory"

-- the name of a refusal, as its answer has it
abbrev pub refused_name : Refused → List ℕ
refused_name (refused.Book why) = refusal_name why
refused_name (refused.File error) = error_name error
refused_name refused.NoSession = codes "NoSession"
refused_name refused.NoHand = codes "NoHand"
refused_name refused.StillOut = codes "StillOut"
refused_name (refused.BadRestore why) = codes "BadRestore"

-- where it is from, as its answer has it
abbrev pub refused_from : Refused → List ℕ
refused_from (refused.Book why) = codes "book"
refused_from (refused.File error) = codes "file"
refused_from (refused.BadRestore why) = codes "restore"
refused_from why = codes "world"

-- what the namespace has free, where a call was over its limit
abbrev pub free_at_refusal : Refused → Option Usage
free_at_refusal (refused.Book (refusals.OverLimit free_blocks free_inodes)) = Some (record { blocks = free_blocks; inodes = free_inodes })
free_at_refusal why = None

-- the parts of a configuration as the fields of `open`; no line gives the first id
abbrev pub config_field_name : ConfigField → List ℕ
config_field_name config_fields.Root = codes "root"
config_field_name config_fields.Namespaces = codes "namespaces"
config_field_name config_fields.Slots = codes "slots"
config_field_name config_fields.Journal = codes "journal"
config_field_name config_fields.FirstId = codes "first_id"
config_field_name config_fields.LayerInodes = codes "layer_inodes"
config_field_name config_fields.Ancestors = codes "ancestors"

-- why the command was refused, where the answer says so: each answer that has an `error`
abbrev pub refusal_in_answer : Answer → Option Refused
refusal_in_answer (answers.Reply (replies.Refused why)) = Some (refused.Book why)
refusal_in_answer (answers.BadConfig field) = Some (refused.Book refusals.BadArgument)
refusal_in_answer (answers.Batch done count share (Some operation)) = Some operation.why
refusal_in_answer (answers.Failed error) = Some (refused.File error)
refusal_in_answer answers.NoSession = Some refused.NoSession
refusal_in_answer answers.NoHand = Some refused.NoHand
refusal_in_answer answers.StillOut = Some refused.StillOut
refusal_in_answer (answers.BadRestore why) = Some (refused.BadRestore why)
refusal_in_answer (answers.Refused why of) = Some why
refusal_in_answer answer = None
