-- What a refusal is about: a field of its command. The tests of each call, in their order, are those of `step` of snap_call, and those of each operation `tests` of snap_upper.
use Rattle.std.specs.Prelude.{◌==◌, true, not, ◌&&◌, nat_le, nat_lt, if◌then◌else◌, List, length, Option, Some, None, Err}
use Rattle.std.specs.List.{list_all}
use Rattle.std.specs.Option.{option_map_or}
use Rattle.snap_path.specs.Limits.{most_mode, most_sized_bytes}
use Rattle.snap_usage.specs.declared.usage.Usage.{Usage}
use Rattle.snap_merge.specs.declared.error.FsError.{FsError}
use Rattle.snap_merge.specs.declared.error.FsError.TheVariants as errors
use Rattle.snap_upper.specs.declared.op.Op.{Op}
use Rattle.snap_upper.specs.declared.op.Op.TheVariants as ops
use Rattle.snap_upper.specs.After.{is_root}
use Rattle.snap_record.specs.Labels.{Bytes, Label, is_label}
use Rattle.snap_record.specs.Updates.{is_update_path, replaces_all}
use Rattle.snap_call.specs.declared.call.Call.{Call}
use Rattle.snap_call.specs.declared.call.Call.TheVariants as calls
use Rattle.snap_call.specs.declared.refusal.Refusal.TheVariants as refusals
use Rattle.snap_call.specs.Forms.{is_key, is_parent, is_start}
use Rattle.snap_call.specs.Questions.{asking}
use Rattle.snap_script.specs.declared.about.Subjects.{Subjects}
use Rattle.snap_script.specs.declared.answer.Answer.{Answer}
use Rattle.snap_script.specs.declared.answer.Answer.TheVariants as answers
use Rattle.snap_script.specs.declared.command.Command.{Command}
use Rattle.snap_script.specs.declared.command.Command.TheVariants as commands
use Rattle.snap_script.specs.declared.fault.Field.{Field}
use Rattle.snap_script.specs.declared.fault.Field.TheVariants as fields
use Rattle.snap_script.specs.declared.refused.Refused.{Refused}
use Rattle.snap_script.specs.declared.refused.Refused.TheVariants as refused
use Rattle.snap_script.specs.Refusals.{refusal_in_answer}

-- the field that an error of a file is about; an error that no field is the cause of has none
abbrev pub about_file : Subjects → FsError → Option Field
about_file s errors.NotFound = Some s.source
about_file s errors.CrossDevice = Some s.source
about_file s errors.NotPermitted = Some s.source
about_file s errors.Invalid = Some s.invalid
about_file s errors.TooBig = Some s.big
about_file s errors.BadPath = Some s.path
about_file s errors.NotDir = Some s.path
about_file s errors.IsDir = Some s.path
about_file s errors.Exists = Some s.path
about_file s errors.NotEmpty = Some s.path
about_file s errors.TooManyLinks = Some s.path
about_file s errors.LayerFull = None
about_file s (errors.NeedsCharge after) = None
about_file s (errors.OutOfMemory want) = None

-- the field that a refusal is about; one that no field alone is the cause of has none
abbrev pub about : Subjects → Refused → Option Field
about s (refused.Book refusals.BadArgument) = Some s.malformed
about s (refused.Book refusals.NotFound) = Some s.missing
about s (refused.Book refusals.NotCommitted) = Some s.missing
about s (refused.Book refusals.AlreadyExists) = Some s.taken
about s (refused.Book (refusals.OverLimit free_blocks free_inodes)) = s.amount
about s (refused.Book refusals.NoNamespace) = Some fields.Namespace
about s (refused.Book refusals.NamespaceExists) = Some fields.Namespace
about s (refused.Book refusals.NotEmpty) = Some fields.Namespace
about s (refused.Book refusals.NotActive) = Some fields.Key
about s (refused.Book refusals.HasChildren) = Some fields.Key
about s (refused.Book refusals.InUse) = Some fields.Key
about s (refused.Book refusals.Leased) = Some fields.Key
about s (refused.Book refusals.NoLease) = Some fields.Lease
about s (refused.Book refusals.LeaseExists) = Some fields.Lease
about s (refused.Book refusals.TooDeep) = Some fields.Parent
about s (refused.Book refusals.TooManyNamespaces) = None
about s (refused.Book refusals.TooManyActives) = None
about s (refused.Book refusals.BelowCharge) = None
about s (refused.Book refusals.NumbersSpent) = None
about s (refused.Book refusals.JournalFull) = None
about s (refused.Book (refusals.OutOfMemory want)) = None
about s (refused.File error) = about_file s error
about s refused.NoHand = Some fields.Key
about s refused.NoSession = None
about s refused.StillOut = None
about s (refused.BadRestore why) = None

-- ---- the subjects of a command

-- those of a command on the snapshot of a key, or on a path of it
abbrev pub key_subjects : Subjects
key_subjects = record { malformed = fields.Key; missing = fields.Key; taken = fields.Key; amount = None; source = fields.Path; invalid = fields.Path; big = fields.Path; path = fields.Path }

-- of a new snapshot on a parent: the first of the key, the parent and the labels that is malformed
abbrev pub new_subjects : Bytes → Bytes → Subjects
new_subjects key parent = record key_subjects { malformed = if not (is_key key) then fields.Key else if not (is_parent parent) then fields.Parent else fields.Labels; missing = fields.Parent }

-- of a commit: the first of the name, the lease and the labels
abbrev pub commit_subjects : Bytes → Option Bytes → Subjects
commit_subjects name lease = record key_subjects { malformed = if not (is_key name) then fields.Name else if not (option_map_or is_key lease true) then fields.Lease else fields.Labels; taken = fields.Name }

-- the first of the two quantities of a limit that is above 2^40
abbrev pub beyond : Usage → Field
beyond limit = if nat_lt 1099511627776 limit.blocks then fields.Blocks else fields.Inodes

-- what is malformed of an update: the key, a label, a path, or else there would be more than 64 labels: the given ones where they replace all, or by the paths
abbrev pub malformed_update : Bytes → List Label → List Bytes → Field
malformed_update key labels paths =
    if not (is_key key) then fields.Key
    else if not (list_all is_label labels) then fields.Labels
    else if not (list_all is_update_path paths) then fields.Paths
    else if replaces_all paths then fields.Labels else fields.Paths

-- of a walk, and of a page of a tree
abbrev pub malformed_walk : Bytes → Field
malformed_walk after = if is_start after then fields.Most else fields.After

-- of a namespace that is to be made: its name has at most 255 bytes
abbrev pub malformed_namespace : Bytes → Usage → Field
malformed_namespace name limit = if is_key name && nat_le (length name) 255 then beyond limit else fields.Namespace

-- the subjects of a call on a name in a lease
abbrev pub lease_name_subjects : Bytes → Subjects
lease_name_subjects lease = record key_subjects { malformed = if is_key lease then fields.Name else fields.Lease; missing = fields.Name }

-- of a call, as its line has it
abbrev pub call_subjects : Call → Subjects
call_subjects (calls.Prepare namespace key parent labels) = new_subjects key parent
call_subjects (calls.View namespace key parent labels) = new_subjects key parent
call_subjects (calls.Commit slot id name lease labels) = commit_subjects name lease
call_subjects (calls.Update namespace key labels paths) = record key_subjects { malformed = malformed_update key labels paths }
call_subjects (calls.Walk namespace after most asked) = record key_subjects { malformed = malformed_walk after }
call_subjects (calls.SetLimit namespace limit) = record key_subjects { malformed = beyond limit }
call_subjects (calls.NamespaceCreate namespace limit) = record key_subjects { malformed = malformed_namespace namespace limit }
call_subjects (calls.LeaseCreate namespace lease until) = record key_subjects { malformed = fields.Lease }
call_subjects (calls.LeaseRelease namespace lease) = record key_subjects { malformed = fields.Lease }
call_subjects (calls.LeaseAdd namespace lease name) = lease_name_subjects lease
call_subjects (calls.LeaseDrop namespace lease name) = lease_name_subjects lease
call_subjects call = key_subjects

-- of a command
abbrev pub subjects : Command → Subjects
subjects (commands.Call call) = call_subjects call
subjects (commands.Ask question) = call_subjects (asking question)
subjects (commands.Commit namespace key name lease labels) = commit_subjects name lease
subjects (commands.Charge namespace key need want) = record key_subjects { amount = Some fields.Need }
subjects (commands.Batch namespace key need ops whole) = record key_subjects { amount = Some fields.Need }
subjects (commands.File namespace key (Err field) extra) = record key_subjects { path = field }
subjects (commands.Tree namespace (Some page)) = record key_subjects { malformed = malformed_walk page.after }
subjects (commands.Diff namespace key after most) = record key_subjects { malformed = fields.Most; path = fields.After }
subjects (commands.Journal namespace after most full) = record key_subjects { malformed = fields.Most }
subjects (commands.Reopen journal) = record key_subjects { malformed = fields.Journal }
subjects (commands.Roll journal) = record key_subjects { malformed = fields.Journal }
subjects command = key_subjects

-- ---- the subjects of an operation

-- those of an operation to whose paths the ways are there: of a write that is too long the text, where it begins at the start, of two paths the first for what is moved or linked
abbrev pub operation_subjects : Op → Subjects
operation_subjects (ops.Mkdir path mode) = record key_subjects { invalid = fields.Mode }
operation_subjects (ops.Create path mode) = record key_subjects { invalid = fields.Mode }
operation_subjects (ops.Put path mode size digest) = record key_subjects { invalid = fields.Mode; big = if nat_lt most_sized_bytes size then fields.Size else fields.Digest }
operation_subjects (ops.Write path offset bytes) = record key_subjects { big = if offset == 0 then fields.Text else fields.Offset }
operation_subjects (ops.Truncate path size) = record key_subjects { big = fields.Size }
operation_subjects (ops.SetMode path mode) = record key_subjects { invalid = if nat_lt most_mode mode then fields.Mode else fields.Path }
operation_subjects (ops.Symlink path target) = record key_subjects { invalid = fields.Target; big = fields.Target }
operation_subjects (ops.Link from to) = record key_subjects { source = fields.From; path = fields.To }
operation_subjects (ops.Rename from to) = record key_subjects { source = fields.From; invalid = if is_root from then fields.From else fields.To; path = fields.To }
operation_subjects op = key_subjects

-- ---- answers

-- the answer with what its refusal is about
abbrev pub answer_about : (Refused → Option Field) → Answer → Answer
answer_about tells answer = option_map_or (λ why. answers.Refused why (tells why)) (refusal_in_answer answer) answer

-- the answer of a command with what its refusal is about, where that of an operation isn't told already
abbrev pub command_answer : Subjects → Answer → Answer
command_answer s (answers.Refused why of) = answers.Refused why of
command_answer s (answers.Batch done count share stopped) = answers.Batch done count share stopped
command_answer s answer = answer_about (about s) answer
