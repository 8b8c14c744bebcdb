-- The commands of a script; cited by the public clause of `read_line` through Lines.antt. The fields of a command are
-- tested in the order in which they stand.
use Rattle.std.specs.Prelude.{ℕ, Bool, [], false, if◌then◌else◌, Option, None, Some, unwrap_or, Result, Ok}
use Rattle.serde_json.specs.Data.{Data}
use Rattle.serde_json.specs.Find.{as_bool, as_str}
use Rattle.snap_path.specs.Limits.{most_file_bytes}
use Rattle.snap_layer.specs.Counts.{default_inodes}
use Rattle.snap_record.specs.Labels.{Bytes}
use Rattle.snap_record.specs.declared.filter.Filter.{Filter}
use Rattle.snap_call.specs.declared.call.Call.TheVariants as calls
use Rattle.snap_call.specs.declared.config.Config.{Config}
use Rattle.snap_call.specs.declared.question.Question.{Question}
use Rattle.snap_call.specs.declared.question.Question.TheVariants as questions
use Rattle.snap_call.specs.Questions.{asking}
use Rattle.snap_call.specs.Records.{default_slots, max_journal}
use Rattle.snap_call.specs.State.{default_ancestors}
use Rattle.snap_call.specs.Results.{◌>>=◌}
use Rattle.snap_history.specs.declared.kind.CallKind.{CallKind}
use Rattle.snap_history.specs.declared.kind.CallKind.TheVariants as kinds
use Rattle.snap_pieces.specs.Read.{line_said}
use Rattle.snap_script.specs.declared.fault.Field.TheVariants as fields
use Rattle.snap_script.specs.declared.fault.Fault.{Fault}
use Rattle.snap_script.specs.declared.command.Command.{Command}
use Rattle.snap_script.specs.declared.command.Command.TheVariants as commands
use Rattle.snap_script.specs.declared.command.Lookup.{Lookup}
use Rattle.snap_script.specs.declared.command.Page.{Page}
use Rattle.snap_script.specs.declared.command.Lookup.TheVariants as lookups
use Rattle.snap_script.specs.declared.unknown.FieldRule.{FieldRule}
use Rattle.snap_script.specs.declared.verb.Verb.{Verb}
use Rattle.snap_script.specs.declared.verb.Verb.TheVariants as verbs
use Rattle.snap_script.specs.declared.verb.LookupVerb.{LookupVerb}
use Rattle.snap_script.specs.declared.verb.LookupVerb.TheVariants as lookup_verbs
use Rattle.snap_script.specs.Fields.{text, required, optional, given, as_natural, as_usage, as_texts, as_kind, as_labels, as_label_filters, as_namespaces, labels_of_update}
use Rattle.snap_script.specs.Operations.{path_in, file_operation, operations}

-- the snapshot that a command names: its namespace and its key
unfoldable pub named : Data → Result (Bytes × Bytes) Fault
named line = do namespace ← text fields.Namespace line; key ← text fields.Key line; Ok (namespace, key)

-- the store that open names, by its root, its namespaces, the most entries of its journal, how many slots it has, the most inodes of a layer, and the most committed ancestors of a snapshot. The first id is 1.
unfoldable pub config_of : Data → Result Config Fault
config_of line = do
  root ← text fields.Root line
  namespaces ← required as_namespaces fields.Namespaces line
  journal ← optional as_natural fields.Journal (Ok max_journal) line
  slots ← optional as_natural fields.Slots (Ok default_slots) line
  inodes ← optional as_natural fields.LayerInodes (Ok default_inodes) line
  ancestors ← optional as_natural fields.Ancestors (Ok default_ancestors) line
  Ok (record { root = root; namespaces = namespaces; slots = slots; journal = journal; first_id = 1; layer_inodes = inodes; ancestors = ancestors })

-- the filter of a walk: each part that is there is asked for
unfoldable pub filter_of : Data → Result Filter Fault
filter_of line = do
  name ← given as_str fields.Name line
  parent ← given as_str fields.Parent line
  kind ← given as_kind fields.Kind line
  labels ← optional as_label_filters fields.Labels (Ok []) line
  Ok (record { name = name; parent = parent; kind = kind; labels = labels })

-- what is asked, by the call that asks it, or quietly: without an entry
abbrev pub asked_as : Bool → Question → Command
asked_as quiet question = if quiet then commands.Ask question else commands.Call (asking question)

-- the same, as the line says; it isn't quiet where the line doesn't say
unfoldable pub asked_by : Data → Question → Result Command Fault
asked_by line question = do Ok (asked_as (← optional as_bool fields.Quiet (Ok false) line) question)

-- the command of a line that is a call by its kind, mostly on a snapshot s; `prepare`, `view`, `commit`, `remove`, `update` and `walk` are containerd's calls of these names. A charge wants what it needs where it names no other; a usage is asked for alone or with the ancestors', and a sweep made or only tried
unfoldable pub call_of : CallKind → Data → Result Command Fault
call_of kinds.Session line = Ok commands.Session
call_of kinds.Prepare line = do s ← named line; Ok (commands.Call (calls.Prepare s.0 s.1 (← text fields.Parent line) (← optional as_labels fields.Labels (Ok []) line)))
call_of kinds.View line = do s ← named line; Ok (commands.Call (calls.View s.0 s.1 (← text fields.Parent line) (← optional as_labels fields.Labels (Ok []) line)))
call_of kinds.Charge line = do s ← named line; need ← required as_usage fields.Need line; Ok (commands.Charge s.0 s.1 need (← optional as_usage fields.Want (Ok need) line))
call_of kinds.Trim line = do s ← named line; Ok (commands.Trim s.0 s.1)
call_of kinds.Commit line = do s ← named line; Ok (commands.Commit s.0 s.1 (← text fields.Name line) (← given as_str fields.Lease line) (← given as_labels fields.Labels line))
call_of kinds.Discard line = do s ← named line; Ok (commands.Discard s.0 s.1)
call_of kinds.Remove line = do s ← named line; Ok (commands.Call (calls.Remove s.0 s.1))
call_of kinds.Stat line = do s ← named line; asked_by line (questions.Stat s.0 s.1)
call_of kinds.Update line = do s ← named line; found ← required as_labels fields.Labels line; paths ← optional as_texts fields.Paths (Ok []) line; Ok (commands.Call (calls.Update s.0 s.1 (labels_of_update line paths found) paths))
call_of kinds.Usage line = do s ← named line; chain ← optional as_bool fields.Chain (Ok false) line; quiet ← optional as_bool fields.Quiet (Ok false) line; Ok (if chain then commands.ChainUsage s.0 s.1 else asked_as quiet (questions.Usage s.0 s.1))
call_of kinds.Mounts line = do s ← named line; asked_by line (questions.Mounts s.0 s.1)
call_of kinds.Walk line = do namespace ← text fields.Namespace line; after ← optional as_str fields.After (Ok []) line; most ← optional as_natural fields.Most (Ok 64) line; asked ← filter_of line; asked_by line (questions.Walk namespace after most asked)
call_of kinds.Limit line = do Ok (commands.Call (calls.SetLimit (← text fields.Namespace line) (record { blocks = (← required as_natural fields.Blocks line); inodes = (← required as_natural fields.Inodes line) })))
call_of kinds.NamespaceCreate line = do Ok (commands.Call (calls.NamespaceCreate (← text fields.Namespace line) (record { blocks = (← required as_natural fields.Blocks line); inodes = (← required as_natural fields.Inodes line) })))
call_of kinds.NamespaceRemove line = do Ok (commands.Call (calls.NamespaceRemove (← text fields.Namespace line)))
call_of kinds.LeaseCreate line = do Ok (commands.Call (calls.LeaseCreate (← text fields.Namespace line) (← text fields.Lease line) (← given as_natural fields.Until line)))
call_of kinds.LeaseAdd line = do Ok (commands.Call (calls.LeaseAdd (← text fields.Namespace line) (← text fields.Lease line) (← text fields.Name line)))
call_of kinds.LeaseDrop line = do Ok (commands.Call (calls.LeaseDrop (← text fields.Namespace line) (← text fields.Lease line) (← text fields.Name line)))
call_of kinds.LeaseRelease line = do Ok (commands.Call (calls.LeaseRelease (← text fields.Namespace line) (← text fields.Lease line)))
call_of kinds.Sweep line = do namespace ← text fields.Namespace line; moment ← required as_natural fields.Moment line; Ok (if (← optional as_bool fields.Try (Ok false) line) then commands.TrySweep namespace moment else commands.Call (calls.Sweep namespace moment))

-- what a read asks for: without an offset and a number of bytes the first ones, else a part, which begins at the first byte where no offset is named and has as many bytes as a file may have where no number is
abbrev pub read_asked : Option ℕ → Option ℕ → Lookup
read_asked None None = lookups.Read
read_asked offset most = lookups.Part (unwrap_or offset 0) (unwrap_or most most_file_bytes)

-- what a line asks of a path
unfoldable pub lookup_of : LookupVerb → Data → Result Lookup Fault
lookup_of lookup_verbs.Look line = Ok lookups.Look
lookup_of lookup_verbs.List line = Ok lookups.List
lookup_of lookup_verbs.Read line = do Ok (read_asked (← given as_natural fields.Offset line) (← given as_natural fields.Most line))
lookup_of lookup_verbs.Resolve line = Ok lookups.Resolve
lookup_of lookup_verbs.Usage line = Ok lookups.Usage

-- the page of a list that is asked for, by what it begins after and by the most items that it has: none where neither is there, else from the first item on where nothing is named, and of 64 items where no number is
abbrev pub page_asked : Option Bytes → Option ℕ → Option Page
page_asked None None = None
page_asked after most = Some (record { after = unwrap_or after []; most = unwrap_or most 64 })

-- the page that a line asks for
unfoldable pub page_in : Data → Result (Option Page) Fault
page_in line = do Ok (page_asked (← given as_str fields.After line) (← given as_natural fields.Most line))

-- a batch on a snapshot s: what it charges, the operations, as a job has them, and whether all are done or none
unfoldable pub batch_of : FieldRule → Data → Result Command Fault
batch_of rule line = do s ← named line; need ← required as_usage fields.Need line; ops ← operations rule line; Ok (commands.Batch s.0 s.1 need ops (← optional as_bool fields.Whole (Ok false) line))

-- the question for a snapshot's changes
unfoldable pub diff_of : Data → Result Command Fault
diff_of line = do s ← named line; Ok (commands.Diff s.0 s.1 (← optional as_str fields.After (Ok []) line) (← optional as_natural fields.Most (Ok 64) line))

-- how many lines of a saved store a save gives at most, whatever its line says
abbrev pub most_saved : ℕ
most_saved = 1024

-- the command of a line by its verb, and by the fields that its operations may have; a file command and a lookup are on a snapshot s
unfoldable pub command_of : FieldRule → Verb → Data → Result Command Fault
command_of rule verbs.Open line = do Ok (commands.Open (← config_of line))
command_of rule verbs.Reopen line = do Ok (commands.Reopen (← optional as_natural fields.Journal (Ok max_journal) line))
command_of rule verbs.Roll line = do Ok (commands.Roll (← optional as_natural fields.Journal (Ok max_journal) line))
command_of rule (verbs.Call kind) line = call_of kind line
command_of rule (verbs.File verb) line = do s ← named line; Ok (commands.File s.0 s.1 (← file_operation verb line) (← optional as_usage fields.Extra (Ok (record { blocks = 0; inodes = 0 })) line))
command_of rule verbs.Batch line = batch_of rule line
command_of rule (verbs.Lookup verb) line = do s ← named line; path ← path_in fields.Path line; asked ← lookup_of verb line; Ok (commands.Lookup s.0 s.1 asked path (← optional as_bool fields.Peek (Ok false) line))
command_of rule verbs.Quota line = do Ok (commands.Quota (← given as_str fields.Namespace line))
command_of rule verbs.Leases line = do Ok (commands.Leases (← text fields.Namespace line) (← given as_str fields.Lease line))
command_of rule verbs.Tree line = do Ok (commands.Tree (← text fields.Namespace line) (← page_in line))
command_of rule verbs.Diff line = diff_of line
command_of rule verbs.Journal line = do Ok (commands.Journal (← given as_str fields.Namespace line) (← optional as_natural fields.After (Ok 0) line) (← optional as_natural fields.Most (Ok 64) line) (← optional as_bool fields.Full (Ok false) line))
command_of rule verbs.Report line = Ok commands.Report
command_of rule verbs.Restore line = Ok (commands.Restore (line_said line))
command_of rule verbs.Save line = do Ok (commands.Save (← optional as_natural fields.After (Ok 0) line) (← optional as_natural fields.Most (Ok most_saved) line))
