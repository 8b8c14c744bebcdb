-- The fields that a line may have, where unknown ones are faults; cited by the public clauses of `read_line` and
-- `read_request` through Lines.antt.
use Rattle.std.specs.Prelude.{ℕ, Bool, true, false, ◌||◌, if◌then◌else◌, List, [], ◌∷◌, Option, Some, None, find, option_and_then, Result, Ok, Err}
use Rattle.std.specs.List.{list_any}
use Rattle.std.specs.Str.{bytes_eq}
use Rattle.serde_json.specs.Data.{Data, Members, no_members, member}
use Rattle.serde_json.specs.Find.{as_object}
use Rattle.snap_history.specs.declared.kind.CallKind.TheVariants as kinds
use Rattle.snap_script.specs.declared.fault.Field.{Field}
use Rattle.snap_script.specs.declared.fault.Field.TheVariants as fields
use Rattle.snap_script.specs.declared.fault.Fault.{Fault}
use Rattle.snap_script.specs.declared.fault.Fault.TheVariants.{UnknownField}
use Rattle.snap_script.specs.declared.unknown.FieldRule.{FieldRule}
use Rattle.snap_script.specs.declared.unknown.FieldRule.TheVariants as rules
use Rattle.snap_script.specs.declared.verb.Verb.{Verb}
use Rattle.snap_script.specs.declared.verb.Verb.TheVariants as verbs
use Rattle.snap_script.specs.declared.verb.FileVerb.{FileVerb}
use Rattle.snap_script.specs.declared.verb.FileVerb.TheVariants as file_verbs
use Rattle.snap_script.specs.declared.verb.PathVerb.TheVariants as path_verbs
use Rattle.snap_script.specs.declared.verb.LookupVerb.TheVariants as lookup_verbs
use Rattle.snap_script.specs.Faults.{field_name}
use Rattle.snap_script.specs.Near.{is_near}

-- the fields of an operation, with and without a default
abbrev pub operation_fields : FileVerb → List Field
operation_fields (file_verbs.At path_verbs.Mkdir) = fields.Path ∷ fields.Mode ∷ []
operation_fields (file_verbs.At path_verbs.Create) = fields.Path ∷ fields.Mode ∷ []
operation_fields (file_verbs.At path_verbs.Put) = fields.Path ∷ fields.Mode ∷ fields.Size ∷ fields.Digest ∷ []
operation_fields (file_verbs.At path_verbs.Write) = fields.Path ∷ fields.Offset ∷ fields.Text ∷ fields.Fill ∷ []
operation_fields (file_verbs.At path_verbs.Truncate) = fields.Path ∷ fields.Size ∷ []
operation_fields (file_verbs.At path_verbs.SetMode) = fields.Path ∷ fields.Mode ∷ []
operation_fields (file_verbs.At path_verbs.Symlink) = fields.Path ∷ fields.Target ∷ []
operation_fields (file_verbs.At path_verbs.Unlink) = fields.Path ∷ []
operation_fields (file_verbs.At path_verbs.Rmdir) = fields.Path ∷ []
operation_fields (file_verbs.At path_verbs.Opaque) = fields.Path ∷ []
operation_fields (file_verbs.At path_verbs.Whiteout) = fields.Path ∷ []
operation_fields file_verbs.Link = fields.From ∷ fields.To ∷ []
operation_fields file_verbs.Rename = fields.From ∷ fields.To ∷ []

-- the fields that each command has, with and without a default: a file command those of its operation, and before them what a job has for all its operations
abbrev pub fields_of : Verb → List Field
fields_of verbs.Open = fields.Root ∷ fields.Namespaces ∷ fields.Journal ∷ fields.Slots ∷ fields.LayerInodes ∷ fields.Ancestors ∷ []
fields_of verbs.Reopen = fields.Journal ∷ []
fields_of verbs.Roll = fields.Journal ∷ []
fields_of (verbs.Call kinds.Session) = []
fields_of (verbs.Call kinds.Prepare) = fields.Namespace ∷ fields.Key ∷ fields.Parent ∷ fields.Labels ∷ []
fields_of (verbs.Call kinds.View) = fields.Namespace ∷ fields.Key ∷ fields.Parent ∷ fields.Labels ∷ []
fields_of (verbs.Call kinds.Charge) = fields.Namespace ∷ fields.Key ∷ fields.Need ∷ fields.Want ∷ []
fields_of (verbs.Call kinds.Trim) = fields.Namespace ∷ fields.Key ∷ []
fields_of (verbs.Call kinds.Commit) = fields.Namespace ∷ fields.Key ∷ fields.Name ∷ fields.Lease ∷ fields.Labels ∷ []
fields_of (verbs.Call kinds.Discard) = fields.Namespace ∷ fields.Key ∷ []
fields_of (verbs.Call kinds.Remove) = fields.Namespace ∷ fields.Key ∷ []
fields_of (verbs.Call kinds.Stat) = fields.Namespace ∷ fields.Key ∷ fields.Quiet ∷ []
fields_of (verbs.Call kinds.Update) = fields.Namespace ∷ fields.Key ∷ fields.Labels ∷ fields.Paths ∷ []
fields_of (verbs.Call kinds.Usage) = fields.Namespace ∷ fields.Key ∷ fields.Chain ∷ fields.Quiet ∷ []
fields_of (verbs.Call kinds.Mounts) = fields.Namespace ∷ fields.Key ∷ fields.Quiet ∷ []
fields_of (verbs.Call kinds.Walk) = fields.Namespace ∷ fields.After ∷ fields.Most ∷ fields.Name ∷ fields.Parent ∷ fields.Kind ∷ fields.Labels ∷ fields.Quiet ∷ []
fields_of (verbs.Call kinds.Limit) = fields.Namespace ∷ fields.Blocks ∷ fields.Inodes ∷ []
fields_of (verbs.Call kinds.NamespaceCreate) = fields.Namespace ∷ fields.Blocks ∷ fields.Inodes ∷ []
fields_of (verbs.Call kinds.NamespaceRemove) = fields.Namespace ∷ []
fields_of (verbs.Call kinds.LeaseCreate) = fields.Namespace ∷ fields.Lease ∷ fields.Until ∷ []
fields_of (verbs.Call kinds.LeaseAdd) = fields.Namespace ∷ fields.Lease ∷ fields.Name ∷ []
fields_of (verbs.Call kinds.LeaseDrop) = fields.Namespace ∷ fields.Lease ∷ fields.Name ∷ []
fields_of (verbs.Call kinds.LeaseRelease) = fields.Namespace ∷ fields.Lease ∷ []
fields_of (verbs.Call kinds.Sweep) = fields.Namespace ∷ fields.Moment ∷ fields.Try ∷ []
fields_of (verbs.File verb) = fields.Namespace ∷ fields.Key ∷ fields.Extra ∷ operation_fields verb
fields_of verbs.Batch = fields.Namespace ∷ fields.Key ∷ fields.Need ∷ fields.Ops ∷ fields.Whole ∷ []
fields_of (verbs.Lookup lookup_verbs.Look) = fields.Namespace ∷ fields.Key ∷ fields.Path ∷ fields.Peek ∷ []
fields_of (verbs.Lookup lookup_verbs.List) = fields.Namespace ∷ fields.Key ∷ fields.Path ∷ fields.Peek ∷ []
fields_of (verbs.Lookup lookup_verbs.Read) = fields.Namespace ∷ fields.Key ∷ fields.Path ∷ fields.Peek ∷ fields.Offset ∷ fields.Most ∷ []
fields_of (verbs.Lookup lookup_verbs.Resolve) = fields.Namespace ∷ fields.Key ∷ fields.Path ∷ fields.Peek ∷ []
fields_of (verbs.Lookup lookup_verbs.Usage) = fields.Namespace ∷ fields.Key ∷ fields.Path ∷ fields.Peek ∷ []
fields_of verbs.Quota = fields.Namespace ∷ []
fields_of verbs.Leases = fields.Namespace ∷ fields.Lease ∷ []
fields_of verbs.Tree = fields.Namespace ∷ fields.After ∷ fields.Most ∷ []
fields_of verbs.Diff = fields.Namespace ∷ fields.Key ∷ fields.After ∷ fields.Most ∷ []
fields_of verbs.Journal = fields.Namespace ∷ fields.After ∷ fields.Most ∷ fields.Full ∷ []
fields_of verbs.Report = []
fields_of verbs.Restore = []
fields_of verbs.Save = fields.After ∷ fields.Most ∷ []

-- the fields that a line may have with any command, where it may not have just any: the command's word, the session, and a client's id of the line
abbrev pub common_fields : FieldRule → List Field
common_fields rules.Any = []
common_fields rules.Known = fields.Do ∷ fields.Session ∷ []
common_fields rules.KnownAndId = fields.Do ∷ fields.Session ∷ fields.Id ∷ []

-- one of the fields has the name
abbrev pub is_field_among : List Field → List ℕ → Bool
is_field_among those name = list_any (λ field. bytes_eq name (field_name field)) those

-- the same of a command's own fields and the common ones
abbrev pub is_known : List Field → List Field → List ℕ → Bool
is_known common own name = is_field_among common name || is_field_among own name

-- the first member, in byte order of the names, that isn't known
abbrev pub unknown_among : List Field → List Field → Members → Option (List ℕ)
unknown_among common own no_members = None
unknown_among common own (member name d ms) = if is_known common own name then unknown_among common own ms else Some name

-- the first of the fields whose name is near the name
abbrev pub near_field : List Field → List ℕ → Option Field
near_field those name = find (λ field. is_near (field_name field) name) those

-- a field that isn't known is a fault, with the command's own field that may be meant
abbrev pub unless_unknown : List Field → Option (List ℕ) → Result Unit Fault
unless_unknown own None = Ok tt
unless_unknown own (Some name) = Err (UnknownField name (near_field own name))

-- an object has no field but the common ones and its own
abbrev pub known_within : List Field → List Field → Data → Result Unit Fault
known_within common own d = unless_unknown own (option_and_then (unknown_among common own) (as_object d))

-- a line of a saved store
abbrev pub is_restore : Verb → Bool
is_restore verbs.Restore = true
is_restore verb = false

-- where not any field may stand, the line has no field but the common ones and those of its command
abbrev pub known_by : FieldRule → Verb → Data → Result Unit Fault
known_by rules.Any verb line = Ok tt
known_by rules.Known verb line = known_within (common_fields rules.Known) (fields_of verb) line
known_by rules.KnownAndId verb line = known_within (common_fields rules.KnownAndId) (fields_of verb) line

-- the line of a command has no field but those that it may have; what a line of a saved store has besides its own isn't looked at
unfoldable pub known_fields : FieldRule → Verb → Data → Result Unit Fault
known_fields rule verb line = if is_restore verb then Ok tt else known_by rule verb line

-- ---- jobs

-- an operation has no field but its word and those that it may have
unfoldable pub known_operation : FieldRule → FileVerb → Data → Result Unit Fault
known_operation rules.Any verb d = Ok tt
known_operation rules.Known verb d = known_within (fields.Do ∷ []) (operation_fields verb) d
known_operation rules.KnownAndId verb d = known_within (fields.Do ∷ []) (operation_fields verb) d

-- the fields of a job's line
abbrev pub job_fields : List Field
job_fields = fields.Namespace ∷ fields.Key ∷ fields.Parent ∷ fields.Ops ∷ fields.End ∷ fields.Name ∷ fields.Lease ∷ fields.Labels ∷ fields.Extra ∷ []

-- the line of a job, which has neither a command's word nor a session, has no field but those that it may have
unfoldable pub known_job : FieldRule → Data → Result Unit Fault
known_job rules.Any line = Ok tt
known_job rules.Known line = known_within [] job_fields line
known_job rules.KnownAndId line = known_within (fields.Id ∷ []) job_fields line
