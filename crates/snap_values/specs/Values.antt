-- The JSON of values that answers and lines have; cited by the public clauses of `ToJson`'s impls.
use Rattle.std.specs.Prelude.{ℕ, if◌then◌else◌, List, [], ◌∷◌, Option, codes, map}
use Rattle.std.specs.Option.{option_map, option_map_or}
use Rattle.std.specs.Str.{is_utf8}
use Rattle.serde_json.specs.Data.{Data, null, number, string, array, object, unsigned, no_items, item, Members, no_members, member, put}
use Rattle.serde_json.specs.View.{items_of}
use Rattle.snap_path.specs.Text.{text_of}
use Rattle.snap_usage.specs.declared.usage.Usage.{Usage}
use Rattle.snap_lease.specs.Told.{ToldLease}
use Rattle.snap_record.specs.Labels.{Bytes}
use Rattle.snap_record.specs.Kinds.{kind_word}
use Rattle.snap_record.specs.declared.info.Info.{Info}
use Rattle.snap_mount.specs.declared.mount.Mount.{Mount}
use Rattle.snap_mount.specs.Mounts.{mount_kind_word}
use Rattle.snap_diff.specs.Changes.{change_word}
use Rattle.snap_diff.specs.declared.change.Change.{Change}
use Rattle.snap_call.specs.declared.refusal.Refusal.{Refusal}
use Rattle.snap_call.specs.declared.refusal.Refusal.TheVariants as refusals

-- a number that isn't negative
abbrev pub number_data : ℕ → Data
number_data n = number (unsigned n)

-- blocks, then inodes
abbrev pub usage_data : Usage → Data
usage_data usage = array (item (number_data usage.blocks) (item (number_data usage.inodes) no_items))

-- a text, or null where the bytes are none: UTF-8 alone is JSON
abbrev pub text_data : List ℕ → Data
text_data bytes = if is_utf8 bytes then string bytes else null

-- a digest, or null where there is none
abbrev pub digest_data : Option (List ℕ) → Data
digest_data digest = option_map_or text_data digest null

-- one member alone
abbrev pub only : List ℕ → Data → Members
only key value = member key value no_members

-- a member that may be absent, before the others
abbrev pub maybe : List ℕ → Option Data → Members → Members
maybe key value rest = option_map_or (λ it. member key it rest) value rest

-- the members with one more for each entry, in byte order of the keys
abbrev pub members_with_entries : {A : Type 0} → (A → Data) → List (Bytes × A) → Members → Members
members_with_entries value [] found = found
members_with_entries value (entry ∷ entries) found = members_with_entries value entries (put entry.0 (value entry.1) found)

-- an info's parts, as containerd's Stat has them
abbrev pub info_data : Info → Data
info_data info = object
    (member (codes "created") (number_data info.created)
    (member (codes "id") (number_data info.id)
    (member (codes "kind") (string (kind_word info.kind))
    (member (codes "labels") (object (members_with_entries string info.labels no_members))
    (member (codes "name") (string info.name)
    (member (codes "parent") (string info.parent)
    (only (codes "updated") (number_data info.updated))))))))

-- a mount: its options in their order, its source, and its kind's word
abbrev pub mount_data : Mount → Data
mount_data mount = object
    (member (codes "options") (array (items_of (map string mount.options)))
    (member (codes "source") (string mount.source) (only (codes "type") (string (mount_kind_word mount.kind)))))

-- a lease with the names in their order, without a last moment where it has none
abbrev pub lease_data : ToldLease → Data
lease_data lease = object
    (member (codes "lease") (string lease.name)
    (member (codes "names") (array (items_of (map string lease.names)))
    (maybe (codes "until") (option_map number_data lease.until) no_members)))

-- what a layer changes at a path
abbrev pub change_data : Change → Data
change_data change = object (member (codes "change") (string (change_word change.kind)) (only (codes "path") (string (text_of change.path))))

-- the name of each refusal
abbrev pub refusal_name : Refusal → List ℕ
refusal_name refusals.BadArgument = codes "BadArgument"
refusal_name refusals.NoNamespace = codes "NoNamespace"
refusal_name refusals.NamespaceExists = codes "NamespaceExists"
refusal_name refusals.TooManyNamespaces = codes "TooManyNamespaces"
refusal_name refusals.NotEmpty = codes "NotEmpty"
refusal_name refusals.NotFound = codes "NotFound"
refusal_name refusals.AlreadyExists = codes "AlreadyExists"
refusal_name refusals.NotCommitted = codes "NotCommitted"
refusal_name refusals.NotActive = codes "NotActive"
refusal_name refusals.HasChildren = codes "HasChildren"
refusal_name refusals.InUse = codes "InUse"
refusal_name refusals.Leased = codes "Leased"
refusal_name refusals.NoLease = codes "NoLease"
refusal_name refusals.LeaseExists = codes "LeaseExists"
refusal_name refusals.TooDeep = codes "TooDeep"
refusal_name refusals.TooManyActives = codes "TooManyActives"
refusal_name (refusals.OverLimit free_blocks free_inodes) = codes "OverLimit"
refusal_name refusals.BelowCharge = codes "BelowCharge"
refusal_name refusals.NumbersSpent = codes "NumbersSpent"
refusal_name refusals.JournalFull = codes "JournalFull"
refusal_name (refusals.OutOfMemory want) = codes "OutOfMemory"
