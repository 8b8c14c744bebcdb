-- What the journal keeps of a call by a state: its texts, cut where they are beyond their limits or aren't looked at, so that it is answered alike.
use Rattle.std.specs.Prelude.{Bool, false, not, ◌&&◌, ◌||◌, if◌then◌else◌, [], List}
use Rattle.std.specs.Option.{option_map, option_map_or, is_some}
use Rattle.snap_record.specs.Cut.{cut, kept_labels, kept_update}
use Rattle.snap_record.specs.Filters.{no_filter}
use Rattle.snap_record.specs.Labels.{Bytes, Label, are_labels}
use Rattle.snap_record.specs.Updates.{is_well_formed}
use Rattle.snap_call.specs.declared.call.Call.{Call}
use Rattle.snap_call.specs.declared.call.Call.TheVariants as calls
use Rattle.snap_call.specs.declared.state.State.{State}
use Rattle.snap_call.specs.Forms.{is_page, is_start}
use Rattle.snap_call.specs.Records.{has_key}
use Rattle.snap_call.specs.State.{place_of}

-- the store has the namespace
abbrev pub has_namespace : State → Bytes → Bool
has_namespace s namespace = is_some (place_of namespace s.namespaces)

-- and in it a snapshot of this key
abbrev pub has_snapshot : State → Bytes → Bytes → Bool
has_snapshot s namespace key = option_map_or (λ place. has_key place key s.records) (place_of namespace s.namespaces) false

-- the labels of a new snapshot: of malformed ones the first such alone (`kept_labels`); of others nothing without the namespace
abbrev pub kept_new : Bool → List Label → List Label
kept_new there labels = if there || not (are_labels labels) then kept_labels labels else []

-- the labels and the paths of an update: of malformed ones what makes them so (`kept_update`); of others nothing without the snapshot
abbrev pub kept_change : Bool → List Label → List Bytes → List Label × List Bytes
kept_change there labels paths = if there || not (is_well_formed labels paths) then kept_update labels paths else ([], [])

-- the call with its texts cut: a namespace's name above 255 bytes, a key, a parent, a name and a lease above 1024; of labels, of an update's paths and of a walk's filter what is looked at
abbrev pub kept : State → Call → Call
kept s (calls.Prepare namespace key parent labels) = calls.Prepare (cut 255 namespace) (cut 1024 key) (cut 1024 parent) (kept_new (has_namespace s namespace) labels)
kept s (calls.Commit slot id name lease labels) = calls.Commit slot id (cut 1024 name) (option_map (cut 1024) lease) (option_map kept_labels labels)
kept s (calls.Stat namespace key) = calls.Stat (cut 255 namespace) (cut 1024 key)
kept s (calls.Usage namespace key) = calls.Usage (cut 255 namespace) (cut 1024 key)
kept s (calls.Mounts namespace key) = calls.Mounts (cut 255 namespace) (cut 1024 key)
kept s (calls.View namespace key parent labels) = calls.View (cut 255 namespace) (cut 1024 key) (cut 1024 parent) (kept_new (has_namespace s namespace) labels)
kept s (calls.Remove namespace key) = calls.Remove (cut 255 namespace) (cut 1024 key)
kept s (calls.Update namespace key labels paths) = let given = kept_change (has_snapshot s namespace key) labels paths in calls.Update (cut 255 namespace) (cut 1024 key) given.0 given.1
kept s (calls.Walk namespace after most asked) = calls.Walk (cut 255 namespace) (cut 1024 after) most (if is_start after && is_page most && has_namespace s namespace then asked else no_filter)
kept s (calls.SetLimit namespace limit) = calls.SetLimit (cut 255 namespace) limit
kept s (calls.NamespaceCreate namespace limit) = calls.NamespaceCreate (cut 255 namespace) limit
kept s (calls.NamespaceRemove namespace) = calls.NamespaceRemove (cut 255 namespace)
kept s (calls.LeaseCreate namespace lease until) = calls.LeaseCreate (cut 255 namespace) (cut 1024 lease) until
kept s (calls.LeaseAdd namespace lease name) = calls.LeaseAdd (cut 255 namespace) (cut 1024 lease) (cut 1024 name)
kept s (calls.LeaseDrop namespace lease name) = calls.LeaseDrop (cut 255 namespace) (cut 1024 lease) (cut 1024 name)
kept s (calls.LeaseRelease namespace lease) = calls.LeaseRelease (cut 255 namespace) (cut 1024 lease)
kept s (calls.Sweep namespace moment) = calls.Sweep (cut 255 namespace) moment
kept s call = call
