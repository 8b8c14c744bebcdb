-- The members of a call's line, as they are written, are in the order of its line.
use Rattle.std.proofs.Common.{◌≡◌, ℕ, List, Option, Some, None, ap, refl}
use Rattle.serde_json.specs.Written.{compact_text}
use Rattle.snap_record.specs.Labels.{Bytes}
use Rattle.snap_record.specs.declared.filter.LabelFilter.{LabelFilter}
use Rattle.snap_record.specs.declared.kind.Kind.{Kind}
use Rattle.snap_call.specs.declared.call.Call.{Call}
use Rattle.snap_call.specs.declared.call.Call.TheVariants as calls
use Rattle.snap_values.specs.Calls.{call_data, call_line}
use Rattle.snap_values.specs.WrittenCalls.{ordered_data}

walk_ordered : (own : Bytes) (n : ℕ) (held : Option Bytes) (namespace after : Bytes) (most : ℕ) (labels : List LabelFilter) (name parent : Option Bytes) (kind : Option Kind)
    → ordered_data own n held (calls.Walk namespace after most (record { name = name; parent = parent; kind = kind; labels = labels }))
    ≡ call_data own n held (calls.Walk namespace after most (record { name = name; parent = parent; kind = kind; labels = labels }))
walk_ordered own n held namespace after most labels None None None = refl
walk_ordered own n held namespace after most labels None None (Some kind) = refl
walk_ordered own n held namespace after most labels None (Some parent) None = refl
walk_ordered own n held namespace after most labels None (Some parent) (Some kind) = refl
walk_ordered own n held namespace after most labels (Some name) None None = refl
walk_ordered own n held namespace after most labels (Some name) None (Some kind) = refl
walk_ordered own n held namespace after most labels (Some name) (Some parent) None = refl
walk_ordered own n held namespace after most labels (Some name) (Some parent) (Some kind) = refl

ordered : (own : Bytes) (n : ℕ) (held : Option Bytes) (call : Call) → ordered_data own n held call ≡ call_data own n held call
ordered own n held calls.Session = refl
ordered own n held (calls.Prepare namespace key parent labels) = refl
ordered own n None (calls.Charge slot id need want) = refl
ordered own n (Some key) (calls.Charge slot id need want) = refl
ordered own n None (calls.Trim slot id) = refl
ordered own n (Some key) (calls.Trim slot id) = refl
ordered own n None (calls.Commit slot id name None None) = refl
ordered own n None (calls.Commit slot id name None (Some labels)) = refl
ordered own n None (calls.Commit slot id name (Some lease) None) = refl
ordered own n None (calls.Commit slot id name (Some lease) (Some labels)) = refl
ordered own n (Some key) (calls.Commit slot id name None None) = refl
ordered own n (Some key) (calls.Commit slot id name None (Some labels)) = refl
ordered own n (Some key) (calls.Commit slot id name (Some lease) None) = refl
ordered own n (Some key) (calls.Commit slot id name (Some lease) (Some labels)) = refl
ordered own n None (calls.Discard slot id) = refl
ordered own n (Some key) (calls.Discard slot id) = refl
ordered own n held (calls.Stat namespace key) = refl
ordered own n held (calls.Usage namespace key) = refl
ordered own n held (calls.Mounts namespace key) = refl
ordered own n held (calls.View namespace key parent labels) = refl
ordered own n held (calls.Remove namespace key) = refl
ordered own n held (calls.Update namespace key labels paths) = refl
ordered own n held (calls.Walk namespace after most asked) = walk_ordered own n held namespace after most asked.labels asked.name asked.parent asked.kind
ordered own n held (calls.SetLimit namespace limit) = refl
ordered own n held (calls.NamespaceCreate namespace limit) = refl
ordered own n held (calls.NamespaceRemove namespace) = refl
ordered own n held (calls.LeaseCreate namespace lease None) = refl
ordered own n held (calls.LeaseCreate namespace lease (Some until)) = refl
ordered own n held (calls.LeaseAdd namespace lease name) = refl
ordered own n held (calls.LeaseDrop namespace lease name) = refl
ordered own n held (calls.LeaseRelease namespace lease) = refl
ordered own n held (calls.Sweep namespace moment) = refl

-- their text is the line
pub line_ordered : (own : Bytes) (n : ℕ) (held : Option Bytes) (call : Call) → compact_text (ordered_data own n held call) ≡ call_line own n held call
unfolding call_line
line_ordered own n held call = ap compact_text (ordered own n held call)
