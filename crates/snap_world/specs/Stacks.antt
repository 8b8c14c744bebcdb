-- What the snapshots of a world show: the layers of an active one, its own over those of its ancestors, and those of a view.
use Rattle.std.specs.Prelude.{◌≡◌, ℕ, List, ◌∷◌, Option, None, Some, Result, Ok, Err, ok_or, option_and_then, option_map}
use Rattle.std.specs.Result.{result_ok}
use Rattle.snap_layer.specs.Tree.{Tree}
use Rattle.snap_record.specs.Labels.{Bytes}
use Rattle.snap_record.specs.declared.record.Content.{Content}
use Rattle.snap_record.specs.declared.record.Content.TheVariants.{View, Active, Committed}
use Rattle.snap_record.specs.declared.record.Record.{Record}
use Rattle.snap_call.specs.declared.refusal.Refusal.{Refusal}
use Rattle.snap_call.specs.declared.refusal.Refusal.TheVariants.{NotActive}
use Rattle.snap_call.specs.State.{ancestors, layer_of, layers_of, shown_layers}
use Rattle.snap_call.specs.Results.{◌>>=◌}
use Rattle.snap_book.specs.Slot.{found_of}
use Rattle.snap_world.specs.World.{HandValue, WorldValue, hand_at}

-- the layers of the hand: its own, and those below it, nearest first (overlayfs.rst, "Upper and Lower", "Multiple lower layers")
abbrev pub layers_in : HandValue → List Tree
layers_in h = h.snapshot.layer ∷ h.snapshot.lowers

-- what a snapshot shows: an active one the layers of its hand, which stands in its slot where a world fits, a view those that it keeps; a committed one has no mount of its own
abbrev pub stack_by : List (Option HandValue) → Content → Result (List Tree) Refusal
stack_by hands (View layers) = Ok layers
stack_by hands (Active slot charged) = ok_or (option_map layers_in (hand_at slot hands)) NotActive
stack_by hands (Committed layer usage) = Err NotActive

-- the layers that the snapshot of this key in the namespace shows, or why there are none
abbrev pub stack_of : WorldValue → Bytes → Bytes → Result (List Tree) Refusal
stack_of w namespace key = found_of w.state namespace key >>= λ r. stack_by w.hands r.content

-- what a committed snapshot would show: its own layer over those of its ancestors, nearest first (overlayfs.rst, "Multiple lower layers"); nothing for any other
abbrev pub peeked_by : List Record → Record → Option (List Tree)
peeked_by rs r = option_map (λ layer. layer ∷ layers_of (ancestors r.namespace r.parent rs)) (layer_of r.content)

-- the layers that the committed snapshot of this key in the namespace would show, if there is one
abbrev pub peeked_of : WorldValue → Bytes → Bytes → Option (List Tree)
peeked_of w namespace key = option_and_then (peeked_by w.state.records) (result_ok (found_of w.state namespace key))

-- the layer of a snapshot: an active one's is that of its hand; a view has none of its own
abbrev pub own_layer : List (Option HandValue) → Content → Option Tree
own_layer hands (View layers) = None
own_layer hands (Active slot charged) = option_map (λ h. h.snapshot.layer) (hand_at slot hands)
own_layer hands (Committed layer usage) = Some layer

-- the layer of the record's snapshot, if it has one, and those of its ancestors, nearest first
abbrev pub own_stack_by : WorldValue → Record → Option (Tree × List Tree)
own_stack_by w r = option_map (λ layer. (layer, layers_of (ancestors r.namespace r.parent w.state.records))) (own_layer w.hands r.content)

-- the same of the snapshot of this key in the namespace, if there is one
abbrev pub own_of : WorldValue → Bytes → Bytes → Option (Tree × List Tree)
own_of w namespace key = option_and_then (own_stack_by w) (result_ok (found_of w.state namespace key))

-- the layers of an active snapshot are one over those of its committed ancestors, nearest first; those of a view are the ancestors' alone, or one empty layer
abbrev pub IsOverBy : List Record → List Tree → ℕ → Bytes → Content → Type 0
IsOverBy rs layers place parent (View own) = layers ≡ shown_layers place parent rs
IsOverBy rs layers place parent (Active slot charged) = (layer : Tree) × (layers ≡ layer ∷ layers_of (ancestors place parent rs))
IsOverBy rs layers place parent content = ⊥

-- there is such a record, and these layers are so
abbrev pub IsOver : List Record → List Tree → Result Record Refusal → Type 0
IsOver rs layers (Ok r) = IsOverBy rs layers r.namespace r.parent r.content
IsOver rs layers (Err why) = ⊥
