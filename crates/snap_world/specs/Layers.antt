-- The layer of the hand in a slot, and another one in its place.
use Rattle.std.specs.Prelude.{◌≡◌, ℕ, false, if◌then◌else◌, List, Option, None, Some, option_and_then}
use Rattle.std.specs.Option.{option_map}
use Rattle.snap_layer.specs.Tree.{Tree}
use Rattle.snap_usage.specs.Counted.{Covers, count_of}
use Rattle.snap_world.specs.World.{HandValue, WorldValue, hand_at, with_hand}

-- the hand's layer, where it may change: a sealed one doesn't
abbrev pub open_layer : HandValue → Option Tree
open_layer h = if h.sealed then None else Some h.snapshot.layer

-- that of the slot's hand, if one stands there
abbrev pub open_layer_at : ℕ → List (Option HandValue) → Option Tree
open_layer_at slot hands = option_and_then open_layer (hand_at slot hands)

-- the hand with this layer for its own
abbrev pub with_own : Tree → HandValue → HandValue
with_own layer h = record { snapshot = record { namespace = h.snapshot.namespace; key = h.snapshot.key; lowers = h.snapshot.lowers; layer = layer; share = h.snapshot.share }; sealed = h.sealed }

-- the hands, that of the slot with this layer; all else stays
abbrev pub layer_put : ℕ → Tree → List (Option HandValue) → List (Option HandValue)
layer_put slot layer hands = with_hand slot (option_map (with_own layer) (hand_at slot hands)) hands

-- the world with these hands
abbrev pub with_layer : ℕ → Tree → WorldValue → WorldValue
with_layer slot layer w = record w { hands = layer_put slot layer w.hands }

-- the hand may have this layer: it isn't sealed, and its share covers the layer's count
abbrev pub MayHave : Tree → Option HandValue → Type 0
MayHave layer None = ⊥
MayHave layer (Some h) = (h.sealed ≡ false) × Covers h.snapshot.share.usage (count_of layer)
