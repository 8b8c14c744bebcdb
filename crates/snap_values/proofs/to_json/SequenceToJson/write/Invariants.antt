use Rattle.std.proofs.Common.{◌≡◌, ◌∷◌, map, drop}
use Rattle.json.specs.Token.{begin_array}
use Rattle.serde_json.specs.View.{items_of}
use Rattle.snap_json.specs.Tokens.{with_items}
use Rattle.snap_values.proofs.to_json.SequenceToJson.write.Given as goal

abbrev pub invariant-loop-item : goal.invariant-loop-item
invariant-loop-item g l =
    with_items (items_of (map g.T.ToJson.value l.self)) (begin_array ∷ l.fn.out)
    ≡ with_items (items_of (map g.T.ToJson.value (drop l.item-index l.item-items))) l.out
