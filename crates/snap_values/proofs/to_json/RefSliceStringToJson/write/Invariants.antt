use Rattle.std.proofs.Common.{◌≡◌, ◌∷◌, map, drop, string_bytes}
use Rattle.json.specs.Token.{begin_array}
use Rattle.serde_json.specs.Data.{string}
use Rattle.serde_json.specs.View.{items_of}
use Rattle.snap_json.specs.Tokens.{with_items}
use Rattle.snap_values.proofs.to_json.RefSliceStringToJson.write.Given as goal

abbrev pub invariant-loop-text : goal.invariant-loop-text
invariant-loop-text l =
    with_items (items_of (map string (map string_bytes l.self.now))) (begin_array ∷ l.fn.out)
    ≡ with_items (items_of (map string (map string_bytes (drop l.text-index l.text-items)))) l.out
