use Rattle.std.proofs.Common.{◌≡◌, ◌∷◌, map, drop}
use Rattle.json.specs.Token.{begin_array}
use Rattle.serde_json.specs.View.{items_of}
use Rattle.snap_json.specs.Tokens.{with_items}
use Rattle.snap_pieces.specs.Written.{line_data}
use Rattle.snap_script.proofs.restore.lines.Given as goal

abbrev pub invariant-loop-line : goal.invariant-loop-line
invariant-loop-line l =
    with_items (items_of (map line_data l.found)) (begin_array ∷ l.fn.out)
    ≡ with_items (items_of (map line_data (drop l.line-index l.found))) l.out
