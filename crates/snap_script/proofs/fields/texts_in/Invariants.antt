use Rattle.std.proofs.Common.{◌≡◌, ◌++◌, drop}
use Rattle.std.specs.Prelude.{option_map}
use Rattle.snap_json.specs.View.{items_view}
use Rattle.serde_json.specs.Find.{as_str}
use Rattle.snap_script.specs.Fields.{each_item}
use Rattle.snap_script.proofs.fields.texts_in.Given as goal

abbrev pub invariant-loop-value : goal.invariant-loop-value
invariant-loop-value l =
    each_item as_str (items_view l.values) ≡ option_map (λ rest. l.texts ++ rest) (each_item as_str (items_view (drop l.value-index l.values)))
