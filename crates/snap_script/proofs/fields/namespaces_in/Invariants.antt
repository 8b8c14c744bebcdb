use Rattle.std.proofs.Common.{◌≡◌, ◌++◌, drop}
use Rattle.std.specs.Prelude.{option_map}
use Rattle.snap_json.specs.View.{items_view}
use Rattle.snap_script.specs.Fields.{as_namespace, each_item}
use Rattle.snap_script.proofs.fields.namespaces_in.Given as goal

abbrev pub invariant-loop-value : goal.invariant-loop-value
invariant-loop-value l =
    each_item as_namespace (items_view l.values) ≡ option_map (λ rest. l.namespaces ++ rest) (each_item as_namespace (items_view (drop l.value-index l.values)))
