use Rattle.std.proofs.Common.{◌≡◌, ◌+◌, Some, drop, take}
use Rattle.snap_layer.specs.declared.node.Body.{Body}
use Rattle.snap_layer.specs.Tree.{Tree, body}
use Rattle.snap_layer.specs.Layers.{IsLayer}
use Rattle.snap_saved.specs.Named.{AddsNames}
use Rattle.snap_saved.specs.Refusing.{HasNames, IsUnder}
use Rattle.snap_saved.specs.declared.error.Part.TheVariants.{Name}
use Rattle.snap_saved.specs.Restored.{put_each, put_name, put_other_names}
use Rattle.snap_saved.proofs.restoring.add_names.Given as goal

-- the first names are there, and with the others all are
abbrev pub invariant-loop-place : goal.invariant-loop-place
invariant-loop-place l = record {
  layer : IsLayer l.layer;
  named : AddsNames l.number l.fn.layer.entries l.layer.entries (take l.place l.names);
  under : (t : Tree) → IsLayer t → HasNames l.fn.layer t l.number l.names → IsUnder l.layer t;
  rest : l.layer ≡ record l.fn.layer { entries = l.layer.entries };
  left : (b : Body) → body l.fn.layer l.number ≡ Some b → put_each (λ place. put_name (Name l.file place) l.number b) (l.place + 1) l.layer (drop l.place l.names) ≡ put_other_names l.file l.number b l.fn.layer l.names;
}
