-- What takes back a new file or symlink.
use Rattle.std.specs.Prelude.{◌≡◌, Bool, Option, Some, None, if◌then◌else◌}
use Rattle.snap_path.specs.Text.{Names}
use Rattle.snap_layer.specs.declared.node.Node.{Node}
use Rattle.snap_layer.specs.declared.node.Node.TheVariants.{Whiteout}
use Rattle.snap_layer.specs.declared.node.Body.{Body}
use Rattle.snap_layer.specs.Tree.{Tree, at, number_of}
use Rattle.snap_layer.specs.Layers.{IsLayer}
use Rattle.snap_layer.specs.Edits.{with_new}

-- what stood there: a whiteout, or nothing
abbrev pub stood_at : Bool → Option Node
stood_at covers = if covers then Some Whiteout else None

-- v is the layer u with a new file or symlink at the path, where a whiteout or nothing stood
pub record IsNew (covers : Bool) (p : Names) (v u : Tree) : Type 0 where
  pub layer : IsLayer u
  pub stood : at u p ≡ stood_at covers
  pub node : Node
  pub content : Body
  pub numbered : number_of node ≡ Some u.next
  pub made : v ≡ with_new u p node content
