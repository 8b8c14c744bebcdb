-- What a walk knows of the layer at a path.
use Rattle.std.specs.Prelude.{◌≡◌, ℕ, Bool, if◌then◌else◌, List, [], ◌∷◌, ◌++◌, Option, Some, None}
use Rattle.std.specs.Ordering.{match_ordering}
use Rattle.snap_path.specs.Text.{Names}
use Rattle.snap_layer.specs.declared.node.Node.{Node}
use Rattle.snap_layer.specs.Rows.{name_cmp}
use Rattle.snap_layer.specs.Tree.{Tree, at, hides, names_below}
use Rattle.snap_layer.specs.Directory.{Directory}
use Rattle.snap_merge.specs.Objects.{Object, shown}
use Rattle.snap_merge.specs.Row.{dir_at}

-- the names in the directory, if there is one
abbrev pub directory_names : Option Directory → Names
directory_names None = []
directory_names (Some d) = names_below d.path d.layer.entries

-- the node at the path, the directory there, and whether the layer hides the path
pub record IsOwnPlace (t : Tree) (p : Names) (node : Option Node) (dir : Option Directory) (hidden : Bool) : Type 0 where
  pub node_is : node ≡ at t p
  pub dir_is : dir ≡ dir_at t p
  pub hidden_is : hidden ≡ hides t p

-- what is seen at a path where the layer has this node or nothing, over what the layers below show there
abbrev pub shown_over : Tree → Option Node → Bool → Option Object → Option Object
shown_over t (Some node) hidden old = shown t node
shown_over t None hidden old = if hidden then None else old

-- the path of these names below this one, if there are any
abbrev pub after_here : Names → Option Names → Option Names
after_here p None = None
after_here p (Some rest) = Some (p ++ rest)

-- the changes at the name are those of a page that begins after such names, as it is told at the name; nothing where none of them are
abbrev pub after_entry : Option Names → List ℕ → Option (Option Names)
after_entry None n = Some None
after_entry (Some []) n = Some None
after_entry (Some (m ∷ rest)) n = match_ordering (name_cmp n m) None (Some (Some rest)) (Some None)
