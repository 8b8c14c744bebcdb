-- The rules of overlayfs.rst, which `seen` keeps.
use Rattle.std.specs.Prelude.{◌≡◌, ◌↔◌, ℕ, Bool, true, false, List, [], ◌∷◌, ◌++◌, Some, None, Ok}
use Rattle.snap_path.specs.Text.{Names}
use Rattle.snap_layer.specs.declared.node.Meta.{Meta}
use Rattle.snap_layer.specs.declared.node.Node.{Node}
use Rattle.snap_layer.specs.declared.node.Node.TheVariants.{Dir, Whiteout}
use Rattle.snap_layer.specs.Tree.{Tree, at, hides, node_hides}
use Rattle.snap_merge.specs.Objects.{dir, shown, seen, is_shown_dir}
use Rattle.snap_merge.specs.Walk.{walk_error}
use Rattle.snap_merge.specs.Resolving.{is_shown_end, resolution}

-- somewhere above the path stands what hides it: a whiteout, a file, a symlink or an opaque directory
abbrev pub IsHiddenFromAbove : Tree → Names → Type 0
IsHiddenFromAbove t p = (q : Names) × (n : List ℕ) × (r : Names) × (p ≡ q ++ n ∷ r) × (node_hides (at t q) ≡ true)

-- two layers that have the same at the path, and above it what hides alike
pub record AreAlike (t u : Tree) (p : Names) : Type 0 where
  pub here : at u p ≡ at t p
  pub shows : (n : Node) → at t p ≡ Some n → shown u n ≡ shown t n
  pub above : (q : Names) (n : List ℕ) (r : Names) → p ≡ q ++ n ∷ r → node_hides (at u q) ≡ node_hides (at t q)

-- what a layer does at a path, over the layers `under` it and under the layers `over` it
pub record LayerRules (t : Tree) (p : Names) : Type 0 where
  -- it hides the path exactly where something above the path does; what stands at the path doesn't count
  pub hiding : (hides t p ≡ true) ↔ IsHiddenFromAbove t p
  -- a whiteout shows nothing, and hides what is below (overlayfs.rst, "whiteouts and opaque directories")
  pub whiteout : (over under : List Tree) → at t p ≡ Some Whiteout → seen (over ++ t ∷ under) p ≡ seen over p
  -- in an opaque directory, and below any other node that hides, the layers below show nothing
  pub hidden : (over under : List Tree) → hides t p ≡ true → seen (over ++ t ∷ under) p ≡ seen (over ++ t ∷ []) p
  -- a directory shows its own meta, opaque or not, whatever is below (overlayfs.rst, "Directories")
  pub directory : (under : List Tree) (meta : Meta) (opaque : Bool) → at t p ≡ Some (Dir meta opaque) → seen (t ∷ under) p ≡ Some (dir meta)
  -- a layer that has nothing at the path, and nothing that hides it, changes nothing there
  pub untouched : (over under : List Tree) → at t p ≡ None → hides t p ≡ false → seen (over ++ t ∷ under) p ≡ seen (over ++ under) p
  -- what is seen at a path depends on what the layer has at the path and above it, and on nothing else
  pub elsewhere : (u : Tree) (under : List Tree) → AreAlike t u p → seen (u ∷ under) p ≡ seen (t ∷ under) p

-- what resolving a path means
pub record ResolvingRules (s : List Tree) (p : Names) : Type 0 where
  -- a path on which no symlink is leads to itself
  pub plain : walk_error s p ≡ None → is_shown_end (seen s p) ≡ true → resolution s p ≡ Ok p
  -- where a directory is seen at the root, a path leads to a directory or a file, and to no symlink
  pub ends : (q : Names) → is_shown_dir (seen s []) ≡ true → resolution s p ≡ Ok q → is_shown_end (seen s q) ≡ true
