-- How far a path leads, through directories from the root on.
use Rattle.std.specs.Prelude.{◌≡◌, ℕ, ◌<◌, ◌≤◌, Bool, true, false, List, length, take, Option}
use Rattle.std.specs.Option.{option_map}
use Rattle.snap_path.specs.Text.{Names}
use Rattle.snap_layer.specs.declared.node.Node.{Node}
use Rattle.snap_layer.specs.Tree.{Tree, at, hides, IsDirAt}
use Rattle.snap_merge.specs.declared.look.Step.{Step}
use Rattle.snap_merge.specs.declared.look.Step.TheVariants.{Ends, GoesOn}
use Rattle.snap_merge.specs.Objects.{Object, object, seen, seen_over, is_shown_dir}

-- in one layer: m prefixes are directories, then the node stands, which is none, and `covered` says whether the layer hides it
pub record Traced (t : Tree) (p : Names) (m : ℕ) (node : Option Node) (covered : Bool) : Type 0 where
  pub dirs : (j : ℕ) → j < m → IsDirAt (at t (take j p))
  pub end : at t (take m p) ≡ node
  pub stops : m ≤ length p → IsDirAt node → ⊥
  pub hidden : covered ≡ hides t (take m p)

-- in all layers: at k prefixes directories are seen, and then the object, which is none
pub record Reached (s : List Tree) (p : Names) (k : ℕ) (o : Option Object) : Type 0 where
  pub dirs : (j : ℕ) → j < k → is_shown_dir (seen s (take j p)) ≡ true
  pub end : seen s (take k p) ≡ o
  pub stops : k ≤ length p → is_shown_dir o ≡ false

-- at k prefixes directories are seen, and from there on what the layers that are left show
pub record Begun (s : List Tree) (p : Names) (k : ℕ) (left : List Tree) : Type 0 where
  pub dirs : (j : ℕ) → j < k → is_shown_dir (seen s (take j p)) ≡ true
  pub rest : (j : ℕ) → k ≤ j → seen s (take j p) ≡ seen left (take j p)

-- the layer leads from k directories to m, and there it settles that the object is seen
pub record Settles (t : Tree) (p : Names) (k m : ℕ) (o : Option Object) : Type 0 where
  pub further : k ≤ m
  pub dirs : (j : ℕ) → k ≤ j → j < m → IsDirAt (at t (take j p))
  pub end : (under : Option Object) → seen_over t (at t (take m p)) (take m p) under ≡ o
  pub stops : m ≤ length p → is_shown_dir o ≡ false

-- the layer leads from k directories to m, and leaves the rest to the layers below it
pub record Leaves (t : Tree) (p : Names) (k m : ℕ) : Type 0 where
  pub further : k ≤ m
  pub within : m ≤ length p
  pub dirs : (j : ℕ) → k ≤ j → j < m → IsDirAt (at t (take j p))
  pub passed : (j : ℕ) → m ≤ j → (under : Option Object) → seen_over t (at t (take j p)) (take j p) under ≡ under

-- what the layer adds to k directories
abbrev pub Steps : Tree → Names → ℕ → Step → Type 0
Steps t p k (Ends r) = Settles t p k r.dirs (option_map object r.seen)
Steps t p k (GoesOn m) = Leaves t p k m
