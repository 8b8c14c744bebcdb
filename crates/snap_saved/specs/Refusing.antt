-- What an error of a restore says.
use Rattle.std.specs.Prelude.{◌≡◌, ◌<◌, ◌≤◌, ◌++◌, ◌∷◌, ℕ, List, [], Some, None}
use Rattle.std.specs.List.{AllByRecursion}
use Rattle.std.specs.Map.{keys_of}
use Rattle.snap_path.specs.Text.{Names}
use Rattle.snap_layer.specs.declared.error.LayerError.{LayerError}
use Rattle.snap_layer.specs.declared.error.LayerError.TheVariants as layer_errors
use Rattle.snap_layer.specs.declared.node.Node.{Node}
use Rattle.snap_layer.specs.declared.node.Body.{Body}
use Rattle.snap_layer.specs.Tree.{Tree, at, body, leaf_node, IsDirAt}
use Rattle.snap_layer.specs.Counts.{inode_count}
use Rattle.snap_layer.specs.Layers.{IsLayer}
use Rattle.snap_saved.specs.declared.error.Fault.TheVariants.{Full}
use Rattle.snap_saved.specs.declared.error.Part.{Part}
use Rattle.snap_saved.specs.declared.error.RestoreError.{RestoreError}
use Rattle.snap_saved.specs.declared.error.RestoreError.TheVariants.{Malformed, OutOfMemory}
use Rattle.snap_saved.specs.Values.{SavedFileValue}
use Rattle.snap_saved.specs.Saved.{dirs_of, whiteouts_of, files_of}

-- where it names a part, no layer is such a one
abbrev pub Refutes : RestoreError → (Tree → Type 0) → Type 0
Refutes (Malformed part fault) IsSuch = (t : Tree) → IsLayer t → IsSuch t → ⊥
Refutes (OutOfMemory no_memory) IsSuch = Unit {0}

-- an edit for the part that is refused
abbrev pub refusal : LayerError → Part → RestoreError
refusal layer_errors.LayerFull part = Malformed part Full
refusal (layer_errors.OutOfMemory no_memory) part = OutOfMemory no_memory

-- the layer t has the node at the path, where u has nothing yet, though it has the directories above it
pub record LacksNode (u t : Tree) (p : Names) (n : Node) : Type 0 where
  pub node : at t p ≡ Some n
  pub free : at u p ≡ None
  pub above : (q : Names) (m : List ℕ) → p ≡ q ++ m ∷ [] → IsDirAt (at t q) → IsDirAt (at u q)

-- with more inodes than u, of which it may have as many
pub record LacksNodeWithRoom (u t : Tree) (p : Names) (n : Node) : Type 0 where
  pub fits : LacksNode u t p n
  pub fewer : inode_count u < inode_count t
  pub most : u.most ≡ t.most

-- what stands in u stands in t, and u has the directories of t
pub record IsUnder (u t : Tree) : Type 0 where
  pub stands : (q : Names) (n : Node) → at u q ≡ Some n → at t q ≡ Some n
  pub dirs : (q : Names) → IsDirAt (at t q) → IsDirAt (at u q)

-- t has these names of the number, which has the body in u, and u has all else but names after them
pub record HasNames (u t : Tree) (k : ℕ) (ps : List Names) : Type 0 where
  pub content : Body
  pub there : body u k ≡ Some content
  pub under : IsUnder u t
  pub names : AllByRecursion (λ (p : Names). at t p ≡ Some (leaf_node k content)) ps

-- a layer with no more than its root and its directories
pub record HasDirsAlone (t : Tree) : Type 0 where
  pub whiteouts : whiteouts_of t.entries ≡ []
  pub files : t.bodies ≡ []

-- both have the same root, and may have as many inodes
pub record HasSameRoot (u t : Tree) : Type 0 where
  pub root : at u [] ≡ at t []
  pub most : u.most ≡ t.most

-- and the same directories and whiteouts
pub record HasSameDirs (u t : Tree) : Type 0 where
  pub akin : HasSameRoot u t
  pub dirs : dirs_of u.entries ≡ dirs_of t.entries
  pub whiteouts : whiteouts_of u.entries ≡ whiteouts_of t.entries

-- t has the file after those of u, and maybe more
pub record HasNext (u t : Tree) (f : SavedFileValue) : Type 0 where
  pub furnished : HasSameDirs u t
  pub rest : List SavedFileValue
  pub files : files_of t.entries t.bodies ≡ files_of u.entries u.bodies ++ f ∷ rest
  pub free : u.next ≤ f.number

-- the next number is at most each that comes after the numbers of the files
abbrev pub HasLeastNext : Tree → Type 0
HasLeastNext t = (k : ℕ) → 1 ≤ k → AllByRecursion (λ (j : ℕ). j < k) (keys_of t.bodies) → t.next ≤ k
