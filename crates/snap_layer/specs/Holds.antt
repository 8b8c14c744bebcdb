-- The layer that a table of inodes is.
use Rattle.std.specs.Prelude.{◌≡◌, ℕ, List, Option, Some, option_map, option_and_then}
use Rattle.std.specs.Ordering.{nat_cmp}
use Rattle.std.specs.Map.{lookup, keys_of}
use Rattle.std.specs.BTreeMap.{is_at}
use Rattle.std.specs.List.{filter_map}
use Rattle.std.specs.List.Sorted.{IsStrictlySortedBy}
use Rattle.std.specs.FinMap as map
use Rattle.std.specs.FinMap.{slice_cmp-IsAntisymmetric, nat_cmp-IsAntisymmetric}
use Rattle.std.specs.Cmp.Lexicographic.{lists_total, nat_list_cmp_total}
use Rattle.std.specs.Coded.{Coded, coded_option, Coded-set}
use mathlib.Core.Path.{sym, ◌∙◌}
use mathlib.Core.HLevel.{Σ_prop_path, Π_prop}
use Rattle.slab.specs.Slab.{Slab as Slots}
use Rattle.snap_path.specs.Text.{Names}
use Rattle.snap_layer.specs.declared.node.Node.{Node}
use Rattle.snap_layer.specs.declared.node.Body.{Body}
use Rattle.snap_layer.specs.Tree.{path_cmp, Tree, Bodies, number_of, leaf_node}
use Rattle.snap_layer.specs.Counts.{name_count}
use Rattle.snap_layer.specs.Layers.{IsLayer}
use Rattle.snap_layer.specs.declared.inode.Inode.{Inode}
use Rattle.snap_layer.specs.declared.inode.Target.TheVariants as target
use Rattle.snap_layer.specs.Walk.{walk, stands, body_at, SlotView, view_of, IsTable}

-- the finite map of what stands at the paths
abbrev pub Holds : Slots Inode → ℕ → Type 0
Holds s root = (t : map.FinMap path_cmp Node) × ((p : Names) → map.get t p ≡ stands (view_of s) root p)

module _ (node_code : Coded Node) where
  option_set : IsSet (Option Node)
  option_set = Coded-set (coded_option node_code)

  -- there is one such map
  pub Holds-prop : (s : Slots Inode) (root : ℕ) → IsProp (Holds s root)
  Holds-prop s root a b = Σ_prop_path (λ t. Π_prop (λ p. option_set _ _)) (map.same_map (lists_total nat_list_cmp_total) (slice_cmp-IsAntisymmetric (slice_cmp-IsAntisymmetric nat_cmp-IsAntisymmetric)) a.0 b.0 (λ p. a.1 p ∙ sym (b.1 p)))

-- file numbers with the keys of their inodes
abbrev pub Places : Type 0
Places = List (ℕ × ℕ)

-- the key of a file number
abbrev pub place : Places → ℕ → Option ℕ
place ps k = lookup (is_at (nat_cmp k)) ps

-- the bodies that stand at the places
abbrev pub bodies_of : (ℕ → Option Body) → Places → Bodies
bodies_of at_key ps = filter_map (λ (p : ℕ × ℕ). option_map (λ (b : Body). (p.0, b)) (at_key p.1)) ps

-- the layer that a table is
abbrev pub tree_of : map.FinMap path_cmp Node → Slots Inode → Places → ℕ → ℕ → Tree
tree_of t s places next most = record { entries = map.entries t; bodies = bodies_of (body_at s) places; next = next; most = most }

-- a file or symlink with the number has the key
abbrev pub IsLeafOf : SlotView → ℕ → ℕ → Type 0
IsLeafOf s k c = (b : Body) × (s.bodies c ≡ Some b) × (s.nodes c ≡ Some (leaf_node k b))

-- what holds of the places: each file that a path reaches has its place, each place has its file, and its links are its names
pub record IsFiled (s : SlotView) (root : ℕ) (places : Places) (tree : Tree) : Type 0 where
  pub placed : (p : Names) (c k : ℕ) → walk s.entries root p ≡ Some (target.Inode c) → option_and_then number_of (s.nodes c) ≡ Some k → place places k ≡ Some c
  pub housed : (k c : ℕ) → place places k ≡ Some c → IsLeafOf s k c
  pub counted : (k c : ℕ) → place places k ≡ Some c → s.counts c ≡ name_count k tree.entries
  pub sorted : IsStrictlySortedBy nat_cmp (keys_of places)

-- what holds of each table and the layer that it is
pub record IsKept (s : SlotView) (root : ℕ) (places : Places) (tree : Tree) : Type 0 where
  pub table : IsTable s root
  pub filed : IsFiled s root places tree
  pub layer : IsLayer tree
