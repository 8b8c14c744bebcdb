-- What stands in place of what stood at a path, and the limits.
use Rattle.std.proofs.Common.{◌≡◌, ℕ, ◌+◌, ◌≤◌, Bool, true, false, Result, Ok, Err, refl, sym, ap, subst, ◌∙◌, arith}
use Rattle.std.specs.Prelude.{◌-◌, ◌^◌, ◌&&◌, nat_le, IsErrOf, IsErrAnd}
use Rattle.std.proofs.lemmas.Bool.Decides.{nat_tests}
use Rattle.std.proofs.lemmas.Result.{err_from_is_err_and}
use Rattle.snap_path.specs.Limits.{most_number}
use Rattle.snap_path.specs.Memory.{no_memory}
use Rattle.snap_path.specs.Text.{Names, IsPath}
use Rattle.snap_layer.specs.declared.node.Meta.{Meta}
use Rattle.snap_layer.specs.declared.error.LayerError.{LayerError}
use Rattle.snap_layer.specs.declared.error.LayerError.TheVariants.{LayerFull, OutOfMemory}
use Rattle.snap_layer.specs.declared.node.Node.{Node}
use Rattle.snap_layer.specs.declared.node.Node.TheVariants.{Dir, Whiteout}
use Rattle.snap_layer.specs.declared.node.Body.{Body}
use Rattle.snap_layer.specs.declared.totals.Totals.{Totals}
use Rattle.snap_layer.specs.Tree.{Tree, at, leaf_node}
use Rattle.snap_layer.specs.Counts.{inode_count, block_count, body_blocks, is_within}
use Rattle.snap_layer.specs.Layers.{IsLayer, IsBody, IsMeta}
use Rattle.snap_layer.specs.Edits.{with_entry, with_linked, with_moved, with_new, with_node, without, HasPlace, HasRoom, HasRooms, IsMovable}
use Rattle.snap_layer.specs.Totals.{path_count, fits, IsCounted, IsRoom}
use Rattle.snap_layer.proofs.Filling.{one_if, SaysFull, memory_said, ok_said, dir_becomes, whiteout_becomes, body_becomes}
use Rattle.snap_layer.proofs.Files.{leaf_number}
use Rattle.snap_layer.proofs.Laws.{block_count-with_node, block_count-with_new}
use Rattle.snap_layer.proofs.Linked.{linked_becomes, linked_blocks, linked_inodes, linked_paths}
use Rattle.snap_layer.proofs.Moves.{block_count-with_moved, most_moved}
use Rattle.snap_layer.proofs.Moving.{moved_becomes}
use Rattle.snap_layer.proofs.Replacing.{inode_count-with_new, with_node-free}
use Rattle.snap_layer.proofs.Totaling.{path_count-with_node, path_count-with_moved}

-- u is the layer t with what takes these numbers, inodes and blocks in place of what stands at the path
pub record Costs (t u : Tree) (p : Names) (k i b : ℕ) : Type 0 where
  pub next : u.next ≡ t.next + k
  pub most : u.most ≡ t.most
  pub inodes : inode_count u ≡ inode_count (without t p) + i
  pub blocks : block_count u ≡ block_count (without t p) + b
  pub layer : inode_count u ≤ u.most → u.next ≤ most_number → IsLayer u

-- the test of the limits answers `LayerFull` exactly where they are passed
abbrev pub IsFullBy : Result Totals LayerError → Bool → Type 0
IsFullBy r b = (IsErrOf r LayerFull → b ≡ false) × (b ≡ false → IsErrOf r LayerFull)

-- the test wants memory only at the last address
abbrev pub IsLastBy : Result Totals LayerError → ℕ → Type 0
IsLastBy r n = IsErrOf r (OutOfMemory no_memory) → n ≡ 2 ^ 64 - 1

pub last_by : {B : Type 0} (r : Result B LayerError) (x : LayerError) (n : ℕ) → IsErrAnd r (λ e. e ≡ x) → IsLastBy (Err x) n → IsErrOf r (OutOfMemory no_memory) → n ≡ 2 ^ 64 - 1
last_by (Ok a) x n is said e = absurd is
last_by (Err y) x n is said e = let full : y ≡ OutOfMemory no_memory = cc in said (ap (λ (z : LayerError). Err z) (sym is ∙ full))

both : (a b m : ℕ) → (nat_le a m && nat_le b most_number) ≡ true → (a ≤ m) × (b ≤ most_number)
both a b m fit = (grind (arith, nat_tests), grind (arith, nat_tests))

pub fits_next : (t : Tree) (p : Names) (k i : ℕ) → fits t p k i ≡ true → t.next + k ≤ most_number
fits_next t p k i fit = (both (inode_count (without t p) + i) (t.next + k) t.most fit).1

module _ (t u : Tree) (p : Names) (k i b : ℕ) (c : Costs t u p k i b) where
  costs_within : is_within u ≡ fits t p k i
  costs_within = λ j. nat_le (c.inodes j) (c.most j) && nat_le (c.next j) most_number

  pub costs_full : {B : Type 0} (r : Result B LayerError) (x : LayerError) → IsErrAnd r (λ e. e ≡ x) → IsFullBy (Err x) (fits t p k i) → SaysFull r u
  costs_full (Ok a) x is said = absurd is
  costs_full (Err y) x is said = (
    λ e. costs_within ∙ said.0 (let full : y ≡ LayerFull = cc in ap (λ (z : LayerError). Err z) (sym is ∙ full)),
    λ f. let full : x ≡ LayerFull = inner (said.1 (sym costs_within ∙ f)) in ap (λ (z : LayerError). Err z) (is ∙ full),
  )
    where
      inner : ◌≡◌ {A = Result Totals LayerError} (Err x) (Err LayerFull) → x ≡ LayerFull
      inner e = cc

  module _ (fit : fits t p k i ≡ true) where
    pub costs_layer : IsLayer u
    costs_layer = let few = both (inode_count u) u.next u.most (costs_within ∙ fit) in c.layer few.0 few.1

    pub costs_counted : (v w : Totals) → IsRoom v t p i b → w.inodes ≡ v.inodes → w.blocks ≡ v.blocks → w.paths ≡ path_count u → IsCounted w u
    costs_counted v w room inodes blocks paths = (record { inodes = omega (arith, inodes, room.inodes, c.inodes); blocks = omega (arith, blocks, room.blocks, c.blocks); paths = paths }, costs_layer)

    pub costs_memory : {B : Type 0} (r : Result B LayerError) → IsErrAnd r (λ e. e ≡ OutOfMemory no_memory) → SaysFull r u
    costs_memory r is = let e = err_from_is_err_and r is in memory_said r e.0 u e.1 e.2 (costs_within ∙ fit)

    pub costs_done : {B : Type 0} (x : B) → SaysFull (Ok x) u
    costs_done x = ok_said x u (costs_within ∙ fit)

-- ---- what each edit puts there

module _ (t : Tree) (ok : IsLayer t) (p : Names) (path : IsPath p) where
  pub dir_costs : (meta : Meta) (opaque : Bool) → HasRoom t p → IsMeta meta → Costs t (with_entry t p (Dir meta opaque)) p 0 1 1
  dir_costs meta opaque room low =
      let b = dir_becomes t ok p path (inode_count (without t p)) refl meta opaque room low in
      subst (λ (u : Tree). Costs t u p 0 1 1) (with_node-free t ok p (Dir meta opaque) room.free)
      (record { next = omega arith; most = refl; inodes = sym b.count; blocks = block_count-with_node t p (Dir meta opaque) ok; layer = λ few next. b.layer (omega (arith, few, b.count)) })

  pub whiteout_costs : HasPlace t p → Costs t (with_node t p Whiteout) p 0 1 0
  whiteout_costs place =
      let b = whiteout_becomes t ok p path (inode_count (without t p)) refl place in
      record { next = omega arith; most = refl; inodes = sym b.count; blocks = block_count-with_node t p Whiteout ok; layer = λ few next. b.layer (omega (arith, few, b.count)) }

  pub new_costs : (b : Body) (n : ℕ) → HasPlace t p → IsBody b → n ≡ body_blocks b → Costs t (with_new t p (leaf_node t.next b) b) p 1 1 n
  new_costs b n place fit size = record {
    next = refl;
    most = refl;
    inodes = inode_count-with_new t p (leaf_node t.next b) b ok (leaf_number t.next b);
    blocks = omega (arith, size, block_count-with_new t p (leaf_node t.next b) b ok (leaf_number t.next b));
    layer = λ few next. let c = body_becomes t ok p path (inode_count (without t p)) refl place (omega (arith, next)) b fit in c.layer (omega (arith, few, c.count));
  }

pub path_moved : (t : Tree) → IsLayer t → (from to : Names) (leaves : Bool) (i : ℕ) → IsMovable t from to → i ≡ one_if leaves → path_count (with_moved t from to leaves) ≡ path_count (without t to) + i
path_moved t ok from to leaves i movable one = omega (arith, path_count-with_moved t from to leaves ok.sorted_paths movable.not_around, one)

pub moved_costs : (t : Tree) → IsLayer t → (from to : Names) (leaves : Bool) (i : ℕ) → IsMovable t from to → i ≡ one_if leaves → Costs t (with_moved t from to leaves) to 0 i 0
moved_costs t ok from to leaves i movable one =
    let b = moved_becomes t from to leaves (inode_count (without t to)) (inode_count (without t to) + i) ok movable refl (ap (λ n. inode_count (without t to) + n) one) in
    record { next = next leaves; most = most_moved t from to leaves; inodes = sym b.count; blocks = omega (arith, block_count-with_moved t from to ok.sorted_paths movable.not_around leaves); layer = λ few next. b.layer (omega (arith, few, b.count)) }
  where
    next : (c : Bool) → (with_moved t from to c).next ≡ t.next + 0
    next true = omega arith
    next false = omega arith

module _ (t : Tree) (ok : IsLayer t) (path link : Names) (rooms : HasRooms t path link) (b : Body) where
  pub path_linked : path_count (with_linked t path link b) ≡ path_count (without t link) + 2
  path_linked = omega (arith, linked_paths t ok path link rooms b, path_count-with_node t link (leaf_node t.next b) ok.sorted_paths)

  pub linked_costs : (n : ℕ) → IsBody b → IsPath path → IsPath link → n ≡ body_blocks b → Costs t (with_linked t path link b) link 1 1 n
  linked_costs n fit path_is link_is size = record {
    next = refl;
    most = refl;
    inodes = omega (arith, linked_inodes t ok path link rooms b, inode_count-with_new t link (leaf_node t.next b) b ok (leaf_number t.next b));
    blocks = omega (arith, size, linked_blocks t ok path link rooms b);
    layer = λ few next. let c = linked_becomes t ok path link rooms b fit path_is link_is (omega (arith, next)) (inode_count (without t link)) refl in c.layer (omega (arith, few, c.count));
  }
