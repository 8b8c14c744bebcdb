-- What an edit does to the counts.
use Rattle.std.proofs.Common.{◌≡◌, ℕ, ◌+◌, Bool, true, false, cond, List, [], ◌∷◌, length, Option, Some, None, IsSome, refl, ap, ◌∙◌, arith}
use Rattle.std.specs.Prelude.{unwrap_or, ◌==◌, count_by}
use Rattle.std.specs.Option.{option_map}
use Rattle.std.specs.Ordering.{nat_cmp}
use Rattle.std.specs.Cmp.{nat_cmp_total}
use Rattle.std.specs.List.{sum_by}
use Rattle.std.specs.List.Sorted.{IsStrictlySortedBy}
use Rattle.std.specs.Map.{lookup, remove_entry, keys_of, values_of}
use Rattle.std.specs.BTreeMap.{is_at, insert_entry}
use Rattle.std.proofs.lemmas.List.Sums.{sum_by-cons}
use Rattle.std.proofs.lemmas.Map.Entries.{sum_by-insert_entry, sum_by-remove_entry, length-values_of}
use Rattle.snap_path.specs.Text.{Names, begins}
use Rattle.snap_layer.specs.declared.node.Node.{Node}
use Rattle.snap_layer.specs.declared.node.Body.{Body}
use Rattle.snap_layer.specs.Tree.{Tree, Entries, Bodies, path_cmp, at, body, number_at, is_dir, is_whiteout, has_number}
use Rattle.snap_layer.specs.Counts.{dir_count, whiteout_count, name_count, inode_count, block_count, body_blocks}
use Rattle.snap_layer.specs.Edits.{with_entry, with_body, without, outside, inside, bodies_without}
use Rattle.snap_layer.proofs.Lists.{sum_by-filter}
use Rattle.snap_layer.proofs.Paths.{path_cmp_total}

-- one for a directory
abbrev pub dirs : Node → ℕ
dirs n = cond (is_dir n) 1 0

-- one for a whiteout
abbrev pub whites : Node → ℕ
whites n = cond (is_whiteout n) 1 0

abbrev pub weight : (Node → ℕ) → Option Node → ℕ
weight f o = unwrap_or (option_map f o) 0

-- the inodes of a node: one for a directory or a whiteout, and none for a name, whose body counts
abbrev pub inodes_of : Option Node → ℕ
inodes_of o = weight dirs o + weight whites o

-- ---- a node put at a path

pub dir_count-with_entry : (t : Tree) (p : Names) (n : Node) → IsStrictlySortedBy path_cmp (keys_of t.entries) → dir_count (with_entry t p n) + weight dirs (at t p) ≡ dir_count t + dirs n
dir_count-with_entry t p n sorted = sum_by-insert_entry dirs path_cmp_total t.entries p n sorted

pub whiteout_count-with_entry : (t : Tree) (p : Names) (n : Node) → IsStrictlySortedBy path_cmp (keys_of t.entries) → whiteout_count (with_entry t p n) + weight whites (at t p) ≡ whiteout_count t + whites n
whiteout_count-with_entry t p n sorted = sum_by-insert_entry whites path_cmp_total t.entries p n sorted

pub inode_count-with_entry : (t : Tree) (p : Names) (n : Node) → IsStrictlySortedBy path_cmp (keys_of t.entries) → inode_count (with_entry t p n) + inodes_of (at t p) ≡ inode_count t + inodes_of (Some n)
inode_count-with_entry t p n sorted = omega (arith, dir_count-with_entry t p n sorted, whiteout_count-with_entry t p n sorted)

pub block_count-with_entry : (t : Tree) (p : Names) (n : Node) → IsStrictlySortedBy path_cmp (keys_of t.entries) → block_count (with_entry t p n) + weight dirs (at t p) ≡ block_count t + dirs n
block_count-with_entry t p n sorted = omega (arith, dir_count-with_entry t p n sorted)

pub name_count-insert_entry : (k : ℕ) (es : Entries) (p : Names) (n : Node) → IsStrictlySortedBy path_cmp (keys_of es) → name_count k (insert_entry path_cmp es p n) + weight (λ m. cond (has_number k m) 1 0) (lookup (is_at (path_cmp p)) es) ≡ name_count k es + cond (has_number k n) 1 0
name_count-insert_entry k es p n sorted = sum_by-insert_entry (λ m. cond (has_number k m) 1 0) path_cmp_total es p n sorted

-- ---- bodies

abbrev one : Body → ℕ
one b = 1

sum_of_ones : (bs : List Body) → sum_by one bs ≡ length bs
sum_of_ones [] = refl
sum_of_ones (b ∷ bs) = omega (arith, sum_by-cons one b bs, sum_of_ones bs)

pub count_of_bodies : (bs : Bodies) → sum_by one (values_of bs) ≡ length bs
count_of_bodies bs = sum_of_ones (values_of bs) ∙ length-values_of bs

abbrev pub weight_of_body : (Body → ℕ) → Option Body → ℕ
weight_of_body f o = unwrap_or (option_map f o) 0

pub length-insert_body : (bs : Bodies) (k : ℕ) (b : Body) → IsStrictlySortedBy nat_cmp (keys_of bs) → length (insert_entry nat_cmp bs k b) + weight_of_body one (lookup (is_at (nat_cmp k)) bs) ≡ length bs + 1
length-insert_body bs k b sorted = omega (arith, sum_by-insert_entry one nat_cmp_total bs k b sorted, count_of_bodies bs, count_of_bodies (insert_entry nat_cmp bs k b))

-- a new body
pub length-insert_new : (bs : Bodies) (k : ℕ) (b : Body) → IsStrictlySortedBy nat_cmp (keys_of bs) → lookup (is_at (nat_cmp k)) bs ≡ None → length (insert_entry nat_cmp bs k b) ≡ length bs + 1
length-insert_new bs k b sorted none = omega (arith, length-insert_body bs k b sorted, ap (weight_of_body one) none)

one_at : (o : Option Body) → IsSome o → weight_of_body one o ≡ 1
one_at None some = absurd (cc)
one_at (Some b) some = refl

-- a body in place of another
pub length-insert_same : (bs : Bodies) (k : ℕ) (b : Body) → IsStrictlySortedBy nat_cmp (keys_of bs) → IsSome (lookup (is_at (nat_cmp k)) bs) → length (insert_entry nat_cmp bs k b) ≡ length bs
length-insert_same bs k b sorted some = omega (arith, length-insert_body bs k b sorted, one_at (lookup (is_at (nat_cmp k)) bs) some)

pub block_count-with_body : (t : Tree) (k : ℕ) (b : Body) → IsStrictlySortedBy nat_cmp (keys_of t.bodies) → block_count (with_body t k b) + weight_of_body body_blocks (body t k) ≡ block_count t + body_blocks b
block_count-with_body t k b sorted = omega (arith, sum_by-insert_entry body_blocks nat_cmp_total t.bodies k b sorted)

pub inode_count-with_body : (t : Tree) (k : ℕ) (b : Body) → IsStrictlySortedBy nat_cmp (keys_of t.bodies) → IsSome (body t k) → inode_count (with_body t k b) ≡ inode_count t
inode_count-with_body t k b sorted some = ap (λ n. dir_count t + whiteout_count t + n) (length-insert_same t.bodies k b sorted some)

-- ---- what stands at a path taken

-- the body that goes with the number, where no entry names it any more
abbrev pub dropped : Option ℕ → Entries → ℕ
dropped None es = 0
dropped (Some k) es = cond (name_count k es == 0) 1 0

abbrev pub dropped_blocks : Option ℕ → Entries → Bodies → ℕ
dropped_blocks None es bs = 0
dropped_blocks (Some k) es bs = cond (name_count k es == 0) (weight_of_body body_blocks (lookup (is_at (nat_cmp k)) bs)) 0

pub length-bodies_without : (o : Option ℕ) (es : Entries) (bs : Bodies) → ((k : ℕ) → o ≡ Some k → IsSome (lookup (is_at (nat_cmp k)) bs)) → length (bodies_without o es bs) + dropped o es ≡ length bs
length-bodies_without None es bs there = omega arith
length-bodies_without (Some k) es bs there = by (name_count k es == 0)
  where
    by : (b : Bool) → length (cond b (remove_entry (is_at (nat_cmp k)) bs) bs) + cond b 1 0 ≡ length bs
    by true = omega (arith, sum_by-remove_entry one (is_at (nat_cmp k)) bs, one_at (lookup (is_at (nat_cmp k)) bs) (there k refl), count_of_bodies bs, count_of_bodies (remove_entry (is_at (nat_cmp k)) bs))
    by false = omega arith

pub blocks-bodies_without : (o : Option ℕ) (es : Entries) (bs : Bodies) → sum_by body_blocks (values_of (bodies_without o es bs)) + dropped_blocks o es bs ≡ sum_by body_blocks (values_of bs)
blocks-bodies_without None es bs = omega arith
blocks-bodies_without (Some k) es bs = by (name_count k es == 0)
  where
    by : (b : Bool) → sum_by body_blocks (values_of (cond b (remove_entry (is_at (nat_cmp k)) bs) bs)) + cond b (weight_of_body body_blocks (lookup (is_at (nat_cmp k)) bs)) 0 ≡ sum_by body_blocks (values_of bs)
    by true = sum_by-remove_entry body_blocks (is_at (nat_cmp k)) bs
    by false = omega arith

-- the directories and whiteouts at a path and below it, and the body that goes
abbrev pub taken_inodes : Tree → Names → ℕ
taken_inodes t p = count_by is_dir (values_of (inside p t.entries)) + count_by is_whiteout (values_of (inside p t.entries)) + dropped (number_at t p) (outside p t.entries)

pub inode_count-without : (t : Tree) (p : Names) → ((k : ℕ) → number_at t p ≡ Some k → IsSome (body t k)) → inode_count (without t p) + taken_inodes t p ≡ inode_count t
inode_count-without t p there =
    omega (arith, sum_by-filter dirs (λ e. begins p e.0) t.entries, sum_by-filter whites (λ e. begins p e.0) t.entries, length-bodies_without (number_at t p) (outside p t.entries) t.bodies there)

pub block_count-without : (t : Tree) (p : Names) → block_count (without t p) + count_by is_dir (values_of (inside p t.entries)) + dropped_blocks (number_at t p) (outside p t.entries) t.bodies ≡ block_count t
block_count-without t p = omega (arith, sum_by-filter dirs (λ e. begins p e.0) t.entries, blocks-bodies_without (number_at t p) (outside p t.entries) t.bodies)
