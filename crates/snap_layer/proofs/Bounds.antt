-- No sum over a layer passes its bound.
use Rattle.std.proofs.Common.{◌≡◌, ℕ, ◌*◌, ◌≤◌, cond, [], ◌∷◌, length, Some, None, sym, ap, subst, ◌∙◌, inl, inr, arith}
use Rattle.std.specs.Prelude.{is_some}
use Rattle.std.specs.Ordering.{nat_cmp}
use Rattle.std.specs.Cmp.{nat_cmp_total}
use Rattle.std.specs.FinMap.{nat_cmp-IsAntisymmetric}
use Rattle.std.specs.List.{sum_by}
use Rattle.std.specs.List.Sorted.{IsStrictlySortedBy}
use Rattle.std.specs.Map.{lookup, keys_of, values_of}
use Rattle.std.specs.BTreeMap.{is_at}
use Rattle.std.proofs.lemmas.Bool.{cond-true, cond-false}
use Rattle.std.proofs.lemmas.List.Sums.{sum_by-cons}
use Rattle.snap_layer.specs.declared.content.Content.{Content}
use Rattle.snap_layer.specs.declared.content.Content.TheVariants.{Bytes, Sized}
use Rattle.snap_layer.specs.declared.node.Node.{Node}
use Rattle.snap_layer.specs.declared.node.Node.TheVariants.{Dir, File, Symlink, Whiteout}
use Rattle.snap_layer.specs.declared.node.Body.{Body}
use Rattle.snap_layer.specs.declared.node.Body.TheVariants as body_kinds
use Rattle.snap_layer.specs.Tree.{Tree, Bodies, at, body, number_of}
use Rattle.snap_layer.specs.Counts.{blocks_of, body_blocks, most_file_blocks, most_inodes}
use Rattle.snap_layer.specs.Contents.{size_of, IsContent}
use Rattle.snap_layer.specs.Layers.{IsLayer, IsFile, IsSymlink, IsWhole, IsBody}
use Rattle.snap_layer.proofs.Lists.{lookup_below, at_itself}
use Rattle.snap_layer.proofs.Looks.{split_number}
use Rattle.snap_layer.proofs.Kept.{node_with_number}

pub content_blocks : (c : Content) → IsContent c → blocks_of (size_of c) ≤ most_file_blocks
content_blocks (Bytes bytes) short = omega (arith, short)
content_blocks (Sized size digest) short = omega (arith, short.0)

file_blocks : (b : Body) → IsFile (Some b) → body_blocks b ≤ most_file_blocks
file_blocks (body_kinds.File meta content) file = content_blocks content file.1
file_blocks (body_kinds.Symlink target) file = absurd file

symlink_blocks : (b : Body) → IsSymlink (Some b) → body_blocks b ≤ most_file_blocks
symlink_blocks (body_kinds.File meta content) link = absurd link
symlink_blocks (body_kinds.Symlink target) link = omega arith

pub body_small : (b : Body) → IsBody b → body_blocks b ≤ most_file_blocks
body_small (body_kinds.File meta content) fits = file_blocks (body_kinds.File meta content) fits
body_small (body_kinds.Symlink target) fits = symlink_blocks (body_kinds.Symlink target) fits

whole_blocks : (t : Tree) (n : Node) (k : ℕ) (b : Body) → IsWhole t n → number_of n ≡ Some k → body t k ≡ Some b → body_blocks b ≤ most_file_blocks
whole_blocks t (Dir m o) k b whole e is = absurd (cc)
whole_blocks t (File j) k b whole e is = let same : j ≡ k = cc in file_blocks b (subst IsFile (ap (body t) same ∙ is) whole)
whole_blocks t (Symlink j) k b whole e is = let same : j ≡ k = cc in symlink_blocks b (subst IsSymlink (ap (body t) same ∙ is) whole)
whole_blocks t Whiteout k b whole e is = absurd (cc)

pub blocks_of_body : (t : Tree) → IsLayer t → (k : ℕ) (b : Body) → body t k ≡ Some b → body_blocks b ≤ most_file_blocks
blocks_of_body t ok k b is =
    let name = ok.named k (ap is_some is) in
    let n = node_with_number (at t name.0) k name.1 in
    whole_blocks t n.0 k b (ok.nodes name.0 n.0 n.1) n.2 is

bounded : (bs : Bodies) → IsStrictlySortedBy nat_cmp (keys_of bs) → ((k : ℕ) (b : Body) → lookup (is_at (nat_cmp k)) bs ≡ Some b → body_blocks b ≤ most_file_blocks) → sum_by body_blocks (values_of bs) ≤ length bs * most_file_blocks
unfolding IsStrictlySortedBy
bounded [] sorted each = omega arith
bounded (e ∷ bs) sorted each =
    let first = each e.0 e.1 (cond-true _ _ _ (at_itself nat_cmp_total nat_cmp-IsAntisymmetric e.0)) in
    let rest = bounded bs sorted.1 (λ k b is. each k b (later k b is)) in
    omega (arith, first, rest, sum_by-cons body_blocks e.1 (values_of bs))
  where
    no_body : (b : Body) → Some b ≡ None → ⊥
    no_body b f = cc

    later : (k : ℕ) (b : Body) → lookup (is_at (nat_cmp k)) bs ≡ Some b → cond (is_at (nat_cmp k) e.0) (Some e.1) (lookup (is_at (nat_cmp k)) bs) ≡ Some b
    later k b is = elim (split_number k e.0) [
      | inl same ↦ absurd (no_body b (sym (subst (λ (j : ℕ). lookup (is_at (nat_cmp j)) bs ≡ Some b) same.0 is) ∙ lookup_below nat_cmp_total nat_cmp-IsAntisymmetric e.0 bs sorted.0))
      | inr apart ↦ cond-false _ _ _ apart.1 ∙ is
    ]

-- the blocks of all files
pub blocks_of_bodies : (t : Tree) → IsLayer t → sum_by body_blocks (values_of t.bodies) ≤ most_inodes * most_file_blocks
blocks_of_bodies t ok = omega (arith, bounded t.bodies ok.sorted_numbers (blocks_of_body t ok), ok.few, ok.most.1)
