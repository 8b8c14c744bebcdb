-- What is left of two layers that have the same at a path.
use Rattle.std.proofs.Common.{◌≡◌, ℕ, ◌+◌, Bool, true, false, cond, [], ◌++◌, drop, length, Option, Some, None, IsSome, is_some, refl, sym, ap, ◌∙◌, arith, append-nil}
use Rattle.std.specs.Prelude.{option_and_then, ◌==◌, count_by}
use Rattle.std.specs.List.{sum_by}
use Rattle.std.specs.List.Sorted.{IsStrictlySortedBy}
use Rattle.std.specs.Map.{keys_of, values_of}
use Rattle.snap_path.specs.Text.{Names, begins}
use Rattle.snap_layer.specs.Tree.{Tree, Entries, path_cmp, at, body, has_number, is_dir, is_whiteout, number_at, number_of}
use Rattle.snap_layer.specs.Counts.{inode_count, block_count, name_count, body_blocks}
use Rattle.snap_layer.specs.Layers.{IsLayer}
use Rattle.snap_layer.specs.Edits.{inside, outside, without}
use Rattle.snap_layer.proofs.Lists.{same_lists, lookup-filter, sorted-filter, sum_by-filter}
use Rattle.snap_layer.proofs.Paths.{path_cmp_total, path_cmp-IsAntisymmetric, begins_rest}
use Rattle.snap_layer.proofs.Counting.{dropped, dropped_blocks, weight_of_body, inode_count-without, block_count-without}
use Rattle.snap_layer.proofs.Kept.{has_body}

-- t has at the path and below it what u has, and as many names of a number there
pub record Keeps (u t : Tree) (p : Names) : Type 0 where
  pub paths : IsStrictlySortedBy path_cmp (keys_of t.entries)
  pub same : (r : Names) → at t (p ++ r) ≡ at u (p ++ r)
  pub names : (k : ℕ) → number_at u p ≡ Some k → name_count k t.entries ≡ name_count k u.entries
  pub bodies : (k : ℕ) → number_at u p ≡ Some k → body t k ≡ body u k

module _ (u t : Tree) (p : Names) (ok : IsLayer u) (keeps : Keeps u t p) where
  same_number : number_at t p ≡ number_at u p
  same_number = ap (option_and_then number_of) (ap (at t) (sym (append-nil p)) ∙ keeps.same [] ∙ ap (at u) (append-nil p))

  same_inside : inside p t.entries ≡ inside p u.entries
  same_inside =
      same_lists path_cmp_total path_cmp-IsAntisymmetric (inside p t.entries) (inside p u.entries)
      (sorted-filter path_cmp (λ e. begins p e.0) t.entries keeps.paths)
      (sorted-filter path_cmp (λ e. begins p e.0) u.entries ok.sorted_paths)
      (λ q. lookup-filter path_cmp_total path_cmp-IsAntisymmetric (λ x. begins p x) q t.entries ∙ by q (begins p q) refl ∙ sym (lookup-filter path_cmp_total path_cmp-IsAntisymmetric (λ x. begins p x) q u.entries))
    where
      by : (q : Names) (b : Bool) → begins p q ≡ b → cond b (at t q) None ≡ cond b (at u q) None
      by q true e = ap (at t) (begins_rest p q e) ∙ keeps.same (drop (length p) q) ∙ sym (ap (at u) (begins_rest p q e))
      by q false e = refl

  outside_names : (k : ℕ) → number_at u p ≡ Some k → name_count k (outside p t.entries) ≡ name_count k (outside p u.entries)
  outside_names k number = omega (
    arith,
    sum_by-filter (λ m. cond (has_number k m) 1 0) (λ e. begins p e.0) t.entries,
    sum_by-filter (λ m. cond (has_number k m) 1 0) (λ e. begins p e.0) u.entries,
    ap (λ (es : Entries). sum_by (λ m. cond (has_number k m) 1 0) (values_of es)) same_inside,
    keeps.names k number,
  )

  same_dropped : dropped (number_at t p) (outside p t.entries) ≡ dropped (number_at u p) (outside p u.entries)
  same_dropped = ap (λ (o : Option ℕ). dropped o (outside p t.entries)) same_number ∙ by (number_at u p) refl
    where
      by : (o : Option ℕ) → number_at u p ≡ o → dropped o (outside p t.entries) ≡ dropped o (outside p u.entries)
      by None e = refl
      by (Some k) e = ap (λ (n : ℕ). cond (n == 0) 1 0) (outside_names k e)

  same_dropped_blocks : dropped_blocks (number_at t p) (outside p t.entries) t.bodies ≡ dropped_blocks (number_at u p) (outside p u.entries) u.bodies
  same_dropped_blocks = ap (λ (o : Option ℕ). dropped_blocks o (outside p t.entries) t.bodies) same_number ∙ by (number_at u p) refl
    where
      by : (o : Option ℕ) → number_at u p ≡ o → dropped_blocks o (outside p t.entries) t.bodies ≡ dropped_blocks o (outside p u.entries) u.bodies
      by None e = refl
      by (Some k) e = (λ i. cond (outside_names k e i == 0) (weight_of_body body_blocks (keeps.bodies k e i)) 0)

  stays : (k : ℕ) → number_at t p ≡ Some k → IsSome (body t k)
  stays k number =
      let own : number_at u p ≡ Some k = sym same_number ∙ number in
      ap is_some (keeps.bodies k own) ∙ has_body u ok p k own

  -- as much goes
  pub left_inodes : inode_count (without t p) + inode_count u ≡ inode_count (without u p) + inode_count t
  left_inodes = omega (
    arith,
    inode_count-without t p stays,
    inode_count-without u p (has_body u ok p),
    ap (λ (es : Entries). count_by is_dir (values_of es)) same_inside,
    ap (λ (es : Entries). count_by is_whiteout (values_of es)) same_inside,
    same_dropped,
  )

  pub left_blocks : block_count (without t p) + block_count u ≡ block_count (without u p) + block_count t
  left_blocks = omega (
    arith,
    block_count-without t p,
    block_count-without u p,
    ap (λ (es : Entries). count_by is_dir (values_of es)) same_inside,
    same_dropped_blocks,
  )
