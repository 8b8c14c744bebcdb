-- The distinct numbers of a layer's paths are the numbers of its bodies.
use Rattle.std.proofs.Common.{◌≡◌, ℕ, ◌+◌, Bool, true, false, cond, [], ◌∷◌, Option, Some, None, IsSome, refl, sym, ap, subst, ◌∙◌, inl, inr, arith}
use Rattle.std.specs.Prelude.{is_some, option_and_then}
use Rattle.std.specs.Ordering.{nat_cmp}
use Rattle.std.specs.Cmp.{nat_cmp_total}
use Rattle.std.specs.FinMap.{nat_cmp-IsAntisymmetric}
use Rattle.std.specs.List.{sum_by, filter_map}
use Rattle.std.specs.List.Sorted.{IsStrictlySortedBy}
use Rattle.std.specs.Map.{lookup, keys_of, values_of}
use Rattle.std.specs.BTreeMap.{is_at}
use Rattle.std.proofs.lemmas.Bool.{cond-true, cond-false}
use Rattle.std.proofs.lemmas.Bool.Decides.{nat_tests}
use Rattle.std.proofs.lemmas.List.Sums.{sum_by-cons}
use Rattle.std.proofs.lemmas.Map.Entries.{length-keys_of}
use Rattle.snap_layer.specs.declared.node.Node.{Node}
use Rattle.snap_layer.specs.declared.node.Node.TheVariants.{Dir, File, Symlink, Whiteout}
use Rattle.snap_layer.specs.declared.node.Body.{Body}
use Rattle.snap_layer.specs.Tree.{Tree, Entries, Bodies, at, body, number_of, has_number}
use Rattle.snap_layer.specs.Counts.{name_count, inode_count, block_count, body_blocks}
use Rattle.snap_layer.specs.Layers.{IsLayer}
use Rattle.snap_layer.proofs.Lists.{lookup_below, at_itself}
use Rattle.snap_layer.proofs.Looks.{split_number, no_name_at, name_found}
use Rattle.snap_layer.proofs.Kept.{node_with_number, has_body}
use Rattle.snap_usage.specs.declared.usage.Usage.{Usage}
use Rattle.std.specs.Option.{option_map_or}
use Rattle.snap_layer.specs.declared.node.Body.{Body}
use Rattle.snap_usage.specs.Counted.{numbers_of, distinct, count_of}
use Rattle.snap_usage.proofs.Distinct.{one_at, occurs, found, same_sums, same_lengths, not_found, is_found, occurs-distinct}

-- the blocks of the body that a number has, if it has one
abbrev pub blocks_if : Option Body → ℕ
blocks_if o = option_map_or body_blocks o 0

no_bool : true ≡ false → ⊥
no_bool e = cc

no_body : (b : Body) → Some b ≡ None → ⊥
no_body b e = cc

-- a number stands among the paths' numbers as often as it has names
names_of_number : (k : ℕ) (es : Entries) → occurs k (numbers_of es) ≡ name_count k es
names_of_number k [] = refl
names_of_number k (e ∷ es) = by e.1 (names_of_number k es) ∙ sym (sum_by-cons (λ n. cond (has_number k n) 1 0) e.1 (values_of es))
  where
    by : (n : Node) → occurs k (numbers_of es) ≡ name_count k es → occurs k (filter_map number_of (n ∷ values_of es)) ≡ cond (has_number k n) 1 0 + name_count k es
    by (Dir meta opaque) later = omega (arith, later)
    by (File j) later = omega (arith, later, sum_by-cons (one_at k) j (numbers_of es))
    by (Symlink j) later = omega (arith, later, sum_by-cons (one_at k) j (numbers_of es))
    by Whiteout later = omega (arith, later)

-- one for a body
abbrev one_if : Option Body → ℕ
one_if o = cond (is_some o) 1 0

-- a number stands once among the bodies' numbers where it has a body
occurs-keys_of : (k : ℕ) (bs : Bodies) → IsStrictlySortedBy nat_cmp (keys_of bs) → occurs k (keys_of bs) ≡ one_if (lookup (is_at (nat_cmp k)) bs)
unfolding IsStrictlySortedBy
occurs-keys_of k [] sorted = refl
occurs-keys_of k (e ∷ bs) sorted = elim (split_number k e.0) [
  | inl same ↦
      let none : lookup (is_at (nat_cmp k)) bs ≡ None = subst (λ (j : ℕ). lookup (is_at (nat_cmp j)) bs ≡ None) (sym same.0) (lookup_below nat_cmp_total nat_cmp-IsAntisymmetric e.0 bs sorted.0) in
      let first : one_at k e.0 ≡ 1 = itself k e.0 same.0 in
      omega (arith, first, sum_by-cons (one_at k) e.0 (keys_of bs), occurs-keys_of k bs sorted.1, ap one_if none, ap one_if (cond-true _ (Some e.1) (lookup (is_at (nat_cmp k)) bs) same.1))
  | inr apart ↦
      let first : one_at k e.0 ≡ 0 = other k e.0 apart.0 in
      omega (arith, first, sum_by-cons (one_at k) e.0 (keys_of bs), occurs-keys_of k bs sorted.1, ap one_if (cond-false _ (Some e.1) (lookup (is_at (nat_cmp k)) bs) apart.1))
]
  where
    itself : (j i : ℕ) → j ≡ i → one_at j i ≡ 1
    itself j i same = grind (arith, nat_tests)

    other : (j i : ℕ) → (i ≡ j → ⊥) → one_at j i ≡ 0
    other j i apart = grind (arith, nat_tests)

-- a number stands as often among the paths' distinct numbers as among the bodies' numbers
same_numbers : (t : Tree) → IsLayer t → (k : ℕ) → occurs k (distinct (numbers_of t.entries)) ≡ occurs k (keys_of t.bodies)
same_numbers t ok k = occurs-distinct k (numbers_of t.entries) ∙ by (found k (numbers_of t.entries)) refl (body t k) refl ∙ sym (occurs-keys_of k t.bodies ok.sorted_numbers)
  where
    by : (b : Bool) → found k (numbers_of t.entries) ≡ b → (o : Option Body) → body t k ≡ o → cond b 1 0 ≡ one_if o
    by true e (Some b) is = refl
    by false e None is = refl
    by true e None is =
        let some : name_count k t.entries ≡ 0 → ⊥ = λ none. is_found k (numbers_of t.entries) e (names_of_number k t.entries ∙ none) in
        let name = name_found k t.entries ok.sorted_paths some in
        let has : IsSome (body t k) = has_body t ok name.0 k (ap (option_and_then number_of) name.2 ∙ name.3) in
        absurd (no_bool (sym (sym (ap is_some is) ∙ has)))
    by false e (Some b) is =
        let name = ok.named k (ap is_some is) in
        let n = node_with_number (at t name.0) k name.1 in
        absurd (no_name_at k name.0 t.entries n.0 (sym (names_of_number k t.entries) ∙ not_found k (numbers_of t.entries) e) n.1 n.2)

-- the bodies' blocks, found by their numbers
blocks_of_keys : (g : ℕ → ℕ) (bs : Bodies) → IsStrictlySortedBy nat_cmp (keys_of bs) → ((k : ℕ) (b : Body) → lookup (is_at (nat_cmp k)) bs ≡ Some b → g k ≡ body_blocks b) → sum_by g (keys_of bs) ≡ sum_by body_blocks (values_of bs)
unfolding IsStrictlySortedBy
blocks_of_keys g [] sorted each = refl
blocks_of_keys g (e ∷ bs) sorted each =
    let first = each e.0 e.1 (cond-true _ _ _ (at_itself nat_cmp_total nat_cmp-IsAntisymmetric e.0)) in
    let rest = blocks_of_keys g bs sorted.1 (λ k b is. each k b (later k b is)) in
    omega (arith, first, rest, sum_by-cons g e.0 (keys_of bs), sum_by-cons body_blocks e.1 (values_of bs))
  where
    later : (k : ℕ) (b : Body) → lookup (is_at (nat_cmp k)) bs ≡ Some b → cond (is_at (nat_cmp k) e.0) (Some e.1) (lookup (is_at (nat_cmp k)) bs) ≡ Some b
    later k b is = elim (split_number k e.0) [
      | inl same ↦ absurd (no_body b (sym (subst (λ (j : ℕ). lookup (is_at (nat_cmp j)) bs ≡ Some b) same.0 is) ∙ lookup_below nat_cmp_total nat_cmp-IsAntisymmetric e.0 bs sorted.0))
      | inr apart ↦ cond-false _ _ _ apart.1 ∙ is
    ]

-- what a layer takes is what its bodies' list says
pub count_of-IsLayer : (t : Tree) → IsLayer t → ◌≡◌ {A = Usage} (count_of t) (record { blocks = block_count t; inodes = inode_count t })
count_of-IsLayer t ok =
    let files = distinct (numbers_of t.entries) in
    let blocks : (count_of t).blocks ≡ block_count t =
    omega (arith, same_sums (λ k. blocks_if (body t k)) files (keys_of t.bodies) (same_numbers t ok), blocks_of_keys (λ k. blocks_if (body t k)) t.bodies ok.sorted_numbers (λ k b is. ap blocks_if is)) in
    let inodes : (count_of t).inodes ≡ inode_count t =
    omega (arith, same_lengths files (keys_of t.bodies) (same_numbers t ok), length-keys_of t.bodies) in
    λ i. record { blocks = blocks i; inodes = inodes i }
