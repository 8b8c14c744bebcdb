-- What is found in a layer after a change of its lists.
use Rattle.std.proofs.Common.{◌≡◌, ℕ, ◌+◌, Bool, true, false, cond, not, [], ◌∷◌, Option, Some, None, refl, sym, ap, subst, ◌∙◌, ◌⊎◌, inl, inr, arith}
use Rattle.std.specs.Prelude.{◌==◌, ◌&&◌}
use Rattle.std.specs.Ordering.{nat_cmp}
use Rattle.std.specs.Cmp.{nat_cmp_total}
use Rattle.std.specs.FinMap.{nat_cmp-IsAntisymmetric}
use Rattle.std.specs.List.Sorted.{IsStrictlySortedBy}
use Rattle.std.specs.Map.{lookup, remove_entry, keys_of, values_of}
use Rattle.std.specs.BTreeMap.{is_at, insert_entry}
use Rattle.std.proofs.lemmas.Bool.Decides.{nat_tests}
use Rattle.std.proofs.lemmas.Bool.{cond-true, cond-false}
use Rattle.std.proofs.lemmas.List.Sums.{sum_by-cons}
use Rattle.snap_path.specs.Text.{Names, begins}
use Rattle.snap_layer.specs.declared.node.Node.{Node}
use Rattle.snap_layer.specs.declared.node.Node.TheVariants.{Dir, File, Symlink, Whiteout}
use Rattle.snap_layer.specs.declared.node.Body.{Body}
use Rattle.snap_layer.specs.Tree.{Tree, Entries, Bodies, path_cmp, at, body, number_of, has_number}
use Rattle.snap_layer.specs.Counts.{name_count}
use Rattle.snap_layer.specs.Edits.{with_entry, with_body, without, bodies_without}
use Rattle.snap_layer.proofs.Lists.{split_key, at_itself, apart_from, lookup-insert_entry, lookup-filter, lookup-remove_entry, lookup_below, same_lists, sorted-remove_entry}
use Rattle.snap_layer.proofs.Paths.{path_cmp_total, path_cmp-IsAntisymmetric}

no_bool : true ≡ false → ⊥
no_bool e = cc

-- two paths, and two numbers, are one or differ
pub split_path : (p q : Names) → ((p ≡ q) × (is_at (path_cmp p) q ≡ true)) ⊎ ((q ≡ p → ⊥) × (is_at (path_cmp p) q ≡ false))
split_path p q = split_key path_cmp_total path_cmp-IsAntisymmetric p q

pub split_number : (j k : ℕ) → ((j ≡ k) × (is_at (nat_cmp j) k ≡ true)) ⊎ ((k ≡ j → ⊥) × (is_at (nat_cmp j) k ≡ false))
split_number j k = split_key nat_cmp_total nat_cmp-IsAntisymmetric j k

-- u has w at the path, and at every other path what t has
pub record Sets (t u : Tree) (p : Names) (w : Option Node) : Type 0 where
  pub here : at u p ≡ w
  pub others : (q : Names) → (q ≡ p → ⊥) → at u q ≡ at t q

-- a node put at a path
pub at-with_entry : (t : Tree) (p : Names) (n : Node) (q : Names) → at (with_entry t p n) q ≡ cond (is_at (path_cmp q) p) (Some n) (at t q)
at-with_entry t p n q = lookup-insert_entry path_cmp_total path_cmp-IsAntisymmetric t.entries p n q

pub Sets-with_entry : (t : Tree) (p : Names) (n : Node) → Sets t (with_entry t p n) p (Some n)
Sets-with_entry t p n = record {
  here = at-with_entry t p n p ∙ cond-true _ _ _ (at_itself path_cmp_total path_cmp-IsAntisymmetric p);
  others = λ q apart. at-with_entry t p n q ∙ cond-false _ _ _ (apart_from path_cmp_total path_cmp-IsAntisymmetric q p (λ e. apart (sym e)));
}

-- what stands at a path taken, with all below it
pub at-without : (t : Tree) (p q : Names) → at (without t p) q ≡ cond (begins p q) None (at t q)
at-without t p q = lookup-filter path_cmp_total path_cmp-IsAntisymmetric (λ x. not (begins p x)) q t.entries ∙ turned (begins p q)
  where
    turned : (b : Bool) → cond (not b) (at t q) None ≡ cond b None (at t q)
    turned true = refl
    turned false = refl

pub at-without_outside : (t : Tree) (p q : Names) → begins p q ≡ false → at (without t p) q ≡ at t q
at-without_outside t p q e = at-without t p q ∙ cond-false _ _ _ e

pub at-without_inside : (t : Tree) (p q : Names) → begins p q ≡ true → at (without t p) q ≡ None
at-without_inside t p q e = at-without t p q ∙ cond-true _ _ _ e

-- a body put under a number
pub record SetsBody (t u : Tree) (k : ℕ) (w : Option Body) : Type 0 where
  pub here : body u k ≡ w
  pub others : (j : ℕ) → (j ≡ k → ⊥) → body u j ≡ body t j

pub SetsBody-insert_entry : (t u : Tree) (k : ℕ) (b : Body) → u.bodies ≡ insert_entry nat_cmp t.bodies k b → SetsBody t u k (Some b)
SetsBody-insert_entry t u k b is =
    let gives : (j : ℕ) → body u j ≡ cond (is_at (nat_cmp j) k) (Some b) (body t j) = λ j. ap (lookup (is_at (nat_cmp j))) is ∙ lookup-insert_entry nat_cmp_total nat_cmp-IsAntisymmetric t.bodies k b j in
    record {
      here = gives k ∙ cond-true _ _ _ (at_itself nat_cmp_total nat_cmp-IsAntisymmetric k);
      others = λ j apart. gives j ∙ cond-false _ _ _ (apart_from nat_cmp_total nat_cmp-IsAntisymmetric j k (λ e. apart (sym e)));
    }

pub SetsBody-with_body : (t : Tree) (k : ℕ) (b : Body) → SetsBody t (with_body t k b) k (Some b)
SetsBody-with_body t k b = SetsBody-insert_entry t (with_body t k b) k b refl

-- ---- names of a number

pub number_is : (k : ℕ) (n : Node) → has_number k n ≡ true → number_of n ≡ Some k
number_is k (Dir m o) e = absurd (cc)
number_is k (File j) e = let same : j ≡ k = grind (arith, nat_tests) in cc
number_is k (Symlink j) e = let same : j ≡ k = grind (arith, nat_tests) in cc
number_is k Whiteout e = absurd (cc)

pub has_its_number : (k : ℕ) (n : Node) → number_of n ≡ Some k → has_number k n ≡ true
has_its_number k (Dir m o) e = absurd (cc)
has_its_number k (File j) e = let same : j ≡ k = cc in grind (arith, nat_tests)
has_its_number k (Symlink j) e = let same : j ≡ k = cc in grind (arith, nat_tests)
has_its_number k Whiteout e = absurd (cc)

count_of_entry : (k : ℕ) (e : Names × Node) (es : Entries) → name_count k (e ∷ es) ≡ cond (has_number k e.1) 1 0 + name_count k es
count_of_entry k e es = sum_by-cons (λ n. cond (has_number k n) 1 0) e.1 (values_of es)

abbrev one_if : Bool → ℕ
one_if b = cond b 1 0

weighed : (h : Bool) {b : Bool} → h ≡ b → one_if h ≡ one_if b
weighed h e = ap one_if e

-- a number with no names is at no path
pub no_name_at : (k : ℕ) (q : Names) (es : Entries) (n : Node) → name_count k es ≡ 0 → lookup (is_at (path_cmp q)) es ≡ Some n → number_of n ≡ Some k → ⊥
no_name_at k q [] n none e is = cc
no_name_at k q (x ∷ es) n none e is = by (no_name_at k q es n) (is_at (path_cmp q) x.0) e (has_number k x.1) refl
  where
    by : (name_count k es ≡ 0 → lookup (is_at (path_cmp q)) es ≡ Some n → number_of n ≡ Some k → ⊥) → (b : Bool) → cond b (Some x.1) (lookup (is_at (path_cmp q)) es) ≡ Some n → (h : Bool) → has_number k x.1 ≡ h → ⊥
    by later b found true has = omega (arith, none, count_of_entry k x es, weighed (has_number k x.1) has)
    by later true found false has = no_bool (sym (has_its_number k n is) ∙ ap (has_number k) (sym same) ∙ has)
      where
        same : x.1 ≡ n
        same = cc
    by later false found false has = later (omega (arith, none, count_of_entry k x es, weighed (has_number k x.1) has)) found is

-- a number with names is at some path
pub name_found : (k : ℕ) (es : Entries) → IsStrictlySortedBy path_cmp (keys_of es) → (name_count k es ≡ 0 → ⊥) → (q : Names) × (n : Node) × (lookup (is_at (path_cmp q)) es ≡ Some n) × (number_of n ≡ Some k)
unfolding IsStrictlySortedBy
name_found k [] sorted some = absurd (some refl)
name_found k (x ∷ es) sorted some = by (name_found k es sorted.1) (has_number k x.1) refl
  where
    by : ((name_count k es ≡ 0 → ⊥) → (q : Names) × (n : Node) × (lookup (is_at (path_cmp q)) es ≡ Some n) × (number_of n ≡ Some k)) → (h : Bool) → has_number k x.1 ≡ h
        → (q : Names) × (n : Node) × (lookup (is_at (path_cmp q)) (x ∷ es) ≡ Some n) × (number_of n ≡ Some k)
    by later true has = (x.0, x.1, cond-true _ _ _ (at_itself path_cmp_total path_cmp-IsAntisymmetric x.0), number_is k x.1 has)
    by later false has =
        let f = later (λ none. some (count_of_entry k x es ∙ omega (arith, none, weighed (has_number k x.1) has))) in
        elim (split_path f.0 x.0) [
          | inl same ↦ absurd (cc_none (sym (subst (λ q. lookup (is_at (path_cmp q)) es ≡ Some f.1) same.0 f.2) ∙ lookup_below path_cmp_total path_cmp-IsAntisymmetric x.0 es sorted.0))
          | inr apart ↦ (f.0, f.1, cond-false _ _ _ apart.1 ∙ f.2, f.3)
        ]
      where
        cc_none : {n : Node} → Some n ≡ None → ⊥
        cc_none e = cc

-- ---- bodies that go

-- the number is the one that goes
abbrev pub is_dropped : Option ℕ → Entries → ℕ → Bool
is_dropped None es j = false
is_dropped (Some k) es j = (name_count k es == 0) && is_at (nat_cmp j) k

pub body-bodies_without : (o : Option ℕ) (es : Entries) (bs : Bodies) (j : ℕ) → IsStrictlySortedBy nat_cmp (keys_of bs) → lookup (is_at (nat_cmp j)) (bodies_without o es bs) ≡ cond (is_dropped o es j) None (lookup (is_at (nat_cmp j)) bs)
body-bodies_without None es bs j sorted = refl
body-bodies_without (Some k) es bs j sorted = by (name_count k es == 0)
  where
    by : (b : Bool) → lookup (is_at (nat_cmp j)) (cond b (remove_entry (is_at (nat_cmp k)) bs) bs) ≡ cond (b && is_at (nat_cmp j) k) None (lookup (is_at (nat_cmp j)) bs)
    by true = lookup-remove_entry nat_cmp_total nat_cmp-IsAntisymmetric k j bs sorted
    by false = refl

pub sorted-bodies_without : (o : Option ℕ) (es : Entries) (bs : Bodies) → IsStrictlySortedBy nat_cmp (keys_of bs) → IsStrictlySortedBy nat_cmp (keys_of (bodies_without o es bs))
sorted-bodies_without None es bs sorted = sorted
sorted-bodies_without (Some k) es bs sorted = elim (name_count k es == 0) as (λ b. IsStrictlySortedBy nat_cmp (keys_of (cond b (remove_entry (is_at (nat_cmp k)) bs) bs))) [
  | true ↦ sorted-remove_entry nat_cmp (is_at (nat_cmp k)) bs sorted
  | false ↦ sorted
]

-- a number that a path has doesn't go
pub kept_by_name : (o : Option ℕ) (es : Entries) (j : ℕ) (q : Names) (n : Node) → lookup (is_at (path_cmp q)) es ≡ Some n → number_of n ≡ Some j → is_dropped o es j ≡ false
kept_by_name None es j q n e is = refl
kept_by_name (Some k) es j q n e is = by (name_count k es == 0) refl
  where
    by : (b : Bool) → (name_count k es == 0) ≡ b → (b && is_at (nat_cmp j) k) ≡ false
    by false none = refl
    by true none =
        let zero_names : name_count k es ≡ 0 = grind (arith, nat_tests) in
        elim (split_number j k) [
          | inl same ↦ absurd (no_name_at k q es n zero_names e (is ∙ ap (λ (i : ℕ). Some i) same.0))
          | inr apart ↦ apart.1
        ]

-- a number that stays has a name, or is another
pub names_left : (k : ℕ) (es : Entries) → is_dropped (Some k) es k ≡ false → name_count k es ≡ 0 → ⊥
names_left k es e none =
    let test : (name_count k es == 0) ≡ true = grind (arith, nat_tests) in
    no_bool (sym (ap (λ b. b && is_at (nat_cmp k) k) test ∙ at_itself nat_cmp_total nat_cmp-IsAntisymmetric k) ∙ e)

-- ---- layers in order in which the same is found are equal

pub same_tree : (t u : Tree) → IsStrictlySortedBy path_cmp (keys_of t.entries) → IsStrictlySortedBy path_cmp (keys_of u.entries) → ((q : Names) → at t q ≡ at u q) → t.bodies ≡ u.bodies → t.next ≡ u.next → t.most ≡ u.most → t ≡ u
same_tree t u s r same bodies next most =
    let entries = same_lists path_cmp_total path_cmp-IsAntisymmetric t.entries u.entries s r same in
    λ i. record { entries = entries i; bodies = bodies i; next = next i; most = most i }
