-- What stands at a path and below it is its own entry, and then what stands at each of its names and below.
use Rattle.std.proofs.Common.{◌≡◌, ℕ, Bool, true, false, cond, List, [], ◌∷◌, ◌++◌, length, drop, append_assoc, append-nil, Option, Some, None, IsSome, refl, sym, ap, ◌∙◌, inl, inr}
use Rattle.std.specs.Prelude.{filter, is_some, ◌||◌}
use Rattle.std.specs.declared.cmp.Ordering.{Ordering}
use Rattle.std.specs.declared.cmp.Ordering.TheVariants.{Less}
use Rattle.std.specs.Ordering.{is_eq, ordering_then, ordering_reverse}
use Rattle.std.specs.Option.{option_or}
use Rattle.std.specs.Cmp.{IsTotalOrder}
use Rattle.std.specs.Cmp.Lexicographic.{nat_list_cmp_total}
use Rattle.std.specs.List.{AllByRecursion, list_any, flat_map}
use Rattle.std.specs.List.Sorted.{IsStrictlySortedBy}
use Rattle.std.specs.Map.{lookup, keys_of}
use Rattle.std.specs.BTreeMap.{is_at}
use Rattle.std.proofs.lemmas.Cmp.{tied_itself}
use Rattle.std.proofs.lemmas.Bool.{cond-true, cond-false}
use Rattle.snap_path.specs.Text.{Names, begins}
use Rattle.snap_layer.specs.declared.node.Node.{Node}
use Rattle.snap_layer.specs.Tree.{Entries, path_cmp}
use Rattle.snap_layer.specs.Edits.{inside}
use Rattle.snap_layer.proofs.Lists.{same_lists, sorted-filter, lookup-filter}
use Rattle.snap_layer.proofs.Looks.{split_path}
use Rattle.snap_layer.proofs.Paths.{path_cmp_total, path_cmp-IsAntisymmetric, begins_rest, begins-append, begins_itself, begins-trans}
use Rattle.snap_layer.specs.Rows.{name_cmp}

-- ---- lists

module _ {K X : Type 0} (R : K → K → Ordering) where
  pub lookup_append : (q : K) (xs ys : List (K × X)) → lookup (is_at (R q)) (xs ++ ys) ≡ option_or (lookup (is_at (R q)) xs) (lookup (is_at (R q)) ys)
  lookup_append q [] ys = refl
  lookup_append q (x ∷ xs) ys = ap (λ o. cond (is_at (R q) x.0) (Some x.1) o) (lookup_append q xs ys) ∙ by (is_at (R q) x.0)
    where
      by : (b : Bool) → cond b (Some x.1) (option_or (lookup (is_at (R q)) xs) (lookup (is_at (R q)) ys)) ≡ option_or (cond b (Some x.1) (lookup (is_at (R q)) xs)) (lookup (is_at (R q)) ys)
      by true = refl
      by false = refl

  all_append : (P : K → Type 0) (xs ys : List (K × X)) → AllByRecursion P (keys_of xs) → AllByRecursion P (keys_of ys) → AllByRecursion P (keys_of (xs ++ ys))
  all_append P [] ys a b = b
  all_append P (x ∷ xs) ys a b = (a.0, all_append P xs ys a.1 b)

  pub sorted_append : (xs ys : List (K × X)) → IsStrictlySortedBy R (keys_of xs) → IsStrictlySortedBy R (keys_of ys) → AllByRecursion (λ x. AllByRecursion (λ y. R x y ≡ Less) (keys_of ys)) (keys_of xs) → IsStrictlySortedBy R (keys_of (xs ++ ys))
  unfolding IsStrictlySortedBy
  sorted_append [] ys s t a = t
  sorted_append (x ∷ xs) ys s t a = (all_append (λ y. R x.0 y ≡ Less) xs ys s.0 a.0, sorted_append xs ys s.1 t a.1)

-- in a list in order each entry is found by its key
module _ {K X : Type 0} {R : K → K → Ordering} (o : IsTotalOrder R) where
  found_later : (x : K × X) (es fs : List (K × X)) → AllByRecursion (λ k. R x.0 k ≡ Less) (keys_of fs) → AllByRecursion (λ (e : K × X). lookup (is_at (R e.0)) es ≡ Some e.1) fs → AllByRecursion (λ (e : K × X). lookup (is_at (R e.0)) (x ∷ es) ≡ Some e.1) fs
  found_later x es [] rises found = tt
  found_later x es (e ∷ fs) rises found = (cond-false (is_at (R e.0) x.0) (Some x.1) (lookup (is_at (R e.0)) es) (ap is_eq (o.antisymm e.0 x.0 ∙ ap ordering_reverse rises.0)) ∙ found.0, found_later x es fs rises.1 found.1)

  pub found_each : (es : List (K × X)) → IsStrictlySortedBy R (keys_of es) → AllByRecursion (λ (e : K × X). lookup (is_at (R e.0)) es ≡ Some e.1) es
  unfolding IsStrictlySortedBy
  found_each [] sorted = tt
  found_each (e ∷ es) sorted = (cond-true (is_at (R e.0) e.0) (Some e.1) (lookup (is_at (R e.0)) es) (ap is_eq (tied_itself o e.0)), found_later e es es sorted.0 (found_each es sorted.1))

pub all_map : {K : Type 0} (P Q : K → Type 0) → ((k : K) → P k → Q k) → (ks : List K) → AllByRecursion P ks → AllByRecursion Q ks
all_map P Q f [] a = tt
all_map P Q f (k ∷ ks) a = (f k a.0, all_map P Q f ks a.1)

all_kept : {K X : Type 0} (P : K → Type 0) (test : K × X → Bool) → ((e : K × X) → test e ≡ true → P e.0) → (es : List (K × X)) → AllByRecursion P (keys_of (filter test es))
all_kept P test f [] = tt
all_kept {X = X} P test f (e ∷ es) = by (test e) refl (all_kept P test f es)
  where
    by : (b : Bool) → test e ≡ b → AllByRecursion P (keys_of (filter test es)) → AllByRecursion P (keys_of (cond b (e ∷ filter test es) (filter test es)))
    by true is later = (f e is, later)
    by false is later = later

pub no_names : IsStrictlySortedBy name_cmp []
unfolding IsStrictlySortedBy
no_names = tt

-- ---- the order of paths

pub cmp_front : (p a b : Names) → path_cmp (p ++ a) (p ++ b) ≡ path_cmp a b
cmp_front [] a b = refl
cmp_front (n ∷ p) a b = ap (λ o. ordering_then o (path_cmp (p ++ a) (p ++ b))) (tied_itself nat_list_cmp_total n) ∙ cmp_front p a b

cmp_first : (n m : List ℕ) (a b : Names) → name_cmp n m ≡ Less → path_cmp (n ∷ a) (m ∷ b) ≡ Less
cmp_first n m a b e = ap (λ o. ordering_then o (path_cmp a b)) e

-- the path is below the directory, at the name or under it
abbrev Under : Names → List ℕ → Names → Type 0
Under p n k = (r : Names) × (k ≡ p ++ n ∷ r)

-- the path is below the directory, at a later name or under it
abbrev Beyond : Names → List ℕ → Names → Type 0
Beyond p n k = (m : List ℕ) × (r : Names) × (k ≡ p ++ m ∷ r) × (name_cmp n m ≡ Less)

under_begins : (p : Names) (n : List ℕ) (k : Names) → begins (p ++ n ∷ []) k ≡ true → Under p n k
under_begins p n k e = (drop (length (p ++ n ∷ [])) k, begins_rest (p ++ n ∷ []) k e ∙ append_assoc p (n ∷ []) (drop (length (p ++ n ∷ [])) k))

less_beyond : (p : Names) (n : List ℕ) (x y : Names) → Under p n x → Beyond p n y → path_cmp x y ≡ Less
less_beyond p n x y u b = (λ i. path_cmp (u.1 i) (b.2 i)) ∙ cmp_front p (n ∷ u.0) (b.0 ∷ b.1) ∙ cmp_first n b.0 u.0 b.1 b.3

less_below : (p : Names) (m : List ℕ) (r : Names) → path_cmp p (p ++ m ∷ r) ≡ Less
less_below p m r = ap (λ (x : Names). path_cmp x (p ++ m ∷ r)) (sym (append-nil p)) ∙ cmp_front p [] (m ∷ r)

-- ---- the pieces of a directory

-- the path lies at one of the names or under it
abbrev pub is_under : {X : Type 0} → Names → List (List ℕ × X) → Names → Bool
is_under {X = X} p es q = list_any (λ (e : List ℕ × X). begins (p ++ e.0 ∷ []) q) es

module _ (E : Entries) (sorted : IsStrictlySortedBy path_cmp (keys_of E)) (p : Names) where
  under_piece : (n : List ℕ) → AllByRecursion (Under p n) (keys_of (inside (p ++ n ∷ []) E))
  under_piece n = all_kept (Under p n) (λ (e : Names × Node). begins (p ++ n ∷ []) e.0) (λ e is. under_begins p n e.0 is) E

  pub found_inside : (q front : Names) → lookup (is_at (path_cmp q)) (inside front E) ≡ cond (begins front q) (lookup (is_at (path_cmp q)) E) None
  found_inside q front = lookup-filter path_cmp_total path_cmp-IsAntisymmetric (λ x. begins front x) q E

  module _ {X : Type 0} where
    abbrev pub pieces : List (List ℕ × X) → Entries
    pieces es = flat_map (λ (e : List ℕ × X). inside (p ++ e.0 ∷ []) E) es

    beyond_pieces : (n : List ℕ) (es : List (List ℕ × X)) → AllByRecursion (λ m. name_cmp n m ≡ Less) (keys_of es) → AllByRecursion (Beyond p n) (keys_of (pieces es))
    beyond_pieces n [] a = tt
    beyond_pieces n (e ∷ es) a =
        all_append path_cmp (Beyond p n) (inside (p ++ e.0 ∷ []) E) (pieces es)
        (all_map (Under p e.0) (Beyond p n) (λ k u. (e.0, u.0, u.1, a.0)) (keys_of (inside (p ++ e.0 ∷ []) E)) (under_piece e.0))
        (beyond_pieces n es a.1)

    sorted_pieces : (es : List (List ℕ × X)) → IsStrictlySortedBy name_cmp (keys_of es) → IsStrictlySortedBy path_cmp (keys_of (pieces es))
    unfolding IsStrictlySortedBy
    sorted_pieces [] s = tt
    sorted_pieces (e ∷ es) s =
        sorted_append path_cmp (inside (p ++ e.0 ∷ []) E) (pieces es)
        (sorted-filter path_cmp (λ (x : Names × Node). begins (p ++ e.0 ∷ []) x.0) E sorted)
        (sorted_pieces es s.1)
        (all_map (Under p e.0) (λ x. AllByRecursion (λ y. path_cmp x y ≡ Less) (keys_of (pieces es)))
        (λ x u. all_map (Beyond p e.0) (λ y. path_cmp x y ≡ Less) (λ y b. less_beyond p e.0 x y u b) (keys_of (pieces es)) (beyond_pieces e.0 es s.0))
        (keys_of (inside (p ++ e.0 ∷ []) E)) (under_piece e.0))

    above_pieces : (es : List (List ℕ × X)) → AllByRecursion (λ y. path_cmp p y ≡ Less) (keys_of (pieces es))
    above_pieces [] = tt
    above_pieces (e ∷ es) =
        all_append path_cmp (λ y. path_cmp p y ≡ Less) (inside (p ++ e.0 ∷ []) E) (pieces es)
        (all_map (Under p e.0) (λ y. path_cmp p y ≡ Less) (λ y u. ap (path_cmp p) u.1 ∙ less_below p e.0 u.0) (keys_of (inside (p ++ e.0 ∷ []) E)) (under_piece e.0))
        (above_pieces es)

    lookup_pieces : (q : Names) (es : List (List ℕ × X)) → lookup (is_at (path_cmp q)) (pieces es) ≡ cond (is_under p es q) (lookup (is_at (path_cmp q)) E) None
    lookup_pieces q [] = refl
    lookup_pieces q (e ∷ es) =
        lookup_append path_cmp q (inside (p ++ e.0 ∷ []) E) (pieces es)
        ∙ (λ i. option_or (found_inside q (p ++ e.0 ∷ []) i) (lookup_pieces q es i))
        ∙ by (begins (p ++ e.0 ∷ []) q) (is_under p es q) (lookup (is_at (path_cmp q)) E)
      where
        by : (b c : Bool) (o : Option Node) → option_or (cond b o None) (cond c o None) ≡ cond (b || c) o None
        by true true None = refl
        by true true (Some v) = refl
        by true false None = refl
        by true false (Some v) = refl
        by false c o = refl

    under_inside : (q : Names) (es : List (List ℕ × X)) → begins p q ≡ false → is_under p es q ≡ false
    under_inside q [] out = refl
    under_inside q (e ∷ es) out = by (under_inside q es out) (begins (p ++ e.0 ∷ []) q) refl
      where
        no : true ≡ false → ⊥
        no f = cc

        by : is_under p es q ≡ false → (b : Bool) → begins (p ++ e.0 ∷ []) q ≡ b → (b || is_under p es q) ≡ false
        by later true is = absurd (no (sym (begins-trans p (p ++ e.0 ∷ []) q (begins-append p (e.0 ∷ [])) is) ∙ out))
        by later false is = later

    -- what stands at the path and below it is its own entry, and then what stands at each name and below
    pub inside_is : (es : List (List ℕ × X)) (v : Node) → IsStrictlySortedBy name_cmp (keys_of es) → lookup (is_at (path_cmp p)) E ≡ Some v
        → ((n : List ℕ) (r : Names) → IsSome (lookup (is_at (path_cmp (p ++ n ∷ r))) E) → is_under p es (p ++ n ∷ r) ≡ true)
        → inside p E ≡ (p, v) ∷ pieces es
    unfolding IsStrictlySortedBy
    inside_is es v names here named =
        same_lists path_cmp_total path_cmp-IsAntisymmetric (inside p E) ((p, v) ∷ pieces es)
        (sorted-filter path_cmp (λ (x : Names × Node). begins p x.0) E sorted)
        (above_pieces es, sorted_pieces es names)
        (λ q. found_inside q p ∙ ends q)
      where
        later : (q : Names) (r : Names) → q ≡ p ++ r → (q ≡ p → ⊥) → (o : Option Node) → lookup (is_at (path_cmp q)) E ≡ o → o ≡ cond (is_under p es q) o None
        later q [] is apart o e = absurd (apart (is ∙ append-nil p))
        later q (n ∷ r) is apart None e = by (is_under p es q)
          where
            by : (b : Bool) → ◌≡◌ {A = Option Node} None (cond b None None)
            by true = refl
            by false = refl
        later q (n ∷ r) is apart (Some w) e =
            let some : IsSome (lookup (is_at (path_cmp (p ++ n ∷ r))) E) = ap is_some (ap (λ (x : Names). lookup (is_at (path_cmp x)) E) (sym is) ∙ e) in
            sym (cond-true (is_under p es q) (Some w) None (ap (is_under p es) is ∙ named n r some))

        beyond : (q : Names) → (q ≡ p → ⊥) → (b : Bool) → begins p q ≡ b → cond b (lookup (is_at (path_cmp q)) E) None ≡ cond (is_under p es q) (lookup (is_at (path_cmp q)) E) None
        beyond q apart true is = later q (drop (length p) q) (begins_rest p q is) apart (lookup (is_at (path_cmp q)) E) refl
        beyond q apart false is = sym (cond-false (is_under p es q) (lookup (is_at (path_cmp q)) E) None (under_inside q es is))

        ends : (q : Names) → cond (begins p q) (lookup (is_at (path_cmp q)) E) None ≡ cond (is_at (path_cmp q) p) (Some v) (lookup (is_at (path_cmp q)) (pieces es))
        ends q = elim (split_path q p) [
          | inl same ↦
              cond-true (begins p q) (lookup (is_at (path_cmp q)) E) None (ap (begins p) same.0 ∙ begins_itself p)
              ∙ ap (λ (x : Names). lookup (is_at (path_cmp x)) E) same.0 ∙ here
              ∙ sym (cond-true (is_at (path_cmp q) p) (Some v) (lookup (is_at (path_cmp q)) (pieces es)) same.1)
          | inr apart ↦
              beyond q (λ e. apart.0 (sym e)) (begins p q) refl
              ∙ sym (lookup_pieces q es)
              ∙ sym (cond-false (is_at (path_cmp q) p) (Some v) (lookup (is_at (path_cmp q)) (pieces es)) apart.1)
        ]
