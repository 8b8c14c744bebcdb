-- The names in a directory of several layers.
use Rattle.std.proofs.Common.{◌≡◌, ℕ, Bool, true, false, cond, List, [], ◌∷◌, ◌++◌, Option, Some, None, refl, sym, ap, ◌∙◌}
use Rattle.std.specs.Prelude.{◌||◌, ◌&&◌, is_some, filter}
use Rattle.std.specs.declared.cmp.Ordering.{Ordering}
use Rattle.std.specs.declared.cmp.Ordering.TheVariants.{Less, Equal, Greater}
use Rattle.std.specs.Ordering.{is_eq, match_ordering, ordering_reverse}
use Rattle.std.specs.Cmp.{unsigned_Decides}
use Rattle.std.specs.Cmp.Lexicographic.{pointwise_decides, nat_list_cmp_total, texts_ties}
use Rattle.std.specs.BTreeSet.{insert_key}
use Rattle.std.specs.List.{list_any, AllByRecursion}
use Rattle.std.specs.List.Sorted.{IsStrictlySortedBy}
use Rattle.std.specs.Str.{bytes_eq}
use Rattle.std.proofs.lemmas.Slice.Eq.{bytes_eq-Decides}
use Rattle.snap_path.specs.Text.{Names, IsPath}
use Rattle.snap_layer.specs.declared.node.Node.{Node}
use Rattle.snap_layer.specs.Tree.{Tree, at, hides, names_below}
use Rattle.snap_layer.proofs.Laws.{names_below_are}
use Rattle.snap_merge.specs.Objects.{Object, seen, seen_over, AreLayers}
use Rattle.snap_merge.specs.Listing.{put_names, gathered, names, IsListing}
use Rattle.snap_layer.specs.Rows.{name_cmp}

-- ---- the order

all_above : (k x : List ℕ) (ks : Names) → name_cmp k x ≡ Less → AllByRecursion (λ y. name_cmp x y ≡ Less) ks → AllByRecursion (λ y. name_cmp k y ≡ Less) ks
all_above k x [] e a = tt
all_above k x (y ∷ ks) e a = (nat_list_cmp_total.trans k x y e a.0, all_above k x ks e a.1)

all_insert_key : (P : List ℕ → Type 0) (ns : Names) (k : List ℕ) → P k → AllByRecursion P ns → AllByRecursion P (insert_key name_cmp ns k)
all_insert_key P [] k h a = (h, tt)
all_insert_key P (x ∷ ns) k h a = by (name_cmp k x) (all_insert_key P ns k h a.1)
  where
    by : (r : Ordering) → AllByRecursion P (insert_key name_cmp ns k) → AllByRecursion P (match_ordering r (k ∷ x ∷ ns) (x ∷ ns) (x ∷ insert_key name_cmp ns k))
    by Less later = (h, a)
    by Equal later = a
    by Greater later = (a.0, later)

sorted_insert_key : (ns : Names) (k : List ℕ) → IsStrictlySortedBy name_cmp ns → IsStrictlySortedBy name_cmp (insert_key name_cmp ns k)
unfolding IsStrictlySortedBy
sorted_insert_key [] k s = (tt, tt)
sorted_insert_key (x ∷ ns) k s = by (name_cmp k x) refl (sorted_insert_key ns k s.1)
  where
    by : (r : Ordering) → name_cmp k x ≡ r → IsStrictlySortedBy name_cmp (insert_key name_cmp ns k) → IsStrictlySortedBy name_cmp (match_ordering r (k ∷ x ∷ ns) (x ∷ ns) (x ∷ insert_key name_cmp ns k))
    by Less p later = ((p, all_above k x ns p s.0), s)
    by Equal p later = s
    by Greater p later = (all_insert_key (λ y. name_cmp x y ≡ Less) ns k (nat_list_cmp_total.antisymm x k ∙ ap ordering_reverse p) s.0, later)

pub sorted_put_names : (ms ns : Names) → IsStrictlySortedBy name_cmp ns → IsStrictlySortedBy name_cmp (put_names ms ns)
sorted_put_names [] ns s = s
sorted_put_names (m ∷ ms) ns s = sorted_put_names ms (insert_key name_cmp ns m) (sorted_insert_key ns m s)

sorted_gathered : (s : List Tree) (p ns : Names) → IsStrictlySortedBy name_cmp ns → IsStrictlySortedBy name_cmp (gathered s p ns)
sorted_gathered [] p ns sorted = sorted
sorted_gathered (t ∷ s) p ns sorted = sorted_gathered s p (put_names (names_below p t.entries) ns) (sorted_put_names (names_below p t.entries) ns sorted)

all_filter : (P : List ℕ → Type 0) (test : List ℕ → Bool) (ns : Names) → AllByRecursion P ns → AllByRecursion P (filter test ns)
all_filter P test [] a = tt
all_filter P test (x ∷ ns) a = elim (test x) as (λ b. AllByRecursion P (cond b (x ∷ filter test ns) (filter test ns))) [ true ↦ (a.0, all_filter P test ns a.1) | false ↦ all_filter P test ns a.1 ]

pub sorted_filter : (test : List ℕ → Bool) (ns : Names) → IsStrictlySortedBy name_cmp ns → IsStrictlySortedBy name_cmp (filter test ns)
unfolding IsStrictlySortedBy
sorted_filter test [] s = tt
sorted_filter test (x ∷ ns) s = elim (test x) as (λ b. IsStrictlySortedBy name_cmp (cond b (x ∷ filter test ns) (filter test ns))) [ true ↦ (all_filter (λ y. name_cmp x y ≡ Less) test ns s.0, sorted_filter test ns s.1) | false ↦ sorted_filter test ns s.1 ]

pub nothing_sorted : IsStrictlySortedBy name_cmp []
unfolding IsStrictlySortedBy
nothing_sorted = tt

-- ---- the names that are among them

abbrev has : List ℕ → Names → Bool
has n ns = list_any (bytes_eq n) ns

pub same_bytes : (n m : List ℕ) → bytes_eq n m ≡ true → n ≡ m
same_bytes n m e = (bytes_eq-Decides n m).0 e

pub its_bytes : (n : List ℕ) → bytes_eq n n ≡ true
its_bytes n = (bytes_eq-Decides n n).1 refl

swapped : (a b c : Bool) → (a || (b || c)) ≡ (b || (a || c))
swapped true true c = refl
swapped true false c = refl
swapped false b c = refl

twice : (a c : Bool) → (a || c) ≡ (a || (a || c))
twice true c = refl
twice false c = refl

pub regrouped : (a b c : Bool) → (b || (a || c)) ≡ ((a || b) || c)
regrouped true true c = refl
regrouped true false c = refl
regrouped false b c = refl

one_or : (a b : Bool) → b ≡ true → (a || b) ≡ true
one_or true b e = refl
one_or false b e = e

pub has_insert_key : (n : List ℕ) (ns : Names) (k : List ℕ) → has n (insert_key name_cmp ns k) ≡ (bytes_eq n k || has n ns)
has_insert_key n [] k = refl
has_insert_key n (x ∷ ns) k = by (name_cmp k x) refl (has_insert_key n ns k)
  where
    by : (r : Ordering) → name_cmp k x ≡ r → has n (insert_key name_cmp ns k) ≡ (bytes_eq n k || has n ns) → has n (match_ordering r (k ∷ x ∷ ns) (x ∷ ns) (x ∷ insert_key name_cmp ns k)) ≡ (bytes_eq n k || (bytes_eq n x || has n ns))
    by Less p later = refl
    by Equal p later =
        let same : k ≡ x = (pointwise_decides unsigned_Decides k x).0 (texts_ties k x ∙ ap is_eq p) in
        twice (bytes_eq n x) (has n ns) ∙ ap (λ (y : List ℕ). bytes_eq n y || (bytes_eq n x || has n ns)) (sym same)
    by Greater p later = ap (λ b. bytes_eq n x || b) later ∙ swapped (bytes_eq n x) (bytes_eq n k) (has n ns)

pub has_put_names : (n : List ℕ) (ms ns : Names) → has n (put_names ms ns) ≡ (has n ms || has n ns)
has_put_names n [] ns = refl
has_put_names n (m ∷ ms) ns = has_put_names n ms (insert_key name_cmp ns m) ∙ ap (λ b. has n ms || b) (has_insert_key n ns m) ∙ regrouped (bytes_eq n m) (has n ms) (has n ns)

-- one of the layers has something at the path
abbrev pub have : List Tree → Names → Bool
have [] q = false
have (t ∷ s) q = is_some (at t q) || have s q

pub has_gathered : (n : List ℕ) (s : List Tree) (p ns : Names) → has n (gathered s p ns) ≡ (has n ns || have s (p ++ n ∷ []))
has_gathered n [] p ns = sym (or_false (has n ns))
  where
    or_false : (b : Bool) → (b || false) ≡ b
    or_false true = refl
    or_false false = refl
has_gathered n (t ∷ s) p ns =
    has_gathered n s p (put_names (names_below p t.entries) ns)
    ∙ ap (λ b. b || have s (p ++ n ∷ [])) (has_put_names n (names_below p t.entries) ns ∙ ap (λ b. b || has n ns) (names_below_are t p n))
    ∙ sym (regrouped (is_some (at t (p ++ n ∷ []))) (has n ns) (have s (p ++ n ∷ [])) ∙ refl)

-- where no layer has anything nothing is seen
pub unseen : (s : List Tree) (q : Names) → have s q ≡ false → seen s q ≡ None
unseen [] q e = refl
unseen (t ∷ s) q e = by (at t q) e (unseen s q)
  where
    through : (h : Bool) (o : Option Object) → o ≡ None → cond h None o ≡ None
    through true o e = refl
    through false o e = e

    by : (o : Option Node) → (is_some o || have s q) ≡ false → (have s q ≡ false → seen s q ≡ None) → seen_over t o q (seen s q) ≡ None
    by None f later = through (hides t q) (seen s q) (later f)
    by (Some x) f later = absurd (cc)

pub kept : (h b : Bool) → (h ≡ false → b ≡ false) → (h && b) ≡ b
kept true b f = refl
kept false b f = sym (f refl)

-- the names that pass a test
pub has_filter : (n : List ℕ) (test : List ℕ → Bool) (ns : Names) → has n (filter test ns) ≡ (has n ns && test n)
has_filter n test [] = refl
has_filter n test (x ∷ ns) = by (test x) refl (bytes_eq n x) refl (has_filter n test ns)
  where
    at_it : bytes_eq n x ≡ true → test x ≡ test n
    at_it e = ap test (sym (same_bytes n x e))

    by : (b : Bool) → test x ≡ b → (e : Bool) → bytes_eq n x ≡ e → has n (filter test ns) ≡ (has n ns && test n) → has n (cond b (x ∷ filter test ns) (filter test ns)) ≡ ((bytes_eq n x || has n ns) && test n)
    by true p true q later = ap (λ b. b || has n (filter test ns)) q ∙ sym (ap (λ b. (b || has n ns) && test n) q ∙ sym (at_it q) ∙ p)
    by true p false q later = ap (λ b. b || has n (filter test ns)) q ∙ later ∙ sym (ap (λ b. (b || has n ns) && test n) q)
    by false p true q later = later ∙ ap (λ b. has n ns && b) gone ∙ none (has n ns) ∙ sym (ap (λ b. (b || has n ns) && test n) q ∙ gone)
      where
        gone : test n ≡ false
        gone = sym (at_it q) ∙ p

        none : (b : Bool) → (b && false) ≡ false
        none true = refl
        none false = refl
    by false p false q later = later ∙ sym (ap (λ b. (b || has n ns) && test n) q)

-- a listing has exactly the names with something seen, in order
pub listing_is : (s : List Tree) (p : Names) → IsListing s p (names s p)
listing_is s p = record {
  exactly = λ n.
      has_filter n (λ m. is_some (seen s (p ++ m ∷ []))) (gathered s p [])
      ∙ ap (λ b. b && is_some (seen s (p ++ n ∷ []))) (has_gathered n s p [])
      ∙ kept (have s (p ++ n ∷ [])) (is_some (seen s (p ++ n ∷ []))) (λ none. ap is_some (unseen s (p ++ n ∷ []) none));
  in_order = sorted_filter (λ m. is_some (seen s (p ++ m ∷ []))) (gathered s p []) (sorted_gathered s p [] nothing_sorted);
}

-- ---- the paths

all_from_has : (P : List ℕ → Type 0) (ns : Names) → ((n : List ℕ) → has n ns ≡ true → P n) → AllByRecursion P ns
all_from_has P [] f = tt
all_from_has P (x ∷ ns) f = (f x (ap (λ b. b || has x ns) (its_bytes x)), all_from_has P ns (λ n e. f n (one_or (bytes_eq n x) (has n ns) e)))

path_of : (s : List Tree) → AreLayers s → (q : Names) → have s q ≡ true → IsPath q
path_of [] ok q e = absurd (cc)
path_of (t ∷ s) ok q e = by (is_some (at t q)) refl (path_of s ok.1 q) e
  where
    by : (b : Bool) → is_some (at t q) ≡ b → (have s q ≡ true → IsPath q) → (b || have s q) ≡ true → IsPath q
    by true here later f = ok.0.paths q here
    by false here later f = later f

-- each name that a layer has in the directory makes a path with it
pub gathered_paths : (s : List Tree) → AreLayers s → (p : Names) → AllByRecursion (λ n. IsPath (p ++ n ∷ [])) (gathered s p [])
gathered_paths s ok p = all_from_has (λ n. IsPath (p ++ n ∷ [])) (gathered s p []) (λ n e. path_of s ok (p ++ n ∷ []) (sym (has_gathered n s p []) ∙ e))
