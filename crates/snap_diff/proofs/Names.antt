-- Where a layer and those below it share a directory, the layer's own names tell all changes in it.
use Rattle.std.proofs.Common.{◌≡◌, ◌⊎◌, inl, inr, ℕ, Bool, true, false, cond, List, [], ◌∷◌, ◌++◌, Option, Some, None, refl, sym, ap, ◌∙◌}
use Rattle.std.specs.Prelude.{◌||◌, ◌&&◌, not, is_some, filter}
use Rattle.std.specs.declared.cmp.Ordering.{Ordering}
use Rattle.std.specs.declared.cmp.Ordering.TheVariants.{Less, Equal, Greater}
use Rattle.std.specs.Ordering.{match_ordering, ordering_reverse}
use Rattle.std.specs.Cmp.Lexicographic.{nat_list_cmp_total}
use Rattle.std.specs.BTreeSet.{insert_key}
use Rattle.std.specs.List.{flat_map, list_any, AllByRecursion}
use Rattle.std.specs.List.Sorted.{IsStrictlySortedBy}
use Rattle.std.specs.Str.{bytes_eq}
use Rattle.std.proofs.lemmas.List.Kept.{IsStrictlySortedBy-filter}
use Rattle.snap_path.specs.Text.{Names}
use Rattle.snap_layer.specs.declared.node.Node.{Node}
use Rattle.snap_layer.specs.Tree.{Tree, at, hides, node_hides, names_below}
use Rattle.snap_layer.proofs.Laws.{names_below_are}
use Rattle.snap_layer.proofs.Listed.{sorted_below}
use Rattle.snap_merge.specs.Objects.{Object, seen, AreLayers}
use Rattle.snap_merge.specs.Listing.{names, put_names}
use Rattle.snap_layer.specs.Rows.{name_cmp}
use Rattle.snap_merge.proofs.Hiding.{hides_snoc}
use Rattle.snap_merge.proofs.Listings.{has_insert_key, listing_is, same_bytes}
use Rattle.snap_merge.proofs.Sharing.{same_names}
use Rattle.snap_diff.specs.declared.change.Change.{Change}
use Rattle.snap_diff.specs.Changes.{both_names, changes_below, is_merged}
use Rattle.snap_diff.proofs.Walks.{nothing_below, untouched_below}

-- ---- names in order

all_above : (k x : List ℕ) (ks : Names) → name_cmp k x ≡ Less → AllByRecursion (λ y. name_cmp x y ≡ Less) ks → AllByRecursion (λ y. name_cmp k y ≡ Less) ks
all_above k x [] e a = tt
all_above k x (y ∷ ks) e a = (nat_list_cmp_total.trans k x y e a.0, all_above k x ks e a.1)

all_with : (P : List ℕ → Type 0) (ns : Names) (k : List ℕ) → P k → AllByRecursion P ns → AllByRecursion P (insert_key name_cmp ns k)
all_with P [] k h a = (h, tt)
all_with P (x ∷ ns) k h a = by (name_cmp k x) (all_with P ns k h a.1)
  where
    by : (r : Ordering) → AllByRecursion P (insert_key name_cmp ns k) → AllByRecursion P (match_ordering r (k ∷ x ∷ ns) (x ∷ ns) (x ∷ insert_key name_cmp ns k))
    by Less later = (h, a)
    by Equal later = a
    by Greater later = (a.0, later)

sorted_with : (ns : Names) (k : List ℕ) → IsStrictlySortedBy name_cmp ns → IsStrictlySortedBy name_cmp (insert_key name_cmp ns k)
unfolding IsStrictlySortedBy
sorted_with [] k s = (tt, tt)
sorted_with (x ∷ ns) k s = by (name_cmp k x) refl (sorted_with ns k s.1)
  where
    by : (r : Ordering) → name_cmp k x ≡ r → IsStrictlySortedBy name_cmp (insert_key name_cmp ns k) → IsStrictlySortedBy name_cmp (match_ordering r (k ∷ x ∷ ns) (x ∷ ns) (x ∷ insert_key name_cmp ns k))
    by Less p later = ((p, all_above k x ns p s.0), s)
    by Equal p later = s
    by Greater p later = (all_with (λ y. name_cmp x y ≡ Less) ns k (nat_list_cmp_total.antisymm x k ∙ ap ordering_reverse p) s.0, later)

sorted_put : (ms ns : Names) → IsStrictlySortedBy name_cmp ns → IsStrictlySortedBy name_cmp (put_names ms ns)
sorted_put [] ns s = s
sorted_put (m ∷ ms) ns s = sorted_put ms (insert_key name_cmp ns m) (sorted_with ns m s)

nothing_sorted : IsStrictlySortedBy name_cmp []
unfolding IsStrictlySortedBy
nothing_sorted = tt

-- ---- the names that are among them

abbrev has : List ℕ → Names → Bool
has n ns = list_any (bytes_eq n) ns

regrouped : (a b c : Bool) → (b || (a || c)) ≡ ((a || b) || c)
regrouped true true c = refl
regrouped true false c = refl
regrouped false b c = refl

has_put : (n : List ℕ) (ms ns : Names) → has n (put_names ms ns) ≡ (has n ms || has n ns)
has_put n [] ns = refl
has_put n (m ∷ ms) ns = has_put n ms (insert_key name_cmp ns m) ∙ ap (λ b. has n ms || b) (has_insert_key n ns m) ∙ regrouped (bytes_eq n m) (has n ms) (has n ns)

has_kept : (n : List ℕ) (test : List ℕ → Bool) (ns : Names) → has n (filter test ns) ≡ (has n ns && test n)
has_kept n test [] = refl
has_kept n test (x ∷ ns) = by (test x) refl (bytes_eq n x) refl (has_kept n test ns)
  where
    at_it : bytes_eq n x ≡ true → test x ≡ test n
    at_it e = ap test (sym (same_bytes n x e))

    by : (b : Bool) → test x ≡ b → (e : Bool) → bytes_eq n x ≡ e → has n (filter test ns) ≡ (has n ns && test n) → has n (cond b (x ∷ filter test ns) (filter test ns)) ≡ ((bytes_eq n x || has n ns) && test n)
    by true p true q later = ap (λ b. b || has n (filter test ns)) q ∙ sym (ap (λ b. (b || has n ns) && test n) q ∙ sym (at_it q) ∙ p)
    by true p false q later = ap (λ b. b || has n (filter test ns)) q ∙ later ∙ sym (ap (λ b. (b || has n ns) && test n) q)
    by false p true q later = later ∙ ap (λ b. has n ns && b) gone ∙ none (has n ns) ∙ sym (ap (λ b. (b || has n ns) && test n) q ∙ gone)
      where
        gone : test n ≡ false
        gone = sym (at_it q) ∙ p

        none : (b : Bool) → (b && false) ≡ false
        none true = refl
        none false = refl
    by false p false q later = later ∙ sym (ap (λ b. (b || has n ns) && test n) q)

-- ---- names at which nothing is told

is_told : List Change → Bool
is_told [] = false
is_told (c ∷ cs) = true

told_alone : (f : List ℕ → List Change) (ns : Names) → flat_map f (filter (λ n. is_told (f n)) ns) ≡ flat_map f ns
unfolding is_told
told_alone f [] = refl
told_alone f (n ∷ ns) = by (f n) refl (told_alone f ns)
  where
    by : (cs : List Change) → f n ≡ cs → flat_map f (filter (λ m. is_told (f m)) ns) ≡ flat_map f ns → flat_map f (cond (is_told (f n)) (n ∷ filter (λ m. is_told (f m)) ns) (filter (λ m. is_told (f m)) ns)) ≡ f n ++ flat_map f ns
    by [] e later = ap (λ cs. flat_map f (cond (is_told cs) (n ∷ filter (λ m. is_told (f m)) ns) (filter (λ m. is_told (f m)) ns))) e ∙ later ∙ ap (λ cs. cs ++ flat_map f ns) (sym e)
    by (c ∷ cs) e later = ap (λ ds. flat_map f (cond (is_told ds) (n ∷ filter (λ m. is_told (f m)) ns) (filter (λ m. is_told (f m)) ns))) e ∙ ap (λ ds. f n ++ ds) later

untold : (a b : Bool) (cs : List Change) → (a ≡ b) ⊎ (cs ≡ []) → (a && is_told cs) ≡ (b && is_told cs)
unfolding is_told
untold a b cs (inl e) = ap (λ x. x && is_told cs) e
untold a b cs (inr e) = nothing a ∙ sym (nothing b)
  where
    nothing : (x : Bool) → (x && is_told cs) ≡ false
    nothing true = ap is_told e
    nothing false = refl

-- lists of names that differ where nothing is told tell the same
same_told : (f : List ℕ → List Change) (xs ys : Names) → IsStrictlySortedBy name_cmp xs → IsStrictlySortedBy name_cmp ys → ((n : List ℕ) → (has n xs ≡ has n ys) ⊎ (f n ≡ [])) → flat_map f xs ≡ flat_map f ys
same_told f xs ys r s same =
    let test : List ℕ → Bool = λ n. is_told (f n) in
    sym (told_alone f xs)
    ∙ ap (flat_map f) (same_names (filter test xs) (filter test ys) (IsStrictlySortedBy-filter name_cmp test xs r) (IsStrictlySortedBy-filter name_cmp test ys s) (λ n. has_kept n test xs ∙ untold (has n xs) (has n ys) (f n) (same n) ∙ sym (has_kept n test ys)))
    ∙ told_alone f ys

-- ---- a shared directory

none_of : (o : Option Object) → is_some o ≡ false → o ≡ None
none_of None e = refl
none_of (Some o) e = absurd (cc)

either : (a b : Bool) → (a || (b || false)) ≡ false → (a ≡ false) × (b ≡ false)
either true b e = absurd (cc)
either false true e = absurd (cc)
either false false e = (refl, refl)

pub own_names : (k : ℕ) (t : Tree) (ts : List Tree) → AreLayers (t ∷ ts) → (p : Names) → is_merged t p ≡ true
    → flat_map (λ name. changes_below k t ts (p ++ name ∷ [])) (names_below p t.entries) ≡ flat_map (λ name. changes_below k t ts (p ++ name ∷ [])) (both_names ts (t ∷ ts) p)
own_names k t ts ok p merged =
    same_told (λ name. changes_below k t ts (p ++ name ∷ [])) (names_below p t.entries) (both_names ts (t ∷ ts) p)
    (sorted_below p t.entries ok.0.sorted_paths)
    (sorted_put (names ts p) (put_names (names (t ∷ ts) p) []) (sorted_put (names (t ∷ ts) p) [] nothing_sorted))
    (λ n. by n (at t (p ++ n ∷ [])) refl (is_some (seen ts (p ++ n ∷ [])) || (is_some (seen (t ∷ ts) (p ++ n ∷ [])) || false)) refl)
  where
    mine : (n : List ℕ) → has n (names_below p t.entries) ≡ is_some (at t (p ++ n ∷ []))
    mine n = names_below_are t p n

    both : (n : List ℕ) → has n (both_names ts (t ∷ ts) p) ≡ (is_some (seen ts (p ++ n ∷ [])) || (is_some (seen (t ∷ ts) (p ++ n ∷ [])) || false))
    both n =
        has_put n (names ts p) (put_names (names (t ∷ ts) p) [])
        ∙ (λ i. (listing_is ts p).exactly n i || (has_put n (names (t ∷ ts) p) [] ∙ ap (λ b. b || false) ((listing_is (t ∷ ts) p).exactly n)) i)

    apart : (a b : Bool) → (not a && not b) ≡ true → (b || a) ≡ false
    apart true b e = absurd (cc)
    apart false true e = absurd (cc)
    apart false false e = refl

    by : (n : List ℕ) (o : Option Node) → at t (p ++ n ∷ []) ≡ o → (b : Bool) → (is_some (seen ts (p ++ n ∷ [])) || (is_some (seen (t ∷ ts) (p ++ n ∷ [])) || false)) ≡ b
        → (has n (names_below p t.entries) ≡ has n (both_names ts (t ∷ ts) p)) ⊎ (changes_below k t ts (p ++ n ∷ []) ≡ [])
    by n None none b e = inr (untouched_below k t ts ok.0.parents (p ++ n ∷ []) none (hides_snoc t n p [] ∙ apart (node_hides (at t p)) (hides t p) merged))
    by n (Some x) there true e = inl (mine n ∙ ap is_some there ∙ sym (both n ∙ e))
    by n (Some x) there false e =
        let nowhere = either (is_some (seen ts (p ++ n ∷ []))) (is_some (seen (t ∷ ts) (p ++ n ∷ []))) e in
        inr (nothing_below k t ts (p ++ n ∷ []) (none_of (seen ts (p ++ n ∷ [])) nowhere.0) (none_of (seen (t ∷ ts) (p ++ n ∷ [])) nowhere.1))
