-- The pages of a tree, one after another, are the tree.
use Rattle.std.proofs.Common.{◌≡◌, ◌⊎◌, inl, inr, ℕ, zero, suc, ◌≤◌, Bool, true, false, true≢false, cond, List, [], ◌∷◌, ◌++◌, map, take, length, Some, refl, sym, ap, ◌∙◌, subst, arith}
use Rattle.std.specs.List.{AllByRecursion}
use Rattle.std.specs.List.Sorted.{IsStrictlySortedBy}
use Rattle.std.specs.Prelude.{◌==◌, ◌&&◌, filter}
use Rattle.std.specs.Option.{option_map_or}
use Rattle.std.specs.declared.cmp.Ordering.{Ordering}
use Rattle.std.specs.declared.cmp.Ordering.TheVariants.{Less, Equal, Greater}
use Rattle.std.specs.Cmp.Lexicographic.{slice_cmp}
use Rattle.std.specs.Ordering.{is_lt, nat_cmp, ordering_reverse, ordering_then}
use Rattle.std.proofs.lemmas.Bool.{and_parts, eqb-true}
use Rattle.std.proofs.lemmas.Cmp.{nat_cmp_total, nat_list_cmp_total, tied_itself}
use Rattle.std.proofs.lemmas.List.Kept.{IsStrictlySortedBy-filter}
use Rattle.snap_record.specs.Labels.{Bytes, are_labels}
use Rattle.snap_record.specs.declared.record.Record.{Record}
use Rattle.snap_call.specs.Forms.{is_key, is_parent}
use Rattle.snap_call.specs.Good.{Good, IsFormed}
use Rattle.snap_call.specs.Records.{record_cmp}
use Rattle.snap_call.specs.declared.state.State.{State}
use Rattle.snap_script.specs.declared.answer.TreeNode.{TreeNode}
use Rattle.snap_session.specs.Tree.{forest, is_node_after, last_node, forest_pages, tree_node}

filter-all : {X : Type 0} (p : X → Bool) (xs : List X) → AllByRecursion (λ x. p x ≡ true) xs → filter p xs ≡ xs
filter-all p [] all = refl
filter-all p (x ∷ xs) all = ap (λ b. cond b (x ∷ filter p xs) (filter p xs)) all.0 ∙ ap (λ l. x ∷ l) (filter-all p xs all.1)

-- a test keeps the same of what a weaker one has kept
filter-within : {X : Type 0} (p q : X → Bool) → ((x : X) → p x ≡ true → q x ≡ true) → (xs : List X) → filter p (filter q xs) ≡ filter p xs
filter-within p q implies [] = refl
filter-within p q implies (x ∷ xs) = by (q x) (p x) refl refl (filter-within p q implies xs)
  where
    by : (b c : Bool) → q x ≡ b → p x ≡ c → filter p (filter q xs) ≡ filter p xs → filter p (cond b (x ∷ filter q xs) (filter q xs)) ≡ cond c (x ∷ filter p xs) (filter p xs)
    by true true is holds next = ap (λ b. cond b (x ∷ filter p (filter q xs)) (filter p (filter q xs))) holds ∙ ap (λ l. x ∷ l) next
    by true false is holds next = ap (λ b. cond b (x ∷ filter p (filter q xs)) (filter p (filter q xs))) holds ∙ next
    by false true is holds next = absurd (true≢false (sym (implies x holds) ∙ is))
    by false false is holds next = next

abbrev order : TreeNode → TreeNode → Ordering
order a b = slice_cmp nat_cmp a.key b.key

not_itself : (x : TreeNode) → is_node_after x.key x ≡ false
not_itself x = ap is_lt (tied_itself nat_list_cmp_total x.key)

not_before : (x y : TreeNode) → order y x ≡ Less → is_node_after x.key y ≡ false
not_before x y less = ap is_lt (nat_list_cmp_total.antisymm x.key y.key ∙ ap ordering_reverse less)

less_of : (o : Ordering) → is_lt o ≡ true → o ≡ Less
less_of Less h = refl
less_of Equal h = absurd (cc)
less_of Greater h = absurd (cc)

all-later : (x : TreeNode) (ys : List TreeNode) → AllByRecursion (λ y. order x y ≡ Less) ys → AllByRecursion (λ y. is_node_after x.key y ≡ true) ys
all-later x [] all = tt
all-later x (y ∷ ys) all = (ap is_lt all.0, all-later x ys all.1)

-- what comes after the first of a list in order
after_first : (y : TreeNode) (ys : List TreeNode) → IsStrictlySortedBy order (y ∷ ys) → filter (is_node_after y.key) (y ∷ ys) ≡ ys
unfolding IsStrictlySortedBy
after_first y ys sorted = ap (λ b. cond b (y ∷ filter (is_node_after y.key) ys) (filter (is_node_after y.key) ys)) (not_itself y) ∙ filter-all (is_node_after y.key) ys (all-later y ys sorted.0)

-- where the first items of a list in order end: at an item, and what comes after that is what they leave, fewer items
record Ends (k : ℕ) (y : TreeNode) (ys : List TreeNode) : Type 0 where
  last : TreeNode
  is : last_node (take (suc k) (y ∷ ys)) ≡ Some last
  rest : take (suc k) (y ∷ ys) ++ filter (is_node_after last.key) (y ∷ ys) ≡ y ∷ ys
  fewer : length (filter (is_node_after last.key) (y ∷ ys)) ≤ length ys
  at : (last ≡ y) ⊎ (order y last ≡ Less)

first_ends : (k : ℕ) (y : TreeNode) (ys : List TreeNode) → last_node (take (suc k) (y ∷ ys)) ≡ Some y → take (suc k) (y ∷ ys) ≡ y ∷ [] → IsStrictlySortedBy order (y ∷ ys) → Ends k y ys
first_ends k y ys is alone sorted = record {
  last = y;
  is = is;
  rest = (λ i. alone i ++ after_first y ys sorted i);
  fewer = let e = ap length (after_first y ys sorted) in omega (arith, e);
  at = inl refl;
}

ends : (k : ℕ) (y : TreeNode) (ys : List TreeNode) → IsStrictlySortedBy order (y ∷ ys) → Ends k y ys
unfolding IsStrictlySortedBy
ends zero y ys sorted = first_ends zero y ys refl refl sorted
ends (suc k) y [] sorted = first_ends (suc k) y [] refl refl sorted
ends (suc k) y (t ∷ ts) sorted = by (ends k t ts sorted.1)
  where
    before : (last : TreeNode) → (last ≡ t) ⊎ (order t last ≡ Less) → order y last ≡ Less
    before last (inl same) = subst (λ z. order y z ≡ Less) (sym same) sorted.0.0
    before last (inr less) = nat_list_cmp_total.trans y.key t.key last.key sorted.0.0 less

    by : Ends k t ts → Ends (suc k) y (t ∷ ts)
    by e =
        let behind : filter (is_node_after e.last.key) (y ∷ t ∷ ts) ≡ filter (is_node_after e.last.key) (t ∷ ts) = ap (λ b. cond b (y ∷ filter (is_node_after e.last.key) (t ∷ ts)) (filter (is_node_after e.last.key) (t ∷ ts))) (not_before e.last y (before e.last e.at)) in
        record {
          last = e.last;
          is = e.is;
          rest = ap (λ l. y ∷ (take (suc k) (t ∷ ts) ++ l)) behind ∙ ap (λ l. y ∷ l) e.rest;
          fewer = let n = ap length behind in let f = e.fewer in omega (arith, n, f);
          at = inr (before e.last e.at);
        }

-- what comes after an item that comes after a text comes after the text
later_still : (a : Bytes) (x : TreeNode) → is_node_after a x ≡ true → (y : TreeNode) → is_node_after x.key y ≡ true → is_node_after a y ≡ true
later_still a x first y then = ap is_lt (nat_list_cmp_total.trans a x.key y.key (less_of (slice_cmp nat_cmp a x.key) first) (less_of (slice_cmp nat_cmp x.key y.key) then))

-- what a test keeps passes it
passes : (p : TreeNode → Bool) (xs : List TreeNode) → AllByRecursion (λ x. p x ≡ true) (filter p xs)
passes p [] = tt
passes p (x ∷ xs) = by (p x) refl (passes p xs)
  where
    by : (b : Bool) → p x ≡ b → AllByRecursion (λ x. p x ≡ true) (filter p xs) → AllByRecursion (λ x. p x ≡ true) (cond b (x ∷ filter p xs) (filter p xs))
    by true is next = (is, next)
    by false is next = next

nothing_in : (xs : List TreeNode) → length xs ≤ 0 → [] ≡ xs
nothing_in [] few = refl
nothing_in (x ∷ xs) few = absurd (omega (arith, few))

-- the pages of a list in order, one after another, are all that comes after the text where they begin
pages_after : (xs : List TreeNode) → IsStrictlySortedBy order xs → (k n : ℕ) (after : Bytes) → length (filter (is_node_after after) xs) ≤ n → forest_pages n after (suc k) xs ≡ filter (is_node_after after) xs
pages_after xs sorted k zero after few = nothing_in (filter (is_node_after after) xs) few
pages_after xs sorted k (suc n) after few = by (filter (is_node_after after) xs) refl (pages_after xs sorted k n)
  where
    by : (ys : List TreeNode) → filter (is_node_after after) xs ≡ ys → ((a : Bytes) → length (filter (is_node_after a) xs) ≤ n → forest_pages n a (suc k) xs ≡ filter (is_node_after a) xs)
        → take (suc k) ys ++ option_map_or (λ x. forest_pages n x.key (suc k) xs) (last_node (take (suc k) ys)) [] ≡ ys
    by [] is next = refl
    by (y ∷ ts) is next =
        let e = ends k y ts (subst (IsStrictlySortedBy order) is (IsStrictlySortedBy-filter order (is_node_after after) xs sorted)) in
        let first : is_node_after after y ≡ true = (subst (AllByRecursion (λ x. is_node_after after x ≡ true)) is (passes (is_node_after after) xs)).0 in
        let same : filter (is_node_after e.last.key) xs ≡ filter (is_node_after e.last.key) (y ∷ ts) = sym (filter-within (is_node_after e.last.key) (is_node_after after) (later_still after e.last (at_last y e.last first e.at)) xs) ∙ ap (filter (is_node_after e.last.key)) is in
        let long = ap length is in
        let less = ap length same in
        let fewer = e.fewer in
        ap (λ o. take (suc k) (y ∷ ts) ++ option_map_or (λ x. forest_pages n x.key (suc k) xs) o []) e.is
        ∙ ap (λ l. take (suc k) (y ∷ ts) ++ l) (next e.last.key (omega (arith, few, long, less, fewer)) ∙ same) ∙ e.rest
      where
        at_last : (y last : TreeNode) → is_node_after after y ≡ true → (last ≡ y) ⊎ (order y last ≡ Less) → is_node_after after last ≡ true
        at_last y last first (inl same) = subst (λ z. is_node_after after z ≡ true) (sym same) first
        at_last y last first (inr less) = later_still after y first last (ap is_lt less)

-- ---- the forest

module _ (place : ℕ) (all : List Record) where
  abbrev is_here : Record → Bool
  is_here r = r.namespace == place

  abbrev nodes_of : List Record → List TreeNode
  nodes_of rs = map (tree_node all) (filter is_here rs)

  -- in one namespace records are in the order of their keys
  key_order : (r u : Record) → r.namespace ≡ place → u.namespace ≡ place → record_cmp r u ≡ Less → slice_cmp nat_cmp r.key u.key ≡ Less
  key_order r u at to less = sym (ap (λ o. ordering_then o (slice_cmp nat_cmp r.key u.key)) ((λ i. nat_cmp (at i) (to i)) ∙ tied_itself nat_cmp_total place)) ∙ less

  all_after : (r : Record) (us : List Record) → r.namespace ≡ place → AllByRecursion (λ u. record_cmp r u ≡ Less) us → AllByRecursion (λ n. order (tree_node all r) n ≡ Less) (nodes_of us)
  unfolding tree_node
  all_after r [] at less = tt
  all_after r (u ∷ us) at less = by (is_here u) refl (all_after r us at less.1)
    where
      by : (b : Bool) → is_here u ≡ b → AllByRecursion (λ n. order (tree_node all r) n ≡ Less) (nodes_of us)
          → AllByRecursion (λ n. order (tree_node all r) n ≡ Less) (map (tree_node all) (cond b (u ∷ filter is_here us) (filter is_here us)))
      by true is next = (key_order r u at (eqb-true u.namespace place is) less.0, next)
      by false is next = next

  in_order : (rs : List Record) → IsStrictlySortedBy record_cmp rs → IsStrictlySortedBy order (nodes_of rs)
  unfolding IsStrictlySortedBy
  in_order [] sorted = tt
  in_order (r ∷ rs) sorted = by (is_here r) refl (in_order rs sorted.1)
    where
      by : (b : Bool) → is_here r ≡ b → IsStrictlySortedBy order (nodes_of rs) → IsStrictlySortedBy order (map (tree_node all) (cond b (r ∷ filter is_here rs) (filter is_here rs)))
      by true is next = (all_after r rs (eqb-true r.namespace place is) sorted.0, next)
      by false is next = next

  -- a key isn't empty
  key_after : (k : Bytes) → is_key k ≡ true → is_lt (slice_cmp nat_cmp [] k) ≡ true
  key_after [] is = absurd (cc)
  key_after (b ∷ bs) is = refl

  all_keyed : (n : ℕ) (rs : List Record) → AllByRecursion (IsFormed n) rs → AllByRecursion (λ t. is_node_after [] t ≡ true) (nodes_of rs)
  unfolding tree_node
  all_keyed n [] formed = tt
  all_keyed n (r ∷ rs) formed = by (is_here r) (all_keyed n rs formed.1)
    where
      by : (b : Bool) → AllByRecursion (λ t. is_node_after [] t ≡ true) (nodes_of rs) → AllByRecursion (λ t. is_node_after [] t ≡ true) (map (tree_node all) (cond b (r ∷ filter is_here rs) (filter is_here rs)))
      by true next = (key_after r.key (and_parts (is_key r.key) (is_parent r.parent) (and_parts (is_key r.key && is_parent r.parent) (are_labels r.labels) formed.0.texts).0).0, next)
      by false next = next

-- the pages of a tree, one after another, are the tree
pub all_pages : (s : State) (place most n : ℕ) → Good s → 1 ≤ most → length (forest place s.records) ≤ n → forest_pages n [] most (forest place s.records) ≡ forest place s.records
all_pages s place zero n good some few = absurd (omega (arith, some))
all_pages s place (suc k) n good some few =
    let whole : filter (is_node_after []) (forest place s.records) ≡ forest place s.records = filter-all (is_node_after []) (forest place s.records) (all_keyed place s.records s.entries s.records good.formed) in
    let long = ap length whole in
    pages_after (forest place s.records) (in_order place s.records s.records good.sorted) k n [] (omega (arith, few, long)) ∙ whole
