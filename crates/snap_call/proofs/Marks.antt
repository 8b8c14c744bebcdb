-- Which records a mark and sweep marks: those that a sweep takes away.
use Rattle.std.proofs.Common.{◌≡◌, ℕ, zero, suc, ◌+◌, ◌<◌, Bool, true, false, true≢false, List, [], ◌∷◌, length, map, get_or, Option, Some, None, IsSome, position, refl, sym, ap, ◌∙◌, subst, arith, inl, inr}
use Rattle.std.proofs.lemmas.Bool.{and_from, and_parts, and_right, eqb-true, false_from_ne_true, not_from_false, not_from_true, or_cases, or_left, or_right, true_from_ne_false}
use Rattle.std.proofs.lemmas.Iterator.Adapters.{position_from-zero}
use Rattle.std.proofs.lemmas.List.{length-map}
use Rattle.std.proofs.lemmas.List.Quantifiers.{position-Some}
use Rattle.std.proofs.lemmas.Option.{get_or_from_slice_get, slice_get_within}
use Rattle.std.proofs.lemmas.Slice.Eq.{bytes_eq-Decides}
use Rattle.std.specs.List.{AllByRecursion, find, filter, list_any, position_from, slice_get}
use Rattle.std.specs.List.Sorted.{IsStrictlySortedBy}
use Rattle.std.proofs.lemmas.List.Kept.{IsStrictlySortedBy-filter}
use Rattle.std.specs.Option.{option_map}
use Rattle.std.specs.Prelude.{bytes_eq, ◌==◌, ◌&&◌, ◌||◌, not, cond, option_and_then, unwrap_or, if◌then◌else◌}
use Rattle.snap_lease.specs.Leases.{is_guarded_at}
use Rattle.snap_lease.specs.Live.{is_among}
use Rattle.snap_lease.specs.Reach.{ancestor, IsReached, IsSweepSet, HasParentsWithin}
use Rattle.snap_record.specs.Labels.{Bytes}
use Rattle.snap_record.specs.declared.record.Record.{Record}
use Rattle.snap_call.specs.declared.state.State.{State}
use Rattle.snap_call.specs.Good.{Good}
use Rattle.snap_call.specs.Marked.{base_place, parent_place, is_kept, marked}
use Rattle.snap_call.specs.Reached.{is_in_use, is_reached, is_swept, swept}
use Rattle.snap_call.specs.Records.{record_cmp, is_named, is_committed, committed_at}
use Rattle.snap_call.specs.State.{chain_from, most_ancestors}
use Rattle.snap_call.proofs.Lists.{some_same, none_some, committed-parts, find-passes}
use Rattle.snap_call.proofs.Chains.{chain_over}
use Rattle.snap_call.proofs.Keeping.{good_chains}
use Rattle.snap_call.proofs.Searches.{named_once}
use Rattle.snap_call.proofs.Parts.{is_ancestor}
use Rattle.snap_call.proofs.Own.{own, filter-own, chains-own, reached-own}

-- ---- items of a list

module _ {X : Type 0} where
  -- where what is found stands
  find_place_from : (p : X → Bool) (n : ℕ) (xs : List X) (x : X) → find p xs ≡ Some x → (j : ℕ) × (position_from p n xs ≡ Some (n + j)) × (slice_get xs j ≡ Some x)
  find_place_from p n [] x e = absurd (none_some x e)
  find_place_from p n (y ∷ ys) x e = by (p y) refl e (λ found. find_place_from p (n + 1) ys x found)
    where
      by : (b : Bool) → p y ≡ b → cond b (Some y) (find p ys) ≡ Some x
          → (find p ys ≡ Some x → (j : ℕ) × (position_from p (n + 1) ys ≡ Some ((n + 1) + j)) × (slice_get ys j ≡ Some x))
          → (j : ℕ) × (cond (p y) (Some n) (position_from p (n + 1) ys) ≡ Some (n + j)) × (slice_get (y ∷ ys) j ≡ Some x)
      by true is found next = let e : n ≡ n + 0 = omega arith in (0, rw is (ap Some e), found)
      by false is found next = let h = next found in let e : (n + 1) + h.0 ≡ n + suc h.0 = omega arith in (suc h.0, rw is (h.1 ∙ ap Some e), h.2)

  find_place : (p : X → Bool) (xs : List X) (x : X) → find p xs ≡ Some x → (j : ℕ) × (position p xs ≡ Some j) × (slice_get xs j ≡ Some x)
  find_place p xs x e = let h = find_place_from p 0 xs x e in let z : 0 + h.0 ≡ h.0 = omega arith in (h.0, position_from-zero p xs ∙ h.1 ∙ ap Some z, h.2)

  list_any-at : (p : X → Bool) (xs : List X) (k : ℕ) (x : X) → slice_get xs k ≡ Some x → p x ≡ true → list_any p xs ≡ true
  list_any-at p [] k x e is = absurd (none_some x e)
  list_any-at p (y ∷ ys) zero x e is = or_left (p y) (list_any p ys) (ap p (some_same y x e) ∙ is)
  list_any-at p (y ∷ ys) (suc k) x e is = or_right (p y) (list_any p ys) (list_any-at p ys k x e is)

  list_any-place : (p : X → Bool) (xs : List X) → list_any p xs ≡ true → (k : ℕ) × (x : X) × (slice_get xs k ≡ Some x) × (p x ≡ true)
  list_any-place p [] e = absurd (true≢false (sym e))
  list_any-place p (y ∷ ys) e = elim (or_cases (p y) (list_any p ys) e) [
    | inl here ↦ (0, y, refl, here)
    | inr after ↦ (let h = list_any-place p ys after in (suc h.0, h.1, h.2, h.3))
  ]

  all-at : (P : X → Type 0) (xs : List X) (k : ℕ) (x : X) → slice_get xs k ≡ Some x → AllByRecursion P xs → P x
  all-at P [] k x e all = absurd (none_some x e)
  all-at P (y ∷ ys) zero x e all = subst P (some_same y x e) all.0
  all-at P (y ∷ ys) (suc k) x e all = all-at P ys k x e all.1

  module _ {Y : Type 0} (f : X → Y) where
    slice_get-mapped : (xs : List X) (k : ℕ) (x : X) → slice_get xs k ≡ Some x → slice_get (map f xs) k ≡ Some (f x)
    slice_get-mapped [] k x e = absurd (none_some x e)
    slice_get-mapped (y ∷ ys) zero x e = ap (λ z. Some (f z)) (some_same y x e)
    slice_get-mapped (y ∷ ys) (suc k) x e = slice_get-mapped ys k x e

    slice_get-from_mapped : (xs : List X) (k : ℕ) (y : Y) → slice_get (map f xs) k ≡ Some y → (x : X) × (slice_get xs k ≡ Some x) × (f x ≡ y)
    slice_get-from_mapped [] k y e = absurd (none_some y e)
    slice_get-from_mapped (x ∷ xs) zero y e = (x, refl, some_same (f x) y e)
    slice_get-from_mapped (x ∷ xs) (suc k) y e = slice_get-from_mapped xs k y e

    get_or-mapped : (xs : List X) (k : ℕ) (x : X) (d : Y) → slice_get xs k ≡ Some x → get_or (map f xs) k d ≡ f x
    get_or-mapped xs k x d e = get_or_from_slice_get (map f xs) k (f x) d (slice_get-mapped xs k x e)

-- ---- a walk along parents, by its first step

module _ (parents : List (Option ℕ)) where
  abbrev onward : ℕ → Option ℕ → Option ℕ
  onward n o = option_and_then (λ b. ancestor parents n b) o

  abbrev next_of : Option ℕ → Option ℕ
  next_of o = option_and_then (λ b. get_or parents b None) o

  itself : (o : Option ℕ) → o ≡ onward 0 o
  itself None = refl
  itself (Some j) = refl

  further : (n : ℕ) (o : Option ℕ) → next_of (onward n o) ≡ onward (suc n) o
  further n None = refl
  further n (Some j) = refl

  first_step : (n a : ℕ) → ancestor parents (suc n) a ≡ onward n (get_or parents a None)
  first_step zero a = itself (get_or parents a None)
  first_step (suc n) a = ap next_of (first_step n a) ∙ further n (get_or parents a None)

-- ---- the records of a namespace, and the chain of a record

module _ (place : ℕ) (rs : List Record) (sorted : IsStrictlySortedBy record_cmp rs) where
  abbrev places_of : List (Option ℕ)
  places_of = map (parent_place place rs) rs

  -- the parent of a record of the namespace
  base_of : (k : ℕ) (r : Record) → slice_get rs k ≡ Some r → (r.namespace == place) ≡ true → get_or places_of k None ≡ base_place place rs r.parent
  base_of k r e own = get_or-mapped (parent_place place rs) rs k r None e ∙ ap (λ b. if b then base_place place rs r.parent else None) own

  own_of : (key : Bytes) (r : Record) → is_named place key r ≡ true → (r.namespace == place) ≡ true
  own_of key r is = (and_parts (r.namespace == place) (bytes_eq r.key key) is).0

  -- the first of a chain, and the rest
  abbrev IsLink : ℕ → Bytes → List Record → Type 0
  IsLink m p chain = (j : ℕ) × (u : Record) × (above : List Record) × (base_place place rs p ≡ Some j) × (slice_get rs j ≡ Some u) × (is_named place p u ≡ true) × (chain_from m rs place u.parent ≡ Some above) × (chain ≡ u ∷ above)

  link : (m b : ℕ) (bs : Bytes) (chain : List Record) → chain_from (suc m) rs place (b ∷ bs) ≡ Some chain → IsLink m (b ∷ bs) chain
  link m b bs chain e = by (committed_at place (b ∷ bs) rs) refl e
    where
      by : (o : Option Record) → committed_at place (b ∷ bs) rs ≡ o → chain_over o (λ r. chain_from m rs place r.parent) ≡ Some chain → IsLink m (b ∷ bs) chain
      by None is found = absurd (none_some chain found)
      by (Some u) is found = over (chain_from m rs place u.parent) refl found
        where
          over : (o : Option (List Record)) → chain_from m rs place u.parent ≡ o → option_map (λ above. u ∷ above) o ≡ Some chain → IsLink m (b ∷ bs) chain
          over None up made = absurd (none_some chain made)
          over (Some above) up made =
              let at = (committed-parts _ u is).0 in
              let h = find_place (is_named place (b ∷ bs)) rs u at in
              (h.0, u, above, h.1, h.2, find-passes (is_named place (b ∷ bs)) rs u at, up, sym (some_same (u ∷ above) chain made))

  -- a walk from a record passes its chain alone
  walk_in_chain : (m n : ℕ) (p : Bytes) (chain : List Record) (k : ℕ) (r : Record) → chain_from m rs place p ≡ Some chain → onward places_of n (base_place place rs p) ≡ Some k → slice_get rs k ≡ Some r
      → list_any (λ t. bytes_eq t.key r.key) chain ≡ true
  walk_in_chain m n [] chain k r e walk at = absurd (none_some k walk)
  walk_in_chain zero n (b ∷ bs) chain k r e walk at = absurd (none_some chain e)
  walk_in_chain (suc m) n (b ∷ bs) chain k r e walk at = by n (sym (ap (onward places_of n) l.3) ∙ walk) (λ n above. walk_in_chain m n l.1.parent l.2 k r l.6 above at)
    where
      l : IsLink m (b ∷ bs) chain
      l = link m b bs chain e

      by : (n : ℕ) → ancestor places_of n l.0 ≡ Some k → ((n : ℕ) → onward places_of n (base_place place rs l.1.parent) ≡ Some k → list_any (λ t. bytes_eq t.key r.key) l.2 ≡ true) → list_any (λ t. bytes_eq t.key r.key) chain ≡ true
      by zero here next =
          let same : l.1 ≡ r = some_same l.1 r (sym l.4 ∙ ap (slice_get rs) (some_same l.0 k here) ∙ at) in
          ap (list_any (λ t. bytes_eq t.key r.key)) l.7 ∙ or_left (bytes_eq l.1.key r.key) _ ((bytes_eq-Decides l.1.key r.key).1 (ap (λ (t : Record). t.key) same))
      by (suc n) further next =
          ap (list_any (λ t. bytes_eq t.key r.key)) l.7
          ∙ or_right (bytes_eq l.1.key r.key) _ (next n (sym (first_step places_of n l.0 ∙ ap (onward places_of n) (base_of l.0 l.1 l.4 (own_of (b ∷ bs) l.1 l.5))) ∙ further))

  -- a walk leads from a parent to a record of the key
  abbrev LeadsTo : Option ℕ → Bytes → Type 0
  LeadsTo from key = (n : ℕ) × (k : ℕ) × (r : Record) × (onward places_of n from ≡ Some k) × (slice_get rs k ≡ Some r) × (is_named place key r ≡ true)

  -- a walk from a record passes all of its chain
  chain_is_walked : (m : ℕ) (p : Bytes) (chain : List Record) (key : Bytes) → chain_from m rs place p ≡ Some chain → list_any (λ t. bytes_eq t.key key) chain ≡ true → LeadsTo (base_place place rs p) key
  chain_is_walked m [] chain key e some = absurd (true≢false (sym some ∙ ap (list_any (λ t. bytes_eq t.key key)) (sym (some_same [] chain e))))
  chain_is_walked zero (b ∷ bs) chain key e some = absurd (none_some chain e)
  chain_is_walked (suc m) (b ∷ bs) chain key e some =
      elim (or_cases (bytes_eq l.1.key key) (list_any (λ t. bytes_eq t.key key) l.2) (sym (ap (list_any (λ t. bytes_eq t.key key)) l.7) ∙ some)) [
        | inl here ↦ (0, l.0, l.1, ap (onward places_of 0) l.3, l.4, and_from _ _ (own_of (b ∷ bs) l.1 l.5) here)
        | inr above ↦ (
            let h = chain_is_walked m l.1.parent l.2 key l.6 above in
            (suc h.0, h.1, h.2, ap (onward places_of (suc h.0)) l.3 ∙ first_step places_of h.0 l.0 ∙ ap (onward places_of h.0) (base_of l.0 l.1 l.4 (own_of (b ∷ bs) l.1 l.5)) ∙ h.3, h.4, h.5)
            )
      ]
    where
      l : IsLink m (b ∷ bs) chain
      l = link m b bs chain e

  -- two records of one key stand in one place
  one_place : (i k : ℕ) (t r : Record) (key : Bytes) → slice_get rs i ≡ Some t → slice_get rs k ≡ Some r → is_named place key t ≡ true → is_named place key r ≡ true → i ≡ k
  one_place i k t r key ei ek ti rk =
      named_once place key rs sorted i k r (slice_get_within rs i t ei) (slice_get_within rs k r ek)
      (ap (is_named place key) (get_or_from_slice_get rs i t r ei) ∙ ti) (ap (is_named place key) (get_or_from_slice_get rs k r r ek) ∙ rk)

  module _ (chains : AllByRecursion (λ r. IsSome (chain_from most_ancestors rs r.namespace r.parent)) rs) (root : Record → Bool) where
    -- a record of the namespace that is in use for what it is
    abbrev is_own_root : Record → Bool
    is_own_root t = (t.namespace == place) && root t

    abbrev roots_of : List Bool
    roots_of = map is_own_root rs

    -- a record of the key is in use, or is an ancestor of one that is
    abbrev reaches : Bytes → Record → Bool
    reaches key t = (t.namespace == place) && root t && (bytes_eq t.key key || is_ancestor rs key t)

    abbrev Chain : Record → Type 0
    Chain t = (chain : List Record) × (chain_from most_ancestors rs t.namespace t.parent ≡ Some chain)

    some_of : (o : Option (List Record)) → IsSome o → (chain : List Record) × (o ≡ Some chain)
    some_of None some = absurd (true≢false (sym some))
    some_of (Some chain) some = (chain, refl)

    chain_of : (k : ℕ) (t : Record) → slice_get rs k ≡ Some t → Chain t
    chain_of k t at = some_of (chain_from most_ancestors rs t.namespace t.parent) (all-at (λ r. IsSome (chain_from most_ancestors rs r.namespace r.parent)) rs k t at chains)

    above_is : (key : Bytes) (t : Record) (chain : List Record) → chain_from most_ancestors rs t.namespace t.parent ≡ Some chain → is_ancestor rs key t ≡ list_any (λ u. bytes_eq u.key key) chain
    above_is key t chain e = ap (λ o. list_any (λ u. bytes_eq u.key key) (unwrap_or o [])) e

    module _ (k : ℕ) (r : Record) (here : slice_get rs k ≡ Some r) (own : (r.namespace == place) ≡ true) where
      named_here : is_named place r.key r ≡ true
      named_here = and_from _ _ own ((bytes_eq-Decides r.key r.key).1 refl)

      reached_from : (j n : ℕ) (t : Record) → slice_get rs j ≡ Some t → (t.namespace == place) ≡ true → ancestor places_of n j ≡ Some k → (bytes_eq t.key r.key || is_ancestor rs r.key t) ≡ true
      reached_from j zero t at in_place walk =
          let same : t ≡ r = some_same t r (sym at ∙ ap (slice_get rs) (some_same j k walk) ∙ here) in
          or_left _ _ ((bytes_eq-Decides t.key r.key).1 (ap (λ (u : Record). u.key) same))
      reached_from j (suc n) t at in_place walk =
          let chain = chain_of j t at in
          let by_place : chain_from most_ancestors rs place t.parent ≡ Some chain.0 = ap (λ (m : ℕ). chain_from most_ancestors rs m t.parent) (sym (eqb-true t.namespace place in_place)) ∙ chain.1 in
          or_right (bytes_eq t.key r.key) _
          (above_is r.key t chain.0 chain.1
          ∙ walk_in_chain most_ancestors n t.parent chain.0 k r by_place (sym (first_step places_of n j ∙ ap (onward places_of n) (base_of j t at in_place)) ∙ walk) here)

      reached-is_reached : IsReached places_of roots_of k → list_any (reaches r.key) rs ≡ true
      reached-is_reached w =
          let at = slice_get-from_mapped is_own_root rs w.0 true w.2 in
          let parts = and_parts (at.0.namespace == place) (root at.0) at.2 in
          list_any-at (reaches r.key) rs w.0 at.0 at.1 (and_from _ _ at.2 (reached_from w.0 w.1 at.0 at.1 parts.0 w.3))

      is_reached-reached : list_any (reaches r.key) rs ≡ true → IsReached places_of roots_of k
      is_reached-reached some =
          let found = list_any-place (reaches r.key) rs some in
          let j = found.0 in
          let t = found.1 in
          let parts = and_parts (is_own_root t) (bytes_eq t.key r.key || is_ancestor rs r.key t) found.3 in
          let in_place = (and_parts (t.namespace == place) (root t) parts.0).0 in
          let is_root_at : slice_get roots_of j ≡ Some true = slice_get-mapped is_own_root rs j t found.2 ∙ ap Some parts.0 in
          elim (or_cases (bytes_eq t.key r.key) (is_ancestor rs r.key t) parts.1) [
            | inl same ↦ (j, 0, is_root_at, ap Some (one_place j k t r r.key found.2 here (and_from _ _ in_place same) named_here))
            | inr above ↦ (
                let chain = chain_of j t found.2 in
                let by_place : chain_from most_ancestors rs place t.parent ≡ Some chain.0 = ap (λ (m : ℕ). chain_from most_ancestors rs m t.parent) (sym (eqb-true t.namespace place in_place)) ∙ chain.1 in
                let h = chain_is_walked most_ancestors t.parent chain.0 r.key by_place (sym (above_is r.key t chain.0 chain.1) ∙ above) in
                let same : h.1 ≡ k = one_place h.1 k h.2 r r.key h.4 here h.5 named_here in
                (j, suc h.0, is_root_at, first_step places_of h.0 j ∙ ap (onward places_of h.0) (base_of j t found.2 in_place) ∙ h.3 ∙ ap Some same)
                )
          ]

-- ---- the marks

-- the records that are marked are those that pass a test
marked-filter : (place : ℕ) (q : Record → Bool) (rs : List Record) (bs : List Bool) → length bs ≡ length rs
    → ((k : ℕ) (r : Record) (b : Bool) → slice_get rs k ≡ Some r → slice_get bs k ≡ Some b → ((r.namespace == place) && b) ≡ q r) → marked place rs bs ≡ filter q rs
marked-filter place q [] bs same law = refl
marked-filter place q (r ∷ rs) [] same law = absurd (omega arith)
marked-filter place q (r ∷ rs) (b ∷ bs) same law =
    let rest : marked place rs bs ≡ filter q rs = marked-filter place q rs bs (omega arith) (λ k t c. law (suc k) t c) in
    ap (λ c. if c then r ∷ marked place rs bs else marked place rs bs) (law 0 r b refl refl) ∙ ap (λ ts. cond (q r) (r ∷ ts) ts) rest

-- one mark of a sweep set
mark_law : (own committed : Bool) (b : Bool) (reached : Bool) → (own ≡ true → b ≡ false → reached ≡ true) → (own ≡ true → b ≡ true → (committed ≡ true) × (reached ≡ false)) → (own && b) ≡ (own && committed && not reached)
mark_law false committed b reached out kept = refl
mark_law true committed false reached out kept = let e : reached ≡ true = out refl refl in sym (and_right committed (not reached) (not_from_true reached e))
mark_law true committed true reached out kept = let h = kept refl refl in sym (and_from committed (not reached) h.0 (not_from_false reached h.1))

module _ (s : State) (namespace : Bytes) (place moment : ℕ) where
  -- a record of the namespace that is in use for what it is
  abbrev is_used : Record → Bool
  is_used t = (t.namespace == place) && is_in_use s namespace moment t

  -- the namespace's records, where their parents stand among them, and which are in use
  abbrev owned : List Record
  owned = own place s.records

  abbrev parents_of : List (Option ℕ)
  parents_of = map (parent_place place owned) owned

  abbrev used_of : List Bool
  used_of = map is_used owned

  marked-swept : Good s → (marks : List Bool) → IsSweepSet parents_of used_of marks → marked place owned marks ≡ swept s namespace place moment
  marked-swept good marks set =
      marked-filter place (is_swept s namespace place moment) owned marks (set.places ∙ length-map owned (parent_place place owned)) law
      ∙ filter-own place (is_swept s namespace place moment) (λ r is. ap (λ b. b && is_committed r.content && not (is_reached s namespace place moment r.key)) is) s.records
    where
      in_order : IsStrictlySortedBy record_cmp owned
      in_order = IsStrictlySortedBy-filter record_cmp (λ r. r.namespace == place) s.records good.sorted

      in_chains : AllByRecursion (λ r. IsSome (chain_from most_ancestors owned r.namespace r.parent)) owned
      in_chains = chains-own place s.records s.records (good_chains s good)

      law : (k : ℕ) (r : Record) (b : Bool) → slice_get owned k ≡ Some r → slice_get marks k ≡ Some b → ((r.namespace == place) && b) ≡ is_swept s namespace place moment r
      law k r b here mark = mark_law (r.namespace == place) (is_committed r.content) b (is_reached s namespace place moment r.key) out kept
        where
          among : list_any (reaches place owned in_order in_chains (is_in_use s namespace moment) r.key) owned ≡ is_reached s namespace place moment r.key
          among = reached-own place (is_in_use s namespace moment) s.records r.key

          out : (r.namespace == place) ≡ true → b ≡ false → is_reached s namespace place moment r.key ≡ true
          out own_one e = sym among ∙ reached-is_reached place owned in_order in_chains (is_in_use s namespace moment) k r here own_one ((set.reached k).0 (mark ∙ ap Some e))

          free : b ≡ true → IsReached parents_of used_of k → ⊥
          free e = ((set.unreached k).0 (mark ∙ ap Some e)).1

          reached_itself : (r.namespace == place) ≡ true → is_committed r.content ≡ false → IsReached parents_of used_of k
          reached_itself own_one e = (k, 0, slice_get-mapped is_used owned k r here ∙ ap Some (and_from _ _ own_one (or_left _ _ (not_from_false (is_committed r.content) e))), refl)

          kept : (r.namespace == place) ≡ true → b ≡ true → (is_committed r.content ≡ true) × (is_reached s namespace place moment r.key ≡ false)
          kept own_one e = (
            true_from_ne_false (is_committed r.content) (λ h. free e (reached_itself own_one h)),
            false_from_ne_true (is_reached s namespace place moment r.key) (λ h. free e (is_reached-reached place owned in_order in_chains (is_in_use s namespace moment) k r here own_one (among ∙ h))),
          )

-- ---- the lists that the code makes

some_from_mapped : {X : Type 0} (f : X → Option ℕ) (xs : List X) (k p : ℕ) → get_or (map f xs) k None ≡ Some p → (x : X) × (f x ≡ Some p)
some_from_mapped f [] k p e = absurd (none_some p e)
some_from_mapped f (x ∷ xs) zero p e = (x, e)
some_from_mapped f (x ∷ xs) (suc k) p e = some_from_mapped f xs k p e

base_within : (place : ℕ) (rs : List Record) (r : Record) (parent : Bytes) (p : ℕ) → base_place place rs parent ≡ Some p → p < length rs
base_within place rs r [] p e = absurd (none_some p e)
base_within place rs r (b ∷ bs) p e = (position-Some (is_named place (b ∷ bs)) rs p r e).0

parent_within : (place : ℕ) (rs : List Record) (r : Record) (p : ℕ) → parent_place place rs r ≡ Some p → p < length rs
parent_within place rs r p e = by (r.namespace == place) e
  where
    by : (b : Bool) → (if b then base_place place rs r.parent else None) ≡ Some p → p < length rs
    by true found = base_within place rs r r.parent p found
    by false found = absurd (none_some p found)

pub parents-within : (place : ℕ) (rs : List Record) (parents : List (Option ℕ)) → parents ≡ map (parent_place place rs) rs → HasParentsWithin parents
parents-within place rs parents is = subst HasParentsWithin (sym is) (λ k p e. let h = some_from_mapped (parent_place place rs) rs k p e in subst (λ n. p < n) (sym (length-map rs (parent_place place rs))) (parent_within place rs h.0 p h.1))

map-same : {X Y : Type 0} (f g : X → Y) → ((x : X) → f x ≡ g x) → (xs : List X) → map f xs ≡ map g xs
map-same f g same [] = refl
map-same f g same (x ∷ xs) = ap (λ y. y ∷ map f xs) (same x) ∙ ap (λ ys. g x ∷ ys) (map-same f g same xs)

-- the records that are marked are those that a sweep takes away
pub planned : (s : State) (namespace : Bytes) (place moment : ℕ) → Good s → (names : List Bytes) (parents : List (Option ℕ)) (roots marks : List Bool)
    → ((name : Bytes) → is_among name names ≡ is_guarded_at s.leases namespace name moment)
    → parents ≡ map (parent_place place (own place s.records)) (own place s.records) → roots ≡ map (is_kept place names) (own place s.records) → IsSweepSet parents roots marks
    → marked place (own place s.records) marks ≡ swept s namespace place moment
planned s namespace place moment good names parents roots marks guarded parents_are roots_are set =
    let same : roots ≡ used_of s namespace place moment =
    roots_are ∙ map-same (is_kept place names) (is_used s namespace place moment) (λ r. ap (λ b. (r.namespace == place) && (not (is_committed r.content) || b)) (guarded r.key)) (own place s.records) in
    marked-swept s namespace place moment good marks
    (subst (λ ps. IsSweepSet ps (used_of s namespace place moment) marks) parents_are (subst (λ bs. IsSweepSet parents bs marks) same set))
