-- Labels and the number of the last change are seen by nothing but an info: what is the same of two lists that differ in these alone.
use Rattle.std.proofs.Common.{◌≡◌, ℕ, zero, suc, ◌+◌, ◌<◌, Bool, true, false, cond, List, [], ◌∷◌, map, Option, Some, None, IsSome, refl, sym, ap, ◌∙◌, subst}
use Rattle.std.specs.List.{AllByRecursion, cons_option, find}
use Rattle.std.specs.List.Sorted.{IsStrictlySortedBy}
use Rattle.std.specs.Option.{option_map, is_some}
use Rattle.std.specs.declared.cmp.Ordering.TheVariants.{Less}
use Rattle.std.specs.Prelude.{IsSomeAnd, if◌then◌else◌, option_and_then, unwrap_or}
use Rattle.snap_ledger.specs.States.{plus}
use Rattle.snap_lease.specs.Lease.{Lease}
use Rattle.snap_record.specs.Labels.{Bytes, Label}
use Rattle.snap_record.specs.declared.record.Record.{Record}
use Rattle.snap_call.specs.declared.config.Namespace.{Namespace}
use Rattle.snap_call.specs.Records.{record_cmp, is_named, record_at, is_slot, active_at, is_committed, committed_at, charge_of, charge_if, charge_at, open_count, with_labels, relabelled, AllPairwise}
use Rattle.snap_call.specs.State.{place_of, chain_from, is_base, ancestors, ids_of, layer_of, layers_of, most_ancestors}
use Rattle.snap_call.proofs.Lists.{all-map, some_same, none_some, if_committed, active_one, open_count-cons}
use Rattle.snap_call.proofs.Chains.{HasParent, IsRising, NamesStand, chain, chain_over}
use Rattle.snap_call.proofs.Sums.{part_of}
use Rattle.snap_call.specs.Good.{HasOlderParent}
use Rattle.snap_call.specs.Promised.{IsGuarding}

-- a record without its labels and the number of its last change
abbrev pub bare : Record → Record
bare r = record r { labels = []; updated = 0 }

-- the same records, but for these
abbrev pub AreAlike : List Record → List Record → Type 0
AreAlike rs ts = map bare rs ≡ map bare ts

-- ---- a record with other labels

module _ (place : ℕ) (key : Bytes) (labels : List Label) (number : ℕ) where
  -- the records are alike
  pub bare-relabelled : (rs : List Record) → AreAlike rs (relabelled place key labels number rs)
  bare-relabelled [] = refl
  bare-relabelled (r ∷ rs) =
      elim (is_named place key r) as (λ b. map bare (r ∷ rs) ≡ map bare (if b then with_labels labels number r ∷ rs else r ∷ relabelled place key labels number rs)) [
        | true ↦ refl
        | false ↦ ap (λ l. bare r ∷ l) (bare-relabelled rs)
      ]

  -- what doesn't see the labels holds as before
  pub all-relabelled : (P : Record → Type 0) (rs : List Record) → ((r : Record) → P r → P (with_labels labels number r)) → AllByRecursion P rs → AllByRecursion P (relabelled place key labels number rs)
  all-relabelled P [] f all = tt
  all-relabelled P (r ∷ rs) f all =
      elim (is_named place key r) as (λ b. AllByRecursion P (if b then with_labels labels number r ∷ rs else r ∷ relabelled place key labels number rs)) [
        | true ↦ (f r all.0, all.1)
        | false ↦ (all.0, all-relabelled P rs f all.1)
      ]

  pub pairwise-relabelled : (R : Record → Record → Type 0) (rs : List Record)
      → ((r t : Record) → R r t → R (with_labels labels number r) t)
      → ((r t : Record) → R r t → R r (with_labels labels number t))
      → AllPairwise R rs → AllPairwise R (relabelled place key labels number rs)
  pairwise-relabelled R [] f g all = tt
  pairwise-relabelled R (r ∷ rs) f g all =
      elim (is_named place key r) as (λ b. AllPairwise R (if b then with_labels labels number r ∷ rs else r ∷ relabelled place key labels number rs)) [
        | true ↦ (all-map (R r) (R (with_labels labels number r)) (λ t. f r t) rs all.0, all.1)
        | false ↦ (all-relabelled (R r) rs (λ t. g r t) all.0, pairwise-relabelled R rs f g all.1)
      ]

  pub sorted-relabelled : (rs : List Record) → IsStrictlySortedBy record_cmp rs → IsStrictlySortedBy record_cmp (relabelled place key labels number rs)
  unfolding IsStrictlySortedBy
  sorted-relabelled [] sorted = tt
  sorted-relabelled (r ∷ rs) sorted =
      elim (is_named place key r) as (λ b. IsStrictlySortedBy record_cmp (if b then with_labels labels number r ∷ rs else r ∷ relabelled place key labels number rs)) [
        | true ↦ sorted
        | false ↦ (all-relabelled (λ u. record_cmp r u ≡ Less) rs (λ u e. e) sorted.0, sorted-relabelled rs sorted.1)
      ]

-- ---- the bare records of a list

-- a test that doesn't see the labels finds the same record
pub find-bare : (p : Record → Bool) → ((r : Record) → p (bare r) ≡ p r) → (rs : List Record) → find p (map bare rs) ≡ option_map bare (find p rs)
find-bare p same [] = refl
find-bare p same (r ∷ rs) =
    ap (λ b. cond b (Some (bare r)) (find p (map bare rs))) (same r)
    ∙ elim (p r) as (λ b. cond b (Some (bare r)) (find p (map bare rs)) ≡ option_map bare (cond b (Some r) (find p rs))) [ true ↦ refl | false ↦ find-bare p same rs ]

pub record_at-bare : (place : ℕ) (key : Bytes) (rs : List Record) → record_at place key (map bare rs) ≡ option_map bare (record_at place key rs)
record_at-bare place key rs = find-bare (is_named place key) (λ r. refl) rs

pub active_at-bare : (slot : ℕ) (rs : List Record) → active_at slot (map bare rs) ≡ option_map bare (active_at slot rs)
active_at-bare slot rs = find-bare (is_slot slot) (λ r. refl) rs

pub committed_at-bare : (place : ℕ) (key : Bytes) (rs : List Record) → committed_at place key (map bare rs) ≡ option_map bare (committed_at place key rs)
committed_at-bare place key rs = ap (option_and_then if_committed) (record_at-bare place key rs) ∙ by (record_at place key rs)
  where
    by : (o : Option Record) → option_and_then if_committed (option_map bare o) ≡ option_map bare (option_and_then if_committed o)
    by None = refl
    by (Some r) = elim (is_committed r.content) as (λ b. (if b then Some (bare r) else None) ≡ option_map bare (if b then Some r else None)) [ true ↦ refl | false ↦ refl ]

pub chain_from-bare : (n : ℕ) (rs : List Record) (place : ℕ) (p : Bytes) → chain_from n (map bare rs) place p ≡ option_map (map bare) (chain_from n rs place p)
chain_from-bare n rs place [] = refl
chain_from-bare zero rs place (b ∷ bs) = refl
chain_from-bare (suc n) rs place (b ∷ bs) =
    ap (λ o. chain_over o (λ r. chain_from n (map bare rs) place r.parent)) (committed_at-bare place (b ∷ bs) rs)
    ∙ by (committed_at place (b ∷ bs) rs) (λ p. chain_from-bare n rs place p)
  where
    by : (o : Option Record) → ((p : Bytes) → chain_from n (map bare rs) place p ≡ option_map (map bare) (chain_from n rs place p))
        → chain_over (option_map bare o) (λ r. chain_from n (map bare rs) place r.parent) ≡ option_map (map bare) (chain_over o (λ r. chain_from n rs place r.parent))
    by None next = refl
    by (Some r) next = ap (option_map (λ l. bare r ∷ l)) (next r.parent) ∙ over (chain_from n rs place r.parent)
      where
        over : (o : Option (List Record)) → option_map (λ l. bare r ∷ l) (option_map (map bare) o) ≡ option_map (map bare) (option_map (λ l. r ∷ l) o)
        over None = refl
        over (Some l) = refl

pub layers_of-bare : (rs : List Record) → layers_of (map bare rs) ≡ layers_of rs
layers_of-bare [] = refl
layers_of-bare (r ∷ rs) = ap (cons_option (layer_of r.content)) (layers_of-bare rs)

pub ids_of-bare : (rs : List Record) → ids_of (map bare rs) ≡ ids_of rs
ids_of-bare [] = refl
ids_of-bare (r ∷ rs) = ap (λ l. r.id ∷ l) (ids_of-bare rs)

pub charge_of-bare : (place : ℕ) (rs : List Record) → charge_of place (map bare rs) ≡ charge_of place rs
charge_of-bare place [] = refl
charge_of-bare place (r ∷ rs) = ap (plus (part_of place r)) (charge_of-bare place rs)

pub open_count-bare : (rs : List Record) → open_count (map bare rs) ≡ open_count rs
open_count-bare [] = refl
open_count-bare (r ∷ rs) = open_count-cons (bare r) (map bare rs) ∙ ap (λ n. active_one r.content + n) (open_count-bare rs) ∙ sym (open_count-cons r rs)

pub charge_at-bare : (slot : ℕ) (rs : List Record) → charge_at slot (map bare rs) ≡ charge_at slot rs
charge_at-bare slot rs = ap (charge_if slot) (active_at-bare slot rs) ∙ by (active_at slot rs)
  where
    by : (o : Option Record) → charge_if slot (option_map bare o) ≡ charge_if slot o
    by None = refl
    by (Some r) = refl

-- whether there is one
is_some-map : {X Y : Type 0} (f : X → Y) (o : Option X) → is_some (option_map f o) ≡ is_some o
is_some-map f None = refl
is_some-map f (Some x) = refl

-- ---- two lists that are alike

module _ (rs ts : List Record) (alike : AreAlike rs ts) where
  -- what is the same of a list and of its bare records is the same of both lists
  same_of : {X : Type 0} (f : List Record → X) → ((us : List Record) → f (map bare us) ≡ f us) → f ts ≡ f rs
  same_of f by = sym (by ts) ∙ ap f (sym alike) ∙ by rs

  -- where something is found in the one, it is found in the other
  some_of : {X : Type 0} (f : List Record → Option X) (g : X → X) → ((us : List Record) → f (map bare us) ≡ option_map g (f us)) → is_some (f ts) ≡ is_some (f rs)
  some_of f g by = same_of (λ us. is_some (f us)) (λ us. ap is_some (by us) ∙ is_some-map g (f us))

  -- what is found in the other list is the same record, but for its labels
  pub alike-record : (p : Record → Bool) → ((r : Record) → p (bare r) ≡ p r) → (r : Record) → find p rs ≡ Some r → (t : Record) × (find p ts ≡ Some t) × (bare t ≡ bare r)
  alike-record p same r e = by (find p ts) refl (sym (find-bare p same ts) ∙ ap (find p) (sym alike) ∙ find-bare p same rs ∙ ap (option_map bare) e)
    where
      by : (o : Option Record) → find p ts ≡ o → option_map bare (find p ts) ≡ Some (bare r) → (t : Record) × (find p ts ≡ Some t) × (bare t ≡ bare r)
      by None is found = absurd (none_some (bare r) (sym (ap (option_map bare) is) ∙ found))
      by (Some t) is found = (t, is, some_same (bare t) (bare r) (sym (ap (option_map bare) is) ∙ found))

  pub alike-active_at : (slot : ℕ) (r : Record) → active_at slot rs ≡ Some r → (t : Record) × (active_at slot ts ≡ Some t) × (bare t ≡ bare r)
  alike-active_at slot r e = alike-record (is_slot slot) (λ t. refl) r e

  pub alike-active_at_None : (slot : ℕ) → active_at slot rs ≡ None → active_at slot ts ≡ None
  alike-active_at_None slot e = by (active_at slot ts) (sym (active_at-bare slot ts) ∙ ap (active_at slot) (sym alike) ∙ active_at-bare slot rs ∙ ap (option_map bare) e)
    where
      by : (o : Option Record) → option_map bare o ≡ None → o ≡ None
      by None h = refl
      by (Some t) h = absurd (none_some (bare t) (sym h))

  -- the committed record of a key is there in both, or in neither
  pub alike-is_committed : (place : ℕ) (key : Bytes) → is_some (committed_at place key ts) ≡ is_some (committed_at place key rs)
  alike-is_committed place key = some_of (committed_at place key) bare (committed_at-bare place key)

  pub alike-some : (place : ℕ) (key : Bytes) → IsSome (committed_at place key rs) → IsSome (committed_at place key ts)
  alike-some place key some = alike-is_committed place key ∙ some

  pub alike-is_base : (place : ℕ) (p : Bytes) → is_base place p ts ≡ is_base place p rs
  alike-is_base place [] = refl
  alike-is_base place (b ∷ bs) = alike-is_committed place (b ∷ bs)

  pub alike-HasParent : (r : Record) → HasParent rs r → HasParent ts r
  alike-HasParent r h = alike-is_base r.namespace r.parent ∙ h

  older_parent : (place : ℕ) (p : Bytes) (id : ℕ) → HasOlderParent rs place p id → HasOlderParent ts place p id
  older_parent place [] id h = h
  older_parent place (b ∷ bs) id h = by (committed_at place (b ∷ bs) rs) (committed_at place (b ∷ bs) ts) same h
    where
      same : option_map bare (committed_at place (b ∷ bs) ts) ≡ option_map bare (committed_at place (b ∷ bs) rs)
      same = sym (committed_at-bare place (b ∷ bs) ts) ∙ ap (committed_at place (b ∷ bs)) (sym alike) ∙ committed_at-bare place (b ∷ bs) rs

      by : (o q : Option Record) → option_map bare q ≡ option_map bare o → IsSomeAnd o (λ r. r.id < id) → IsSomeAnd q (λ r. r.id < id)
      by None q e below = absurd below
      by (Some r) None e below = absurd (none_some (bare r) e)
      by (Some r) (Some t) e below = subst (λ (x : Record). x.id < id) (sym (some_same (bare t) (bare r) e)) below

  pub alike-IsRising : (r : Record) → IsRising rs r → IsRising ts r
  alike-IsRising r h = older_parent r.namespace r.parent r.id h

  alike_names : (o : Option ℕ) (names : List Bytes) → NamesStand rs o names → NamesStand ts o names
  alike_names None names h = h
  alike_names (Some place) names h = all-map (λ name. IsSome (committed_at place name rs)) (λ name. IsSome (committed_at place name ts)) (λ name. alike-some place name) names h

  pub alike-IsGuarding : (ns : List Namespace) (l : Lease) → IsGuarding ns rs l → IsGuarding ns ts l
  alike-IsGuarding ns l h = alike_names (place_of l.namespace ns) l.names h

  -- a chain stands in both, or in neither
  pub alike-is_chain : (n place : ℕ) (p : Bytes) → is_some (chain_from n ts place p) ≡ is_some (chain_from n rs place p)
  alike-is_chain n place p = some_of (λ us. chain_from n us place p) (map bare) (λ us. chain_from-bare n us place p)

  pub alike-chain : (n place : ℕ) (p : Bytes) → IsSome (chain_from n rs place p) → IsSome (chain_from n ts place p)
  alike-chain n place p some = alike-is_chain n place p ∙ some

  pub alike-some_chain : (most : ℕ) (r : Record) → IsSome (chain most rs r) → IsSome (chain most ts r)
  alike-some_chain most r some = alike-chain most r.namespace r.parent some

  pub alike-layers_of : layers_of ts ≡ layers_of rs
  alike-layers_of = same_of layers_of layers_of-bare

  pub alike-ids_of : ids_of ts ≡ ids_of rs
  alike-ids_of = same_of ids_of ids_of-bare

  pub alike-charge_of : (place : ℕ) → charge_of place ts ≡ charge_of place rs
  alike-charge_of place = same_of (charge_of place) (charge_of-bare place)

  pub alike-open_count : open_count ts ≡ open_count rs
  alike-open_count = same_of open_count open_count-bare

  pub alike-charge_at : (slot : ℕ) → charge_at slot ts ≡ charge_at slot rs
  alike-charge_at slot = same_of (charge_at slot) (charge_at-bare slot)

-- ---- the ancestors of a snapshot, in two lists that are alike

module _ (rs ts : List Record) (alike : AreAlike rs ts) (place : ℕ) (p : Bytes) where
  -- they are alike
  pub alike-ancestors : AreAlike (ancestors place p rs) (ancestors place p ts)
  alike-ancestors = sym (or_none (chain_from most_ancestors rs place p)) ∙ ap (λ o. unwrap_or o []) both ∙ or_none (chain_from most_ancestors ts place p)
    where
      or_none : (o : Option (List Record)) → unwrap_or (option_map (map bare) o) [] ≡ map bare (unwrap_or o [])
      or_none None = refl
      or_none (Some l) = refl

      both : option_map (map bare) (chain_from most_ancestors rs place p) ≡ option_map (map bare) (chain_from most_ancestors ts place p)
      both = sym (chain_from-bare most_ancestors rs place p) ∙ ap (λ us. chain_from most_ancestors us place p) alike ∙ chain_from-bare most_ancestors ts place p

  -- and have the same layers and the same ids
  pub alike-layers : layers_of (ancestors place p ts) ≡ layers_of (ancestors place p rs)
  alike-layers = alike-layers_of (ancestors place p rs) (ancestors place p ts) alike-ancestors

  pub alike-ids : ids_of (ancestors place p ts) ≡ ids_of (ancestors place p rs)
  alike-ids = alike-ids_of (ancestors place p rs) (ancestors place p ts) alike-ancestors
