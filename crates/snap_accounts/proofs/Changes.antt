-- What is kept beside the state, after a plain call.
use Rattle.std.proofs.Common.{◌≡◌, ◌≢◌, ℕ, zero, suc, ◌+◌, ◌<◌, ◌≤◌, Bool, true, false, true≢false, List, [], ◌∷◌, ◌++◌, length, length-append, take, inl, inr, set, Option, None, Some, IsSome, refl, sym, ap, ◌∙◌, subst, arith}
use Rattle.std.specs.Prelude.{◌==◌, ◌↔◌, slice_get, bytes_eq, if◌then◌else◌, IsSomeAnd, IsErrOf, IsOk, IsOkUnless, IsTrue, OnOk, Result, Ok, Err}
use Rattle.std.specs.Option.{option_map_or}
use Rattle.std.proofs.lemmas.Bool.{and_parts, cases_lt, eqb-true}
use lib.Seq.{length-take-le}
use Rattle.snap_layer.specs.Tree.{Tree}
use Rattle.snap_usage.specs.declared.usage.Usage.{Usage}
use Rattle.snap_usage.specs.Counted.{Covers, no_usage}
use Rattle.snap_ledger.specs.States.{ChargeState, plus, minus}
use Rattle.snap_lease.specs.Lease.{Lease, empty_lease}
use Rattle.snap_lease.specs.Leases.{has_lease, with_name_added, with_name_dropped, without_lease}
use Rattle.snap_lease.specs.declared.error.LeaseError.{LeaseError}
use Rattle.snap_lease.specs.declared.error.LeaseError.TheVariants as errors
use Rattle.snap_lease.specs.declared.error.LeaseNameError.{LeaseNameError}
use Rattle.snap_record.specs.Labels.{Bytes, Label, are_labels}
use Rattle.snap_record.specs.Records.{usage_of}
use Rattle.snap_record.specs.declared.record.Content.TheVariants.{View}
use Rattle.snap_record.specs.declared.record.Record.{Record}
use Rattle.snap_call.specs.declared.config.Namespace.{Namespace}
use Rattle.snap_call.specs.declared.state.State.{State}
use Rattle.snap_call.specs.Forms.{is_key}
use Rattle.snap_call.specs.Good.{Good, IsFormed}
use Rattle.snap_call.specs.Records.{charge_of, charge_at, committed_at, has_slot, is_active, is_named, open_count, record_at, with_record, without_key, relabelled}
use Rattle.snap_call.specs.State.{place_of, shown_layers, with_namespace, without_namespace}
use Rattle.snap_call.specs.Step.{added, leasing, spacing, removed_at, relabelled_at}
use Rattle.snap_call.proofs.Alike.{bare-relabelled, alike-charge_of, alike-charge_at, alike-open_count}
use Rattle.snap_call.proofs.Counts.{open_count-with_record, open_count-without_idle}
use Rattle.snap_call.proofs.Keeping.{good_relabelled, good_removed, good_view_added, place_of-below, placed_below, removed_others, removed_total}
use Rattle.snap_call.proofs.Leasing.{good_created, good_dropped, good_limited, good_named, good_released, length-limited}
use Rattle.snap_call.proofs.Lists.{all-map, record_at-is_named, active_one}
use Rattle.snap_call.proofs.Naming.{length-with, length-without_namespace}
use Rattle.snap_call.proofs.Spacing.{good_namespace, good_removed_namespace}
use Rattle.snap_call.proofs.Slots.{charge_at-with_record_other, charge_at-without_idle}
use Rattle.snap_call.proofs.Sums.{plus-none, charge_of-covers, charge_of-elsewhere, charge_of-with_record}
use Rattle.snap_accounts.specs.Accounts.{AreAccounts}
use Rattle.snap_accounts.specs.Changes.{IsEmptySpace, IsLimitFor, IsNewSpace, IsLeaseName, IsNewView, IsSpace, IsUnused}
use Rattle.snap_accounts.proofs.Accounting.{accounts_kept, accounts_total}
use Rattle.snap_call.proofs.Parts.{limited_at}

-- ---- one more view

module _ (r : Record) (layers : List Tree) (is : r.content ≡ View layers) where
  -- no namespace is charged for it
  none_of : (place : ℕ) (own : Bool) → (if own then usage_of r.content else no_usage) ≡ no_usage
  none_of place true = ap usage_of is
  none_of place false = refl

  charge_of-view : (place : ℕ) (rs : List Record) → charge_of place (with_record r rs) ≡ charge_of place rs
  charge_of-view place rs = charge_of-with_record place r rs ∙ (ap (plus (charge_of place rs)) (none_of place (r.namespace == place)) ∙ plus-none (charge_of place rs))

  charge_at-view : (slot : ℕ) (rs : List Record) → charge_at slot (with_record r rs) ≡ charge_at slot rs
  charge_at-view slot rs = charge_at-with_record_other slot r rs (ap (has_slot slot) is)

  pub open_count-view : (rs : List Record) → open_count (with_record r rs) ≡ open_count rs
  open_count-view rs = let none : active_one r.content ≡ 0 = ap active_one is in open_count-with_record r rs ∙ omega (arith, none)

pub accounts_viewed : (s : State) (us : List Usage) (cs : List ChargeState) (n : ℕ) (r : Record) → AreAccounts s us cs n → IsNewView s r → AreAccounts (added s r) us cs n
accounts_viewed s us cs n r accounts new =
    let layers : List Tree = shown_layers r.namespace r.parent s.records in
    let formed : IsFormed (s.entries + 1) r = record { texts = new.site.texts; above = omega (arith, accounts.good.fewer, new.id); known = new.known } in
    accounts_kept s (added s r) us cs n accounts
    (good_view_added s r accounts.good new.view new.id formed new.site.taken new.site.new new.site.base new.site.deep)
    refl
    (λ k. charge_of-view r layers new.view k s.records)
    (λ k. charge_at-view r layers new.view k s.records)
    (open_count-view r layers new.view s.records)

-- ---- other labels

pub accounts_relabelled : (s : State) (us : List Usage) (cs : List ChargeState) (n place : ℕ) (key : Bytes) (labels : List Label) → AreAccounts s us cs n → are_labels labels ≡ true → AreAccounts (relabelled_at s place key labels) us cs n
accounts_relabelled s us cs n place key labels accounts formed =
    let rs = s.records in
    let ts = relabelled place key labels (s.entries + 1) rs in
    let alike = bare-relabelled place key labels (s.entries + 1) rs in
    accounts_kept s (relabelled_at s place key labels) us cs n accounts (good_relabelled s place key labels accounts.good formed) refl
    (λ k. alike-charge_of rs ts alike k)
    (λ k. alike-charge_at rs ts alike k)
    (alike-open_count rs ts alike)

-- ---- one snapshot fewer

-- its record
pub found_unused : (s : State) (place : ℕ) (key : Bytes) → IsUnused s place key → (r : Record) × (record_at place key s.records ≡ Some r) × (is_active r.content ≡ false)
found_unused s place key unused = by (record_at place key s.records) refl unused.idle
  where
    by : (o : Option Record) → record_at place key s.records ≡ o → IsSomeAnd o (λ r. is_active r.content ≡ false) → (r : Record) × (record_at place key s.records ≡ Some r) × (is_active r.content ≡ false)
    by None e h = absurd h
    by (Some r) e h = (r, e, h)

-- what it is charged is what is freed, and its namespace's charge covers it
pub freed-found : (s : State) (place : ℕ) (key : Bytes) (unused : IsUnused s place key) → option_map_or (λ r. usage_of r.content) (record_at place key s.records) no_usage ≡ usage_of (found_unused s place key unused).0.content
freed-found s place key unused = ap (λ o. option_map_or (λ r. usage_of r.content) o no_usage) (found_unused s place key unused).1

pub freed-covered : (s : State) (place : ℕ) (key : Bytes) → IsUnused s place key → Covers (charge_of place s.records) (option_map_or (λ r. usage_of r.content) (record_at place key s.records) no_usage)
freed-covered s place key unused =
    let f = found_unused s place key unused in
    let at : f.0.namespace ≡ place = eqb-true f.0.namespace place (and_parts (f.0.namespace == place) (bytes_eq f.0.key key) (record_at-is_named place key s.records f.0 f.1)).0 in
    subst (λ (u : Usage). Covers (charge_of place s.records) u) (sym (freed-found s place key unused))
    (subst (λ (n : ℕ). Covers (charge_of n s.records) (usage_of f.0.content)) at (charge_of-covers (is_named place key) s.records f.0 f.1))

pub open_count-removed : (s : State) (place : ℕ) (key : Bytes) → IsUnused s place key → open_count (without_key place key s.records) ≡ open_count s.records
open_count-removed s place key unused = let f = found_unused s place key unused in open_count-without_idle (is_named place key) s.records f.0 f.1 f.2

-- its namespace is one of the store's
pub unused-place : (s : State) (place : ℕ) (key : Bytes) → IsUnused s place key → place < length s.namespaces
unused-place s place key unused = place_of-below unused.namespace s.namespaces place unused.named

pub accounts_removed : (s : State) (us vs : List Usage) (cs : List ChargeState) (n place : ℕ) (key : Bytes) → AreAccounts s us cs n → IsUnused s place key
    → vs ≡ set us place (minus (charge_of place s.records) (option_map_or (λ r. usage_of r.content) (record_at place key s.records) no_usage)) → AreAccounts (removed_at s place key) vs cs n
accounts_removed s us vs cs n place key accounts unused is_vs =
    let f = found_unused s place key unused in
    accounts_total s (removed_at s place key) us vs cs n place (minus (charge_of place s.records) (usage_of f.0.content)) accounts
    (good_removed s place key f.0 accounts.good f.1 unused.childless unused.namespace unused.named unused.unleased)
    refl
    (unused-place s place key unused)
    (removed_total s place key f.0 accounts.good f.1 unused.childless)
    (removed_others s place key f.0 accounts.good f.1 unused.childless)
    (λ k. charge_at-without_idle k (is_named place key) s.records f.0 f.1 f.2)
    (open_count-removed s place key unused)
    (is_vs ∙ ap (λ u. set us place (minus (charge_of place s.records) u)) (freed-found s place key unused))

-- ---- one more namespace, and one fewer

-- the totals as far as there are places
totals_cut : (us : List Usage) (k j : ℕ) → j < k → slice_get (take k us) j ≡ slice_get us j
totals_cut [] zero j low = refl
totals_cut [] (suc k) j low = refl
totals_cut (u ∷ us) zero j low = absurd (omega (arith, low))
totals_cut (u ∷ us) (suc k) zero low = refl
totals_cut (u ∷ us) (suc k) (suc j) low = totals_cut us k j (omega (arith, low))

total_before : (us : List Usage) (u : Usage) (j : ℕ) → j < length us → slice_get (us ++ u ∷ []) j ≡ slice_get us j
total_before [] u j low = absurd (omega (arith, low))
total_before (v ∷ us) u zero low = refl
total_before (v ∷ us) u (suc j) low = total_before us u j (omega (arith, low))

total_last : (us : List Usage) (u : Usage) (j : ℕ) → j ≡ length us → slice_get (us ++ u ∷ []) j ≡ Some u
total_last [] u zero is = refl
total_last [] u (suc j) is = absurd (omega (arith, is))
total_last (v ∷ us) u zero is = absurd (omega (arith, is))
total_last (v ∷ us) u (suc j) is = total_last us u j (omega (arith, is))

pub accounts_spaced : (s : State) (us vs : List Usage) (cs : List ChargeState) (n : ℕ) (m : Namespace) → AreAccounts s us cs n → IsNewSpace s m → vs ≡ take (length (with_namespace m s.namespaces)) (us ++ no_usage ∷ []) → AreAccounts (spacing s (with_namespace m s.namespaces)) vs cs n
accounts_spaced s us vs cs n m accounts new is_vs = record {
  good = good_namespace s m accounts.good new.0 new.1 new.2;
  count = ap length is_vs ∙ length-take-le count (us ++ no_usage ∷ []) (let all = length-append us (no_usage ∷ []) in let same = accounts.count in let most = lengths.1 in omega (arith, all, same, most));
  totals_are = λ place lt. ap (λ (l : List Usage). slice_get l place) is_vs ∙ totals_cut (us ++ no_usage ∷ []) count place lt ∙ total_at place lt;
  charges_are = accounts.charges_are;
  open_are = accounts.open_are;
}
  where
    count : ℕ
    count = length (with_namespace m s.namespaces)

    lengths : (length s.namespaces ≤ count) × (count ≤ length s.namespaces + 1)
    lengths = length-with m s.namespaces

    total_at : (place : ℕ) → place < count → slice_get (us ++ no_usage ∷ []) place ≡ Some (charge_of place s.records)
    total_at place lt = elim (cases_lt place (length s.namespaces)) [
      | inl low ↦ (let low' : place < length us = (let same = accounts.count in omega (arith, low, same)) in total_before us no_usage place low' ∙ accounts.totals_are place low)
      | inr high ↦ (let last : place ≡ length us = (let same = accounts.count in let most = lengths.1 in omega (arith, lt, high, same, most)) in
          total_last us no_usage place last ∙ ap Some (sym (charge_of-elsewhere place s.records (all-map (λ r. r.namespace < length s.namespaces) (λ r. place ≢ r.namespace) (λ r low same. omega (arith, low, same, high)) s.records (placed_below s accounts.good)))))
    ]

pub accounts_unspaced : (s : State) (us : List Usage) (cs : List ChargeState) (n place : ℕ) → AreAccounts s us cs n → IsEmptySpace s place → AreAccounts (spacing s (without_namespace place s.namespaces)) us cs n
accounts_unspaced s us cs n place accounts is =
    accounts_kept s (spacing s (without_namespace place s.namespaces)) us cs n accounts (good_removed_namespace s is.namespace place accounts.good is.named is.empty)
    (length-without_namespace place s.namespaces) (λ k. refl) (λ k. refl) refl

-- ---- another limit

pub accounts_limited : (s : State) (us : List Usage) (cs : List ChargeState) (n place : ℕ) (m : Namespace) → AreAccounts s us cs n → IsLimitFor s place m → AreAccounts (limited_at s place m.limit) us cs n
accounts_limited s us cs n place m accounts is =
    accounts_kept s (limited_at s place m.limit) us cs n accounts (good_limited m.limit s place accounts.good is.taken is.formed is.covers)
    (length-limited m.limit place s.namespaces) (λ k. refl) (λ k. refl) refl

-- ---- other leases

leases_kept : (s : State) (us : List Usage) (cs : List ChargeState) (n : ℕ) (ls : List Lease) → AreAccounts s us cs n → Good (leasing s ls) → AreAccounts (leasing s ls) us cs n
leases_kept s us cs n ls accounts good = accounts_kept s (leasing s ls) us cs n accounts good refl (λ k. refl) (λ k. refl) refl

pub accounts_created : (s : State) (us : List Usage) (cs : List ChargeState) (n : ℕ) (namespace lease : Bytes) (until : Option ℕ) → AreAccounts s us cs n → IsSpace s namespace → is_key lease ≡ true → has_lease s.leases namespace lease ≡ false → AreAccounts (leasing s (s.leases ++ empty_lease namespace lease until ∷ [])) us cs n
accounts_created s us cs n namespace lease until accounts space formed new = by (place_of namespace s.namespaces) refl space
  where
    by : (o : Option ℕ) → place_of namespace s.namespaces ≡ o → IsSome o → AreAccounts (leasing s (s.leases ++ empty_lease namespace lease until ∷ [])) us cs n
    by None e is = absurd (true≢false (sym is))
    by (Some place) e is = leases_kept s us cs n _ accounts (good_created s namespace lease until place accounts.good e formed new)

pub accounts_named : (s : State) (us : List Usage) (cs : List ChargeState) (n : ℕ) (namespace lease name : Bytes) → AreAccounts s us cs n → IsLeaseName s namespace lease name → AreAccounts (leasing s (with_name_added s.leases namespace lease name)) us cs n
accounts_named s us cs n namespace lease name accounts is = by (place_of namespace s.namespaces) refl is.committed
  where
    by : (o : Option ℕ) → place_of namespace s.namespaces ≡ o → IsSomeAnd o (λ place. IsSome (committed_at place name s.records)) → AreAccounts (leasing s (with_name_added s.leases namespace lease name)) us cs n
    by None e h = absurd h
    by (Some place) e h = leases_kept s us cs n _ accounts (good_named s namespace lease name place accounts.good e h)

pub accounts_dropped : (s : State) (us : List Usage) (cs : List ChargeState) (n : ℕ) (namespace lease name : Bytes) → AreAccounts s us cs n → AreAccounts (leasing s (with_name_dropped s.leases namespace lease name)) us cs n
accounts_dropped s us cs n namespace lease name accounts = leases_kept s us cs n _ accounts (good_dropped s namespace lease name accounts.good)

-- a name that a lease has is taken out of it
pub dropped-ok : (r : Result (Unit {0}) LeaseNameError) (P : Type 0) (has : Bool) → has ≡ true → (IsOk r ↔ IsTrue has) → OnOk r P → P
dropped-ok (Ok tt) P has is named ok = ok
dropped-ok (Err e) P has is named ok = absurd (true≢false (sym (named.1 is)))

pub accounts_released : (s : State) (us : List Usage) (cs : List ChargeState) (n : ℕ) (namespace lease : Bytes) → AreAccounts s us cs n → AreAccounts (leasing s (without_lease s.leases namespace lease)) us cs n
accounts_released s us cs n namespace lease accounts = leases_kept s us cs n _ accounts (good_released s namespace lease accounts.good)

-- a lease that is there is released
pub released-ok : (r : Result (Unit {0}) LeaseError) (P : Type 0) (has : Bool) → has ≡ true → (IsErrOf r errors.NoLease ↔ (has ≡ false)) → IsOkUnless r errors.NoLease → OnOk r P → P
released-ok (Ok tt) P has is none only ok = ok
released-ok (Err e) P has is none only ok = absurd (true≢false (sym is ∙ none.0 (ap (λ (x : LeaseError). Err x) only)))
