-- What is kept beside the state, after a change of one slot and one namespace.
use Rattle.std.proofs.Common.{◌≡◌, ◌≢◌, ℕ, zero, suc, ◌<◌, ◌≤◌, List, [], ◌∷◌, length, set, true, false, Some, None, eqb, sym, refl, ap, ◌∙◌, subst, ⊎_elim, arith}
use Rattle.std.specs.Prelude.{Option, slice_get}
use Rattle.std.proofs.lemmas.Bool.Decides.{eqb_tells, nat_tests}
use Rattle.std.proofs.lemmas.List.{length-set}
use Rattle.snap_usage.specs.declared.usage.Usage.{Usage}
use Rattle.snap_usage.specs.Counted.{Covers, covers}
use Rattle.snap_ledger.specs.States.{ChargeState, free_charge}
use Rattle.snap_call.specs.declared.config.Namespace.{Namespace}
use Rattle.snap_call.specs.declared.state.State.{State}
use Rattle.snap_call.specs.Forms.{is_limit}
use Rattle.snap_call.specs.Good.{Good}
use Rattle.snap_call.specs.Records.{charge_of, charge_at, open_count, active_at, is_slot, recharged, without_slot, with_record, committed_as, max_slots}
use Rattle.snap_call.specs.State.{limit_at}
use Rattle.snap_call.proofs.Sums.{charge_of-recharged_own, charge_of-recharged_other, charge_of-without_own, charge_of-without_other, charge_of-committed_own, charge_of-committed_other, charge_of-with_record_own, charge_of-with_record_other}
use Rattle.std.specs.Prelude.{nat_le, ◌&&◌, ◌^◌}
use Rattle.std.proofs.lemmas.Bool.{and_parts, le-leb}
use Rattle.snap_call.specs.Step.{fits_limit}
use Rattle.snap_call.proofs.Sums.{charge_of-covers, charge_with}
use Rattle.snap_call.proofs.Keeping.{covers-Covers, placed_below}
use Rattle.snap_call.proofs.Lists.{active_at-all}
use Rattle.snap_call.proofs.Slots.{is_slot-other, charge_at-Some, charge_at-recharged_own, charge_at-recharged_other, charge_at-without_slot_own, charge_at-without_slot_other, charge_at-committed_own, charge_at-committed_other, charge_at-with_record_own, charge_at-with_record_other}
use Rattle.snap_layer.specs.Tree.{Tree}
use Rattle.snap_usage.specs.Counted.{count_of}
use Rattle.snap_ledger.specs.States.{plus, minus}
use Rattle.snap_record.specs.Labels.{Bytes, Label}
use Rattle.snap_record.specs.Records.{usage_of}
use Rattle.snap_record.specs.declared.record.Record.{Record}
use Rattle.snap_accounts.specs.Slots.{charge_in}
use Rattle.snap_accounts.specs.Accounts.{AreAccounts}
use Rattle.snap_accounts.specs.Totals.{total_at}
use Rattle.snap_accounts.proofs.Rows.{slice_get-found}

pub slice_get-set_same : {A : Type 0} → (xs : List A) (i : ℕ) (x y : A) → slice_get xs i ≡ Some y → slice_get (set xs i x) i ≡ Some x
slice_get-set_same [] i x y e = cc
slice_get-set_same (z ∷ xs) zero x y e = refl
slice_get-set_same (z ∷ xs) (suc i) x y e = slice_get-set_same xs i x y e

pub slice_get-set_other : {A : Type 0} → (xs : List A) (i j : ℕ) (x : A) → j ≢ i → slice_get (set xs i x) j ≡ slice_get xs j
slice_get-set_other [] i j x ne = refl
slice_get-set_other (z ∷ xs) zero zero x ne = absurd (ne refl)
slice_get-set_other (z ∷ xs) zero (suc j) x ne = refl
slice_get-set_other (z ∷ xs) (suc i) zero x ne = refl
slice_get-set_other (z ∷ xs) (suc i) (suc j) x ne = slice_get-set_other xs i j x (λ e. ne (ap suc e))

-- a total is the charge of its namespace, which the limit covers
pub total-is : (s : State) (us : List Usage) (cs : List ChargeState) (n place : ℕ) → AreAccounts s us cs n → place < length s.namespaces → total_at place us ≡ charge_of place s.records
total-is s us cs n place accounts lt = slice_get-found us place (charge_of place s.records) _ (accounts.totals_are place lt)

pub total-place : (s : State) (us : List Usage) (cs : List ChargeState) (n place : ℕ) → AreAccounts s us cs n → place < length s.namespaces → place < length us
total-place s us cs n place accounts lt = let e = accounts.count in omega arith

-- a total that is set is the charge of its namespace, and the others are those of theirs
total_set : (us : List Usage) (place : ℕ) (to was : Usage) (before after : ℕ → Usage) → slice_get us place ≡ Some was → after place ≡ to → ((k : ℕ) → k ≢ place → after k ≡ before k)
    → (k : ℕ) → (k ≢ place → slice_get us k ≡ Some (before k)) → slice_get (set us place to) k ≡ Some (after k)
total_set us place to was before after there here elsewhere k at =
    ⊎_elim
    (λ (h : (eqb k place ≡ true) × (k ≡ place)).
    let P : ℕ → Type 0 = λ j. slice_get (set us place to) j ≡ Some (after j) in
    subst P (sym h.1) (slice_get-set_same us place to was there ∙ ap (λ (u : Usage). Some u) (sym here)))
    (λ (h : (eqb k place ≡ false) × (k ≢ place)).
    slice_get-set_other us place k to h.1 ∙ (at h.1 ∙ ap (λ (u : Usage). Some u) (sym (elsewhere k h.1))))
    (eqb_tells k place)

-- after a change of one namespace's charge and one slot's
pub accounts_changed : (s t : State) (us vs : List Usage) (cs ds : List ChargeState) (n m place slot : ℕ) (to : Usage) (c : ChargeState)
    → AreAccounts s us cs n → Good t → t.namespaces ≡ s.namespaces → place < length s.namespaces → slot < max_slots
    → charge_of place t.records ≡ to → ((k : ℕ) → k ≢ place → charge_of k t.records ≡ charge_of k s.records)
    → charge_at slot t.records ≡ c → ((k : ℕ) → k ≢ slot → charge_at k t.records ≡ charge_at k s.records)
    → m ≡ open_count t.records → vs ≡ set us place to → ds ≡ set cs slot c
    → AreAccounts t vs ds m
accounts_changed s t us vs cs ds n m place slot to c accounts good spaces inside low here elsewhere taken others opened is_vs is_ds = record {
  good = good;
  count = ap length is_vs ∙ (length-set us place to ∙ (accounts.count ∙ sym (ap (λ (l : List Namespace). length l) spaces)));
  totals_are = λ k lt.
      ap (λ (l : List Usage). slice_get l k) is_vs
      ∙ total_set us place to (charge_of place s.records) (λ j. charge_of j s.records) (λ j. charge_of j t.records) (accounts.totals_are place inside) here elsewhere
      k (λ ne. accounts.totals_are k (let e = ap (λ (l : List Namespace). length l) spaces in omega arith));
  charges_are = λ k lt.
      ap (λ (l : List ChargeState). slice_get l k) is_ds
      ∙ ⊎_elim
      (λ (h : (eqb k slot ≡ true) × (k ≡ slot)).
      let P : ℕ → Type 0 = λ j. slice_get (set cs slot c) j ≡ Some (charge_at j t.records) in
      subst P (sym h.1) (slice_get-set_same cs slot c (charge_at slot s.records) (accounts.charges_are slot low) ∙ ap (λ (x : ChargeState). Some x) (sym taken)))
      (λ (h : (eqb k slot ≡ false) × (k ≢ slot)).
      slice_get-set_other cs slot k c h.1 ∙ (accounts.charges_are k lt ∙ ap (λ (x : ChargeState). Some x) (sym (others k h.1))))
      (eqb_tells k slot);
  open_are = opened;
}

-- after a change of one namespace's charge alone
pub accounts_total : (s t : State) (us vs : List Usage) (cs : List ChargeState) (n place : ℕ) (to : Usage)
    → AreAccounts s us cs n → Good t → t.namespaces ≡ s.namespaces → place < length s.namespaces
    → charge_of place t.records ≡ to → ((k : ℕ) → k ≢ place → charge_of k t.records ≡ charge_of k s.records)
    → ((k : ℕ) → charge_at k t.records ≡ charge_at k s.records) → open_count t.records ≡ open_count s.records → vs ≡ set us place to
    → AreAccounts t vs cs n
accounts_total s t us vs cs n place to accounts good spaces inside here elsewhere charges opened is_vs = record {
  good = good;
  count = ap length is_vs ∙ (length-set us place to ∙ (accounts.count ∙ sym (ap (λ (l : List Namespace). length l) spaces)));
  totals_are = λ k lt.
      ap (λ (l : List Usage). slice_get l k) is_vs
      ∙ total_set us place to (charge_of place s.records) (λ j. charge_of j s.records) (λ j. charge_of j t.records) (accounts.totals_are place inside) here elsewhere
      k (λ ne. accounts.totals_are k (let e = ap (λ (l : List Namespace). length l) spaces in omega arith));
  charges_are = λ k lt. accounts.charges_are k lt ∙ ap (λ (c : ChargeState). Some c) (sym (charges k));
  open_are = accounts.open_are ∙ sym opened;
}

-- nothing that is charged changes
pub accounts_kept : (s t : State) (us : List Usage) (cs : List ChargeState) (n : ℕ) → AreAccounts s us cs n → Good t → length t.namespaces ≡ length s.namespaces
    → ((k : ℕ) → charge_of k t.records ≡ charge_of k s.records) → ((k : ℕ) → charge_at k t.records ≡ charge_at k s.records) → open_count t.records ≡ open_count s.records → AreAccounts t us cs n
accounts_kept s t us cs n accounts good spaces totals charges opened = record {
  good = good;
  count = accounts.count ∙ sym spaces;
  totals_are = λ k lt. (let lt' : k < length s.namespaces = omega (arith, spaces) in accounts.totals_are k lt' ∙ ap (λ (u : Usage). Some u) (sym (totals k)));
  charges_are = λ k lt. accounts.charges_are k lt ∙ ap (λ (c : ChargeState). Some c) (sym (charges k));
  open_are = accounts.open_are ∙ sym opened;
}

-- nothing but the numbers of entries and sessions changes
pub accounts_same : (s t : State) (us : List Usage) (cs : List ChargeState) (n : ℕ) → AreAccounts s us cs n → Good t → t.namespaces ≡ s.namespaces → t.records ≡ s.records → AreAccounts t us cs n
accounts_same s t us cs n accounts good spaces same = accounts_kept s t us cs n accounts good (ap (λ (l : List Namespace). length l) spaces) (λ k. ap (charge_of k) same) (λ k. ap (charge_at k) same) (ap open_count same)

-- the charge of a slot, in the row and in the records
pub charge_in-at : (s : State) (us : List Usage) (cs : List ChargeState) (n slot : ℕ) → AreAccounts s us cs n → slot < max_slots → charge_in cs slot ≡ charge_at slot s.records
charge_in-at s us cs n slot accounts low = slice_get-found cs slot (charge_at slot s.records) (free_charge slot) (accounts.charges_are slot low)

-- the namespace of an open snapshot is one of the store's
pub place-of : (s : State) (slot : ℕ) (r : Record) → Good s → active_at slot s.records ≡ Some r → r.namespace < length s.namespaces
place-of s slot r good e = active_at-all (λ (t : Record). t.namespace < length s.namespaces) slot s.records r e (placed_below s good)

-- a slot is charged `to`
pub accounts_recharged : (s t : State) (us vs : List Usage) (cs ds : List ChargeState) (n slot : ℕ) (to : Usage) (r : Record)
    → AreAccounts s us cs n → Good t → active_at slot s.records ≡ Some r → slot < max_slots → t.namespaces ≡ s.namespaces → t.records ≡ recharged slot to s.records → open_count t.records ≡ open_count s.records
    → vs ≡ set us r.namespace (charge_with r to s.records) → ds ≡ set cs slot (record (charge_in cs slot) { usage = to }) → AreAccounts t vs ds n
accounts_recharged s t us vs cs ds n slot to r accounts good e low spaces is count is_vs is_ds =
    let old : charge_in cs slot ≡ record { slot = slot; id = r.id; usage = usage_of r.content; issued = true } = charge_in-at s us cs n slot accounts low ∙ charge_at-Some slot s.records r e in
    accounts_changed s t us vs cs ds n n r.namespace slot (charge_with r to s.records) (record { slot = slot; id = r.id; usage = to; issued = true }) accounts good spaces
    (place-of s slot r accounts.good e) low
    (ap (charge_of r.namespace) is ∙ charge_of-recharged_own slot to s.records r e)
    (λ k ne. ap (charge_of k) is ∙ charge_of-recharged_other k slot to s.records r e ne)
    (ap (charge_at slot) is ∙ charge_at-recharged_own slot to s.records r e)
    (λ k ne. ap (charge_at k) is ∙ charge_at-recharged_other slot k to s.records ne)
    (accounts.open_are ∙ sym count)
    is_vs
    (is_ds ∙ ap (λ (c : ChargeState). set cs slot (record c { usage = to })) old)

-- a slot is free again, and its snapshot gone
pub accounts_freed : (s t : State) (us vs : List Usage) (cs ds : List ChargeState) (n m slot : ℕ) (r : Record)
    → AreAccounts s us cs n → Good t → active_at slot s.records ≡ Some r → slot < max_slots → t.namespaces ≡ s.namespaces → t.records ≡ without_slot slot s.records → m ≡ open_count t.records
    → vs ≡ set us r.namespace (minus (charge_of r.namespace s.records) (usage_of r.content)) → ds ≡ set cs slot (free_charge slot) → AreAccounts t vs ds m
accounts_freed s t us vs cs ds n m slot r accounts good e low spaces is count is_vs is_ds =
    accounts_changed s t us vs cs ds n m r.namespace slot (minus (charge_of r.namespace s.records) (usage_of r.content)) (free_charge slot) accounts good spaces
    (place-of s slot r accounts.good e) low
    (ap (charge_of r.namespace) is ∙ charge_of-without_own (is_slot slot) s.records r e)
    (λ k ne. ap (charge_of k) is ∙ charge_of-without_other k (is_slot slot) s.records r e ne)
    (ap (charge_at slot) is ∙ charge_at-without_slot_own slot s.records accounts.good.slots)
    (λ k ne. ap (charge_at k) is ∙ charge_at-without_slot_other slot k s.records ne)
    count is_vs is_ds

-- a slot is free again, and its snapshot committed
pub accounts_committed : (s t : State) (us vs : List Usage) (cs ds : List ChargeState) (n m slot number : ℕ) (name : Bytes) (labels : Option (List Label)) (layer : Tree) (r : Record)
    → AreAccounts s us cs n → Good t → active_at slot s.records ≡ Some r → slot < max_slots → t.namespaces ≡ s.namespaces → t.records ≡ with_record (committed_as name labels layer number r) (without_slot slot s.records) → m ≡ open_count t.records
    → vs ≡ set us r.namespace (charge_with r (count_of layer) s.records) → ds ≡ set cs slot (free_charge slot) → AreAccounts t vs ds m
accounts_committed s t us vs cs ds n m slot number name labels layer r accounts good e low spaces is count is_vs is_ds =
    accounts_changed s t us vs cs ds n m r.namespace slot (charge_with r (count_of layer) s.records) (free_charge slot) accounts good spaces
    (place-of s slot r accounts.good e) low
    (ap (charge_of r.namespace) is ∙ charge_of-committed_own slot name labels layer number s.records r e)
    (λ k ne. ap (charge_of k) is ∙ charge_of-committed_other k slot name labels layer number s.records r e ne)
    (ap (charge_at slot) is ∙ charge_at-committed_own slot name labels layer number s.records r accounts.good.slots)
    (λ k ne. ap (charge_at k) is ∙ charge_at-committed_other slot k name labels layer number s.records r ne)
    count is_vs is_ds

-- a free slot is taken by a new snapshot
pub accounts_added : (s t : State) (us vs : List Usage) (cs ds : List ChargeState) (n m slot : ℕ) (r : Record)
    → AreAccounts s us cs n → Good t → active_at slot s.records ≡ None → is_slot slot r ≡ true → slot < max_slots → r.namespace < length s.namespaces → t.namespaces ≡ s.namespaces → t.records ≡ with_record r s.records → m ≡ open_count t.records
    → vs ≡ set us r.namespace (plus (charge_of r.namespace s.records) (usage_of r.content)) → ds ≡ set cs slot (record { slot = slot; id = r.id; usage = usage_of r.content; issued = true }) → AreAccounts t vs ds m
accounts_added s t us vs cs ds n m slot r accounts good none own low inside spaces is count is_vs is_ds =
    accounts_changed s t us vs cs ds n m r.namespace slot (plus (charge_of r.namespace s.records) (usage_of r.content)) (record { slot = slot; id = r.id; usage = usage_of r.content; issued = true }) accounts good spaces
    inside low
    (ap (charge_of r.namespace) is ∙ charge_of-with_record_own r s.records)
    (λ k ne. ap (charge_of k) is ∙ charge_of-with_record_other k r s.records ne)
    (ap (charge_at slot) is ∙ charge_at-with_record_own slot r s.records own none)
    (λ k ne. ap (charge_at k) is ∙ charge_at-with_record_other k r s.records (is_slot-other slot k r ne own))
    count is_vs is_ds

-- a namespace's charge covers that of each of its open slots
pub found-covers : (s : State) (slot : ℕ) (r : Record) → active_at slot s.records ≡ Some r → Covers (charge_of r.namespace s.records) (charge_at slot s.records).usage
found-covers s slot r e = subst (λ (u : Usage). Covers (charge_of r.namespace s.records) u) (sym (ap (λ (c : ChargeState). c.usage) (charge_at-Some slot s.records r e))) (charge_of-covers (is_slot slot) s.records r e)

covers-true : (a b : Usage) → b.blocks ≤ a.blocks → b.inodes ≤ a.inodes → covers a b ≡ true
covers-true a b h k = (λ i. le-leb b.blocks a.blocks h i && nat_le b.inodes a.inodes) ∙ le-leb b.inodes a.inodes k

-- less than what is held fits where that fits
pub fits_less : (s : State) (place : ℕ) (held to : Usage) → Covers (limit_at place s.namespaces) (charge_of place s.records) → Covers (charge_of place s.records) held → Covers held to → fits_limit s place held to ≡ true
fits_less s place held to limit total less =
    covers-true (limit_at place s.namespaces) (plus (minus (charge_of place s.records) held) to)
    (omega (arith, limit.blocks, total.blocks, less.blocks)) (omega (arith, limit.inodes, total.inodes, less.inodes))

few : (n m : ℕ) → nat_le n 1099511627776 ≡ true → m ≤ n → m < 2 ^ 64
few n m low le = let most : n ≤ 1099511627776 = grind (arith, nat_tests) in omega (arith, most, le)

-- what a limit covers has room in its numbers
pub few-within : (limit u : Usage) → is_limit limit ≡ true → Covers limit u → (u.blocks < 2 ^ 64) × (u.inodes < 2 ^ 64)
few-within limit u formed within =
    let low = and_parts (nat_le limit.blocks 1099511627776) (nat_le limit.inodes 1099511627776) formed in
    (few limit.blocks u.blocks low.0 within.blocks, few limit.inodes u.inodes low.1 within.inodes)

pub few-covered : (limit u : Usage) → is_limit limit ≡ true → covers limit u ≡ true → (u.blocks < 2 ^ 64) × (u.inodes < 2 ^ 64)
few-covered limit u formed fits = few-within limit u formed (covers-Covers limit u fits)
