-- What is found in a slot after each change of the records.
use Rattle.std.proofs.Common.{◌≡◌, ◌≢◌, ℕ, List, [], ◌∷◌, Bool, true, false, true≢false, Some, None, eq-eqb, refl, sym, ap, ◌∙◌, ⊎_elim}
use Rattle.std.proofs.lemmas.Bool.{eqb-true}
use Rattle.std.proofs.lemmas.Bool.Decides.{eqb_tells}
use Rattle.std.specs.Prelude.{◌==◌, Option, find, filter}
use Rattle.std.specs.List.{AllByRecursion}
use Rattle.std.specs.Ordering.{is_lt}
use Rattle.snap_layer.specs.Tree.{Tree}
use Rattle.snap_usage.specs.declared.usage.Usage.{Usage}
use Rattle.snap_ledger.specs.States.{free_charge}
use Rattle.snap_record.specs.Labels.{Bytes, Label}
use Rattle.snap_record.specs.Records.{usage_of}
use Rattle.snap_record.specs.declared.record.Content.{Content}
use Rattle.snap_record.specs.declared.record.Content.TheVariants.{View, Active, Committed}
use Rattle.snap_record.specs.declared.record.Record.{Record}
use Rattle.snap_call.specs.Records.{record_cmp, has_slot, is_slot, is_active, active_at, charge_if, charge_at, with_record, without_first, without_slot, recharged, committed_as, AllPairwise, AreApart}
use Rattle.snap_call.proofs.Sums.{find-here, find-past}
use Rattle.snap_call.proofs.Lists.{active_at-is_slot, find-filter_same, find-without_other}

-- what is known of a record in a slot
has_slot-Active : (slot : ℕ) (c : Content) → has_slot slot c ≡ true → c ≡ Active slot (usage_of c)
has_slot-Active slot (View layers) e = absurd (true≢false (sym e))
has_slot-Active slot (Active s u) e = ap (λ k. Active k u) (eqb-true s slot e)
has_slot-Active slot (Committed layer u) e = absurd (true≢false (sym e))

pub is_slot-Active : (slot : ℕ) (r : Record) → is_slot slot r ≡ true → r.content ≡ Active slot (usage_of r.content)
is_slot-Active slot r e = has_slot-Active slot r.content e

pub Active-is_slot : (slot : ℕ) (u : Usage) (r : Record) → r.content ≡ Active slot u → is_slot slot r ≡ true
Active-is_slot slot u r e = ap (has_slot slot) e ∙ eq-eqb slot slot refl

-- a record is in one slot at most
has_slot-other : (slot k : ℕ) (c : Content) → k ≢ slot → has_slot slot c ≡ true → has_slot k c ≡ false
has_slot-other slot k (View layers) ne e = refl
has_slot-other slot k (Active s u) ne e = ⊎_elim (λ (h : ((s == k) ≡ true) × (s ≡ k)). absurd (ne (sym h.1 ∙ eqb-true s slot e))) (λ (h : ((s == k) ≡ false) × (s ≢ k)). h.0) (eqb_tells s k)
has_slot-other slot k (Committed layer u) ne e = refl

pub is_slot-other : (slot k : ℕ) (r : Record) → k ≢ slot → is_slot slot r ≡ true → is_slot k r ≡ false
is_slot-other slot k r ne e = has_slot-other slot k r.content ne e

pub active_at-Active : (slot : ℕ) (rs : List Record) (r : Record) → active_at slot rs ≡ Some r → r.content ≡ Active slot (usage_of r.content)
active_at-Active slot rs r e = is_slot-Active slot r (active_at-is_slot slot rs r e)

-- with_record
pub active_at-with_record_own : (slot : ℕ) (r : Record) (rs : List Record) → is_slot slot r ≡ true → active_at slot rs ≡ None → active_at slot (with_record r rs) ≡ Some r
active_at-with_record_own slot r [] is none = rw is refl
active_at-with_record_own slot r (t ∷ ts) is none = at (is_lt (record_cmp r t)) refl (is_slot slot t) refl (active_at-with_record_own slot r ts is)
  where
    at : (b : Bool) → is_lt (record_cmp r t) ≡ b → (c : Bool) → is_slot slot t ≡ c → (active_at slot ts ≡ None → active_at slot (with_record r ts) ≡ Some r) → active_at slot (with_record r (t ∷ ts)) ≡ Some r
    at true lt c here next = rw lt (rw is refl)
    at false lt true here next = let f = rw here at none in absurd (cc)
    at false lt false here next = rw lt (rw here (next (rw here at none)))

pub active_at-with_record_other : (k : ℕ) (r : Record) (rs : List Record) → is_slot k r ≡ false → active_at k (with_record r rs) ≡ active_at k rs
active_at-with_record_other k r [] is = rw is refl
active_at-with_record_other k r (t ∷ ts) is = at (is_lt (record_cmp r t)) refl (is_slot k t) refl (active_at-with_record_other k r ts is)
  where
    at : (b : Bool) → is_lt (record_cmp r t) ≡ b → (c : Bool) → is_slot k t ≡ c → active_at k (with_record r ts) ≡ active_at k ts → active_at k (with_record r (t ∷ ts)) ≡ active_at k (t ∷ ts)
    at true lt c here next = rw lt (rw is refl)
    at false lt true here next = rw lt (rw here refl)
    at false lt false here next = rw lt (rw here next)

-- a record that is in no slot of those after it, since it is in this one
free-past : (slot : ℕ) (r : Record) (rs : List Record) → is_slot slot r ≡ true → AllByRecursion (AreApart r) rs → active_at slot rs ≡ None
free-past slot r [] is apart = refl
free-past slot r (t ∷ ts) is apart = rw (apart.0 slot is) (free-past slot r ts is apart.1)

-- without_slot
pub active_at-without_slot_own : (slot : ℕ) (rs : List Record) → AllPairwise AreApart rs → active_at slot (without_slot slot rs) ≡ None
active_at-without_slot_own slot [] apart = refl
active_at-without_slot_own slot (t ∷ ts) apart = at (is_slot slot t) refl (active_at-without_slot_own slot ts apart.1)
  where
    at : (b : Bool) → is_slot slot t ≡ b → active_at slot (without_slot slot ts) ≡ None → active_at slot (without_slot slot (t ∷ ts)) ≡ None
    at true is next = rw is (free-past slot t ts is apart.0)
    at false is next = rw is (rw is next)

pub active_at-without_slot_other : (slot k : ℕ) (rs : List Record) → k ≢ slot → active_at k (without_slot slot rs) ≡ active_at k rs
active_at-without_slot_other slot k [] ne = refl
active_at-without_slot_other slot k (t ∷ ts) ne = at (is_slot slot t) refl (active_at-without_slot_other slot k ts ne)
  where
    other : (b : Bool) → is_slot k t ≡ b → active_at k (without_slot slot ts) ≡ active_at k ts → active_at k (t ∷ without_slot slot ts) ≡ active_at k (t ∷ ts)
    other true is next = rw is refl
    other false is next = rw is next

    at : (b : Bool) → is_slot slot t ≡ b → active_at k (without_slot slot ts) ≡ active_at k ts → active_at k (without_slot slot (t ∷ ts)) ≡ active_at k (t ∷ ts)
    at true is next = rw (is, is_slot-other slot k t ne is) refl
    at false is next = rw is (other (is_slot k t) refl next)

-- a record that isn't active is in no slot
idle_no_slot : (k : ℕ) (c : Content) → is_active c ≡ false → has_slot k c ≡ false
idle_no_slot k (View layers) e = refl
idle_no_slot k (Active s u) e = absurd (true≢false e)
idle_no_slot k (Committed layer u) e = refl

-- where a record goes that isn't active, all slots stay as they are
pub active_at-without_idle : (k : ℕ) (p : Record → Bool) (rs : List Record) (r : Record) → find p rs ≡ Some r → is_active r.content ≡ false → active_at k (without_first p rs) ≡ active_at k rs
active_at-without_idle k p rs r e idle = find-without_other p (is_slot k) rs r e (idle_no_slot k r.content idle)

-- and where records go that aren't active
pub active_at-filter : (k : ℕ) (keep : Record → Bool) → ((r : Record) → keep r ≡ false → is_active r.content ≡ false) → (rs : List Record) → active_at k (filter keep rs) ≡ active_at k rs
active_at-filter k keep idle rs = find-filter_same keep (is_slot k) (λ r out. idle_no_slot k r.content (idle r out)) rs

-- recharged
pub active_at-recharged_own : (slot : ℕ) (to : Usage) (rs : List Record) (r : Record) → active_at slot rs ≡ Some r → active_at slot (recharged slot to rs) ≡ Some (record r { content = Active slot to })
active_at-recharged_own slot to [] r e = absurd (cc)
active_at-recharged_own slot to (t ∷ ts) r e = at (is_slot slot t) refl (active_at-recharged_own slot to ts r)
  where
    at : (b : Bool) → is_slot slot t ≡ b → (active_at slot ts ≡ Some r → active_at slot (recharged slot to ts) ≡ Some (record r { content = Active slot to })) → active_at slot (recharged slot to (t ∷ ts)) ≡ Some (record r { content = Active slot to })
    at true is next = rw (is, eq-eqb slot slot refl) (ap (λ (x : Record). Some (record x { content = Active slot to })) (find-here (is_slot slot) t ts r is e))
    at false is next = rw is (rw is (next (find-past (is_slot slot) t ts r is e)))

pub active_at-recharged_other : (slot k : ℕ) (to : Usage) (rs : List Record) → k ≢ slot → active_at k (recharged slot to rs) ≡ active_at k rs
active_at-recharged_other slot k to [] ne = refl
active_at-recharged_other slot k to (t ∷ ts) ne = at (is_slot slot t) refl (active_at-recharged_other slot k to ts ne)
  where
    other : (b : Bool) → is_slot k t ≡ b → active_at k (recharged slot to ts) ≡ active_at k ts → active_at k (t ∷ recharged slot to ts) ≡ active_at k (t ∷ ts)
    other true is next = rw is refl
    other false is next = rw is next

    at : (b : Bool) → is_slot slot t ≡ b → active_at k (recharged slot to ts) ≡ active_at k ts → active_at k (recharged slot to (t ∷ ts)) ≡ active_at k (t ∷ ts)
    at true is next = rw (is, is_slot-other slot k t ne is, has_slot-other slot k (Active slot to) ne (eq-eqb slot slot refl)) refl
    at false is next = rw is (other (is_slot k t) refl next)

-- a commit: the committed record is in no slot
pub active_at-committed_own : (slot : ℕ) (name : Bytes) (labels : Option (List Label)) (layer : Tree) (number : ℕ) (rs : List Record) (r : Record) → AllPairwise AreApart rs → active_at slot (with_record (committed_as name labels layer number r) (without_slot slot rs)) ≡ None
active_at-committed_own slot name labels layer number rs r apart =
    active_at-with_record_other slot (committed_as name labels layer number r) (without_slot slot rs) refl ∙ active_at-without_slot_own slot rs apart

pub active_at-committed_other : (slot k : ℕ) (name : Bytes) (labels : Option (List Label)) (layer : Tree) (number : ℕ) (rs : List Record) (r : Record) → k ≢ slot → active_at k (with_record (committed_as name labels layer number r) (without_slot slot rs)) ≡ active_at k rs
active_at-committed_other slot k name labels layer number rs r ne =
    active_at-with_record_other k (committed_as name labels layer number r) (without_slot slot rs) refl ∙ active_at-without_slot_other slot k rs ne

-- the charge of a slot is that of the record that is found in it
pub charge_at-Some : (slot : ℕ) (rs : List Record) (r : Record) → active_at slot rs ≡ Some r → charge_at slot rs ≡ record { slot = slot; id = r.id; usage = usage_of r.content; issued = true }
charge_at-Some slot rs r e = ap (charge_if slot) e

pub charge_at-None : (slot : ℕ) (rs : List Record) → active_at slot rs ≡ None → charge_at slot rs ≡ free_charge slot
charge_at-None slot rs e = ap (charge_if slot) e

-- a charge is issued where a record is found, and has its id and usage
pub charge_at-issued : (slot : ℕ) (rs : List Record) → (charge_at slot rs).issued ≡ true → (r : Record) × (active_at slot rs ≡ Some r) × (r.id ≡ (charge_at slot rs).id) × (usage_of r.content ≡ (charge_at slot rs).usage) × (is_slot slot r ≡ true)
charge_at-issued slot rs e = at (active_at slot rs) refl
  where
    at : (o : Option Record) → active_at slot rs ≡ o → (r : Record) × (active_at slot rs ≡ Some r) × (r.id ≡ (charge_at slot rs).id) × (usage_of r.content ≡ (charge_at slot rs).usage) × (is_slot slot r ≡ true)
    at None is = absurd (true≢false (sym e ∙ ap (λ (o : Option Record). (charge_if slot o).issued) is))
    at (Some r) is = (r, is, sym (ap (λ (o : Option Record). (charge_if slot o).id) is), sym (ap (λ (o : Option Record). (charge_if slot o).usage) is), active_at-is_slot slot rs r is)

pub charge_at-free : (slot : ℕ) (rs : List Record) → (charge_at slot rs).issued ≡ false → active_at slot rs ≡ None
charge_at-free slot rs e = at (active_at slot rs) refl
  where
    at : (o : Option Record) → active_at slot rs ≡ o → active_at slot rs ≡ None
    at None is = is
    at (Some r) is = absurd (true≢false (sym (ap (λ (o : Option Record). (charge_if slot o).issued) is) ∙ e))

-- the charges after each change
pub charge_at-with_record_own : (slot : ℕ) (r : Record) (rs : List Record) → is_slot slot r ≡ true → active_at slot rs ≡ None → charge_at slot (with_record r rs) ≡ record { slot = slot; id = r.id; usage = usage_of r.content; issued = true }
charge_at-with_record_own slot r rs is none = ap (charge_if slot) (active_at-with_record_own slot r rs is none)

pub charge_at-with_record_other : (k : ℕ) (r : Record) (rs : List Record) → is_slot k r ≡ false → charge_at k (with_record r rs) ≡ charge_at k rs
charge_at-with_record_other k r rs is = ap (charge_if k) (active_at-with_record_other k r rs is)

pub charge_at-without_slot_own : (slot : ℕ) (rs : List Record) → AllPairwise AreApart rs → charge_at slot (without_slot slot rs) ≡ free_charge slot
charge_at-without_slot_own slot rs apart = ap (charge_if slot) (active_at-without_slot_own slot rs apart)

pub charge_at-without_slot_other : (slot k : ℕ) (rs : List Record) → k ≢ slot → charge_at k (without_slot slot rs) ≡ charge_at k rs
charge_at-without_slot_other slot k rs ne = ap (charge_if k) (active_at-without_slot_other slot k rs ne)

pub charge_at-without_idle : (k : ℕ) (p : Record → Bool) (rs : List Record) (r : Record) → find p rs ≡ Some r → is_active r.content ≡ false → charge_at k (without_first p rs) ≡ charge_at k rs
charge_at-without_idle k p rs r e idle = ap (charge_if k) (active_at-without_idle k p rs r e idle)

pub charge_at-filter : (k : ℕ) (keep : Record → Bool) → ((r : Record) → keep r ≡ false → is_active r.content ≡ false) → (rs : List Record) → charge_at k (filter keep rs) ≡ charge_at k rs
charge_at-filter k keep idle rs = ap (charge_if k) (active_at-filter k keep idle rs)

pub charge_at-recharged_own : (slot : ℕ) (to : Usage) (rs : List Record) (r : Record) → active_at slot rs ≡ Some r → charge_at slot (recharged slot to rs) ≡ record { slot = slot; id = r.id; usage = to; issued = true }
charge_at-recharged_own slot to rs r e = ap (charge_if slot) (active_at-recharged_own slot to rs r e)

pub charge_at-recharged_other : (slot k : ℕ) (to : Usage) (rs : List Record) → k ≢ slot → charge_at k (recharged slot to rs) ≡ charge_at k rs
charge_at-recharged_other slot k to rs ne = ap (charge_if k) (active_at-recharged_other slot k to rs ne)

pub charge_at-committed_own : (slot : ℕ) (name : Bytes) (labels : Option (List Label)) (layer : Tree) (number : ℕ) (rs : List Record) (r : Record) → AllPairwise AreApart rs → charge_at slot (with_record (committed_as name labels layer number r) (without_slot slot rs)) ≡ free_charge slot
charge_at-committed_own slot name labels layer number rs r apart = ap (charge_if slot) (active_at-committed_own slot name labels layer number rs r apart)

pub charge_at-committed_other : (slot k : ℕ) (name : Bytes) (labels : Option (List Label)) (layer : Tree) (number : ℕ) (rs : List Record) (r : Record) → k ≢ slot → charge_at k (with_record (committed_as name labels layer number r) (without_slot slot rs)) ≡ charge_at k rs
charge_at-committed_other slot k name labels layer number rs r ne = ap (charge_if k) (active_at-committed_other slot k name labels layer number rs r ne)
