-- How many snapshots are active after each change of the records.
use Rattle.std.proofs.Common.{◌≡◌, ◌≢◌, ℕ, zero, suc, ◌+◌, ◌≤◌, List, [], ◌∷◌, Bool, true, false, true≢false, cond, Some, None, refl, sym, ap, ◌∙◌, ⊎_elim, arith}
use Rattle.std.specs.Prelude.{◌==◌, Option, find, filter}
use Rattle.std.specs.List.{AllByRecursion}
use Rattle.std.specs.Ordering.{is_lt}
use Rattle.std.proofs.lemmas.Bool.Decides.{eqb_tells}
use Rattle.snap_layer.specs.Tree.{Tree}
use Rattle.snap_usage.specs.declared.usage.Usage.{Usage}
use Rattle.snap_record.specs.Labels.{Bytes, Label}
use Rattle.snap_record.specs.declared.record.Content.{Content}
use Rattle.snap_record.specs.declared.record.Content.TheVariants.{View, Active, Committed}
use Rattle.snap_record.specs.declared.record.Record.{Record}
use Rattle.snap_call.specs.Records.{record_cmp, has_slot, is_slot, is_active, active_at, open_count, with_record, without_first, without_slot, recharged, committed_as, AllPairwise, AreApart, HasLowSlot}
use Rattle.snap_call.proofs.Lists.{active_at-is_slot, all-without, pairwise-without, active_one, open_count-cons}
use Rattle.snap_call.proofs.Sums.{find-here, find-past}
use Rattle.snap_call.proofs.Slots.{active_at-without_slot_own}

-- a record that is in a slot is an active one
active_one-in : (slot : ℕ) (c : Content) → has_slot slot c ≡ true → active_one c ≡ 1
active_one-in slot (View layers) e = absurd (true≢false (sym e))
active_one-in slot (Active s u) e = refl
active_one-in slot (Committed layer u) e = absurd (true≢false (sym e))

pub is_slot-active_one : (slot : ℕ) (r : Record) → is_slot slot r ≡ true → active_one r.content ≡ 1
is_slot-active_one slot r e = active_one-in slot r.content e

-- one record more
pub open_count-with_record : (r : Record) (rs : List Record) → open_count (with_record r rs) ≡ open_count rs + active_one r.content
open_count-with_record r [] = omega (arith, open_count-cons r [])
open_count-with_record r (t ∷ ts) = at (is_lt (record_cmp r t)) refl (open_count-with_record r ts)
  where
    at : (b : Bool) → is_lt (record_cmp r t) ≡ b → open_count (with_record r ts) ≡ open_count ts + active_one r.content → open_count (with_record r (t ∷ ts)) ≡ open_count (t ∷ ts) + active_one r.content
    at true is next = rw is (omega (arith, open_count-cons r (t ∷ ts)))
    at false is next = rw is (omega (arith, open_count-cons t (with_record r ts), open_count-cons t ts))

pub open_count-with_active : (slot : ℕ) (r : Record) (rs : List Record) → is_slot slot r ≡ true → open_count (with_record r rs) ≡ open_count rs + 1
open_count-with_active slot r rs is = let one = is_slot-active_one slot r is in let all = open_count-with_record r rs in omega arith

pub open_count-with_committed : (name : Bytes) (labels : Option (List Label)) (layer : Tree) (number : ℕ) (r : Record) (rs : List Record) → open_count (with_record (committed_as name labels layer number r) rs) ≡ open_count rs
open_count-with_committed name labels layer number r rs = let all = open_count-with_record (committed_as name labels layer number r) rs in omega arith

-- the record of a slot charged anew
pub open_count-recharged : (slot : ℕ) (to : Usage) (rs : List Record) → open_count (recharged slot to rs) ≡ open_count rs
open_count-recharged slot to [] = refl
open_count-recharged slot to (t ∷ ts) = at (is_slot slot t) refl (open_count-recharged slot to ts)
  where
    at : (b : Bool) → is_slot slot t ≡ b → open_count (recharged slot to ts) ≡ open_count ts → open_count (recharged slot to (t ∷ ts)) ≡ open_count (t ∷ ts)
    at true is next = rw is (let one = is_slot-active_one slot t is in omega (arith, open_count-cons t ts))
    at false is next = rw is (omega (arith, open_count-cons t (recharged slot to ts), open_count-cons t ts))

-- the record that is found less
pub open_count-without : (p : Record → Bool) (rs : List Record) (r : Record) → find p rs ≡ Some r → open_count (without_first p rs) + active_one r.content ≡ open_count rs
open_count-without p [] r e = absurd (cc)
open_count-without p (t ∷ ts) r e = at (p t) refl (open_count-without p ts r)
  where
    at : (b : Bool) → p t ≡ b → (find p ts ≡ Some r → open_count (without_first p ts) + active_one r.content ≡ open_count ts) → open_count (without_first p (t ∷ ts)) + active_one r.content ≡ open_count (t ∷ ts)
    at true is next = rw is (let one : active_one t.content ≡ active_one r.content = ap (λ (x : Record). active_one x.content) (find-here p t ts r is e) in omega (arith, open_count-cons t ts))
    at false is next = rw is (let less = next (find-past p t ts r is e) in omega (arith, open_count-cons t (without_first p ts), open_count-cons t ts))

-- one record fewer, which isn't active
idle_none : (c : Content) → is_active c ≡ false → active_one c ≡ 0
idle_none (View layers) e = refl
idle_none (Active s u) e = absurd (true≢false e)
idle_none (Committed layer u) e = refl

pub open_count-without_idle : (p : Record → Bool) (rs : List Record) (r : Record) → find p rs ≡ Some r → is_active r.content ≡ false → open_count (without_first p rs) ≡ open_count rs
open_count-without_idle p rs r e idle =
    let all = open_count-without p rs r e in
    let none = idle_none r.content idle in
    omega arith

-- the records that pass a test, where none of the others is active
pub open_count-filter : (keep : Record → Bool) → ((r : Record) → keep r ≡ false → is_active r.content ≡ false) → (rs : List Record) → open_count (filter keep rs) ≡ open_count rs
open_count-filter keep idle [] = refl
open_count-filter keep idle (t ∷ ts) = at (keep t) refl (open_count-filter keep idle ts)
  where
    at : (b : Bool) → keep t ≡ b → open_count (filter keep ts) ≡ open_count ts → open_count (cond b (t ∷ filter keep ts) (filter keep ts)) ≡ open_count (t ∷ ts)
    at true is next = omega (arith, open_count-cons t (filter keep ts), open_count-cons t ts)
    at false is next = let none = idle_none t.content (idle t is) in omega (arith, open_count-cons t ts)

-- without the record of a slot
pub open_count-without_slot : (slot : ℕ) (rs : List Record) (r : Record) → active_at slot rs ≡ Some r → open_count (without_slot slot rs) + 1 ≡ open_count rs
open_count-without_slot slot rs r e =
    let less = open_count-without (is_slot slot) rs r e in
    let one = is_slot-active_one slot r (active_at-is_slot slot rs r e) in
    omega arith

-- a commit: one active record fewer
pub open_count-committed : (slot : ℕ) (name : Bytes) (labels : Option (List Label)) (layer : Tree) (number : ℕ) (rs : List Record) (r : Record) → active_at slot rs ≡ Some r
    → open_count (with_record (committed_as name labels layer number r) (without_slot slot rs)) + 1 ≡ open_count rs
open_count-committed slot name labels layer number rs r e =
    let less = open_count-without_slot slot rs r e in
    let same = open_count-with_committed name labels layer number r (without_slot slot rs) in
    omega arith

-- where a slot is open, one is active
pub open_count-some : (slot : ℕ) (rs : List Record) (r : Record) → active_at slot rs ≡ Some r → 1 ≤ open_count rs
open_count-some slot rs r e = let less = open_count-without_slot slot rs r e in omega arith

-- the slots of all actives are below a number
abbrev AllBelow : ℕ → List Record → Type 0
AllBelow n rs = AllByRecursion (λ r. HasLowSlot n r.content) rs

none_active : (c : Content) → HasLowSlot 0 c → active_one c ≡ 0
none_active (View layers) h = refl
none_active (Active slot charged) h = absurd (omega arith)
none_active (Committed layer usage) h = refl

none_open : (rs : List Record) → AllBelow 0 rs → open_count rs ≡ 0
none_open [] all = refl
none_open (t ∷ ts) all = let none = none_active t.content all.0 in let rest = none_open ts all.1 in omega (arith, open_count-cons t ts)

below-other : (n : ℕ) (c : Content) → has_slot n c ≡ false → HasLowSlot (suc n) c → HasLowSlot n c
below-other n (View layers) e h = tt
below-other n (Active slot charged) e h =
    ⊎_elim
    (λ (k : ((slot == n) ≡ true) × (slot ≡ n)). absurd (true≢false (sym k.0 ∙ e)))
    (λ (k : ((slot == n) ≡ false) × (slot ≢ n)). let p = k.1 in omega arith)
    (eqb_tells slot n)
below-other n (Committed layer usage) e h = tt

below-free : (n : ℕ) (rs : List Record) → active_at n rs ≡ None → AllBelow (suc n) rs → AllBelow n rs
below-free n [] none all = tt
below-free n (t ∷ ts) none all = at (is_slot n t) refl (below-free n ts)
  where
    at : (b : Bool) → is_slot n t ≡ b → (active_at n ts ≡ None → AllBelow (suc n) ts → AllBelow n ts) → AllBelow n (t ∷ ts)
    at true is next = let f = rw is at none in absurd (cc)
    at false is next = (below-other n t.content is all.0, next (rw is at none) all.1)

count_below : (n : ℕ) (rs : List Record) → AllPairwise AreApart rs → AllBelow n rs → open_count rs ≤ n
count_below zero rs apart all = let none = none_open rs all in omega arith
count_below (suc n) rs apart all = at (active_at n rs) refl (count_below n)
  where
    at : (o : Option Record) → active_at n rs ≡ o → ((ts : List Record) → AllPairwise AreApart ts → AllBelow n ts → open_count ts ≤ n) → open_count rs ≤ suc n
    at None is next = let few = next rs apart (below-free n rs is all) in omega arith
    at (Some r) is next =
        let few = next (without_slot n rs) (pairwise-without (is_slot n) AreApart rs apart) (below-free n (without_slot n rs) (active_at-without_slot_own n rs apart) (all-without (is_slot n) (λ r. HasLowSlot (suc n) r.content) rs all)) in
        let less = open_count-without_slot n rs r is in
        omega arith

-- at most as many are active as there are slots, since no two have the same one
pub open_count-most : (n : ℕ) (rs : List Record) → AllPairwise AreApart rs → AllByRecursion (λ r. HasLowSlot n r.content) rs → open_count rs ≤ n
open_count-most n rs apart placed = count_below n rs apart placed
