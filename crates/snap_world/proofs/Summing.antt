-- A sum over the hands is the one over the records.
use Rattle.std.proofs.Common.{◌≡◌, ◌≢◌, ℕ, zero, suc, ◌+◌, ◌-◌, ◌<◌, List, [], ◌∷◌, length, Bool, true, false, Option, None, Some, eq-eqb, refl, sym, ap, ◌∙◌, subst, ⊎_elim, arith}
use Rattle.std.specs.Prelude.{◌==◌, ◌^◌, nat_le, option_map, unwrap_or, if◌then◌else◌}
use Rattle.std.specs.List.{AllByRecursion}
use Rattle.std.proofs.lemmas.Bool.{and_parts, leb-true}
use Rattle.std.proofs.lemmas.Bool.Decides.{eqb_tells}
use Rattle.snap_usage.specs.declared.usage.Usage.{Usage}
use Rattle.snap_usage.specs.Counted.{Covers, count_of, no_usage}
use Rattle.snap_ledger.specs.States.{minus, plus}
use Rattle.snap_record.specs.Records.{usage_of}
use Rattle.snap_record.specs.declared.record.Content.{Content}
use Rattle.snap_record.specs.declared.record.Content.TheVariants.{View, Active, Committed}
use Rattle.snap_record.specs.declared.record.Record.{Record}
use Rattle.snap_call.specs.Records.{active_at, charge_of, has_slot, is_active, is_slot, sum_of, AllPairwise, AreApart, HasLowSlot}
use Rattle.snap_call.specs.State.{limit_at}
use Rattle.snap_call.proofs.Lists.{all-map}
use Rattle.snap_call.proofs.Slots.{active_at-Active, is_slot-other}
use Rattle.snap_call.proofs.Sums.{usage, plus-none, none-plus, plus-turned, plus-joined, minus-plus, Covers-plus}
use Rattle.snap_world.specs.declared.quota.Quota.{Quota}
use Rattle.snap_world.specs.World.{AgreesAt, Fits, HandValue, IsHandOf, WorldValue, hand_at}
use Rattle.snap_world.specs.Quota.{active_usage, committed_usage, spare_usage}
use Rattle.snap_world.specs.Sums.{added_by, share_in, spare_in, hand_sum_below}

-- what the record of a slot adds to a sum
abbrev added_at : (Content → Usage) → ℕ → Option Record → Usage
added_at f place None = no_usage
added_at f place (Some r) = if r.namespace == place then f r.content else no_usage

-- the sum over the records of the slots below a number
abbrev slots : (Content → Usage) → ℕ → List Record → ℕ → Usage
slots f place rs zero = no_usage
slots f place rs (suc n) = plus (slots f place rs n) (added_at f place (active_at n rs))

-- no record is in the slot
none_active : (slot : ℕ) (rs : List Record) → AllByRecursion (λ t. is_slot slot t ≡ false) rs → active_at slot rs ≡ None
none_active slot [] all = refl
none_active slot (t ∷ ts) all = rw all.0 (none_active slot ts all.1)

module _ (f : Content → Usage) (idle : (c : Content) → is_active c ≡ false → f c ≡ no_usage) (place : ℕ) where
  abbrev part : Record → Usage
  part r = if r.namespace == place then f r.content else no_usage

  empty : (n : ℕ) → slots f place [] n ≡ no_usage
  empty zero = refl
  empty (suc n) = ap (λ (u : Usage). plus u no_usage) (empty n) ∙ plus-none no_usage

  -- a record that is in none of these slots adds nothing
  past : (r : Record) (rs : List Record) (n : ℕ) → ((k : ℕ) → k < n → is_slot k r ≡ false) → slots f place (r ∷ rs) n ≡ slots f place rs n
  past r rs zero other = refl
  past r rs (suc n) other =
      let here : active_at n (r ∷ rs) ≡ active_at n rs = rw (other n (omega arith)) refl in
      ap (λ (u : Usage). plus u (added_at f place (active_at n (r ∷ rs)))) (past r rs n (λ k lt. other k (omega arith)))
      ∙ ap (λ (o : Option Record). plus (slots f place rs n) (added_at f place o)) here

  -- one that is in one of them adds its part
  found : (r : Record) (rs : List Record) (k n : ℕ) → k < n → is_slot k r ≡ true → active_at k rs ≡ None → slots f place (r ∷ rs) n ≡ plus (part r) (slots f place rs n)
  found r rs k zero lt is free = absurd (omega arith)
  found r rs k (suc n) lt is free = ⊎_elim own (other (λ low. found r rs k n low is free)) (eqb_tells n k)
    where
      own : ((n == k) ≡ true) × (n ≡ k) → slots f place (r ∷ rs) (suc n) ≡ plus (part r) (slots f place rs (suc n))
      own h =
          let mine : is_slot n r ≡ true = ap (λ j. is_slot j r) h.1 ∙ is in
          let bare : active_at n rs ≡ None = ap (λ j. active_at j rs) h.1 ∙ free in
          let here : active_at n (r ∷ rs) ≡ Some r = rw mine refl in
          ap (λ (u : Usage). plus u (added_at f place (active_at n (r ∷ rs)))) (past r rs n (λ j below. is_slot-other k j r (let e = h.1 in omega arith) is))
          ∙ ap (λ (o : Option Record). plus (slots f place rs n) (added_at f place o)) here
          ∙ plus-turned (slots f place rs n) (part r)
          ∙ ap (plus (part r)) (sym (ap (λ (o : Option Record). plus (slots f place rs n) (added_at f place o)) bare ∙ plus-none (slots f place rs n)))

      other : (k < n → slots f place (r ∷ rs) n ≡ plus (part r) (slots f place rs n)) → ((n == k) ≡ false) × (n ≢ k) → slots f place (r ∷ rs) (suc n) ≡ plus (part r) (slots f place rs (suc n))
      other next h =
          let here : active_at n (r ∷ rs) ≡ active_at n rs = rw (is_slot-other k n r h.1 is) refl in
          ap (λ (u : Usage). plus u (added_at f place (active_at n (r ∷ rs)))) (next (let e = h.1 in omega arith))
          ∙ ap (λ (o : Option Record). plus (plus (part r) (slots f place rs n)) (added_at f place o)) here
          ∙ sym (plus-joined (part r) (slots f place rs n) (added_at f place (active_at n rs)))

  -- all slots
  total : (n : ℕ) (rs : List Record) → AllPairwise AreApart rs → AllByRecursion (λ r. HasLowSlot n r.content) rs → slots f place rs n ≡ sum_of f place rs
  total n [] apart low = empty n
  total n (r ∷ rs) apart low = at r.content refl (total n rs apart.1 low.1)
    where
      either : (b : Bool) → (if b then no_usage else no_usage) ≡ no_usage
      either true = refl
      either false = refl

      resting : is_active r.content ≡ false → ((k : ℕ) → k < n → is_slot k r ≡ false) → slots f place rs n ≡ sum_of f place rs → slots f place (r ∷ rs) n ≡ sum_of f place (r ∷ rs)
      resting is other rest =
          let nothing : part r ≡ no_usage = ap (λ (u : Usage). if r.namespace == place then u else no_usage) (idle r.content is) ∙ either (r.namespace == place) in
          past r rs n other ∙ rest ∙ sym (ap (λ (u : Usage). plus u (sum_of f place rs)) nothing ∙ none-plus (sum_of f place rs))

      at : (c : Content) → r.content ≡ c → slots f place rs n ≡ sum_of f place rs → slots f place (r ∷ rs) n ≡ sum_of f place (r ∷ rs)
      at (View layers) e rest = resting (ap is_active e) (λ k below. ap (has_slot k) e) rest
      at (Committed layer taken) e rest = resting (ap is_active e) (λ k below. ap (has_slot k) e) rest
      at (Active slot charged) e rest =
          let is : is_slot slot r ≡ true = ap (has_slot slot) e ∙ eq-eqb slot slot refl in
          let below : slot < n = subst (HasLowSlot n) e low.0 in
          found r rs slot n below is (none_active slot rs (all-map (AreApart r) (λ t. is_slot slot t ≡ false) (λ t a. a slot is) rs apart.0)) ∙ ap (plus (part r)) rest

-- hands and records that agree add the same
module _ (w : WorldValue) (fits : Fits w) (place : ℕ) (g : HandValue → Usage) (f : Content → Usage)
    (same : (slot : ℕ) (h : HandValue) (r : Record) → hand_at slot w.hands ≡ Some h → active_at slot w.state.records ≡ Some r → IsHandOf slot w.state.records h r → g h ≡ f r.content) where
  each : (slot : ℕ) → added_by g place (hand_at slot w.hands) ≡ added_at f place (active_at slot w.state.records)
  each slot = at (hand_at slot w.hands) refl (active_at slot w.state.records) refl (fits.hands slot)
    where
      at : (o : Option HandValue) → hand_at slot w.hands ≡ o → (q : Option Record) → active_at slot w.state.records ≡ q → AgreesAt slot w.state.records o q → added_by g place o ≡ added_at f place q
      at None e None d a = refl
      at None e (Some r) d a = absurd a
      at (Some h) e None d a = absurd a
      at (Some h) e (Some r) d a = ap (λ k. if k == place then g h else no_usage) a.namespace ∙ ap (λ (u : Usage). if r.namespace == place then u else no_usage) (same slot h r e d a)

  below : (n : ℕ) → hand_sum_below g place w.hands n ≡ slots f place w.state.records n
  unfolding hand_sum_below
  below zero = refl
  below (suc n) =
      ap (λ (u : Usage). plus u (added_by g place (hand_at n w.hands))) (below n)
      ∙ ap (plus (slots f place w.state.records n)) (each n)

  whole : ((c : Content) → is_active c ≡ false → f c ≡ no_usage) → hand_sum_below g place w.hands (length w.hands) ≡ sum_of f place w.state.records
  whole idle =
      below (length w.hands)
      ∙ ap (slots f place w.state.records) fits.places
      ∙ total f idle place w.state.slots w.state.records fits.good.slots fits.good.open_slots

idle_active : (c : Content) → is_active c ≡ false → active_usage c ≡ no_usage
idle_active (View layers) e = refl
idle_active (Active slot charged) e = absurd (cc)
idle_active (Committed layer taken) e = refl

idle_spare : (hands : List (Option HandValue)) (c : Content) → is_active c ≡ false → spare_usage hands c ≡ no_usage
idle_spare hands (View layers) e = refl
idle_spare hands (Active slot charged) e = absurd (cc)
idle_spare hands (Committed layer taken) e = refl

-- the shares in the hands are the charges of the active records
pub shares_are : (w : WorldValue) → Fits w → (place : ℕ) → hand_sum_below share_in place w.hands (length w.hands) ≡ sum_of active_usage place w.state.records
shares_are w fits place =
    whole w fits place share_in active_usage
    (λ slot h r e d a. a.usage ∙ sym (ap active_usage (active_at-Active slot w.state.records r d)))
    idle_active

-- and what the layers of the hands don't take is what is spare of them
pub spares_are : (w : WorldValue) → Fits w → (place : ℕ) → hand_sum_below spare_in place w.hands (length w.hands) ≡ sum_of (spare_usage w.hands) place w.state.records
spares_are w fits place =
    whole w fits place spare_in (spare_usage w.hands)
    (λ slot h r e d a.
    ap (λ (u : Usage). minus u (count_of h.snapshot.layer)) a.usage
    ∙ ap (λ (o : Option HandValue). minus (usage_of r.content) (unwrap_or (option_map (λ (g : HandValue). count_of g.snapshot.layer) o) no_usage)) (sym e)
    ∙ sym (ap (spare_usage w.hands) (active_at-Active slot w.state.records r d)))
    (idle_spare w.hands)

-- a charge is what the committed and what the active snapshots are charged
split_one : (b : Bool) (c : Content) → (if b then usage_of c else no_usage) ≡ plus (if b then committed_usage c else no_usage) (if b then active_usage c else no_usage)
split_one false c = sym (plus-none no_usage)
split_one true (View layers) = sym (plus-none no_usage)
split_one true (Active slot charged) = sym (none-plus charged)
split_one true (Committed layer taken) = sym (plus-none taken)

crossed : (a b x y : Usage) → plus (plus a b) (plus x y) ≡ plus (plus a x) (plus b y)
crossed a b x y = usage _ _ (omega arith) (omega arith)

pub charge_split : (place : ℕ) (rs : List Record) → charge_of place rs ≡ plus (sum_of committed_usage place rs) (sum_of active_usage place rs)
charge_split place [] = sym (plus-none no_usage)
charge_split place (r ∷ rs) =
    let b = r.namespace == place in
    ap (λ (u : Usage). plus u (charge_of place rs)) (split_one b r.content)
    ∙ ap (plus (plus (if b then committed_usage r.content else no_usage) (if b then active_usage r.content else no_usage))) (charge_split place rs)
    ∙ crossed (if b then committed_usage r.content else no_usage) (if b then active_usage r.content else no_usage) (sum_of committed_usage place rs) (sum_of active_usage place rs)

-- the sums below a number
pub sum_start : (g : HandValue → Usage) (place : ℕ) (hands : List (Option HandValue)) → hand_sum_below g place hands 0 ≡ no_usage
unfolding hand_sum_below
sum_start g place hands = refl

next_one : (g : HandValue → Usage) (place : ℕ) (hands : List (Option HandValue)) (n : ℕ) → hand_sum_below g place hands (suc n) ≡ plus (hand_sum_below g place hands n) (added_by g place (hand_at n hands))
unfolding hand_sum_below
next_one g place hands n = refl

pub sum_next : (g : HandValue → Usage) (place : ℕ) (hands : List (Option HandValue)) (n : ℕ) → hand_sum_below g place hands (n + 1) ≡ plus (hand_sum_below g place hands n) (added_by g place (hand_at n hands))
sum_next g place hands n = let e : n + 1 ≡ suc n = omega arith in ap (λ k. hand_sum_below g place hands k) e ∙ next_one g place hands n

covers_all : (u v : Usage) → Covers u v → (x : Usage) → Covers (plus u x) v
covers_all u v c x = record { blocks = (let p = c.blocks in omega arith); inodes = (let p = c.inodes in omega arith) }

rises : (g : HandValue → Usage) (place : ℕ) (hands : List (Option HandValue)) (n more : ℕ) → Covers (hand_sum_below g place hands (n + more)) (hand_sum_below g place hands n)
rises g place hands n zero = let e : n + 0 ≡ n = omega arith in subst (λ k. Covers (hand_sum_below g place hands k) (hand_sum_below g place hands n)) (sym e) (record { blocks = omega arith; inodes = omega arith })
rises g place hands n (suc more) =
    let e : n + suc more ≡ (n + more) + 1 = omega arith in
    subst (λ (u : Usage). Covers u (hand_sum_below g place hands n)) (sym (ap (λ k. hand_sum_below g place hands k) e ∙ sum_next g place hands (n + more)))
    (covers_all (hand_sum_below g place hands (n + more)) (hand_sum_below g place hands n) (rises g place hands n more) (added_by g place (hand_at (n + more) hands)))

-- each of them is within that over all slots
pub sum_within : (g : HandValue → Usage) (place : ℕ) (hands : List (Option HandValue)) (n : ℕ) → n < length hands → Covers (hand_sum_below g place hands (length hands)) (plus (hand_sum_below g place hands n) (added_by g place (hand_at n hands)))
sum_within g place hands n lt =
    let more = length hands - (n + 1) in
    let e : (n + 1) + more ≡ length hands = omega arith in
    subst (λ (u : Usage). Covers (hand_sum_below g place hands (length hands)) u) (sum_next g place hands n)
    (subst (λ k. Covers (hand_sum_below g place hands k) (hand_sum_below g place hands (n + 1))) e (rises g place hands (n + 1) more))

-- what is spare of a share is within it
spare_one : (place : ℕ) (o : Option HandValue) → Covers (added_by share_in place o) (added_by spare_in place o)
spare_one place None = record { blocks = omega arith; inodes = omega arith }
spare_one place (Some h) = at (h.snapshot.namespace == place)
  where
    at : (b : Bool) → Covers (if b then share_in h else no_usage) (if b then spare_in h else no_usage)
    at true = record { blocks = omega arith; inodes = omega arith }
    at false = record { blocks = omega arith; inodes = omega arith }

both : (u v x y : Usage) → Covers u v → Covers x y → Covers (plus u x) (plus v y)
both u v x y c d = record { blocks = (let p = c.blocks in let q = d.blocks in omega arith); inodes = (let p = c.inodes in let q = d.inodes in omega arith) }

spares_below : (place : ℕ) (hands : List (Option HandValue)) (n : ℕ) → Covers (hand_sum_below share_in place hands n) (hand_sum_below spare_in place hands n)
unfolding hand_sum_below
spares_below place hands zero = record { blocks = omega arith; inodes = omega arith }
spares_below place hands (suc n) = both _ _ _ _ (spares_below place hands n) (spare_one place (hand_at n hands))

-- the charge covers the shares, and these what is spare of them
pub charge_covers : (w : WorldValue) → Fits w → (place : ℕ) → Covers (charge_of place w.state.records) (hand_sum_below share_in place w.hands (length w.hands))
charge_covers w fits place =
    subst (λ (u : Usage). Covers u (hand_sum_below share_in place w.hands (length w.hands))) (sym (charge_split place w.state.records))
    (subst (λ (u : Usage). Covers (plus (sum_of committed_usage place w.state.records) (sum_of active_usage place w.state.records)) u) (sym (shares_are w fits place))
    (Covers-plus (sum_of committed_usage place w.state.records) (sum_of active_usage place w.state.records)))

pub shares_cover : (place : ℕ) (hands : List (Option HandValue)) → Covers (hand_sum_below share_in place hands (length hands)) (hand_sum_below spare_in place hands (length hands))
shares_cover place hands = spares_below place hands (length hands)

-- what is left of the charge without the shares is what is committed
pub committed_left : (w : WorldValue) → Fits w → (place : ℕ) → minus (charge_of place w.state.records) (hand_sum_below share_in place w.hands (length w.hands)) ≡ sum_of committed_usage place w.state.records
committed_left w fits place =
    ap (λ (u : Usage). minus u (hand_sum_below share_in place w.hands (length w.hands))) (charge_split place w.state.records)
    ∙ ap (minus (plus (sum_of committed_usage place w.state.records) (sum_of active_usage place w.state.records))) (shares_are w fits place)
    ∙ minus-plus (sum_of committed_usage place w.state.records) (sum_of active_usage place w.state.records)

-- no sum comes near 2^64
pub shares_few : (w : WorldValue) → Fits w → (place : ℕ) → place < length w.state.namespaces → ((hand_sum_below share_in place w.hands (length w.hands)).blocks < 2 ^ 64) × ((hand_sum_below share_in place w.hands (length w.hands)).inodes < 2 ^ 64)
shares_few w fits place inside =
    let limit = limit_at place w.state.namespaces in
    let h = and_parts (nat_le limit.blocks 1099511627776) (nat_le limit.inodes 1099511627776) (fits.good.limits place inside) in
    let blocks = leb-true _ _ h.0 in
    let inodes = leb-true _ _ h.1 in
    let within = fits.good.promised.within place inside in
    let covers = charge_covers w fits place in (
      (let p = within.blocks in let q = covers.blocks in omega arith),
      (let p = within.inodes in let q = covers.inodes in omega arith),
    )

pub spares_few : (w : WorldValue) → Fits w → (place : ℕ) → place < length w.state.namespaces → ((hand_sum_below spare_in place w.hands (length w.hands)).blocks < 2 ^ 64) × ((hand_sum_below spare_in place w.hands (length w.hands)).inodes < 2 ^ 64)
spares_few w fits place inside =
    let few = shares_few w fits place inside in
    let blocks = few.0 in
    let inodes = few.1 in
    let covers = shares_cover place w.hands in (
      (let p = covers.blocks in omega arith),
      (let p = covers.inodes in omega arith),
    )

-- two quotas are one where all amounts agree
pub quota_is : (q r : Quota) → q.limit ≡ r.limit → q.charged ≡ r.charged → q.committed ≡ r.committed → q.active ≡ r.active → q.spare ≡ r.spare → q.free ≡ r.free → q ≡ r
quota_is q r limit charged committed active spare free = λ i. record { limit = limit i; charged = charged i; committed = committed i; active = active i; spare = spare i; free = free i }
