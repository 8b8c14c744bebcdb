-- The charges that the entries tell are those of the states that they lead to.
use Rattle.std.proofs.Common.{inl, inr, ◌≡◌, ℕ, zero, suc, ◌+◌, ◌≤◌, ◌<◌, List, [], ◌∷◌, ◌++◌, length, length-append, map, true, Option, Some, None, refl, sym, ap, ◌∙◌, subst, arith}
use Rattle.std.specs.Option.{option_map, option_map_or}
use Rattle.std.proofs.Math.Nat.{min-eq_left}
use Rattle.std.specs.Prelude.{nat_le, if◌then◌else◌, min}
use Rattle.std.proofs.lemmas.Bool.{and_parts, cases_eq, leb-true}
use Rattle.std.proofs.lemmas.List.{get_or-replicate, length-replicate}
use Rattle.snap_usage.specs.declared.usage.Usage.{Usage}
use Rattle.snap_usage.specs.Counted.{no_usage}
use Rattle.snap_ledger.specs.States.{plus, minus}
use Rattle.snap_record.specs.Labels.{Bytes}
use Rattle.snap_record.specs.declared.record.Record.{Record}
use Rattle.snap_call.specs.declared.entry.Entry.{Entry}
use Rattle.snap_call.specs.declared.reply.Reply.{Reply}
use Rattle.snap_call.specs.declared.state.State.{State}
use Rattle.snap_call.specs.Forms.{is_limit}
use Rattle.snap_call.specs.Good.{Good}
use Rattle.snap_call.specs.Journal.{Replays}
use Rattle.snap_call.specs.Records.{active_at, charge_of}
use Rattle.snap_call.specs.State.{limit_at, place_of}
use Rattle.snap_call.specs.Step.{step, IsAllowed}
use Rattle.snap_call.proofs.Keeping.{place_of-below}
use Rattle.snap_call.proofs.Kept.{good_step}
use Rattle.snap_call.proofs.Replaying.{step-entries}
use Rattle.snap_call.proofs.Sums.{usage, minus-plus}
use Rattle.snap_history.specs.Entries.{entry_info}
use Rattle.snap_history.specs.History.{history, is_call_of, namespace_charge, namespace_in, slot_in}
use Rattle.snap_history.specs.Changes.{change_by, change_of, changes_of, charge_before, entry_infos_of, is_own, no_shares, share_of_slot, shares_after, shares_by, turned}
use Rattle.snap_history.specs.Open.{namespace_shares, open_below, open_share, share_for, shares_of}
use Rattle.snap_history.specs.declared.change.Change.{Change}
use Rattle.snap_history.specs.declared.open.OpenShare.{OpenShare}
use Rattle.snap_history.proofs.Placed.{Stands, share_named, step-place}
use Rattle.snap_history.proofs.Turning.{HoldsAt, IsPlaceOf, TurnsAt, share_by, turns, own}

-- no number of it comes near 2^64
record IsSmall (u : Usage) : Type 0 where
  blocks : u.blocks ≤ 1099511627776
  inodes : u.inodes ≤ 1099511627776

-- a part that becomes another amount
turned-is : (rest part to whole after : Usage) → whole ≡ plus rest part → after ≡ plus rest to → IsSmall after → turned whole part to ≡ after
unfolding turned
turned-is rest part to whole after is changed small =
    let left : minus whole part ≡ rest = ap (λ (u : Usage). minus u part) is ∙ minus-plus rest part in
    let blocks : rest.blocks + to.blocks ≡ after.blocks = sym (ap (λ (u : Usage). u.blocks) changed) in
    let inodes : rest.inodes + to.inodes ≡ after.inodes = sym (ap (λ (u : Usage). u.inodes) changed) in
    let few_blocks : rest.blocks + to.blocks ≤ 18446744073709551615 = (let p = small.blocks in omega (arith, blocks)) in
    let few_inodes : rest.inodes + to.inodes ≤ 18446744073709551615 = (let p = small.inodes in omega (arith, inodes)) in
    ap (λ (u : Usage). record { blocks = min (u.blocks + to.blocks) 18446744073709551615; inodes = min (u.inodes + to.inodes) 18446744073709551615 }) left
    ∙ usage _ _ (min-eq_left few_blocks ∙ blocks) (min-eq_left few_inodes ∙ inodes)

-- a charge of a good state is within its limit
limit_parts : (u : Usage) → is_limit u ≡ true → IsSmall u
limit_parts u is =
    let h = and_parts (nat_le u.blocks 1099511627776) (nat_le u.inodes 1099511627776) is in
    record { blocks = leb-true _ _ h.0; inodes = leb-true _ _ h.1 }

small_charge : (name : Bytes) (s : State) → Good s → IsSmall (namespace_charge name s)
small_charge name s good = by (place_of name s.namespaces) refl
  where
    by : (o : Option ℕ) → place_of name s.namespaces ≡ o → IsSmall (option_map_or (λ place. charge_of place s.records) o no_usage)
    by None unnamed = record { blocks = omega arith; inodes = omega arith }
    by (Some place) named =
        let inside = place_of-below name s.namespaces place named in
        let limit = limit_parts (limit_at place s.namespaces) (good.limits place inside) in
        let within = good.promised.within place inside in
        record { blocks = (let p = limit.blocks in let q = within.blocks in omega arith); inodes = (let p = limit.inodes in let q = within.inodes in omega arith) }

-- ---- one entry

-- the table has what the open snapshots of the namespace of this name are charged
record Holds (name : Bytes) (shares : List (Option Usage)) (s : State) : Type 0 where
  places : length shares ≡ s.slots
  agrees : (slot : ℕ) → slot < s.slots → share_of_slot slot shares ≡ share_named name s (active_at slot s.records)

-- what the entry tells of the namespace of this name, where it leads from the state s to the state t: the shares, whether it is one of the namespace, and the parts of the charge before and after it; the rest is the same
record Tells (name : Bytes) (s : State) (shares : List (Option Usage)) (e : Entry) (t : State) : Type 0 where
  holds : Holds name (shares_after name shares e) t
  own : is_own name shares e.call ≡ is_call_of name s e.call
  rest : Usage
  before : namespace_charge name s ≡ plus rest (change_of name shares e).found
  after : namespace_charge name t ≡ plus rest (change_of name shares e).left

-- what is told of a place, by an entry whose reply is the step's
turned_at : (name : Bytes) (place : ℕ) (s : State) (shares : List (Option Usage)) (e : Entry) → Good s → IsPlaceOf name place s → HoldsAt place shares s → IsAllowed s e.call e.given → e.reply ≡ (step s e.call e.given).1
    → TurnsAt place s (shares_after name shares e) (change_of name shares e) (step s e.call e.given).0
unfolding shares_after change_of
turned_at name place s shares e good owned held allowed is =
    subst (λ (a : Reply). TurnsAt place s (shares_by name shares e.given a (namespace_in e.call) (slot_in e.call)) (change_by name shares e.given a (namespace_in e.call) (slot_in e.call)) (step s e.call e.given).0) (sym is)
    (turns name place s shares good owned held e.call e.given allowed)

-- the same by the name
told : (name : Bytes) (s : State) (shares : List (Option Usage)) (e : Entry) → Good s → Holds name shares s → IsAllowed s e.call e.given → e.reply ≡ (step s e.call e.given).1
    → Tells name s shares e (step s e.call e.given).0
told name s shares e good held allowed is =
    let t : State = (step s e.call e.given).0 in
    let both = step-place name s e.call e.given good allowed in
    let old : Stands name both.0 s = both.1 in
    let new : Stands name both.0 t = both.2 in
    let at : HoldsAt both.0 shares s = record { places = held.places; agrees = λ slot low. held.agrees slot low ∙ old.share slot } in
    let here = turned_at name both.0 s shares e good old.owned at allowed is in
    record {
      holds = record { places = here.holds.places; agrees = λ slot low. here.holds.agrees slot low ∙ sym (new.share slot) };
      own = sym (own name both.0 s shares good old.owned at e.call e.given allowed);
      rest = here.rest;
      before = old.charge ∙ here.before;
      after = new.charge ∙ here.after;
    }

-- ---- the entries

-- the charge before the entries, from the one after them
charge_back : (name : Bytes) (s : State) (shares : List (Option Usage)) (es : List Entry) (t : State) → Good s → Holds name shares s → Replays s es t
    → charge_before (namespace_charge name t) (changes_of name shares es) ≡ namespace_charge name s
charge_back name s shares [] t good held h = ap (namespace_charge name) h
charge_back name s shares (e ∷ es) t good held h =
    let here = told name s shares e good held h.0 h.1 in
    let later = charge_back name (step s e.call e.given).0 (shares_after name shares e) es t (good_step s e.call e.given good h.0) here.holds h.2 in
    let c : Change = change_of name shares e in
    ap (λ (u : Usage). turned u c.left c.found) later
    ∙ turned-is here.rest c.left c.found _ _ here.after here.before (small_charge name s good)

-- the entries of the namespace, each with the charge after it
infos_are : (name : Bytes) (s : State) (shares : List (Option Usage)) (es : List Entry) (t : State) → Good s → Holds name shares s → Replays s es t
    → entry_infos_of name s.entries shares (namespace_charge name s) es ≡ history name s es
infos_are name s shares [] t good held h = refl
infos_are name s shares (e ∷ es) t good held h =
    let after : State = (step s e.call e.given).0 in
    let c : Change = change_of name shares e in
    let here = told name s shares e good held h.0 h.1 in
    let sound = good_step s e.call e.given good h.0 in
    let charge : turned (namespace_charge name s) c.found c.left ≡ namespace_charge name after =
    turned-is here.rest c.found c.left _ _ here.before here.after (small_charge name after sound) in
    let number : s.entries + 1 ≡ after.entries = sym (step-entries s e.call e.given h.0) in
    let later : entry_infos_of name after.entries (shares_after name shares e) (namespace_charge name after) es ≡ history name after es = infos_are name after (shares_after name shares e) es t sound here.holds h.2 in
    let rest : entry_infos_of name (s.entries + 1) (shares_after name shares e) (turned (namespace_charge name s) c.found c.left) es ≡ history name after es =
    (λ i. entry_infos_of name (number i) (shares_after name shares e) (charge i) es) ∙ later in
    let mine : is_own name shares e.call ≡ is_call_of name s e.call = here.own in
    λ i. if mine i then entry_info (number i) e (Some (charge i)) ∷ rest i else rest i

-- ---- the shares that a round begins with

open_below-length : (n : ℕ) (rs : List Record) → length (open_below n rs) ≡ n
open_below-length zero rs = refl
open_below-length (suc n) rs = (let one = length-append (open_below n rs) (option_map open_share (active_at n rs) ∷ []) in let before = open_below-length n rs in let h : length (open_below (suc n) rs) ≡ suc n = omega arith in h)

share_by-is : (place : ℕ) (found : Option Record) → share_for place (option_map open_share found) ≡ share_by place found
share_by-is place None = refl
share_by-is place (Some r) = refl

share_in-append_low : (slot : ℕ) (l : List (Option Usage)) (x : Option Usage) → slot < length l → share_of_slot slot (l ++ x ∷ []) ≡ share_of_slot slot l
share_in-append_low slot [] x low = absurd (omega (arith, low))
share_in-append_low zero (y ∷ l) x low = refl
share_in-append_low (suc slot) (y ∷ l) x low = share_in-append_low slot l x (omega (arith, low))

share_in-append_last : (l : List (Option Usage)) (x : Option Usage) → share_of_slot (length l) (l ++ x ∷ []) ≡ x
share_in-append_last [] x = refl
share_in-append_last (y ∷ l) x = share_in-append_last l x

map-append_last : (place : ℕ) (l : List (Option OpenShare)) (x : Option OpenShare) → map (share_for place) (l ++ x ∷ []) ≡ map (share_for place) l ++ share_for place x ∷ []
map-append_last place [] x = refl
map-append_last place (y ∷ l) x = ap (λ (m : List (Option Usage)). share_for place y ∷ m) (map-append_last place l x)

map-length : (place : ℕ) (l : List (Option OpenShare)) → length (map (share_for place) l) ≡ length l
map-length place [] = refl
map-length place (y ∷ l) = ap suc (map-length place l)

shares_below-length : (place n : ℕ) (rs : List Record) → length (map (share_for place) (open_below n rs)) ≡ n
shares_below-length place n rs = map-length place (open_below n rs) ∙ open_below-length n rs

-- each place has the share of its slot
shares_below-in : (place n slot : ℕ) (rs : List Record) → slot < n → share_of_slot slot (map (share_for place) (open_below n rs)) ≡ share_by place (active_at slot rs)
shares_below-in place zero slot rs low = absurd (omega (arith, low))
shares_below-in place (suc n) slot rs low =
    let last : Option OpenShare = option_map open_share (active_at n rs) in
    let before : List (Option Usage) = map (share_for place) (open_below n rs) in
    let long : length before ≡ n = shares_below-length place n rs in
    ap (share_of_slot slot) (map-append_last place (open_below n rs) last)
    ∙ elim (cases_eq slot n) [
      | inl same ↦ ap (λ (k : ℕ). share_of_slot k (before ++ share_for place last ∷ [])) (same ∙ sym long)
          ∙ share_in-append_last before (share_for place last) ∙ share_by-is place (active_at n rs) ∙ ap (λ (k : ℕ). share_by place (active_at k rs)) (sym same)
      | inr apart ↦ (let below : slot < n = omega (arith, low, apart) in share_in-append_low slot before (share_for place last) (omega (arith, below, long)) ∙ shares_below-in place n slot rs below)
    ]

opening_holds : (name : Bytes) (shares : List (Option Usage)) (s : State) → shares ≡ namespace_shares name s → Holds name shares s
opening_holds name shares s are = by (place_of name s.namespaces) refl
  where
    by : (o : Option ℕ) → place_of name s.namespaces ≡ o → Holds name shares s
    by (Some place) named =
        let same : shares ≡ shares_of s.slots place s.records = are ∙ rw named refl in
        record {
          places = ap (λ (l : List (Option Usage)). length l) same ∙ shares_below-length place s.slots s.records;
          agrees = λ slot low. ap (share_of_slot slot) same ∙ shares_below-in place s.slots slot s.records low ∙ rw named refl;
        }
    by None unnamed =
        let same : shares ≡ no_shares s.slots = are ∙ rw unnamed refl in
        record {
          places = ap (λ (l : List (Option Usage)). length l) same ∙ length-replicate s.slots None;
          agrees = λ slot low. ap (share_of_slot slot) same ∙ get_or-replicate s.slots slot None None low ∙ rw unnamed refl;
        }

-- what the entries of a round tell, from the charge after them all
pub told_history : (name : Bytes) (shares : List (Option Usage)) (s : State) (es : List Entry) (t : State) → Good s → shares ≡ namespace_shares name s → Replays s es t
    → entry_infos_of name s.entries shares (charge_before (namespace_charge name t) (changes_of name shares es)) es ≡ history name s es
told_history name shares s es t good are h =
    let held = opening_holds name shares s are in
    ap (λ (u : Usage). entry_infos_of name s.entries shares u es) (charge_back name s shares es t good held h) ∙ infos_are name s shares es t good held h
