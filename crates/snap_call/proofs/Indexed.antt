-- The table of slots agrees with the records, after each change.
use Rattle.std.proofs.Common.{◌≡◌, ◌≢◌, ℕ, zero, suc, Bool, true, false, true≢false, eqb, eq-eqb, cond, Bor, List, [], ◌∷◌, ◌++◌, Option, Some, None, Result, Ok, Err, OnOk, OnErr, refl, sym, ap, ◌∙◌, subst, ⊎_elim}
use Rattle.std.proofs.lemmas.Bool.{false_from_ne_true}
use Rattle.std.proofs.lemmas.Bool.Decides.{eqb_tells}
use Rattle.std.specs.List.{AllByRecursion, find, list_any}
use Rattle.std.specs.List.Sorted.{IsStrictlySortedBy}
use Rattle.std.specs.Option.{IsSome, option_copied, option_map, is_some}
use Rattle.std.specs.Result.{is_ok}
use Rattle.std.specs.Prelude.{if◌then◌else◌, ◌||◌}
use Rattle.snap_usage.specs.declared.usage.Usage.{Usage}
use Rattle.snap_record.specs.Labels.{Bytes, Label}
use Rattle.snap_record.specs.declared.record.Content.{Content}
use Rattle.snap_record.specs.declared.record.Content.TheVariants.{View, Active, Committed}
use Rattle.snap_record.specs.declared.record.Record.{Record}
use Rattle.snap_call.specs.Indexes.{AreIndexed, name_in, record_name_of, slot_of}
use Rattle.snap_call.specs.Records.{is_named, record_at, has_key, has_slot, is_slot, is_active, active_at, with_record, without_first, without_slot, without_key, recharged, relabelled, AllPairwise, AreApart, HasLowSlot, max_slots}
use Rattle.snap_call.specs.Spaces.{edited_at}
use Rattle.snap_call.specs.declared.open_slots.Name.{Name}
use Rattle.snap_call.specs.declared.record_edit.RecordEdit.TheVariants as edits
use Rattle.snap_call.proofs.Alike.{AreAlike, all-relabelled, alike-active_at, alike-active_at_None, bare, bare-relabelled, pairwise-relabelled, sorted-relabelled}
use Rattle.snap_call.proofs.Lists.{active_at-is_slot, all-map, find-passes, same_slot, all-recharged, all-with_record, all-without, find-all, find-none, none_some, pairwise-recharged, pairwise-with_record, pairwise-without, some_same, with_charge}
use Rattle.snap_call.proofs.Keeping.{place_anew}
use Rattle.snap_call.proofs.InOrder.{own_found, own_named, sorted-recharged, sorted-with_record, sorted-without}
use Rattle.snap_call.proofs.Slots.{active_at-recharged_other, active_at-recharged_own, active_at-with_record_other, active_at-with_record_own, active_at-without_idle, active_at-without_slot_other, active_at-without_slot_own, is_slot-other}

-- ---- the table

-- a free place more at the end changes nothing
pub name_in_pushed : (k : ℕ) (names : List (Option Name)) → name_in k (names ++ None ∷ []) ≡ name_in k names
name_in_pushed zero [] = refl
name_in_pushed (suc k) [] = refl
name_in_pushed zero (n ∷ names) = refl
name_in_pushed (suc k) (n ∷ names) = name_in_pushed k names

-- ---- what is found

-- a list passes a test where one is found
pub any-found_some : {X : Type 0} (p : X → Bool) (xs : List X) → list_any p xs ≡ is_some (find p xs)
any-found_some p [] = refl
any-found_some p (x ∷ xs) = elim (p x) as (λ b. (b || list_any p xs) ≡ is_some (cond b (Some x) (find p xs))) [ true ↦ refl | false ↦ any-found_some p xs ]

-- a reference is there where what it refers to is
pub some-copied : {X : Type 0} (o : Option (Bor X)) → is_some (option_copied o) ≡ is_some o
some-copied None = refl
some-copied (Some r) = refl

-- where a key is found, the namespace has it
pub has_key-found : (place : ℕ) (key : Bytes) (rs : List Record) (o : Option (Bor Record)) → option_copied o ≡ record_at place key rs → is_some o ≡ has_key place key rs
has_key-found place key rs o e = sym (some-copied o) ∙ ap is_some e ∙ sym (any-found_some (is_named place key) rs)

-- the slot of a content is the one that it has
slot_of-has : (slot : ℕ) (c : Content) → slot_of c ≡ Some slot → has_slot slot c ≡ true
slot_of-has slot (View layers) e = absurd (none_some slot e)
slot_of-has slot (Active s u) e = eq-eqb s slot (some_same s slot e)
slot_of-has slot (Committed layer u) e = absurd (none_some slot e)

slot_of-idle : (c : Content) → slot_of c ≡ None → is_active c ≡ false
slot_of-idle (View layers) e = refl
slot_of-idle (Active s u) e = absurd (none_some s (sym e))
slot_of-idle (Committed layer u) e = refl

slot_of-none : (k : ℕ) (c : Content) → slot_of c ≡ None → has_slot k c ≡ false
slot_of-none k (View layers) e = refl
slot_of-none k (Active s u) e = absurd (none_some s (sym e))
slot_of-none k (Committed layer u) e = refl

-- two tests that find the same record take the same away
pub without-same : (p q : Record → Bool) (rs : List Record) (r : Record) → p r ≡ true → q r ≡ true → find p rs ≡ Some r → find q rs ≡ Some r → without_first p rs ≡ without_first q rs
without-same p q [] r at here e f = refl
without-same p q (t ∷ ts) r at here e f = by (p t) refl (q t) refl e f (without-same p q ts r at here)
  where
    by : (b : Bool) → p t ≡ b → (c : Bool) → q t ≡ c → cond b (Some t) (find p ts) ≡ Some r → cond c (Some t) (find q ts) ≡ Some r → (find p ts ≡ Some r → find q ts ≡ Some r → without_first p ts ≡ without_first q ts)
        → (if b then ts else t ∷ without_first p ts) ≡ (if c then ts else t ∷ without_first q ts)
    by true is true are found other next = refl
    by true is false are found other next = absurd (true≢false (sym here ∙ ap q (sym (some_same t r found)) ∙ are))
    by false is true are found other next = absurd (true≢false (sym at ∙ ap p (sym (some_same t r other)) ∙ is))
    by false is false are found other next = ap (λ l. t ∷ l) (next found other)

-- where nothing is found, nothing is taken away
pub without-none : (p : Record → Bool) (rs : List Record) → find p rs ≡ None → without_first p rs ≡ rs
without-none p [] e = refl
without-none p (t ∷ ts) e = by (p t) e (without-none p ts)
  where
    by : (b : Bool) → cond b (Some t) (find p ts) ≡ None → (find p ts ≡ None → without_first p ts ≡ ts) → (if b then ts else t ∷ without_first p ts) ≡ t ∷ ts
    by true found next = absurd (none_some t (sym found))
    by false found next = ap (λ l. t ∷ l) (next found)

-- a record that is found by its key gets the content that it gets where it is found by its slot
pub edited-recharged : (place : ℕ) (key : Bytes) (slot : ℕ) (to : Usage) (rs : List Record) (r : Record) → is_named place key r ≡ true → is_slot slot r ≡ true → record_at place key rs ≡ Some r → active_at slot rs ≡ Some r
    → edited_at place key (edits.Content (Active slot to)) rs ≡ recharged slot to rs
edited-recharged place key slot to [] r at here e f = refl
edited-recharged place key slot to (t ∷ ts) r at here e f = by (is_named place key t) refl (is_slot slot t) refl e f (edited-recharged place key slot to ts r at here)
  where
    by : (b : Bool) → is_named place key t ≡ b → (c : Bool) → is_slot slot t ≡ c → cond b (Some t) (record_at place key ts) ≡ Some r → cond c (Some t) (active_at slot ts) ≡ Some r
        → (record_at place key ts ≡ Some r → active_at slot ts ≡ Some r → edited_at place key (edits.Content (Active slot to)) ts ≡ recharged slot to ts)
        → (if b then with_charge slot to t ∷ ts else t ∷ edited_at place key (edits.Content (Active slot to)) ts) ≡ (if c then with_charge slot to t ∷ ts else t ∷ recharged slot to ts)
    by true is true are found other next = refl
    by true is false are found other next = absurd (true≢false (sym here ∙ ap (is_slot slot) (sym (some_same t r found)) ∙ are))
    by false is true are found other next = absurd (true≢false (sym at ∙ ap (is_named place key) (sym (some_same t r other)) ∙ is))
    by false is false are found other next = ap (λ l. t ∷ l) (next found other)

pub recharged-none : (slot : ℕ) (to : Usage) (rs : List Record) → active_at slot rs ≡ None → recharged slot to rs ≡ rs
recharged-none slot to [] e = refl
recharged-none slot to (t ∷ ts) e = by (is_slot slot t) e (recharged-none slot to ts)
  where
    by : (b : Bool) → cond b (Some t) (active_at slot ts) ≡ None → (active_at slot ts ≡ None → recharged slot to ts ≡ ts) → (if b then with_charge slot to t ∷ ts else t ∷ recharged slot to ts) ≡ t ∷ ts
    by true found next = absurd (none_some t (sym found))
    by false found next = ap (λ l. t ∷ l) (next found)

-- the record that is active in a slot is found in it, however it was found first
pub slot-found : (p : Record → Bool) (slot : ℕ) (rs : List Record) (r : Record) → AllPairwise AreApart rs → find p rs ≡ Some r → is_slot slot r ≡ true → active_at slot rs ≡ Some r
slot-found p slot [] r apart e is = absurd (none_some r e)
slot-found p slot (t ∷ ts) r apart e is = by (p t) e (λ found. slot-found p slot ts r apart.1 found is)
  where
    by : (b : Bool) → cond b (Some t) (find p ts) ≡ Some r → (find p ts ≡ Some r → active_at slot ts ≡ Some r) → cond (is_slot slot t) (Some t) (active_at slot ts) ≡ Some r
    by true found next = ap (λ b. cond b (Some t) (active_at slot ts)) (ap (is_slot slot) (some_same t r found) ∙ is) ∙ found
    by false found next =
        let other : is_slot slot t ≡ false = false_from_ne_true (is_slot slot t) (λ here. true≢false (sym is ∙ find-all (AreApart t) p ts r found apart.0 slot here)) in
        ap (λ b. cond b (Some t) (active_at slot ts)) other ∙ next found

-- ---- the table and the records

module _ (rs : List Record) (names : List (Option Name)) (at : AreIndexed rs names) where
  -- the name of a slot is that of the record that is active in it
  pub named : (slot : ℕ) (n : Name) → name_in slot names ≡ Some n → (r : Record) × (active_at slot rs ≡ Some r) × (n ≡ record_name_of r)
  named slot n e = by (active_at slot rs) refl (sym (at.slots slot) ∙ e)
    where
      by : (o : Option Record) → active_at slot rs ≡ o → option_map record_name_of o ≡ Some n → (r : Record) × (active_at slot rs ≡ Some r) × (n ≡ record_name_of r)
      by None is f = absurd (none_some n f)
      by (Some r) is f = (r, is, sym (some_same (record_name_of r) n f))

  pub unnamed : (slot : ℕ) → name_in slot names ≡ None → active_at slot rs ≡ None
  unnamed slot e = by (active_at slot rs) refl (sym (at.slots slot) ∙ e)
    where
      by : (o : Option Record) → active_at slot rs ≡ o → option_map record_name_of o ≡ None → active_at slot rs ≡ None
      by None is f = is
      by (Some r) is f = absurd (none_some (record_name_of r) (sym f))

  -- and by that name it is found
  pub by_name : (slot : ℕ) (r : Record) → active_at slot rs ≡ Some r → record_at r.namespace r.key rs ≡ Some r
  by_name slot r e = find-all (λ t. record_at t.namespace t.key rs ≡ Some t) (is_slot slot) rs r e (own_found rs at.sorted)

  pub found_at : (slot : ℕ) (n : Name) → name_in slot names ≡ Some n → record_at n.place n.key rs ≡ active_at slot rs
  found_at slot n e =
      let h = named slot n e in
      ap (λ (m : Name). record_at m.place m.key rs) h.2 ∙ by_name slot h.0 h.1 ∙ sym h.1

  -- the slot is open where it has a name
  pub open_named : (slot : ℕ) → is_some (name_in slot names) ≡ list_any (is_slot slot) rs
  open_named slot = ap is_some (at.slots slot) ∙ mapped (active_at slot rs) ∙ sym (any-found_some (is_slot slot) rs)
    where
      mapped : (o : Option Record) → is_some (option_map record_name_of o) ≡ is_some o
      mapped None = refl
      mapped (Some r) = refl

  -- what goes by the name goes by the slot
  pub taken_at : (slot : ℕ) (n : Name) → name_in slot names ≡ Some n → without_key n.place n.key rs ≡ without_slot slot rs
  taken_at slot n e =
      let h = named slot n e in
      ap (λ (m : Name). without_key m.place m.key rs) h.2
      ∙ without-same (is_named h.0.namespace h.0.key) (is_slot slot) rs h.0 (own_named h.0) (active_at-is_slot slot rs h.0 h.1) (by_name slot h.0 h.1) h.1

  -- who goes by it is active
  pub active_by_name : (slot : ℕ) (n : Name) → name_in slot names ≡ Some n → (r : Record) → record_at n.place n.key rs ≡ Some r → IsSome (slot_of r.content)
  active_by_name slot n e r found = held r.content (active_at-is_slot slot rs r (sym (found_at slot n e) ∙ found))
    where
      held : (content : Content) → has_slot slot content ≡ true → IsSome (slot_of content)
      held (View layers) is = absurd (true≢false (sym is))
      held (Active own charged) is = refl
      held (Committed layer usage) is = absurd (true≢false (sym is))

  pub recharged_at : (slot : ℕ) (n : Name) (to : Usage) → name_in slot names ≡ Some n → edited_at n.place n.key (edits.Content (Active slot to)) rs ≡ recharged slot to rs
  recharged_at slot n to e =
      let h = named slot n e in
      ap (λ (m : Name). edited_at m.place m.key (edits.Content (Active slot to)) rs) h.2
      ∙ edited-recharged h.0.namespace h.0.key slot to rs h.0 (own_named h.0) (active_at-is_slot slot rs h.0 h.1) (by_name slot h.0 h.1) h.1

-- ---- the changes

-- a table once a slot has another name or none
abbrev name_after : ℕ → ℕ → Option Name → List (Option Name) → Option Name
name_after k slot name names = if eqb k slot then name else name_in k names

after_own : (slot : ℕ) (name : Option Name) (names : List (Option Name)) → name_after slot slot name names ≡ name
after_own slot name names = ap (λ b. if b then name else name_in slot names) (eq-eqb slot slot refl)

after_other : (k slot : ℕ) (name : Option Name) (names : List (Option Name)) → eqb k slot ≡ false → name_after k slot name names ≡ name_in k names
after_other k slot name names ne = ap (λ b. if b then name else name_in k names) ne

-- at each slot a fact is that of the one that changed or of another
at_slot : (P : ℕ → Type 0) (slot : ℕ) → P slot → ((k : ℕ) → eqb k slot ≡ false → k ≢ slot → P k) → (k : ℕ) → P k
at_slot P slot own other k =
    ⊎_elim
    (λ (h : (eqb k slot ≡ true) × (k ≡ slot)). subst P (sym h.1) own)
    (λ (h : (eqb k slot ≡ false) × (k ≢ slot)). other k h.0 h.1)
    (eqb_tells k slot)

-- no other record is in the slot of one whose slot is free
apart_all : (r : Record) (rs : List Record) → ((slot : ℕ) → is_slot slot r ≡ true → active_at slot rs ≡ None) → AllByRecursion (AreApart r) rs
apart_all r [] free = tt
apart_all r (t ∷ ts) free = (λ slot is. (none slot is).0, apart_all r ts (λ slot is. past slot is))
  where
    none : (slot : ℕ) → is_slot slot r ≡ true → AllByRecursion (λ u. is_slot slot u ≡ false) (t ∷ ts)
    none slot is = find-none (is_slot slot) (t ∷ ts) (free slot is)

    past : (slot : ℕ) → is_slot slot r ≡ true → active_at slot ts ≡ None
    past slot is = sym (ap (λ b. cond b (Some t) (active_at slot ts)) (none slot is).0) ∙ free slot is

apart_back : (r : Record) (rs : List Record) → AllByRecursion (AreApart r) rs → AllByRecursion (λ t. AreApart t r) rs
apart_back r rs apart = all-map (AreApart r) (λ t. AreApart t r) (λ t h slot is. false_from_ne_true (is_slot slot r) (λ own. true≢false (sym is ∙ h slot own))) rs apart

module _ (rs : List Record) (names : List (Option Name)) (at : AreIndexed rs names) where
  -- the same table in other words
  pub indexed-same : (others : List (Option Name)) → ((k : ℕ) → name_in k others ≡ name_in k names) → AreIndexed rs others
  indexed-same others same = record { sorted = at.sorted; apart = at.apart; low = at.low; slots = λ k. same k ∙ at.slots k }

  -- one more record
  module _ (r : Record) (new : has_key r.namespace r.key rs ≡ false) (few : HasLowSlot max_slots r.content) (free : (slot : ℕ) → is_slot slot r ≡ true → active_at slot rs ≡ None) where
    indexed-more : (others : List (Option Name)) → ((k : ℕ) → name_in k others ≡ option_map record_name_of (active_at k (with_record r rs))) → AreIndexed (with_record r rs) others
    indexed-more others slots = record {
      sorted = sorted-with_record r rs new at.sorted;
      apart = pairwise-with_record r AreApart rs (apart_all r rs free) (apart_back r rs (apart_all r rs free)) at.apart;
      low = all-with_record r (λ t. HasLowSlot max_slots t.content) rs few at.low;
      slots = slots;
    }

    pub indexed-with_idle : ((k : ℕ) → is_slot k r ≡ false) → AreIndexed (with_record r rs) names
    indexed-with_idle idle = indexed-more names (λ k. at.slots k ∙ ap (option_map record_name_of) (sym (active_at-with_record_other k r rs (idle k))))

    pub indexed-with_active : (slot : ℕ) (others : List (Option Name)) → is_slot slot r ≡ true → ((k : ℕ) → name_in k others ≡ name_after k slot (Some (record_name_of r)) names) → AreIndexed (with_record r rs) others
    indexed-with_active slot others is put = indexed-more others
        (at_slot (λ k. name_in k others ≡ option_map record_name_of (active_at k (with_record r rs))) slot
        (put slot ∙ after_own slot (Some (record_name_of r)) names ∙ ap (option_map record_name_of) (sym (active_at-with_record_own slot r rs is (free slot is))))
        (λ k other ne. put k ∙ after_other k slot (Some (record_name_of r)) names other ∙ at.slots k ∙ ap (option_map record_name_of) (sym (active_at-with_record_other k r rs (is_slot-other slot k r ne is)))))

  -- one record fewer
  indexed-less : (p : Record → Bool) (others : List (Option Name)) → ((k : ℕ) → name_in k others ≡ option_map record_name_of (active_at k (without_first p rs))) → AreIndexed (without_first p rs) others
  indexed-less p others slots = record {
    sorted = sorted-without p rs at.sorted;
    apart = pairwise-without p AreApart rs at.apart;
    low = all-without p (λ t. HasLowSlot max_slots t.content) rs at.low;
    slots = slots;
  }

  pub indexed-without_slot : (slot : ℕ) (others : List (Option Name)) → ((k : ℕ) → name_in k others ≡ name_after k slot None names) → AreIndexed (without_slot slot rs) others
  indexed-without_slot slot others freed = indexed-less (is_slot slot) others
      (at_slot (λ k. name_in k others ≡ option_map record_name_of (active_at k (without_slot slot rs))) slot
      (freed slot ∙ after_own slot None names ∙ ap (option_map record_name_of) (sym (active_at-without_slot_own slot rs at.apart)))
      (λ k other ne. freed k ∙ after_other k slot None names other ∙ at.slots k ∙ ap (option_map record_name_of) (sym (active_at-without_slot_other slot k rs ne))))

  pub indexed-without_active : (p : Record → Bool) (r : Record) (slot : ℕ) (others : List (Option Name)) → find p rs ≡ Some r → p r ≡ true → is_slot slot r ≡ true → ((k : ℕ) → name_in k others ≡ name_after k slot None names) → AreIndexed (without_first p rs) others
  indexed-without_active p r slot others e here is freed =
      let same : without_first p rs ≡ without_slot slot rs = without-same p (is_slot slot) rs r here is e (slot-found p slot rs r at.apart e is) in
      subst (λ ts. AreIndexed ts others) (sym same) (indexed-without_slot slot others freed)

  pub indexed-without_idle : (p : Record → Bool) (r : Record) → find p rs ≡ Some r → is_active r.content ≡ false → AreIndexed (without_first p rs) names
  indexed-without_idle p r e idle = indexed-less p names (λ k. at.slots k ∙ ap (option_map record_name_of) (sym (active_at-without_idle k p rs r e idle)))

  -- another charge
  pub indexed-recharged : (slot : ℕ) (to : Usage) (n : Name) → name_in slot names ≡ Some n → AreIndexed (recharged slot to rs) names
  indexed-recharged slot to n e = record {
    sorted = sorted-recharged slot to rs at.sorted;
    apart = pairwise-recharged slot to AreApart rs
        (λ t u is h k out. h k (sym (same_slot slot k to t.content is) ∙ out))
        (λ t u is h k out. same_slot slot k to u.content is ∙ h k out)
        at.apart;
    low = all-recharged slot to (λ t. HasLowSlot max_slots t.content) rs (λ t is h. place_anew slot to max_slots t.content is h) at.low;
    slots = at_slot (λ k. name_in k names ≡ option_map record_name_of (active_at k (recharged slot to rs))) slot own
        (λ k other ne. at.slots k ∙ ap (option_map record_name_of) (sym (active_at-recharged_other slot k to rs ne)));
  }
    where
      own : name_in slot names ≡ option_map record_name_of (active_at slot (recharged slot to rs))
      own =
          let h = named rs names at slot n e in
          at.slots slot ∙ ap (option_map record_name_of) h.1 ∙ ap (option_map record_name_of) (sym (active_at-recharged_own slot to rs h.0 h.1))

  -- other labels
  pub indexed-relabelled : (place : ℕ) (key : Bytes) (labels : List Label) (number : ℕ) → AreIndexed (relabelled place key labels number rs) names
  indexed-relabelled place key labels number = record {
    sorted = sorted-relabelled place key labels number rs at.sorted;
    apart = pairwise-relabelled place key labels number AreApart rs (λ t u h. h) (λ t u h. h) at.apart;
    low = all-relabelled place key labels number (λ t. HasLowSlot max_slots t.content) rs (λ t h. h) at.low;
    slots = λ k. at.slots k ∙ same k (active_at k rs) refl;
  }
    where
      alike : AreAlike rs (relabelled place key labels number rs)
      alike = bare-relabelled place key labels number rs

      bare_name : (r t : Record) → bare t ≡ bare r → record_name_of r ≡ record_name_of t
      bare_name r t e = sym (ap record_name_of e)

      same : (k : ℕ) (o : Option Record) → active_at k rs ≡ o → option_map record_name_of (active_at k rs) ≡ option_map record_name_of (active_at k (relabelled place key labels number rs))
      same k None e = ap (option_map record_name_of) (e ∙ sym (alike-active_at_None rs (relabelled place key labels number rs) alike k e))
      same k (Some r) e =
          let h = alike-active_at rs (relabelled place key labels number rs) alike k r e in
          ap (option_map record_name_of) e ∙ ap (λ (n : Name). Some n) (bare_name r h.0 h.2) ∙ ap (option_map record_name_of) (sym h.1)

-- no records
pub indexed-none : AreIndexed [] []
unfolding IsStrictlySortedBy
indexed-none = record { sorted = tt; apart = tt; low = tt; slots = λ k. refl }

-- ---- as the calls have it

module _ (rs : List Record) (names : List (Option Name)) (at : AreIndexed rs names) where
  -- a table whose free slot was freed
  pub indexed-freed : (slot : ℕ) (others : List (Option Name)) → name_in slot names ≡ None → ((k : ℕ) → name_in k others ≡ name_after k slot None names) → AreIndexed rs others
  indexed-freed slot others none freed = indexed-same rs names at others
      (at_slot (λ k. name_in k others ≡ name_in k names) slot (freed slot ∙ after_own slot None names ∙ sym none) (λ k other ne. freed k ∙ after_other k slot None names other))

  -- a record that isn't active comes, or memory is refused
  pub indexed-tried : {E : Type 0} (r : Record) (done : Result (Unit {0}) E) (ts : List Record) → has_key r.namespace r.key rs ≡ false → HasLowSlot max_slots r.content → ((slot : ℕ) → is_slot slot r ≡ true → active_at slot rs ≡ None)
      → slot_of r.content ≡ None → OnOk done (ts ≡ with_record r rs) → OnErr done (ts ≡ rs) → AreIndexed ts names
  indexed-tried r (Ok u) ts new few free idle ok err = subst (λ l. AreIndexed l names) (sym ok) (indexed-with_idle rs names at r new few free (λ k. slot_of-none k r.content idle))
  indexed-tried r (Err e) ts new few free idle ok err = subst (λ l. AreIndexed l names) (sym err) at

  -- an active one came
  pub indexed-came : {E : Type 0} (r : Record) (slot : ℕ) (n : Name) (done : Result (Unit {0}) E) (ts : List Record) (middle others : List (Option Name)) → has_key r.namespace r.key rs ≡ false → HasLowSlot max_slots r.content → ((k : ℕ) → is_slot k r ≡ true → active_at k rs ≡ None)
      → slot_of r.content ≡ Some slot → n ≡ record_name_of r → is_ok done ≡ true → OnOk done (ts ≡ with_record r rs)
      → ((k : ℕ) → name_in k middle ≡ name_in k names) → ((k : ℕ) → name_in k others ≡ name_after k slot (Some n) middle) → AreIndexed ts others
  indexed-came r slot n (Err e) ts middle others new few free own is done ok same put = absurd (true≢false (sym done))
  indexed-came r slot n (Ok u) ts middle others new few free own is done ok same put =
      subst (λ l. AreIndexed l others) (sym ok) (indexed-with_active rs names at r new few free slot others (slot_of-has slot r.content own)
      (λ k. put k ∙ ap (λ (m : Name). name_after k slot (Some m) middle) is ∙ ap (λ (o : Option Name). if eqb k slot then Some (record_name_of r) else o) (same k)))

  -- the record of a key goes
  module _ (place : ℕ) (key : Bytes) (ts : List Record) (taken : Option Record) (left : ts ≡ without_key place key rs) (gone : taken ≡ record_at place key rs) where
    pub indexed-stays : taken ≡ None → AreIndexed ts names
    indexed-stays none = subst (λ l. AreIndexed l names) (sym (left ∙ without-none (is_named place key) rs (sym gone ∙ none))) at

    pub indexed-taken_idle : (r : Record) → taken ≡ Some r → slot_of r.content ≡ None → AreIndexed ts names
    indexed-taken_idle r some idle = subst (λ l. AreIndexed l names) (sym left) (indexed-without_idle rs names at (is_named place key) r (sym gone ∙ some) (slot_of-idle r.content idle))

    pub indexed-taken_active : (r : Record) (slot : ℕ) (others : List (Option Name)) → taken ≡ Some r → slot_of r.content ≡ Some slot → ((k : ℕ) → name_in k others ≡ name_after k slot None names) → AreIndexed ts others
    indexed-taken_active r slot others some own freed =
        let e : record_at place key rs ≡ Some r = sym gone ∙ some in
        subst (λ l. AreIndexed l others) (sym left) (indexed-without_active rs names at (is_named place key) r slot others e (find-passes (is_named place key) rs r e) (slot_of-has slot r.content own) freed)
