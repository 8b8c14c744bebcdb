-- What is true of a state that a saved snapshot is put back into.
use Rattle.std.proofs.Common.{◌≡◌, ℕ, ◌+◌, ◌<◌, ◌≤◌, true, false, true≢false, List, [], ◌∷◌, None, refl, sym, ap, ◌∙◌, subst, arith}
use Rattle.std.specs.Prelude.{◌&&◌, nat_le, nat_lt, Ok}
use Rattle.std.specs.List.{AllByRecursion, list_any}
use Rattle.std.proofs.lemmas.Bool.{and_parts, eqb-true, false_from_ne_true, leb-true, ltb-true}
use Rattle.snap_usage.specs.declared.usage.Usage.{Usage}
use Rattle.snap_usage.specs.Counted.{covers}
use Rattle.snap_ledger.specs.States.{CoversOne, plus}
use Rattle.snap_record.specs.Labels.{Bytes}
use Rattle.snap_record.specs.Records.{usage_of}
use Rattle.snap_record.specs.declared.record.Content.{Content}
use Rattle.snap_record.specs.declared.record.Content.TheVariants as contents
use Rattle.snap_record.specs.declared.record.Record.{Record}
use Rattle.snap_call.specs.declared.refusal.Refusal.TheVariants.{BadArgument, TooManyActives, NumbersSpent}
use Rattle.snap_call.specs.declared.saved.Saved.{Saved}
use Rattle.snap_call.specs.declared.saved.SavedContent.{SavedContent}
use Rattle.snap_call.specs.declared.saved.SavedContent.TheVariants.{View, Active, Committed}
use Rattle.snap_call.specs.declared.state.State.{State}
use Rattle.snap_call.specs.Good.{Good, IsShown}
use Rattle.snap_call.specs.Promised.{IsUsageCounted}
use Rattle.snap_call.specs.Records.{charge_of, has_slot, is_slot, active_at, AreApart, HasLowSlot}
use Rattle.snap_call.specs.Saved.{CanPutBack, HasFreeSlot, charge_for, content_for, numbers_answer, record_of, room_answer, slot_answer, with_saved}
use Rattle.snap_call.specs.State.{limit_at, over_limit}
use Rattle.snap_call.specs.Step.{one, place_for}
use Rattle.snap_call.proofs.Formed.{all_later}
use Rattle.snap_call.proofs.Keeping.{covers-Covers, good_joined}
use Rattle.snap_call.proofs.Leasing.{place_of-taken}
use Rattle.snap_call.proofs.Lists.{all-map, find-none}
use Rattle.snap_call.proofs.Lowest.{is_taken-None}
use Rattle.snap_call.proofs.Places.{past_needed, past_test, place_for-Ok, place_for-texts}

-- ---- a slot that is free

module _ (s : State) where
  free_low : (most : ℕ) (c : Content) → s.slots ≤ most → HasFreeSlot s c → HasLowSlot most c
  free_low most (contents.View layers) few free = tt
  free_low most (contents.Active slot charged) few free = omega (arith, few, free.0)
  free_low most (contents.Committed layer usage) few free = tt

  free_below : (k : ℕ) (c : Content) → HasFreeSlot s c → has_slot k c ≡ true → k < s.slots
  free_below k (contents.View layers) free is = absurd (true≢false (sym is))
  free_below k (contents.Active slot charged) free is = subst (λ (n : ℕ). n < s.slots) (eqb-true slot k is) free.0
  free_below k (contents.Committed layer usage) free is = absurd (true≢false (sym is))

  free_covers : (k : ℕ) (c : Content) → HasFreeSlot s c → has_slot k c ≡ true → CoversOne (usage_of c)
  free_covers k (contents.View layers) free is = absurd (true≢false (sym is))
  free_covers k (contents.Active slot charged) free is = free.2
  free_covers k (contents.Committed layer usage) free is = absurd (true≢false (sym is))

  free_in : (k : ℕ) (c : Content) → HasFreeSlot s c → has_slot k c ≡ true → active_at k s.records ≡ None
  free_in k (contents.View layers) free is = absurd (true≢false (sym is))
  free_in k (contents.Active slot charged) free is = subst (λ (n : ℕ). active_at n s.records ≡ None) (eqb-true slot k is) free.1
  free_in k (contents.Committed layer usage) free is = absurd (true≢false (sym is))

  -- no snapshot is active in the slot of a record that can be put back
  pub free_slot : (r : Record) → CanPutBack s r → (slot : ℕ) → is_slot slot r ≡ true → active_at slot s.records ≡ None
  free_slot r can slot is = free_in slot r.content can.slot is

  -- the slot is one of the store's
  pub low_slot : (r : Record) → CanPutBack s r → (slot : ℕ) → is_slot slot r ≡ true → slot < s.slots
  low_slot r can slot is = free_below slot r.content can.slot is

  pub few_slots : (r : Record) → CanPutBack s r → (most : ℕ) → s.slots ≤ most → HasLowSlot most r.content
  few_slots r can most few = free_low most r.content few can.slot

  -- and is charged at least 1/1
  pub covers_one : (r : Record) → CanPutBack s r → (slot : ℕ) → is_slot slot r ≡ true → CoversOne (usage_of r.content)
  covers_one r can slot is = free_covers slot r.content can.slot is

-- so it is apart from all others
apart_from : (r : Record) (rs : List Record) → ((slot : ℕ) → is_slot slot r ≡ true → AllByRecursion (λ t. is_slot slot t ≡ false) rs) → AllByRecursion (AreApart r) rs
apart_from r [] free = tt
apart_from r (t ∷ ts) free = (λ slot is. (free slot is).0, apart_from r ts (λ slot is. (free slot is).1))

apart_turned : (r t : Record) → AreApart r t → AreApart t r
apart_turned r t apart slot held = false_from_ne_true (is_slot slot r) (λ is. true≢false (sym held ∙ apart slot is))

-- a state stays good
pub good_saved : (s : State) (r : Record) → Good s → CanPutBack s r → Good (with_saved s r)
good_saved s r good can =
    good_joined s r (r.id + 1) s.entries good can.taken can.new can.base can.deep can.above (omega arith) (omega arith) can.formed can.counted (few_slots s r can s.slots (omega arith)) can.shown
    apart (all-map (AreApart r) (λ t. AreApart t r) (apart_turned r) s.records apart)
    (covers-Covers (limit_at r.namespace s.namespaces) (plus (charge_of r.namespace s.records) (usage_of r.content)) can.fits)
  where
    apart : AllByRecursion (AreApart r) s.records
    apart = apart_from r s.records (λ slot is. find-none (is_slot slot) s.records (free_slot s r can slot is))

-- a greater next id, and a greater number of entries
pub good_numbered : (s : State) (next entries : ℕ) → s.next_id ≤ next → s.entries ≤ entries → Good s → Good (record s { next_id = next; entries = entries })
good_numbered s next entries more later good = record {
  root = good.root;
  promised = record {
    parents = good.promised.parents;
    leased = good.promised.leased;
    counted = good.promised.counted;
    within = good.promised.within;
    chains = good.promised.chains;
  };
  named_once = good.named_once;
  lease_names = good.lease_names;
  lease_keys = good.lease_keys;
  limits = good.limits;
  short = good.short;
  distinct = good.distinct;
  spaces = good.spaces;
  few_spaces = good.few_spaces;
  placed = good.placed;
  sorted = good.sorted;
  ids = good.ids;
  numbered = all-map (λ r. r.id < s.next_id) (λ r. r.id < next) (λ r h. omega (arith, h, more)) s.records good.numbered;
  rising = good.rising;
  fewer = omega (arith, good.fewer, more);
  formed = all_later s.entries entries later s.records good.formed;
  few_slots = good.few_slots;
  slots = good.slots;
  open_slots = good.open_slots;
  shown = good.shown;
  layers = good.layers;
  most = good.most;
}

-- ---- what the tests show

content_shown : (c : SavedContent) (place : ℕ) (parent : Bytes) (rs : List Record) → IsShown rs place parent (content_for c place parent rs)
content_shown View place parent rs = refl
content_shown (Active slot charged) place parent rs = tt
content_shown (Committed layer) place parent rs = tt

content_counted : (c : SavedContent) (place : ℕ) (parent : Bytes) (rs : List Record) → IsUsageCounted (content_for c place parent rs)
content_counted View place parent rs = tt
content_counted (Active slot charged) place parent rs = tt
content_counted (Committed layer) place parent rs = refl

pub content_usage : (c : SavedContent) (place : ℕ) (parent : Bytes) (rs : List Record) → usage_of (content_for c place parent rs) ≡ charge_for c
content_usage View place parent rs = refl
content_usage (Active slot charged) place parent rs = refl
content_usage (Committed layer) place parent rs = refl

content_slot : (s : State) (c : SavedContent) (place : ℕ) (parent : Bytes) (rs : List Record) → slot_answer s c ≡ Ok tt → HasFreeSlot s (content_for c place parent rs)
content_slot s View place parent rs e = tt
content_slot s (Active slot charged) place parent rs e =
    let low = past_needed (nat_lt slot s.slots) TooManyActives _ tt e in
    let free = past_test (list_any (is_slot slot) s.records) TooManyActives _ tt low.1 in
    let one_more = past_needed (covers charged one) BadArgument _ tt free.1 in
    (ltb-true slot s.slots low.0, is_taken-None slot s.records free.0, covers-Covers charged one one_more.0)
content_slot s (Committed layer) place parent rs e = tt

module _ (s : State) (saved : Saved) (place : ℕ) where
  pub can_put_back : 1 ≤ saved.id → place_for s saved.namespace saved.key saved.parent saved.labels ≡ Ok place → numbers_answer s saved ≡ Ok tt → slot_answer s saved.content ≡ Ok tt → room_answer s place (charge_for saved.content) ≡ Ok tt → CanPutBack s (record_of s place saved)
  can_put_back positive at numbers slot room =
      let is = place_for-Ok s saved.namespace saved.key saved.parent saved.labels place at in
      let above = past_needed (nat_le s.next_id saved.id) NumbersSpent _ tt numbers in
      let known = past_needed (nat_le 1 saved.created && nat_le saved.created saved.updated && nat_le saved.updated s.entries) NumbersSpent _ tt above.1 in
      let both = and_parts (nat_le 1 saved.created && nat_le saved.created saved.updated) (nat_le saved.updated s.entries) known.0 in
      let first = and_parts (nat_le 1 saved.created) (nat_le saved.created saved.updated) both.0 in
      let fits = past_needed (covers (limit_at place s.namespaces) (plus (charge_of place s.records) (charge_for saved.content))) (over_limit s place) _ tt room in
      record {
        taken = place_of-taken saved.namespace s.namespaces place is.named;
        new = is.free;
        base = is.base;
        deep = is.deep;
        above = leb-true s.next_id saved.id above.0;
        formed = record {
          texts = place_for-texts s saved.namespace saved.key saved.parent saved.labels place at;
          above = positive;
          known = (leb-true 1 saved.created first.0, leb-true saved.created saved.updated first.1, leb-true saved.updated s.entries both.1);
        };
        slot = content_slot s saved.content place saved.parent s.records slot;
        shown = content_shown saved.content place saved.parent s.records;
        counted = content_counted saved.content place saved.parent s.records;
        fits = ap (λ (u : Usage). covers (limit_at place s.namespaces) (plus (charge_of place s.records) u)) (content_usage saved.content place saved.parent s.records) ∙ fits.0;
      }
