-- The hands stay those of the open slots while saved snapshots are put back.
use Rattle.std.proofs.Common.{◌≡◌, ℕ, ◌<◌, true, false, true≢false, Bool, List, [], ◌∷◌, length, eq-eqb, Option, None, Some, refl, sym, ap, ◌∙◌, subst, length-set, arith}
use Rattle.std.specs.Option.{option_map}
use Rattle.std.specs.Prelude.{IsTrue, Ok}
use Rattle.snap_layer.specs.Tree.{Tree}
use Rattle.snap_ledger.specs.States.{ShareState}
use Rattle.snap_record.specs.Labels.{Bytes}
use Rattle.snap_accounts.specs.Saved.{saved_share}
use Rattle.snap_book.specs.Active.{ActiveValue}
use Rattle.snap_call.specs.Step.{must}
use Rattle.snap_usage.specs.declared.usage.Usage.{Usage}
use Rattle.snap_usage.specs.Counted.{Covers, count_of, covers}
use Rattle.snap_record.specs.Records.{usage_of}
use Rattle.snap_record.specs.declared.record.Content.{Content}
use Rattle.snap_record.specs.declared.record.Content.TheVariants as contents
use Rattle.snap_record.specs.declared.record.Record.{Record}
use Rattle.snap_call.specs.declared.refusal.Refusal.TheVariants.{BadArgument}
use Rattle.snap_call.specs.declared.saved.Saved.{Saved}
use Rattle.snap_call.specs.declared.saved.SavedContent.{SavedContent}
use Rattle.snap_call.specs.declared.saved.SavedContent.TheVariants.{View, Active, Committed}
use Rattle.snap_call.specs.declared.state.State.{State}
use Rattle.snap_call.specs.Good.{Good}
use Rattle.snap_call.specs.Indexes.{slot_of}
use Rattle.snap_call.specs.Records.{active_at, has_slot, is_slot, with_record}
use Rattle.snap_call.specs.Saved.{CanPutBack, content_for, record_of, tests_answer, with_saved}
use Rattle.snap_call.specs.State.{ancestors, layers_of, most_ancestors}
use Rattle.snap_call.proofs.Chains.{Every, Keeps, Keeps-with_record, chain-found, every, keeps-ancestors, on_parent}
use Rattle.snap_call.proofs.Keeping.{covers-Covers, good_chains, good_deep}
use Rattle.snap_call.proofs.Lists.{some_same}
use Rattle.snap_call.proofs.Passing.{Covers-covers}
use Rattle.snap_call.proofs.Saving.{free_slot, good_saved, low_slot}
use Rattle.snap_call.proofs.Slots.{active_at-with_record_other, active_at-with_record_own, is_slot-other}
use Rattle.snap_world.specs.declared.restoring.SavedHand.{SavedHand}
use Rattle.snap_world.specs.Saved.{FitsSoFar, hand_answer, hands_after, restored_hand}
use Rattle.snap_world.specs.World.{AgreesAt, HandValue, hand_at, with_hand}
use Rattle.snap_world.proofs.Fitting.{AgreeAll, AreSame, agree_on, agree_set, same_where}

-- a content that isn't active has no slot
idle_slot : (k : ℕ) (c : Content) → slot_of c ≡ None → has_slot k c ≡ false
idle_slot k (contents.View layers) e = refl
idle_slot k (contents.Active slot charged) e = absurd (cc)
idle_slot k (contents.Committed layer usage) e = refl

module _ (s : State) (good : Good s) (r : Record) (can : CanPutBack s r) where
  -- the records with it
  abbrev more : List Record
  more = with_record r s.records

  keeps : Keeps s.records more
  keeps = Keeps-with_record r s.records can.new

  same_lowers : AreSame s.records more
  same_lowers = same_where s.records more (good_chains s good) keeps

  -- its committed ancestors are those that it is put upon
  pub own_lowers : layers_of (ancestors r.namespace r.parent more) ≡ layers_of (ancestors r.namespace r.parent s.records)
  own_lowers = ap layers_of (keeps-ancestors Every s.records more (every s.records more keeps) r.namespace r.parent (on_parent Every r.namespace r.parent tt) (chain-found most_ancestors s.records r.namespace r.parent (good_deep s good r.namespace r.parent can.deep)))

  module _ (hands : List (Option HandValue)) (agree : AgreeAll hands s.records) where
    -- a snapshot that isn't active changes no slot
    pub agree_idle : slot_of r.content ≡ None → AgreeAll hands more
    agree_idle idle = agree_on s.records more same_lowers hands agree (λ k. active_at-with_record_other k r s.records (idle_slot k r.content idle))

    -- the slot of an active one gets its hand
    pub agree_open : (slot : ℕ) (h : SavedHand) → is_slot slot r ≡ true → length hands ≡ s.slots → Covers (usage_of r.content) (count_of h.layer) → AgreeAll (with_hand slot (Some (restored_hand more slot h r)) hands) more
    agree_open slot h own places covers =
        let hand : HandValue = restored_hand more slot h r in
        let free : active_at slot s.records ≡ None = free_slot s r can slot own in
        let low : slot < s.slots = low_slot s r can slot own in
        agree_set s.records more same_lowers slot (Some hand) hands agree (omega (arith, low, places))
        (subst (λ (x : Option Record). AgreesAt slot more (Some hand) x) (sym (active_at-with_record_own slot r s.records own free))
        (record { namespace = refl; key = refl; lowers = refl; slot = refl; id = refl; usage = refl; covers = covers }))
        (λ k ne. active_at-with_record_other k r s.records (is_slot-other slot k r ne own))

module _ (s : State) (r : Record) (can : CanPutBack s r) (hands : List (Option HandValue)) (fits : FitsSoFar (record { state = s; hands = hands })) where
  after : Good (with_saved s r)
  after = good_saved s r fits.good can

  pub fits_idle : slot_of r.content ≡ None → FitsSoFar (record { state = with_saved s r; hands = hands })
  fits_idle idle = record { good = after; sessions = fits.sessions; numbers = fits.numbers; places = fits.places; hands = agree_idle s fits.good r can hands fits.hands idle }

  pub fits_open : (slot : ℕ) (h : SavedHand) → is_slot slot r ≡ true → Covers (usage_of r.content) (count_of h.layer) → FitsSoFar (record { state = with_saved s r; hands = with_hand slot (Some (restored_hand (with_record r s.records) slot h r)) hands })
  fits_open slot h own covers = record { good = after; sessions = fits.sessions; numbers = fits.numbers; places = length-set hands slot (Some (restored_hand (with_record r s.records) slot h r)) ∙ fits.places; hands = agree_open s fits.good r can hands fits.hands slot h own fits.places covers }

-- ---- what the tests show

-- a record without a share isn't active
pub share_none : (r : Record) → saved_share r ≡ None → slot_of r.content ≡ None
share_none r e = by (slot_of r.content) e
  where
    share : ℕ → ShareState
    share slot = record { slot = slot; id = r.id; usage = usage_of r.content }

    by : (o : Option ℕ) → option_map share o ≡ None → o ≡ None
    by None e = refl
    by (Some slot) e = absurd (cc)

-- so no hand is asked for it
pub idle_answer : (c : SavedContent) (place : ℕ) (parent : Bytes) (rs : List Record) → slot_of (content_for c place parent rs) ≡ None → hand_answer c None ≡ Ok tt
idle_answer View place parent rs e = refl
idle_answer (Active slot charged) place parent rs e = absurd (cc)
idle_answer (Committed layer) place parent rs e = refl

-- ---- a saved snapshot that is active in the slot

module _ (s : State) (place : ℕ) (saved : Saved) (slot : ℕ) (charged : Usage) (is : saved.content ≡ Active slot charged) where
  -- its record
  abbrev own : Record
  own = record_of s place saved

  abbrev content_of : SavedContent → Content
  content_of c = content_for c place saved.parent s.records

  pub own_slot : is_slot slot own ≡ true
  own_slot = ap (λ (c : SavedContent). has_slot slot (content_of c)) is ∙ eq-eqb slot slot refl

  own_usage : usage_of own.content ≡ charged
  own_usage = ap (λ (c : SavedContent). usage_of (content_of c)) is

  own_share : (share : ShareState) → saved_share own ≡ Some share → record { slot = slot; id = saved.id; usage = usage_of own.content } ≡ share
  own_share share e = some_same _ share (sym (ap (option_map mine) (ap (λ (c : SavedContent). slot_of (content_of c)) is)) ∙ e)
    where
      mine : ℕ → ShareState
      mine k = record { slot = k; id = saved.id; usage = usage_of own.content }

  module _ (layer : Tree) (sealed : Bool) (enough : covers charged (count_of layer) ≡ true) where
    abbrev hand : SavedHand
    hand = record { layer = layer; sealed = sealed }

    -- it has a hand, which its charge covers
    pub open_answer : hand_answer saved.content (Some hand) ≡ Ok tt
    open_answer = ap (λ (c : SavedContent). hand_answer c (Some hand)) is ∙ by (covers charged (count_of layer)) enough
      where
        by : (b : Bool) → b ≡ true → tests_answer (must b BadArgument ∷ []) ≡ Ok tt
        by true e = refl
        by false e = absurd (true≢false (sym e))

    pub own_covers : Covers (usage_of own.content) (count_of layer)
    own_covers = subst (λ (u : Usage). Covers u (count_of layer)) (sym own_usage) (covers-Covers charged (count_of layer) enough)

    module _ (good : Good s) (can : CanPutBack s own) where
      -- the hand that it gets
      pub hand_is : (a : ActiveValue) → a ≡ record { namespace = place; key = saved.key; lowers = layers_of (ancestors place saved.parent s.records); layer = layer; share = a.share } → saved_share own ≡ Some a.share
          → (b : Bool) → record { snapshot = a; sealed = b } ≡ restored_hand (with_record own s.records) slot (record { layer = layer; sealed = b }) own
      hand_is a e share b =
          let lowers = own_lowers s good own can in
          let mine = own_share a.share share in
          ap (λ (v : ActiveValue). record { snapshot = v; sealed = b }) (e ∙ (λ i. record { namespace = place; key = saved.key; lowers = sym lowers i; layer = layer; share = sym mine i }))

      -- the hands with it
      pub hands_are : (hands : List (Option HandValue)) → hands_after (with_record own s.records) saved.content (Some hand) hands ≡ with_hand slot (Some (restored_hand (with_record own s.records) slot hand own)) hands
      hands_are hands =
          ap (λ (c : SavedContent). hands_after (with_record own s.records) c (Some hand) hands) is
          ∙ ap (λ (o : Option Record). with_hand slot (option_map (restored_hand (with_record own s.records) slot hand) o) hands) (active_at-with_record_own slot own s.records own_slot (free_slot s own can slot own_slot))

-- no hand stands at a slot that is free
none_stands : (slot : ℕ) (rs : List Record) (o : Option HandValue) → AgreesAt slot rs o None → o ≡ None
none_stands slot rs None a = refl
none_stands slot rs (Some h) a = absurd a

pub hand_free : (s : State) (hands : List (Option HandValue)) (slot : ℕ) (r : Record) → FitsSoFar (record { state = s; hands = hands }) → CanPutBack s r → is_slot slot r ≡ true → hand_at slot hands ≡ None
hand_free s hands slot r fits can own =
    none_stands slot s.records (hand_at slot hands) (subst (λ (o : Option Record). AgreesAt slot s.records (hand_at slot hands) o) (free_slot s r can slot own) (fits.hands slot))

-- a charge that was compared with a count covers it
pub enough : (charged count counted : Usage) (b : Bool) → (IsTrue b → Covers charged counted) × (Covers charged counted → IsTrue b) → counted ≡ count → b ≡ true → covers charged count ≡ true
enough charged count counted b is same e = ap (covers charged) (sym same) ∙ Covers-covers charged counted (is.0 e)
