-- The hand of an active snapshot, and the layers of a view, found by the snapshot's key.
use Rattle.std.proofs.Common.{◌≡◌, ℕ, List, [], ◌∷◌, Bool, true, false, true≢false, Option, None, Some, IsSome, eq-eqb, refl, sym, ap, ◌∙◌, subst}
use Rattle.std.specs.Prelude.{Result, Ok, Err, ok_or}
use Rattle.std.specs.Option.{option_map_or}
use Rattle.snap_layer.specs.Tree.{Tree}
use Rattle.snap_usage.specs.declared.usage.Usage.{Usage}
use Rattle.snap_record.specs.Labels.{Bytes}
use Rattle.snap_record.specs.declared.record.Content.{Content}
use Rattle.snap_record.specs.declared.record.Content.TheVariants.{View, Active}
use Rattle.snap_record.specs.declared.record.Record.{Record}
use Rattle.snap_call.specs.declared.refusal.Refusal.{Refusal}
use Rattle.snap_call.specs.declared.refusal.Refusal.TheVariants.{NoNamespace, NotFound}
use Rattle.snap_call.specs.Good.{IsShown}
use Rattle.snap_call.specs.Records.{active_at, has_slot, is_named, is_slot, record_at, AllPairwise, AreApart}
use Rattle.snap_call.specs.State.{chain_from, place_of, most_ancestors}
use Rattle.snap_call.specs.declared.state.State.{State}
use Rattle.snap_call.proofs.Keeping.{good_chains}
use Rattle.snap_call.proofs.Lists.{record_at-all, some_same}
use Rattle.snap_book.specs.Slot.{found_of}
use Rattle.snap_world.specs.World.{AgreesAt, Fits, HandValue, IsHandOf, WorldValue, hand_at}
use Rattle.snap_world.specs.Stacks.{IsOver, IsOverBy, layers_in}

-- a record that is found by its key and is active in the slot is the one that is found in the slot
pub record_at-active_at : (slot place : ℕ) (key : Bytes) (rs : List Record) (r : Record) → AllPairwise AreApart rs → is_slot slot r ≡ true → record_at place key rs ≡ Some r → active_at slot rs ≡ Some r
record_at-active_at slot place key [] r apart is e = absurd (cc)
record_at-active_at slot place key (t ∷ ts) r apart is e = at (is_named place key t) refl (is_slot slot t) refl (record_at-active_at slot place key ts r apart.1 is)
  where
    at : (b : Bool) → is_named place key t ≡ b → (c : Bool) → is_slot slot t ≡ c → (record_at place key ts ≡ Some r → active_at slot ts ≡ Some r) → active_at slot (t ∷ ts) ≡ Some r
    at true named c here next = let same = rw named at e in rw (ap (is_slot slot) (some_same t r same) ∙ is) same
    at false named true here next = let past = rw named at e in absurd (true≢false (sym is ∙ record_at-all (AreApart t) place key ts r past apart.0 slot here))
    at false named false here next = rw here (next (rw named at e))

-- the hand that agrees with a record
hand_if : (slot : ℕ) (rs : List Record) (r : Record) (o : Option HandValue) → AgreesAt slot rs o (Some r) → (h : HandValue) × (o ≡ Some h) × IsHandOf slot rs h r
hand_if slot rs r None a = absurd a
hand_if slot rs r (Some h) a = (h, refl, a)

found-Some : (r : Record) (o : Option Record) → ok_or o NotFound ≡ Ok r → o ≡ Some r
found-Some r None e = absurd (cc)
found-Some r (Some t) e = cc

-- the record that was found is that of the key at a place
found-record : (s : State) (namespace key : Bytes) (r : Record) → found_of s namespace key ≡ Ok r → (place : ℕ) × (record_at place key s.records ≡ Some r)
found-record s namespace key r found = at (place_of namespace s.namespaces) found
  where
    at : (o : Option ℕ) → option_map_or (λ place. ok_or (record_at place key s.records) NotFound) o (Err NoNamespace) ≡ Ok r → (place : ℕ) × (record_at place key s.records ≡ Some r)
    at None e = absurd (cc)
    at (Some place) e = (place, found-Some r (record_at place key s.records) e)

module _ (w : WorldValue) (fits : Fits w) (namespace key : Bytes) (r : Record) (found : found_of w.state namespace key ≡ Ok r) where
  here : (place : ℕ) × (record_at place key w.state.records ≡ Some r)
  here = found-record w.state namespace key r found

  -- it has a chain of ancestors
  pub chained : IsSome (chain_from most_ancestors w.state.records r.namespace r.parent)
  chained = record_at-all (λ t. IsSome (chain_from most_ancestors w.state.records t.namespace t.parent)) here.0 key w.state.records r here.1 (good_chains w.state fits.good)

  -- the hand of an active snapshot stands in its slot, and is that of the key's record
  pub stands : (slot : ℕ) (charged : Usage) → r.content ≡ Active slot charged → (h : HandValue) × (hand_at slot w.hands ≡ Some h) × IsHandOf slot w.state.records h r
  stands slot charged is =
      let own : is_slot slot r ≡ true = ap (has_slot slot) is ∙ eq-eqb slot slot refl in
      let e : active_at slot w.state.records ≡ Some r = record_at-active_at slot here.0 key w.state.records r fits.good.slots own here.1 in
      hand_if slot w.state.records r (hand_at slot w.hands) (subst (λ (o : Option Record). AgreesAt slot w.state.records (hand_at slot w.hands) o) e (fits.hands slot))

  -- the layers below that hand's own are those of the record's ancestors
  pub active_over : (slot : ℕ) (charged : Usage) (h : HandValue) → r.content ≡ Active slot charged → hand_at slot w.hands ≡ Some h → IsOver w.state.records (layers_in h) (found_of w.state namespace key)
  active_over slot charged h is e =
      let there = stands slot charged is in
      let same : there.0 ≡ h = some_same there.0 h (sym there.1 ∙ e) in
      let lowers = ap (λ (x : HandValue). x.snapshot.lowers) (sym same) ∙ there.2.lowers in
      subst (λ (o : Result Record Refusal). IsOver w.state.records (layers_in h) o) (sym found)
      (subst (λ (c : Content). IsOverBy w.state.records (layers_in h) r.namespace r.parent c) (sym is) (h.snapshot.layer, ap (λ (l : List Tree). h.snapshot.layer ∷ l) lowers))

  -- and a view keeps those of its ancestors
  pub view_over : (layers : List Tree) → r.content ≡ View layers → IsOver w.state.records layers (found_of w.state namespace key)
  view_over layers is =
      let shown : IsShown w.state.records r.namespace r.parent (View layers) =
      subst (λ (c : Content). IsShown w.state.records r.namespace r.parent c) is (record_at-all (λ t. IsShown w.state.records t.namespace t.parent t.content) here.0 key w.state.records r here.1 fits.good.shown) in
      subst (λ (o : Result Record Refusal). IsOver w.state.records layers o) (sym found)
      (subst (λ (c : Content). IsOverBy w.state.records layers r.namespace r.parent c) (sym is) shown)
