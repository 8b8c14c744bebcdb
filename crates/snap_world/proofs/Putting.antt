-- A layer that comes in place of a hand's own.
use Rattle.std.proofs.Common.{◌≡◌, inl, inr, ℕ, ◌<◌, List, length, Bool, true, false, not, Option, None, Some, refl, sym, ap, ◌∙◌, subst, OnOk, OnErr}
use Rattle.std.specs.Prelude.{Result, Ok, Err, if◌then◌else◌, option_and_then}
use Rattle.std.specs.Option.{option_map}
use Rattle.snap_layer.specs.Tree.{Tree}
use Rattle.snap_usage.specs.declared.usage.Usage.{Usage}
use Rattle.snap_usage.specs.Counted.{Covers, count_of}
use Rattle.snap_record.specs.Records.{usage_of}
use Rattle.snap_record.specs.declared.record.Record.{Record}
use Rattle.snap_call.specs.declared.call.Call.TheVariants as calls
use Rattle.snap_call.specs.declared.call.Given.TheVariants.{Nothing}
use Rattle.snap_call.specs.declared.state.State.{State}
use Rattle.snap_call.specs.Records.{active_at}
use Rattle.snap_call.specs.Step.{charge, greater}
use Rattle.snap_call.proofs.Parts.{charge_to}
use Rattle.snap_upper.specs.declared.op.Op.{Op}
use Rattle.snap_upper.specs.After.{Outcome}
use Rattle.snap_book.specs.Active.{ActiveValue}
use Rattle.snap_book.specs.Book.{BookValue}
use Rattle.snap_book.specs.Files.{worked}
use Rattle.snap_world.specs.declared.step.Answer.{Answer}
use Rattle.snap_world.specs.declared.step.Step.TheVariants as steps
use Rattle.snap_world.specs.World.{Fits, HandValue, WorldValue, hand_at, with_hand, world_of}
use Rattle.snap_world.specs.Move.{admitted, called, charged_hand, is_full, is_its_session, is_unsealed, is_working, meets, move, recorded, usage_after, with_outcome}
use Rattle.snap_world.specs.Runs.{Moves}
use Rattle.snap_world.specs.Layers.{MayHave, layer_put, open_layer, open_layer_at, with_own}
use Rattle.snap_world.proofs.Places.{back_again, with_hand-twice, hand_at-low, hand_at-own}
use Rattle.snap_world.proofs.Hold.{holds}
use Rattle.snap_world.proofs.Steps.{on_found}
use Rattle.snap_world.proofs.Fitting.{cases_if, fits_filed, more_of}

module _ (hands out after : List (Option HandValue)) (slot : ℕ) (layer : Tree) (a v : ActiveValue) (at : hand_at slot hands ≡ Some (record { snapshot = a; sealed = false })) where
  -- the hand went out of its place, and came back
  abbrev pub IsBack : Type 0
  IsBack = (out ≡ with_hand slot None hands) × (after ≡ with_hand slot (Some (record { snapshot = v; sealed = false })) out)

  put_in : IsBack → v ≡ record a { layer = layer } → after ≡ layer_put slot layer hands
  put_in back is =
      back.1 ∙ ap (λ (l : List (Option HandValue)). with_hand slot (Some (record { snapshot = v; sealed = false })) l) back.0 ∙ with_hand-twice slot None _ hands
      ∙ ap (λ (x : ActiveValue). with_hand slot (Some (record { snapshot = x; sealed = false })) hands) is
      ∙ ap (λ (o : Option HandValue). with_hand slot (option_map (with_own layer) o) hands) (sym at)

  -- with the layer
  pub put_went : (r : Result Unit Tree) → IsBack → OnOk r (v ≡ record a { layer = layer }) → OnOk r (after ≡ layer_put slot layer hands)
  put_went (Ok done) back is = put_in back is
  put_went (Err given) back is = tt

  -- or as it was
  pub put_stayed : (r : Result Unit Tree) → IsBack → OnErr r (v ≡ a) → OnErr r (after ≡ hands)
  put_stayed (Ok done) back same = tt
  put_stayed (Err given) back same =
      back_again hands out after slot (record { snapshot = a; sealed = false }) at back.0 (back.1 ∙ ap (λ (x : ActiveValue). with_hand slot (Some (record { snapshot = x; sealed = false })) out) same)

module _ (hands : List (Option HandValue)) (slot : ℕ) (layer : Tree) (a : ActiveValue) (at : hand_at slot hands ≡ Some (record { snapshot = a; sealed = false })) where
  -- the hand may have the layer exactly where its share covers it
  pub put_may : (r : Result Unit Tree) → OnOk r (Covers a.share.usage (count_of layer)) → OnOk r (MayHave layer (hand_at slot hands))
  put_may (Ok done) covers = subst (λ (o : Option HandValue). MayHave layer o) (sym at) (refl, covers)
  put_may (Err given) covers = tt

  pub put_lacks : (r : Result Unit Tree) → OnErr r (Covers a.share.usage (count_of layer) → ⊥) → OnErr r (MayHave layer (hand_at slot hands) → ⊥)
  put_lacks (Ok done) lacks = tt
  put_lacks (Err given) lacks = λ has. lacks (subst (λ (o : Option HandValue). MayHave layer o) at has).1

-- without such a hand there is none that may have it
none_may : (layer : Tree) (o : Option HandValue) → meets is_unsealed o ≡ false → MayHave layer o → ⊥
none_may layer None e has = has
none_may layer (Some h) e has = let clash : true ≡ false = sym (ap not has.0) ∙ e in absurd (cc)

pub nothing_may : (slot : ℕ) (layer : Tree) (hands : List (Option HandValue)) → meets is_unsealed (hand_at slot hands) ≡ false → MayHave layer (hand_at slot hands) → ⊥
nothing_may slot layer hands e = none_may layer (hand_at slot hands) e

-- a world still fits
fits_with : (w : WorldValue) (slot : ℕ) (layer : Tree) (o : Option HandValue) → Fits w → hand_at slot w.hands ≡ o → MayHave layer o → Fits (record w { hands = with_hand slot (option_map (with_own layer) o) w.hands })
fits_with w slot layer None fit at may = absurd may
fits_with w slot layer (Some h) fit at may =
    let r = holds w slot h fit at in
    fits_filed w slot h r.0 (Ok layer) fit (hand_at-low slot h w.hands at) r.1 r.2 (λ next e. let same : layer ≡ next = cc in subst (λ (l : Tree). Covers h.snapshot.share.usage (count_of l)) same may.1)

pub fits_put : (r : Result Unit Tree) (b : BookValue) (hands after : List (Option HandValue)) (slot : ℕ) (layer : Tree) → Fits (world_of b hands)
    → OnOk r (after ≡ layer_put slot layer hands) → OnOk r (MayHave layer (hand_at slot hands)) → OnErr r (after ≡ hands) → Fits (world_of b after)
fits_put (Ok done) b hands after slot layer fit put may same = subst (λ (l : List (Option HandValue)). Fits (world_of b l)) (sym put) (fits_with (world_of b hands) slot layer (hand_at slot hands) fit refl may)
fits_put (Err back) b hands after slot layer fit put may same = subst (λ (l : List (Option HandValue)). Fits (world_of b l)) (sym same) fit

-- a hand may have its own layer
open_may : (layer : Tree) (h : HandValue) (sealed : Bool) → h.sealed ≡ sealed → (if sealed then None else Some h.snapshot.layer) ≡ Some layer → Covers h.snapshot.share.usage (count_of h.snapshot.layer) → MayHave layer (Some h)
open_may layer h true e is covers = absurd (cc)
open_may layer h false e is covers = let same : h.snapshot.layer ≡ layer = cc in (e, subst (λ (l : Tree). Covers h.snapshot.share.usage (count_of l)) same covers)

pub own_may : (w : WorldValue) (slot : ℕ) (layer : Tree) → Fits w → open_layer_at slot w.hands ≡ Some layer → MayHave layer (hand_at slot w.hands)
own_may w slot layer fit is = at (hand_at slot w.hands) refl is
  where
    at : (o : Option HandValue) → hand_at slot w.hands ≡ o → option_and_then open_layer o ≡ Some layer → MayHave layer o
    at None e is = absurd (cc)
    at (Some h) e is = open_may layer h h.sealed refl is (holds w slot h fit e).2.covers

-- ---- what a hand may have, it still may after a charge and after an operation

-- a charge gives no less
charged_more : (s : State) (slot : ℕ) (r : Record) (h : HandValue) (u : Usage) (a b : Bool) (needed wanted : Usage) → Covers h.snapshot.share.usage u → Covers needed u → Covers wanted u
    → Covers (usage_after h.snapshot (charge_to s slot r (if a then Some wanted else if b then Some needed else None)).1) u
charged_more s slot r h u true b needed wanted held n w = w
charged_more s slot r h u false true needed wanted held n w = n
charged_more s slot r h u false false needed wanted held n w = held

charge_more : (s : State) (slot : ℕ) (need want : Usage) (h : HandValue) (r : Record) (u : Usage) → active_at slot s.records ≡ Some r → h.snapshot.share.usage ≡ usage_of r.content → Covers h.snapshot.share.usage u
    → Covers (usage_after h.snapshot (charge s slot need want (active_at slot s.records)).1) u
charge_more s slot need want h r u stands is held =
    let charged : Covers (usage_of r.content) u = subst (λ (v : Usage). Covers v u) is held in
    let needed : Usage = greater (usage_of r.content) need in
    let n : Covers needed u = more_of (usage_of r.content) need u charged in
    subst (λ (o : Option Record). Covers (usage_after h.snapshot (charge s slot need want o).1) u) (sym stands)
    (charged_more s slot r h u _ _ needed (greater needed want) held n (more_of needed want u n))

-- the slot's hand may have the layer
abbrev May : ℕ → Tree → WorldValue → Type 0
May slot layer w = MayHave layer (hand_at slot w.hands)

called_may : (w : WorldValue) (n slot id : ℕ) (need want : Usage) (layer : Tree) → Fits w → May slot layer w → May slot layer (called w n (calls.Charge slot id need want)).0
called_may w n slot id need want layer fit has = at (hand_at slot w.hands) refl
  where
    at : (o : Option HandValue) → hand_at slot w.hands ≡ o
        → May slot layer (on_found w (is_working id) (λ h. admitted w 1 w.hands (recorded w n (calls.Charge slot id need want) Nothing (λ reply. with_hand slot (charged_hand h reply) w.hands))) o).0
    at None e = absurd (subst (λ (o : Option HandValue). MayHave layer o) e has)
    at (Some h) e =
        let P : WorldValue × Answer → Type 0 = λ p. May slot layer p.0 in
        let own : MayHave layer (Some h) = subst (λ (o : Option HandValue). MayHave layer o) e has in
        let r = holds w slot h fit e in
        cases_if P (is_working id h) _ _
        (λ t. cases_if P (is_full w 1) _ _ (λ full. has)
        (λ room. subst (λ (o : Option HandValue). MayHave layer o) (sym (hand_at-own slot _ w.hands (hand_at-low slot h w.hands e)))
        (own.0, charge_more w.state slot need want h r.0 (count_of layer) r.1 r.2.usage own.1)))
        (λ t. has)

filed_may : (w : WorldValue) (slot : ℕ) (h : HandValue) (layer : Tree) (o : Outcome) → slot < length w.hands → MayHave layer (Some h) → May slot layer w → May slot layer (with_outcome w slot h o).0
filed_may w slot h layer (Ok next) low own has = subst (λ (o : Option HandValue). MayHave layer o) (sym (hand_at-own slot _ w.hands low)) own
filed_may w slot h layer (Err e) low own has = has

operated_may : (w : WorldValue) (slot : ℕ) (op : Op) (layer : Tree) → May slot layer w → May slot layer (move w (steps.Hand slot op)).0
operated_may w slot op layer has = at (hand_at slot w.hands) refl
  where
    at : (o : Option HandValue) → hand_at slot w.hands ≡ o → May slot layer (on_found w is_unsealed (λ h. with_outcome w slot h (worked op h.snapshot.share.usage h.snapshot.layer h.snapshot.lowers)) o).0
    at None e = has
    at (Some h) e =
        cases_if (λ (p : WorldValue × Answer). May slot layer p.0) (is_unsealed h) _ _
        (λ t. filed_may w slot h layer _ (hand_at-low slot h w.hands e) (subst (λ (o : Option HandValue). MayHave layer o) e has) has)
        (λ t. has)

pub may_charge : (old new : WorldValue) (n slot id : ℕ) (need want : Usage) (answer : Answer) (layer : Tree) → Fits old → Moves old (steps.Locked n (calls.Charge slot id need want)) answer new
    → MayHave layer (hand_at slot old.hands) → MayHave layer (hand_at slot new.hands)
may_charge old new n slot id need want answer layer fit (inl e) has =
    subst (May slot layer) (ap (λ (p : WorldValue × Answer). p.0) e)
    (cases_if (λ (p : WorldValue × Answer). May slot layer p.0) (is_its_session old.state.sessions n (calls.Charge slot id need want)) _ _ (λ own. called_may old n slot id need want layer fit has) (λ other. has))
may_charge old new n slot id need want answer layer fit (inr e) has = subst (May slot layer) (sym e.2.2) has

pub may_operate : (old new : WorldValue) (slot : ℕ) (op : Op) (answer : Answer) (layer : Tree) → Moves old (steps.Hand slot op) answer new
    → MayHave layer (hand_at slot old.hands) → MayHave layer (hand_at slot new.hands)
may_operate old new slot op answer layer (inl e) has = subst (May slot layer) (ap (λ (p : WorldValue × Answer). p.0) e) (operated_may old slot op layer has)
may_operate old new slot op answer layer (inr e) has = subst (May slot layer) (sym e.3) has
