-- A whole batch: the layer's hand may have it back, and where an operation was refused it has it.
use Rattle.std.proofs.Common.{◌≡◌, inl, ℕ, ◌+◌, Bool, true, false, List, [], ◌∷◌, Option, Some, None, refl, sym, ap, ◌∙◌, subst}
use Rattle.std.specs.Prelude.{if◌then◌else◌, option_and_then, Result, Ok, Err, IfOk, OnOk, OnErr}
use Rattle.std.specs.Option.{option_map, option_map_or}
use Rattle.snap_path.specs.declared.memory.NoMemory.{NoMemory}
use Rattle.snap_layer.specs.Tree.{Tree}
use Rattle.snap_usage.specs.declared.usage.Usage.{Usage}
use Rattle.snap_usage.specs.Counted.{no_usage}
use Rattle.snap_record.specs.Labels.{Bytes}
use Rattle.snap_call.specs.declared.call.Call.TheVariants as calls
use Rattle.snap_upper.specs.declared.op.Op.{Op}
use Rattle.snap_book.specs.Wanted.{wanted_charge}
use Rattle.snap_world.specs.declared.step.Step.TheVariants.{Locked, Hand}
use Rattle.snap_world.specs.declared.step.Answer.{Answer as StepAnswer}
use Rattle.snap_world.specs.World.{Fits, HandValue, WorldValue, hand_at, with_hand}
use Rattle.snap_world.specs.Layers.{MayHave, open_layer, open_layer_at, with_layer, with_own}
use Rattle.snap_world.specs.Applied.{is_charged, need_of}
use Rattle.snap_world.specs.Move.{move}
use Rattle.snap_world.proofs.Fitting.{fits_move}
use Rattle.snap_world.proofs.Places.{hand_at-low, hand_at-own}
use Rattle.snap_world.proofs.Putting.{may_charge, may_operate, own_may}
use Rattle.snap_script.specs.declared.answer.Answer.{Answer}
use Rattle.snap_script.specs.declared.answer.RefusedOperation.{RefusedOperation}
use Rattle.snap_script.specs.Refusals.{refusal_in_answer}
use Rattle.snap_session.specs.Commands.{all_operated, all_or_none, batch, batch_answer, batch_as, operated, retried, stopped_in, undone}

-- ---- what the hand may have, it still may

-- the slot's hand may have the layer
abbrev pub Ready : ℕ → Tree → WorldValue → Type 0
Ready slot layer w = Fits w × MayHave layer (hand_at slot w.hands)

ready_operate : (slot : ℕ) (layer : Tree) (op : Op) (w : WorldValue) → Ready slot layer w → Ready slot layer (move w (Hand slot op)).0
ready_operate slot layer op w r = (fits_move w (Hand slot op) r.0, may_operate w (move w (Hand slot op)).0 slot op (move w (Hand slot op)).1 layer (inl refl) r.1)

ready_charge : (n slot id : ℕ) (layer : Tree) (need want : Usage) (w : WorldValue) → Ready slot layer w → Ready slot layer (move w (Locked n (calls.Charge slot id need want))).0
ready_charge n slot id layer need want w r =
    let after = move w (Locked n (calls.Charge slot id need want)) in
    (fits_move w (Locked n (calls.Charge slot id need want)) r.0, may_charge w after.0 n slot id need want after.1 layer r.0 (inl refl) r.1)

-- what comes next, by whether a charge was granted, and by whether there is something
either : {A : Type 0} (P : A → Type 0) (b : Bool) (x y : A) → P x → P y → P (if b then x else y)
either P true x y p q = p
either P false x y p q = q

with_or_without : {A B : Type 0} (P : B → Type 0) (o : Option A) (next : A → B) (none : B) → ((a : A) → P (next a)) → P none → P (option_map_or next o none)
with_or_without P (Some a) next none p q = p a
with_or_without P None next none p q = q

module _ (n : ℕ) (namespace key : Bytes) (slot id : ℕ) (layer : Tree) where
  -- of what an operation leaves
  abbrev Stays : WorldValue × Answer → Type 0
  Stays p = Ready slot layer p.0

  ready_retried : (op : Op) (after : WorldValue × StepAnswer) → Ready slot layer after.0 → Stays (retried n slot (Hand slot op) after)
  ready_retried op after r = either Stays (is_charged after.1) _ _ (ready_operate slot layer op after.0 r) r

  ready_operated : (op : Op) (w : WorldValue) → Ready slot layer w → Stays (operated n slot id op w)
  ready_operated op w r =
      let after = move w (Hand slot op) in
      let here = ready_operate slot layer op w r in
      with_or_without Stays (need_of after.1) _ _ (λ need. ready_retried op _ (ready_charge n slot id layer need (wanted_charge need no_usage) after.0 here)) here

  ready_all : (done : ℕ) (ops : List Op) (w : WorldValue) → Ready slot layer w → Stays (all_operated n namespace key slot id done ops w)
  ready_all done [] w r = r
  ready_all done (op ∷ ops) w r =
      let after = operated n slot id op w in
      let here = ready_operated op w r in
      with_or_without Stays (refusal_in_answer after.1) _ _ (λ why. here) (ready_all (done + 1) ops after.0 here)

  ready_batch : (need : Usage) (ops : List Op) (w : WorldValue) → Ready slot layer w → Stays (batch n namespace key slot id need ops w)
  ready_batch need ops w r =
      let after = move w (Locked n (calls.Charge slot id need need)) in
      let here = ready_charge n slot id layer need need w r in
      either Stays (is_charged after.1) _ _ (ready_all 0 ops after.0 here) here

  pub may_after : (need : Usage) (ops : List Op) (w new : WorldValue) (answer : Answer) → Fits w → MayHave layer (hand_at slot w.hands) → batch n namespace key slot id need ops w ≡ (new, answer) → MayHave layer (hand_at slot new.hands)
  may_after need ops w new answer fits may done = subst (λ (p : WorldValue × Answer). MayHave layer (hand_at slot p.0.hands)) done (ready_batch need ops w (fits, may)).1

-- ---- what is answered

pub whole_none : (slot : ℕ) (o : Option Tree) (after : WorldValue × Answer) → o ≡ None → all_or_none slot o after ≡ after
whole_none slot o after none = ap (λ (x : Option Tree). all_or_none slot x after) none

-- the same of what a batch without such a layer came to
pub none_all : (r : Result Answer NoMemory) (slot : ℕ) (o : Option Tree) (after : WorldValue × Answer) (new : WorldValue) → o ≡ None → IfOk r (λ answer. after ≡ (new, answer)) → IfOk r (λ answer. all_or_none slot o after ≡ (new, answer))
none_all (Ok answer) slot o after new none done = whole_none slot o after none ∙ done
none_all (Err want) slot o after new none done = tt

pub whole_some : (slot : ℕ) (o : Option Tree) (layer : Tree) (after mid : WorldValue × Answer) (new : WorldValue) (answer : Answer) → o ≡ Some layer → after ≡ mid → all_or_none slot (Some layer) mid ≡ (new, answer) → all_or_none slot o after ≡ (new, answer)
whole_some slot o layer after mid new answer some is made = (λ i. all_or_none slot (some i) (is i)) ∙ made

-- none was refused
pub went_on : (slot : ℕ) (layer : Tree) (w : WorldValue) (answer : Answer) → stopped_in answer ≡ None → all_or_none slot (Some layer) (w, answer) ≡ (w, answer)
went_on slot layer w answer none = ap (λ (o : Option RefusedOperation). option_map_or (undone slot layer w) o (w, answer)) none

-- one was
pub was_undone : (slot : ℕ) (layer : Tree) (w new : WorldValue) (answer told : Answer) (stopped : RefusedOperation) → stopped_in answer ≡ Some stopped → new ≡ with_layer slot layer w → told ≡ batch_answer slot 0 (Some stopped) new
    → all_or_none slot (Some layer) (w, answer) ≡ (new, told)
was_undone slot layer w new answer told stopped some put tells =
    ap (λ (o : Option RefusedOperation). option_map_or (undone slot layer w) o (w, answer)) some
    ∙ ap (λ (v : WorldValue). (v, batch_answer slot 0 (Some stopped) v)) (sym put) ∙ ap (λ (a : Answer). (new, a)) (sym tells)

-- a layer that is put, or comes back, leaves the state that the round began at
pub put_keeps : (r : Result Unit Tree) (w new : WorldValue) (slot : ℕ) (layer : Tree) → OnOk r (new ≡ with_layer slot layer w) → OnErr r (new ≡ w) → new.opening ≡ w.opening
put_keeps (Ok done) w new slot layer put same = ap (λ (v : WorldValue). v.opening) put
put_keeps (Err back) w new slot layer put same = ap (λ (v : WorldValue). v.opening) same

-- ---- the law: where an operation was refused, the layer is as it was, and none was done

put_stands : (layer : Tree) (h : HandValue) (sealed : Bool) → h.sealed ≡ sealed → sealed ≡ false → open_layer (with_own layer h) ≡ Some layer
put_stands layer h sealed is unsealed = ap (λ (b : Bool). if b then None else Some layer) (is ∙ unsealed)

stands_again : (slot : ℕ) (layer : Tree) (w : WorldValue) → MayHave layer (hand_at slot w.hands) → open_layer_at slot (with_layer slot layer w).hands ≡ Some layer
stands_again slot layer w may = at (hand_at slot w.hands) refl may
  where
    at : (o : Option HandValue) → hand_at slot w.hands ≡ o → MayHave layer o → open_layer_at slot (with_layer slot layer w).hands ≡ Some layer
    at None e has = absurd has
    at (Some h) e has =
        ap (λ (o : Option HandValue). option_and_then open_layer o)
        (ap (λ (o : Option HandValue). hand_at slot (with_hand slot (option_map (with_own layer) o) w.hands)) e ∙ hand_at-own slot (Some (with_own layer h)) w.hands (hand_at-low slot h w.hands e))
        ∙ put_stands layer h h.sealed refl has.0

pub none_is_done : (n : ℕ) (namespace key : Bytes) (slot id : ℕ) (need : Usage) (ops : List Op) (w : WorldValue) (layer : Tree) (stopped : RefusedOperation) → Fits w → open_layer_at slot w.hands ≡ Some layer → stopped_in (batch n namespace key slot id need ops w).1 ≡ Some stopped
    → let after = batch_as true n namespace key slot id need ops w in (open_layer_at slot after.0.hands ≡ open_layer_at slot w.hands) × (after.1 ≡ batch_answer slot 0 (Some stopped) after.0)
none_is_done n namespace key slot id need ops w layer stopped fits own some =
    let after = batch n namespace key slot id need ops w in
    let back = with_layer slot layer after.0 in
    let may : MayHave layer (hand_at slot after.0.hands) = (ready_batch n namespace key slot id layer need ops w (fits, own_may w slot layer fits own)).1 in
    let is : batch_as true n namespace key slot id need ops w ≡ (back, batch_answer slot 0 (Some stopped) back) = whole_some slot _ layer after after back _ own refl (was_undone slot layer after.0 back after.1 _ stopped some refl refl) in (
      ap (λ (p : WorldValue × Answer). open_layer_at slot p.0.hands) is ∙ stands_again slot layer after.0 may ∙ sym own,
      ap (λ (p : WorldValue × Answer). p.1) is ∙ ap (λ (p : WorldValue × Answer). batch_answer slot 0 (Some stopped) p.0) (sym is),
    )
