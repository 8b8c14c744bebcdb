use Rattle.std.proofs.Common.{◌≡◌, true, false, List, Option, Some, inr, sym, ap, ◌∙◌, subst}
use Rattle.snap_usage.specs.Counted.{count_of, covers}
use Rattle.snap_record.specs.declared.record.Record.{Record}
use Rattle.snap_call.specs.declared.state.State.{State}
use Rattle.snap_call.specs.Records.{with_record}
use Rattle.snap_call.specs.Saved.{CanPutBack, record_of, with_saved}
use Rattle.snap_world.specs.Saved.{FitsSoFar, hands_after, restored_hand}
use Rattle.snap_world.specs.World.{HandValue, with_hand}
use Rattle.snap_world.proofs.PutBack.{enough, fits_open, hand_free, hand_is, hands_are, open_answer, own_covers, own_slot}
use Rattle.snap_world.proofs.restoring.Restoring.put_open.Goals as goal

pub put-requires-clause-free : goal.put-requires-clause-free
put-requires-clause-free g c =
    let s : State = c.self.inside.accounts in
    let same : s ≡ c.args.self.now.state = ap (λ v. v.state) c.self.view_is in
    let can : CanPutBack s (record_of s c.args.place c.args.saved) = subst (λ (u : State). CanPutBack u (record_of u c.args.place c.args.saved)) (sym same) c.requires.possible in
    hand_free s c.self.inside.hands c.in-Active.slot (record_of s c.args.place c.args.saved) c.self.invariant can (own_slot s c.args.place c.args.saved c.in-Active.slot c.in-Active.charged c.in-Active.is)

pub put-requires-in-Err-clause-free : goal.put-requires-in-Err-clause-free
put-requires-in-Err-clause-free g c =
    let s : State = c.self.inside.accounts in
    let same : s ≡ c.args.self.now.state = ap (λ v. v.state) c.self.view_is in
    let can : CanPutBack s (record_of s c.args.place c.args.saved) = subst (λ (u : State). CanPutBack u (record_of u c.args.place c.args.saved)) (sym same) c.requires.possible in
    hand_free s c.self.inside.hands c.in-Active.slot (record_of s c.args.place c.args.saved) c.self.invariant can (own_slot s c.args.place c.args.saved c.in-Active.slot c.in-Active.charged c.in-Active.is)

pub invariant_of-self-in-Ok : goal.invariant_of-self-in-Ok
invariant_of-self-in-Ok g c =
    let s : State = c.self.inside.accounts in
    let saved = c.args.saved in
    let place = c.args.place in
    let slot = c.in-Active.slot in
    let layer = c.args.hand.layer in
    let sealed = c.args.hand.sealed in
    let same : s ≡ c.args.self.now.state = ap (λ v. v.state) c.self.view_is in
    let r : Record = record_of s place saved in
    let can : CanPutBack s r = subst (λ (u : State). CanPutBack u (record_of u place saved)) (sym same) c.requires.possible in
    let covered : covers c.in-Active.charged (count_of layer) ≡ true = enough c.in-Active.charged (count_of layer) c.count.result c.covers.result c.covers.ensures c.count.ensures.count c.if-not-covers.false in
    let hand : c.in-Ok.hand ≡ restored_hand (with_record r s.records) slot (record { layer = layer; sealed = sealed }) r =
    c.in-Ok.ensures.ok ∙ hand_is s place saved slot c.in-Active.charged c.in-Active.is layer sealed covered c.self.invariant.good can c.in_ok-active.active c.in_ok-active.ensures.active c.in_ok-active.ensures.share sealed in
    subst (λ (hs : List (Option HandValue)). FitsSoFar (record { state = c.put_saved.new.accounts; hands = hs })) (sym (c.put.ensures ∙ ap (λ (h : HandValue). with_hand slot (Some h) c.self.inside.hands) hand))
    (subst (λ (u : State). FitsSoFar (record { state = u; hands = with_hand slot (Some (restored_hand (with_record r s.records) slot (record { layer = layer; sealed = sealed }) r)) c.self.inside.hands })) (sym c.in_ok-active.ensures.done)
    (fits_open s r can c.self.inside.hands c.self.invariant slot (record { layer = layer; sealed = sealed }) (own_slot s place saved slot c.in-Active.charged c.in-Active.is) (own_covers s place saved slot c.in-Active.charged c.in-Active.is layer sealed covered)))

pub invariant_of-self-in-Err : goal.invariant_of-self-in-Err
invariant_of-self-in-Err g c =
    let s : State = c.self.inside.accounts in
    let saved = c.args.saved in
    let place = c.args.place in
    let slot = c.in-Active.slot in
    let layer = c.args.hand.layer in
    let same : s ≡ c.args.self.now.state = ap (λ v. v.state) c.self.view_is in
    let r : Record = record_of s place saved in
    let can : CanPutBack s r = subst (λ (u : State). CanPutBack u (record_of u place saved)) (sym same) c.requires.possible in
    let covered : covers c.in-Active.charged (count_of layer) ≡ true = enough c.in-Active.charged (count_of layer) c.count.result c.covers.result c.covers.ensures c.count.ensures.count c.if-not-covers.false in
    let hand : c.in-Err.hand ≡ restored_hand (with_record r s.records) slot (record { layer = layer; sealed = false }) r =
    c.in-Err.ensures.err ∙ hand_is s place saved slot c.in-Active.charged c.in-Active.is layer false covered c.self.invariant.good can c.in_ok-active.active c.in_ok-active.ensures.active c.in_ok-active.ensures.share false in
    subst (λ (hs : List (Option HandValue)). FitsSoFar (record { state = c.put_saved.new.accounts; hands = hs })) (sym (c.put-in-Err.ensures ∙ ap (λ (h : HandValue). with_hand slot (Some h) c.self.inside.hands) hand))
    (subst (λ (u : State). FitsSoFar (record { state = u; hands = with_hand slot (Some (restored_hand (with_record r s.records) slot (record { layer = layer; sealed = false }) r)) c.self.inside.hands })) (sym c.in_ok-active.ensures.done)
    (fits_open s r can c.self.inside.hands c.self.invariant slot (record { layer = layer; sealed = false }) (own_slot s place saved slot c.in-Active.charged c.in-Active.is) (own_covers s place saved slot c.in-Active.charged c.in-Active.is layer false covered)))

pub returns-in-Ok-clause-ok : goal.returns-in-Ok-clause-ok
returns-in-Ok-clause-ok g c =
    let s : State = c.self.inside.accounts in
    let saved = c.args.saved in
    let place = c.args.place in
    let slot = c.in-Active.slot in
    let layer = c.args.hand.layer in
    let sealed = c.args.hand.sealed in
    let same : s ≡ c.args.self.now.state = ap (λ v. v.state) c.self.view_is in
    let held : c.self.inside.hands ≡ c.args.self.now.hands = ap (λ v. v.hands) c.self.view_is in
    let r : Record = record_of s place saved in
    let can : CanPutBack s r = subst (λ (u : State). CanPutBack u (record_of u place saved)) (sym same) c.requires.possible in
    let covered : covers c.in-Active.charged (count_of layer) ≡ true = enough c.in-Active.charged (count_of layer) c.count.result c.covers.result c.covers.ensures c.count.ensures.count c.if-not-covers.false in
    let hand : c.in-Ok.hand ≡ restored_hand (with_record r s.records) slot (record { layer = layer; sealed = sealed }) r =
    c.in-Ok.ensures.ok ∙ hand_is s place saved slot c.in-Active.charged c.in-Active.is layer sealed covered c.self.invariant.good can c.in_ok-active.active c.in_ok-active.ensures.active c.in_ok-active.ensures.share sealed in
    let state = c.in_ok-active.ensures.done ∙ ap (λ (u : State). with_saved u (record_of u place saved)) same in
    let hands =
    c.put.ensures ∙ ap (λ (h : HandValue). with_hand slot (Some h) c.self.inside.hands) hand
    ∙ sym (hands_are s place saved slot c.in-Active.charged c.in-Active.is layer sealed covered c.self.invariant.good can c.self.inside.hands)
    ∙ (λ i. hands_after (with_record (record_of (same i) place saved) (same i).records) saved.content (Some c.args.hand) (held i)) in
    (open_answer s place saved slot c.in-Active.charged c.in-Active.is layer sealed covered, λ i. record { state = state i; hands = hands i })

pub returns-in-Err-clause-left : goal.returns-in-Err-clause-left
returns-in-Err-clause-left g c =
    let s : State = c.self.inside.accounts in
    let saved = c.args.saved in
    let place = c.args.place in
    let slot = c.in-Active.slot in
    let layer = c.args.hand.layer in
    let same : s ≡ c.args.self.now.state = ap (λ v. v.state) c.self.view_is in
    let held : c.self.inside.hands ≡ c.args.self.now.hands = ap (λ v. v.hands) c.self.view_is in
    let r : Record = record_of s place saved in
    let can : CanPutBack s r = subst (λ (u : State). CanPutBack u (record_of u place saved)) (sym same) c.requires.possible in
    let covered : covers c.in-Active.charged (count_of layer) ≡ true = enough c.in-Active.charged (count_of layer) c.count.result c.covers.result c.covers.ensures c.count.ensures.count c.if-not-covers.false in
    let hand : c.in-Err.hand ≡ restored_hand (with_record r s.records) slot (record { layer = layer; sealed = false }) r =
    c.in-Err.ensures.err ∙ hand_is s place saved slot c.in-Active.charged c.in-Active.is layer false covered c.self.invariant.good can c.in_ok-active.active c.in_ok-active.ensures.active c.in_ok-active.ensures.share false in
    let state = c.in_ok-active.ensures.done ∙ ap (λ (u : State). with_saved u (record_of u place saved)) same in
    let hands =
    c.put-in-Err.ensures ∙ ap (λ (h : HandValue). with_hand slot (Some h) c.self.inside.hands) hand
    ∙ sym (hands_are s place saved slot c.in-Active.charged c.in-Active.is layer false covered c.self.invariant.good can c.self.inside.hands)
    ∙ (λ i. hands_after (with_record (record_of (same i) place saved) (same i).records) saved.content (Some (record { layer = layer; sealed = false })) (held i)) in
    inr (open_answer s place saved slot c.in-Active.charged c.in-Active.is layer c.args.hand.sealed covered, λ i. record { state = state i; hands = hands i })
