use Rattle.std.proofs.Common.{◌≡◌, ◌≤◌, inl, Some, sym, ap, subst, ◌∙◌, arith, true, false}
use Rattle.snap_layer.specs.Tree.{Tree, leaf_node, body}
use Rattle.snap_layer.specs.Layers.{IsLayer}
use Rattle.snap_layer.specs.Edits.{with_new, HasPlace, with_next}
use Rattle.snap_saved.proofs.Adding.{place_from, vacant_raised, first_put}
use Rattle.std.specs.Prelude.{Ok, Err}
use Rattle.snap_layer.specs.Counts.{is_within}
use Rattle.snap_saved.specs.declared.error.RestoreError.{RestoreError}
use Rattle.snap_saved.specs.Refusing.{Refutes, LacksNodeWithRoom}
use Rattle.snap_saved.proofs.Refuting.{refuse, fits_vacant, full_new, body_good}
use Rattle.snap_saved.specs.Restored.{put_first, with_first}
use Rattle.snap_saved.proofs.InTurn.{refused_edit}
use Rattle.snap_saved.proofs.Placing.{first_bad, first_full, first_goes, first_is, first_stopped, first_taken, room_made}
use Rattle.snap_saved.proofs.restoring.add_first.Goals as goal

pub add_body-requires-clause-place : goal.add_body-requires-clause-place
add_body-requires-clause-place c =
    let t = c.args.layer.now in
    let k = c.args.number in
    let p = c.args.name.now in
    let raised : IsLayer (with_next t k) = subst IsLayer c.raise.ensures.next c.raise.ensures.layer in
    subst (λ (u : Tree). HasPlace u p) (sym c.raise.ensures.next) (place_from (with_next t k) raised p (vacant_raised t k p c.in_default.ensures.free))

pub returns-in-Ok-clause-bodies : goal.returns-in-Ok-clause-bodies
returns-in-Ok-clause-bodies c =
    let t = c.args.layer.now in
    let k = c.args.number in
    let p = c.args.name.now in
    let b = c.args.content in
    let raised : IsLayer (with_next t k) = subst IsLayer c.raise.ensures.next c.raise.ensures.layer in
    let is : c.add_body.new.self ≡ with_new (with_next t k) p (leaf_node k b) b = c.in-Ok.ensures.ok ∙ ap (λ (w : Tree). with_new w p (leaf_node w.next b) b) c.raise.ensures.next in
    (first_put t c.add_body.new.self k b p c.requires.layer raised c.in_default.ensures.free (omega (arith, c.if-number-next_number.false, c.next_number.ensures.next)) is).bodies

pub returns-in-Ok-clause-names : goal.returns-in-Ok-clause-names
returns-in-Ok-clause-names c =
    let t = c.args.layer.now in
    let k = c.args.number in
    let p = c.args.name.now in
    let b = c.args.content in
    let raised : IsLayer (with_next t k) = subst IsLayer c.raise.ensures.next c.raise.ensures.layer in
    let is : c.add_body.new.self ≡ with_new (with_next t k) p (leaf_node k b) b = c.in-Ok.ensures.ok ∙ ap (λ (w : Tree). with_new w p (leaf_node w.next b) b) c.raise.ensures.next in
    (first_put t c.add_body.new.self k b p c.requires.layer raised c.in_default.ensures.free (omega (arith, c.if-number-next_number.false, c.next_number.ensures.next)) is).named

no_bool : true ≡ false → ⊥
no_bool e = cc

pub returns-then-number-next_number-clause-malformed : goal.returns-then-number-next_number-clause-malformed
returns-then-number-next_number-clause-malformed c = λ t ok such. omega (arith, such.0, c.if-number-next_number.true, c.next_number.ensures.next)

pub returns-then-not-is_body-clause-malformed : goal.returns-then-not-is_body-clause-malformed
returns-then-not-is_body-clause-malformed c = λ t ok such. no_bool (sym (c.if-not-is_body.ensures.fits.1 (body_good t ok c.args.number c.args.content such.1)))

pub returns-in-Some-clause-malformed : goal.returns-in-Some-clause-malformed
returns-in-Some-clause-malformed c = λ t ok such. c.in-Some.ensures.free (fits_vacant c.args.layer.now t c.requires.layer ok c.args.name.now (leaf_node c.args.number c.args.content) such.2.fits)

pub returns-in-Err-clause-malformed : goal.returns-in-Err-clause-malformed
returns-in-Err-clause-malformed c =
    let u = c.args.layer.now in
    let k = c.args.number in
    let b = c.args.content in
    let p = c.args.name.now in
    let raised : IsLayer (with_next u k) = subst IsLayer c.raise.ensures.next c.raise.ensures.layer in
    let P = λ (t : Tree). (u.next ≤ k) × (body t k ≡ Some b) × LacksNodeWithRoom u t p (leaf_node k b) in
    subst (λ (e : RestoreError). Refutes e P) (sym c.refused.ensures)
    (refuse c.in-Err.error c.args.part P (λ full t ok such. full_new u t k b p raised ok such.1 such.2 (ap (λ (w : Tree). is_within (with_new w p (leaf_node w.next b) b)) (sym c.raise.ensures.next) ∙ c.in-Err.ensures.full.0 (ap Err full))))

pub returns-in-Ok-clause-made : goal.returns-in-Ok-clause-made
returns-in-Ok-clause-made c =
    let t = c.args.layer.now in
    let k = c.args.number in
    let b = c.args.content in
    let p = c.args.name.now in
    let w = c.raise.new.self in
    let edit : with_new w p (leaf_node w.next b) b ≡ with_first k b t p = first_is t w k b p c.raise.ensures.next c.raise.ensures.layer c.in_default.ensures.free in
    first_goes c.args.part t p (sym c.in_default.ensures.first) k b (omega (arith, c.if-number-next_number.false, c.next_number.ensures.next)) (sym c.if-not-is_body.ensures.test)
    (ap is_within (sym edit) ∙ room_made c.in-Ok.field-0 (is_within (with_new w p (leaf_node w.next b) b)) c.in-Ok.ensures.full)
    ∙ ap (λ (u : Tree). Ok u) (sym (c.in-Ok.ensures.ok ∙ edit))

pub returns-in-Err-clause-refused : goal.returns-in-Err-clause-refused
returns-in-Err-clause-refused c =
    let t = c.args.layer.now in
    let k = c.args.number in
    let b = c.args.content in
    let p = c.args.name.now in
    let w = c.raise.new.self in
    let edit : with_new w p (leaf_node w.next b) b ≡ with_first k b t p = first_is t w k b p c.raise.ensures.next c.raise.ensures.layer c.in_default.ensures.free in
    refused_edit c.in-Err.error c.args.part c.refused.result (put_first c.args.part k b t p) c.refused.ensures
    (λ full. first_full c.args.part t p (sym c.in_default.ensures.first) k b (omega (arith, c.if-number-next_number.false, c.next_number.ensures.next)) (sym c.if-not-is_body.ensures.test)
    (ap is_within (sym edit) ∙ c.in-Err.ensures.full.0 (ap Err full)))

pub returns-then-number-next_number-clause-refused : goal.returns-then-number-next_number-clause-refused
returns-then-number-next_number-clause-refused c = inl (first_taken c.args.part c.args.layer.now c.args.name.now c.args.number c.args.content (omega (arith, c.if-number-next_number.true, c.next_number.ensures.next)))

pub returns-then-not-is_body-clause-refused : goal.returns-then-not-is_body-clause-refused
returns-then-not-is_body-clause-refused c = inl (first_bad c.args.part c.args.layer.now c.args.name.now c.args.number c.args.content (omega (arith, c.if-number-next_number.false, c.next_number.ensures.next)) (sym c.if-not-is_body.ensures.test))

pub returns-in-Some-clause-refused : goal.returns-in-Some-clause-refused
returns-in-Some-clause-refused c = inl (first_stopped c.args.part c.args.layer.now c.args.name.now c.args.number c.args.content (omega (arith, c.if-number-next_number.false, c.next_number.ensures.next)) (sym c.if-not-is_body.ensures.test) c.in-Some.fault (sym c.in-Some.ensures.first))
