-- An operation with the charge that it needs, as a script has it.
use Rattle.std.proofs.Common.{◌≡◌, inl, inr, ℕ, false, Bool, Option, Result, Ok, Err, refl, sym, ap, ◌∙◌}
use Rattle.std.specs.Prelude.{if◌then◌else◌, IfOk, unwrap_or}
use Rattle.std.specs.Option.{option_map, option_map_or}
use Rattle.snap_path.specs.declared.memory.NoMemory.{NoMemory}
use Rattle.snap_usage.specs.declared.usage.Usage.{Usage}
use Rattle.snap_usage.specs.Counted.{count_of, no_usage}
use Rattle.snap_merge.specs.declared.error.FsError.TheVariants.{NeedsCharge}
use Rattle.snap_call.specs.declared.call.Call.TheVariants as calls
use Rattle.snap_call.specs.declared.reply.Reply.TheVariants as replies
use Rattle.snap_upper.specs.declared.op.Op.{Op}
use Rattle.snap_book.specs.Wanted.{wanted_charge}
use Rattle.snap_world.specs.declared.applied.Changed.{Changed}
use Rattle.snap_world.specs.declared.applied.Unapplied.{Unapplied}
use Rattle.snap_world.specs.declared.applied.Unapplied.TheVariants as faults
use Rattle.snap_world.specs.declared.step.Answer.{Answer as StepAnswer}
use Rattle.snap_world.specs.declared.step.Answer.TheVariants as step_answers
use Rattle.snap_world.specs.declared.step.Step.TheVariants.{Hand, Locked}
use Rattle.snap_world.specs.Applied.{Applies, OperatesWithin, last_answer}
use Rattle.snap_world.specs.Move.{move}
use Rattle.snap_world.specs.World.{WorldValue}
use Rattle.snap_script.specs.declared.answer.Answer.{Answer}
use Rattle.snap_script.specs.declared.answer.Answer.TheVariants as answers
use Rattle.snap_session.specs.Commands.{answer_of_step, retried, stepped, telling, tried}
use Rattle.snap_session.specs.Wanting.{is_want, unapplied_answer}
use Rattle.snap_session.proofs.Moving.{is_moved}
use Rattle.snap_session.proofs.Opening.{opening-kept}

pub opening_applied : (old new : WorldValue) (n slot id : ℕ) (op : Op) (extra : Usage) (answer : StepAnswer) → OperatesWithin old n slot id op extra answer new → new.opening ≡ old.opening
opening_applied old new n slot id op extra answer (inl moved) = opening-kept old new (Hand slot op) answer moved.0
opening_applied old new n slot id op extra answer (inr (need, first, inl refused)) = opening-kept old new (Locked n (calls.Charge slot id need (wanted_charge need extra))) answer refused.0
opening_applied old new n slot id op extra answer (inr (need, first, inr (now, mid, granted, again))) =
    opening-kept mid new (Hand slot op) answer again ∙ opening-kept old mid (Locked n (calls.Charge slot id need (wanted_charge need extra))) (step_answers.Reply (replies.Charged now)) granted

-- without want of memory these are the definition's steps
tried_as : (old new : WorldValue) (n slot id : ℕ) (op : Op) (extra : Usage) (answer : StepAnswer) → is_want answer ≡ false → OperatesWithin old n slot id op extra answer new → tried n slot id (Hand slot op) extra (move old (Hand slot op)) ≡ telling n slot (new, answer)
tried_as old new n slot id op extra answer not (inl (moved, none)) =
    ap (tried n slot id (Hand slot op) extra) (is_moved old new (Hand slot op) answer not moved)
    ∙ ap (λ (o : Option Usage). option_map_or (λ need. retried n slot (Hand slot op) (move new (Locked n (calls.Charge slot id need (wanted_charge need extra))))) o (telling n slot (new, answer))) none
tried_as old new n slot id op extra answer not (inr (need, first, inl (refused, uncharged))) =
    ap (tried n slot id (Hand slot op) extra) (is_moved old old (Hand slot op) (step_answers.File (Err (NeedsCharge need))) refl first)
    ∙ ap (retried n slot (Hand slot op)) (is_moved old new (Locked n (calls.Charge slot id need (wanted_charge need extra))) answer not refused)
    ∙ ap (λ (b : Bool). if b then stepped n slot (Hand slot op) new else telling n slot (new, answer)) uncharged
tried_as old new n slot id op extra answer not (inr (need, first, inr (now, mid, granted, again))) =
    ap (tried n slot id (Hand slot op) extra) (is_moved old old (Hand slot op) (step_answers.File (Err (NeedsCharge need))) refl first)
    ∙ ap (retried n slot (Hand slot op)) (is_moved old mid (Locked n (calls.Charge slot id need (wanted_charge need extra))) (step_answers.Reply (replies.Charged now)) refl granted)
    ∙ ap (telling n slot) (is_moved mid new (Hand slot op) answer not again)

-- one that was done
pub tried_done : (old new : WorldValue) (n slot id : ℕ) (op : Op) (extra : Usage) (changed : Changed) → Applies old n slot id op extra (Ok changed) new → tried n slot id (Hand slot op) extra (move old (Hand slot op)) ≡ (new, answers.Changed changed.count changed.share)
tried_done old new n slot id op extra changed applies =
    let (h, at, counts, charges) = applies.told in
    tried_as old new n slot id op extra (step_answers.File (Ok tt)) refl applies.steps
    ∙ (λ i. (new, answers.Changed (unwrap_or (option_map (λ h. count_of h.snapshot.layer) (at i)) no_usage) (unwrap_or (option_map (λ h. h.snapshot.share.usage) (at i)) no_usage)))
    ∙ (λ i. (new, answers.Changed (sym counts i) (sym charges i)))

-- and one that wasn't
told_as : (n slot : ℕ) (w : WorldValue) (why : Unapplied) → answer_of_step n slot w (last_answer (Err why)) ≡ unapplied_answer why
told_as n slot w (faults.File e) = refl
told_as n slot w (faults.Charge why) = refl
told_as n slot w faults.NoSession = refl
told_as n slot w faults.NoHand = refl

pub tried_refused : (old new : WorldValue) (n slot id : ℕ) (op : Op) (extra : Usage) (why : Unapplied) (r : Result Answer NoMemory) → Applies old n slot id op extra (Err why) new → IfOk r (λ answer. (is_want (last_answer (Err why)) ≡ false) × (answer ≡ unapplied_answer why))
    → IfOk r (λ answer. tried n slot id (Hand slot op) extra (move old (Hand slot op)) ≡ (new, answer))
tried_refused old new n slot id op extra why (Err want) applies is = tt
tried_refused old new n slot id op extra why (Ok answer) applies is =
    tried_as old new n slot id op extra (last_answer (Err why)) is.0 applies.steps ∙ ap (λ (a : Answer). (new, a)) (told_as n slot new why ∙ sym is.1)
