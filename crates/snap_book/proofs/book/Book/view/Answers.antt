use Rattle.std.proofs.Common.{◌≡◌, refl, sym, ap, ◌∙◌, arith}
use Rattle.snap_call.specs.declared.call.Call.{Call}
use Rattle.snap_call.specs.declared.call.Call.TheVariants as calls
use Rattle.snap_call.specs.declared.call.Given.TheVariants.{Nothing}
use Rattle.snap_call.specs.declared.entry.Entry.{Entry}
use Rattle.snap_call.specs.Journal.{call_entry}
use Rattle.snap_call.specs.Step.{step}
use Rattle.snap_book.specs.Book.{BookValue, Recorded}
use Rattle.snap_book.proofs.Keeping.{kept_push, recorded_push}
use Rattle.snap_book.proofs.Viewing.{comes_with, granted_answer, granted_at, lowers_at, refused_at}
use Rattle.snap_book.proofs.book.Book.view.Goals as goal

pub answer_to-requires : goal.answer_to-requires
answer_to-requires g c =
    let plan = c.in_ok-plan.plan in
    comes_with c.self.inside.accounts c.args.namespace.now c.args.key.now c.args.parent.now c.args.labels.now c.in_ok-call.call plan.change plan.reply c.in_ok-call.ensures
    c.in_ok-plan.ensures.changed c.in_ok-plan.ensures.possible

pub invariant_of-self-2 : goal.invariant_of-self-2
invariant_of-self-2 g c =
    let s = c.self.inside.accounts in
    let plan = c.in_ok-plan.plan in
    let call = calls.View c.args.namespace.now c.args.key.now c.args.parent.now c.args.labels.now in
    let e : Entry = call_entry c.args.session call Nothing plan.reply in
    let is : plan.entry ≡ e = c.in_ok-plan.ensures.entry ∙ ap (λ (k : Call). call_entry c.args.session k Nothing plan.reply) c.in_ok-call.ensures in
    let moved : step s call Nothing ≡ (c.carry_out.new.self, plan.reply) =
    ap (λ (k : Call). step s k Nothing) (sym c.in_ok-call.ensures) ∙ (c.in_ok-plan.ensures.changed ∙ (λ i. (sym c.in_ok-carry_out.ensures.done i, plan.reply))) in
    kept_push _ _ _ _ _ e _ c.self.invariant c.in_ok-admit.ensures.same c.push.ensures.entry is tt moved
    (omega (arith, c.in_ok-carry_out.ensures.open, c.open_slots.ensures, c.in_ok-admit.ensures.below))
    (omega (arith, c.in_ok-carry_out.ensures.open, c.open_slots.ensures, c.in_ok-admit.ensures.room, c.push.ensures.room))

pub returns-clause-granted : goal.returns-clause-granted
returns-clause-granted g c =
    let s = c.self.inside.accounts in
    let j = c.self.inside.journal in
    let k = c.push.new.self in
    let plan = c.in_ok-plan.plan in
    let mid : BookValue = record { state = s; journal = j.entries; opening = j.opening; limit = j.limit; copy = j.copy } in
    let new : BookValue = record { state = c.carry_out.new.self; journal = k.entries; opening = k.opening; limit = k.limit; copy = k.copy } in
    let call = calls.View c.args.namespace.now c.args.key.now c.args.parent.now c.args.labels.now in
    let e : Entry = call_entry c.args.session call Nothing plan.reply in
    let is : plan.entry ≡ e = c.in_ok-plan.ensures.entry ∙ ap (λ (k : Call). call_entry c.args.session k Nothing plan.reply) c.in_ok-call.ensures in
    let moved : step s call Nothing ≡ (c.carry_out.new.self, plan.reply) =
    ap (λ (k : Call). step s k Nothing) (sym c.in_ok-call.ensures) ∙ (c.in_ok-plan.ensures.changed ∙ (λ i. (sym c.in_ok-carry_out.ensures.done i, plan.reply))) in
    let noted : Recorded mid new c.args.session call Nothing plan.reply = recorded_push mid s c.carry_out.new.self j c.admit.new.self k e plan.entry refl c.in_ok-admit.ensures.same c.push.ensures.entry is tt moved in
    granted_at mid c.args.self.now new c.args.session c.args.namespace.now c.args.parent.now call e c.in_ok-answer.answer c.self.view_is refl noted
    (granted_answer s c.args.namespace.now c.args.key.now c.args.parent.now c.args.labels.now c.in_ok-call.call plan.change plan.reply c.in_ok-answer.answer c.in_ok-call.ensures
    c.in_ok-plan.ensures.changed c.in_ok-plan.ensures.possible c.in_ok-answer.ensures.granted)

pub returns-clause-lowers : goal.returns-clause-lowers
returns-clause-lowers g c =
    let s = c.self.inside.accounts in
    let j = c.self.inside.journal in
    let plan = c.in_ok-plan.plan in
    let mid : BookValue = record { state = s; journal = j.entries; opening = j.opening; limit = j.limit; copy = j.copy } in
    lowers_at mid c.args.self.now c.args.namespace.now c.args.parent.now plan.reply c.in_ok-answer.answer c.self.view_is
    (granted_answer s c.args.namespace.now c.args.key.now c.args.parent.now c.args.labels.now c.in_ok-call.call plan.change plan.reply c.in_ok-answer.answer c.in_ok-call.ensures
    c.in_ok-plan.ensures.changed c.in_ok-plan.ensures.possible c.in_ok-answer.ensures.granted)

pub returns-clause-refused : goal.returns-clause-refused
returns-clause-refused g c =
    let s = c.self.inside.accounts in
    let k = c.push.new.self in
    let plan = c.in_ok-plan.plan in
    let new : BookValue = record { state = c.carry_out.new.self; journal = k.entries; opening = k.opening; limit = k.limit; copy = k.copy } in
    let call = calls.View c.args.namespace.now c.args.key.now c.args.parent.now c.args.labels.now in
    let e : Entry = call_entry c.args.session call Nothing plan.reply in
    let is : plan.entry ≡ e = c.in_ok-plan.ensures.entry ∙ ap (λ (k : Call). call_entry c.args.session k Nothing plan.reply) c.in_ok-call.ensures in
    let moved : step s call Nothing ≡ (c.carry_out.new.self, plan.reply) =
    ap (λ (k : Call). step s k Nothing) (sym c.in_ok-call.ensures) ∙ (c.in_ok-plan.ensures.changed ∙ (λ i. (sym c.in_ok-carry_out.ensures.done i, plan.reply))) in
    refused_at c.args.self.now new c.args.session call plan.reply c.in_ok-answer.answer
    (recorded_push c.args.self.now s c.carry_out.new.self c.self.inside.journal c.admit.new.self k e plan.entry c.self.view_is c.in_ok-admit.ensures.same c.push.ensures.entry is tt moved)
    c.in_ok-plan.ensures.recorded c.in_ok-answer.ensures.refused
