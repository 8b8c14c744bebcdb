use Rattle.std.proofs.Common.{◌≡◌, sym, ◌∙◌, arith}
use Rattle.snap_call.specs.declared.call.Given.TheVariants.{Nothing}
use Rattle.snap_call.specs.declared.entry.Entry.{Entry}
use Rattle.snap_call.specs.Journal.{call_entry}
use Rattle.snap_call.specs.Step.{step, IsAllowed}
use Rattle.snap_book.proofs.Keeping.{kept_push, plain_allowed, recorded_push}
use Rattle.snap_book.proofs.book.Book.record_plain.Goals as goal

pub invariant_of-self-2 : goal.invariant_of-self-2
invariant_of-self-2 g c =
    let s = c.self.inside.accounts in
    let plan = c.in_ok-plan.plan in
    let e : Entry = call_entry c.args.session c.args.call Nothing plan.reply in
    let allowed : IsAllowed s c.args.call Nothing = plain_allowed s c.args.call c.requires.plain in
    let moved : step s c.args.call Nothing ≡ (c.carry_out.new.self, plan.reply) = c.in_ok-plan.ensures.changed ∙ (λ i. (sym c.in_ok-removed.ensures.done i, plan.reply)) in
    kept_push _ _ _ _ _ e _ c.self.invariant c.in_ok-admit.ensures.same c.push.ensures.entry c.in_ok-plan.ensures.entry allowed moved
    (omega (arith, c.in_ok-removed.ensures.open, c.open_slots.ensures, c.in_ok-admit.ensures.below))
    (omega (arith, c.in_ok-removed.ensures.open, c.open_slots.ensures, c.in_ok-admit.ensures.room, c.push.ensures.room))

pub returns-clause-recorded : goal.returns-clause-recorded
returns-clause-recorded g c =
    let s = c.self.inside.accounts in
    let plan = c.in_ok-plan.plan in
    let e : Entry = call_entry c.args.session c.args.call Nothing plan.reply in
    let allowed : IsAllowed s c.args.call Nothing = plain_allowed s c.args.call c.requires.plain in
    let moved : step s c.args.call Nothing ≡ (c.carry_out.new.self, plan.reply) = c.in_ok-plan.ensures.changed ∙ (λ i. (sym c.in_ok-removed.ensures.done i, plan.reply)) in
    recorded_push _ _ _ c.self.inside.journal _ _ e _ c.self.view_is c.in_ok-admit.ensures.same c.push.ensures.entry c.in_ok-plan.ensures.entry allowed moved
