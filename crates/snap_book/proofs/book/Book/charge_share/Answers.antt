use Rattle.std.proofs.Common.{◌≡◌, sym, ◌∙◌, subst, arith}
use Rattle.snap_call.specs.declared.entry.Entry.{Entry}
use Rattle.snap_call.specs.Journal.{call_entry}
use Rattle.snap_call.specs.declared.call.Call.TheVariants as calls
use Rattle.snap_call.specs.declared.call.Given.TheVariants.{Nothing}
use Rattle.snap_call.specs.declared.reply.Reply.TheVariants.{Charged, Refused}
use Rattle.snap_call.specs.declared.refusal.Refusal.TheVariants.{OverLimit}
use Rattle.snap_call.specs.declared.state.State.{State}
use Rattle.snap_book.specs.Book.{Kept}
use Rattle.snap_book.proofs.Keeping.{kept_push}
use Rattle.snap_book.proofs.book.Book.charge_share.Goals as goal

pub invariant_of-self-in-Ok : goal.invariant_of-self-in-Ok
invariant_of-self-in-Ok g c =
    let share = c.meet.new.share in
    let kept : Kept c.meet.new.self c.self.inside.journal = subst (λ (s : State). Kept s c.self.inside.journal) (sym c.meet.ensures.same) c.self.invariant in
    let e : Entry = call_entry c.args.session (calls.Charge share.slot share.id c.args.need c.args.want) Nothing (Charged c.in-Ok.now) in
    let is : c.charge_entry-entry.result ≡ e = c.charge_entry-entry.ensures ∙ (λ i. call_entry c.args.session (calls.Charge (c.slot-slot.ensures i) (c.id-id.ensures i) c.args.need c.args.want) Nothing (Charged c.in-Ok.now)) in
    kept_push _ _ _ _ _ e _ kept c.in_ok-admit.ensures.same c.push_into.ensures.entry is c.charge.ensures.allowed c.in-Ok.ensures.granted
    (omega (arith, c.charge.ensures.open, c.open_slots.ensures, c.in_ok-admit.ensures.below))
    (omega (arith, c.charge.ensures.open, c.open_slots.ensures, c.in_ok-admit.ensures.room, c.push_into.ensures.room))

pub invariant_of-self-in-Err : goal.invariant_of-self-in-Err
invariant_of-self-in-Err g c =
    let share = c.meet.new.share in
    let kept : Kept c.meet.new.self c.self.inside.journal = subst (λ (s : State). Kept s c.self.inside.journal) (sym c.meet.ensures.same) c.self.invariant in
    let free = c.in-Err.free in
    let e : Entry = call_entry c.args.session (calls.Charge share.slot share.id c.args.need c.args.want) Nothing (Refused (OverLimit free.blocks free.inodes)) in
    let is : c.charge_entry-entry-in-Err.result ≡ e = c.charge_entry-entry-in-Err.ensures ∙ (λ i. call_entry c.args.session (calls.Charge (c.slot-slot.ensures i) (c.id-id.ensures i) c.args.need c.args.want) Nothing (Refused (OverLimit free.blocks free.inodes))) in
    kept_push _ _ _ _ _ e _ kept c.in_ok-admit.ensures.same c.push_into-in-Err.ensures.entry is c.charge.ensures.allowed c.in-Err.ensures.refused
    (omega (arith, c.charge.ensures.open, c.open_slots.ensures, c.in_ok-admit.ensures.below))
    (omega (arith, c.charge.ensures.open, c.open_slots.ensures, c.in_ok-admit.ensures.room, c.push_into-in-Err.ensures.room))
