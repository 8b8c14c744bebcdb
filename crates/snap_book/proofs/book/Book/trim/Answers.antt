use Rattle.std.proofs.Common.{◌≡◌, sym, ◌∙◌, subst, arith}
use Rattle.snap_call.specs.declared.entry.Entry.{Entry}
use Rattle.snap_call.specs.Journal.{call_entry}
use Rattle.snap_call.specs.declared.call.Call.TheVariants as calls
use Rattle.snap_call.specs.declared.call.Given.TheVariants.{Count}
use Rattle.snap_call.specs.declared.reply.Reply.TheVariants.{Trimmed}
use Rattle.snap_call.specs.declared.state.State.{State}
use Rattle.snap_book.specs.Book.{Kept}
use Rattle.snap_book.proofs.Keeping.{kept_push}
use Rattle.snap_book.proofs.book.Book.trim.Goals as goal

pub invariant_of-self-2 : goal.invariant_of-self-2
invariant_of-self-2 g c =
    let share = c.meet.new.share in
    let kept : Kept c.meet.new.self c.self.inside.journal = subst (λ (s : State). Kept s c.self.inside.journal) (sym c.meet.ensures.same) c.self.invariant in
    let e : Entry = call_entry c.args.session (calls.Trim share.slot share.id) (Count c.count-count.result) Trimmed in
    let is : c.trim_entry.result ≡ e = c.trim_entry.ensures ∙ (λ i. call_entry c.args.session (calls.Trim (c.slot-slot.ensures i) (c.id-id.ensures i)) (Count c.count-count.result) Trimmed) in
    kept_push _ _ _ _ _ e _ kept c.in_ok-admit.ensures.same c.push_into.ensures.entry is c.trim.ensures.allowed c.trim.ensures.step
    (omega (arith, c.trim.ensures.open, c.open_slots.ensures, c.in_ok-admit.ensures.below))
    (omega (arith, c.trim.ensures.open, c.open_slots.ensures, c.in_ok-admit.ensures.room, c.push_into.ensures.room))
