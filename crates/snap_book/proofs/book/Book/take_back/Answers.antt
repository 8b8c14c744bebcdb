use Rattle.std.proofs.Common.{◌≡◌, refl, ◌∙◌, arith}
use Rattle.snap_call.specs.declared.entry.Entry.{Entry}
use Rattle.snap_call.specs.Journal.{call_entry}
use Rattle.snap_call.specs.declared.call.Call.TheVariants as calls
use Rattle.snap_call.specs.declared.call.Given.TheVariants.{Nothing}
use Rattle.snap_call.specs.declared.reply.Reply.TheVariants.{Discarded}
use Rattle.snap_book.proofs.Keeping.{kept_push}
use Rattle.snap_book.proofs.book.Book.take_back.Goals as goal

pub invariant_of-self : goal.invariant_of-self
invariant_of-self g c =
    let share = c.released.inside.share in
    let e : Entry = call_entry c.args.session (calls.Discard share.slot share.id) Nothing (Discarded c.discard-held.result) in
    let is : c.discard_entry.result ≡ e = c.discard_entry.ensures ∙ (λ i. call_entry c.args.session (calls.Discard (c.slot-slot.ensures i) (c.id-id.ensures i)) Nothing (Discarded c.discard-held.result)) in
    kept_push _ _ c.self.inside.journal c.self.inside.journal _ e _ c.self.invariant refl c.push_into.ensures.entry is c.discard-held.ensures.allowed c.discard-held.ensures.step
    (omega (arith, c.discard-held.ensures.open, c.self.invariant.below))
    (omega (arith, c.discard-held.ensures.open, c.self.invariant.room, c.push_into.ensures.room))
