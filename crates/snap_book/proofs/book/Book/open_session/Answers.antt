use Rattle.std.proofs.Common.{◌≡◌, ◌<◌, sym, ap, subst, length, arith}
use Rattle.snap_call.specs.Journal.{call_entry}
use Rattle.snap_call.specs.declared.state.State.{State}
use Rattle.snap_call.specs.declared.call.Call.TheVariants as calls
use Rattle.snap_call.specs.declared.call.Given.TheVariants.{Nothing}
use Rattle.snap_call.specs.declared.reply.Reply.TheVariants.{Opened}
use Rattle.snap_call.specs.Records.{open_count, max_sessions}
use Rattle.snap_book.specs.Book.{JournalValue}
use Rattle.snap_book.proofs.Keeping.{kept_push, session_step}
use Rattle.snap_book.proofs.book.Book.open_session.Goals as goal

pub invariant_of-self-2 : goal.invariant_of-self-2
invariant_of-self-2 g c =
    let s = c.self.inside.accounts in
    let few : s.sessions < max_sessions = subst (λ (u : State). u.sessions < max_sessions) c.state.ensures.same c.if-number-ge-MAX_SESSIONS.false in
    let same = ap (λ (u : State). open_count u.records) c.open_session.ensures in
    let j : JournalValue = c.self.inside.journal in
    let kept = c.take_session_room.ensures in
    let made = subst (λ (v : JournalValue). v ≡ record j { room = v.room }) (sym kept) c.in_ok-admit.ensures.same in
    kept_push _ _ _ _ _ (call_entry c.state.result.now.sessions calls.Session Nothing Opened) _ c.self.invariant made c.push_into.ensures.entry c.session_entry.ensures
    few
    (session_step s _ few c.open_session.ensures)
    (omega (arith, same, ap (λ (v : JournalValue). length v.entries) kept, ap (λ (v : JournalValue). v.limit) kept, c.open_slots.ensures, c.in_ok-admit.ensures.below))
    (omega (arith, same, ap (λ (v : JournalValue). v.room) kept, c.open_slots.ensures, c.in_ok-admit.ensures.room, c.push_into.ensures.room))
