use Rattle.std.specs.Prelude.{if◌then◌else◌, Bool}
use Rattle.std.proofs.Common.{ℕ, None, sym, ap, ◌∙◌, subst}
use Rattle.snap_call.specs.declared.call.Given.TheVariants.{Nothing}
use Rattle.snap_book.specs.Book.{AnsweredBy}
use Rattle.snap_tape.specs.Tapes.{AnsweredOn, SessionValue}
use Rattle.snap_store.proofs.Counted.{answered_made}
use Rattle.snap_store.proofs.Noted.{answered_on}
use Rattle.snap_round.specs.Rounds.{inner}
use Rattle.snap_store.proofs.Replies.{reply_to}
use Rattle.snap_store.proofs.Rounds.{answered_round}
use Rattle.snap_store.proofs.store.Store.ask_apart.Goals as goal

pub returns-clause-answered : goal.returns-clause-answered
returns-clause-answered g c =
    let mid = c.reserve.new.self in
    let b = c.deref_mut-2.inside.book in
    let after = c.do_call_apart-reply.new.self in
    let reply = c.do_call_apart-reply.result.0 in
    let room = c.in_default.ensures.room in
    let by = subst (λ (n : ℕ). AnsweredBy b after n c.args.call Nothing reply) c.number.ensures c.do_call_apart-reply.ensures.answered in
    let e = ap (λ (t : Bool). if t then after.copy else None) c.is_noted.ensures in
    subst (λ (s : SessionValue). AnsweredOn c.args.session.now s c.args.call Nothing reply) (sym c.note_entry.ensures.entry)
    (answered_on c.args.session.now mid b after c.args.call Nothing reply (if c.is_noted.result then after.copy else None) c.reserve.ensures.same room by e)

pub note_entry-requires-clause-made : goal.note_entry-requires-clause-made
note_entry-requires-clause-made g c =
    answered_made _ c.number.result c.deref_mut-2.inside.book c.do_call_apart-reply.new.self c.args.call Nothing c.do_call_apart-reply.result.0 c.is_noted.result c.deref_mut-2.invariant.1 c.do_call_apart-reply.ensures.answered c.is_noted.ensures

pub returns-clause-reply : goal.returns-clause-reply
returns-clause-reply g c = reply_to _ _ _ c.args.call c.do_call_apart-reply.result.0 c.requires c.do_call_apart-reply.ensures.answered

pub invariant_of-deref_mut : goal.invariant_of-deref_mut
invariant_of-deref_mut g c =
    let call = c.do_call_apart-reply in
    let kept = answered_round c.deref_mut-2.inside.book call.new.self c.number.result c.args.call Nothing call.result.0 call.ensures.answered in
    (c.deref_mut-2.invariant.0 ∙ ap inner (sym (c.note_entry.ensures.round ∙ kept)), c.note_entry.ensures.count)
