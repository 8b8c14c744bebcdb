use Rattle.std.specs.Prelude.{List, Result, Ok, Err, IfOk}
use Rattle.std.proofs.Common.{◌≡◌, ◌≤◌, false, sym, ap, ◌∙◌, subst, arith}
use Rattle.snap_path.specs.Limits.{most_number}
use Rattle.snap_record.specs.Labels.{Bytes, Label}
use Rattle.snap_call.specs.declared.call.Call.TheVariants as calls
use Rattle.snap_call.specs.declared.call.Given.TheVariants.{Nothing}
use Rattle.snap_call.specs.declared.entry.Entry.{Entry}
use Rattle.snap_call.specs.declared.refusal.Refusal.{Refusal}
use Rattle.snap_call.specs.declared.reply.Reply.TheVariants.{Prepared}
use Rattle.snap_call.specs.declared.state.State.{State}
use Rattle.snap_call.specs.Journal.{call_entry}
use Rattle.snap_call.specs.Records.{open_count}
use Rattle.snap_call.specs.State.{ancestors, ids_of, is_too_deep, layers_of}
use Rattle.snap_call.specs.Step.{step}
use Rattle.snap_accounts.specs.declared.prepare.Vacancy.{Vacancy}
use Rattle.snap_accounts.specs.Vacant.{IsVacant}
use Rattle.snap_book.specs.Active.{ActiveValue}
use Rattle.snap_book.specs.Book.{BookValue, Recorded, prepare_reply}
use Rattle.snap_book.proofs.Keeping.{kept_push, recorded_push}
use Rattle.snap_book.proofs.book.Book.prepare_within.Goals as goal

-- where it is granted, the chain leaves room, and there is an id
has_chain : (s : State) (key parent : Bytes) (labels : List Label) (found : Result Vacancy Refusal) → IfOk found (λ v. IsVacant s v key parent labels) → IfOk found (λ v. (is_too_deep s.ancestors v.place parent s.records ≡ false) × (s.next_id ≤ most_number))
has_chain s key parent labels (Ok v) vacant = (vacant.site.deep, vacant.site.numbers)
has_chain s key parent labels (Err why) vacant = tt

pub reply_to-requires : goal.reply_to-requires
reply_to-requires g c = has_chain c.self.inside.accounts c.args.key.now c.args.parent.now c.args.labels.now c.vacancy-found.result c.vacancy-found.ensures.vacant

pub invariant_of-self-in-Err : goal.invariant_of-self-in-Err
invariant_of-self-in-Err g c =
    let s = c.self.inside.accounts in
    let call = calls.Prepare c.args.namespace.now c.args.key.now c.args.parent.now c.args.labels.now in
    let reply = prepare_reply c.vacancy-found.result s c.args.parent.now in
    let e : Entry = call_entry c.args.session call Nothing reply in
    let is : c.in_ok-entry.entry ≡ e = c.in_ok-entry.ensures.0 ∙ (λ i. call_entry c.args.session (c.in_ok-call.ensures i) Nothing (c.in_ok-reply.ensures.reply i)) in
    let moved : step s call Nothing ≡ (c.count_entry.new.self, reply) = c.in-Err.ensures.refused ∙ (λ i. (sym c.count_entry.ensures i, prepare_reply (sym c.in-Err.is i) s c.args.parent.now)) in
    let opened = ap (λ (t : State). open_count t.records) c.count_entry.ensures in
    kept_push _ _ _ _ _ e _ c.self.invariant c.in_ok-admit.ensures.same c.push.ensures.entry is tt moved
    (omega (arith, opened, c.open_slots.ensures, c.in_ok-admit.ensures.below))
    (omega (arith, opened, c.open_slots.ensures, c.in_ok-admit.ensures.room, c.push.ensures.room))

pub invariant_of-self-2 : goal.invariant_of-self-2
invariant_of-self-2 g c =
    let s = c.self.inside.accounts in
    let call = calls.Prepare c.args.namespace.now c.args.key.now c.args.parent.now c.args.labels.now in
    let reply = prepare_reply c.vacancy-found.result s c.args.parent.now in
    let e : Entry = call_entry c.args.session call Nothing reply in
    let is : c.in_ok-entry.entry ≡ e = c.in_ok-entry.ensures.0 ∙ (λ i. call_entry c.args.session (c.in_ok-call.ensures i) Nothing (c.in_ok-reply.ensures.reply i)) in
    let moved : step s call Nothing ≡ (c.add.new.accounts, reply) = c.in-Ok.ensures.ok ∙ (λ i. (sym c.in_ok-active.ensures.added i, prepare_reply (sym c.in-Ok.is i) s c.args.parent.now)) in
    kept_push _ _ _ _ _ e _ c.self.invariant c.in_ok-admit.ensures.same c.push-2.ensures.entry is tt moved
    (omega (arith, c.in_ok-active.ensures.open, c.open_slots.ensures, c.in_ok-admit.ensures.below))
    (omega (arith, c.in_ok-active.ensures.open, c.open_slots.ensures, c.in_ok-admit.ensures.room, c.push-2.ensures.room))

pub returns-clause-granted : goal.returns-clause-granted
returns-clause-granted g c =
    let s = c.self.inside.accounts in
    let j = c.self.inside.journal in
    let k = c.push-2.new.self in
    let old : BookValue = c.args.self.now in
    let new : BookValue = record { state = c.add.new.accounts; journal = k.entries; opening = k.opening; limit = k.limit; copy = k.copy } in
    let parent = c.args.parent.now in
    let call = calls.Prepare c.args.namespace.now c.args.key.now parent c.args.labels.now in
    let reply = prepare_reply c.vacancy-found.result s parent in
    let e : Entry = call_entry c.args.session call Nothing reply in
    let is : c.in_ok-entry.entry ≡ e = c.in_ok-entry.ensures.0 ∙ (λ i. call_entry c.args.session (c.in_ok-call.ensures i) Nothing (c.in_ok-reply.ensures.reply i)) in
    let moved : step s call Nothing ≡ (c.add.new.accounts, reply) = c.in-Ok.ensures.ok ∙ (λ i. (sym c.in_ok-active.ensures.added i, prepare_reply (sym c.in-Ok.is i) s parent)) in
    let noted = recorded_push old s c.add.new.accounts j c.admit.new.self k e c.in_ok-entry.entry c.self.view_is c.in_ok-admit.ensures.same c.push-2.ensures.entry is tt moved in
    let granted = subst (λ (f : Result Vacancy Refusal). Recorded old new c.args.session call Nothing (prepare_reply f s parent)) c.in-Ok.is noted in
    subst (λ (a : ActiveValue). Recorded old new c.args.session call Nothing (Prepared a.share.id a.share.slot (ids_of (ancestors a.namespace parent old.state.records)))) (sym c.in_ok-active.ensures.active)
    (subst (λ (b : BookValue). Recorded old new c.args.session call Nothing (Prepared s.next_id c.in-Ok.vacancy.slot (ids_of (ancestors c.in-Ok.vacancy.place parent b.state.records)))) c.self.view_is granted)

pub returns-clause-reply : goal.returns-clause-reply
returns-clause-reply g c =
    let s = c.self.inside.accounts in
    let old : BookValue = c.args.self.now in
    let parent = c.args.parent.now in
    let v = c.in-Ok.vacancy in
    let made : c.in_ok-answer.answer ≡ prepare_reply c.vacancy-found.result s parent =
    c.in_ok-answer.ensures.cases ∙ (ap (λ (e : Entry). e.reply) c.entry.ensures ∙ (ap (λ (e : Entry). e.reply) c.in_ok-entry.ensures.0 ∙ c.in_ok-reply.ensures.reply)) in
    made
    ∙ (ap (λ (f : Result Vacancy Refusal). prepare_reply f s parent) c.in-Ok.is
    ∙ (ap (λ (b : BookValue). Prepared s.next_id v.slot (ids_of (ancestors v.place parent b.state.records))) c.self.view_is
    ∙ ap (λ (a : ActiveValue). Prepared a.share.id a.share.slot (ids_of (ancestors a.namespace parent old.state.records))) (sym c.in_ok-active.ensures.active)))

pub returns-clause-lowers : goal.returns-clause-lowers
returns-clause-lowers g c =
    let parent = c.args.parent.now in
    let below = subst (λ (f : Result Vacancy Refusal). IfOk f (λ v. c.in_ok-reply.lowers ≡ layers_of (ancestors v.place parent c.self.inside.accounts.records))) c.in-Ok.is c.in_ok-reply.ensures.lowers in
    ap (λ (a : ActiveValue). a.lowers) c.in_ok-active.ensures.active
    ∙ (below
    ∙ (ap (λ (b : BookValue). layers_of (ancestors c.in-Ok.vacancy.place parent b.state.records)) c.self.view_is
    ∙ ap (λ (a : ActiveValue). layers_of (ancestors a.namespace parent c.args.self.now.state.records)) (sym c.in_ok-active.ensures.active)))
