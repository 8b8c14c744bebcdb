use Rattle.std.specs.Prelude.{Result, IfOk}
use Rattle.std.proofs.Common.{◌≡◌, ◌≤◌, false, sym, ap, ◌∙◌, subst}
use Rattle.snap_path.specs.Limits.{most_number}
use Rattle.snap_call.specs.declared.refusal.Refusal.{Refusal}
use Rattle.snap_call.specs.declared.reply.Reply.TheVariants.{Prepared}
use Rattle.snap_call.specs.declared.state.State.{State}
use Rattle.snap_call.specs.State.{ancestors, ids_of, is_too_deep, layers_of, most_ancestors}
use Rattle.snap_call.proofs.Keeping.{good_deep}
use Rattle.snap_accounts.specs.declared.prepare.Vacancy.{Vacancy}
use Rattle.snap_book.specs.Book.{prepare_reply}
use Rattle.snap_book.proofs.prepare.reply_to.Goals as goal

pub chain-requires : goal.chain-requires
chain-requires g c =
    let s = c.args.accounts.now in
    let parent = c.args.parent.now in
    let fits = subst (λ (f : Result Vacancy Refusal). IfOk f (λ v. (is_too_deep s.ancestors v.place parent s.records ≡ false) × (s.next_id ≤ most_number))) c.in-Ok.is c.requires in
    ap (λ (t : State). is_too_deep most_ancestors c.in-Ok.vacancy.place parent t.records) c.state-state.ensures.same ∙ good_deep s c.state-state.ensures.good c.in-Ok.vacancy.place parent fits.0

pub returns-clause-reply : goal.returns-clause-reply
returns-clause-reply g c =
    let v = c.in-Ok.vacancy in
    let parent = c.args.parent.now in
    let same = c.state-state.ensures.same in
    let ids = c.in_ok-ids.ensures.ids ∙ ap (λ (s : State). ids_of (ancestors v.place parent s.records)) same in
    (λ i. Prepared (same i).next_id v.slot (ids i)) ∙ ap (λ (f : Result Vacancy Refusal). prepare_reply f c.args.accounts.now parent) (sym c.in-Ok.is)

pub returns-clause-lowers : goal.returns-clause-lowers
returns-clause-lowers g c =
    let parent = c.args.parent.now in
    let below = c.in_ok-ids.ensures.layers ∙ ap (λ (s : State). layers_of (ancestors c.in-Ok.vacancy.place parent s.records)) c.state-state.ensures.same in
    subst (λ (f : Result Vacancy Refusal). IfOk f (λ v. c.in_ok-ids.field-0.layers ≡ layers_of (ancestors v.place parent c.args.accounts.now.records))) (sym c.in-Ok.is) below
