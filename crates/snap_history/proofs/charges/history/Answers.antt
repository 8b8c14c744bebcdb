use Rattle.std.proofs.Common.{◌≡◌, None, Some, ℕ, ◌-◌, List, drop, take, length, sym, ap, ◌∙◌, subst}
use Rattle.std.proofs.lemmas.List.{take_rest}
use Rattle.std.specs.Prelude.{Result, Ok, Err, IfOk}
use Rattle.snap_call.specs.Journal.{Replays}
use Rattle.snap_call.specs.declared.entry.Entry.{Entry}
use Rattle.snap_history.specs.Changes.{no_shares}
use Rattle.snap_history.specs.History.{history, history_page, last_made}
use Rattle.snap_history.specs.Open.{namespace_shares}
use Rattle.snap_history.proofs.Since.{Since, bare_shares, since_at, since_none}
use Rattle.snap_history.proofs.charges.history.Goals as goal

if_ok : {T E : Type 0} {P Q : T → Type 0} (r : Result T E) → ((x : T) → P x → Q x) → IfOk r P → IfOk r Q
if_ok (Ok x) f p = f x p
if_ok (Err e) f p = tt

pub returns-in_default : goal.returns-in_default
returns-in_default c =
    let es : List Entry = c.args.entries.now in
    let none : last_made c.args.name.now es ≡ None = sym c.last_made.ensures.found ∙ c.in_default.is in
    if_ok c.told.result
    (λ found is s t good slots shares replays numbered charged.
    is s t good (shares none) replays numbered charged ∙ ap (history_page c.args.after c.args.most) (sym (since_none c.args.name.now s es none)))
    c.told.ensures

pub returns : goal.returns
returns c =
    let es : List Entry = c.args.entries.now in
    let first : ℕ = c.in-Some.first in
    let rest : take (length es - first) (drop first es) ≡ drop first es = take_rest es first in
    let made : last_made c.args.name.now es ≡ Some first = sym c.last_made.ensures.found ∙ c.in-Some.is in
    if_ok c.told-2.result
    (λ found is s t good slots shares replays numbered charged.
    let since : Since c.args.name.now s es t first = since_at c.args.name.now s es t first good replays made in
    let bare : c.in_ok-none.none ≡ namespace_shares c.args.name.now since.opening = c.in_ok-none.ensures ∙ ap no_shares (c.slots.ensures ∙ slots ∙ sym since.slots) ∙ sym (bare_shares c.args.name.now since.opening since.unnamed) in
    is since.opening t since.good bare (subst (λ (l : List Entry). Replays since.opening l t) (sym rest) since.replays) numbered charged
    ∙ ap (λ (l : List Entry). history_page c.args.after c.args.most (history c.args.name.now since.opening l)) rest
    ∙ ap (history_page c.args.after c.args.most) (sym since.same))
    c.told-2.ensures
