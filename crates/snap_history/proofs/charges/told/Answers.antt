use Rattle.std.proofs.Common.{◌≡◌, ◌-◌, List, length, sym, ap, ◌∙◌, arith}
use Rattle.std.specs.Prelude.{Result, Ok, Err, IfOk}
use Rattle.snap_call.specs.declared.entry.Entry.{Entry}
use Rattle.snap_call.proofs.Replaying.{Replays-entries}
use Rattle.snap_history.specs.Changes.{changes_of, charge_before, entry_infos_of}
use Rattle.snap_history.specs.History.{history_page, namespace_charge}
use Rattle.snap_history.proofs.Law.{told_history}
use Rattle.snap_history.proofs.charges.told.Goals as goal

if_ok : {T E : Type 0} {P Q : T → Type 0} (r : Result T E) → ((x : T) → P x → Q x) → IfOk r P → IfOk r Q
if_ok (Ok x) f p = f x p
if_ok (Err e) f p = tt

pub returns : goal.returns
returns c =
    let es : List Entry = c.args.entries.now in
    if_ok c.infos.result
    (λ found is s t good shares replays numbered charged.
    let count = Replays-entries s es t replays in
    let first : c.args.last - length es ≡ s.entries = omega arith in
    let opening : charge_before c.args.now c.deref.result.now ≡ charge_before (namespace_charge c.args.name.now t) (changes_of c.args.name.now c.args.held.now es) =
    (λ i. charge_before (sym charged i) ((c.deref.ensures.value ∙ c.in_ok-changes.ensures) i)) in
    is ∙ ap (history_page c.args.after c.args.most)
    ((λ i. entry_infos_of c.args.name.now (first i) c.args.held.now ((c.charge_before-opening.ensures ∙ opening) i) es) ∙ told_history c.args.name.now c.args.held.now s es t good shares replays))
    c.infos.ensures
