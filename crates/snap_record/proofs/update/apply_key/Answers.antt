use Rattle.std.proofs.Common.{◌≡◌, Some, sym, ap, ◌∙◌}
use Rattle.std.proofs.lemmas.Result.{on_ok_weaker}
use Rattle.snap_record.specs.Labels.{value_of}
use Rattle.snap_record.specs.Updates.{with_named}
use Rattle.snap_record.proofs.UpdateLemmas.{with_named-set, with_named-remove}
use Rattle.snap_record.proofs.update.apply_key.Goals as goal

pub returns-in_ok-clone-in-Some-clause-first : goal.returns-in_ok-clone-in-Some-clause-first
returns-in_ok-clone-in-Some-clause-first c =
    let value = c.in_ok-clone-in-Some.field-0 in
    let is : value_of c.args.given.now c.args.key ≡ Some value = sym c.in-Some.ensures ∙ ap Some (sym c.in_ok-clone-in-Some.ensures.cases) in
    on_ok_weaker c.insert.result
    (λ ok keys.
    with_named-set c.args.next.now c.args.given.now c.args.key value keys c.requires is
    ∙ ap (λ labels. with_named labels c.args.given.now keys) (sym ok))
    c.insert.ensures.ok

pub returns-in-None-clause-first : goal.returns-in-None-clause-first
returns-in-None-clause-first c = λ keys.
    with_named-remove c.args.next.now c.args.given.now c.args.key keys c.requires (sym c.in-None.ensures)
    ∙ ap (λ labels. with_named labels c.args.given.now keys) (sym c.remove.ensures.removed)
