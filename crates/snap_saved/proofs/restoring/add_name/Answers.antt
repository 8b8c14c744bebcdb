use Rattle.std.proofs.Common.{[], ◌∷◌, sym, ap, subst, ◌∙◌}
use Rattle.snap_layer.specs.Tree.{Tree, leaf_node}
use Rattle.snap_saved.specs.Named.{AddsNames}
use Rattle.snap_saved.proofs.Adding.{place_from, name_added, name_put, name_put_by}
use Rattle.snap_saved.proofs.Refuting.{fits_vacant}
use Rattle.std.specs.Prelude.{Ok}
use Rattle.snap_saved.proofs.Placing.{name_goes}
use Rattle.snap_saved.proofs.restoring.add_name.Goals as goal

pub add_name-requires-clause-place : goal.add_name-requires-clause-place
add_name-requires-clause-place c = place_from c.args.layer.now c.requires.layer c.args.name.now c.in_default.ensures.free

pub returns-clause-names : goal.returns-clause-names
returns-clause-names c =
    let t = c.args.layer.now in
    let p = c.args.name.now in
    let k = c.args.number in
    let put = name_put t c.requires.layer p c.in_default.ensures.free c.add_name.new.self k c.requires.body c.in_ok-add_name.ensures.ok in
    subst (λ (u : Tree). AddsNames k t.entries u.entries (p ∷ [])) (sym put.1) (name_added t c.requires.layer p c.in_default.ensures.free k put.0 c.requires.rises)

pub returns-in-Some-clause-malformed : goal.returns-in-Some-clause-malformed
returns-in-Some-clause-malformed c = λ t ok such. c.in-Some.ensures.free (fits_vacant c.args.layer.now t c.requires.layer ok c.args.name.now (leaf_node c.args.number such.0) such.1)

pub returns-clause-put : goal.returns-clause-put
returns-clause-put c = λ b there. name_put_by c.args.layer.now c.requires.layer c.args.name.now c.in_default.ensures.free c.add_name.new.self c.args.number b there c.in_ok-add_name.ensures.ok

pub returns-clause-made : goal.returns-clause-made
returns-clause-made c = λ b there.
    name_goes c.args.part c.args.layer.now c.args.name.now (sym c.in_default.ensures.first) c.args.number b
    ∙ ap (λ (u : Tree). Ok u) (sym (name_put_by c.args.layer.now c.requires.layer c.args.name.now c.in_default.ensures.free c.add_name.new.self c.args.number b there c.in_ok-add_name.ensures.ok))
