use Rattle.std.proofs.Common.{◌≡◌, Some, None, sym, ap, ◌∙◌, subst, refl}
use Rattle.std.specs.Prelude.{is_some, OnErr}
use Rattle.snap_layer.specs.contracts.node.Node as node_contracts
use Rattle.snap_layer.specs.declared.node.Body.{Body}
use Rattle.snap_layer.specs.declared.node.Body.TheVariants as node_body
use Rattle.snap_layer.specs.Tree.{body}
use Rattle.snap_layer.specs.Layers.{IsLayer, IsFile}
use Rattle.snap_layer.specs.Edits.{with_body}
use Rattle.snap_layer.specs.Contents.{body_content, body_edited, Grows, IsShort}
use Rattle.snap_layer.specs.Walk.{view_of}
use Rattle.snap_layer.specs.Holds.{place}
use Rattle.snap_layer.proofs.Slots.{on_ok, on_err}
use Rattle.snap_layer.proofs.Makes.{opens, makes_holds, makes_view, makes_kept, either, most_same}
use Rattle.snap_layer.proofs.Putting.{makes_same}
use Rattle.snap_layer.proofs.Changing.{body_set_made, place_there, body_found}
use Rattle.snap_layer.proofs.Setting.{file_body}
use Rattle.snap_layer.proofs.Contents.{file_edited, same_body}
use Rattle.snap_layer.proofs.table.Table.edit_content.Goals as goal

pub unreachable-requires : goal.unreachable-requires
unreachable-requires c =
    let m = opens c.self.inside.slots c.self.inside.root c.self.inside.places.entries c.self.inside.next c.args.self.now c.self.inside.tree c.self.invariant c.self.view_is in
    let none : place c.self.inside.places.entries c.args.number ≡ None = sym c.place_of.ensures ∙ c.in_default.is in
    let had = file_body (body c.args.self.now c.args.number) c.requires.file in
    place_there (view_of c.self.inside.slots) c.self.inside.root c.self.inside.places.entries c.self.inside.next c.args.self.now m c.args.number (ap is_some had.2) none

pub edit_body-requires-clause-leaf : goal.edit_body-requires-clause-leaf
edit_body-requires-clause-leaf c =
    let m = opens c.self.inside.slots c.self.inside.root c.self.inside.places.entries c.self.inside.next c.args.self.now c.self.inside.tree c.self.invariant c.self.view_is in
    let found : place c.self.inside.places.entries c.args.number ≡ Some c.in-Some.key = sym c.place_of.ensures ∙ c.in-Some.is in
    let had = file_body (body c.args.self.now c.args.number) c.requires.file in
    ap is_some (body_found (view_of c.self.inside.slots) c.self.inside.root c.self.inside.places.entries c.self.inside.next c.args.self.now m c.args.number c.in-Some.key found ∙ had.2)

pub edit_body-requires-clause-short : goal.edit_body-requires-clause-short
edit_body-requires-clause-short c =
    let m = opens c.self.inside.slots c.self.inside.root c.self.inside.places.entries c.self.inside.next c.args.self.now c.self.inside.tree c.self.invariant c.self.view_is in
    let found : place c.self.inside.places.entries c.args.number ≡ Some c.in-Some.key = sym c.place_of.ensures ∙ c.in-Some.is in
    λ b is. subst (λ o. IsShort c.args.edit (body_content o)) (sym (body_found (view_of c.self.inside.slots) c.self.inside.root c.self.inside.places.entries c.self.inside.next c.args.self.now m c.args.number c.in-Some.key found) ∙ is) c.requires.short

pub invariant_of-self-inside : goal.invariant_of-self-inside
invariant_of-self-inside c =
    let m = opens c.self.inside.slots c.self.inside.root c.self.inside.places.entries c.self.inside.next c.args.self.now c.self.inside.tree c.self.invariant c.self.view_is in
    let layer : IsLayer c.args.self.now = subst IsLayer c.self.view_is c.self.invariant.layer in
    let found : place c.self.inside.places.entries c.args.number ≡ Some c.in-Some.key = sym c.place_of.ensures ∙ c.in-Some.is in
    let had = file_body (body c.args.self.now c.args.number) c.requires.file in
    let b : Body = node_body.File had.0 had.1 in
    let edits = file_edited c.args.self.now layer c.args.number b c.args.edit had.2 (subst IsFile had.2 c.requires.file) (subst (λ o. IsShort c.args.edit (body_content o)) had.2 c.requires.short) in
    let ok = c.edit_body.ensures.ok b (body_found (view_of c.self.inside.slots) c.self.inside.root c.self.inside.places.entries c.self.inside.next c.args.self.now m c.args.number c.in-Some.key found ∙ had.2) in
    (either c.edit_body.result ok c.edit_body.ensures.err (λ done. makes_holds c.edit_body.new.slots c.self.inside.root c.self.inside.places.entries c.self.inside.next (with_body c.args.self.now c.args.number (body_edited b c.args.edit)) (body_set_made (view_of c.self.inside.slots) (view_of c.edit_body.new.slots) c.self.inside.root c.self.inside.places.entries c.self.inside.next c.args.self.now m c.args.number c.in-Some.key (body_edited b c.args.edit) found (ap is_some had.2) edits.kind done) edits.layer) (λ alike. makes_holds c.edit_body.new.slots c.self.inside.root c.self.inside.places.entries c.self.inside.next c.args.self.now (makes_same (view_of c.self.inside.slots) (view_of c.edit_body.new.slots) c.self.inside.root alike c.self.inside.places.entries c.self.inside.places.entries c.self.inside.next c.args.self.now refl m) layer), tt)

pub invariant_of-self : goal.invariant_of-self
invariant_of-self c =
    let m = opens c.self.inside.slots c.self.inside.root c.self.inside.places.entries c.self.inside.next c.args.self.now c.self.inside.tree c.self.invariant c.self.view_is in
    let layer : IsLayer c.args.self.now = subst IsLayer c.self.view_is c.self.invariant.layer in
    let found : place c.self.inside.places.entries c.args.number ≡ Some c.in-Some.key = sym c.place_of.ensures ∙ c.in-Some.is in
    let had = file_body (body c.args.self.now c.args.number) c.requires.file in
    let b : Body = node_body.File had.0 had.1 in
    let edits = file_edited c.args.self.now layer c.args.number b c.args.edit had.2 (subst IsFile had.2 c.requires.file) (subst (λ o. IsShort c.args.edit (body_content o)) had.2 c.requires.short) in
    let ok = c.edit_body.ensures.ok b (body_found (view_of c.self.inside.slots) c.self.inside.root c.self.inside.places.entries c.self.inside.next c.args.self.now m c.args.number c.in-Some.key found ∙ had.2) in
    either c.edit_body.result ok c.edit_body.ensures.err (λ done. makes_kept c.edit_body.new.slots c.self.inside.root c.self.inside.places.entries c.self.inside.next (with_body c.args.self.now c.args.number (body_edited b c.args.edit)) (body_set_made (view_of c.self.inside.slots) (view_of c.edit_body.new.slots) c.self.inside.root c.self.inside.places.entries c.self.inside.next c.args.self.now m c.args.number c.in-Some.key (body_edited b c.args.edit) found (ap is_some had.2) edits.kind done) edits.layer (most_same c.self.view_is) (node_contracts.the_row).coded c.self-1.given.0) (λ alike. makes_kept c.edit_body.new.slots c.self.inside.root c.self.inside.places.entries c.self.inside.next c.args.self.now (makes_same (view_of c.self.inside.slots) (view_of c.edit_body.new.slots) c.self.inside.root alike c.self.inside.places.entries c.self.inside.places.entries c.self.inside.next c.args.self.now refl m) layer (most_same c.self.view_is) (node_contracts.the_row).coded c.self-1.given.0)

pub returns-clause-ok : goal.returns-clause-ok
returns-clause-ok c =
    let m = opens c.self.inside.slots c.self.inside.root c.self.inside.places.entries c.self.inside.next c.args.self.now c.self.inside.tree c.self.invariant c.self.view_is in
    let layer : IsLayer c.args.self.now = subst IsLayer c.self.view_is c.self.invariant.layer in
    let found : place c.self.inside.places.entries c.args.number ≡ Some c.in-Some.key = sym c.place_of.ensures ∙ c.in-Some.is in
    let had = file_body (body c.args.self.now c.args.number) c.requires.file in
    let b : Body = node_body.File had.0 had.1 in
    let edits = file_edited c.args.self.now layer c.args.number b c.args.edit had.2 (subst IsFile had.2 c.requires.file) (subst (λ o. IsShort c.args.edit (body_content o)) had.2 c.requires.short) in
    let ok = c.edit_body.ensures.ok b (body_found (view_of c.self.inside.slots) c.self.inside.root c.self.inside.places.entries c.self.inside.next c.args.self.now m c.args.number c.in-Some.key found ∙ had.2) in
    λ x is. on_ok c.edit_body.result (λ done. makes_view c.edit_body.new.slots c.self.inside.root c.self.inside.places.entries c.self.inside.next (with_body c.args.self.now c.args.number (body_edited b c.args.edit)) (body_set_made (view_of c.self.inside.slots) (view_of c.edit_body.new.slots) c.self.inside.root c.self.inside.places.entries c.self.inside.next c.args.self.now m c.args.number c.in-Some.key (body_edited b c.args.edit) found (ap is_some had.2) edits.kind done) edits.layer (most_same c.self.view_is) (node_contracts.the_row).coded c.self-1.given.0 ∙ ap (λ y. with_body c.args.self.now c.args.number (body_edited y c.args.edit)) (same_body b x (sym had.2 ∙ is))) ok

pub returns-clause-blocks : goal.returns-clause-blocks
returns-clause-blocks c =
    let m = opens c.self.inside.slots c.self.inside.root c.self.inside.places.entries c.self.inside.next c.args.self.now c.self.inside.tree c.self.invariant c.self.view_is in
    let found : place c.self.inside.places.entries c.args.number ≡ Some c.in-Some.key = sym c.place_of.ensures ∙ c.in-Some.is in
    λ b is. c.edit_body.ensures.blocks b (body_found (view_of c.self.inside.slots) c.self.inside.root c.self.inside.places.entries c.self.inside.next c.args.self.now m c.args.number c.in-Some.key found ∙ is)

pub returns-clause-err : goal.returns-clause-err
returns-clause-err c =
    let m = opens c.self.inside.slots c.self.inside.root c.self.inside.places.entries c.self.inside.next c.args.self.now c.self.inside.tree c.self.invariant c.self.view_is in
    let layer : IsLayer c.args.self.now = subst IsLayer c.self.view_is c.self.invariant.layer in
    on_err c.edit_body.result (λ alike. makes_view c.edit_body.new.slots c.self.inside.root c.self.inside.places.entries c.self.inside.next c.args.self.now (makes_same (view_of c.self.inside.slots) (view_of c.edit_body.new.slots) c.self.inside.root alike c.self.inside.places.entries c.self.inside.places.entries c.self.inside.next c.args.self.now refl m) layer (most_same c.self.view_is) (node_contracts.the_row).coded c.self-1.given.0) c.edit_body.ensures.err

pub returns-clause-grows : goal.returns-clause-grows
returns-clause-grows c =
    let m = opens c.self.inside.slots c.self.inside.root c.self.inside.places.entries c.self.inside.next c.args.self.now c.self.inside.tree c.self.invariant c.self.view_is in
    let found : place c.self.inside.places.entries c.args.number ≡ Some c.in-Some.key = sym c.place_of.ensures ∙ c.in-Some.is in
    let had = file_body (body c.args.self.now c.args.number) c.requires.file in
    let b : Body = node_body.File had.0 had.1 in
    subst (λ o. OnErr c.edit_body.result (Grows c.args.edit (body_content o))) (sym had.2)
    (c.edit_body.ensures.grows b (body_found (view_of c.self.inside.slots) c.self.inside.root c.self.inside.places.entries c.self.inside.next c.args.self.now m c.args.number c.in-Some.key found ∙ had.2))
