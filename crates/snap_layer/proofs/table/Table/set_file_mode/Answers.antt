use Rattle.std.proofs.Common.{◌≡◌, Some, None, sym, ap, ◌∙◌, subst}
use Rattle.snap_layer.specs.contracts.node.Node as node_contracts
use Rattle.snap_layer.specs.Tree.{body}
use Rattle.snap_layer.specs.Layers.{IsLayer}
use Rattle.snap_layer.specs.Edits.{with_body}
use Rattle.snap_layer.specs.Walk.{view_of}
use Rattle.snap_layer.specs.Holds.{place}
use Rattle.snap_layer.proofs.Makes.{Makes, opens, makes_holds, makes_view, makes_kept, most_same}
use Rattle.snap_layer.proofs.Changing.{mode_set_made, place_there, body_found}
use Rattle.std.specs.Prelude.{is_some}
use Rattle.snap_layer.specs.declared.node.Body.TheVariants as node_body
use Rattle.snap_layer.specs.Layers.{IsFile}
use Rattle.snap_layer.specs.Edits.{with_file_mode, body_with_mode}
use Rattle.snap_layer.proofs.Kept.{IsLayer-with_body}
use Rattle.snap_layer.proofs.Setting.{file_body, file_with_mode}
use Rattle.snap_layer.proofs.table.Table.set_file_mode.Goals as goal

pub unreachable-requires : goal.unreachable-requires
unreachable-requires c =
    let m = opens c.self.inside.slots c.self.inside.root c.self.inside.places.entries c.self.inside.next c.args.self.now c.self.inside.tree c.self.invariant c.self.view_is in
    let had = file_body (body c.args.self.now c.args.number) c.requires.file in
    let is = had.2 in
    let none : place c.self.inside.places.entries c.args.number ≡ None = sym c.place_of.ensures ∙ c.in_default.is in
    place_there (view_of c.self.inside.slots) c.self.inside.root c.self.inside.places.entries c.self.inside.next c.args.self.now m c.args.number (ap is_some is) none

pub set_mode-requires : goal.set_mode-requires
set_mode-requires c =
    let m = opens c.self.inside.slots c.self.inside.root c.self.inside.places.entries c.self.inside.next c.args.self.now c.self.inside.tree c.self.invariant c.self.view_is in
    let found : place c.self.inside.places.entries c.args.number ≡ Some c.in-Some.key = sym c.place_of.ensures ∙ c.in-Some.is in
    let had = file_body (body c.args.self.now c.args.number) c.requires.file in
    let is = had.2 in
    ap is_some (body_found (view_of c.self.inside.slots) c.self.inside.root c.self.inside.places.entries c.self.inside.next c.args.self.now m c.args.number c.in-Some.key found ∙ is)

pub invariant_of-self-inside : goal.invariant_of-self-inside
invariant_of-self-inside c =
    let m = opens c.self.inside.slots c.self.inside.root c.self.inside.places.entries c.self.inside.next c.args.self.now c.self.inside.tree c.self.invariant c.self.view_is in
    let layer : IsLayer c.args.self.now = subst IsLayer c.self.view_is c.self.invariant.layer in
    let found : place c.self.inside.places.entries c.args.number ≡ Some c.in-Some.key = sym c.place_of.ensures ∙ c.in-Some.is in
    let had = file_body (body c.args.self.now c.args.number) c.requires.file in
    let is = had.2 in
    let b = node_body.File had.0 had.1 in
    let was : IsFile (Some b) = subst IsFile is c.requires.file in
    let made : Makes (view_of c.set_mode.new.slots) c.self.inside.root c.self.inside.places.entries c.self.inside.next (with_body c.args.self.now c.args.number (body_with_mode b c.args.mode)) = mode_set_made (view_of c.self.inside.slots) (view_of c.set_mode.new.slots) c.self.inside.root c.self.inside.places.entries c.self.inside.next c.args.self.now m c.args.number c.in-Some.key c.args.mode b found is (c.set_mode.ensures b (body_found (view_of c.self.inside.slots) c.self.inside.root c.self.inside.places.entries c.self.inside.next c.args.self.now m c.args.number c.in-Some.key found ∙ is)) in
    (makes_holds c.set_mode.new.slots c.self.inside.root c.self.inside.places.entries c.self.inside.next (with_body c.args.self.now c.args.number (body_with_mode b c.args.mode)) made (IsLayer-with_body c.args.self.now c.args.number (body_with_mode b c.args.mode) layer c.requires.file (file_with_mode b c.args.mode c.requires.mode was)), tt)

pub invariant_of-self : goal.invariant_of-self
invariant_of-self c =
    let m = opens c.self.inside.slots c.self.inside.root c.self.inside.places.entries c.self.inside.next c.args.self.now c.self.inside.tree c.self.invariant c.self.view_is in
    let layer : IsLayer c.args.self.now = subst IsLayer c.self.view_is c.self.invariant.layer in
    let found : place c.self.inside.places.entries c.args.number ≡ Some c.in-Some.key = sym c.place_of.ensures ∙ c.in-Some.is in
    let had = file_body (body c.args.self.now c.args.number) c.requires.file in
    let is = had.2 in
    let b = node_body.File had.0 had.1 in
    let was : IsFile (Some b) = subst IsFile is c.requires.file in
    let made : Makes (view_of c.set_mode.new.slots) c.self.inside.root c.self.inside.places.entries c.self.inside.next (with_body c.args.self.now c.args.number (body_with_mode b c.args.mode)) = mode_set_made (view_of c.self.inside.slots) (view_of c.set_mode.new.slots) c.self.inside.root c.self.inside.places.entries c.self.inside.next c.args.self.now m c.args.number c.in-Some.key c.args.mode b found is (c.set_mode.ensures b (body_found (view_of c.self.inside.slots) c.self.inside.root c.self.inside.places.entries c.self.inside.next c.args.self.now m c.args.number c.in-Some.key found ∙ is)) in
    makes_kept c.set_mode.new.slots c.self.inside.root c.self.inside.places.entries c.self.inside.next (with_body c.args.self.now c.args.number (body_with_mode b c.args.mode)) made (IsLayer-with_body c.args.self.now c.args.number (body_with_mode b c.args.mode) layer c.requires.file (file_with_mode b c.args.mode c.requires.mode was)) (most_same c.self.view_is) (node_contracts.the_row).coded c.self-1.given.0

pub returns : goal.returns
returns c =
    let m = opens c.self.inside.slots c.self.inside.root c.self.inside.places.entries c.self.inside.next c.args.self.now c.self.inside.tree c.self.invariant c.self.view_is in
    let layer : IsLayer c.args.self.now = subst IsLayer c.self.view_is c.self.invariant.layer in
    let found : place c.self.inside.places.entries c.args.number ≡ Some c.in-Some.key = sym c.place_of.ensures ∙ c.in-Some.is in
    let had = file_body (body c.args.self.now c.args.number) c.requires.file in
    let is = had.2 in
    let b = node_body.File had.0 had.1 in
    let was : IsFile (Some b) = subst IsFile is c.requires.file in
    let made : Makes (view_of c.set_mode.new.slots) c.self.inside.root c.self.inside.places.entries c.self.inside.next (with_body c.args.self.now c.args.number (body_with_mode b c.args.mode)) = mode_set_made (view_of c.self.inside.slots) (view_of c.set_mode.new.slots) c.self.inside.root c.self.inside.places.entries c.self.inside.next c.args.self.now m c.args.number c.in-Some.key c.args.mode b found is (c.set_mode.ensures b (body_found (view_of c.self.inside.slots) c.self.inside.root c.self.inside.places.entries c.self.inside.next c.args.self.now m c.args.number c.in-Some.key found ∙ is)) in
    makes_view c.set_mode.new.slots c.self.inside.root c.self.inside.places.entries c.self.inside.next (with_body c.args.self.now c.args.number (body_with_mode b c.args.mode)) made (IsLayer-with_body c.args.self.now c.args.number (body_with_mode b c.args.mode) layer c.requires.file (file_with_mode b c.args.mode c.requires.mode was)) (most_same c.self.view_is) (node_contracts.the_row).coded c.self-1.given.0 ∙ ap (λ o. with_file_mode c.args.self.now c.args.number o c.args.mode) (sym is)
