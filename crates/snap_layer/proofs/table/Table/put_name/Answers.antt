use Rattle.std.proofs.Common.{◌≡◌, ◌++◌, ◌∷◌, [], Some, None, refl, sym, ap, ◌∙◌, subst, arith}
use Rattle.snap_layer.specs.contracts.node.Node as node_contracts
use Rattle.snap_layer.specs.Tree.{leaf_node}
use Rattle.snap_layer.specs.Layers.{IsLayer}
use Rattle.snap_layer.specs.Edits.{with_node, without}
use Rattle.snap_layer.specs.Walk.{view_of}
use Rattle.snap_layer.specs.Holds.{place}
use Rattle.snap_layer.proofs.Slots.{on_ok, on_err, plain}
use Rattle.snap_layer.proofs.Makes.{opens, makes_holds, makes_view, makes_kept, either, parent_stands, most_same}
use Rattle.snap_layer.proofs.Putting.{Spot, makes_same}
use Rattle.snap_layer.proofs.Files.{nothing_there}
use Rattle.snap_layer.proofs.Changing.{body_some, place_there, body_found, count_found}
use Rattle.std.specs.Prelude.{is_some}
use Rattle.snap_layer.specs.Counts.{inode_count}
use Rattle.snap_layer.specs.Holds.{tree_of}
use Rattle.snap_layer.proofs.Filling.{body_left}
use Rattle.snap_layer.proofs.Changing.{some_same}
use Rattle.snap_layer.proofs.Entering.{not_itself}
use Rattle.snap_layer.proofs.Erasing.{renamed_made, not_key}
use Rattle.snap_layer.proofs.table.Table.put_name.Goals as goal

pub parent_at-dir-requires : goal.parent_at-dir-requires
parent_at-dir-requires c =
    let m = opens c.self.inside.slots c.self.inside.root c.self.inside.places.entries c.self.inside.next c.args.self.now c.self.inside.tree c.self.invariant c.self.view_is in
    record {
      below_root = c.requires.place.above.below_root;
      parent = λ q n splits. parent_stands (view_of c.self.inside.slots) c.self.inside.root c.self.inside.places.entries c.self.inside.next c.args.self.now c.args.path.now q n m splits c.requires.place.above;
    }

pub unreachable-requires : goal.unreachable-requires
unreachable-requires c =
    let m = opens c.self.inside.slots c.self.inside.root c.self.inside.places.entries c.self.inside.next c.args.self.now c.self.inside.tree c.self.invariant c.self.view_is in
    let none : place c.self.inside.places.entries c.args.number ≡ None = sym c.place_of.ensures ∙ c.in_default.is in
    place_there (view_of c.self.inside.slots) c.self.inside.root c.self.inside.places.entries c.self.inside.next c.args.self.now m c.args.number c.requires.there none

pub replace_name-requires-clause-leaf : goal.replace_name-requires-clause-leaf
replace_name-requires-clause-leaf c =
    let m = opens c.self.inside.slots c.self.inside.root c.self.inside.places.entries c.self.inside.next c.args.self.now c.self.inside.tree c.self.invariant c.self.view_is in
    let there = body_some c.args.self.now c.args.number c.requires.there in
    let found : place c.self.inside.places.entries c.args.number ≡ Some c.in-Some.key = sym c.place_of.ensures ∙ c.in-Some.is in
    ap is_some (body_found (view_of c.self.inside.slots) c.self.inside.root c.self.inside.places.entries c.self.inside.next c.args.self.now m c.args.number c.in-Some.key found ∙ there.1)

pub replace_name-requires-clause-few : goal.replace_name-requires-clause-few
replace_name-requires-clause-few c =
    let m = opens c.self.inside.slots c.self.inside.root c.self.inside.places.entries c.self.inside.next c.args.self.now c.self.inside.tree c.self.invariant c.self.view_is in
    let found : place c.self.inside.places.entries c.args.number ≡ Some c.in-Some.key = sym c.place_of.ensures ∙ c.in-Some.is in
    omega (arith, count_found (view_of c.self.inside.slots) c.self.inside.root c.self.inside.places.entries c.self.inside.next c.args.self.now m c.args.number c.in-Some.key found, c.requires.few)

pub replace_name-requires-clause-apart : goal.replace_name-requires-clause-apart
replace_name-requires-clause-apart c =
    let path_splits : c.args.path.now ≡ c.parent_at-dir.ensures.leads.0 ++ c.parent_at-dir.result.1.now ∷ [] = c.parent_at-dir.ensures.leads.1 in
    let m = opens c.self.inside.slots c.self.inside.root c.self.inside.places.entries c.self.inside.next c.args.self.now c.self.inside.tree c.self.invariant c.self.view_is in
    let layer : IsLayer c.args.self.now = subst IsLayer c.self.view_is c.self.invariant.layer in
    let spot : Spot (view_of c.self.inside.slots) c.self.inside.root c.self.inside.places.entries c.self.inside.next c.args.self.now c.args.path.now c.parent_at-dir.ensures.leads.0 c.parent_at-dir.result.1.now c.parent_at-dir.result.0 = record { makes = m; layer = layer; splits = path_splits; leads = c.parent_at-dir.ensures.leads.2; dir = c.parent_at-dir.ensures.dir } in
    not_itself (view_of c.self.inside.slots) c.self.inside.root c.self.inside.places.entries c.self.inside.next c.args.self.now c.args.path.now c.parent_at-dir.ensures.leads.0 c.parent_at-dir.result.1.now c.parent_at-dir.result.0 spot

pub replace_name-requires-clause-other : goal.replace_name-requires-clause-other
replace_name-requires-clause-other c =
    let path_splits : c.args.path.now ≡ c.parent_at-dir.ensures.leads.0 ++ c.parent_at-dir.result.1.now ∷ [] = c.parent_at-dir.ensures.leads.1 in
    let m = opens c.self.inside.slots c.self.inside.root c.self.inside.places.entries c.self.inside.next c.args.self.now c.self.inside.tree c.self.invariant c.self.view_is in
    let layer : IsLayer c.args.self.now = subst IsLayer c.self.view_is c.self.invariant.layer in
    let spot : Spot (view_of c.self.inside.slots) c.self.inside.root c.self.inside.places.entries c.self.inside.next c.args.self.now c.args.path.now c.parent_at-dir.ensures.leads.0 c.parent_at-dir.result.1.now c.parent_at-dir.result.0 = record { makes = m; layer = layer; splits = path_splits; leads = c.parent_at-dir.ensures.leads.2; dir = c.parent_at-dir.ensures.dir } in
    let there = body_some c.args.self.now c.args.number c.requires.there in
    let found : place c.self.inside.places.entries c.args.number ≡ Some c.in-Some.key = sym c.place_of.ensures ∙ c.in-Some.is in
    not_key (view_of c.self.inside.slots) c.self.inside.root c.self.inside.places.entries c.self.inside.next c.args.self.now c.args.path.now c.parent_at-dir.ensures.leads.0 c.parent_at-dir.result.1.now c.parent_at-dir.result.0 spot c.args.number c.in-Some.key there.0 found there.1 c.requires.apart

pub invariant_of-self-inside : goal.invariant_of-self-inside
invariant_of-self-inside c =
    let path_splits : c.args.path.now ≡ c.parent_at-dir.ensures.leads.0 ++ c.parent_at-dir.result.1.now ∷ [] = c.parent_at-dir.ensures.leads.1 in
    let m = opens c.self.inside.slots c.self.inside.root c.self.inside.places.entries c.self.inside.next c.args.self.now c.self.inside.tree c.self.invariant c.self.view_is in
    let layer : IsLayer c.args.self.now = subst IsLayer c.self.view_is c.self.invariant.layer in
    let spot : Spot (view_of c.self.inside.slots) c.self.inside.root c.self.inside.places.entries c.self.inside.next c.args.self.now c.args.path.now c.parent_at-dir.ensures.leads.0 c.parent_at-dir.result.1.now c.parent_at-dir.result.0 = record { makes = m; layer = layer; splits = path_splits; leads = c.parent_at-dir.ensures.leads.2; dir = c.parent_at-dir.ensures.dir } in
    let there = body_some c.args.self.now c.args.number c.requires.there in
    let found : place c.self.inside.places.entries c.args.number ≡ Some c.in-Some.key = sym c.place_of.ensures ∙ c.in-Some.is in
    let left = body_left c.args.self.now layer c.args.path.now c.parent_at-dir.ensures.path (inode_count (without c.args.self.now c.args.path.now)) refl c.args.number c.requires.place c.requires.apart ∙ there.1 in
    (either c.replace_name.result c.replace_name.ensures.ok c.replace_name.ensures.err (λ done. makes_holds c.replace_name.new.slots c.self.inside.root c.replace_name.new.places.entries c.self.inside.next (with_node c.args.self.now c.args.path.now (leaf_node c.args.number there.0)) (renamed_made (view_of c.self.inside.slots) (view_of c.replace_name.new.slots) c.self.inside.root c.self.inside.places.entries c.replace_name.new.places.entries c.self.inside.next c.args.self.now c.args.path.now c.parent_at-dir.ensures.leads.0 c.parent_at-dir.result.1.now c.parent_at-dir.result.0 spot c.requires.place (plain c.self.inside.slots) c.args.number c.in-Some.key there.0 c.requires.apart found there.1 left done) (c.requires.layer there.0 there.1)) (λ alike. makes_holds c.replace_name.new.slots c.self.inside.root c.replace_name.new.places.entries c.self.inside.next c.args.self.now (makes_same (view_of c.self.inside.slots) (view_of c.replace_name.new.slots) c.self.inside.root alike.0 c.self.inside.places.entries c.replace_name.new.places.entries c.self.inside.next c.args.self.now alike.1 m) layer), tt)

pub invariant_of-self : goal.invariant_of-self
invariant_of-self c =
    let path_splits : c.args.path.now ≡ c.parent_at-dir.ensures.leads.0 ++ c.parent_at-dir.result.1.now ∷ [] = c.parent_at-dir.ensures.leads.1 in
    let m = opens c.self.inside.slots c.self.inside.root c.self.inside.places.entries c.self.inside.next c.args.self.now c.self.inside.tree c.self.invariant c.self.view_is in
    let layer : IsLayer c.args.self.now = subst IsLayer c.self.view_is c.self.invariant.layer in
    let spot : Spot (view_of c.self.inside.slots) c.self.inside.root c.self.inside.places.entries c.self.inside.next c.args.self.now c.args.path.now c.parent_at-dir.ensures.leads.0 c.parent_at-dir.result.1.now c.parent_at-dir.result.0 = record { makes = m; layer = layer; splits = path_splits; leads = c.parent_at-dir.ensures.leads.2; dir = c.parent_at-dir.ensures.dir } in
    let there = body_some c.args.self.now c.args.number c.requires.there in
    let found : place c.self.inside.places.entries c.args.number ≡ Some c.in-Some.key = sym c.place_of.ensures ∙ c.in-Some.is in
    let left = body_left c.args.self.now layer c.args.path.now c.parent_at-dir.ensures.path (inode_count (without c.args.self.now c.args.path.now)) refl c.args.number c.requires.place c.requires.apart ∙ there.1 in
    either c.replace_name.result c.replace_name.ensures.ok c.replace_name.ensures.err (λ done. makes_kept c.replace_name.new.slots c.self.inside.root c.replace_name.new.places.entries c.self.inside.next (with_node c.args.self.now c.args.path.now (leaf_node c.args.number there.0)) (renamed_made (view_of c.self.inside.slots) (view_of c.replace_name.new.slots) c.self.inside.root c.self.inside.places.entries c.replace_name.new.places.entries c.self.inside.next c.args.self.now c.args.path.now c.parent_at-dir.ensures.leads.0 c.parent_at-dir.result.1.now c.parent_at-dir.result.0 spot c.requires.place (plain c.self.inside.slots) c.args.number c.in-Some.key there.0 c.requires.apart found there.1 left done) (c.requires.layer there.0 there.1) (most_same c.self.view_is) (node_contracts.the_row).coded c.self-1.given.0) (λ alike. makes_kept c.replace_name.new.slots c.self.inside.root c.replace_name.new.places.entries c.self.inside.next c.args.self.now (makes_same (view_of c.self.inside.slots) (view_of c.replace_name.new.slots) c.self.inside.root alike.0 c.self.inside.places.entries c.replace_name.new.places.entries c.self.inside.next c.args.self.now alike.1 m) layer (most_same c.self.view_is) (node_contracts.the_row).coded c.self-1.given.0)

pub returns-clause-ok : goal.returns-clause-ok
returns-clause-ok c =
    let path_splits : c.args.path.now ≡ c.parent_at-dir.ensures.leads.0 ++ c.parent_at-dir.result.1.now ∷ [] = c.parent_at-dir.ensures.leads.1 in
    let m = opens c.self.inside.slots c.self.inside.root c.self.inside.places.entries c.self.inside.next c.args.self.now c.self.inside.tree c.self.invariant c.self.view_is in
    let layer : IsLayer c.args.self.now = subst IsLayer c.self.view_is c.self.invariant.layer in
    let spot : Spot (view_of c.self.inside.slots) c.self.inside.root c.self.inside.places.entries c.self.inside.next c.args.self.now c.args.path.now c.parent_at-dir.ensures.leads.0 c.parent_at-dir.result.1.now c.parent_at-dir.result.0 = record { makes = m; layer = layer; splits = path_splits; leads = c.parent_at-dir.ensures.leads.2; dir = c.parent_at-dir.ensures.dir } in
    let there = body_some c.args.self.now c.args.number c.requires.there in
    let found : place c.self.inside.places.entries c.args.number ≡ Some c.in-Some.key = sym c.place_of.ensures ∙ c.in-Some.is in
    let left = body_left c.args.self.now layer c.args.path.now c.parent_at-dir.ensures.path (inode_count (without c.args.self.now c.args.path.now)) refl c.args.number c.requires.place c.requires.apart ∙ there.1 in
    on_ok c.replace_name.result (λ done b is. subst (λ x. tree_of c.self-1.given.0.0 c.replace_name.new.slots c.replace_name.new.places.entries c.self.inside.next c.self.inside.most ≡ with_node c.args.self.now c.args.path.now (leaf_node c.args.number x)) (some_same there.0 b (sym there.1 ∙ is)) (makes_view c.replace_name.new.slots c.self.inside.root c.replace_name.new.places.entries c.self.inside.next (with_node c.args.self.now c.args.path.now (leaf_node c.args.number there.0)) (renamed_made (view_of c.self.inside.slots) (view_of c.replace_name.new.slots) c.self.inside.root c.self.inside.places.entries c.replace_name.new.places.entries c.self.inside.next c.args.self.now c.args.path.now c.parent_at-dir.ensures.leads.0 c.parent_at-dir.result.1.now c.parent_at-dir.result.0 spot c.requires.place (plain c.self.inside.slots) c.args.number c.in-Some.key there.0 c.requires.apart found there.1 left done) (c.requires.layer there.0 there.1) (most_same c.self.view_is) (node_contracts.the_row).coded c.self-1.given.0)) c.replace_name.ensures.ok

pub returns-clause-err : goal.returns-clause-err
returns-clause-err c =
    let m = opens c.self.inside.slots c.self.inside.root c.self.inside.places.entries c.self.inside.next c.args.self.now c.self.inside.tree c.self.invariant c.self.view_is in
    let layer : IsLayer c.args.self.now = subst IsLayer c.self.view_is c.self.invariant.layer in
    on_err c.replace_name.result (λ alike. makes_view c.replace_name.new.slots c.self.inside.root c.replace_name.new.places.entries c.self.inside.next c.args.self.now (makes_same (view_of c.self.inside.slots) (view_of c.replace_name.new.slots) c.self.inside.root alike.0 c.self.inside.places.entries c.replace_name.new.places.entries c.self.inside.next c.args.self.now alike.1 m) layer (most_same c.self.view_is) (node_contracts.the_row).coded c.self-1.given.0) c.replace_name.ensures.err

pub returns-clause-sure : goal.returns-clause-sure
returns-clause-sure c =
    let path_splits : c.args.path.now ≡ c.parent_at-dir.ensures.leads.0 ++ c.parent_at-dir.result.1.now ∷ [] = c.parent_at-dir.ensures.leads.1 in
    let m = opens c.self.inside.slots c.self.inside.root c.self.inside.places.entries c.self.inside.next c.args.self.now c.self.inside.tree c.self.invariant c.self.view_is in
    on_err c.replace_name.result (λ none. nothing_there (view_of c.self.inside.slots) c.self.inside.root c.self.inside.places.entries c.self.inside.next c.args.self.now c.args.path.now c.parent_at-dir.ensures.leads.0 c.parent_at-dir.result.1.now c.parent_at-dir.result.0 m path_splits c.parent_at-dir.ensures.leads.2 none) c.replace_name.ensures.sure

pub replace_name-requires-clause-dir : goal.replace_name-requires-clause-dir
replace_name-requires-clause-dir c = c.parent_at-dir.ensures.dir
