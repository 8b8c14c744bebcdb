use Rattle.std.proofs.Common.{◌≡◌, ◌+◌, ◌++◌, ◌∷◌, [], ap, ◌∙◌, subst, refl}
use Rattle.snap_layer.specs.contracts.node.Node as node_contracts
use Rattle.snap_layer.specs.Tree.{leaf_node}
use Rattle.snap_layer.specs.Layers.{IsLayer}
use Rattle.snap_layer.specs.Edits.{with_new}
use Rattle.snap_layer.specs.Walk.{view_of}
use Rattle.snap_layer.specs.Holds.{place}
use Rattle.snap_layer.proofs.Slots.{plain}
use Rattle.snap_layer.proofs.Makes.{opens, makes_holds, makes_view, makes_kept, either, parent_stands, most_same}
use Rattle.snap_layer.proofs.Putting.{Spot, makes_same}
use Rattle.snap_layer.proofs.Files.{fresh_place}
use Rattle.snap_layer.proofs.Slots.{on_err_by}
use Rattle.snap_layer.proofs.Entering.{entered_made, other_number, not_itself}
use Rattle.snap_layer.proofs.table.Table.put_leaf.Goals as goal

pub parent_at-dir-requires : goal.parent_at-dir-requires
parent_at-dir-requires c =
    let m = opens c.self.inside.slots c.self.inside.root c.self.inside.places.entries c.self.inside.next c.args.self.now c.self.inside.tree c.self.invariant c.self.view_is in
    record {
      below_root = c.requires.place.above.below_root;
      parent = λ q n splits. parent_stands (view_of c.self.inside.slots) c.self.inside.root c.self.inside.places.entries c.self.inside.next c.args.self.now c.args.path.now q n m splits c.requires.place.above;
    }

pub put_leaf-requires-clause-fresh : goal.put_leaf-requires-clause-fresh
put_leaf-requires-clause-fresh c =
    let m = opens c.self.inside.slots c.self.inside.root c.self.inside.places.entries c.self.inside.next c.args.self.now c.self.inside.tree c.self.invariant c.self.view_is in
    let layer : IsLayer c.args.self.now = subst IsLayer c.self.view_is c.self.invariant.layer in
    ap (place c.self.inside.places.entries) m.last ∙ fresh_place (view_of c.self.inside.slots) c.self.inside.root c.self.inside.places.entries c.self.inside.next c.args.self.now m layer

pub put_leaf-requires-clause-sorted : goal.put_leaf-requires-clause-sorted
put_leaf-requires-clause-sorted c =
    c.self.invariant.filed.sorted

pub put_leaf-requires-clause-apart : goal.put_leaf-requires-clause-apart
put_leaf-requires-clause-apart c =
    let path_splits : c.args.path.now ≡ c.parent_at-dir.ensures.leads.0 ++ c.parent_at-dir.result.1.now ∷ [] = c.parent_at-dir.ensures.leads.1 in
    let m = opens c.self.inside.slots c.self.inside.root c.self.inside.places.entries c.self.inside.next c.args.self.now c.self.inside.tree c.self.invariant c.self.view_is in
    let layer : IsLayer c.args.self.now = subst IsLayer c.self.view_is c.self.invariant.layer in
    let spot : Spot (view_of c.self.inside.slots) c.self.inside.root c.self.inside.places.entries c.self.inside.next c.args.self.now c.args.path.now c.parent_at-dir.ensures.leads.0 c.parent_at-dir.result.1.now c.parent_at-dir.result.0 = record { makes = m; layer = layer; splits = path_splits; leads = c.parent_at-dir.ensures.leads.2; dir = c.parent_at-dir.ensures.dir } in
    not_itself (view_of c.self.inside.slots) c.self.inside.root c.self.inside.places.entries c.self.inside.next c.args.self.now c.args.path.now c.parent_at-dir.ensures.leads.0 c.parent_at-dir.result.1.now c.parent_at-dir.result.0 spot

pub put_leaf-requires-clause-other : goal.put_leaf-requires-clause-other
put_leaf-requires-clause-other c =
    let path_splits : c.args.path.now ≡ c.parent_at-dir.ensures.leads.0 ++ c.parent_at-dir.result.1.now ∷ [] = c.parent_at-dir.ensures.leads.1 in
    let m = opens c.self.inside.slots c.self.inside.root c.self.inside.places.entries c.self.inside.next c.args.self.now c.self.inside.tree c.self.invariant c.self.view_is in
    let layer : IsLayer c.args.self.now = subst IsLayer c.self.view_is c.self.invariant.layer in
    let spot : Spot (view_of c.self.inside.slots) c.self.inside.root c.self.inside.places.entries c.self.inside.next c.args.self.now c.args.path.now c.parent_at-dir.ensures.leads.0 c.parent_at-dir.result.1.now c.parent_at-dir.result.0 = record { makes = m; layer = layer; splits = path_splits; leads = c.parent_at-dir.ensures.leads.2; dir = c.parent_at-dir.ensures.dir } in
    other_number (view_of c.self.inside.slots) c.self.inside.root c.self.inside.places.entries c.self.inside.next c.args.self.now c.args.path.now c.parent_at-dir.ensures.leads.0 c.parent_at-dir.result.1.now c.parent_at-dir.result.0 spot

pub invariant_of-self-inside : goal.invariant_of-self-inside
invariant_of-self-inside c =
    let path_splits : c.args.path.now ≡ c.parent_at-dir.ensures.leads.0 ++ c.parent_at-dir.result.1.now ∷ [] = c.parent_at-dir.ensures.leads.1 in
    let m = opens c.self.inside.slots c.self.inside.root c.self.inside.places.entries c.self.inside.next c.args.self.now c.self.inside.tree c.self.invariant c.self.view_is in
    let layer : IsLayer c.args.self.now = subst IsLayer c.self.view_is c.self.invariant.layer in
    let spot : Spot (view_of c.self.inside.slots) c.self.inside.root c.self.inside.places.entries c.self.inside.next c.args.self.now c.args.path.now c.parent_at-dir.ensures.leads.0 c.parent_at-dir.result.1.now c.parent_at-dir.result.0 = record { makes = m; layer = layer; splits = path_splits; leads = c.parent_at-dir.ensures.leads.2; dir = c.parent_at-dir.ensures.dir } in
    (either c.put_leaf.result c.put_leaf.ensures.ok c.put_leaf.ensures.err (λ done. makes_holds c.put_leaf.new.slots c.self.inside.root c.put_leaf.new.places.entries (c.self.inside.next + 1) (with_new c.args.self.now c.args.path.now (leaf_node c.args.self.now.next c.args.body) c.args.body) (entered_made (view_of c.self.inside.slots) (view_of c.put_leaf.new.slots) c.self.inside.root c.self.inside.places.entries c.put_leaf.new.places.entries c.self.inside.next c.args.self.now c.args.path.now c.parent_at-dir.ensures.leads.0 c.parent_at-dir.result.1.now c.parent_at-dir.result.0 spot c.requires.place c.parent_at-dir.ensures.path (plain c.self.inside.slots) c.args.body c.requires.layer done) (c.requires.layer)) (λ alike. makes_holds c.put_leaf.new.slots c.self.inside.root c.put_leaf.new.places.entries c.self.inside.next c.args.self.now (makes_same (view_of c.self.inside.slots) (view_of c.put_leaf.new.slots) c.self.inside.root alike.0 c.self.inside.places.entries c.put_leaf.new.places.entries c.self.inside.next c.args.self.now alike.1 m) layer), tt)

pub invariant_of-self : goal.invariant_of-self
invariant_of-self c =
    let m = opens c.self.inside.slots c.self.inside.root c.self.inside.places.entries c.self.inside.next c.args.self.now c.self.inside.tree c.self.invariant c.self.view_is in
    let layer : IsLayer c.args.self.now = subst IsLayer c.self.view_is c.self.invariant.layer in
    makes_kept c.put_leaf.new.slots c.self.inside.root c.put_leaf.new.places.entries c.self.inside.next c.args.self.now (makes_same (view_of c.self.inside.slots) (view_of c.put_leaf.new.slots) c.self.inside.root c.in_err-put_leaf.ensures.err.0 c.self.inside.places.entries c.put_leaf.new.places.entries c.self.inside.next c.args.self.now c.in_err-put_leaf.ensures.err.1 m) layer (most_same c.self.view_is) (node_contracts.the_row).coded c.in_err-put_leaf.self-1-own.given.0

pub returns-in_err-put_leaf-clause-err : goal.returns-in_err-put_leaf-clause-err
returns-in_err-put_leaf-clause-err c =
    let m = opens c.self.inside.slots c.self.inside.root c.self.inside.places.entries c.self.inside.next c.args.self.now c.self.inside.tree c.self.invariant c.self.view_is in
    let layer : IsLayer c.args.self.now = subst IsLayer c.self.view_is c.self.invariant.layer in
    on_err_by c.from_residual.result (makes_view c.put_leaf.new.slots c.self.inside.root c.put_leaf.new.places.entries c.self.inside.next c.args.self.now (makes_same (view_of c.self.inside.slots) (view_of c.put_leaf.new.slots) c.self.inside.root c.in_err-put_leaf.ensures.err.0 c.self.inside.places.entries c.put_leaf.new.places.entries c.self.inside.next c.args.self.now c.in_err-put_leaf.ensures.err.1 m) layer (most_same c.self.view_is) (node_contracts.the_row).coded c.in_err-put_leaf.self-1-own.given.0)

pub invariant_of-self-inside-2 : goal.invariant_of-self-inside-2
invariant_of-self-inside-2 c =
    let path_splits : c.args.path.now ≡ c.parent_at-dir.ensures.leads.0 ++ c.parent_at-dir.result.1.now ∷ [] = c.parent_at-dir.ensures.leads.1 in
    let m = opens c.self.inside.slots c.self.inside.root c.self.inside.places.entries c.self.inside.next c.args.self.now c.self.inside.tree c.self.invariant c.self.view_is in
    let layer : IsLayer c.args.self.now = subst IsLayer c.self.view_is c.self.invariant.layer in
    let spot : Spot (view_of c.self.inside.slots) c.self.inside.root c.self.inside.places.entries c.self.inside.next c.args.self.now c.args.path.now c.parent_at-dir.ensures.leads.0 c.parent_at-dir.result.1.now c.parent_at-dir.result.0 = record { makes = m; layer = layer; splits = path_splits; leads = c.parent_at-dir.ensures.leads.2; dir = c.parent_at-dir.ensures.dir } in
    (either c.put_leaf.result c.put_leaf.ensures.ok c.put_leaf.ensures.err (λ done. makes_holds c.put_leaf.new.slots c.self.inside.root c.put_leaf.new.places.entries (c.self.inside.next + 1) (with_new c.args.self.now c.args.path.now (leaf_node c.args.self.now.next c.args.body) c.args.body) (entered_made (view_of c.self.inside.slots) (view_of c.put_leaf.new.slots) c.self.inside.root c.self.inside.places.entries c.put_leaf.new.places.entries c.self.inside.next c.args.self.now c.args.path.now c.parent_at-dir.ensures.leads.0 c.parent_at-dir.result.1.now c.parent_at-dir.result.0 spot c.requires.place c.parent_at-dir.ensures.path (plain c.self.inside.slots) c.args.body c.requires.layer done) (c.requires.layer)) (λ alike. makes_holds c.put_leaf.new.slots c.self.inside.root c.put_leaf.new.places.entries c.self.inside.next c.args.self.now (makes_same (view_of c.self.inside.slots) (view_of c.put_leaf.new.slots) c.self.inside.root alike.0 c.self.inside.places.entries c.put_leaf.new.places.entries c.self.inside.next c.args.self.now alike.1 m) layer), tt)

pub invariant_of-self-2 : goal.invariant_of-self-2
invariant_of-self-2 c =
    let path_splits : c.args.path.now ≡ c.parent_at-dir.ensures.leads.0 ++ c.parent_at-dir.result.1.now ∷ [] = c.parent_at-dir.ensures.leads.1 in
    let m = opens c.self.inside.slots c.self.inside.root c.self.inside.places.entries c.self.inside.next c.args.self.now c.self.inside.tree c.self.invariant c.self.view_is in
    let layer : IsLayer c.args.self.now = subst IsLayer c.self.view_is c.self.invariant.layer in
    let spot : Spot (view_of c.self.inside.slots) c.self.inside.root c.self.inside.places.entries c.self.inside.next c.args.self.now c.args.path.now c.parent_at-dir.ensures.leads.0 c.parent_at-dir.result.1.now c.parent_at-dir.result.0 = record { makes = m; layer = layer; splits = path_splits; leads = c.parent_at-dir.ensures.leads.2; dir = c.parent_at-dir.ensures.dir } in
    makes_kept c.put_leaf.new.slots c.self.inside.root c.put_leaf.new.places.entries (c.self.inside.next + 1) (with_new c.args.self.now c.args.path.now (leaf_node c.args.self.now.next c.args.body) c.args.body) (entered_made (view_of c.self.inside.slots) (view_of c.put_leaf.new.slots) c.self.inside.root c.self.inside.places.entries c.put_leaf.new.places.entries c.self.inside.next c.args.self.now c.args.path.now c.parent_at-dir.ensures.leads.0 c.parent_at-dir.result.1.now c.parent_at-dir.result.0 spot c.requires.place c.parent_at-dir.ensures.path (plain c.self.inside.slots) c.args.body c.requires.layer c.in_ok-put_leaf.ensures.ok) (c.requires.layer) (most_same c.self.view_is) (node_contracts.the_row).coded c.self-2-1.given.0

pub returns-clause-ok : goal.returns-clause-ok
returns-clause-ok c =
    let path_splits : c.args.path.now ≡ c.parent_at-dir.ensures.leads.0 ++ c.parent_at-dir.result.1.now ∷ [] = c.parent_at-dir.ensures.leads.1 in
    let m = opens c.self.inside.slots c.self.inside.root c.self.inside.places.entries c.self.inside.next c.args.self.now c.self.inside.tree c.self.invariant c.self.view_is in
    let layer : IsLayer c.args.self.now = subst IsLayer c.self.view_is c.self.invariant.layer in
    let spot : Spot (view_of c.self.inside.slots) c.self.inside.root c.self.inside.places.entries c.self.inside.next c.args.self.now c.args.path.now c.parent_at-dir.ensures.leads.0 c.parent_at-dir.result.1.now c.parent_at-dir.result.0 = record { makes = m; layer = layer; splits = path_splits; leads = c.parent_at-dir.ensures.leads.2; dir = c.parent_at-dir.ensures.dir } in
    makes_view c.put_leaf.new.slots c.self.inside.root c.put_leaf.new.places.entries (c.self.inside.next + 1) (with_new c.args.self.now c.args.path.now (leaf_node c.args.self.now.next c.args.body) c.args.body) (entered_made (view_of c.self.inside.slots) (view_of c.put_leaf.new.slots) c.self.inside.root c.self.inside.places.entries c.put_leaf.new.places.entries c.self.inside.next c.args.self.now c.args.path.now c.parent_at-dir.ensures.leads.0 c.parent_at-dir.result.1.now c.parent_at-dir.result.0 spot c.requires.place c.parent_at-dir.ensures.path (plain c.self.inside.slots) c.args.body c.requires.layer c.in_ok-put_leaf.ensures.ok) (c.requires.layer) (most_same c.self.view_is) (node_contracts.the_row).coded c.self-2-1.given.0

pub put_leaf-requires-clause-dir : goal.put_leaf-requires-clause-dir
put_leaf-requires-clause-dir c = c.parent_at-dir.ensures.dir

pub put_leaf-requires-clause-bare : goal.put_leaf-requires-clause-bare
put_leaf-requires-clause-bare c = λ m. refl
