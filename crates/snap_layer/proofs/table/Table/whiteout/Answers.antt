use Rattle.std.proofs.Common.{subst}
use Rattle.snap_layer.specs.declared.node.Node.TheVariants as node
use Rattle.snap_layer.specs.contracts.node.Node as node_contracts
use Rattle.snap_layer.specs.Layers.{IsLayer}
use Rattle.snap_layer.specs.Edits.{with_node}
use Rattle.snap_layer.specs.Walk.{view_of}
use Rattle.snap_layer.proofs.Slots.{on_ok, on_err, plain}
use Rattle.snap_layer.proofs.Makes.{opens, makes_holds, makes_view, makes_kept, either, parent_stands, most_same}
use Rattle.snap_layer.proofs.Putting.{Spot, makes_same}
use Rattle.snap_layer.proofs.Erasing.{whitened_made, nothing_at}
use Rattle.snap_layer.proofs.table.Table.whiteout.Goals as goal

pub parent_at-dir-requires : goal.parent_at-dir-requires
parent_at-dir-requires c =
    let m = opens c.self.inside.slots c.self.inside.root c.self.inside.places.entries c.self.inside.next c.args.self.now c.self.inside.tree c.self.invariant c.self.view_is in
    record {
      below_root = c.requires.place.above.below_root;
      parent = λ q n splits. parent_stands (view_of c.self.inside.slots) c.self.inside.root c.self.inside.places.entries c.self.inside.next c.args.self.now c.args.path.now q n m splits c.requires.place.above;
    }

pub invariant_of-self-inside : goal.invariant_of-self-inside
invariant_of-self-inside c =
    let m = opens c.self.inside.slots c.self.inside.root c.self.inside.places.entries c.self.inside.next c.args.self.now c.self.inside.tree c.self.invariant c.self.view_is in
    let layer : IsLayer c.args.self.now = subst IsLayer c.self.view_is c.self.invariant.layer in
    let spot : Spot (view_of c.self.inside.slots) c.self.inside.root c.self.inside.places.entries c.self.inside.next c.args.self.now c.args.path.now c.parent_at-dir.ensures.leads.0 c.parent_at-dir.result.1.now c.parent_at-dir.result.0 = record { makes = m; layer = layer; splits = c.parent_at-dir.ensures.leads.1; leads = c.parent_at-dir.ensures.leads.2; dir = c.parent_at-dir.ensures.dir } in
    (either c.cover.result c.cover.ensures.ok c.cover.ensures.err (λ done. makes_holds c.cover.new.slots c.self.inside.root c.cover.new.places.entries c.self.inside.next (with_node c.args.self.now c.args.path.now node.Whiteout) (whitened_made (view_of c.self.inside.slots) (view_of c.cover.new.slots) c.self.inside.root c.self.inside.places.entries c.cover.new.places.entries c.self.inside.next c.args.self.now c.args.path.now c.parent_at-dir.ensures.leads.0 c.parent_at-dir.result.1.now c.parent_at-dir.result.0 spot c.requires.place (plain c.self.inside.slots) done) c.requires.layer) (λ alike. makes_holds c.cover.new.slots c.self.inside.root c.cover.new.places.entries c.self.inside.next c.args.self.now (makes_same (view_of c.self.inside.slots) (view_of c.cover.new.slots) c.self.inside.root alike.0 c.self.inside.places.entries c.cover.new.places.entries c.self.inside.next c.args.self.now alike.1 m) layer), tt)

pub invariant_of-self : goal.invariant_of-self
invariant_of-self c =
    let m = opens c.self.inside.slots c.self.inside.root c.self.inside.places.entries c.self.inside.next c.args.self.now c.self.inside.tree c.self.invariant c.self.view_is in
    let layer : IsLayer c.args.self.now = subst IsLayer c.self.view_is c.self.invariant.layer in
    let spot : Spot (view_of c.self.inside.slots) c.self.inside.root c.self.inside.places.entries c.self.inside.next c.args.self.now c.args.path.now c.parent_at-dir.ensures.leads.0 c.parent_at-dir.result.1.now c.parent_at-dir.result.0 = record { makes = m; layer = layer; splits = c.parent_at-dir.ensures.leads.1; leads = c.parent_at-dir.ensures.leads.2; dir = c.parent_at-dir.ensures.dir } in
    either c.cover.result c.cover.ensures.ok c.cover.ensures.err (λ done. makes_kept c.cover.new.slots c.self.inside.root c.cover.new.places.entries c.self.inside.next (with_node c.args.self.now c.args.path.now node.Whiteout) (whitened_made (view_of c.self.inside.slots) (view_of c.cover.new.slots) c.self.inside.root c.self.inside.places.entries c.cover.new.places.entries c.self.inside.next c.args.self.now c.args.path.now c.parent_at-dir.ensures.leads.0 c.parent_at-dir.result.1.now c.parent_at-dir.result.0 spot c.requires.place (plain c.self.inside.slots) done) c.requires.layer (most_same c.self.view_is) (node_contracts.the_row).coded c.self-1.given.0) (λ alike. makes_kept c.cover.new.slots c.self.inside.root c.cover.new.places.entries c.self.inside.next c.args.self.now (makes_same (view_of c.self.inside.slots) (view_of c.cover.new.slots) c.self.inside.root alike.0 c.self.inside.places.entries c.cover.new.places.entries c.self.inside.next c.args.self.now alike.1 m) layer (most_same c.self.view_is) (node_contracts.the_row).coded c.self-1.given.0)

pub returns-clause-ok : goal.returns-clause-ok
returns-clause-ok c =
    let m = opens c.self.inside.slots c.self.inside.root c.self.inside.places.entries c.self.inside.next c.args.self.now c.self.inside.tree c.self.invariant c.self.view_is in
    let layer : IsLayer c.args.self.now = subst IsLayer c.self.view_is c.self.invariant.layer in
    let spot : Spot (view_of c.self.inside.slots) c.self.inside.root c.self.inside.places.entries c.self.inside.next c.args.self.now c.args.path.now c.parent_at-dir.ensures.leads.0 c.parent_at-dir.result.1.now c.parent_at-dir.result.0 = record { makes = m; layer = layer; splits = c.parent_at-dir.ensures.leads.1; leads = c.parent_at-dir.ensures.leads.2; dir = c.parent_at-dir.ensures.dir } in
    on_ok c.cover.result (λ done. makes_view c.cover.new.slots c.self.inside.root c.cover.new.places.entries c.self.inside.next (with_node c.args.self.now c.args.path.now node.Whiteout) (whitened_made (view_of c.self.inside.slots) (view_of c.cover.new.slots) c.self.inside.root c.self.inside.places.entries c.cover.new.places.entries c.self.inside.next c.args.self.now c.args.path.now c.parent_at-dir.ensures.leads.0 c.parent_at-dir.result.1.now c.parent_at-dir.result.0 spot c.requires.place (plain c.self.inside.slots) done) c.requires.layer (most_same c.self.view_is) (node_contracts.the_row).coded c.self-1.given.0) c.cover.ensures.ok

pub returns-clause-err : goal.returns-clause-err
returns-clause-err c =
    let m = opens c.self.inside.slots c.self.inside.root c.self.inside.places.entries c.self.inside.next c.args.self.now c.self.inside.tree c.self.invariant c.self.view_is in
    let layer : IsLayer c.args.self.now = subst IsLayer c.self.view_is c.self.invariant.layer in
    on_err c.cover.result (λ alike. makes_view c.cover.new.slots c.self.inside.root c.cover.new.places.entries c.self.inside.next c.args.self.now (makes_same (view_of c.self.inside.slots) (view_of c.cover.new.slots) c.self.inside.root alike.0 c.self.inside.places.entries c.cover.new.places.entries c.self.inside.next c.args.self.now alike.1 m) layer (most_same c.self.view_is) (node_contracts.the_row).coded c.self-1.given.0) c.cover.ensures.err

pub returns-clause-sure : goal.returns-clause-sure
returns-clause-sure c =
    let m = opens c.self.inside.slots c.self.inside.root c.self.inside.places.entries c.self.inside.next c.args.self.now c.self.inside.tree c.self.invariant c.self.view_is in
    let layer : IsLayer c.args.self.now = subst IsLayer c.self.view_is c.self.invariant.layer in
    let spot : Spot (view_of c.self.inside.slots) c.self.inside.root c.self.inside.places.entries c.self.inside.next c.args.self.now c.args.path.now c.parent_at-dir.ensures.leads.0 c.parent_at-dir.result.1.now c.parent_at-dir.result.0 = record { makes = m; layer = layer; splits = c.parent_at-dir.ensures.leads.1; leads = c.parent_at-dir.ensures.leads.2; dir = c.parent_at-dir.ensures.dir } in
    on_err c.cover.result (λ none. nothing_at (view_of c.self.inside.slots) c.self.inside.root c.self.inside.places.entries c.self.inside.next c.args.self.now c.args.path.now c.parent_at-dir.ensures.leads.0 c.parent_at-dir.result.1.now c.parent_at-dir.result.0 spot none) c.cover.ensures.sure

pub cover-requires : goal.cover-requires
cover-requires c = c.parent_at-dir.ensures.dir
