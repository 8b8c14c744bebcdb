use Rattle.std.proofs.Common.{◌≡◌, ◌++◌, ◌∷◌, [], subst}
use Rattle.snap_layer.specs.contracts.node.Node as node_contracts
use Rattle.snap_layer.specs.Layers.{IsLayer}
use Rattle.snap_layer.specs.Edits.{without}
use Rattle.snap_layer.specs.Walk.{view_of}
use Rattle.snap_layer.proofs.Slots.{plain}
use Rattle.snap_layer.proofs.Makes.{Makes, opens, makes_holds, makes_view, makes_kept, most_same}
use Rattle.snap_layer.proofs.Putting.{Spot}
use Rattle.snap_layer.proofs.Files.{source_stands}
use Rattle.snap_layer.proofs.Covering.{taken_made}
use Rattle.snap_layer.proofs.table.Table.take.Goals as goal

pub parent_of-dir-requires : goal.parent_of-dir-requires
parent_of-dir-requires c =
    let m = opens c.self.inside.slots c.self.inside.root c.self.inside.places.entries c.self.inside.next c.args.self.now c.self.inside.tree c.self.invariant c.self.view_is in
    let layer : IsLayer c.args.self.now = subst IsLayer c.self.view_is c.self.invariant.layer in
    record {
      below_root = λ e. c.requires.takeable.below_root e;
      parent = λ q n splits. source_stands (view_of c.self.inside.slots) c.self.inside.root c.self.inside.places.entries c.self.inside.next c.args.self.now c.args.names.now q n m layer splits c.requires.takeable.there;
    }

pub invariant_of-self-inside : goal.invariant_of-self-inside
invariant_of-self-inside c =
    let path_splits : c.args.names.now ≡ c.parent_of-dir.ensures.leads.0 ++ c.parent_of-dir.result.1.now ∷ [] = c.parent_of-dir.ensures.leads.1 in
    let m = opens c.self.inside.slots c.self.inside.root c.self.inside.places.entries c.self.inside.next c.args.self.now c.self.inside.tree c.self.invariant c.self.view_is in
    let layer : IsLayer c.args.self.now = subst IsLayer c.self.view_is c.self.invariant.layer in
    let spot : Spot (view_of c.self.inside.slots) c.self.inside.root c.self.inside.places.entries c.self.inside.next c.args.self.now c.args.names.now c.parent_of-dir.ensures.leads.0 c.parent_of-dir.result.1.now c.parent_of-dir.result.0 = record { makes = m; layer = layer; splits = path_splits; leads = c.parent_of-dir.ensures.leads.2; dir = c.parent_of-dir.ensures.dir } in
    let made : Makes (view_of c.take_target.new.slots) c.self.inside.root c.take_target.new.places.entries c.self.inside.next (without c.args.self.now c.args.names.now) = taken_made (view_of c.self.inside.slots) (view_of c.take_target.new.slots) c.self.inside.root c.self.inside.places.entries c.take_target.new.places.entries c.self.inside.next c.args.self.now c.args.names.now c.parent_of-dir.ensures.leads.0 c.parent_of-dir.result.1.now c.parent_of-dir.result.0 spot c.requires.takeable (plain c.self.inside.slots) c.take_target.ensures in
    (makes_holds c.take_target.new.slots c.self.inside.root c.take_target.new.places.entries c.self.inside.next (without c.args.self.now c.args.names.now) made c.requires.layer, tt)

pub invariant_of-self : goal.invariant_of-self
invariant_of-self c =
    let path_splits : c.args.names.now ≡ c.parent_of-dir.ensures.leads.0 ++ c.parent_of-dir.result.1.now ∷ [] = c.parent_of-dir.ensures.leads.1 in
    let m = opens c.self.inside.slots c.self.inside.root c.self.inside.places.entries c.self.inside.next c.args.self.now c.self.inside.tree c.self.invariant c.self.view_is in
    let layer : IsLayer c.args.self.now = subst IsLayer c.self.view_is c.self.invariant.layer in
    let spot : Spot (view_of c.self.inside.slots) c.self.inside.root c.self.inside.places.entries c.self.inside.next c.args.self.now c.args.names.now c.parent_of-dir.ensures.leads.0 c.parent_of-dir.result.1.now c.parent_of-dir.result.0 = record { makes = m; layer = layer; splits = path_splits; leads = c.parent_of-dir.ensures.leads.2; dir = c.parent_of-dir.ensures.dir } in
    let made : Makes (view_of c.take_target.new.slots) c.self.inside.root c.take_target.new.places.entries c.self.inside.next (without c.args.self.now c.args.names.now) = taken_made (view_of c.self.inside.slots) (view_of c.take_target.new.slots) c.self.inside.root c.self.inside.places.entries c.take_target.new.places.entries c.self.inside.next c.args.self.now c.args.names.now c.parent_of-dir.ensures.leads.0 c.parent_of-dir.result.1.now c.parent_of-dir.result.0 spot c.requires.takeable (plain c.self.inside.slots) c.take_target.ensures in
    makes_kept c.take_target.new.slots c.self.inside.root c.take_target.new.places.entries c.self.inside.next (without c.args.self.now c.args.names.now) made c.requires.layer (most_same c.self.view_is) (node_contracts.the_row).coded c.self-1.given.0

pub returns : goal.returns
returns c =
    let path_splits : c.args.names.now ≡ c.parent_of-dir.ensures.leads.0 ++ c.parent_of-dir.result.1.now ∷ [] = c.parent_of-dir.ensures.leads.1 in
    let m = opens c.self.inside.slots c.self.inside.root c.self.inside.places.entries c.self.inside.next c.args.self.now c.self.inside.tree c.self.invariant c.self.view_is in
    let layer : IsLayer c.args.self.now = subst IsLayer c.self.view_is c.self.invariant.layer in
    let spot : Spot (view_of c.self.inside.slots) c.self.inside.root c.self.inside.places.entries c.self.inside.next c.args.self.now c.args.names.now c.parent_of-dir.ensures.leads.0 c.parent_of-dir.result.1.now c.parent_of-dir.result.0 = record { makes = m; layer = layer; splits = path_splits; leads = c.parent_of-dir.ensures.leads.2; dir = c.parent_of-dir.ensures.dir } in
    let made : Makes (view_of c.take_target.new.slots) c.self.inside.root c.take_target.new.places.entries c.self.inside.next (without c.args.self.now c.args.names.now) = taken_made (view_of c.self.inside.slots) (view_of c.take_target.new.slots) c.self.inside.root c.self.inside.places.entries c.take_target.new.places.entries c.self.inside.next c.args.self.now c.args.names.now c.parent_of-dir.ensures.leads.0 c.parent_of-dir.result.1.now c.parent_of-dir.result.0 spot c.requires.takeable (plain c.self.inside.slots) c.take_target.ensures in
    makes_view c.take_target.new.slots c.self.inside.root c.take_target.new.places.entries c.self.inside.next (without c.args.self.now c.args.names.now) made c.requires.layer (most_same c.self.view_is) (node_contracts.the_row).coded c.self-1.given.0

pub take_target-requires : goal.take_target-requires
take_target-requires c = c.parent_of-dir.ensures.dir
