use Rattle.std.proofs.Common.{sym, ap, ◌∙◌, subst}
use Rattle.snap_layer.specs.declared.node.Node.TheVariants as node
use Rattle.snap_layer.specs.contracts.node.Node as node_contracts
use Rattle.snap_layer.specs.Tree.{IsDirAt}
use Rattle.snap_layer.specs.Layers.{IsLayer}
use Rattle.snap_layer.specs.Edits.{with_entry}
use Rattle.snap_layer.specs.Walk.{view_of, walk, stands}
use Rattle.snap_layer.proofs.Makes.{Makes, opens, makes_holds, makes_view, makes_kept, most_same}
use Rattle.snap_layer.proofs.Changing.{dir_set_made}
use Rattle.snap_layer.proofs.table.Table.set_dir.Goals as goal

pub dir_at-dir-requires : goal.dir_at-dir-requires
dir_at-dir-requires c =
    let m = opens c.self.inside.slots c.self.inside.root c.self.inside.places.entries c.self.inside.next c.args.self.now c.self.inside.tree c.self.invariant c.self.view_is in
    subst IsDirAt (sym (ap (stands (view_of c.self.inside.slots) c.self.inside.root) c.names.ensures.names ∙ m.shows c.args.path.now)) c.requires.dir

pub invariant_of-self-inside : goal.invariant_of-self-inside
invariant_of-self-inside c =
    let m = opens c.self.inside.slots c.self.inside.root c.self.inside.places.entries c.self.inside.next c.args.self.now c.self.inside.tree c.self.invariant c.self.view_is in
    let layer : IsLayer c.args.self.now = subst IsLayer c.self.view_is c.self.invariant.layer in
    let made : Makes (view_of c.set_dir.new.slots) c.self.inside.root c.self.inside.places.entries c.self.inside.next (with_entry c.args.self.now c.args.path.now (node.Dir c.args.meta c.args.opaque)) = dir_set_made (view_of c.self.inside.slots) (view_of c.set_dir.new.slots) c.self.inside.root c.self.inside.places.entries c.self.inside.next c.args.self.now m layer c.args.path.now c.dir_at-dir.result c.args.meta c.args.opaque (ap (walk (view_of c.self.inside.slots).entries c.self.inside.root) (sym c.names.ensures.names) ∙ c.dir_at-dir.ensures.leads) c.requires.dir c.set_dir.ensures in
    (makes_holds c.set_dir.new.slots c.self.inside.root c.self.inside.places.entries c.self.inside.next (with_entry c.args.self.now c.args.path.now (node.Dir c.args.meta c.args.opaque)) made c.requires.layer, tt)

pub invariant_of-self : goal.invariant_of-self
invariant_of-self c =
    let m = opens c.self.inside.slots c.self.inside.root c.self.inside.places.entries c.self.inside.next c.args.self.now c.self.inside.tree c.self.invariant c.self.view_is in
    let layer : IsLayer c.args.self.now = subst IsLayer c.self.view_is c.self.invariant.layer in
    let made : Makes (view_of c.set_dir.new.slots) c.self.inside.root c.self.inside.places.entries c.self.inside.next (with_entry c.args.self.now c.args.path.now (node.Dir c.args.meta c.args.opaque)) = dir_set_made (view_of c.self.inside.slots) (view_of c.set_dir.new.slots) c.self.inside.root c.self.inside.places.entries c.self.inside.next c.args.self.now m layer c.args.path.now c.dir_at-dir.result c.args.meta c.args.opaque (ap (walk (view_of c.self.inside.slots).entries c.self.inside.root) (sym c.names.ensures.names) ∙ c.dir_at-dir.ensures.leads) c.requires.dir c.set_dir.ensures in
    makes_kept c.set_dir.new.slots c.self.inside.root c.self.inside.places.entries c.self.inside.next (with_entry c.args.self.now c.args.path.now (node.Dir c.args.meta c.args.opaque)) made c.requires.layer (most_same c.self.view_is) (node_contracts.the_row).coded c.self-1.given.0

pub returns : goal.returns
returns c =
    let m = opens c.self.inside.slots c.self.inside.root c.self.inside.places.entries c.self.inside.next c.args.self.now c.self.inside.tree c.self.invariant c.self.view_is in
    let layer : IsLayer c.args.self.now = subst IsLayer c.self.view_is c.self.invariant.layer in
    let made : Makes (view_of c.set_dir.new.slots) c.self.inside.root c.self.inside.places.entries c.self.inside.next (with_entry c.args.self.now c.args.path.now (node.Dir c.args.meta c.args.opaque)) = dir_set_made (view_of c.self.inside.slots) (view_of c.set_dir.new.slots) c.self.inside.root c.self.inside.places.entries c.self.inside.next c.args.self.now m layer c.args.path.now c.dir_at-dir.result c.args.meta c.args.opaque (ap (walk (view_of c.self.inside.slots).entries c.self.inside.root) (sym c.names.ensures.names) ∙ c.dir_at-dir.ensures.leads) c.requires.dir c.set_dir.ensures in
    makes_view c.set_dir.new.slots c.self.inside.root c.self.inside.places.entries c.self.inside.next (with_entry c.args.self.now c.args.path.now (node.Dir c.args.meta c.args.opaque)) made c.requires.layer (most_same c.self.view_is) (node_contracts.the_row).coded c.self-1.given.0
