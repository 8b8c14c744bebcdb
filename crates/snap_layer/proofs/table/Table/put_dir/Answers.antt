use Rattle.std.proofs.Common.{◌≡◌, ◌++◌, ◌∷◌, [], refl, subst}
use Rattle.snap_layer.specs.declared.node.Node.TheVariants as node
use Rattle.snap_layer.specs.contracts.node.Node as node_contracts
use Rattle.snap_layer.specs.Layers.{IsLayer}
use Rattle.snap_layer.specs.Edits.{with_entry}
use Rattle.snap_layer.specs.Walk.{view_of}
use Rattle.snap_layer.proofs.Slots.{on_ok, on_err, plain}
use Rattle.snap_layer.proofs.Makes.{opens, makes_holds, makes_view, makes_kept, either, parent_stands, most_same}
use Rattle.snap_layer.proofs.Putting.{Spot, makes_same, dir_made}
use Rattle.snap_layer.proofs.table.Table.put_dir.Goals as goal

pub parent_at-dir-requires : goal.parent_at-dir-requires
parent_at-dir-requires c =
    let m = opens c.self.inside.slots c.self.inside.root c.self.inside.places.entries c.self.inside.next c.args.self.now c.self.inside.tree c.self.invariant c.self.view_is in
    record {
      below_root = c.requires.above.below_root;
      parent = λ q n splits. parent_stands (view_of c.self.inside.slots) c.self.inside.root c.self.inside.places.entries c.self.inside.next c.args.self.now c.args.path.now q n m splits c.requires.above;
    }

pub invariant_of-self-inside : goal.invariant_of-self-inside
invariant_of-self-inside c =
    let path_splits : c.args.path.now ≡ c.parent_at-dir.ensures.leads.0 ++ c.parent_at-dir.result.1.now ∷ [] = c.parent_at-dir.ensures.leads.1 in
    let m = opens c.self.inside.slots c.self.inside.root c.self.inside.places.entries c.self.inside.next c.args.self.now c.self.inside.tree c.self.invariant c.self.view_is in
    let layer : IsLayer c.args.self.now = subst IsLayer c.self.view_is c.self.invariant.layer in
    let spot : Spot (view_of c.self.inside.slots) c.self.inside.root c.self.inside.places.entries c.self.inside.next c.args.self.now c.args.path.now c.parent_at-dir.ensures.leads.0 c.parent_at-dir.result.1.now c.parent_at-dir.result.0 = record { makes = m; layer = layer; splits = path_splits; leads = c.parent_at-dir.ensures.leads.2; dir = c.parent_at-dir.ensures.dir } in
    (either c.put_inode.result c.put_inode.ensures.ok c.put_inode.ensures.err (λ done. makes_holds c.put_inode.new.slots c.self.inside.root c.self.inside.places.entries c.self.inside.next (with_entry c.args.self.now c.args.path.now (node.Dir c.args.meta c.args.opaque)) (dir_made (view_of c.self.inside.slots) (view_of c.put_inode.new.slots) c.self.inside.root c.self.inside.places.entries c.self.inside.next c.args.self.now c.args.path.now c.parent_at-dir.ensures.leads.0 c.parent_at-dir.result.1.now c.parent_at-dir.result.0 spot c.requires.free (plain c.self.inside.slots) c.self.inside.slots.vacant_key (node.Dir c.args.meta c.args.opaque) _ _ (done (node.Dir c.args.meta c.args.opaque) refl) refl) (c.requires.layer)) (λ alike. makes_holds c.put_inode.new.slots c.self.inside.root c.self.inside.places.entries c.self.inside.next c.args.self.now (makes_same (view_of c.self.inside.slots) (view_of c.put_inode.new.slots) c.self.inside.root alike c.self.inside.places.entries c.self.inside.places.entries c.self.inside.next c.args.self.now refl m) layer), tt)

pub invariant_of-self : goal.invariant_of-self
invariant_of-self c =
    let path_splits : c.args.path.now ≡ c.parent_at-dir.ensures.leads.0 ++ c.parent_at-dir.result.1.now ∷ [] = c.parent_at-dir.ensures.leads.1 in
    let m = opens c.self.inside.slots c.self.inside.root c.self.inside.places.entries c.self.inside.next c.args.self.now c.self.inside.tree c.self.invariant c.self.view_is in
    let layer : IsLayer c.args.self.now = subst IsLayer c.self.view_is c.self.invariant.layer in
    let spot : Spot (view_of c.self.inside.slots) c.self.inside.root c.self.inside.places.entries c.self.inside.next c.args.self.now c.args.path.now c.parent_at-dir.ensures.leads.0 c.parent_at-dir.result.1.now c.parent_at-dir.result.0 = record { makes = m; layer = layer; splits = path_splits; leads = c.parent_at-dir.ensures.leads.2; dir = c.parent_at-dir.ensures.dir } in
    either c.put_inode.result c.put_inode.ensures.ok c.put_inode.ensures.err (λ done. makes_kept c.put_inode.new.slots c.self.inside.root c.self.inside.places.entries c.self.inside.next (with_entry c.args.self.now c.args.path.now (node.Dir c.args.meta c.args.opaque)) (dir_made (view_of c.self.inside.slots) (view_of c.put_inode.new.slots) c.self.inside.root c.self.inside.places.entries c.self.inside.next c.args.self.now c.args.path.now c.parent_at-dir.ensures.leads.0 c.parent_at-dir.result.1.now c.parent_at-dir.result.0 spot c.requires.free (plain c.self.inside.slots) c.self.inside.slots.vacant_key (node.Dir c.args.meta c.args.opaque) _ _ (done (node.Dir c.args.meta c.args.opaque) refl) refl) (c.requires.layer) (most_same c.self.view_is) (node_contracts.the_row).coded c.self-1.given.0) (λ alike. makes_kept c.put_inode.new.slots c.self.inside.root c.self.inside.places.entries c.self.inside.next c.args.self.now (makes_same (view_of c.self.inside.slots) (view_of c.put_inode.new.slots) c.self.inside.root alike c.self.inside.places.entries c.self.inside.places.entries c.self.inside.next c.args.self.now refl m) layer (most_same c.self.view_is) (node_contracts.the_row).coded c.self-1.given.0)

pub returns-clause-ok : goal.returns-clause-ok
returns-clause-ok c =
    let path_splits : c.args.path.now ≡ c.parent_at-dir.ensures.leads.0 ++ c.parent_at-dir.result.1.now ∷ [] = c.parent_at-dir.ensures.leads.1 in
    let m = opens c.self.inside.slots c.self.inside.root c.self.inside.places.entries c.self.inside.next c.args.self.now c.self.inside.tree c.self.invariant c.self.view_is in
    let layer : IsLayer c.args.self.now = subst IsLayer c.self.view_is c.self.invariant.layer in
    let spot : Spot (view_of c.self.inside.slots) c.self.inside.root c.self.inside.places.entries c.self.inside.next c.args.self.now c.args.path.now c.parent_at-dir.ensures.leads.0 c.parent_at-dir.result.1.now c.parent_at-dir.result.0 = record { makes = m; layer = layer; splits = path_splits; leads = c.parent_at-dir.ensures.leads.2; dir = c.parent_at-dir.ensures.dir } in
    on_ok c.put_inode.result (λ done. makes_view c.put_inode.new.slots c.self.inside.root c.self.inside.places.entries c.self.inside.next (with_entry c.args.self.now c.args.path.now (node.Dir c.args.meta c.args.opaque)) (dir_made (view_of c.self.inside.slots) (view_of c.put_inode.new.slots) c.self.inside.root c.self.inside.places.entries c.self.inside.next c.args.self.now c.args.path.now c.parent_at-dir.ensures.leads.0 c.parent_at-dir.result.1.now c.parent_at-dir.result.0 spot c.requires.free (plain c.self.inside.slots) c.self.inside.slots.vacant_key (node.Dir c.args.meta c.args.opaque) _ _ (done (node.Dir c.args.meta c.args.opaque) refl) refl) (c.requires.layer) (most_same c.self.view_is) (node_contracts.the_row).coded c.self-1.given.0) c.put_inode.ensures.ok

pub returns-clause-err : goal.returns-clause-err
returns-clause-err c =
    let m = opens c.self.inside.slots c.self.inside.root c.self.inside.places.entries c.self.inside.next c.args.self.now c.self.inside.tree c.self.invariant c.self.view_is in
    let layer : IsLayer c.args.self.now = subst IsLayer c.self.view_is c.self.invariant.layer in
    on_err c.put_inode.result (λ alike. makes_view c.put_inode.new.slots c.self.inside.root c.self.inside.places.entries c.self.inside.next c.args.self.now (makes_same (view_of c.self.inside.slots) (view_of c.put_inode.new.slots) c.self.inside.root alike c.self.inside.places.entries c.self.inside.places.entries c.self.inside.next c.args.self.now refl m) layer (most_same c.self.view_is) (node_contracts.the_row).coded c.self-1.given.0) c.put_inode.ensures.err

pub put_inode-requires-clause-dir : goal.put_inode-requires-clause-dir
put_inode-requires-clause-dir c = c.parent_at-dir.ensures.dir
