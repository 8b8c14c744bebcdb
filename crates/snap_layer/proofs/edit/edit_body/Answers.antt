use Rattle.std.proofs.Common.{◌≡◌, Some, refl, sym, ap, ◌∙◌}
use Rattle.std.specs.Option.{option_copied_mut}
use Rattle.slab.specs.Slab.{get}
use Rattle.snap_layer.specs.declared.inode.Inode.{Inode}
use Rattle.snap_layer.specs.declared.inode.Inode.TheVariants.{Leaf}
use Rattle.snap_layer.specs.declared.node.Node.{Node}
use Rattle.snap_layer.specs.declared.node.Body.{Body}
use Rattle.snap_layer.specs.Tree.{leaf_node}
use Rattle.snap_layer.specs.Walk.{body_of}
use Rattle.snap_layer.specs.Contents.{body_edited}
use Rattle.snap_layer.proofs.Contents.{same_body, same_leaf}
use Rattle.snap_layer.proofs.Slots.{on_ok, rebodies}
use Rattle.snap_layer.proofs.edit.edit_body.Goals as goal

pub returns-clause-ok : goal.returns-clause-ok
returns-clause-ok c =
    let is : get c.args.slots.now c.args.key ≡ Some (Leaf c.in-Leaf.number c.in-Leaf.links c.in-Leaf.body) = sym c.get_mut.ensures.value ∙ ap option_copied_mut c.in-Some.is ∙ ap (λ (i : Inode). Some i) c.in-Leaf.is in
    λ b had. on_ok c.edit.result (
    λ done.
    let edited : Some c.edit.new.self ≡ Some (body_edited b c.args.edit) = ap (λ (x : Body). Some x) (done ∙ ap (λ (x : Body). body_edited x c.args.edit) (same_body c.in-Leaf.body b (sym (ap body_of is) ∙ had))) in
    let kind : Some (leaf_node c.in-Leaf.number c.edit.new.self) ≡ Some (leaf_node c.in-Leaf.number c.in-Leaf.body) = ap (λ (n : Node). Some n) (ap (leaf_node c.in-Leaf.number) done ∙ sym (same_leaf c.in-Leaf.number c.in-Leaf.body c.args.edit)) in
    rebodies c.args.slots.now c.args.key (body_edited b c.args.edit) _ _ is (λ m. refl) kind edited refl
    ) c.edit.ensures.ok
