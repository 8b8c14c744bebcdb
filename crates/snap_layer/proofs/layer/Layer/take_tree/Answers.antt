use Rattle.std.proofs.Common.{true, false, sym, ap, subst, ◌∙◌}
use Rattle.std.specs.Prelude.{Bool}
use Rattle.snap_layer.specs.declared.node.Node.TheVariants.{Whiteout}
use Rattle.snap_layer.specs.Tree.{Tree, IsDirAt}
use Rattle.snap_layer.specs.Edits.{with_entry, with_tree_taken}
use Rattle.snap_layer.proofs.TreeLayers.{covered_done}
use Rattle.snap_layer.proofs.Trees.{alone_place, alone_takeable, alone_without}
use Rattle.snap_layer.proofs.layer.Layer.take_tree.Goals as goal

pub add_whiteout-requires : goal.add_whiteout-requires
add_whiteout-requires c =
    let mid = c.take_below.new.self in
    let p = c.args.path.now in
    alone_place mid (c.take_below.ensures.layer) p (subst IsDirAt (sym c.take_below.ensures.same) c.requires.dir) c.take_below.ensures.below c.requires.below_root

pub returns-then-leaves-clause-ok : goal.returns-then-leaves-clause-ok
returns-then-leaves-clause-ok c =
    let mid = c.take_below.new.self in
    let p = c.args.path.now in
    let ok = c.take_below.ensures.layer in
    let dir = subst IsDirAt (sym c.take_below.ensures.same) c.requires.dir in
    covered_done mid ok p dir c.add_whiteout.result c.add_whiteout.ensures.ok c.add_whiteout.ensures.full c.add_whiteout.ensures.sure
    ∙ ap (λ (u : Tree). with_entry u p Whiteout) (alone_without mid ok p dir c.take_below.ensures.below ∙ c.take_below.ensures.rest)
    ∙ ap (λ (b : Bool). with_tree_taken c.args.self.now p b) (sym c.if-leaves.true)

pub take_name-requires : goal.take_name-requires
take_name-requires c =
    let mid = c.take_below.new.self in
    let p = c.args.path.now in
    alone_takeable mid (c.take_below.ensures.layer) p (subst IsDirAt (sym c.take_below.ensures.same) c.requires.dir) c.take_below.ensures.below c.requires.below_root

pub returns-clause-ok : goal.returns-clause-ok
returns-clause-ok c =
    let mid = c.take_below.new.self in
    let p = c.args.path.now in
    let ok = c.take_below.ensures.layer in
    let dir = subst IsDirAt (sym c.take_below.ensures.same) c.requires.dir in
    c.take_name.ensures.next
    ∙ alone_without mid ok p dir c.take_below.ensures.below
    ∙ c.take_below.ensures.rest
    ∙ ap (λ (b : Bool). with_tree_taken c.args.self.now p b) (sym c.if-leaves.false)

pub returns-then-leaves-clause-layer : goal.returns-then-leaves-clause-layer
returns-then-leaves-clause-layer c =
    let mid = c.take_below.new.self in
    let p = c.args.path.now in
    let ok = c.take_below.ensures.layer in
    let dir = subst IsDirAt (sym c.take_below.ensures.same) c.requires.dir in
    covered_done mid ok p dir c.add_whiteout.result c.add_whiteout.ensures.layer c.add_whiteout.ensures.full c.add_whiteout.ensures.sure
