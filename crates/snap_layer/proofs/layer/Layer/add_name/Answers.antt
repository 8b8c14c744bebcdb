use Rattle.std.proofs.Common.{◌≡◌, [], sym, ap, subst, ◌∙◌, arith}
use Rattle.snap_layer.specs.Tree.{body, leaf_node, at}
use Rattle.snap_layer.specs.Layers.{IsLayer}
use Rattle.snap_layer.specs.Edits.{with_node, with_name, named_node}
use Rattle.snap_layer.specs.Totals.{Counts, IsCounted}
use Rattle.snap_layer.proofs.Totaling.{names_few, path_gone, counts_node, name_becomes, name_no_dir, fewer_inodes}
use Rattle.snap_layer.proofs.Changing.{body_some}
use Rattle.snap_layer.proofs.Slots.{on_err_by}
use Rattle.snap_layer.proofs.layer.Layer.add_name.Goals as goal

pub put_name-requires-clause-few : goal.put_name-requires-clause-few
put_name-requires-clause-few c = omega (arith, names_few c.args.number [] c.self.inside.table.entries c.self.invariant.1.root, c.self.invariant.0.paths, c.self.ranges)

pub put_name-requires-clause-layer : goal.put_name-requires-clause-layer
put_name-requires-clause-layer c =
    let ok : IsLayer c.args.self.now = c.left-left.ensures.layer in
    λ b is. subst (λ u. IsLayer (with_node u c.args.path.now (leaf_node c.args.number b))) (sym c.self.view_is) ((name_becomes c.args.self.now ok c.args.path.now c.left-left.ensures.path c.requires.place c.args.number b c.requires.apart (ap (λ u. body u c.args.number) (sym c.self.view_is) ∙ is)).layer (fewer_inodes c.args.self.now ok c.args.path.now))

pub invariant_of-self-2 : goal.invariant_of-self-2
invariant_of-self-2 c =
    let ok : IsLayer c.args.self.now = c.left-left.ensures.layer in
    let there = body_some c.args.self.now c.args.number c.requires.there in
    let b = name_becomes c.args.self.now ok c.args.path.now c.left-left.ensures.path c.requires.place c.args.number there.0 c.requires.apart there.1 in
    let is : c.put_name.new.self ≡ with_node c.args.self.now c.args.path.now (leaf_node c.args.number there.0) = c.in_ok-put_name.ensures.ok there.0 (ap (λ u. body u c.args.number) c.self.view_is ∙ there.1) ∙ ap (λ u. with_node u c.args.path.now (leaf_node c.args.number there.0)) c.self.view_is in
    subst (IsCounted _) (sym is) (counts_node c.args.self.now ok c.args.path.now _ (omega (arith, c.in_ok-paths.ensures.ok, c.left-left.ensures.paths)) (leaf_node c.args.number there.0) (c.left-left.ensures.inodes ∙ b.count) (omega (arith, c.left-left.ensures.blocks, name_no_dir c.args.number there.0)), b.layer (fewer_inodes c.args.self.now ok c.args.path.now))

pub returns-clause-ok : goal.returns-clause-ok
returns-clause-ok c =
    let there = body_some c.args.self.now c.args.number c.requires.there in
    let is : c.put_name.new.self ≡ with_node c.args.self.now c.args.path.now (leaf_node c.args.number there.0) = c.in_ok-put_name.ensures.ok there.0 (ap (λ u. body u c.args.number) c.self.view_is ∙ there.1) ∙ ap (λ u. with_node u c.args.path.now (leaf_node c.args.number there.0)) c.self.view_is in
    is ∙ sym (ap (with_name c.args.self.now c.args.path.now) (ap (named_node c.args.number) there.1))

pub returns-in_err-put_name-clause-sure : goal.returns-in_err-put_name-clause-sure
returns-in_err-put_name-clause-sure c = on_err_by c.from_residual-in_err-put_name.result (ap (λ u. at u c.args.path.now) (sym c.self.view_is) ∙ c.in_err-put_name.ensures.sure)

pub returns-in_err-put_name-clause-err : goal.returns-in_err-put_name-clause-err
returns-in_err-put_name-clause-err c = on_err_by c.from_residual-in_err-put_name.result (c.in_err-put_name.ensures.err ∙ c.self.view_is)

pub returns-in_err-paths-clause-sure : goal.returns-in_err-paths-clause-sure
returns-in_err-paths-clause-sure c =
    let had : Counts c.self.inside.totals c.args.self.now = subst (Counts c.self.inside.totals) c.self.view_is c.self.invariant.0 in
    on_err_by c.from_residual.result (path_gone c.args.self.now c.left-left.ensures.layer c.args.path.now _ c.left-left.ensures.paths (omega (arith, had.paths, c.self.ranges)) c.in_err-paths.ensures.last)

pub returns-clause-layer : goal.returns-clause-layer
returns-clause-layer c =
    let ok : IsLayer c.args.self.now = c.left-left.ensures.layer in
    let there = body_some c.args.self.now c.args.number c.requires.there in
    let b = name_becomes c.args.self.now ok c.args.path.now c.left-left.ensures.path c.requires.place c.args.number there.0 c.requires.apart there.1 in
    let is : c.put_name.new.self ≡ with_node c.args.self.now c.args.path.now (leaf_node c.args.number there.0) = c.in_ok-put_name.ensures.ok there.0 (ap (λ u. body u c.args.number) c.self.view_is ∙ there.1) ∙ ap (λ u. with_node u c.args.path.now (leaf_node c.args.number there.0)) c.self.view_is in
    subst IsLayer (sym is) (b.layer (fewer_inodes c.args.self.now ok c.args.path.now))
