use Rattle.std.proofs.Common.{◌≡◌, ℕ, Some, IsSome, is_some, refl, sym, ap, subst, ◌∙◌, arith}
use Rattle.snap_layer.specs.Tree.{Tree, at, body, number_at, leaf_node}
use Rattle.snap_layer.specs.Counts.{name_count}
use Rattle.snap_layer.specs.Layers.{IsLayer}
use Rattle.snap_layer.specs.Edits.{with_new, with_node, HasPlace}
use Rattle.snap_layer.proofs.Linked.{link_place, link_layer, link_body, link_names, link_new, path_place, path_other, path_layer, swapped}
use Rattle.snap_layer.proofs.table.Table.put_linked.Goals as goal

pub put_leaf-requires-clause-place : goal.put_leaf-requires-clause-place
put_leaf-requires-clause-place c = link_place c.args.self.now (subst IsLayer c.self.view_is c.self.invariant.layer) c.args.path.now c.args.link.now c.requires.rooms c.args.body

pub put_leaf-requires-clause-layer : goal.put_leaf-requires-clause-layer
put_leaf-requires-clause-layer c = link_layer c.args.self.now (subst IsLayer c.self.view_is c.self.invariant.layer) c.args.path.now c.args.link.now c.requires.rooms c.args.body c.requires.layer c.requires.last

pub put_name-requires-clause-place : goal.put_name-requires-clause-place
put_name-requires-clause-place c =
    let is = c.in_ok-put_leaf.ensures.ok in
    subst (λ (t : Tree). HasPlace t c.args.path.now) (sym is) (path_place c.args.self.now (subst IsLayer c.self.view_is c.self.invariant.layer) c.args.path.now c.args.link.now c.requires.rooms c.args.body)

pub put_name-requires-clause-there : goal.put_name-requires-clause-there
put_name-requires-clause-there c =
    let is = c.in_ok-put_leaf.ensures.ok in
    subst IsSome (sym ((λ i. body (is i) ((ap (λ (t : Tree). t.next) c.self.view_is) i)) ∙ link_body c.args.self.now (subst IsLayer c.self.view_is c.self.invariant.layer) c.args.path.now c.args.link.now c.requires.rooms c.args.body)) refl

pub put_name-requires-clause-apart : goal.put_name-requires-clause-apart
put_name-requires-clause-apart c = λ e.
    let is = c.in_ok-put_leaf.ensures.ok in
    path_other c.args.self.now (subst IsLayer c.self.view_is c.self.invariant.layer) c.args.path.now c.args.link.now c.requires.rooms c.args.body (ap (λ (t : Tree). number_at t c.args.path.now) (sym is) ∙ e ∙ ap (λ (k : ℕ). Some k) (ap (λ (t : Tree). t.next) c.self.view_is))

pub put_name-requires-clause-few : goal.put_name-requires-clause-few
put_name-requires-clause-few c =
    let is = c.in_ok-put_leaf.ensures.ok in
    let few = link_names c.args.self.now (subst IsLayer c.self.view_is c.self.invariant.layer) c.args.path.now c.args.link.now c.requires.rooms c.args.body in
    let same : name_count c.self.inside.next c.put_leaf.new.self.entries ≡ name_count c.args.self.now.next (with_new c.args.self.now c.args.link.now (leaf_node c.args.self.now.next c.args.body) c.args.body).entries = λ i. name_count ((ap (λ (t : Tree). t.next) c.self.view_is) i) (is i).entries in
    omega (arith, few, same)

pub put_name-requires-clause-layer : goal.put_name-requires-clause-layer
put_name-requires-clause-layer c = λ b found.
    let is = c.in_ok-put_leaf.ensures.ok in
    let next = (ap (λ (t : Tree). t.next) c.self.view_is) in
    subst IsLayer (λ i. with_node (sym is i) c.args.path.now (leaf_node (sym next i) b))
    (path_layer c.args.self.now (subst IsLayer c.self.view_is c.self.invariant.layer) c.args.path.now c.args.link.now c.requires.rooms c.args.body c.requires.layer c.requires.last b ((λ i. body (sym is i) (sym next i)) ∙ found))

pub returns-in-Err-clause-err : goal.returns-in-Err-clause-err
returns-in-Err-clause-err c =
    c.take_back.ensures c.args.self.now (link_new c.args.self.now (subst IsLayer c.self.view_is c.self.invariant.layer) c.args.path.now c.args.link.now c.requires.rooms c.args.body c.is_some-covers.result (c.is_some-covers.ensures ∙ ap is_some (c.node_at.ensures ∙ ap (at c.args.self.now) c.names.ensures.names)) c.put_name.new.self (c.in-Err.ensures.err ∙ c.in_ok-put_leaf.ensures.ok))

pub returns-clause-ok : goal.returns-clause-ok
returns-clause-ok c =
    let is = c.in_ok-put_leaf.ensures.ok in
    let next = (ap (λ (t : Tree). t.next) c.self.view_is) in
    let there = link_body c.args.self.now (subst IsLayer c.self.view_is c.self.invariant.layer) c.args.path.now c.args.link.now c.requires.rooms c.args.body in
    c.in_default.ensures.ok c.args.body ((λ i. body (is i) (next i)) ∙ there)
    ∙ (λ i. with_node (is i) c.args.path.now (leaf_node (next i) c.args.body))
    ∙ swapped c.args.self.now (subst IsLayer c.self.view_is c.self.invariant.layer) c.args.path.now c.args.link.now c.requires.rooms c.args.body

pub take_back-requires-clause-layer : goal.take_back-requires-clause-layer
take_back-requires-clause-layer c = subst IsLayer (sym (c.in-Err.ensures.err ∙ c.in_ok-put_leaf.ensures.ok)) (link_layer c.args.self.now (subst IsLayer c.self.view_is c.self.invariant.layer) c.args.path.now c.args.link.now c.requires.rooms c.args.body c.requires.layer c.requires.last)
