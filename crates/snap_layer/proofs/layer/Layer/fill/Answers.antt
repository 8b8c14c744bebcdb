use Rattle.std.proofs.Common.{◌≡◌, Some, refl, sym, ap, subst, ◌∙◌, arith}
use Rattle.snap_layer.specs.declared.node.Body.TheVariants as body_kinds
use Rattle.snap_layer.specs.Tree.{body}
use Rattle.snap_layer.specs.Layers.{IsLayer, IsFile}
use Rattle.snap_layer.specs.Edits.{with_body}
use Rattle.snap_layer.specs.Totals.{Counts, IsCounted}
use Rattle.snap_layer.proofs.Kept.{IsLayer-with_body}
use Rattle.snap_layer.proofs.Bounds.{content_blocks}
use Rattle.snap_layer.proofs.Totaling.{counts_body, few_blocks, body_few}
use Rattle.snap_layer.proofs.Filling.{file_there}
use Rattle.snap_layer.proofs.layer.Layer.fill.Goals as goal

pub overflow_sub-blocks : goal.overflow_sub-blocks
overflow_sub-blocks c =
    let ok : IsLayer c.args.self.now = subst IsLayer c.self.view_is c.self.invariant.1 in
    let had : Counts c.self.inside.totals c.args.self.now = subst (Counts c.self.inside.totals) c.self.view_is c.self.invariant.0 in
    let old = c.requires.there.0 in
    let blocks = c.requires.there.1 in
    let is : body c.args.self.now c.args.number ≡ Some (body_kinds.File c.args.meta old) = c.requires.there.2 in
    let few = body_few c.args.self.now ok c.args.number (body_kinds.File c.args.meta old) is in
    omega (arith, had.blocks, blocks, few)

pub overflow_add-blocks : goal.overflow_add-blocks
overflow_add-blocks c =
    let ok : IsLayer c.args.self.now = subst IsLayer c.self.view_is c.self.invariant.1 in
    let had : Counts c.self.inside.totals c.args.self.now = subst (Counts c.self.inside.totals) c.self.view_is c.self.invariant.0 in
    let old = c.requires.there.0 in
    let blocks = c.requires.there.1 in
    let is : body c.args.self.now c.args.number ≡ Some (body_kinds.File c.args.meta old) = c.requires.there.2 in
    let few = body_few c.args.self.now ok c.args.number (body_kinds.File c.args.meta old) is in
    omega (arith, had.blocks, blocks, few, few_blocks c.args.self.now ok, c.blocks-2.ensures, content_blocks c.args.content c.requires.content)

pub set_body-requires-clause-layer : goal.set_body-requires-clause-layer
set_body-requires-clause-layer c =
    let ok : IsLayer c.args.self.now = subst IsLayer c.self.view_is c.self.invariant.1 in
    let old = c.requires.there.0 in
    let is : body c.args.self.now c.args.number ≡ Some (body_kinds.File c.args.meta old) = c.requires.there.2 in
    let file : IsFile (body c.args.self.now c.args.number) = file_there c.args.self.now ok c.args.number c.args.meta old is in
    let low : IsFile (Some (body_kinds.File c.args.meta old)) = subst IsFile is file in
    subst (λ u. IsLayer (with_body u c.args.number (body_kinds.File c.args.meta c.args.content))) (sym c.self.view_is) (IsLayer-with_body c.args.self.now c.args.number (body_kinds.File c.args.meta c.args.content) ok file (low.0, c.requires.content))

pub invariant_of-self : goal.invariant_of-self
invariant_of-self c =
    let ok : IsLayer c.args.self.now = subst IsLayer c.self.view_is c.self.invariant.1 in
    let had : Counts c.self.inside.totals c.args.self.now = subst (Counts c.self.inside.totals) c.self.view_is c.self.invariant.0 in
    let old = c.requires.there.0 in
    let blocks = c.requires.there.1 in
    let is : body c.args.self.now c.args.number ≡ Some (body_kinds.File c.args.meta old) = c.requires.there.2 in
    let file : IsFile (body c.args.self.now c.args.number) = file_there c.args.self.now ok c.args.number c.args.meta old is in
    let low : IsFile (Some (body_kinds.File c.args.meta old)) = subst IsFile is file in
    let few = body_few c.args.self.now ok c.args.number (body_kinds.File c.args.meta old) is in
    subst (IsCounted _) (ap (λ u. with_body u c.args.number (body_kinds.File c.args.meta c.args.content)) (sym c.self.view_is) ∙ sym c.set_body.ensures) (counts_body c.args.self.now ok c.args.number (body_kinds.File c.args.meta old) (body_kinds.File c.args.meta c.args.content) c.self.inside.totals _ is had refl refl (omega (arith, had.blocks, blocks, few, c.blocks-2.ensures)), IsLayer-with_body c.args.self.now c.args.number (body_kinds.File c.args.meta c.args.content) ok file (low.0, c.requires.content))

pub returns-clause-layer : goal.returns-clause-layer
returns-clause-layer c =
    let ok : IsLayer c.args.self.now = subst IsLayer c.self.view_is c.self.invariant.1 in
    let had : Counts c.self.inside.totals c.args.self.now = subst (Counts c.self.inside.totals) c.self.view_is c.self.invariant.0 in
    let old = c.requires.there.0 in
    let blocks = c.requires.there.1 in
    let is : body c.args.self.now c.args.number ≡ Some (body_kinds.File c.args.meta old) = c.requires.there.2 in
    let file : IsFile (body c.args.self.now c.args.number) = file_there c.args.self.now ok c.args.number c.args.meta old is in
    let low : IsFile (Some (body_kinds.File c.args.meta old)) = subst IsFile is file in
    let few = body_few c.args.self.now ok c.args.number (body_kinds.File c.args.meta old) is in
    subst IsLayer (ap (λ u. with_body u c.args.number (body_kinds.File c.args.meta c.args.content)) (sym c.self.view_is) ∙ sym c.set_body.ensures) (IsLayer-with_body c.args.self.now c.args.number (body_kinds.File c.args.meta c.args.content) ok file (low.0, c.requires.content))
