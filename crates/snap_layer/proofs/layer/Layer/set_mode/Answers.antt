use Rattle.std.proofs.Common.{◌≡◌, Some, refl, sym, ap, subst, ◌∙◌}
use Rattle.snap_layer.specs.declared.node.Node.{Node}
use Rattle.snap_layer.specs.declared.node.Body.TheVariants as body_kinds
use Rattle.snap_layer.specs.Tree.{body}
use Rattle.snap_layer.specs.Layers.{IsLayer, IsFile}
use Rattle.snap_layer.specs.Edits.{body_with_mode, with_file_mode}
use Rattle.snap_layer.specs.Totals.{Counts, IsCounted}
use Rattle.snap_layer.proofs.Setting.{file_body, file_of_name, file_with_mode}
use Rattle.snap_layer.proofs.Totaling.{counts_body}
use Rattle.snap_layer.proofs.Kept.{IsLayer-with_body}
use Rattle.snap_layer.proofs.layer.Layer.set_mode.Goals as goal

pub set_file_mode-requires-clause-file : goal.set_file_mode-requires-clause-file
set_file_mode-requires-clause-file c =
    let ok : IsLayer c.args.self.now = c.at.ensures.layer in
    let file = file_of_name c.args.self.now ok c.args.path.now c.in-Some-File.number (sym c.at.ensures.node ∙ c.in-Some-File.is ∙ ap (λ (n : Node). Some n) c.in-Some-File.field-0-is) in
    subst (λ u. IsFile (body u c.in-Some-File.number)) (sym c.self.view_is) file

pub invariant_of-self : goal.invariant_of-self
invariant_of-self c =
    let ok : IsLayer c.args.self.now = c.at.ensures.layer in
    let had : Counts c.self.inside.totals c.args.self.now = subst (Counts c.self.inside.totals) c.self.view_is c.self.invariant.0 in
    let number = c.in-Some-File.number in
    let file = file_of_name c.args.self.now ok c.args.path.now number (sym c.at.ensures.node ∙ c.in-Some-File.is ∙ ap (λ (n : Node). Some n) c.in-Some-File.field-0-is) in
    let b = file_body (body c.args.self.now number) file in
    let old = body_kinds.File b.0 b.1 in
    let new = body_with_mode old c.args.mode in
    let is : body c.args.self.now number ≡ Some old = b.2 in
    subst (IsCounted c.self.inside.totals) (ap (λ o. with_file_mode c.args.self.now number o c.args.mode) (sym is) ∙ ap (λ u. with_file_mode u number (body u number) c.args.mode) (sym c.self.view_is) ∙ sym c.set_file_mode.ensures) (counts_body c.args.self.now ok number old new c.self.inside.totals c.self.inside.totals is had refl refl refl, IsLayer-with_body c.args.self.now number new ok file (file_with_mode old c.args.mode c.requires.mode (subst IsFile is file)))

pub returns-in-Some-File-clause-layer : goal.returns-in-Some-File-clause-layer
returns-in-Some-File-clause-layer c =
    let ok : IsLayer c.args.self.now = c.at.ensures.layer in
    let had : Counts c.self.inside.totals c.args.self.now = subst (Counts c.self.inside.totals) c.self.view_is c.self.invariant.0 in
    let number = c.in-Some-File.number in
    let file = file_of_name c.args.self.now ok c.args.path.now number (sym c.at.ensures.node ∙ c.in-Some-File.is ∙ ap (λ (n : Node). Some n) c.in-Some-File.field-0-is) in
    let b = file_body (body c.args.self.now number) file in
    let old = body_kinds.File b.0 b.1 in
    let new = body_with_mode old c.args.mode in
    let is : body c.args.self.now number ≡ Some old = b.2 in
    subst IsLayer (ap (λ o. with_file_mode c.args.self.now number o c.args.mode) (sym is) ∙ ap (λ u. with_file_mode u number (body u number) c.args.mode) (sym c.self.view_is) ∙ sym c.set_file_mode.ensures) (IsLayer-with_body c.args.self.now number new ok file (file_with_mode old c.args.mode c.requires.mode (subst IsFile is file)))
