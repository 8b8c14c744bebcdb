use Rattle.std.proofs.Common.{Some, sym, ap, ◌∙◌, subst}
use Rattle.snap_layer.specs.declared.node.Node.{Node}
use Rattle.snap_layer.specs.Layers.{IsLayer}
use Rattle.snap_layer.proofs.Setting.{dir_meta}
use Rattle.snap_layer.proofs.layer.Layer.set_opaque.Goals as goal

pub set_dir-requires-clause-meta : goal.set_dir-requires-clause-meta
set_dir-requires-clause-meta c =
    let ok : IsLayer c.args.self.now = c.at.ensures.layer in
    dir_meta c.args.self.now ok c.args.path.now c.in-Some-Dir.meta c.in-Some-Dir.field-0-1 (sym c.at.ensures.node ∙ c.in-Some-Dir.is ∙ ap (λ (n : Node). Some n) c.in-Some-Dir.field-0-is)
