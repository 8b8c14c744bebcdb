use Rattle.std.proofs.Common.{Some, sym, subst, ◌∙◌}
use Rattle.snap_layer.specs.Layers.{IsMeta}
use Rattle.snap_layer.specs.declared.node.Node.{Node}
use Rattle.snap_book.specs.Active.{meta_of_root}
use Rattle.snap_book.proofs.Rooted.{meta-whole}
use Rattle.snap_book.proofs.prepare.root_meta.Goals as goal

pub returns-in-Some-Dir-clause-whole : goal.returns-in-Some-Dir-clause-whole
returns-in-Some-Dir-clause-whole c =
    subst (λ (n : Node). IsMeta (meta_of_root (Some n))) c.in-Some-Dir.field-0-is
    (meta-whole c.layer-layer.result.now _ c.in-Some-Dir.field-0 c.at-2.ensures.layer (sym c.at-2.ensures.node ∙ c.in-Some-Dir.is))
