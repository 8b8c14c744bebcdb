use Rattle.std.proofs.Common.{sym, ap, subst, ◌∙◌}
use Rattle.snap_layer.specs.declared.node.Node.TheVariants as node
use Rattle.snap_layer.specs.Layers.{IsLayer}
use Rattle.snap_layer.specs.Edits.{with_entry}
use Rattle.snap_layer.specs.Totals.{Counts, IsCounted}
use Rattle.snap_layer.proofs.Setting.{dir_stays}
use Rattle.snap_layer.proofs.Totaling.{counts_dir}
use Rattle.snap_layer.proofs.Totaling.{dir_there}
use Rattle.snap_layer.proofs.layer.Layer.set_dir.Goals as goal

pub set_dir-requires-clause-layer : goal.set_dir-requires-clause-layer
set_dir-requires-clause-layer c =
    let ok : IsLayer c.args.self.now = subst IsLayer c.self.view_is c.self.invariant.1 in
    let d = dir_there c.args.self.now c.args.path.now c.requires.dir in
    subst (λ u. IsLayer (with_entry u c.args.path.now (node.Dir c.args.meta c.args.opaque))) (sym c.self.view_is) (dir_stays c.args.self.now ok c.args.path.now d.0 c.args.meta d.1 c.args.opaque d.2 c.requires.meta).layer

pub invariant_of-self : goal.invariant_of-self
invariant_of-self c =
    let ok : IsLayer c.args.self.now = subst IsLayer c.self.view_is c.self.invariant.1 in
    let had : Counts c.self.inside.totals c.args.self.now = subst (Counts c.self.inside.totals) c.self.view_is c.self.invariant.0 in
    let d = dir_there c.args.self.now c.args.path.now c.requires.dir in
    subst (IsCounted c.self.inside.totals) (ap (λ u. with_entry u c.args.path.now (node.Dir c.args.meta c.args.opaque)) (sym c.self.view_is) ∙ sym c.set_dir.ensures) (counts_dir c.args.self.now ok c.args.path.now d.0 c.args.meta d.1 c.args.opaque c.self.inside.totals d.2 c.requires.meta had, (dir_stays c.args.self.now ok c.args.path.now d.0 c.args.meta d.1 c.args.opaque d.2 c.requires.meta).layer)

pub returns-clause-layer : goal.returns-clause-layer
returns-clause-layer c =
    let ok : IsLayer c.args.self.now = subst IsLayer c.self.view_is c.self.invariant.1 in
    let had : Counts c.self.inside.totals c.args.self.now = subst (Counts c.self.inside.totals) c.self.view_is c.self.invariant.0 in
    let d = dir_there c.args.self.now c.args.path.now c.requires.dir in
    subst IsLayer (ap (λ u. with_entry u c.args.path.now (node.Dir c.args.meta c.args.opaque)) (sym c.self.view_is) ∙ sym c.set_dir.ensures) ((dir_stays c.args.self.now ok c.args.path.now d.0 c.args.meta d.1 c.args.opaque d.2 c.requires.meta).layer)
