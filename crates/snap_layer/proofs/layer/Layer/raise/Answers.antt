use Rattle.std.proofs.Common.{arith, sym, ap, subst, ◌∙◌}
use Rattle.snap_layer.specs.Tree.{Tree}
use Rattle.snap_layer.specs.Layers.{IsLayer}
use Rattle.snap_layer.specs.Edits.{with_next}
use Rattle.snap_layer.specs.Totals.{Counts, IsCounted}
use Rattle.snap_layer.proofs.Numbers.{IsLayer-raised}
use Rattle.snap_layer.proofs.layer.Layer.raise.Goals as goal

pub invariant_of-self : goal.invariant_of-self
invariant_of-self c =
    let u = c.args.self.now in
    let ok : IsLayer u = subst IsLayer c.self.view_is c.self.invariant.1 in
    let had : Counts c.self.inside.totals u = subst (Counts c.self.inside.totals) c.self.view_is c.self.invariant.0 in
    let counts : Counts c.self.inside.totals (with_next u c.args.next) = record { inodes = had.inodes; blocks = had.blocks; paths = had.paths } in
    subst (IsCounted c.self.inside.totals) (ap (λ (t : Tree). with_next t c.args.next) (sym c.self.view_is) ∙ sym c.raise.ensures) (counts, IsLayer-raised u ok c.args.next c.requires (omega arith))

pub returns-clause-layer : goal.returns-clause-layer
returns-clause-layer c =
    let u = c.args.self.now in
    let ok : IsLayer u = subst IsLayer c.self.view_is c.self.invariant.1 in
    subst IsLayer (ap (λ (t : Tree). with_next t c.args.next) (sym c.self.view_is) ∙ sym c.raise.ensures) (IsLayer-raised u ok c.args.next c.requires (omega arith))
