use Rattle.std.proofs.Common.{[], ◌≡◌, sym, ◌∙◌}
use Rattle.snap_layer.specs.Tree.{at}
use Rattle.snap_layer.proofs.Listed.{same_rest}
use Rattle.snap_layer.proofs.table.Table.has_entries_of.Goals as goal

pub loop-row-init : goal.loop-row-init
loop-row-init c =
    let root : at c.args.self.now [] ≡ at c.args.other.now [] = sym c.node_at.ensures ∙ c.is_same_node.ensures.0 c.if-not-is_same_node.false ∙ c.node_at-2.ensures in
    record {
      path = c.all_below-rows.ensures.path ∙ sym c.all_below-others.ensures.path;
      left = same_rest c.args.self.now.entries c.args.other.now.entries (at c.args.self.now []) (at c.args.other.now []) c.all_below-rows.result.rest c.all_below-others.result.rest root c.all_below-rows.ensures.rest c.all_below-others.ensures.rest;
    }
