use Rattle.std.proofs.Common.{[], refl, sym, ap, ◌∙◌}
use Rattle.snap_path.specs.Text.{Names}
use Rattle.snap_layer.specs.contracts.node.Node as node_contracts
use Rattle.snap_layer.proofs.Walking.{same_entries}
use Rattle.snap_layer.proofs.Dirs.{root_path}
use Rattle.snap_layer.proofs.dir.Dir.root.Goals as goal

pub invariant_of-result : goal.invariant_of-result
invariant_of-result c = (c.requires.holds.0, (root_path c.args.slots.now c.args.root c.requires.table, tt))

pub invariant_of-result-2 : goal.invariant_of-result-2
invariant_of-result-2 c = (c.requires.table, c.requires.table.root_dir, same_entries (node_contracts.the_row).coded c.args.slots.now c.args.root c.result-1.given.0 c.requires.holds.0 ∙ c.requires.holds.1)

-- the path that leads to the root is the root's
pub returns : goal.returns
returns c = ap (λ (p : Names). record { layer = c.args.table.now; path = p }) (sym (c.result-1.given.1.0.1.1 [] refl))
