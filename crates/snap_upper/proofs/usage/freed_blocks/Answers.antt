use Rattle.std.proofs.Common.{◌+◌, Option, Some, sym, ap, ◌∙◌}
use Rattle.snap_layer.specs.declared.node.Node.{Node}
use Rattle.snap_layer.specs.Counts.{block_count}
use Rattle.snap_layer.specs.Edits.{without}
use Rattle.snap_upper.proofs.Freed.{node_blocks, without_blocks}
use Rattle.snap_upper.proofs.usage.freed_blocks.Goals as goal

pub returns-in-Some-Dir : goal.returns-in-Some-Dir
returns-in-Some-Dir c =
    let u = c.args.layer.now in
    let p = c.args.path.now in
    without_blocks u c.at.ensures.layer p c.requires ∙ ap (λ (o : Option Node). block_count (without u p) + node_blocks u o) (sym c.at.ensures.node ∙ c.in-Some-Dir.is ∙ ap (λ (n : Node). Some n) c.in-Some-Dir.field-0-is)

pub returns-in-Some-File : goal.returns-in-Some-File
returns-in-Some-File c =
    let u = c.args.layer.now in
    let p = c.args.path.now in
    without_blocks u c.at.ensures.layer p c.requires ∙ ap (λ (o : Option Node). block_count (without u p) + node_blocks u o) (sym c.at.ensures.node ∙ c.in-Some-File.is ∙ ap (λ (n : Node). Some n) c.in-Some-File.field-0-is) ∙ ap (λ n. block_count (without u p) + n) (sym c.last_blocks.ensures)

pub returns-in-Some-Symlink : goal.returns-in-Some-Symlink
returns-in-Some-Symlink c =
    let u = c.args.layer.now in
    let p = c.args.path.now in
    without_blocks u c.at.ensures.layer p c.requires ∙ ap (λ (o : Option Node). block_count (without u p) + node_blocks u o) (sym c.at.ensures.node ∙ c.in-Some-Symlink.is ∙ ap (λ (n : Node). Some n) c.in-Some-Symlink.field-0-is) ∙ ap (λ n. block_count (without u p) + n) (sym c.last_blocks-in-Some-Symlink.ensures)

pub returns-in-Some-Whiteout : goal.returns-in-Some-Whiteout
returns-in-Some-Whiteout c =
    let u = c.args.layer.now in
    let p = c.args.path.now in
    without_blocks u c.at.ensures.layer p c.requires ∙ ap (λ (o : Option Node). block_count (without u p) + node_blocks u o) (sym c.at.ensures.node ∙ c.in-Some-Whiteout.is ∙ ap (λ (n : Node). Some n) c.in-Some-Whiteout.field-0-is)

pub returns-in-None : goal.returns-in-None
returns-in-None c =
    let u = c.args.layer.now in
    let p = c.args.path.now in
    without_blocks u c.at.ensures.layer p c.requires ∙ ap (λ (o : Option Node). block_count (without u p) + node_blocks u o) (sym c.at.ensures.node ∙ c.in-None.is)
