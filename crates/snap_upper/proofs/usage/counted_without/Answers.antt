use Rattle.std.proofs.Common.{◌≡◌, ◌+◌, Bool, true, false, refl, arith}
use Rattle.std.specs.Prelude.{if◌then◌else◌}
use mir.Val.{bool_byte}
use Rattle.snap_layer.specs.Counts.{inode_count}
use Rattle.snap_layer.specs.Edits.{without_tree}
use Rattle.snap_upper.proofs.Trees.{tree_planned}
use Rattle.snap_upper.proofs.usage.counted_without.Goals as goal

byte_of : (b : Bool) → bool_byte b ≡ (if b then 1 else 0)
byte_of true = refl
byte_of false = refl

pub returns : goal.returns
returns c =
    let u = c.args.layer.now in
    let p = c.args.path.now in
    let covers = c.args.covers in
    let ok = c.requires.layer in
    let inodes : c.left_without_tree-inodes.result.0 + c.from.result ≡ inode_count (without_tree u p) + (if covers then 1 else 0) = omega (arith, c.left_without_tree-inodes.ensures.inodes, c.from.ensures, byte_of covers) in
    λ ls is. tree_planned u ls p covers ok c.left_without_tree-inodes.ensures.path c.requires.dir is _ inodes c.left_without_tree-inodes.ensures.blocks
