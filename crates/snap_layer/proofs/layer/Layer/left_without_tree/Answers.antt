use Rattle.std.proofs.Common.{arith}
use Rattle.snap_layer.proofs.Ending.{tree_left}
use Rattle.snap_layer.proofs.layer.Layer.left_without_tree.Goals as goal

pub overflow_sub-result : goal.overflow_sub-result
overflow_sub-result c =
    let is = tree_left c.args.self.now c.self.inside.table c.self.view_is c.args.path.now c.names.result.now c.names.ensures.names c.names-2.result.now c.names-2.ensures.names c.self.inside.totals c.self.invariant.0 c.requires c.tally_inside-dirs.result.0 c.tally_inside-dirs.result.1 c.ended_below-files.result.0 c.ended_below-files.result.1 c.tally_inside-dirs.ensures.dirs c.tally_inside-dirs.ensures.whiteouts c.ended_below-files.ensures.inodes c.ended_below-files.ensures.blocks in
    omega (arith, is.inodes_are)

pub overflow_sub-result-2 : goal.overflow_sub-result-2
overflow_sub-result-2 c =
    let is = tree_left c.args.self.now c.self.inside.table c.self.view_is c.args.path.now c.names.result.now c.names.ensures.names c.names-2.result.now c.names-2.ensures.names c.self.inside.totals c.self.invariant.0 c.requires c.tally_inside-dirs.result.0 c.tally_inside-dirs.result.1 c.ended_below-files.result.0 c.ended_below-files.result.1 c.tally_inside-dirs.ensures.dirs c.tally_inside-dirs.ensures.whiteouts c.ended_below-files.ensures.inodes c.ended_below-files.ensures.blocks in
    omega (arith, is.inodes_are)

pub overflow_sub-result-3 : goal.overflow_sub-result-3
overflow_sub-result-3 c =
    let is = tree_left c.args.self.now c.self.inside.table c.self.view_is c.args.path.now c.names.result.now c.names.ensures.names c.names-2.result.now c.names-2.ensures.names c.self.inside.totals c.self.invariant.0 c.requires c.tally_inside-dirs.result.0 c.tally_inside-dirs.result.1 c.ended_below-files.result.0 c.ended_below-files.result.1 c.tally_inside-dirs.ensures.dirs c.tally_inside-dirs.ensures.whiteouts c.ended_below-files.ensures.inodes c.ended_below-files.ensures.blocks in
    omega (arith, is.inodes_are)

pub overflow_sub-result-4 : goal.overflow_sub-result-4
overflow_sub-result-4 c =
    let is = tree_left c.args.self.now c.self.inside.table c.self.view_is c.args.path.now c.names.result.now c.names.ensures.names c.names-2.result.now c.names-2.ensures.names c.self.inside.totals c.self.invariant.0 c.requires c.tally_inside-dirs.result.0 c.tally_inside-dirs.result.1 c.ended_below-files.result.0 c.ended_below-files.result.1 c.tally_inside-dirs.ensures.dirs c.tally_inside-dirs.ensures.whiteouts c.ended_below-files.ensures.inodes c.ended_below-files.ensures.blocks in
    omega (arith, is.blocks_are)

pub overflow_sub-result-5 : goal.overflow_sub-result-5
overflow_sub-result-5 c =
    let is = tree_left c.args.self.now c.self.inside.table c.self.view_is c.args.path.now c.names.result.now c.names.ensures.names c.names-2.result.now c.names-2.ensures.names c.self.inside.totals c.self.invariant.0 c.requires c.tally_inside-dirs.result.0 c.tally_inside-dirs.result.1 c.ended_below-files.result.0 c.ended_below-files.result.1 c.tally_inside-dirs.ensures.dirs c.tally_inside-dirs.ensures.whiteouts c.ended_below-files.ensures.inodes c.ended_below-files.ensures.blocks in
    omega (arith, is.blocks_are)

pub returns-clause-inodes : goal.returns-clause-inodes
returns-clause-inodes c =
    let is = tree_left c.args.self.now c.self.inside.table c.self.view_is c.args.path.now c.names.result.now c.names.ensures.names c.names-2.result.now c.names-2.ensures.names c.self.inside.totals c.self.invariant.0 c.requires c.tally_inside-dirs.result.0 c.tally_inside-dirs.result.1 c.ended_below-files.result.0 c.ended_below-files.result.1 c.tally_inside-dirs.ensures.dirs c.tally_inside-dirs.ensures.whiteouts c.ended_below-files.ensures.inodes c.ended_below-files.ensures.blocks in
    omega (arith, is.inodes_are)

pub returns-clause-blocks : goal.returns-clause-blocks
returns-clause-blocks c =
    let is = tree_left c.args.self.now c.self.inside.table c.self.view_is c.args.path.now c.names.result.now c.names.ensures.names c.names-2.result.now c.names-2.ensures.names c.self.inside.totals c.self.invariant.0 c.requires c.tally_inside-dirs.result.0 c.tally_inside-dirs.result.1 c.ended_below-files.result.0 c.ended_below-files.result.1 c.tally_inside-dirs.ensures.dirs c.tally_inside-dirs.ensures.whiteouts c.ended_below-files.ensures.inodes c.ended_below-files.ensures.blocks in
    omega (arith, is.blocks_are)

pub returns-clause-fewer : goal.returns-clause-fewer
returns-clause-fewer c =
    let is = tree_left c.args.self.now c.self.inside.table c.self.view_is c.args.path.now c.names.result.now c.names.ensures.names c.names-2.result.now c.names-2.ensures.names c.self.inside.totals c.self.invariant.0 c.requires c.tally_inside-dirs.result.0 c.tally_inside-dirs.result.1 c.ended_below-files.result.0 c.ended_below-files.result.1 c.tally_inside-dirs.ensures.dirs c.tally_inside-dirs.ensures.whiteouts c.ended_below-files.ensures.inodes c.ended_below-files.ensures.blocks in
    omega (arith, is.inodes_are, is.some, is.count)

pub ended_below-files-requires-clause-few : goal.ended_below-files-requires-clause-few
ended_below-files-requires-clause-few c = omega (arith, c.self.invariant.0.paths)
