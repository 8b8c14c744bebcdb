use Rattle.std.proofs.Common.{Option, take, ap, ◌∙◌, arith, subst}
use Rattle.std.specs.Prelude.{is_some, option_and_then, if◌then◌else◌}
use Rattle.snap_layer.specs.declared.node.Node.{Node}
use Rattle.snap_layer.specs.Tree.{number_of}
use Rattle.snap_layer.proofs.Totaling.{left_is, fewer_inodes, paths_left}
use Rattle.snap_layer.specs.Layers.{IsLayer}
use Rattle.snap_layer.proofs.layer.Layer.left_front.Goals as goal

pub overflow_sub-result : goal.overflow_sub-result
overflow_sub-result c =
    let is = left_is c.args.self.now c.self.inside.table c.self.view_is (take c.args.front c.args.path.now) (take c.args.front c.names.result.now) (ap (take c.args.front) c.names.ensures.names) c.self.inside.totals c.self.invariant.0 c.tally_inside-dirs.result.0 c.tally_inside-dirs.result.1 c.last_body-files.result.0 c.last_body-files.result.1 c.tally_inside-dirs.ensures.dirs c.tally_inside-dirs.ensures.whiteouts c.last_body-files.ensures.inodes c.last_body-files.ensures.blocks in
    omega (arith, is.inodes_are)

pub overflow_sub-result-2 : goal.overflow_sub-result-2
overflow_sub-result-2 c =
    let is = left_is c.args.self.now c.self.inside.table c.self.view_is (take c.args.front c.args.path.now) (take c.args.front c.names.result.now) (ap (take c.args.front) c.names.ensures.names) c.self.inside.totals c.self.invariant.0 c.tally_inside-dirs.result.0 c.tally_inside-dirs.result.1 c.last_body-files.result.0 c.last_body-files.result.1 c.tally_inside-dirs.ensures.dirs c.tally_inside-dirs.ensures.whiteouts c.last_body-files.ensures.inodes c.last_body-files.ensures.blocks in
    omega (arith, is.inodes_are)

pub overflow_sub-result-3 : goal.overflow_sub-result-3
overflow_sub-result-3 c =
    let is = left_is c.args.self.now c.self.inside.table c.self.view_is (take c.args.front c.args.path.now) (take c.args.front c.names.result.now) (ap (take c.args.front) c.names.ensures.names) c.self.inside.totals c.self.invariant.0 c.tally_inside-dirs.result.0 c.tally_inside-dirs.result.1 c.last_body-files.result.0 c.last_body-files.result.1 c.tally_inside-dirs.ensures.dirs c.tally_inside-dirs.ensures.whiteouts c.last_body-files.ensures.inodes c.last_body-files.ensures.blocks in
    omega (arith, is.inodes_are)

pub overflow_sub-result-4 : goal.overflow_sub-result-4
overflow_sub-result-4 c =
    let is = left_is c.args.self.now c.self.inside.table c.self.view_is (take c.args.front c.args.path.now) (take c.args.front c.names.result.now) (ap (take c.args.front) c.names.ensures.names) c.self.inside.totals c.self.invariant.0 c.tally_inside-dirs.result.0 c.tally_inside-dirs.result.1 c.last_body-files.result.0 c.last_body-files.result.1 c.tally_inside-dirs.ensures.dirs c.tally_inside-dirs.ensures.whiteouts c.last_body-files.ensures.inodes c.last_body-files.ensures.blocks in
    omega (arith, is.blocks_are)

pub overflow_sub-result-5 : goal.overflow_sub-result-5
overflow_sub-result-5 c =
    let is = left_is c.args.self.now c.self.inside.table c.self.view_is (take c.args.front c.args.path.now) (take c.args.front c.names.result.now) (ap (take c.args.front) c.names.ensures.names) c.self.inside.totals c.self.invariant.0 c.tally_inside-dirs.result.0 c.tally_inside-dirs.result.1 c.last_body-files.result.0 c.last_body-files.result.1 c.tally_inside-dirs.ensures.dirs c.tally_inside-dirs.ensures.whiteouts c.last_body-files.ensures.inodes c.last_body-files.ensures.blocks in
    omega (arith, is.blocks_are)

pub returns-clause-inodes : goal.returns-clause-inodes
returns-clause-inodes c =
    let is = left_is c.args.self.now c.self.inside.table c.self.view_is (take c.args.front c.args.path.now) (take c.args.front c.names.result.now) (ap (take c.args.front) c.names.ensures.names) c.self.inside.totals c.self.invariant.0 c.tally_inside-dirs.result.0 c.tally_inside-dirs.result.1 c.last_body-files.result.0 c.last_body-files.result.1 c.tally_inside-dirs.ensures.dirs c.tally_inside-dirs.ensures.whiteouts c.last_body-files.ensures.inodes c.last_body-files.ensures.blocks in
    omega (arith, is.inodes_are)

pub returns-clause-blocks : goal.returns-clause-blocks
returns-clause-blocks c =
    let is = left_is c.args.self.now c.self.inside.table c.self.view_is (take c.args.front c.args.path.now) (take c.args.front c.names.result.now) (ap (take c.args.front) c.names.ensures.names) c.self.inside.totals c.self.invariant.0 c.tally_inside-dirs.result.0 c.tally_inside-dirs.result.1 c.last_body-files.result.0 c.last_body-files.result.1 c.tally_inside-dirs.ensures.dirs c.tally_inside-dirs.ensures.whiteouts c.last_body-files.ensures.inodes c.last_body-files.ensures.blocks in
    omega (arith, is.blocks_are)

pub returns-clause-few : goal.returns-clause-few
returns-clause-few c =
    let is = left_is c.args.self.now c.self.inside.table c.self.view_is (take c.args.front c.args.path.now) (take c.args.front c.names.result.now) (ap (take c.args.front) c.names.ensures.names) c.self.inside.totals c.self.invariant.0 c.tally_inside-dirs.result.0 c.tally_inside-dirs.result.1 c.last_body-files.result.0 c.last_body-files.result.1 c.tally_inside-dirs.ensures.dirs c.tally_inside-dirs.ensures.whiteouts c.last_body-files.ensures.inodes c.last_body-files.ensures.blocks in
    omega (arith, is.inodes_are, fewer_inodes c.args.self.now (subst IsLayer c.self.view_is c.self.invariant.1) (take c.args.front c.args.path.now))

pub overflow_sub-result-6 : goal.overflow_sub-result-6
overflow_sub-result-6 c =
    let is = paths_left c.args.self.now c.self.inside.table c.self.view_is (subst IsLayer c.self.view_is c.self.invariant.1) (take c.args.front c.args.path.now) (take c.args.front c.names.result.now) (ap (take c.args.front) c.names.ensures.names) c.self.inside.totals c.self.invariant.0 c.tally_inside-dirs.result.0 c.tally_inside-dirs.result.1 c.names_in-names.result c.tally_inside-dirs.ensures.dirs c.tally_inside-dirs.ensures.whiteouts (c.names_in-names.ensures ∙ ap (λ (o : Option Node). if is_some (option_and_then number_of o) then 1 else 0) c.at_front-node.ensures) in
    omega (arith, is.fit)

pub overflow_sub-result-7 : goal.overflow_sub-result-7
overflow_sub-result-7 c =
    let is = paths_left c.args.self.now c.self.inside.table c.self.view_is (subst IsLayer c.self.view_is c.self.invariant.1) (take c.args.front c.args.path.now) (take c.args.front c.names.result.now) (ap (take c.args.front) c.names.ensures.names) c.self.inside.totals c.self.invariant.0 c.tally_inside-dirs.result.0 c.tally_inside-dirs.result.1 c.names_in-names.result c.tally_inside-dirs.ensures.dirs c.tally_inside-dirs.ensures.whiteouts (c.names_in-names.ensures ∙ ap (λ (o : Option Node). if is_some (option_and_then number_of o) then 1 else 0) c.at_front-node.ensures) in
    omega (arith, is.fit)

pub overflow_sub-result-8 : goal.overflow_sub-result-8
overflow_sub-result-8 c =
    let is = paths_left c.args.self.now c.self.inside.table c.self.view_is (subst IsLayer c.self.view_is c.self.invariant.1) (take c.args.front c.args.path.now) (take c.args.front c.names.result.now) (ap (take c.args.front) c.names.ensures.names) c.self.inside.totals c.self.invariant.0 c.tally_inside-dirs.result.0 c.tally_inside-dirs.result.1 c.names_in-names.result c.tally_inside-dirs.ensures.dirs c.tally_inside-dirs.ensures.whiteouts (c.names_in-names.ensures ∙ ap (λ (o : Option Node). if is_some (option_and_then number_of o) then 1 else 0) c.at_front-node.ensures) in
    omega (arith, is.fit)

pub returns-clause-paths : goal.returns-clause-paths
returns-clause-paths c =
    let is = paths_left c.args.self.now c.self.inside.table c.self.view_is (subst IsLayer c.self.view_is c.self.invariant.1) (take c.args.front c.args.path.now) (take c.args.front c.names.result.now) (ap (take c.args.front) c.names.ensures.names) c.self.inside.totals c.self.invariant.0 c.tally_inside-dirs.result.0 c.tally_inside-dirs.result.1 c.names_in-names.result c.tally_inside-dirs.ensures.dirs c.tally_inside-dirs.ensures.whiteouts (c.names_in-names.ensures ∙ ap (λ (o : Option Node). if is_some (option_and_then number_of o) then 1 else 0) c.at_front-node.ensures) in
    omega (arith, is.paths_are c.requires.clear)
