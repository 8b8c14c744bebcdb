use Rattle.std.proofs.Common.{sym}
use Rattle.snap_usage.proofs.Joined.{count_of-IsLayer}
use Rattle.snap_usage.proofs.usage.count.Goals as goal

pub returns-clause-count : goal.returns-clause-count
returns-clause-count c =
    let joined = sym (count_of-IsLayer c.args.layer.now c.blocks-2.ensures.layer) in
    cc
