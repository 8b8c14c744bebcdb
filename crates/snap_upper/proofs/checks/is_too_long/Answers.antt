use Rattle.snap_upper.proofs.Movable.{long_test}
use Rattle.snap_upper.proofs.checks.is_too_long.Goals as goal

pub returns : goal.returns
returns c = long_test c.args.layer.now c.args.from.now c.args.to.now c.has_short_paths.result c.requires.layer c.has_short_paths.ensures.0 c.has_short_paths.ensures.1
