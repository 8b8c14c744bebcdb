use Rattle.std.proofs.Common.{rules}
use Rattle.snap_upper.proofs.Movable.{no_names}
use Rattle.snap_upper.proofs.checks.check_empty.Goals as goal

pub returns-then-not-is_dir-clause-ok : goal.returns-then-not-is_dir-clause-ok
returns-then-not-is_dir-clause-ok c = no_names c.args.stack.now c.args.path.now c.requires.layers (search rules)
