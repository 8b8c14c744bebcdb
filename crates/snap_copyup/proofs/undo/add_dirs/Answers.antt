use Rattle.std.proofs.Common.{sym}
use Rattle.snap_copyup.proofs.Undoing.{parents_there}
use Rattle.snap_copyup.proofs.undo.add_dirs.Goals as goal

pub returns-then-has_parent-clause-ok : goal.returns-then-has_parent-clause-ok
returns-then-has_parent-clause-ok c = sym (parents_there c.args.layer.now c.args.lowers.now c.args.path.now c.alloc.ensures.layer (c.has_parent.ensures.parent.0 c.if-has_parent.true))
