use Rattle.std.proofs.Common.{sym, subst}
use Rattle.snap_layer.specs.Tree.{IsDirAt}
use Rattle.snap_layer.specs.Walk.{view_of}
use Rattle.snap_layer.proofs.Slots.{on_err_by, reserved, same_trans}
use Rattle.snap_layer.proofs.edit.put_inode.Goals as goal

pub link-requires : goal.link-requires
link-requires c = subst IsDirAt (sym ((reserved c.args.slots.now c.reserve.new.self c.reserve.ensures.rest_kept).nodes c.args.dir)) c.requires.dir

pub returns-in_err-reserve-clause-err : goal.returns-in_err-reserve-clause-err
returns-in_err-reserve-clause-err c = on_err_by c.from_residual.result (reserved c.args.slots.now c.reserve.new.self c.reserve.ensures.rest_kept)

pub returns-in_err-link-clause-err : goal.returns-in_err-link-clause-err
returns-in_err-link-clause-err c = on_err_by c.from_residual-in_err-link.result (same_trans (view_of c.args.slots.now) (view_of c.reserve.new.self) (view_of c.link.new.slots) (reserved c.args.slots.now c.reserve.new.self c.reserve.ensures.rest_kept) c.in_err-link.ensures.err)

pub returns-clause-err : goal.returns-clause-err
returns-clause-err c = tt
