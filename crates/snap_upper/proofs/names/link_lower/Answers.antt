use Rattle.std.proofs.Common.{sym, subst}
use Rattle.snap_layer.specs.Tree.{Tree}
use Rattle.snap_layer.specs.Edits.{HasRooms}
use Rattle.snap_copyup.specs.Copying.{with_parents}
use Rattle.snap_copyup.proofs.Wholes.{IfErr-refused}
use Rattle.snap_upper.specs.declared.op.Op.TheVariants as op
use Rattle.snap_upper.specs.After.{next_layer}
use Rattle.snap_upper.proofs.LowerLink.{link_full, link_made, link_refused, link_rooms, link_way_from, link_way_to}
use Rattle.snap_upper.proofs.names.link_lower.Goals as goal

pub add_dirs_of_both-requires-clause-one : goal.add_dirs_of_both-requires-clause-one
add_dirs_of_both-requires-clause-one c = link_way_from c.args.layer.now c.args.lowers.now c.args.from.now c.args.to.now c.requires.layer c.requires.layers c.requires.passes c.requires.lower

pub add_dirs_of_both-requires-clause-other : goal.add_dirs_of_both-requires-clause-other
add_dirs_of_both-requires-clause-other c = link_way_to c.args.layer.now c.args.lowers.now c.args.from.now c.args.to.now c.requires.layer c.requires.layers c.requires.passes c.requires.lower

pub returns-in_err-above_from-clause-error : goal.returns-in_err-above_from-clause-error
returns-in_err-above_from-clause-error c =
    let u = c.args.layer.now in
    let ls = c.args.lowers.now in
    let from = c.args.from.now in
    let to = c.args.to.now in
    IfErr-refused c.from_residual.result c.in_err-above_from.field-0.0 (with_parents (with_parents u ls from) ls to) (next_layer (op.Link from to) u ls) c.from_residual.ensures.1
    (link_full u ls from to c.requires.layer c.requires.layers c.requires.passes c.requires.lower) c.in_err-above_from.ensures.error

pub put_linked_copy-requires-clause-rooms : goal.put_linked_copy-requires-clause-rooms
put_linked_copy-requires-clause-rooms c =
    subst (λ (t : Tree). HasRooms t c.args.from.now c.args.to.now) (sym c.in_ok-above_from.ensures.ok)
    (link_rooms c.args.layer.now c.args.lowers.now c.args.from.now c.args.to.now c.requires.layer c.requires.layers c.requires.passes c.requires.lower)

pub returns-in-Err-clause-error : goal.returns-in-Err-clause-error
returns-in-Err-clause-error c =
    link_refused c.args.layer.now c.args.lowers.now c.args.from.now c.args.to.now c.requires.layer c.requires.layers c.requires.passes c.requires.lower c.add_dirs_of_both.new.layer c.in_ok-above_from.ensures.ok c.in-Err.error c.in-Err.ensures.error

pub returns-clause-ok : goal.returns-clause-ok
returns-clause-ok c =
    link_made c.args.layer.now c.args.lowers.now c.args.from.now c.args.to.now c.requires.layer c.requires.layers c.requires.passes c.requires.lower c.add_dirs_of_both.new.layer c.in_ok-above_from.ensures.ok c.put_linked_copy.new.layer c.in_default.ensures.ok
