use Rattle.std.proofs.Common.{sym, ◌∙◌}
use Rattle.snap_copyup.specs.Copying.{below}
use Rattle.snap_copyup.proofs.Wholes.{whole_below}
use Rattle.snap_upper.proofs.LowerCopy.{body_fits}
use Rattle.snap_upper.proofs.names.put_linked_copy.Goals as goal

pub add_linked-requires-clause-fits : goal.add_linked-requires-clause-fits
add_linked-requires-clause-fits c =
    body_fits (below c.args.layer.now c.args.lowers.now c.args.from.now) c.in-Some.body (whole_below c.args.layer.now c.args.lowers.now c.requires.layers c.args.from.now) (sym c.in_ok-body.ensures ∙ c.in-Some.is)
