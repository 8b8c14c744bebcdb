use Rattle.std.proofs.Common.{sym, ap, ◌∙◌}
use Rattle.snap_upper.specs.declared.op.Op.TheVariants as op
use Rattle.snap_upper.specs.After.{limited, next_layer}
use Rattle.snap_upper.proofs.Outcomes.{limited_fits, layer_fits, refused}
use Rattle.snap_upper.proofs.names.link.Goals as goal

pub returns-in-Err-clause-error : goal.returns-in-Err-clause-error
returns-in-Err-clause-error c = refused (next_layer (op.Link c.args.from.now c.args.to.now) c.args.layer.now c.args.lowers.now) c.in-Err.error c.in-Err.ensures.error

pub returns-clause-ok : goal.returns-clause-ok
returns-clause-ok c =
    let next = c.add_link.new.layer in
    ap limited (sym c.in_default.ensures.ok) ∙ limited_fits next (layer_fits next c.in_default.ensures.layer)
