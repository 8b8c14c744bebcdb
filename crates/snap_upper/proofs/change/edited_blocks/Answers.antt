use Rattle.std.proofs.Common.{sym, ap, ◌∙◌, arith}
use Rattle.snap_layer.specs.Counts.{blocks_of}
use Rattle.snap_layer.specs.Contents.{edited}
use Rattle.snap_layer.proofs.Bounds.{content_blocks}
use Rattle.snap_upper.proofs.change.edited_blocks.Goals as goal

pub returns-clause-same : goal.returns-clause-same
returns-clause-same c = c.blocks_of.ensures ∙ ap blocks_of (c.size-after.ensures c.args.old.now (sym c.size-was.ensures) c.requires.short)

pub returns-clause-few : goal.returns-clause-few
returns-clause-few c =
    let same = c.blocks_of.ensures ∙ ap blocks_of (c.size-after.ensures c.args.old.now (sym c.size-was.ensures) c.requires.short) in
    omega (arith, same, content_blocks (edited c.args.edit c.args.old.now) c.requires.fits)
