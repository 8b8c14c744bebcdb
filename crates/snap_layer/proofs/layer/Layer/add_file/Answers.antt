use Rattle.snap_layer.proofs.layer.Layer.add_file.Goals as goal

pub add_body-requires-clause-fits : goal.add_body-requires-clause-fits
add_body-requires-clause-fits c = (c.requires.meta, c.requires.content)

pub returns-clause-ok : goal.returns-clause-ok
returns-clause-ok c = c.add_body.ensures.ok

pub returns-clause-full : goal.returns-clause-full
returns-clause-full c = c.add_body.ensures.full
