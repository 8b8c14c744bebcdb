use Rattle.test_stores.proofs.FirstLayer.{true_is}
use Rattle.test_stores.proofs.FirstTape.{three_of}
use Rattle.test_stores.proofs.first_example.are_run.Goals as goal

pub returns-clause-at : goal.returns-clause-at
returns-clause-at g c told = (three_of c.args.active.now.share.slot c.args.active.now.share.id c.args.session.now c.is_run.new.session c.is_run-2.new.session c.is_run-3.new.session c.args.active.now c.is_run.new.active c.is_run-2.new.active c.is_run-3.new.active
    c.args.mkdir.now c.args.create.now c.args.write.now c.requires.ops.0 c.requires.ops.1 c.requires.ops.2 c.requires.at
    (c.is_run.ensures.run (true_is c.is_run.result c.if-not-is_run.false))
    (c.is_run-2.ensures.run (true_is c.is_run-2.result c.if-not-is_run-2.false))
    (c.is_run-3.ensures.run told)).0

pub returns-clause-number : goal.returns-clause-number
returns-clause-number g c told = (three_of c.args.active.now.share.slot c.args.active.now.share.id c.args.session.now c.is_run.new.session c.is_run-2.new.session c.is_run-3.new.session c.args.active.now c.is_run.new.active c.is_run-2.new.active c.is_run-3.new.active
    c.args.mkdir.now c.args.create.now c.args.write.now c.requires.ops.0 c.requires.ops.1 c.requires.ops.2 c.requires.at
    (c.is_run.ensures.run (true_is c.is_run.result c.if-not-is_run.false))
    (c.is_run-2.ensures.run (true_is c.is_run-2.result c.if-not-is_run-2.false))
    (c.is_run-3.ensures.run told)).1

pub returns-clause-tape : goal.returns-clause-tape
returns-clause-tape g c told = (three_of c.args.active.now.share.slot c.args.active.now.share.id c.args.session.now c.is_run.new.session c.is_run-2.new.session c.is_run-3.new.session c.args.active.now c.is_run.new.active c.is_run-2.new.active c.is_run-3.new.active
    c.args.mkdir.now c.args.create.now c.args.write.now c.requires.ops.0 c.requires.ops.1 c.requires.ops.2 c.requires.at
    (c.is_run.ensures.run (true_is c.is_run.result c.if-not-is_run.false))
    (c.is_run-2.ensures.run (true_is c.is_run-2.result c.if-not-is_run-2.false))
    (c.is_run-3.ensures.run told)).2
