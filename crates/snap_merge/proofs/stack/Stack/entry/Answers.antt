use Rattle.snap_merge.proofs.Named.{no_text_seen}
use Rattle.snap_merge.proofs.stack.Stack.entry.Goals as goal

pub returns-in-Err-clause-ok : goal.returns-in-Err-clause-ok
returns-in-Err-clause-ok c = no_text_seen c.args.self.now c.show_are_layers.ensures c.args.directory.now c.args.word.now c.in-Err.ensures.cases.0
