use Rattle.snap_script.proofs.Words.{looked_up}
use Rattle.snap_script.proofs.verb.verb_of.Goals as goal

pub loop-table-init : goal.loop-table-init
loop-table-init c = looked_up c.args.word.now
