use Rattle.std.proofs.Common.{ℕ, List, Some, subst}
use Rattle.snap_c.specs.Run.{Given, options_of}
use Rattle.snap_c.proofs.RunLaws.{ran}
use Rattle.snap_c.proofs.pibroulez_run.Goals as goal

pub returns : goal.returns
returns c =
    let ended = c.replay-ended.result in
    let text = c.replay-ended.new.output.items in
    let run = ran c.options_of.result (options_of c.args.strict c.args.stop) c.args.script.now (Some c.replay-ended.new.input.now) ended c.new-output.result.items text c.options_of.ensures c.new-output.ensures.items c.replay-ended.ensures.done c.replay-ended.ensures.stopped in
    let given = subst (λ (t : List ℕ). Given ended t c.give.result c.give.new.line c.give.new.written c.args.answers.now c.give.new.answers) c.as_slice.ensures.value c.give.ensures in
    (ended, text, run, given)
