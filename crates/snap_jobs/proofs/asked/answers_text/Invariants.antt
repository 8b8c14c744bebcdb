use Rattle.std.proofs.Common.{◌≡◌, take, string_bytes}
use Rattle.snap_jobs.specs.Asked.{answers_text}
use Rattle.snap_jobs.proofs.asked.answers_text.Given as goal

abbrev pub invariant-loop-asked : goal.invariant-loop-asked
invariant-loop-asked g l = string_bytes l.text ≡ answers_text l.rule l.closed.state (take l.asked-index l.questions)
