use Rattle.std.proofs.Common.{◌∙◌}
use Rattle.snap_script.proofs.Words.{found}
use Rattle.snap_script.proofs.verb.near_command.Goals as goal

pub returns : goal.returns
returns c = c.near_entry.ensures ∙ found c.args.word.now
