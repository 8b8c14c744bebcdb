use Rattle.std.proofs.Common.{sym, ◌∙◌}
use Rattle.snap_record.proofs.UpdateLemmas.{among-named}
use Rattle.snap_record.proofs.update.is_named.Goals as goal

pub returns : goal.returns
returns c = c.any_names.ensures ∙ sym (among-named c.args.key.now c.args.paths.now)
