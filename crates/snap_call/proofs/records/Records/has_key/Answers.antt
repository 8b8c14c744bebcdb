use Rattle.std.proofs.Common.{◌∙◌}
use Rattle.snap_call.proofs.Indexed.{has_key-found}
use Rattle.snap_call.proofs.records.Records.has_key.Goals as goal

pub returns : goal.returns
returns c = c.is_some.ensures ∙ has_key-found c.args.place c.args.key.now c.args.self.now c.record_at.result c.record_at.ensures
