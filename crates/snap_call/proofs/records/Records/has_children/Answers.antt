use Rattle.std.proofs.Common.{◌∙◌, ap, nat_lt}
use Rattle.snap_lease.proofs.CountLemmas.{is_positive-count_by}
use Rattle.snap_call.specs.Records.{is_child}
use Rattle.snap_call.proofs.records.Records.has_children.Goals as goal

pub returns : goal.returns
returns c = ap (nat_lt 0) c.child_count.ensures ∙ is_positive-count_by (is_child c.args.place c.args.key.now) c.args.self.now
