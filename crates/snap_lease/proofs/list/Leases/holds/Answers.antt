use Rattle.std.proofs.Common.{◌∙◌, ap, nat_lt}
use Rattle.snap_lease.proofs.CountLemmas.{is_positive-count_by}
use Rattle.snap_lease.proofs.list.Leases.holds.Goals as goal

pub returns-clause-value : goal.returns-clause-value
returns-clause-value c = ap (nat_lt 0) c.count.ensures.value ∙ is_positive-count_by _ c.args.self.now
