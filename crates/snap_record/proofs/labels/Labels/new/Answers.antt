use Rattle.std.proofs.Common.{subst, sym}
use Rattle.snap_record.specs.Labels.{HasDistinctKeys}
use Rattle.snap_record.proofs.LabelLemmas.{distinct-none}
use Rattle.snap_record.proofs.labels.Labels.new.Goals as goal

pub invariant_of-result : goal.invariant_of-result
invariant_of-result c = subst HasDistinctKeys (sym c.new.ensures.items) distinct-none
