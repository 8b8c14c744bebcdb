use Rattle.std.proofs.lemmas.Bool.Decides.{Decides-at}
use Rattle.std.specs.Cmp.Lexicographic.{pointwise_decides}
use Rattle.snap_call.proofs.Equal.{label_filter_decides}
use Rattle.snap_call.proofs.same.is_same_label_filters.Goals as goal

pub returns : goal.returns
returns c = Decides-at c.eq.result _ c.eq.ensures (pointwise_decides label_filter_decides c.args.a.now c.args.b.now)
