use Rattle.std.proofs.Common.{rules, ap, ◌∙◌}
use Rattle.snap_round.proofs.Halving.{splits_as}
use Rattle.snap_round.proofs.tie.Tie.split.Goals as goal

pub split_seat-seat-requires : goal.split_seat-seat-requires
split_seat-seat-requires g c = (search rules, search rules, splits_as _ _ _ (ap (λ s. s.me.0) c.into_seat-own.ensures ∙ c.self.view_is ∙ c.requires))
