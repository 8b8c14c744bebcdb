use Rattle.std.proofs.Common.{rules, ap, ◌∙◌}
use Rattle.snap_round.proofs.Halving.{joins_as, checks_as}
use Rattle.snap_round.proofs.tie.Tie.join.Goals as goal

pub join_seat-requires : goal.join_seat-requires
join_seat-requires g c =
    let own = ap (λ s. s.me.0) c.into_seat-own.ensures ∙ c.self.view_is ∙ c.requires.outer in
    (search rules, search rules, search rules, search rules, joins_as _ _ _ _ _ _ own (c.half.view_is ∙ c.requires.inner))

pub load-requires : goal.load-requires
load-requires g c = (search rules, search rules, checks_as _ _ _ _)
