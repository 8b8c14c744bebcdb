use Rattle.std.proofs.Common.{rules, eqb, ap, ◌∙◌}
use prog.Atomic.{either}
use Rattle.snap_round.proofs.Halving.{sets_as}
use Rattle.snap_round.proofs.tie.Tie.begin.Goals as goal

pub compare_exchange-requires : goal.compare_exchange-requires
compare_exchange-requires g c =
    (search rules, search rules, sets_as _ _ _ _ _ 0 1 1 (λ n. either (eqb n 1) 1 n) (ap (λ s. s.me.0) c.into_seat-seat.ensures ∙ c.self.view_is ∙ c.requires))
