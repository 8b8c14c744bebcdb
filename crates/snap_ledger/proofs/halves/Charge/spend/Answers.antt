use Rattle.std.proofs.Common.{rules, eqb, sym, ap, ◌∙◌}
use prog.Atomic.{either}
use Rattle.snap_ledger.specs.States.{ChargeState, ShareState}
use Rattle.snap_ledger.proofs.Steps.{takes_share_as, checks, meets, sets_as}
use Rattle.snap_ledger.proofs.halves.Charge.spend.Goals as goal

pub join_seat-requires : goal.join_seat-requires
join_seat-requires g c =
    let i = c.self.invariant in
    let j = c.share.invariant in
    let same = ap (λ (s : ShareState). s.slot) c.share.view_is ∙ c.requires ∙ sym (ap (λ (s : ChargeState). s.slot) c.self.view_is) in
    (search rules, search rules, search rules, search rules, takes_share_as _ _ _ _ _ _ _ _ _ i.3 j.1 same)

pub load-requires : goal.load-requires
load-requires g c = (search rules, search rules, checks _ _ _ _ _)

pub compare_exchange_with-requires : goal.compare_exchange_with-requires
compare_exchange_with-requires g c =
    let met = meets _ _ _ _ _ _ _ _ c.self.invariant.3 c.share.invariant.1 c.join_seat.ensures.2 c.load.ensures.2.1 in
    (search rules, search rules, sets_as _ _ _ _ _ c.none-none.result 0 1 1 (λ n. either (eqb n 1) 1 n) (c.load.ensures.2.0 ∙ met.2))
