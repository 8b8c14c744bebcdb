use Rattle.std.proofs.Common.{rules, eqb, sym, ap, ◌∙◌}
use prog.Atomic.{either}
use Rattle.atomic_table.specs.Table.{Me}
use Rattle.snap_ledger.specs.declared.rule.Holding.{Holding}
use Rattle.snap_ledger.specs.declared.rule.HalfView.{HalfView}
use Rattle.snap_ledger.specs.Halves.{whole}
use Rattle.snap_ledger.specs.States.{ChargeState, ShareState}
use Rattle.snap_ledger.proofs.Steps.{takes_share_as, checks, meets, gives_nothing, sets_as, gives_share_as}
use Rattle.snap_ledger.proofs.halves.Charge.set.Goals as goal

pub split_seat-empty-requires : goal.split_seat-empty-requires
split_seat-empty-requires g c = (search rules, search rules, gives_nothing _ _)

pub join_seat-requires : goal.join_seat-requires
join_seat-requires g c =
    let i = c.self.invariant in
    let j = c.share.invariant in
    let me = c.split_seat-empty.ensures.2 ∙ i.3 in
    let them = ap (λ s. s.me) c.replace-seat.ensures.value ∙ j.1 in
    let same = ap (λ (s : ShareState). s.slot) c.share.view_is ∙ c.requires.slot ∙ sym (ap (λ (s : ChargeState). s.slot) c.self.view_is) in
    (search rules, search rules, search rules, search rules, takes_share_as _ _ _ _ _ _ _ _ _ me them same)

pub load-requires : goal.load-requires
load-requires g c = (search rules, search rules, checks _ _ _ _ _)

pub compare_exchange_with-requires : goal.compare_exchange_with-requires
compare_exchange_with-requires g c =
    let me = c.split_seat-empty.ensures.2 ∙ c.self.invariant.3 in
    let them = ap (λ s. s.me) c.replace-seat.ensures.value ∙ c.share.invariant.1 in
    let met = meets _ _ _ _ _ _ _ _ me them c.join_seat.ensures.2 c.load.ensures.2.1 in
    (search rules, search rules, sets_as _ _ _ _ _ (record { id = c.self.inside.holding.id; usage = c.args.to }) 0 1 1 (λ n. either (eqb n 1) 1 n) (c.load.ensures.2.0 ∙ met.2))

pub split_seat-requires : goal.split_seat-requires
split_seat-requires g c =
    let me = c.split_seat-empty.ensures.2 ∙ c.self.invariant.3 in
    let them = ap (λ s. s.me) c.replace-seat.ensures.value ∙ c.share.invariant.1 in
    let met = meets _ _ _ _ _ _ _ _ me them c.join_seat.ensures.2 c.load.ensures.2.1 in
    let now = c.compare_exchange_with.ensures.2 ∙ ap (λ (m : Me Holding HalfView). (whole m.0.slot (record { id = c.self.inside.holding.id; usage = c.args.to }), m.1)) (c.load.ensures.2.0 ∙ met.2) in
    (search rules, search rules, gives_share_as _ _ _ _ now)
