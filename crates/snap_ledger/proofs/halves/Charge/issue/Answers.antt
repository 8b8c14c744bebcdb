use Rattle.std.proofs.Common.{rules, eqb, ap, ◌∙◌}
use prog.Atomic.{either}
use Rattle.atomic_table.specs.Table.{Me}
use Rattle.snap_ledger.specs.declared.rule.HalfView.{HalfView}
use Rattle.snap_ledger.specs.declared.rule.Holding.{Holding}
use Rattle.snap_ledger.specs.Halves.{whole}
use Rattle.snap_ledger.specs.States.{ChargeState}
use Rattle.snap_ledger.proofs.Steps.{holds_nothing, unissued, sets_as, gives_share_as}
use Rattle.snap_ledger.proofs.halves.Charge.issue.Goals as goal

pub compare_exchange_with-requires : goal.compare_exchange_with-requires
compare_exchange_with-requires g c =
    let i = c.self.invariant in
    let free = holds_nothing _ _ i.4 (ap (λ (s : ChargeState). s.usage) c.self.view_is ∙ c.requires.free) in
    (search rules, search rules, sets_as _ _ _ _ _ (record { id = c.args.id; usage = c.args.first }) 0 1 1 (λ n. either (eqb n 1) 1 n) (unissued _ _ _ _ i.3 free))

pub split_seat-seat-requires : goal.split_seat-seat-requires
split_seat-seat-requires g c =
    let i = c.self.invariant in
    let free = holds_nothing _ _ i.4 (ap (λ (s : ChargeState). s.usage) c.self.view_is ∙ c.requires.free) in
    let now = c.compare_exchange_with.ensures.2 ∙ ap (λ (m : Me Holding HalfView). (whole m.0.slot (record { id = c.args.id; usage = c.args.first }), m.1)) (unissued _ _ _ _ i.3 free) in
    (search rules, search rules, gives_share_as _ _ _ _ now)
