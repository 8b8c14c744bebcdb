use Rattle.std.specs.Prelude.{All, Vec, option_map, slice_get}
use Rattle.std.specs.declared.alloc.Global.{Global}
use Rattle.std.proofs.Common.{◌≡◌, ◌-◌, false, true, Some, ℕ, List, ap, arith, length, subst, sym, ◌∙◌}
use Rattle.snap_tape.specs.Tapes.{SessionValue}
use Rattle.snap_round.specs.declared.rule.Round.{Round}
use Rattle.snap_store.specs.Closing.{HasCause, IsClosedStore}
use Rattle.snap_writers.specs.declared.job.Worked.{Worked}
use Rattle.snap_writers.specs.Jobs.{AreInOrder, AreWorked, HasStoppedWorker}
use Rattle.snap_writers.specs.Starting.{IsCount}
use Rattle.snap_writers.proofs.Reporting.{ends_of_worked, none_stopped, stores, worker_stopped}
use Rattle.snap_writers.proofs.workers.run_jobs.Goals as goal

pub in_order-ends-requires-clause-worked : goal.in_order-ends-requires-clause-worked
in_order-ends-requires-clause-worked g c =
    let S = HasStoppedWorker (g.G.Gate.answers c.args.gate.now) in
    let worked = subst (λ (ws : List Worked). AreWorked S c.args.store.opening.layer_inodes c.args.jobs.now c.args.workers ws) (sym c.as_slice.ensures.value) c.in-Ok-all_worked.ensures in
    (worked.count, ends_of_worked S c.args.jobs.now c.args.workers c.as_slice.result.now worked)

pub returns-in-None-clause-report : goal.returns-in-None-clause-report
returns-in-None-clause-report g c =
    let jobs = c.args.jobs.now in
    let ends = c.in_order-ends.result in
    let order = subst (λ (ws : List Worked). AreInOrder jobs c.args.workers ws ends) c.as_slice.ensures.value c.in_order-ends.ensures in
    let found : IsClosedStore c.args.store c.in-Ok-close.closed c.sessions_of.result.items = record { round = c.in-Ok-close.ensures.round; sessions = c.in-Ok-close.ensures.sessions; settled = c.in-Ok-close.ensures.totals; kept = c.in-Ok-close.ensures.kept } in
    let closed = subst (λ (l : List SessionValue). IsClosedStore c.args.store c.in-Ok-close.closed l) c.sessions_of.ensures found in
    let quiet = subst (λ (ws : List Worked). All (λ w. w.refused ≡ false) ws) c.as_slice-2.ensures.value c.in-None.ensures.none in
    let none = none_stopped (HasStoppedWorker (g.G.Gate.answers c.args.gate.now)) (λ (worker : ℕ). ⊥) jobs c.args.workers c.in-Ok-all_worked.all.items quiet c.in-Ok-all_worked.ensures in
    let all = stores (λ (worker : ℕ). ⊥) jobs c.args.workers c.in-Ok-all_worked.all.items ends c.args.store c.in-Ok-close.closed (omega (arith, c.if-workers-eq0.false)) none order closed in
    record { count = c.in_order-ends.ensures.count; each = all.each; all = c.in-Ok-all_worked.all.items; worked = none; order = order; closed = closed; stored = all.stored; of = all.of; committed = all.committed }

pub returns-in-Some-clause-fault : goal.returns-in-Some-clause-fault
returns-in-Some-clause-fault g c =
    let jobs = c.args.jobs.now in
    let ends = c.in_order-ends.result in
    let S = HasStoppedWorker (g.G.Gate.answers c.args.gate.now) in
    let order = subst (λ (ws : List Worked). AreInOrder jobs c.args.workers ws ends) c.as_slice.ensures.value c.in_order-ends.ensures in
    let found : IsClosedStore c.args.store c.in-Ok-close.closed c.sessions_of.result.items = record { round = c.in-Ok-close.ensures.round; sessions = c.in-Ok-close.ensures.sessions; settled = c.in-Ok-close.ensures.totals; kept = c.in-Ok-close.ensures.kept } in
    let closed = subst (λ (l : List SessionValue). IsClosedStore c.args.store c.in-Ok-close.closed l) c.sessions_of.ensures found in
    let all = stores S jobs c.args.workers c.in-Ok-all_worked.all.items ends c.args.store c.in-Ok-close.closed (omega (arith, c.if-workers-eq0.false)) c.in-Ok-all_worked.ensures order closed in
    let counted : IsCount c.args.workers = (omega (arith, c.if-workers-eq0.false), omega (arith, c.if-workers-gt-MAX_WORKERS.false)) in
    let first = c.in-Some.ensures.some in
    let told = subst (λ (ws : List Worked). option_map (λ w. w.refused) (slice_get ws (c.in-Some.worker - 1)) ≡ Some true) c.as_slice-2.ensures.value first.2 in (
      counted,
      record { count = c.in_order-ends.ensures.count; each = all.each; all = c.in-Ok-all_worked.all.items; worked = c.in-Ok-all_worked.ensures; order = order; closed = closed; stored = all.stored; of = all.of; committed = all.committed },
      first.0,
      omega (arith, first.1, ap length c.as_slice-2.ensures.value, c.in-Ok-all_worked.ensures.count),
      worker_stopped S jobs c.args.workers c.in-Some.worker c.in-Ok-all_worked.all.items first.0 told c.in-Ok-all_worked.ensures,
    )

pub returns-in-Err-close-clause-fault : goal.returns-in-Err-close-clause-fault
returns-in-Err-close-clause-fault g c =
    let counted : IsCount c.args.workers = (omega (arith, c.if-workers-eq0.false), omega (arith, c.if-workers-gt-MAX_WORKERS.false)) in
    let order = subst (λ (ws : List Worked). AreInOrder c.args.jobs.now c.args.workers ws c.in_order-ends.result) c.as_slice.ensures.value c.in_order-ends.ensures in
    let are = ap (λ (v : Vec SessionValue Global). v.items) c.in-Err-close.ensures.returned ∙ c.sessions_of.ensures in (
      counted,
      record { all = c.in-Ok-all_worked.all.items; worked = c.in-Ok-all_worked.ensures; are = are; order = order },
      c.in-Err-close.ensures.same,
      subst (λ (r : Round). HasCause r c.in-Err-close.back.sessions.items c.in-Err-close.back.cause) c.in-Err-close.ensures.same c.in-Err-close.ensures.cause,
    )
