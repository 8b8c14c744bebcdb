use Rattle.std.proofs.Common.{Some, None, inl, inr, codes, subst, ap, sym, arith, option_map}
use Rattle.clap.specs.Words.{found_of, one_of, rows_of}
use Rattle.clap.proofs.WalkLemmas.{one_text-rows}
use Rattle.snap_replay.specs.declared.Task.TheVariants.{Writers}
use Rattle.snap_jobs.specs.declared.run.JobOptions.{JobOptions}
use Rattle.snap_replay.specs.Words.{IsNumberOf}
use Rattle.snap_replay.proofs.Asking.{outside, read_number, taken}
use Rattle.snap_replay.proofs.job_options.Goals as goal
use Rattle.snap_replay.proofs.job_options.Goals.{then-workers-lt1-via-then-workers-lt1, then-workers-lt1-via-else-workers-lt1+then-workers-gt-MAX_WORKERS}

pub returns-in_err-workers : goal.returns-in_err-workers
returns-in_err-workers c =
    let f = found_of c.args.words.now in
    let read = subst (λ o. IsNumberOf o c.get_one.result) (one_text-rows f (codes "workers")) (read_number _ c.get_one.result c.get_one.ensures.none c.get_one.ensures.value) in
    (None, (subst (IsNumberOf (one_of (codes "workers") (rows_of f))) c.in_err-workers.was read, ap (option_map (λ (o : JobOptions). Writers o)) c.from_residual.ensures))

pub returns-then-workers-lt1 : goal.returns-then-workers-lt1
returns-then-workers-lt1 c =
    let f = found_of c.args.words.now in
    let read = subst (λ o. IsNumberOf o c.get_one.result) (one_text-rows f (codes "workers")) (read_number _ c.get_one.result c.get_one.ensures.none c.get_one.ensures.value) in
    let n = c.in_ok-workers.workers in (
      Some n,
      (
        subst (IsNumberOf (one_of (codes "workers") (rows_of f))) c.in_ok-workers.was read,
        elim c.then-workers-lt1.branch [
          | then-workers-lt1-via-then-workers-lt1 w ↦ sym (outside n (rows_of f) (inl w.if-workers-lt1.true))
          | then-workers-lt1-via-else-workers-lt1+then-workers-gt-MAX_WORKERS w ↦ sym (outside n (rows_of f) (inr w.if-workers-gt-MAX_WORKERS.true))
        ],
      ),
    )

pub returns : goal.returns
returns c =
    let f = found_of c.args.words.now in
    let read = subst (λ o. IsNumberOf o c.get_one.result) (one_text-rows f (codes "workers")) (read_number _ c.get_one.result c.get_one.ensures.none c.get_one.ensures.value) in
    let n = c.in_ok-workers.workers in
    (Some n, (subst (IsNumberOf (one_of (codes "workers") (rows_of f))) c.in_ok-workers.was read, taken n (rows_of f) c.is_given.result c.field_rule.result c.is_given.ensures c.field_rule.ensures (omega (arith, c.if-workers-lt1.false)) (omega (arith, c.if-workers-gt-MAX_WORKERS.false))))
