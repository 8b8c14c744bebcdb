use Rattle.std.proofs.Common.{◌≡◌, ◌∙◌, ◌+◌, ◌-◌, ◌<◌, ◌≤◌, ◌++◌, List, ℕ, length, take, drop, ap, sym, arith}
use Rattle.std.proofs.lemmas.Result.{on_ok_weaker}
use Rattle.sqlite_disk.specs.Disk.{Holds}
use Rattle.snap_log.specs.Parts.{staged_text}
use Rattle.snap_log.proofs.GateLaws.{durable_torn}
use Rattle.snap_log.proofs.StageLaws.{before, first, first_there, more}
use Rattle.snap_log.proofs.stage.write_next.Goals as goal

-- the first lines
pub returns-then-staged-eq0-clause-kept : goal.returns-then-staged-eq0-clause-kept
returns-then-staged-eq0-clause-kept g c = λ text end is. durable_torn text _ _ _ _ _ _ (omega arith) is c.write_at.ensures.others c.write_at.ensures.crash

pub returns-then-staged-eq0-clause-staged : goal.returns-then-staged-eq0-clause-staged
returns-then-staged-eq0-clause-staged g c = λ gate long.
    let lines : List ℕ = c.args.lines.now in
    let end : ℕ = c.args.end in
    let old : List ℕ = g.D.Disk.seen c.args.disk.now in
    let new : List ℕ = g.D.Disk.seen c.write_at.new.self in
    let none : c.args.staged ≡ 0 = omega arith in
    let all : c.args.staged + length lines ≡ length lines = omega arith in
    let rest : List ℕ = take (length lines - 1) (drop 1 lines) in
    on_ok_weaker _ (λ holds.
    let there : end + 1 + length rest ≤ length new = first_there new rest end (omega (arith, c.write_at.ensures.others.no_shorter)) holds in (
      ap (λ (k : ℕ). staged_text new end k) all ∙ first new lines end c.requires.some c.requires.lines holds ∙ sym (ap (λ (s : ℕ). staged_text old end s ++ lines) none),
      omega (arith, there),
    )) c.write_at.ensures.written

-- lines behind others
pub returns-else-staged-eq0-clause-kept : goal.returns-else-staged-eq0-clause-kept
returns-else-staged-eq0-clause-kept g c = λ text end is. durable_torn text _ _ _ _ _ _ (omega arith) is c.write_at-else-staged-eq0.ensures.others c.write_at-else-staged-eq0.ensures.crash

pub returns-else-staged-eq0-clause-before : goal.returns-else-staged-eq0-clause-before
returns-else-staged-eq0-clause-before g c = λ gate long.
    (before _ _ c.args.end c.args.staged _ _ (omega arith) (omega arith) gate long c.write_at-else-staged-eq0.ensures.others, omega (arith, long, c.write_at-else-staged-eq0.ensures.others.no_shorter))

pub returns-else-staged-eq0-clause-staged : goal.returns-else-staged-eq0-clause-staged
returns-else-staged-eq0-clause-staged g c = λ gate long.
    let lines : List ℕ = c.args.lines.now in
    let end : ℕ = c.args.end in
    let staged : ℕ = c.args.staged in
    on_ok_weaker _ (λ (holds : 0 < length lines → Holds (g.D.Disk.seen c.write_at-else-staged-eq0.new.self) (end + staged) lines).
    let there = holds c.requires.some in (
      more _ lines end staged (omega arith) there ∙ ap (λ (l : List ℕ). l ++ lines) (before _ _ end staged _ _ (omega arith) (omega arith) gate long c.write_at-else-staged-eq0.ensures.others),
      omega (arith, there.within),
    )) c.write_at-else-staged-eq0.ensures.written
