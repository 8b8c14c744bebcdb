use Rattle.std.proofs.Common.{◌≡◌, ◌∷◌, ◌++◌, ◌∙◌, inl, List, ℕ, sym, subst, arith}
use Rattle.snap_log.specs.Texts.{AreLines}
use Rattle.snap_log.specs.Kept.{IsDurable, IsBeforeOrAfter}
use Rattle.snap_log.proofs.GateLaws.{left_opens, left_stands}
use Rattle.snap_log.proofs.StageLaws.{rest_of}
use Rattle.snap_log.proofs.stage.finish.Goals as goal

-- nothing was staged
pub returns-then-staged-eq0-clause-crash : goal.returns-then-staged-eq0-clause-crash
returns-then-staged-eq0-clause-crash g c = λ text lines end is long are same f left. inl (left_stands text _ _ is f left)

-- the first step failed
pub returns-in_err-shut_behind-clause-crash : goal.returns-in_err-shut_behind-clause-crash
returns-in_err-shut_behind-clause-crash g c = λ text lines end is long are same f left. inl (left_stands text _ _ (c.shut_behind.ensures.kept text end is) f left)

-- the second step
pub returns-in-Ok-clause-added : goal.returns-in-Ok-clause-added
returns-in-Ok-clause-added g c = λ text lines end is long are same.
    let rest = rest_of (g.D.Disk.seen c.args.disk.now) c.args.end c.args.staged (omega arith) in
    let whole : lines ≡ 123 ∷ rest.0 = same ∙ rest.1 in
    subst (λ (l : List ℕ). IsDurable (text ++ l) (g.D.Disk.seen c.open_gate.new.disk) (g.D.Disk.may_leave c.open_gate.new.disk)) (sym whole)
    (c.in-Ok.ensures.kept text rest.0 end (subst AreLines whole are) (c.in_ok-shut_behind.ensures.staged text rest.0 end is long rest.1))

pub returns-in-Ok-clause-crash : goal.returns-in-Ok-clause-crash
returns-in-Ok-clause-crash g c = λ text lines end is long are same f left.
    let rest = rest_of (g.D.Disk.seen c.args.disk.now) c.args.end c.args.staged (omega arith) in
    let whole : lines ≡ 123 ∷ rest.0 = same ∙ rest.1 in
    subst (λ (l : List ℕ). IsBeforeOrAfter text l f) (sym whole)
    (c.open_gate.ensures.crash text rest.0 end (subst AreLines whole are) (c.in_ok-shut_behind.ensures.staged text rest.0 end is long rest.1) f left)

pub returns-in-Err-clause-crash : goal.returns-in-Err-clause-crash
returns-in-Err-clause-crash g c = λ text lines end is long are same f left.
    let rest = rest_of (g.D.Disk.seen c.args.disk.now) c.args.end c.args.staged (omega arith) in
    let whole : lines ≡ 123 ∷ rest.0 = same ∙ rest.1 in
    subst (λ (l : List ℕ). IsBeforeOrAfter text l f) (sym whole)
    (c.open_gate.ensures.crash text rest.0 end (subst AreLines whole are) (c.in_ok-shut_behind.ensures.staged text rest.0 end is long rest.1) f left)

pub returns-then-staged-eq0-clause-opens : goal.returns-then-staged-eq0-clause-opens
returns-then-staged-eq0-clause-opens g c = λ text lines end is long are same f left byte. left_opens text _ _ is f left

pub returns-in_err-shut_behind-clause-opens : goal.returns-in_err-shut_behind-clause-opens
returns-in_err-shut_behind-clause-opens g c = λ text lines end is long are same f left byte. left_opens text _ _ (c.shut_behind.ensures.kept text end is) f left

pub returns-in-Ok-clause-opens : goal.returns-in-Ok-clause-opens
returns-in-Ok-clause-opens g c = λ text lines end is long are same f left byte.
    let rest = rest_of (g.D.Disk.seen c.args.disk.now) c.args.end c.args.staged (omega arith) in
    c.open_gate.ensures.opens text rest.0 end (subst AreLines (same ∙ rest.1) are) (c.in_ok-shut_behind.ensures.staged text rest.0 end is long rest.1) f left byte

pub returns-in-Err-clause-opens : goal.returns-in-Err-clause-opens
returns-in-Err-clause-opens g c = λ text lines end is long are same f left byte.
    let rest = rest_of (g.D.Disk.seen c.args.disk.now) c.args.end c.args.staged (omega arith) in
    c.open_gate.ensures.opens text rest.0 end (subst AreLines (same ∙ rest.1) are) (c.in_ok-shut_behind.ensures.staged text rest.0 end is long rest.1) f left byte
