use Rattle.std.proofs.Common.{◌≡◌, ◌≤◌, ◌∙◌, ap, sym, subst, length, arith, List, ℕ}
use Rattle.snap_log.specs.Texts.{log_text, HasGate}
use Rattle.snap_log.specs.Kept.{IsDurable}
use Rattle.snap_log.proofs.TextLaws.{short}
use Rattle.snap_log.proofs.GateLaws.{settled, begun}
use Rattle.snap_log.proofs.settle.settle_read.Goals as goal

pub returns-then-branch-clause-kept : goal.returns-then-branch-clause-kept
returns-then-branch-clause-kept g c = λ clean is.
    let file : List ℕ = g.D.Disk.seen c.args.disk.now in
    let now : g.D.Disk.seen c.has_gate.new.disk ≡ file = c.has_gate.ensures.seen ∙ c.text_len.ensures.seen in
    let mid : g.D.Disk.seen c.text_len.new.disk ≡ file = c.text_len.ensures.seen in
    let end : c.in_ok-end.end ≡ length (log_text file) = c.in_ok-end.ensures.end (c.has_gate.ensures.clean clean) is in
    let has : HasGate (g.D.Disk.seen c.text_len.new.disk) c.in_ok-end.end = (c.in_ok-has_gate.ensures.is clean (is ∙ ap length (sym mid))).0 c.if-branch.true in
    let gate : HasGate file (length (log_text file)) = subst (λ (n : ℕ). HasGate file n) end (subst (λ (f : List ℕ). HasGate f c.in_ok-end.end) mid has) in
    subst (λ (f : List ℕ). IsDurable (log_text file) f (g.D.Disk.may_leave c.has_gate.new.disk)) (sym now)
    (settled file _ gate (λ f left. c.requires.synced f (c.text_len.ensures.crash f (c.has_gate.ensures.crash f left))))

pub returns-then-len-le1-clause-end : goal.returns-then-len-le1-clause-end
returns-then-len-le1-clause-end g c = λ clean is.
    let file : List ℕ = g.D.Disk.seen c.args.disk.now in
    let low : length file ≤ 1 = omega arith in
    sym (ap length (short file low))

pub returns-then-len-le1-clause-kept : goal.returns-then-len-le1-clause-kept
returns-then-len-le1-clause-kept g c = λ clean is.
    let file : List ℕ = g.D.Disk.seen c.args.disk.now in
    let low : length file ≤ 1 = omega arith in
    begun file _ _ low c.in_ok-close_gate.ensures.kept
