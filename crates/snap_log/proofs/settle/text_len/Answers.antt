use Rattle.std.proofs.Common.{◌≡◌, ◌≤◌, ◌∙◌, ap, length, take, arith, List, ℕ}
use Rattle.std.proofs.lemmas.List.{take_all}
use Rattle.snap_log.specs.declared.scan.Scan.{Scan}
use Rattle.snap_log.specs.Scans.{at_start, scanned}
use Rattle.snap_log.proofs.ScanLaws.{end_is}
use Rattle.snap_log.proofs.settle.text_len.Goals as goal

pub returns-clause-end : goal.returns-clause-end
returns-clause-end g c = λ clean is.
    let file : List ℕ = g.D.Disk.seen c.args.disk.now in
    let same : g.D.Disk.seen c.chunks.disk ≡ file = c.chunks.invariant.seen in
    let long : length file ≤ c.chunks.scan.at = omega arith in
    ap (λ (s : Scan). s.end) (c.chunks.invariant.scan clean ∙ ap (λ (l : List ℕ). scanned at_start (take c.chunks.scan.at l)) same ∙ ap (λ (l : List ℕ). scanned at_start l) (take_all c.chunks.scan.at file long)) ∙ end_is file
