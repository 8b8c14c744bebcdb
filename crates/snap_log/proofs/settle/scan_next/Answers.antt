use Rattle.std.proofs.Common.{◌∙◌, ap, sym, take, ℕ}
use Rattle.snap_log.specs.Scans.{at_start, scanned}
use Rattle.snap_log.proofs.ScanLaws.{scanned_on}
use Rattle.snap_log.proofs.settle.scan_next.Goals as goal

pub returns-clause-scan : goal.returns-clause-scan
returns-clause-scan g c = λ clean is.
    c.feed.ensures.scanned ∙ scanned_on _ _ _ _ (c.in_ok-read_at.ensures.read clean c.requires.some) is ∙ ap (λ (k : ℕ). scanned at_start (take k (g.D.Disk.seen c.args.disk.now))) (sym c.feed.ensures.at)
