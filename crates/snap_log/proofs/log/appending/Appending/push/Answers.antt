use Rattle.std.proofs.Common.{◌≡◌, ◌∙◌, inr, List, ℕ, length, subst, sym, ap, arith, IsTrue}
use Rattle.snap_log.specs.Texts.{log_text, AreLines}
use Rattle.snap_log.specs.Parts.{staged_text}
use Rattle.snap_log.proofs.TextLaws.{joined}
use Rattle.snap_log.proofs.GateLaws.{kept_stands, left_stands, now_kept}
use Rattle.snap_log.proofs.StageLaws.{behind_gate, staged_length}
use Rattle.snap_log.proofs.log.appending.Appending.push.Goals as goal

-- nothing was written
pub returns-then-is_empty-clause-crash : goal.returns-then-is_empty-clause-crash
returns-then-is_empty-clause-crash g c = λ clean f left. left_stands _ _ _ (c.args.self.now.kept clean) f left

pub returns-then-lines-self-clause-crash : goal.returns-then-lines-self-clause-crash
returns-then-lines-self-clause-crash g c = λ clean f left. left_stands _ _ _ (c.args.self.now.kept clean) f left

pub returns-then-lines-self-clause-faults : goal.returns-then-lines-self-clause-faults
returns-then-lines-self-clause-faults g c = λ clean.
    let own = c.args.self.now in
    let size : length (staged_text (g.D.Disk.seen own.disk) own.end own.staged) ≡ own.staged = staged_length _ own.end own.staged (own.kept clean) (own.ends clean) (own.there clean) in
    let end : own.end ≡ length (log_text (g.D.Disk.seen own.disk)) = own.ends clean in
    inr (omega (arith, size, end))

-- the write failed
pub invariant_of-self : goal.invariant_of-self
invariant_of-self g c =
    let own = c.args.self.now in
    let seen : List ℕ = g.D.Disk.seen own.disk in
    record {
      usable = c.write_next.ensures.usable;
      fits = own.fits;
      ends = λ clean. let was : IsTrue (g.D.Disk.is_clean own.disk) = subst IsTrue c.write_next.ensures.clean clean in
          own.ends was ∙ ap length (sym (kept_stands _ _ _ (c.write_next.ensures.kept (log_text seen) (own.ends was) (own.kept was))));
      kept = λ clean. let was : IsTrue (g.D.Disk.is_clean own.disk) = subst IsTrue c.write_next.ensures.clean clean in
          now_kept _ _ _ (c.write_next.ensures.kept (log_text seen) (own.ends was) (own.kept was));
      there = λ clean. let was : IsTrue (g.D.Disk.is_clean own.disk) = subst IsTrue c.write_next.ensures.clean clean in
          (c.write_next.ensures.before (behind_gate seen own.end (own.kept was) (own.ends was)) (own.there was)).1;
      lines = λ clean. let was : IsTrue (g.D.Disk.is_clean own.disk) = subst IsTrue c.write_next.ensures.clean clean in
          subst AreLines (sym (c.write_next.ensures.before (behind_gate seen own.end (own.kept was) (own.ends was)) (own.there was)).0) (own.lines was);
    }

pub returns-in_err-write_next-clause-crash : goal.returns-in_err-write_next-clause-crash
returns-in_err-write_next-clause-crash g c = λ clean f left.
    let own = c.args.self.now in
    let was : IsTrue (g.D.Disk.is_clean own.disk) = subst IsTrue c.write_next.ensures.clean clean in
    left_stands _ _ _ (c.write_next.ensures.kept (log_text (g.D.Disk.seen own.disk)) (own.ends was) (own.kept was)) f left

-- the lines are written
pub invariant_of-self-2 : goal.invariant_of-self-2
invariant_of-self-2 g c =
    let own = c.args.self.now in
    let seen : List ℕ = g.D.Disk.seen own.disk in
    record {
      usable = c.write_next.ensures.usable;
      fits = omega arith;
      ends = λ clean. let was : IsTrue (g.D.Disk.is_clean own.disk) = subst IsTrue c.write_next.ensures.clean clean in
          own.ends was ∙ ap length (sym (kept_stands _ _ _ (c.write_next.ensures.kept (log_text seen) (own.ends was) (own.kept was))));
      kept = λ clean. let was : IsTrue (g.D.Disk.is_clean own.disk) = subst IsTrue c.write_next.ensures.clean clean in
          now_kept _ _ _ (c.write_next.ensures.kept (log_text seen) (own.ends was) (own.kept was));
      there = λ clean. let was : IsTrue (g.D.Disk.is_clean own.disk) = subst IsTrue c.write_next.ensures.clean clean in
          (c.in_ok-write_next.ensures.staged (behind_gate seen own.end (own.kept was) (own.ends was)) (own.there was)).1;
      lines = λ clean. let was : IsTrue (g.D.Disk.is_clean own.disk) = subst IsTrue c.write_next.ensures.clean clean in
          subst AreLines (sym (c.in_ok-write_next.ensures.staged (behind_gate seen own.end (own.kept was) (own.ends was)) (own.there was)).0) (joined _ _ (own.lines was) c.requires.lines);
    }

pub returns-clause-crash : goal.returns-clause-crash
returns-clause-crash g c = λ clean f left.
    let own = c.args.self.now in
    let was : IsTrue (g.D.Disk.is_clean own.disk) = subst IsTrue c.write_next.ensures.clean clean in
    left_stands _ _ _ (c.write_next.ensures.kept (log_text (g.D.Disk.seen own.disk)) (own.ends was) (own.kept was)) f left
