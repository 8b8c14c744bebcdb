use Rattle.std.proofs.Common.{◌≡◌, ◌∙◌, ◌++◌, ◌+◌, List, ℕ, length, length-append, subst, sym, ap, refl, IsTrue}
use Rattle.snap_log.specs.Texts.{log_text}
use Rattle.snap_log.specs.Kept.{IsDurable}
use Rattle.snap_log.specs.Parts.{staged_text}
use Rattle.snap_log.specs.Stages.{IsWrite}
use Rattle.snap_log.proofs.GateLaws.{kept_stands, left_stands, left_opens, now_kept}
use Rattle.snap_log.proofs.StageLaws.{staged_length}
use Rattle.snap_log.proofs.log.appending.Appending.finish.Goals as goal

pub invariant_of-result : goal.invariant_of-result
invariant_of-result g c = record {
  usable = c.in-Ok.ensures.usable;
  ends = λ clean.
      let was : IsTrue (g.D.Disk.is_clean c.args.self.disk) = subst IsTrue c.finish.ensures.clean clean in
      let seen : List ℕ = g.D.Disk.seen c.args.self.disk in
      let text : List ℕ = log_text seen in
      let lines : List ℕ = staged_text seen c.args.self.end c.args.self.staged in
      let end : c.args.self.end ≡ length text = c.args.self.ends was in
      let is : IsDurable (text ++ lines) (g.D.Disk.seen c.finish.new.disk) (g.D.Disk.may_leave c.finish.new.disk) = c.in-Ok.ensures.added text lines end (c.args.self.kept was) (c.args.self.there was) (c.args.self.lines was) refl in
      ap (λ (k : ℕ). k + c.args.self.staged) end ∙ ap (λ (k : ℕ). length text + k) (sym (staged_length seen c.args.self.end c.args.self.staged (c.args.self.kept was) end (c.args.self.there was))) ∙ sym (length-append text lines) ∙ ap length (sym (kept_stands _ _ _ is));
  kept = λ clean.
      let was : IsTrue (g.D.Disk.is_clean c.args.self.disk) = subst IsTrue c.finish.ensures.clean clean in
      now_kept _ _ _ (c.in-Ok.ensures.added (log_text (g.D.Disk.seen c.args.self.disk)) (staged_text (g.D.Disk.seen c.args.self.disk) c.args.self.end c.args.self.staged) (c.args.self.ends was) (c.args.self.kept was) (c.args.self.there was) (c.args.self.lines was) refl);
}

pub returns-in-Ok-clause-added : goal.returns-in-Ok-clause-added
returns-in-Ok-clause-added g c = λ clean.
    let was : IsTrue (g.D.Disk.is_clean c.args.self.disk) = subst IsTrue c.finish.ensures.clean clean in
    let seen : List ℕ = g.D.Disk.seen c.args.self.disk in
    let lines : List ℕ = staged_text seen c.args.self.end c.args.self.staged in
    let is : IsDurable (log_text seen ++ lines) (g.D.Disk.seen c.finish.new.disk) (g.D.Disk.may_leave c.finish.new.disk) =
    c.in-Ok.ensures.added (log_text seen) lines (c.args.self.ends was) (c.args.self.kept was) (c.args.self.there was) (c.args.self.lines was) refl in
    record { now = kept_stands _ _ _ is; crash = left_stands _ _ _ is; opens = left_opens _ _ _ is }

-- a write failed
pub invariant_of-result-in-Err-Write : goal.invariant_of-result-in-Err-Write
invariant_of-result-in-Err-Write g c = record {
  usable = rw c.in-Err-Write.field-0-is at c.in-Err-Write.ensures.usable;
  ends = λ clean.
      let was : IsTrue (g.D.Disk.is_clean c.args.self.disk) = subst IsTrue c.finish.ensures.clean clean in
      let is : IsDurable (log_text (g.D.Disk.seen c.args.self.disk)) (g.D.Disk.seen c.finish.new.disk) (g.D.Disk.may_leave c.finish.new.disk) =
      c.in-Err-Write.ensures.not_kept (log_text (g.D.Disk.seen c.args.self.disk)) (c.args.self.ends was) (c.args.self.kept was) (subst IsWrite (sym c.in-Err-Write.field-0-is) tt) in
      c.args.self.ends was ∙ ap length (sym (kept_stands _ _ _ is));
  kept = λ clean.
      let was : IsTrue (g.D.Disk.is_clean c.args.self.disk) = subst IsTrue c.finish.ensures.clean clean in
      now_kept _ _ _ (c.in-Err-Write.ensures.not_kept (log_text (g.D.Disk.seen c.args.self.disk)) (c.args.self.ends was) (c.args.self.kept was) (subst IsWrite (sym c.in-Err-Write.field-0-is) tt));
}

pub returns-in-Err-Write-clause-not_kept : goal.returns-in-Err-Write-clause-not_kept
returns-in-Err-Write-clause-not_kept g c = λ clean.
    let was : IsTrue (g.D.Disk.is_clean c.args.self.disk) = subst IsTrue c.finish.ensures.clean clean in
    let is : IsDurable (log_text (g.D.Disk.seen c.args.self.disk)) (g.D.Disk.seen c.finish.new.disk) (g.D.Disk.may_leave c.finish.new.disk) =
    c.in-Err-Write.ensures.not_kept (log_text (g.D.Disk.seen c.args.self.disk)) (c.args.self.ends was) (c.args.self.kept was) (subst IsWrite (sym c.in-Err-Write.field-0-is) tt) in
    record { now = kept_stands _ _ _ is; crash = left_stands _ _ _ is; opens = left_opens _ _ _ is }
