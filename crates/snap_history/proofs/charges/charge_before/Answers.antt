use Rattle.std.proofs.Common.{◌≡◌, ◌-◌, ◌+◌, ◌<◌, ℕ, length, take, ap, ◌∙◌, arith}
use Rattle.snap_usage.specs.declared.usage.Usage.{Usage}
use Rattle.snap_history.specs.Changes.{charge_before}
use Rattle.snap_history.proofs.Pages.{charge_before-take}
use Rattle.snap_history.proofs.charges.charge_before.Goals as goal

pub loop-left-preserved : goal.loop-left-preserved
loop-left-preserved c =
    let k : ℕ = c.loop-left.left - 1 in
    let inside : k < length c.args.changes.now = omega arith in
    let next : k + 1 ≡ c.loop-left.left = omega arith in
    record {
      low = omega arith;
      same =
          ap (λ (u : Usage). charge_before u (take k c.args.changes.now)) c.turned-charge.ensures
          ∙ charge_before-take c.loop-left.charge c.args.changes.now k _ inside
          ∙ ap (λ (n : ℕ). charge_before c.loop-left.charge (take n c.args.changes.now)) next
          ∙ c.loop-left.invariant.same;
    }
