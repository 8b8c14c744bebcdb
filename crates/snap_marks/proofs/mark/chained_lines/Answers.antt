use Rattle.std.proofs.Common.{◌≡◌, ◌≤◌, ◌<◌, ◌+◌, ◌-◌, ◌==◌, [], ℕ, List, length, take, drop, slice_index, true, false, sym, ap, ◌∙◌, subst, arith}
use Rattle.std.proofs.lemmas.Bool.{ne_eqb}
use Rattle.snap_marks.specs.Marks.{chained_from}
use Rattle.snap_marks.proofs.ChainLaws.{ended, more}
use Rattle.snap_marks.proofs.mark.chained_lines.Goals.{then-lines-at-eq10, else-lines-at-eq10}
use Rattle.snap_marks.proofs.mark.chained_lines.Goals as goal

pub bytes-preserved : goal.bytes-preserved
bytes-preserved c =
    let lines = c.args.lines.now in
    let at = c.bytes.at in
    let low : at < length lines = c.bytes-test.true in
    let Stands : ℕ → List ℕ → Type 0 = λ from next. (from ≤ at + 1) × (at + 1 ≤ length lines) × (chained_from next (take (at + 1 - from) (drop from lines)) (drop (at + 1) lines) ≡ chained_from c.args.sum.now [] lines) in
    elim c.if-lines-at-eq10.branch [
      | then-lines-at-eq10 w ↦
          let feed : (slice_index lines at == 10) ≡ true = ap (λ b. b == 10) w.if-lines-at-eq10.true in
          let is = sym (ended c.bytes.next lines c.bytes.from at low c.bytes.invariant.0 feed) ∙ c.bytes.invariant.2 in
          subst (λ from. Stands from c.if-lines-at-eq10.next) (sym w.from-is) (subst (Stands (at + 1)) (sym (w.next-is ∙ w.chained_line-next.ensures)) (omega arith, omega arith, is))
      | else-lines-at-eq10 w ↦
          let other : (slice_index lines at == 10) ≡ false = ne_eqb (slice_index lines at) 10 w.if-lines-at-eq10.false in
          let is = sym (more c.bytes.next lines c.bytes.from at low c.bytes.invariant.0 other) ∙ c.bytes.invariant.2 in
          subst (λ from. Stands from c.if-lines-at-eq10.next) (sym w.from-is) (subst (Stands c.bytes.from) (sym w.next-is) (omega (arith, c.bytes.invariant.0), omega arith, is))
    ]
