use Rattle.std.proofs.Common.{◌≡◌, ◌<◌, true, false, sym, ◌∙◌, arith}
use Rattle.snap_path.specs.Limits.{most_number}
use Rattle.snap_upper.proofs.Outcomes.{no_number_left, too_many, next_planned}
use Rattle.snap_upper.proofs.usage.fitting.Goals as goal
use Rattle.snap_upper.proofs.usage.fitting.Goals.{else-numbered-via-then-numbered+else-number, else-numbered-via-else-numbered}

pub returns-then-number : goal.returns-then-number
returns-then-number c = λ next is. no_number_left c.args.layer.now next c.args.after c.args.numbered is c.if-numbered.true (sym c.next_number-number.ensures.next ∙ c.if-number.true)

pub returns-then-after-most : goal.returns-then-after-most
returns-then-after-most c = λ next is. too_many c.args.layer.now next c.args.after c.args.numbered is (omega (arith, c.if-after-most.true, c.most_inodes-most.ensures.most))

pub returns : goal.returns
returns c = λ next is.
    let u = c.args.layer.now in
    let ok = c.next_number-number.ensures.layer in
    let below_last : c.args.numbered ≡ true → u.next < most_number = elim c.else-numbered.branch [
      | else-numbered-via-then-numbered+else-number w ↦ λ one. omega (arith, ok.next.1, w.if-number.false, c.next_number-number.ensures.next)
      | else-numbered-via-else-numbered w ↦ λ one. absurd (no_bool (sym one ∙ w.if-numbered.false))
    ] in
    next_planned u next c.args.after c.args.numbered is ok.next.1 below_last (omega (arith, c.if-after-most.false, c.most_inodes-most.ensures.most))
  where
    no_bool : true ≡ false → ⊥
    no_bool e = cc
