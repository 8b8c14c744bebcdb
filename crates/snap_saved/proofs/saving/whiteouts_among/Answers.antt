use Rattle.std.proofs.Common.{◌≡◌, [], ◌∷◌, ◌++◌, Some, None, sym, ap, ◌∙◌}
use Rattle.std.specs.Prelude.{if◌then◌else◌, Bool}
use Rattle.snap_saved.specs.Walked.{whiteout_at}
use Rattle.snap_saved.proofs.Walking.{nothing_more, one_more}
use Rattle.snap_saved.proofs.saving.whiteouts_among.Goals as goal
use Rattle.snap_saved.proofs.saving.whiteouts_among.Goals.{then-is_whiteout_at+in_ok-clone+in_ok-push, else-is_whiteout_at}

pub loop-path-preserved : goal.loop-path-preserved
loop-path-preserved c =
    let ps = c.args.paths.now in
    let i = c.loop-path.path-index in
    let p = c.path-item.result in
    let read = whiteout_at c.args.layer.now in
    elim c.if-is_whiteout_at.branch [
      | then-is_whiteout_at+in_ok-clone+in_ok-push w ↦
          let its : w.in_ok-clone.field-0 ≡ p = w.in_ok-clone.ensures.cases in
          let was = c.loop-path.invariant in
          let told : whiteout_at c.args.layer.now p ≡ Some p = sym c.is_whiteout_at.ensures ∙ ap (λ (b : Bool). if b then Some p else None) w.if-is_whiteout_at.true in
          (λ j. (w.whiteouts-is j).items) ∙ w.in_ok-push.ensures.items ∙ (λ j. was j ++ its j ∷ []) ∙ sym (one_more read ps i p c.loop-path-test.true c.path-item.is p told)
      | else-is_whiteout_at w ↦
          let told : whiteout_at c.args.layer.now p ≡ None = sym c.is_whiteout_at.ensures ∙ ap (λ (b : Bool). if b then Some p else None) w.if-is_whiteout_at.false in
          (λ j. (w.whiteouts-is j).items) ∙ c.loop-path.invariant ∙ sym (nothing_more read ps i p c.loop-path-test.true c.path-item.is told)
    ]
