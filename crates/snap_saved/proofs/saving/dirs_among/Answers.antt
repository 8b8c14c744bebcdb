use Rattle.std.proofs.Common.{◌∷◌, ◌++◌, List, [], sym, ap, ◌∙◌}
use Rattle.snap_saved.specs.declared.dir.SavedDir.{SavedDir}
use Rattle.snap_saved.specs.Walked.{saved_dir_at}
use Rattle.snap_saved.proofs.Walking.{nothing_more, one_more}
use Rattle.snap_saved.proofs.saving.dirs_among.Goals as goal
use Rattle.snap_saved.proofs.saving.dirs_among.Goals.{in-Some+in_ok-push, in_default}

pub loop-path-preserved : goal.loop-path-preserved
loop-path-preserved c =
    let ps = c.args.paths.now in
    let i = c.loop-path.path-index in
    let p = c.path-item.result in
    let read = saved_dir_at c.args.layer.now in
    elim c.match-branch-2.branch [
      | in-Some+in_ok-push w ↦
          (λ j. (w.dirs-is j).items) ∙ w.in_ok-push.ensures.items ∙ ap (λ (l : List SavedDir). l ++ w.in-Some.dir ∷ []) c.loop-path.invariant
          ∙ sym (one_more read ps i p c.loop-path-test.true c.path-item.is w.in-Some.dir (sym c.in_ok-dir.ensures ∙ w.in-Some.is))
      | in_default w ↦ (λ j. (w.dirs-is j).items) ∙ c.loop-path.invariant ∙ sym (nothing_more read ps i p c.loop-path-test.true c.path-item.is (sym c.in_ok-dir.ensures ∙ w.in_default.is))
    ]
