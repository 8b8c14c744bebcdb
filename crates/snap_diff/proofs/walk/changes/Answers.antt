use Rattle.std.proofs.Common.{[], List, Option, None, sym, ap, ◌∙◌}
use Rattle.snap_diff.specs.declared.change.Change.{Change}
use Rattle.std.specs.Option.{option_copied}
use Rattle.snap_diff.specs.Changes.{changes_below, put_rows}
use Rattle.snap_diff.specs.Places.{after_here}
use Rattle.snap_path.specs.Text.{Names}
use Rattle.snap_diff.proofs.Walks.{put_page}
use Rattle.snap_diff.proofs.walk.changes.Goals as goal
use Rattle.snap_diff.proofs.walk.changes.Goals.{in-Some+in_ok-put_way-in-Some, in-None+in_ok-put_below-in-None}

pub returns : goal.returns
returns c =
    let most = c.args.most in
    let after : Option Names = option_copied c.args.after in
    let t = c.args.layer.now in
    let ts = c.args.lowers.now in
    elim c.match-after.branch [
      | in-Some+in_ok-put_way-in-Some w ↦
          ap (λ rows. rows.items) w.rows-is ∙ w.in_ok-put_way-in-Some.ensures
          ∙ ap (λ o. put_rows most (option_copied o) c.new-rows.result.items (changes_below 2048 t ts [])) (sym w.in-Some.is)
          ∙ ap (λ (rs : List Change). put_rows most after rs (changes_below 2048 t ts [])) c.new-rows.ensures.items
          ∙ put_page most after (changes_below 2048 t ts [])
      | in-None+in_ok-put_below-in-None w ↦
          ap (λ rows. rows.items) w.rows-is ∙ w.in_ok-put_below-in-None.ensures
          ∙ (λ i. put_rows most (after_here (w.root-path.ensures i) None) (c.new-rows.ensures.items i) (changes_below 2048 t ts (w.root-path.ensures i)))
          ∙ ap (λ o. put_rows most (option_copied o) [] (changes_below 2048 t ts [])) (sym w.in-None.is)
          ∙ put_page most after (changes_below 2048 t ts [])
    ]
