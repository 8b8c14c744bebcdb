use Rattle.std.proofs.Common.{sym, ap, ◌∙◌}
use Rattle.std.specs.Option.{option_copied}
use Rattle.snap_diff.specs.Changes.{put_rows, told_change}
use Rattle.snap_diff.specs.Places.{after_here}
use Rattle.snap_diff.proofs.Afters.{kept_out}
use Rattle.snap_diff.proofs.walk.Walk.put_change.Goals as goal

pub returns-in_default-after : goal.returns-in_default-after
returns-in_default-after c =
    let most = c.args.self.now.most in
    let p = c.args.place.now.path in
    let rows = c.args.rows.now.items in
    kept_out most p c.in_default-after.field-0.now rows c.args.kind
    ∙ ap (λ o. put_rows most (after_here p (option_copied o)) rows (told_change p c.args.kind)) (sym c.in_default-after.is)
