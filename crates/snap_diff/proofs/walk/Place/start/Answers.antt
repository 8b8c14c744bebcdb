use Rattle.std.proofs.Common.{sym, ap, ◌∙◌}
use Rattle.std.specs.Option.{option_copied}
use Rattle.snap_diff.specs.Changes.{bound_at, page_start}
use Rattle.snap_diff.specs.Places.{after_here}
use Rattle.snap_diff.proofs.Afters.{starts_at}
use Rattle.snap_diff.proofs.walk.Place.start.Goals as goal

pub returns-in-Some-first : goal.returns-in-Some-first
returns-in-Some-first c =
    let p = c.args.self.now.path in
    let rest = c.in-Some.after.now in
    ap bound_at (c.in-Some-first.ensures.value)
    ∙ sym (starts_at p rest)
    ∙ ap (λ o. page_start (after_here p (option_copied o)) p) (sym c.in-Some.is)

pub returns-in-None : goal.returns-in-None
returns-in-None c =
    let p = c.args.self.now.path in
    let rest = c.in-Some.after.now in
    ap bound_at (c.in-None.ensures.value)
    ∙ sym (starts_at p rest)
    ∙ ap (λ o. page_start (after_here p (option_copied o)) p) (sym c.in-Some.is)
