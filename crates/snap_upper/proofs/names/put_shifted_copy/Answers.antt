use Rattle.std.proofs.Common.{sym, ap, subst, ◌∙◌}
use Rattle.snap_layer.specs.Tree.{Tree}
use Rattle.snap_layer.specs.Edits.{HasPlace, IsTakeable, without}
use Rattle.snap_copyup.specs.Copying.{below}
use Rattle.snap_copyup.proofs.Wholes.{whole_below}
use Rattle.snap_upper.proofs.LowerCopy.{body_fits}
use Rattle.snap_upper.proofs.ShiftedCopy.{white_place, place_after, white_takeable, white_back}
use Rattle.snap_upper.proofs.names.put_shifted_copy.Goals as goal

pub add_whiteout-requires : goal.add_whiteout-requires
add_whiteout-requires c = white_place c.args.layer.now c.args.from.now c.args.to.now c.requires.layer c.requires.bare c.requires.parent

pub add_body-requires-clause-place : goal.add_body-requires-clause-place
add_body-requires-clause-place c =
    subst (λ (t : Tree). HasPlace t c.args.to.now) (sym c.in_ok-add_whiteout.ensures.ok)
    (place_after c.args.layer.now c.args.from.now c.args.to.now c.requires.layer c.requires.bare c.requires.not_inside c.requires.not_around c.requires.place)

pub add_body-requires-clause-fits : goal.add_body-requires-clause-fits
add_body-requires-clause-fits c =
    body_fits (below c.args.layer.now c.args.lowers.now c.args.from.now) c.in-Some.body (whole_below c.args.layer.now c.args.lowers.now c.requires.layers c.args.from.now) (sym c.in_ok-body.ensures ∙ c.in-Some.is)

-- the whiteout is taken again
pub take_name-requires : goal.take_name-requires
take_name-requires c =
    subst (λ (t : Tree). IsTakeable t c.args.from.now) (sym (c.in-Err.ensures.err ∙ c.in_ok-add_whiteout.ensures.ok))
    (white_takeable c.args.layer.now c.args.from.now c.args.to.now c.requires.layer c.requires.bare)

pub returns-in-Err-clause-unchanged : goal.returns-in-Err-clause-unchanged
returns-in-Err-clause-unchanged c =
    c.take_name.ensures.next
    ∙ ap (λ (t : Tree). without t c.args.from.now) (c.in-Err.ensures.err ∙ c.in_ok-add_whiteout.ensures.ok)
    ∙ white_back c.args.layer.now c.args.from.now c.args.to.now c.requires.layer c.requires.bare
