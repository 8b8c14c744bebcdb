use Rattle.std.proofs.Common.{◌≡◌, false, sym, ap, ◌∙◌, subst}
use Rattle.std.specs.Prelude.{is_some}
use Rattle.snap_path.specs.Text.{begins}
use Rattle.snap_layer.proofs.Moves.{not_root}
use Rattle.snap_layer.proofs.Testing.{moved_names}
use Rattle.snap_layer.specs.Layers.{IsLayer}
use Rattle.snap_layer.proofs.layer.Layer.can_move.Goals as goal

pub has_short_paths-requires-clause-from : goal.has_short_paths-requires-clause-from
has_short_paths-requires-clause-from c =
    let not_inside : begins c.args.from.now c.args.to.now ≡ false = sym c.begins.ensures.value ∙ c.if-begins.false in
    not_root c.args.from.now c.args.to.now not_inside

pub has_short_paths-requires-clause-to : goal.has_short_paths-requires-clause-to
has_short_paths-requires-clause-to c = (c.has_place.ensures.place.0 c.if-not-has_place.false).above.below_root

pub returns : goal.returns
returns c =
    let from = c.args.from.now in
    let to = c.args.to.now in
    let place = c.has_place.ensures.place.0 c.if-not-has_place.false in
    let not_inside : begins from to ≡ false = sym c.begins.ensures.value ∙ c.if-begins.false in
    let not_around : begins to from ≡ false = sym c.begins-else-begins.ensures.value ∙ c.if-begins-2.false in
    let ok = c.at.ensures.layer in (
      (λ t. record {
        there = ap is_some (sym c.at.ensures.node) ∙ c.if-is_none.ensures;
        place = place;
        not_inside = not_inside;
        not_around = not_around;
        fits = λ r some. moved_names from to r c.has_place.ensures.path (ok.paths _ some) (c.has_short_paths.ensures.0 t r some);
      }),
      λ movable. c.has_short_paths.ensures.1 (λ r some. (movable.fits r some).1),
    )
