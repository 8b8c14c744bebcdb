use Rattle.std.proofs.Common.{◌≡◌, ◌∙◌, true, sym}
use Rattle.std.proofs.lemmas.Option.{MatchOption-at_none, MatchOption-at_some}
use Rattle.snap_upper.specs.After.{is_same_name}
use Rattle.snap_upper.proofs.Outcomes.{no_bool}
use Rattle.snap_upper.proofs.Shifted.{stays_after, moves_after}
use Rattle.snap_upper.proofs.rules.rename.Goals as goal

pub returns-in_default-clause-ok : goal.returns-in_default-clause-ok
returns-in_default-clause-ok c =
    let same = MatchOption-at_none _ _ c.in_default.is c.in_ok-sides.ensures.moves in
    record { layers = c.in_ok-sides.ensures.layers.1; ready = tt; same = sym (stays_after c.args.layer.now c.args.lowers.now c.args.from.now c.args.to.now c.in_ok-sides.ensures.layers.0 c.in_ok-sides.ensures.ok same); in_place = λ none. tt }

pub returns-clause-ok : goal.returns-clause-ok
returns-clause-ok c =
    let passes = c.in_ok-sides.ensures.ok in
    let moves = MatchOption-at_some _ _ c.in-Some.sides c.in-Some.is c.in_ok-sides.ensures.moves in
    record { layers = c.in_ok-sides.ensures.layers.1; ready = (passes, moves.0, moves.1, moves.2); same = moves_after c.args.layer.now c.args.lowers.now c.args.from.now c.args.to.now passes moves.0; in_place = λ (none : is_same_name c.args.layer.now c.args.from.now c.args.to.now ≡ true). absurd (no_bool (sym none ∙ moves.0)) }
