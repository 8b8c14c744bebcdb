use Rattle.std.proofs.Common.{Some, List, Option, inr, refl, ap, ◌∙◌}
use Rattle.std.specs.Prelude.{not, ◌&&◌}
use Rattle.snap_world.specs.World.{HandValue, with_hand, world_of}
use Rattle.snap_world.specs.Move.{is_working, meets}
use Rattle.snap_world.proofs.Does.{commit_does, unsealed_left}
use Rattle.snap_world.proofs.Places.{back_again}
use Rattle.snap_world.proofs.hands.Hands.commit.Goals as goal

pub returns-in-Ok : goal.returns-in-Ok
returns-in-Ok g c =
    let found = c.in-Some.ensures in
    commit_does _ _ _ _ _ _ _ _ _ c.in-Some.hand _ _ c.requires.commit found.0 found.1 c.in-Ok.ensures.ok c.settle.ensures.answered c.settle.ensures.full found.3 c.settle.ensures.hands

pub returns-in-Err : goal.returns-in-Err
returns-in-Err g c =
    let found = c.in-Some.ensures in
    inr (
      refl,
      unsealed_left _ _ _ c.args.slot c.args.id c.requires.commit
          (ap (meets (is_working c.args.id)) found.0 ∙ (λ i. found.1 i && not (c.in-Err.ensures.unsealed i)))
          (ap (λ (hands : List (Option HandValue)). world_of c.args.book.now hands)
          (back_again _ _ _ c.args.slot c.in-Some.hand found.0 found.3 (c.put.ensures ∙ ap (λ (h : HandValue). with_hand c.args.slot (Some h) c.take_under.new.self) c.in-Err.ensures.err))),
    )
