use Rattle.std.proofs.Common.{[], ℕ, List, append-nil, subst}
use Rattle.snap_pair.specs.Texts.{pair_text}
use Rattle.snap_durable.specs.Turns.{LeavesTurns}
use Rattle.snap_durable.proofs.TurnLaws.{leaves_next, leaves_step, went_on_step}
use Rattle.snap_durable.proofs.shortened.turn_and_step.Goals as goal

pub returns-after-is_idle-clause-went : goal.returns-after-is_idle-clause-went
returns-after-is_idle-clause-went g c = went_on_step _ _ _ _ _ _ _ _ c.in-Ok.ensures.went c.in-Ok-step.ensures.stepped

pub returns-in-Err-step-clause-crash : goal.returns-in-Err-step-clause-crash
returns-in-Err-step-clause-crash g c = λ honest.
    let v = c.args.server.now in
    let u = c.turn.new.server in
    let before = g.W.Write.contents c.args.output.now in
    let after = g.W.Write.contents c.turn.new.output in
    let it = c.in-Err-step.ensures.crash honest in
    let first = c.in-Ok.ensures.stand it.0 in (
      first.0,
      λ stand x y one two. subst (λ (l : List ℕ). LeavesTurns v c.args.batch.now l (pair_text x y) before after) (append-nil c.args.bytes.now)
          (leaves_next v u c.args.batch.now c.turn.new.batch before after after c.args.bytes.now [] c.in-Ok.ensures.went (pair_text x y) (leaves_step u c.turn.new.batch [] (pair_text x y) after (it.1 (first.1 stand) x y one two))),
    )
