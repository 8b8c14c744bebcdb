use Rattle.std.proofs.Common.{[], ◌∷◌, subst}
use Rattle.std.specs.Prelude.{IsTrue}
use Rattle.snap_durable.specs.Ended.{disk_ended}
use Rattle.snap_durable.proofs.LeavesLaws.{ends_of, turn_leaves, went_back}
use Rattle.snap_durable.proofs.turn.last_turn.Goals as goal

pub returns-in-Ok-clause-went : goal.returns-in-Ok-clause-went
returns-in-Ok-clause-went g c = ends_of _ _ _ _ _ _ _ c.in-Ok.ensures.ok

pub returns-in-Ok-clause-stand : goal.returns-in-Ok-clause-stand
returns-in-Ok-clause-stand g c = λ honest.
    let ends = c.in-Ok.ensures.ok in (
      (c.in-Ok.ensures.clean honest.0, subst (λ d. IsTrue (g.D.Disk.is_clean d)) c.give_up.ensures.disk honest.1),
      λ stand. record {
        back = went_back c.args.server.now c.finish.new.taker c.args.batch.now ends.end _ _ _ _ ends.last ends.went honest.0 stand.back;
        written = tt;
      },
    )

pub returns-in-Err-clause-crash : goal.returns-in-Err-clause-crash
returns-in-Err-clause-crash g c =
    turn_leaves c.args.files c.requires.apart (disk_ended c.in-Err.ended) _ _ c.ended_files.ensures.first c.ended_files.ensures.second c.in-Err.ensures.clean c.args.server.now c.args.batch.now (10 ∷ []) _ _ c.in-Err.ensures.crash
