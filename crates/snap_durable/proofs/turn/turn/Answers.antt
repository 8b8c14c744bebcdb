use Rattle.std.proofs.Common.{List, ℕ, sym, subst}
use Rattle.snap_durable.specs.Ended.{disk_ended}
use Rattle.snap_durable.specs.Turns.{GivesBack}
use Rattle.snap_durable.proofs.LeavesLaws.{turn_leaves, went_back, went_of, went_told}
use Rattle.snap_durable.proofs.turn.turn.Goals as goal

pub returns-in-Ok-clause-went : goal.returns-in-Ok-clause-went
returns-in-Ok-clause-went g c = went_of _ _ _ _ _ _ _ _ _ c.in-Ok.ensures.went

pub returns-in-Ok-clause-stand : goal.returns-in-Ok-clause-stand
returns-in-Ok-clause-stand g c = λ honest.
    let v = c.args.server.now in
    let w = c.take_read.new.taker in
    let clean = c.noted.ensures.clean honest in
    let went = c.in-Ok.ensures.went in (
      (c.in-Ok.ensures.clean clean.0, clean.1),
      λ stand. record {
        back = subst (λ (t : List ℕ). GivesBack t w) (sym c.noted.ensures.text) (went_back v w _ _ _ _ _ _ _ went clean.0 stand.back);
        written = c.noted.ensures.written honest v w went.parts went.text stand.written (went_told v w _ _ _ _ _ _ _ went clean.0 c.len-from.result (c.len-from.ensures (c.in-Ok.ensures.clean clean.0)));
      },
    )

pub returns-in-Err-clause-crash : goal.returns-in-Err-clause-crash
returns-in-Err-clause-crash g c =
    turn_leaves c.args.files c.requires.apart (disk_ended c.in-Err.ended) _ _ c.ended_files.ensures.first c.ended_files.ensures.second c.in-Err.ensures.clean c.args.server.now c.args.batch.now c.args.bytes.now _ _ c.in-Err.ensures.crash
