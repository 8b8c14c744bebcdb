use Rattle.std.proofs.Common.{rules, sym, subst}
use Rattle.snap_pair.specs.Pair.{lines_in}
use Rattle.snap_session.specs.Kept.{KeptValue, idle_kept}
use Rattle.snap_session.specs.Resumed.{resumed_kept}
use Rattle.snap_durable.specs.Served.{IsReplayed}
use Rattle.snap_durable.proofs.CheckpointLaws.{is_checkpoint, left_of, made_of}
use Rattle.snap_durable.proofs.shorten.checkpoint_by.Goals as goal

pub returns-in-Ok-clause-made : goal.returns-in-Ok-clause-made
returns-in-Ok-clause-made g c =
    made_of c.replace.result (lines_in c.args.pair) c.in-Ok.lines (search rules) (λ honest told t is.
    is_checkpoint (lines_in c.args.pair) t c.server.result.now c.in-Ok.lines (subst (λ (k : KeptValue). IsReplayed resumed_kept idle_kept (lines_in c.args.pair) k) (sym c.server.ensures) (search rules)) c.in-Ok.ensures.agrees c.in-Ok.ensures.saved c.in-Ok.ensures.rolled told is)

pub returns-in-Ok-clause-crash : goal.returns-in-Ok-clause-crash
returns-in-Ok-clause-crash g c = λ honest x y left right.
    left_of _ (lines_in c.args.pair) c.in-Ok.lines (search rules) (λ told t is.
    is_checkpoint (lines_in c.args.pair) t c.server.result.now c.in-Ok.lines (subst (λ (k : KeptValue). IsReplayed resumed_kept idle_kept (lines_in c.args.pair) k) (sym c.server.ensures) (search rules)) c.in-Ok.ensures.agrees c.in-Ok.ensures.saved c.in-Ok.ensures.rolled told is)
