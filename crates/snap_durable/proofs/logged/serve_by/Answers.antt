use Rattle.std.proofs.Common.{◌≡◌, ◌⊎◌, ℕ, List, ap, ◌∙◌, subst}
use Rattle.snap_log.specs.Kept.{IsBeforeOrAfter}
use Rattle.snap_log.specs.Log.{text_in}
use Rattle.snap_log.specs.Texts.{log_text}
use Rattle.snap_log.proofs.GateLaws.{left_stands}
use Rattle.snap_session.specs.Kept.{KeptValue, counted_anew}
use Rattle.snap_durable.specs.Logged.{HasStarted, Starts}
use Rattle.snap_durable.proofs.LoggedLaws.{served_log, stopped_leaves, unserved_leaves}
use Rattle.snap_durable.proofs.logged.serve_by.Goals as goal

pub returns-in-Err-clause-crash : goal.returns-in-Err-clause-crash
returns-in-Err-clause-crash g c = λ clean f left.
    unserved_leaves c.args.rebases (text_in c.args.log) f (g.R.Read.remaining c.args.input.now) (g.W.Write.contents c.args.output.now) (left_stands _ _ _ (c.args.log.kept (c.replay.ensures.clean clean)) f (c.replay.ensures.crash f left))

pub returns-in-Err-started-clause-crash : goal.returns-in-Err-started-clause-crash
returns-in-Err-started-clause-crash g c = λ clean f left.
    stopped_leaves c.args.rebases (text_in c.args.log) (text_in c.replay.new.log) f c.args.resuming c.replay.new.taker (g.R.Read.remaining c.args.input.now) (g.W.Write.contents c.args.output.now) c.requires c.replay.ensures.text
    (c.in_default.ensures.done (c.in-Err-started.ensures.clean clean)) (subst (λ (k : KeptValue). (log_text f ≡ text_in c.replay.new.log) ⊎ ((start : List ℕ) × Starts c.args.rebases k.sums start × IsBeforeOrAfter (text_in c.replay.new.log) start f)) c.into_server-server.ensures (c.in-Err-started.ensures.crash clean f left))

pub returns-in-Ok-serve_lines-clause-done : goal.returns-in-Ok-serve_lines-clause-done
returns-in-Ok-serve_lines-clause-done g c =
    served_log c.args.rebases c.args.log c.replay.new.log c.in-Ok.log c.args.resuming c.replay.new.taker c.begin_input.new.self c.requires c.in_default.ensures.done c.replay.ensures.text
    (subst (λ (k : KeptValue). HasStarted c.args.rebases k.sums c.replay.new.log c.in-Ok.log) c.into_server-server.ensures c.in-Ok.ensures.started) c.in-Ok.ensures.clean (c.begin_input.ensures ∙ ap counted_anew c.into_server-server.ensures)
    c.in-Ok-serve_lines.log c.serve_lines.new.taker (g.R.Read.remaining c.args.input.now) (g.W.Write.contents c.args.output.now) (g.W.Write.contents c.serve_lines.new.output) c.in-Ok-serve_lines.ensures.clean c.in-Ok-serve_lines.ensures.done
