use Rattle.snap_log.specs.Log.{text_in}
use Rattle.snap_log.proofs.GateLaws.{left_stands}
use Rattle.snap_durable.proofs.LoggedLaws.{unserved_leaves}
use Rattle.snap_durable.proofs.logged.serve_log.Goals as goal

pub returns-in-Err-clause-crash : goal.returns-in-Err-clause-crash
returns-in-Err-clause-crash g c = λ clean f left.
    unserved_leaves c.args.rebases (text_in c.args.log) f (g.R.Read.remaining c.args.input.now) (g.W.Write.contents c.args.output.now) (left_stands _ _ _ (c.args.log.kept clean) f left)
