use Rattle.std.proofs.Common.{refl, [], ◌∷◌}
use Rattle.snap_durable.proofs.CameLaws.{a_feed, if_ok, no_feed}
use Rattle.snap_durable.proofs.PartLaws.{went_none}
use Rattle.snap_durable.proofs.serve.finish.Goals as goal

pub returns-then-not-has_held-clause-ok : goal.returns-then-not-has_held-clause-ok
returns-then-not-has_held-clause-ok g c = record {
  last = [];
  is = no_feed c.args.batch.now.held c.has_held.result c.has_held.ensures c.if-not-has_held.true;
  end = c.args.batch.now;
  went = went_none g.T.TakeLine.effect g.T.KeepLine.changes g.T.KeepLine.mark g.T.KeepLine.keeping g.T.KeepLine.settled c.args.taker.now c.args.batch.now c.args.batch.now c.args.log (g.W.Write.contents c.args.output.now) [] refl c.requires.none;
}

pub returns-clause-ok : goal.returns-clause-ok
returns-clause-ok g c = if_ok c.take_part.result (λ log_new went. record { last = 10 ∷ []; is = a_feed c.args.batch.now.held c.has_held.result c.has_held.ensures c.if-not-has_held.false; end = c.take_part.new.batch; went = went }) c.take_part.ensures.went
