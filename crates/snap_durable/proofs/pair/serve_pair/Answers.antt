use Rattle.snap_durable.proofs.PairServeLaws.{leaves_pair, refused_pair, served_pair}
use Rattle.snap_durable.proofs.pair.serve_pair.Goals as goal

pub returns-clause-done : goal.returns-clause-done
returns-clause-done g c = served_pair c.args.rebases c.args.pair c.split-counting.result.counting c.split-counting.ensures.counting _ _ _ c.serve_log.result c.serve_log.ensures.done

pub returns-clause-differs : goal.returns-clause-differs
returns-clause-differs g c = refused_pair c.args.pair c.split-counting.result.counting c.split-counting.ensures.counting c.serve_log.result c.serve_log.ensures.differs

pub returns-clause-crash : goal.returns-clause-crash
returns-clause-crash g c = leaves_pair c.args.rebases c.args.pair c.split-counting.result c.split-counting.ensures.same c.split-counting.ensures.counting c.split-counting.ensures.none c.split-counting.ensures.some _ _ _ c.serve_log.result c.serve_log.ensures.clean c.serve_log.ensures.crash
