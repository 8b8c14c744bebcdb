use Rattle.snap_session.proofs.Asking.{left_in, spent_in}
use Rattle.snap_session.proofs.script.Script.act.Goals as goal

pub returns-clause-unchanged : goal.returns-clause-unchanged
returns-clause-unchanged g c = left_in c.carry_out.result c.args.self.now c.carry_out.new.self c.args.n c.args.command c.carry_out.ensures

pub returns-clause-spent : goal.returns-clause-spent
returns-clause-spent g c = spent_in c.carry_out.result c.args.self.now c.carry_out.new.self c.args.n c.args.command c.carry_out.ensures
