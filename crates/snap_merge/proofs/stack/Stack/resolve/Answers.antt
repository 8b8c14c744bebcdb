use Rattle.snap_merge.proofs.Ends.{plain_answers, resolving_rules}
use Rattle.snap_merge.proofs.stack.Stack.resolve.Goals as goal

pub returns-in_err-check_plain-clause-answer : goal.returns-in_err-check_plain-clause-answer
returns-in_err-check_plain-clause-answer c = plain_answers c.args.self.now c.args.path.now c.in_err-check_plain.field-0.0 c.from_residual.result c.in_err-check_plain.ensures.path c.from_residual.ensures.1 c.in_err-check_plain.ensures.plain

pub returns-in_err-check_plain-clause-rules : goal.returns-in_err-check_plain-clause-rules
returns-in_err-check_plain-clause-rules c = resolving_rules c.args.self.now c.show_are_layers.ensures c.args.path.now c.in_err-check_plain.ensures.path

pub returns-clause-rules : goal.returns-clause-rules
returns-clause-rules c = resolving_rules c.args.self.now c.show_are_layers.ensures c.args.path.now c.in_ok-check_plain.ensures.path
