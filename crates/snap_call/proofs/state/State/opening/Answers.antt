use Rattle.snap_call.proofs.Kept.{good_opening, good_step}
use Rattle.snap_call.proofs.Opening.{saved_config}
use Rattle.snap_call.proofs.Promising.{good_promised}
use Rattle.snap_call.proofs.state.State.opening.Goals as goal

pub returns-in_err-of-clause-good : goal.returns-in_err-of-clause-good
returns-in_err-of-clause-good c = good_opening c.args.config

pub returns-in_err-of-clause-new : goal.returns-in_err-of-clause-new
returns-in_err-of-clause-new c = λ is. good_opening c.args.config (saved_config c.args.config is)

pub returns-in_err-of-clause-keeps : goal.returns-in_err-of-clause-keeps
returns-in_err-of-clause-keeps c = good_step

pub returns-in_err-of-clause-promised : goal.returns-in_err-of-clause-promised
returns-in_err-of-clause-promised c = good_promised

pub returns-clause-good : goal.returns-clause-good
returns-clause-good c = good_opening c.args.config

pub returns-clause-new : goal.returns-clause-new
returns-clause-new c = λ is. good_opening c.args.config (saved_config c.args.config is)

pub returns-clause-keeps : goal.returns-clause-keeps
returns-clause-keeps c = good_step

pub returns-clause-promised : goal.returns-clause-promised
returns-clause-promised c = good_promised
