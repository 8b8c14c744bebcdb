-- What the good state of a book promises.
use Rattle.snap_call.specs.declared.state.State.{State}
use Rattle.snap_call.specs.Good.{Good}
use Rattle.snap_call.specs.Promised.{Promised}
use Rattle.snap_call.proofs.Promising.{good_promised}

pub good_promises : (s : State) → Good s → Promised s
good_promises = good_promised
