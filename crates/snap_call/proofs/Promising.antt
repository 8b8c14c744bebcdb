-- What a good state promises.
use Rattle.snap_call.specs.declared.state.State.{State}
use Rattle.snap_call.specs.Good.{Good}
use Rattle.snap_call.specs.Promised.{Promised}

pub good_promised : (s : State) → Good s → Promised s
good_promised s good = good.promised
