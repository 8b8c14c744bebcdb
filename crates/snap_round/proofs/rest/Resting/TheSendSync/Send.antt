use denote.Param.Send.{IsSend}
use Rattle.snap_round.specs.contracts.rest.Resting.{the_row}
use Rattle.snap_round.proofs.Sent.{send_resting}

pub send : IsSend the_row
send = send_resting
