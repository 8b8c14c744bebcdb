use denote.Param.Send.{IsSync, part_keyless}
use Rattle.snap_round.specs.contracts.rest.Resting.{the_row}
use Rattle.snap_round.proofs.Sent.{send_resting}

pub sync : IsSync the_row
sync = record { shared = λ d b o κ q. part_keyless the_row send_resting q d b o }
