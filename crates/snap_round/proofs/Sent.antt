-- A seat owns names alone, so it may go to any thread, and any thread may share it.
use denote.RattleType.{RattleType}
use denote.Builtin.{unit}
use denote.Param.Send.{IsSend, sendable}
use Rattle.atomic_table.specs.contracts.shared.Seat as seat
use Rattle.atomic_table.proofs.shared.Seat.TheSendSync.{the_send as seat_send}
use Rattle.snap_round.specs.contracts.rule.RoundView as view
use Rattle.snap_round.specs.contracts.rest.Resting.{the_row}

abbrev pub Seated : RattleType
Seated = seat.the_row unit view.the_row

seated_send : IsSend Seated
seated_send = seat_send unit view.the_row (search sendable)

pub send_resting : IsSend the_row
send_resting = record { owned = λ d vs. ((λ vss. (tt, (seated_send.owned d.seat vss.0, tt))), tt); leaving = λ k x vs. (tt, tt) }
