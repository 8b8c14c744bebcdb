use Rattle.std.proofs.Common.{rules}
use Rattle.snap_ledger.proofs.Steps.{makes_charge_as}
use Rattle.snap_ledger.proofs.halves.Charge.made.Goals as goal

pub split_seat-seat-requires : goal.split_seat-seat-requires
split_seat-seat-requires g c = (search rules, search rules, makes_charge_as _ _ _ c.requires.slot.0)
