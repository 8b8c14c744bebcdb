-- What a snapshot that is given back holds.
use Rattle.snap_ledger.specs.States.{ShareState}
use Rattle.snap_book.specs.declared.active.Held.{Held}
use Rattle.snap_book.specs.declared.active.Held.TheVariants.{Active, Sealed}

-- the share of the open snapshot, sealed or not
abbrev pub share_of : {N : Type 0} → Held N → ShareState
share_of (Active a) = a.share
share_of (Sealed a) = a.share
