use Rattle.snap_store.specs.Rounds.{round_of}
use Rattle.snap_store.proofs.store.begun.Given as goal

abbrev pub ghosts-known : goal.ghosts-known
ghosts-known g a = record { round = round_of a.book }
