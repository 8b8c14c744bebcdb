use Rattle.snap_durable.proofs.shorten.checkpoint.Given as goal

abbrev pub ghosts-run : goal.ghosts-run
ghosts-run g a = record { table = a.table }
