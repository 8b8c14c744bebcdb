use Rattle.snap_durable.proofs.shortened.serve_and_shorten.Given as goal

abbrev pub ghosts-run : goal.ghosts-run
ghosts-run g a = record { table = a.table }
