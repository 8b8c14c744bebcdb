use Rattle.snap_durable.proofs.moved.move_log.Given as goal

abbrev pub ghosts-run : goal.ghosts-run
ghosts-run g a = record { table = a.table }
