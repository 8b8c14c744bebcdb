use Rattle.snap_durable.proofs.moved.move_saved.Given as goal

abbrev pub ghosts-run_saved : goal.ghosts-run_saved
ghosts-run_saved g a = record { table = a.table }
