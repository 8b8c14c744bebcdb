use Rattle.snap_session.proofs.run.replay_within.Given as goal

abbrev pub ghosts-run : goal.ghosts-run
ghosts-run g a = record { table = a.table }
