use Rattle.snap_session.proofs.server.serve.Given as goal

abbrev pub ghosts-run : goal.ghosts-run
ghosts-run g a = record { table = a.table }
