use Rattle.snap_jobs.proofs.run.write_jobs_within.Given as goal

abbrev pub ghosts-run-N-StoreName : goal.ghosts-run-N-StoreName
ghosts-run-N-StoreName g a = record { table = a.new.0 }

abbrev pub ghosts-run-N-RoundName : goal.ghosts-run-N-RoundName
ghosts-run-N-RoundName g a = record { rounds = a.new.1 }
