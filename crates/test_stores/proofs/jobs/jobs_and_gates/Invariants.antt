use Rattle.test_stores.proofs.jobs.jobs_and_gates.Given as goal

abbrev pub ghosts-end_so-N-StoreName : goal.ghosts-end_so-N-StoreName
ghosts-end_so-N-StoreName g a = record { table = a.new.0 }

abbrev pub ghosts-end_so-N-RoundName : goal.ghosts-end_so-N-RoundName
ghosts-end_so-N-RoundName g a = record { rounds = a.new.1 }

abbrev pub ghosts-without_slots-N-StoreName : goal.ghosts-without_slots-N-StoreName
ghosts-without_slots-N-StoreName g a = record { table = a.new.0 }

abbrev pub ghosts-without_slots-N-RoundName : goal.ghosts-without_slots-N-RoundName
ghosts-without_slots-N-RoundName g a = record { rounds = a.new.1 }
