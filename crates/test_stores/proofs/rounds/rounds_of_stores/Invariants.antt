use Rattle.test_stores.proofs.rounds.rounds_of_stores.Given as goal

abbrev pub ghosts-strangers-N-StoreName : goal.ghosts-strangers-N-StoreName
ghosts-strangers-N-StoreName g a = record { table = a.new.0 }

abbrev pub ghosts-strangers-N-RoundName : goal.ghosts-strangers-N-RoundName
ghosts-strangers-N-RoundName g a = record { rounds = a.new.1 }

abbrev pub ghosts-four_rounds-N-StoreName : goal.ghosts-four_rounds-N-StoreName
ghosts-four_rounds-N-StoreName g a = record { table = a.new.0 }

abbrev pub ghosts-four_rounds-N-RoundName : goal.ghosts-four_rounds-N-RoundName
ghosts-four_rounds-N-RoundName g a = record { rounds = a.new.1 }
