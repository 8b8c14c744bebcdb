use Rattle.test_stores.proofs.session_life.a_round_of_one_session.Given as goal

abbrev pub ghosts-round-N-StoreName : goal.ghosts-round-N-StoreName
ghosts-round-N-StoreName g a = record { table = a.new.0 }

abbrev pub ghosts-round-N-RoundName : goal.ghosts-round-N-RoundName
ghosts-round-N-RoundName g a = record { rounds = a.new.1 }
