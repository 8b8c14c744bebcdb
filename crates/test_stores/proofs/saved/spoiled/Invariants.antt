use Rattle.test_stores.proofs.saved.spoiled.Given as goal

abbrev pub ghosts-refused : goal.ghosts-refused
ghosts-refused g a = record { table = a.table }
