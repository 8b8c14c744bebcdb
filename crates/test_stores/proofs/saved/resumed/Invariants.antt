use Rattle.test_stores.proofs.saved.resumed.Given as goal

abbrev pub ghosts-goes_on : goal.ghosts-goes_on
ghosts-goes_on g a = record { table = a.table }
