use Rattle.test_stores.proofs.saved.new_saved.Given as goal

abbrev pub ghosts-saved : goal.ghosts-saved
ghosts-saved g a = record { table = a.table }
