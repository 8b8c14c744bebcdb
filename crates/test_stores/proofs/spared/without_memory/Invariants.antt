use Rattle.test_stores.proofs.spared.without_memory.Given as goal

abbrev pub ghosts-spare : goal.ghosts-spare
ghosts-spare g a = record { table = a.table }
