use Rattle.test_stores.proofs.worked.steps_of_a_world.Given as goal

abbrev pub ghosts-run_steps : goal.ghosts-run_steps
ghosts-run_steps g a = record { table = a.table }
