use Rattle.test_parts.proofs.charges.sixty_four_charges_in_a_row.Given as goal

abbrev pub ghosts-each_slot_is_issued_twice : goal.ghosts-each_slot_is_issued_twice
ghosts-each_slot_is_issued_twice g a = record { table = a.table }
