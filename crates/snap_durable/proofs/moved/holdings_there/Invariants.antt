use Rattle.snap_durable.proofs.moved.holdings_there.Given as goal

abbrev pub ghosts-holdings_of : goal.ghosts-holdings_of
ghosts-holdings_of a = record { table = a.table }
