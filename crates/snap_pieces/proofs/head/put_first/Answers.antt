use Rattle.snap_pieces.proofs.head.put_first.Goals as goal

pub returns-clause-is : goal.returns-clause-is
returns-clause-is c = (c.kind_parts-kind.ensures.is, c.put_number.ensures.wide)
