use Rattle.snap_durable.proofs.differs.SpaceDifferenceToJson.write.Goals as goal

pub returns : goal.returns
returns c = rw (← c.in_ok-token.ensures, ← c.in_ok-member.ensures, ← c.in_ok-member-2.ensures, ← c.in_ok-member-3.ensures) c.token-2.ensures
