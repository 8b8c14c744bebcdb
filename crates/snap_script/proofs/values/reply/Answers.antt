use Rattle.snap_script.proofs.values.reply.Goals as goal

pub returns-in-Info : goal.returns-in-Info
returns-in-Info c = rw c.in-Info.is c.only-in-Info.ensures
