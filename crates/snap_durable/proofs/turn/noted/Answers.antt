use Rattle.std.proofs.Common.{drop, subst}
use Rattle.snap_log.specs.Log.{text_in}
use Rattle.snap_durable.specs.Files.{IsWritten}
use Rattle.snap_durable.proofs.FileLaws.{noted_written}
use Rattle.snap_durable.proofs.turn.noted.Goals as goal

pub returns-in-Coming-clause-written : goal.returns-in-Coming-clause-written
returns-in-Coming-clause-written g c = λ h u w parts said is told.
    noted_written u w c.in-Coming.coming (drop c.args.from (text_in c.args.counting)) said parts c.note.result.beside (c.note.ensures.written h) (subst (IsWritten u) c.in-Coming.is is) told
