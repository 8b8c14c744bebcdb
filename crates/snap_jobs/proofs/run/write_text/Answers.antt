use Rattle.std.proofs.Common.{ℕ, List, subst}
use Rattle.std.specs.Io.KnownBytes.{Appends}
use Rattle.snap_jobs.proofs.Writing.{whole}
use Rattle.snap_jobs.proofs.run.write_text.Goals as goal

pub returns-in-Err-clause-part : goal.returns-in-Err-clause-part
returns-in-Err-clause-part g c =
    let old = g.W.Write.contents c.args.output.now in
    let mid = g.W.Write.contents c.write_bytes.new.output in
    whole c.args.text.now old mid (g.W.Write.contents c.flush.new.self) (subst (λ (t : List ℕ). Appends old mid t) c.as_bytes.ensures.value c.in_ok-write_bytes.ensures.ok) c.in-Err.ensures.bytes
