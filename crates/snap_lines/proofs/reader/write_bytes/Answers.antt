use Rattle.std.proofs.Common.{◌-◌, ◌++◌, length, take, drop, sym, ap, subst, ◌∙◌, arith, length-take}
use lib.Seq.{take-add, take-take}
use Rattle.std.specs.Io.KnownBytes.{Appends}
use Rattle.snap_lines.proofs.KnownLaws.{Appends-trans, Appends-kept}
use Rattle.snap_lines.proofs.reader.write_bytes.Goals as goal
use Rattle.snap_lines.proofs.reader.write_bytes.Goals.{in-Ok, in-Err}

pub writes-preserved : goal.writes-preserved
writes-preserved g c =
    let done = c.writes.written in
    let xs = c.args.bytes.now in
    let before = c.writes.invariant in
    elim c.match-write.branch [
      | in-Ok w ↦
          let n = w.in-Ok.n in
          let fits = w.in-Ok.ensures.bound in
          let most = length-take (length xs - done) (drop done xs) in
          let joined = ap (λ l. take done xs ++ l) (take-take n (length xs - done) (drop done xs) (omega arith)) ∙ sym (take-add done n xs) ∙ ap (λ k. take k xs) (sym w.written-is) in
          let is = w.written-is in
          (omega arith, subst (Appends _ _) joined (Appends-trans _ _ _ _ _ before.1 w.in-Ok.ensures.bytes))
      | in-Err w ↦
          let is = w.written-is in
          (omega arith, subst (Appends _ _) (ap (λ k. take k xs) (sym is)) (Appends-kept _ _ _ _ before.1 w.in-Err.ensures.bytes))
    ]
