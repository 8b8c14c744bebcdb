use Rattle.std.proofs.Common.{◌+◌, suc, Option, drop, sym, ap, ◌∙◌}
use Rattle.std.specs.Prelude.{unwrap_or}
use Rattle.snap_merge.specs.declared.taken.Part.{Part}
use Rattle.snap_merge.specs.Row.{Row, part_in}
use Rattle.snap_merge.proofs.Rows.{rest_is}
use Rattle.snap_merge.proofs.taken.part_in.Goals as goal

pub returns-in-Some : goal.returns-in-Some
returns-in-Some c =
    let place = c.loop-dir.place in
    let n = c.args.name.now in
    let under = part_in (suc place) (drop (c.loop-dir.dir-index + 1) c.args.row.now) n in
    ap (λ (o : Option (Option Part)). unwrap_or o under) (sym c.in-Some.is)
    ∙ sym (c.part_here.ensures under)
    ∙ ap (λ (r : Row). part_in place r n) (sym (rest_is c.args.row.now c.loop-dir.dir-index c.dir-item.result c.loop-dir-test.true c.dir-item.is))
    ∙ c.loop-dir.invariant.shows
