use Rattle.std.proofs.Common.{ap}
use Rattle.std.specs.Prelude.{option_copied}
use Rattle.snap_durable.proofs.MovedLaws.{written_all}
use Rattle.snap_durable.proofs.moved.write_moved.Goals as goal

pub returns-clause-moved : goal.returns-clause-moved
returns-clause-moved g c =
    written_all c.args.wanted.now (option_copied c.args.world) c.in-Some.world.now c.in_ok-lines.lines c.write_lines.result _ _ (ap option_copied c.in-Some.is) c.in_ok-lines.ensures.lines c.in_ok-lines.ensures.back c.in_ok-lines.ensures.same
    c.write_lines.ensures.told c.write_lines.ensures.written
