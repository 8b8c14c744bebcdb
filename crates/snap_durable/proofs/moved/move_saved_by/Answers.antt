use Rattle.std.proofs.Common.{◌≡◌, None, subst}
use Rattle.std.specs.Prelude.{IfSome, option_copied}
use Rattle.snap_lines.specs.Transcripts.{Tells, transcript}
use Rattle.snap_session.specs.Script.{RunnerValue, effect_of}
use Rattle.snap_durable.proofs.MovedLaws.{saved_unmoved_all}
use Rattle.snap_durable.proofs.moved.move_saved_by.Goals as goal

pub returns-clause-why : goal.returns-clause-why
returns-clause-why g c =
    let first = g.R.Read.remaining c.args.input.now in
    saved_unmoved_all c.args.wanted.now first c.read_lines.new.taker (option_copied c.world.result) c.write_moved.result None None
    (subst (λ (r : RunnerValue). IfSome first (λ bytes. Tells (transcript None effect_of r bytes) None None None)) c.requires c.in_ok-read_lines.ensures.done)
    (subst (λ (r : RunnerValue). IfSome first (λ bytes. (transcript None effect_of r bytes).value ≡ c.read_lines.new.taker)) c.requires c.in_ok-read_lines.ensures.value)
    c.world.ensures c.write_moved.ensures.why
