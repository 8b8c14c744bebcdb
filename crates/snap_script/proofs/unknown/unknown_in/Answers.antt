use Rattle.std.proofs.Common.{sym, ap, ◌∙◌}
use Rattle.std.specs.Prelude.{option_and_then}
use Rattle.snap_script.specs.Known.{unknown_among}
use Rattle.snap_script.proofs.UnknownFields.{none_unknown}
use Rattle.snap_script.proofs.unknown.unknown_in.Goals as goal

pub returns-then-are_known : goal.returns-then-are_known
returns-then-are_known c =
    let all = sym c.are_known.ensures ∙ c.if-are_known.true in
    sym (none_unknown c.args.common.now c.args.own.now c.in-Some.members.now all) ∙ ap (option_and_then (unknown_among c.args.common.now c.args.own.now)) c.in-Some.ensures
