use Rattle.std.proofs.Common.{◌≡◌, rules, sym, ap, ◌∙◌}
use Rattle.snap_session.specs.Carried.{carried_of}
use Rattle.snap_session.proofs.Restoring.{begins_there}
use Rattle.snap_session.proofs.restore.begun_again.Goals as goal

pub with_carried-requires : goal.with_carried-requires
with_carried-requires g c =
    let own : c.in_ok-carried.carried ≡ carried_of c.in_ok-world.world.state = search rules in
    own ∙ ap carried_of (begins_there c.args.saved c.in_ok-world.world c.in_ok-world.ensures.restored ∙ sym c.open_round.ensures.opening)
