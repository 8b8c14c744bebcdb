use Rattle.snap_replay.proofs.Declaring.{error_is, found_by, refused_by}
use Rattle.snap_replay.proofs.matches_of.Goals as goal

pub returns-in_err-try_get_matches_from-clause-refused :
    goal.returns-in_err-try_get_matches_from-clause-refused
returns-in_err-try_get_matches_from-clause-refused c =
    let error = c.in_err-try_get_matches_from.field-0.0 in
    error_is c.from_residual-in_err-try_get_matches_from.result error _ c.from_residual-in_err-try_get_matches_from.ensures.1
    (refused_by _ _ error c.in_ok-command.ensures.declared c.in_err-try_get_matches_from.ensures.passes)

pub returns-clause-found : goal.returns-clause-found
returns-clause-found c = found_by _ _ _ c.in_ok-command.ensures.declared c.in_ok-try_get_matches_from.ensures.matches
