use Rattle.std.proofs.Common.{◌≡◌, ◌≤◌, [], length, drop, sym, ap, ◌∙◌, arith, drop_of_length-le}
use Rattle.snap_record.specs.Updates.{named_keys, with_named}
use Rattle.snap_record.proofs.UpdateLemmas.{with_named-nil}
use Rattle.snap_record.proofs.update.with_named.Goals as goal

-- no path is left
pub returns : goal.returns
returns c =
    let past : length c.args.paths.now ≤ c.loop-path.path-index = omega arith in
    let none : drop c.loop-path.path-index c.args.paths.now ≡ [] = drop_of_length-le c.args.paths.now past in
    sym (with_named-nil c.loop-path.next c.args.given.now)
    ∙ ap (λ paths. with_named c.loop-path.next c.args.given.now (named_keys paths)) (sym none)
    ∙ c.loop-path.invariant.same
