use Rattle.std.proofs.Common.{◌≡◌, ap, subst, ◌∙◌}
use Rattle.snap_pair.specs.Pair.{PairKeeps, lines_in}
use Rattle.snap_pair.proofs.PairLaws.{pair_keeps}
use Rattle.snap_durable.proofs.HalfLaws.{joined_lines}
use Rattle.snap_durable.proofs.shorten.replay_pair.Goals as goal

pub returns-clause-lines : goal.returns-clause-lines
returns-clause-lines g c = λ honest.
    let same : lines_in c.join.result ≡ lines_in c.args.pair =
    ap (λ p. lines_in p) c.join.ensures ∙ joined_lines c.split-counting.result.counting c.replay-done.new.log c.split-counting.result.other c.split-counting.result.is_second c.replay-done.ensures.text ∙ ap (λ p. lines_in p) c.split-counting.ensures.same in
    subst (λ t. PairKeeps c.join.result t) same (pair_keeps c.join.result honest)
