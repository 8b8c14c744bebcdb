use Rattle.std.proofs.Common.{inl}
use Rattle.snap_pair.proofs.PairLaws.{pair_keeps}
use Rattle.snap_durable.proofs.shorten.checkpoint.Goals as goal

pub returns-in-Err-clause-stands : goal.returns-in-Err-clause-stands
returns-in-Err-clause-stands g c = λ honest. pair_keeps c.args.pair honest

pub returns-in-Err-clause-crash : goal.returns-in-Err-clause-crash
returns-in-Err-clause-crash g c = λ honest x y left right. inl ((pair_keeps c.args.pair honest).crash x y left right)
