use Rattle.snap_pair.specs.Pair.{lines_in}
use Rattle.snap_pair.specs.Texts.{pair_text}
use Rattle.snap_pair.proofs.PairLaws.{pair_keeps}
use Rattle.snap_durable.proofs.FilesServedLaws.{unread_leaves}
use Rattle.snap_durable.proofs.shortened.serve_and_shorten.Goals as goal

pub returns-in-Err-clause-crash : goal.returns-in-Err-clause-crash
returns-in-Err-clause-crash g c = λ honest x y one two.
    unread_leaves c.args.rebases (lines_in c.args.pair) (pair_text x y) (g.R.Read.remaining c.args.input.now) (g.W.Write.contents c.args.output.now) ((pair_keeps c.args.pair honest).crash x y one two)
