use Rattle.std.proofs.Common.{codes, subst}
use Rattle.clap.specs.Words.{found_of}
use Rattle.clap.proofs.WalkLemmas.{one_text-rows}
use Rattle.snap_replay.specs.Words.{IsNumberOf}
use Rattle.snap_replay.proofs.Asking.{read_number}
use Rattle.snap_replay.proofs.times.Goals as goal

pub returns : goal.returns
returns c =
    let f = found_of c.args.words.now in
    let read = subst (λ o. IsNumberOf o c.get_one.result) (one_text-rows f (codes "checkpoint")) (read_number _ c.get_one.result c.get_one.ensures.none c.get_one.ensures.value) in
    (c.get_one.result, read, c.unwrap_or.ensures)
