use Rattle.std.proofs.Common.{◌≡◌, ◌∙◌, inl, sym, subst, IsTrue}
use Rattle.snap_log.specs.Log.{IsHonest, text_in}
use Rattle.snap_log.specs.Texts.{log_text}
use Rattle.snap_log.proofs.LogLaws.{log_keeps}
use Rattle.snap_pair.specs.Pair.{ArePairHonest, PairKeeps}
use Rattle.snap_pair.specs.declared.pair.Pair.{Pair}
use Rattle.snap_pair.proofs.PairLaws.{second_keeps, second_of}
use Rattle.snap_pair.proofs.finish.finish_first.Goals as goal

pub returns-in-Err-NotKept-clause-not_kept : goal.returns-in-Err-NotKept-clause-not_kept
returns-in-Err-NotKept-clause-not_kept g c = subst (λ (p : Pair g.row.D.Denot g.D.Disk). ArePairHonest p → PairKeeps p (text_in c.args.second)) (sym c.of.ensures) (λ honest.
    second_keeps c.in-Err-NotKept.first c.args.second (text_in c.args.second) honest.0 (c.requires.counting honest.1) (log_keeps c.args.second honest.1))

pub returns-in-Err-NotKept-clause-crash : goal.returns-in-Err-NotKept-clause-crash
returns-in-Err-NotKept-clause-crash g c = λ both f h left right. inl ((returns-in-Err-NotKept-clause-not_kept g c both).crash f h left right)

pub returns-in-Err-Unknown-clause-crash : goal.returns-in-Err-Unknown-clause-crash
returns-in-Err-Unknown-clause-crash g c = λ both f h left right.
    let second = c.args.second in
    let own : IsHonest second = subst (λ (disk : g.row.D.Denot). IsTrue (g.D.Disk.is_clean disk)) c.into_disk.ensures both.1 in
    let there : log_text h ≡ text_in second = (log_keeps second own).crash h (subst (λ (disk : g.row.D.Denot). g.D.Disk.may_leave disk h) c.into_disk.ensures right) in
    inl (second_of f h (text_in second) (c.requires.counting own) there ∙ there)
