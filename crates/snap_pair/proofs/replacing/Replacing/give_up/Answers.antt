use Rattle.std.proofs.Common.{◌≡◌, ◌∙◌, List, ℕ, length, ap, sym, subst, IsTrue}
use Rattle.snap_log.specs.Log.{text_in}
use Rattle.snap_log.specs.Staged.{IsHonestStage}
use Rattle.snap_log.proofs.LogLaws.{log_keeps}
use Rattle.snap_pair.specs.Pair.{ArePairHonest, PairKeeps}
use Rattle.snap_pair.specs.declared.pair.Pair.{Pair}
use Rattle.snap_pair.proofs.PairLaws.{first_keeps, second_keeps}
use Rattle.snap_pair.proofs.replacing.Replacing.give_up.Goals as goal

pub returns-then-is_second-clause-kept : goal.returns-then-is_second-clause-kept
returns-then-is_second-clause-kept g c = subst (λ (p : Pair g.row.D.Denot g.D.Disk). ArePairHonest p → PairKeeps p (text_in c.args.self.counting)) (sym c.of.ensures) (λ honest.
    let other = c.give_up.result in
    let stage : IsHonestStage c.args.self.coming = subst (λ (disk : g.row.D.Denot). IsTrue (g.D.Disk.is_clean disk)) c.give_up.ensures.disk honest.1 in
    let none : length (text_in other) ≡ 0 = ap (λ (t : List ℕ). length t) (c.give_up.ensures.text ∙ c.args.self.none stage) in
    first_keeps c.args.self.counting other (text_in c.args.self.counting) honest.1 none (log_keeps c.args.self.counting honest.0))

pub returns-else-is_second-clause-kept : goal.returns-else-is_second-clause-kept
returns-else-is_second-clause-kept g c = subst (λ (p : Pair g.row.D.Denot g.D.Disk). ArePairHonest p → PairKeeps p (text_in c.args.self.counting)) (sym c.of-else-is_second.ensures) (λ honest.
    second_keeps c.give_up-else-is_second.result c.args.self.counting (text_in c.args.self.counting) honest.0 (c.args.self.some honest.1 c.if-is_second.false) (log_keeps c.args.self.counting honest.1))
