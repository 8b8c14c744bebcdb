use Rattle.std.proofs.Common.{◌≡◌, ◌∙◌, ◌<◌, length, refl, sym, subst, IsTrue}
use Rattle.snap_log.specs.Log.{IsHonest, text_in}
use Rattle.snap_log.specs.Texts.{log_text}
use Rattle.snap_log.proofs.LogLaws.{log_keeps}
use Rattle.snap_pair.proofs.PairLaws.{first_counts, second_counts, second_of}
use Rattle.snap_pair.proofs.ReplacingLaws.{honest_in}
use Rattle.snap_pair.proofs.pair.Pair.replace.Goals as goal

pub returns-then-is_empty-clause-crash : goal.returns-then-is_empty-clause-crash
returns-then-is_empty-clause-crash g c = λ both f h left right.
    let replacing = c.begin.result in
    let honest = honest_in replacing both in
    let own : IsHonest c.args.self.second = (c.begin.ensures.honest honest).1 in
    c.begin.ensures.crash honest f h left right ∙ c.begin.ensures.counting
    ∙ sym (first_counts (text_in c.args.self.first) (text_in c.args.self.second) (c.if-is_empty.ensures.none own refl))

pub returns-in-Ok-clause-crash : goal.returns-in-Ok-clause-crash
returns-in-Ok-clause-crash g c = λ both f h left right.
    let replacing = c.begin-in-Ok.result in
    let honest = honest_in replacing both in
    let own : IsHonest c.args.self.second = (c.begin-in-Ok.ensures.honest honest).0 in
    c.begin-in-Ok.ensures.crash honest f h left right ∙ c.begin-in-Ok.ensures.counting
    ∙ sym (second_counts (text_in c.args.self.first) (text_in c.args.self.second) (c.if-is_empty.ensures.some own refl))

pub returns-in-Err-clause-crash : goal.returns-in-Err-clause-crash
returns-in-Err-clause-crash g c = λ honest f h left right.
    let second = c.args.self.second in
    let own : IsHonest second = subst (λ (disk : g.row.D.Denot). IsTrue (g.D.Disk.is_clean disk)) c.into_disk.ensures honest.1 in
    let some : 0 < length (text_in second) = c.if-is_empty.ensures.some own refl in
    let left_there : log_text h ≡ text_in second = (log_keeps second own).crash h (subst (λ (disk : g.row.D.Denot). g.D.Disk.may_leave disk h) c.into_disk.ensures right) in
    second_of f h (text_in second) some left_there ∙ left_there ∙ sym (second_counts (text_in c.args.self.first) (text_in second) some)
