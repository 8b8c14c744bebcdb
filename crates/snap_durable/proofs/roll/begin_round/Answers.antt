use Rattle.std.proofs.Common.{◌≡◌, ◌++◌, ℕ, List, sym, ap, ◌∙◌, subst, Bool, true, append_assoc}
use Rattle.snap_log.specs.Log.{text_in}
use Rattle.snap_log.proofs.TextLaws.{text_lines}
use Rattle.snap_lines.specs.Lines.{lines_of}
use Rattle.snap_session.specs.Kept.{counted_from, kept_so, mark_of, served_kept, would_change}
use Rattle.snap_durable.specs.Parts.{kept_of}
use Rattle.snap_durable.specs.Serves.{Serves}
use Rattle.snap_durable.specs.Turns.{GivesBack, IsRolled, IsStepped}
use Rattle.snap_durable.proofs.FileLaws.{lines_on}
use Rattle.snap_durable.proofs.CameLaws.{if_ok}
use Rattle.snap_durable.proofs.RollLaws.{has_rolled, has_stepped, if_both, if_both_err, if_err, one_roll, roll_added, roll_leaves, rolled_leaves, rolled_mark}
use Rattle.snap_durable.proofs.roll.begin_round.Goals as goal

pub returns-in-Err-clause-crash : goal.returns-in-Err-clause-crash
returns-in-Err-clause-crash g c = λ honest saved can gives x may.
    let v = c.args.server.now in
    let left = c.in-Err.ensures.crash honest x may in
    roll_leaves v c.args.line.now saved left.is_kept (text_in c.args.log) x can (lines_on c.args.log (c.in-Err.ensures.clean honest)) (text_lines x) gives
    (left.stands ∙ ap (λ (l : List ℕ). text_in c.args.log ++ kept_of (would_change v) (mark_of v) (record { whole = l; is_kept = left.is_kept })) c.as_slice.ensures.same)

pub returns-then-not-is_kept-clause-rolled : goal.returns-then-not-is_kept-clause-rolled
returns-then-not-is_kept-clause-rolled g c = λ saved can.
    let v = c.args.server.now in
    let u = c.serve_batch.new.taker in
    let k = c.in-Ok.kept.is_kept in
    let now = c.in-Ok.ensures.answered in
    let serves = subst (λ (l : List ℕ). Serves served_kept (kept_so k v) (lines_of l) now.text u) c.as_slice.ensures.same now.serves in
    let counts : c.count_from.new.self ≡ counted_from v.server.lines u = c.count_from.ensures ∙ ap (λ (n : ℕ). counted_from n u) c.lines-lines.ensures in
    subst (IsStepped v) (sym counts) (has_stepped v c.args.line.now saved can k u now.text serves)

pub returns-then-not-is_kept-clause-back : goal.returns-then-not-is_kept-clause-back
returns-then-not-is_kept-clause-back g c = λ saved can honest.
    let v = c.args.server.now in
    let u = c.serve_batch.new.taker in
    let k = c.in-Ok.kept.is_kept in
    let now = c.in-Ok.ensures.answered in
    let serves = subst (λ (l : List ℕ). Serves served_kept (kept_so k v) (lines_of l) now.text u) c.as_slice.ensures.same now.serves in
    let counts : c.count_from.new.self ≡ counted_from v.server.lines u = c.count_from.ensures ∙ ap (λ (n : ℕ). counted_from n u) c.lines-lines.ensures in
    let text : text_in c.in-Ok.kept.log ≡ text_in c.args.log ++ kept_of (would_change v) (mark_of v) (record { whole = c.args.line.now; is_kept = k }) =
    (c.in-Ok.ensures.kept honest).now ∙ ap (λ (l : List ℕ). text_in c.args.log ++ kept_of (would_change v) (mark_of v) (record { whole = l; is_kept = k })) c.as_slice.ensures.same in
    let clean = c.in-Ok.ensures.clean honest in (
      clean,
      λ gives. subst (GivesBack (text_in c.in-Ok.kept.log)) (sym counts)
          (roll_added v u k c.args.line.now now.text c.args.log c.in-Ok.kept.log (one_roll v c.args.line.now saved can) serves text v.server.lines clean honest gives),
    )

pub returns-then-not-is_kept-clause-longer : goal.returns-then-not-is_kept-clause-longer
returns-then-not-is_kept-clause-longer g c = λ honest. (_, (c.in-Ok.ensures.kept honest).now)

pub returns-clause-rolled : goal.returns-clause-rolled
returns-clause-rolled g c =
    let v = c.args.server.now in
    let u = c.serve_batch.new.taker in
    let k = c.in-Ok.kept.is_kept in
    let now = c.in-Ok.ensures.answered in
    let serves : Serves served_kept (kept_so true v) (lines_of c.args.line.now) now.text u =
    subst (λ (b : Bool). Serves served_kept (kept_so b v) (lines_of c.args.line.now) now.text u) c.if-not-is_kept.false (subst (λ (l : List ℕ). Serves served_kept (kept_so k v) (lines_of l) now.text u) c.as_slice.ensures.same now.serves) in
    let counts : c.count_from.new.self ≡ counted_from v.server.lines u = c.count_from.ensures ∙ ap (λ (n : ℕ). counted_from n u) c.lines-lines.ensures in
    if_ok c.add_mark.result (λ rolled goes. λ saved can.
    rolled_mark v c.count_from.new.self c.add_mark.new.server rolled.mark (subst (IsRolled v) (sym counts) (has_rolled v c.args.line.now saved can u now.text serves)) c.add_mark.ensures.server goes) c.add_mark.ensures.mark

pub returns-clause-back : goal.returns-clause-back
returns-clause-back g c =
    let v = c.args.server.now in
    let u = c.serve_batch.new.taker in
    let k = c.in-Ok.kept.is_kept in
    let now = c.in-Ok.ensures.answered in
    let serves = subst (λ (l : List ℕ). Serves served_kept (kept_so k v) (lines_of l) now.text u) c.as_slice.ensures.same now.serves in
    let counts : c.count_from.new.self ≡ counted_from v.server.lines u = c.count_from.ensures ∙ ap (λ (n : ℕ). counted_from n u) c.lines-lines.ensures in
    if_ok c.add_mark.result (λ rolled back. λ saved can honest.
    let it = back honest in
    let text : text_in c.in-Ok.kept.log ≡ text_in c.args.log ++ kept_of (would_change v) (mark_of v) (record { whole = c.args.line.now; is_kept = k }) =
    (c.in-Ok.ensures.kept it.0).now ∙ ap (λ (l : List ℕ). text_in c.args.log ++ kept_of (would_change v) (mark_of v) (record { whole = l; is_kept = k })) c.as_slice.ensures.same in
    let clean = c.in-Ok.ensures.clean it.0 in (
      clean,
      λ gives. it.1 (subst (GivesBack (text_in c.in-Ok.kept.log)) (sym counts) (roll_added v u k c.args.line.now now.text c.args.log c.in-Ok.kept.log (one_roll v c.args.line.now saved can) serves text v.server.lines clean it.0 gives)),
    )) c.add_mark.ensures.back

pub returns-clause-longer : goal.returns-clause-longer
returns-clause-longer g c =
    let text : List ℕ = text_in c.args.log in
    if_ok c.add_mark.result (λ rolled both. λ honest.
    let more = both.0 honest in
    let kept = (c.in-Ok.ensures.kept (both.1 honest).0).now in
    (_, more.1 ∙ ap (λ (t : List ℕ). t ++ more.0) kept ∙ append_assoc text _ more.0)) (if_both _ _ c.add_mark.result c.add_mark.ensures.longer c.add_mark.ensures.back)

pub returns-clause-crash : goal.returns-clause-crash
returns-clause-crash g c =
    let v = c.args.server.now in
    let u = c.serve_batch.new.taker in
    let k = c.in-Ok.kept.is_kept in
    let now = c.in-Ok.ensures.answered in
    let at_all = subst (λ (l : List ℕ). Serves served_kept (kept_so k v) (lines_of l) now.text u) c.as_slice.ensures.same now.serves in
    let serves : Serves served_kept (kept_so true v) (lines_of c.args.line.now) now.text u = subst (λ (b : Bool). Serves served_kept (kept_so b v) (lines_of c.args.line.now) now.text u) c.if-not-is_kept.false at_all in
    let counts : c.count_from.new.self ≡ counted_from v.server.lines u = c.count_from.ensures ∙ ap (λ (n : ℕ). counted_from n u) c.lines-lines.ensures in
    if_err c.add_mark.result (λ ended both. λ honest saved can gives x may.
    let here = both.1 honest in
    let text : text_in c.in-Ok.kept.log ≡ text_in c.args.log ++ kept_of (would_change v) (mark_of v) (record { whole = c.args.line.now; is_kept = k }) =
    (c.in-Ok.ensures.kept here).now ∙ ap (λ (l : List ℕ). text_in c.args.log ++ kept_of (would_change v) (mark_of v) (record { whole = l; is_kept = k })) c.as_slice.ensures.same in
    let back = subst (GivesBack (text_in c.in-Ok.kept.log)) (sym counts) (roll_added v u k c.args.line.now now.text c.args.log c.in-Ok.kept.log (one_roll v c.args.line.now saved can) at_all text v.server.lines (c.in-Ok.ensures.clean here) here gives) in
    rolled_leaves v c.count_from.new.self _ (subst (IsRolled v) (sym counts) (has_rolled v c.args.line.now saved can u now.text serves)) (both.0 honest back x may)) (if_both_err _ _ c.add_mark.result c.add_mark.ensures.crash c.add_mark.ensures.clean)

pub returns-clause-grows : goal.returns-clause-grows
returns-clause-grows g c =
    let text : List ℕ = text_in c.args.log in
    if_err c.add_mark.result (λ ended both. λ honest x may.
    let more = both.0 honest x may in
    let kept = (c.in-Ok.ensures.kept (both.1 honest)).now in
    (_, more.1 ∙ ap (λ (t : List ℕ). t ++ more.0) kept ∙ append_assoc text _ more.0)) (if_both_err _ _ c.add_mark.result c.add_mark.ensures.grows c.add_mark.ensures.clean)

pub returns-clause-clean : goal.returns-clause-clean
returns-clause-clean g c = if_err c.add_mark.result (λ ended clean. λ honest. c.in-Ok.ensures.clean (clean honest)) c.add_mark.ensures.clean
