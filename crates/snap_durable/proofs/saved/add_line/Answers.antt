use Rattle.std.proofs.Common.{◌≡◌, ◌≤◌, ℕ, List, length, ◌∷◌, [], ◌++◌, true, false, string_bytes, rules, sym, ap, subst, ◌∙◌, arith}
use Rattle.std.specs.Str.{is_utf8}
use Rattle.std.proofs.lemmas.Str.{IsUtf8-string_bytes, is_utf8-from_IsUtf8}
use Rattle.serde_json.specs.Written.{compact_text}
use Rattle.snap_log.specs.Texts.{is_line}
use Rattle.snap_marks.specs.declared.sums.Sums.{Sums}
use Rattle.snap_marks.specs.Marks.{chained, chained_lines}
use Rattle.snap_pieces.specs.Written.{line_data}
use Rattle.snap_session.proofs.ToldLaws.{kept_told}
use Rattle.snap_durable.proofs.SavedLaws.{is_saved, summed_more}
use Rattle.snap_durable.proofs.saved.add_line.Goals as goal

pub unreachable-requires : goal.unreachable-requires
unreachable-requires c =
    let text : c.as_bytes-bytes.result.now ≡ compact_text (line_data c.args.line.now) = search rules in
    let is : is_line c.as_bytes-bytes.result.now ≡ true = ap is_line text ∙ is_saved c.args.line.now in
    let bad : true ≡ false = sym is ∙ sym c.in_ok-push.ensures.is ∙ c.if-not-branch.true in
    absurd (cc)

pub returns-clause-sum : goal.returns-clause-sum
returns-clause-sum c = λ more.
    let text : c.as_bytes-bytes.result.now ≡ compact_text (line_data c.args.line.now) = search rules in
    ap (λ (s : Sums). chained_lines s.lines more) c.add.ensures
    ∙ ap (λ (t : List ℕ). chained_lines (chained c.args.sums.now.lines (t ++ 10 ∷ [])) more) text
    ∙ summed_more c.args.sums.now.lines c.args.line.now more

pub returns-clause-told : goal.returns-clause-told
returns-clause-told c =
    let text : c.as_bytes-bytes.result.now ≡ compact_text (line_data c.args.line.now) = search rules in
    let own : string_bytes c.in_ok-told.told ≡ compact_text (line_data c.args.line.now) = c.in_ok-told.ensures.text in
    let utf8 : is_utf8 (string_bytes c.in_ok-told.told) ≡ true = is_utf8-from_IsUtf8 _ (IsUtf8-string_bytes c.in_ok-told.told) in
    let low : length c.as_bytes-bytes.result.now ≤ 16777216 = omega arith in
    let fits : length (compact_text (line_data c.args.line.now)) ≤ 16777216 = subst (λ (t : List ℕ). length t ≤ 16777216) text low in
    record { read = λ s none. kept_told s c.args.line.now none (ap is_utf8 (sym own) ∙ utf8) fits c.in_ok-told.ensures.reads c.in_ok-told.ensures.back; fits = fits }
