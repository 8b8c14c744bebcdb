use Rattle.std.proofs.Common.{◌≡◌, ◌∙◌, ◌+◌, ◌-◌, ◌≤◌, ◌∷◌, [], List, ℕ, length, take, drop, sym, ap, subst, arith, true}
use Rattle.std.proofs.lemmas.List.{take_all, take_rest}
use Rattle.std.proofs.lemmas.List.{drop-drop}
use Rattle.snap_lines.specs.Lines.{lines_of, is_open}
use Rattle.snap_durable.specs.Parts.{line_limit}
use Rattle.snap_durable.proofs.LineLaws.{HasFirst, first_all, first_with}
use Rattle.snap_durable.proofs.changes.first_line.Goals as goal

pub returns-then-bytes-at-eq10-clause-lines : goal.returns-then-bytes-at-eq10-clause-lines
returns-then-bytes-at-eq10-clause-lines c =
    let bytes : List ℕ = c.args.bytes.now in
    let behind : List ℕ = c.split_at.result.1.now in
    let has : HasFirst bytes (take line_limit (take c.bytes.at bytes)) (drop (c.bytes.at + 1) bytes) = first_with bytes c.bytes.at (omega (arith, c.bytes-test.true)) c.bytes.invariant.1 c.if-bytes-at-eq10.true in
    let more : take (length behind - 1) (drop 1 behind) ≡ drop (c.bytes.at + 1) bytes = take_rest behind 1 ∙ ap (λ (l : List ℕ). drop 1 l) c.split_at.ensures.back ∙ drop-drop 1 c.bytes.at bytes in
    (has.0, (has.1.0 ∙ ap (λ (l : List ℕ). has.0 ∷ lines_of l) (sym more), has.1.1 ∙ ap (take line_limit) (sym c.split_at.ensures.front) ∙ sym c.line_read.ensures))

pub returns-clause-lines : goal.returns-clause-lines
returns-clause-lines c =
    let bytes : List ℕ = c.args.bytes.now in
    let at : length bytes ≤ c.bytes.at = omega arith in
    let all : take c.bytes.at bytes ≡ bytes = take_all c.bytes.at bytes at in
    let has : HasFirst bytes (take line_limit bytes) [] = first_all bytes c.requires (subst (λ (l : List ℕ). is_open l ≡ true) all c.bytes.invariant.1) in
    (has.0, (has.1.0, has.1.1 ∙ sym c.line_read-2.ensures))
