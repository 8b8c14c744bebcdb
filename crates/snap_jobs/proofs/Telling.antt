-- The lines of the jobs' ends, a job at a time, and those of answers, a question at a time.
use Rattle.std.specs.Prelude.{get_or, take}
use Rattle.std.proofs.Common.{◌≡◌, ℕ, zero, suc, ◌+◌, ◌<◌, List, [], ◌∷◌, ◌++◌, length, Option, sym, ap, ◌∙◌, arith, add-one, append-nil}
use Rattle.std.proofs.lemmas.List.{append_assoc}
use Rattle.snap_writers.specs.declared.job.Ended.{Ended}
use Rattle.snap_script.specs.declared.fault.Field.{Field}
use Rattle.snap_call.specs.declared.state.State.{State}
use Rattle.snap_script.specs.declared.unknown.FieldRule.{FieldRule}
use Rattle.snap_script.specs.Answers.{answer_line, answer_told}
use Rattle.snap_jobs.specs.declared.asked.Asked.{Asked}
use Rattle.snap_jobs.specs.Asked.{answer_to, answers_text}
use Rattle.snap_jobs.specs.Ends.{end_line, end_lines}

lines_suc : (tells : ℕ → Ended → Option Field) (n : ℕ) (ends : List Ended) (i : ℕ) (d : Ended) → i < length ends
    → end_lines tells n (take (suc i) ends) ≡ end_lines tells n (take i ends) ++ end_line (n + i) (tells (n + i) (get_or ends i d)) (get_or ends i d)
lines_suc tells n [] i d low = absurd (omega (arith, low))
lines_suc tells n (end ∷ ends) zero d low =
    let same : n ≡ n + 0 = omega arith in
    append-nil (end_line n (tells n end) end) ∙ ap (λ k. end_line k (tells k end) end) same
lines_suc tells n (end ∷ ends) (suc i) d low =
    let first = end_line n (tells n end) end in
    let before = end_lines tells (n + 1) (take i ends) in
    let last = get_or ends i d in
    let next : n + 1 + i ≡ n + suc i = omega arith in
    ap (λ (l : List ℕ). first ++ l) (lines_suc tells (n + 1) ends i d (omega (arith, low)))
    ∙ (sym (append_assoc first before (end_line (n + 1 + i) (tells (n + 1 + i) last) last))
    ∙ ap (λ k. (first ++ before) ++ end_line k (tells k last) last) next)

-- the line of one job more
pub lines_more : (tells : ℕ → Ended → Option Field) (ends : List Ended) (i : ℕ) (d : Ended) → i < length ends
    → end_lines tells 1 (take (i + 1) ends) ≡ end_lines tells 1 (take i ends) ++ end_line (i + 1) (tells (i + 1) (get_or ends i d)) (get_or ends i d)
lines_more tells ends i d low =
    let first : 1 + i ≡ i + 1 = omega arith in
    ap (λ k. end_lines tells 1 (take k ends)) (add-one i)
    ∙ (lines_suc tells 1 ends i d low ∙ ap (λ k. end_lines tells 1 (take i ends) ++ end_line k (tells k (get_or ends i d)) (get_or ends i d)) first)

-- the line of the answer to one question
abbrev pub answer_text : FieldRule → State → Asked → List ℕ
answer_text rule s asked = answer_line (answer_told rule (answer_to s asked))

answers_suc : (rule : FieldRule) (s : State) (all : List Asked) (i : ℕ) (d : Asked) → i < length all → answers_text rule s (take (suc i) all) ≡ answers_text rule s (take i all) ++ answer_text rule s (get_or all i d)
answers_suc rule s [] i d low = absurd (omega (arith, low))
answers_suc rule s (asked ∷ all) zero d low = append-nil (answer_text rule s asked)
answers_suc rule s (asked ∷ all) (suc i) d low =
    ap (λ (l : List ℕ). answer_text rule s asked ++ l) (answers_suc rule s all i d (omega (arith, low)))
    ∙ sym (append_assoc (answer_text rule s asked) (answers_text rule s (take i all)) (answer_text rule s (get_or all i d)))

-- the line of the answer to one question more
pub answers_more : (rule : FieldRule) (s : State) (all : List Asked) (i : ℕ) (d : Asked) → i < length all → answers_text rule s (take (i + 1) all) ≡ answers_text rule s (take i all) ++ answer_line (answer_told rule (answer_to s (get_or all i d)))
answers_more rule s all i d low = ap (λ k. answers_text rule s (take k all)) (add-one i) ∙ answers_suc rule s all i d low
