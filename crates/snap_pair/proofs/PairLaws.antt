-- Which of two texts counts, and what two logs keep together.
use Rattle.std.proofs.Common.{◌≡◌, ◌⊎◌, inl, inr, ℕ, ◌<◌, List, [], ◌∷◌, ◌++◌, length, refl, sym, ap, subst, ◌∙◌, arith}
use Rattle.sqlite_disk.specs.declared.Disk.{Ghosts}
use Rattle.snap_log.specs.Kept.{IsBeforeOrAfter}
use Rattle.snap_log.specs.Log.{IsHonest, Keeps, text_in}
use Rattle.snap_log.specs.Texts.{log_text}
use Rattle.snap_log.specs.declared.log.Log.{Log}
use Rattle.snap_log.proofs.LogLaws.{log_keeps}
use Rattle.snap_pair.specs.Pair.{ArePairHonest, PairKeeps, lines_in}
use Rattle.snap_pair.specs.declared.pair.Pair.{Pair}
use Rattle.snap_pair.specs.Texts.{counting, pair_text}

-- the first, where the second is empty
pub first_counts : (first second : List ℕ) → length second ≡ 0 → counting first second ≡ first
first_counts first [] none = refl
first_counts first (b ∷ bytes) none = absurd (omega arith)

-- else the second
pub second_counts : (first second : List ℕ) → 0 < length second → counting first second ≡ second
second_counts first [] some = absurd (omega arith)
second_counts first (b ∷ bytes) some = refl

-- files of which the second has no line
pub first_of : (c d second : List ℕ) → length second ≡ 0 → log_text d ≡ second → pair_text c d ≡ log_text c
first_of c d second none is = first_counts (log_text c) (log_text d) (ap (λ (t : List ℕ). length t) is ∙ none)

-- and of which it has one
pub second_of : (c d second : List ℕ) → 0 < length second → log_text d ≡ second → pair_text c d ≡ log_text d
second_of c d second some is = second_counts (log_text c) (log_text d) (subst (λ (t : List ℕ). 0 < length t) (sym is) some)

-- lines that are added to the first
pub added_first : (first second lines c d : List ℕ) → length second ≡ 0 → log_text d ≡ second → IsBeforeOrAfter first lines c → (pair_text c d ≡ counting first second) ⊎ (pair_text c d ≡ counting first second ++ lines)
added_first first second lines c d none is (inl e) = inl (first_of c d second none is ∙ e ∙ sym (first_counts first second none))
added_first first second lines c d none is (inr e) = inr (first_of c d second none is ∙ e ∙ ap (λ (t : List ℕ). t ++ lines) (sym (first_counts first second none)))

module _ {D : Type 0} {g : Ghosts D} (first second : Log D g) (text : List ℕ) where
  pub first_keeps : IsHonest second → length (text_in second) ≡ 0 → Keeps first text → PairKeeps (record { first = first; second = second }) text
  first_keeps honest none keeps =
      let own = log_keeps second honest in
      record {
        now = first_counts (text_in first) (text_in second) none ∙ keeps.now;
        crash = λ c d left right. first_of c d (text_in second) none (own.crash d right) ∙ keeps.crash c left;
        first = keeps.opens;
        second = own.opens;
      }

  pub second_keeps : IsHonest first → 0 < length text → Keeps second text → PairKeeps (record { first = first; second = second }) text
  second_keeps honest some keeps =
      record {
        now = second_counts (text_in first) (text_in second) (subst (λ (t : List ℕ). 0 < length t) (sym keeps.now) some) ∙ keeps.now;
        crash = λ c d left right. second_of c d text some (keeps.crash d right) ∙ keeps.crash d right;
        first = (log_keeps first honest).opens;
        second = keeps.opens;
      }

-- two logs keep the lines that count
pub pair_keeps : {D : Type 0} {g : Ghosts D} (p : Pair D g) → ArePairHonest p → PairKeeps p (lines_in p)
pair_keeps p honest = by (text_in p.second) refl
  where
    by : (t : List ℕ) → text_in p.second ≡ t → PairKeeps p (counting (text_in p.first) t)
    by [] is = first_keeps p.first p.second (text_in p.first) honest.1 (ap (λ (l : List ℕ). length l) is) (log_keeps p.first honest.0)
    by (b ∷ bytes) is = second_keeps p.first p.second (b ∷ bytes) honest.0 (omega arith) (subst (λ (l : List ℕ). Keeps p.second l) is (log_keeps p.second honest.1))

-- what counts in the file, with lines or without
pub either_in : (text lines c p : List ℕ) → p ≡ log_text c → IsBeforeOrAfter text lines c → (p ≡ text) ⊎ (p ≡ text ++ lines)
either_in text lines c p is (inl e) = inl (is ∙ e)
either_in text lines c p is (inr e) = inr (is ∙ e)

-- lines that were written into the second count, or they don't
pub either_counts : (first before lines c d : List ℕ) → 0 < length lines → log_text c ≡ first → before ≡ [] → IsBeforeOrAfter before lines d → (pair_text c d ≡ first) ⊎ (pair_text c d ≡ lines)
either_counts first before lines c d some is none (inl e) = inl (first_of c d before (ap (λ (t : List ℕ). length t) none) e ∙ is)
either_counts first before lines c d some is none (inr e) =
    let own : log_text d ≡ lines = e ∙ ap (λ (t : List ℕ). t ++ lines) none in
    inr (second_of c d lines some own ∙ own)
