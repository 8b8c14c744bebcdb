-- Texts, and what stands behind them.
use Rattle.std.proofs.Common.{◌≡◌, ◌≢◌, inl, inr, ℕ, ◌-◌, ◌<◌, ◌≤◌, ◌==◌, Bool, true, false, not, List, [], ◌∷◌, ◌++◌, length, take, drop, refl, sym, ◌∙◌, ap, arith}
use Rattle.std.proofs.lemmas.List.{take_at, take_rest}
use Rattle.std.proofs.lemmas.Bool.{cases_eq}
use Rattle.std.proofs.lemmas.Bool.Decides.{nat_tests}
use Rattle.snap_log.specs.Texts.{has_feed, text_from, log_text, AreLines, is_line}

-- a line feed among the first bytes is one among more
pub feed_among : (xs rest : List ℕ) → has_feed xs ≡ true → has_feed (xs ++ rest) ≡ true
feed_among [] rest h = absurd (cc)
feed_among (b ∷ xs) rest h = elim (cases_eq b 10) [
  | inl e ↦ grind (arith, nat_tests)
  | inr n ↦ let more : has_feed xs ≡ true = grind (arith, nat_tests) in
      let all : has_feed (xs ++ rest) ≡ true = feed_among xs rest more in grind (arith, nat_tests)
]

-- what ends the lines
pub closed : (g : ℕ) (d : List ℕ) → g ≢ 123 → log_text (g ∷ d) ≡ []
closed g d shut = grind (arith, nat_tests)

-- a line that begins with its brace
pub begun : (d : List ℕ) → has_feed d ≡ true → log_text (123 ∷ d) ≡ 123 ∷ text_from true d
begun d h = grind (arith, nat_tests)

-- one that lacks its feed
pub unbegun : (g : ℕ) (d : List ℕ) → has_feed d ≡ false → log_text (g ∷ d) ≡ []
unbegun g d h = elim (cases_eq g 123) [
  | inl e ↦ grind (arith, nat_tests)
  | inr n ↦ closed g d n
]

pub fed : (d : List ℕ) → text_from true (10 ∷ d) ≡ 10 ∷ log_text d
fed d = refl

pub unfed : (b : ℕ) (d : List ℕ) → b ≢ 10 → text_from true (b ∷ d) ≡ b ∷ text_from true d
unfed b d n = grind (arith, nat_tests)

-- at most one byte is no whole line
pub short : (file : List ℕ) → length file ≤ 1 → log_text file ≡ []
short [] low = refl
short (b ∷ []) low = unbegun b [] refl
short (b ∷ c ∷ more) low = absurd (omega arith)

-- what stands behind whole lines is read by itself, also where one of them has begun
wholes : (w : Bool) (xs rest : List ℕ) → (w ≡ true → has_feed xs ≡ true) → text_from w xs ≡ xs → text_from w (xs ++ rest) ≡ xs ++ log_text rest
wholes true [] rest has is = let none : false ≡ true = has refl in absurd (cc)
wholes false [] rest has is = refl
wholes true (b ∷ xs) rest has is =
    let some : has_feed (b ∷ xs) ≡ true = has refl in
    elim (cases_eq b 10) [
      | inl e ↦ let tail : text_from false xs ≡ xs = grind (arith, nat_tests) in
          let more : text_from false (xs ++ rest) ≡ xs ++ log_text rest = wholes false xs rest (λ no. absurd (cc)) tail in
          grind (arith, nat_tests)
      | inr n ↦ let tail : text_from true xs ≡ xs = grind (arith, nat_tests) in
          let within : has_feed xs ≡ true = grind (arith, nat_tests) in
          let more : text_from true (xs ++ rest) ≡ xs ++ log_text rest = wholes true xs rest (λ _. within) tail in
          grind (arith, nat_tests)
    ]
wholes false (b ∷ xs) rest has is =
    let brace : b ≡ 123 = grind (arith, nat_tests) in
    let within : has_feed xs ≡ true = grind (arith, nat_tests) in
    let tail : text_from true xs ≡ xs = grind (arith, nat_tests) in
    let more : text_from true (xs ++ rest) ≡ xs ++ log_text rest = wholes true xs rest (λ _. within) tail in
    let some : has_feed (xs ++ rest) ≡ true = feed_among xs rest within in
    grind (arith, nat_tests)

pub beside : (text rest : List ℕ) → AreLines text → log_text (text ++ rest) ≡ text ++ log_text rest
beside text rest lines = wholes false text rest (λ no. absurd (cc)) lines.whole

-- whole lines behind whole lines
pub joined : (text lines : List ℕ) → AreLines text → AreLines lines → AreLines (text ++ lines)
joined text lines is more = record { whole = beside text lines is ∙ ap (λ (l : List ℕ). text ++ l) more.whole }

-- a line that begins with its brace, and one that lacks its feed
starts : (b : ℕ) (file : List ℕ) (has : Bool) → has_feed file ≡ has → b ≡ 123 → (rest : List ℕ) × (file ≡ text_from true file ++ rest) → (rest : List ℕ) × (b ∷ file ≡ log_text (b ∷ file) ++ rest)
starts b file true has e more =
    let is : b ∷ text_from true file ≡ log_text (b ∷ file) = grind (arith, nat_tests) in
    (more.0, ap (λ (l : List ℕ). b ∷ l) more.1 ∙ ap (λ (l : List ℕ). l ++ more.0) is)
starts b file false has e more = (b ∷ file, ap (λ (l : List ℕ). l ++ b ∷ file) (sym (unbegun b file has)))

-- a file begins with its text
first_of : (w : Bool) (file : List ℕ) → (rest : List ℕ) × (file ≡ text_from w file ++ rest)
first_of true [] = ([], refl)
first_of false [] = ([], refl)
first_of true (b ∷ file) =
    let more : (rest : List ℕ) × (file ≡ text_from (not (b == 10)) file ++ rest) = first_of (not (b == 10)) file in
    (more.0, ap (λ (l : List ℕ). b ∷ l) more.1)
first_of false (b ∷ file) = elim (cases_eq b 123) [
  | inl e ↦ starts b file (has_feed file) refl e (first_of true file)
  | inr n ↦ (b ∷ file, ap (λ (l : List ℕ). l ++ b ∷ file) (sym (closed b file n)))
]

pub text_first : (file : List ℕ) → take (length (log_text file)) file ≡ log_text file
text_first file =
    let is : (rest : List ℕ) × (file ≡ log_text file ++ rest) = first_of false file in
    ap (λ (l : List ℕ). take (length (log_text file)) l) is.1 ∙ take_at (log_text file) is.0 (length (log_text file)) refl

-- a line keeps its feed
feed_kept : (file : List ℕ) → has_feed file ≡ true → has_feed (text_from true file) ≡ true
feed_kept [] has = absurd (cc)
feed_kept (b ∷ file) has = elim (cases_eq b 10) [
  | inl e ↦ grind (arith, nat_tests)
  | inr n ↦ let tail : has_feed file ≡ true = grind (arith, nat_tests) in
      let more : has_feed (text_from true file) ≡ true = feed_kept file tail in grind (arith, nat_tests)
]

kept_start : (b : ℕ) (file : List ℕ) (has : Bool) → has_feed file ≡ has → b ≡ 123 → text_from true (text_from true file) ≡ text_from true file → log_text (log_text (b ∷ file)) ≡ log_text (b ∷ file)
kept_start b file true has e more =
    let within : has_feed (text_from true file) ≡ true = feed_kept file has in
    let is : log_text (b ∷ file) ≡ b ∷ text_from true file = grind (arith, nat_tests) in
    let again : log_text (b ∷ text_from true file) ≡ b ∷ text_from true (text_from true file) = grind (arith, nat_tests) in
    ap log_text is ∙ again ∙ ap (λ (l : List ℕ). b ∷ l) more ∙ sym is
kept_start b file false has e more = ap log_text (unbegun b file has) ∙ sym (unbegun b file has)

-- the text of a file is whole lines
again : (w : Bool) (file : List ℕ) → text_from w (text_from w file) ≡ text_from w file
again true [] = refl
again false [] = refl
again true (b ∷ file) = ap (λ (l : List ℕ). b ∷ l) (again (not (b == 10)) file)
again false (b ∷ file) = elim (cases_eq b 123) [
  | inl e ↦ kept_start b file (has_feed file) refl e (again true file)
  | inr n ↦ ap log_text (closed b file n) ∙ sym (closed b file n)
]

pub text_lines : (file : List ℕ) → AreLines (log_text file)
text_lines file = record { whole = again false file }

-- lines begin with a brace
pub braced : (lines : List ℕ) → 0 < length lines → AreLines lines → lines ≡ 123 ∷ take (length lines - 1) (drop 1 lines)
braced [] some are = absurd (omega arith)
braced (b ∷ lines) some are = elim (cases_eq b 123) [
  | inl e ↦ ap (λ (x : ℕ). x ∷ lines) e ∙ ap (λ (l : List ℕ). 123 ∷ l) (sym (take_rest (b ∷ lines) 1))
  | inr n ↦ let none : [] ≡ b ∷ lines = sym (closed b lines n) ∙ are.whole in absurd (cc)
]

-- a line's bytes, and then its feed
fed_end : (mid : List ℕ) → has_feed (mid ++ 10 ∷ []) ≡ true
fed_end [] = refl
fed_end (b ∷ mid) = let more : has_feed (mid ++ 10 ∷ []) ≡ true = fed_end mid in grind (arith, nat_tests)

one : (mid : List ℕ) → has_feed mid ≡ false → text_from true (mid ++ 10 ∷ []) ≡ mid ++ 10 ∷ []
one [] none = refl
one (b ∷ mid) none =
    let rest : has_feed mid ≡ false = grind (arith, nat_tests) in
    let more : text_from true (mid ++ 10 ∷ []) ≡ mid ++ 10 ∷ [] = one mid rest in
    grind (arith, nat_tests)

-- one line is whole
pub one_line : (line : List ℕ) → is_line line ≡ true → AreLines (line ++ 10 ∷ [])
one_line [] is = absurd (cc)
one_line (b ∷ mid) is =
    let brace : b ≡ 123 = grind (arith, nat_tests) in
    let none : has_feed mid ≡ false = grind (arith, nat_tests) in
    let more : text_from true (mid ++ 10 ∷ []) ≡ mid ++ 10 ∷ [] = one mid none in
    let has : has_feed (mid ++ 10 ∷ []) ≡ true = fed_end mid in
    let all : log_text (b ∷ (mid ++ 10 ∷ [])) ≡ b ∷ (mid ++ 10 ∷ []) = grind (arith, nat_tests) in
    record { whole = all }

pub line_added : (lines line : List ℕ) → AreLines lines → is_line line ≡ true → AreLines (lines ++ (line ++ 10 ∷ []))
line_added lines line are is = joined lines (line ++ 10 ∷ []) are (one_line line is)
