-- What a mark leaves of the sums.
use Rattle.std.proofs.Common.{ap₂, length-append, append-nil, Option, None, ◌*◌, ◌+◌, ◌≡◌, ◌≤◌, ℕ, zero, suc, Bool, true, false, not, true≢false, codes, ◌==◌, List, [], ◌∷◌, ◌++◌, length, take, slice_index, refl, sym, ap, ◌∙◌, append_assoc}
use Rattle.std.specs.Prelude.{if◌then◌else◌, bytes_eq, is_none, ◌&&◌, ◌/◌, ◌%◌}
use Rattle.std.proofs.lemmas.Slice.Eq.{bytes_eq-Decides}
use Rattle.sha2.proofs.Facts256.{length-sha256}
use Rattle.hex.proofs.HexLemmas.{length-encode_with}
use Rattle.snap_marks.specs.declared.sums.Difference.{Difference}
use Rattle.std.specs.List.{list_all}
use Rattle.std.proofs.lemmas.List.{take-take, take_at}
use lib.Pointwise.{pointwise}
use Rattle.hex.specs.Hex.{encode_lower, encode_with, lower_digits}
use Rattle.snap_marks.specs.declared.sums.Sums.{Sums}
use Rattle.snap_marks.specs.Marks.{chained, chained_from, continued_text, first_part, head, head_continued, is_continued_line, is_mark_line, middle, stem, tail}
use Rattle.snap_marks.specs.Sums.{agreed, continued, differing, going_on, marks_agree, mark_compared, rebased, rebased_mark, what_differs}
use Rattle.snap_marks.specs.declared.sums.Differs.TheVariants.{Lines}

chosen : {A B : Type 0} (f : A → B) (t u : Bool) (x y z : A) (b : B) → f x ≡ b → f y ≡ b → f z ≡ b → f (if t then x else if u then y else z) ≡ b
chosen f true u x y z b p q r = p
chosen f false true x y z b p q r = q
chosen f false false x y z b p q r = r

module _ (s : Sums) (mark : List ℕ) where
  -- what holds of all that may be found
  by_cases : {B : Type 0} (f : Sums → B) (b : B) → f (rebased s) ≡ b → f (agreed s) ≡ b → f (differing s (what_differs s mark)) ≡ b → f (mark_compared s mark) ≡ b
  unfolding mark_compared
  by_cases f b p q r = chosen f (bytes_eq mark (rebased_mark s)) (bytes_eq mark (stem s.lines s.told ++ tail)) (rebased s) (agreed s) (differing s (what_differs s mark)) b p q r

  pub marked_lines : (mark_compared s mark).lines ≡ s.lines
  marked_lines = by_cases (λ (x : Sums). x.lines) s.lines refl refl refl

  pub marked_answers : (mark_compared s mark).answers ≡ s.answers
  marked_answers = by_cases (λ (x : Sums). x.answers) s.answers refl refl refl

  pub marked_told : (mark_compared s mark).told ≡ s.answers
  marked_told = by_cases (λ (x : Sums). x.told) s.answers refl refl refl

-- nothing differs, and the last line is a mark
pub whole_mark : (s : Sums) (mark : List ℕ) → s.differs ≡ None → mark ≡ stem s.lines s.told ++ tail → marks_agree (mark_compared s mark) ≡ true
unfolding mark_compared
whole_mark s mark none is = by (bytes_eq mark (rebased_mark s)) (bytes_eq mark (stem s.lines s.told ++ tail)) ((bytes_eq-Decides mark (stem s.lines s.told ++ tail)).1 is)
  where
    by : (t u : Bool) → u ≡ true → marks_agree (if t then rebased s else if u then agreed s else differing s (what_differs s mark)) ≡ true
    by true u e = refl
    by false true e = ap (λ (d : Option Difference). is_none d && true) none
    by false false e = absurd (cc)

pub whole_rebased : (s : Sums) (mark : List ℕ) → mark ≡ rebased_mark s → marks_agree (mark_compared s mark) ≡ true
unfolding mark_compared
whole_rebased s mark is = by (bytes_eq mark (rebased_mark s)) ((bytes_eq-Decides mark (rebased_mark s)).1 is)
  where
    by : (t : Bool) → t ≡ true → marks_agree (if t then rebased s else if bytes_eq mark (stem s.lines s.told ++ tail) then agreed s else differing s (what_differs s mark)) ≡ true
    by true e = refl
    by false e = absurd (cc)

-- ---- the text of a mark

-- no line feed stands in these bytes
abbrev pub IsOneLine : List ℕ → Type 0
IsOneLine bytes = list_all (λ b. not (b == 10)) bytes ≡ true

both : (p q : Bool) → p ≡ true → q ≡ true → (p && q) ≡ true
both p q h k = ap (λ t. t && q) h ∙ k

first_of : (b : ℕ) (bytes : List ℕ) → IsOneLine (b ∷ bytes) → not (b == 10) ≡ true
first_of b bytes h = by (not (b == 10)) (list_all (λ b. not (b == 10)) bytes) h
  where
    by : (p q : Bool) → (p && q) ≡ true → p ≡ true
    by true q h = refl
    by false q h = absurd (cc)

rest_of : (b : ℕ) (bytes : List ℕ) → IsOneLine (b ∷ bytes) → IsOneLine bytes
rest_of b bytes h = ap (λ t. t && list_all (λ b. not (b == 10)) bytes) (sym (first_of b bytes h)) ∙ h

open_both : (a b : List ℕ) → IsOneLine a → IsOneLine b → IsOneLine (a ++ b)
open_both [] b h k = k
open_both (x ∷ a) b h k = both (not (x == 10)) (list_all (λ b. not (b == 10)) (a ++ b)) (first_of x a h) (open_both a b (rest_of x a h) k)

-- a byte of them, or none
one_of : (bytes : List ℕ) (n : ℕ) → IsOneLine bytes → not (slice_index bytes n == 10) ≡ true
one_of [] n h = refl
one_of (b ∷ bytes) zero h = first_of b bytes h
one_of (b ∷ bytes) (suc n) h = one_of bytes n (rest_of b bytes h)

open_hex : (bytes : List ℕ) → IsOneLine (encode_lower bytes)
unfolding encode_with
open_hex [] = refl
open_hex (b ∷ bytes) = both _ _ (one_of lower_digits (b / 16) refl) (both _ _ (one_of lower_digits (b % 16) refl) (open_hex bytes))

pub open_mark : (lines answers end : List ℕ) → IsOneLine end → IsOneLine (stem lines answers ++ end)
open_mark lines answers end h =
    open_both (stem lines answers) end (open_both (first_part lines) (encode_lower answers) (open_both head (encode_lower lines ++ middle) refl (open_both (encode_lower lines) middle (open_hex lines) refl)) (open_hex answers)) h

-- what begins as a mark is one, though it were cut
pub begins_mark : (n : ℕ) (bytes : List ℕ) → length head ≤ n → is_mark_line (take n (head ++ bytes)) ≡ true
begins_mark n bytes low = ap (pointwise (λ a b. a == b) head) (take-take (length head) n (head ++ bytes) low ∙ take_at head bytes (length head) refl) ∙ refl

pub is_mark_text : (n : ℕ) (lines answers end : List ℕ) → length head ≤ n → is_mark_line (take n (stem lines answers ++ end)) ≡ true
is_mark_text n lines answers end low =
    let more : List ℕ = (encode_lower lines ++ middle) ++ (encode_lower answers ++ end) in
    ap (λ (m : List ℕ). is_mark_line (take n m)) (append_assoc (first_part lines) (encode_lower answers) end ∙ append_assoc head (encode_lower lines ++ middle) (encode_lower answers ++ end)) ∙ begins_mark n more low

-- ---- lengths

pub length_chained : (sum bytes : List ℕ) → length (chained sum bytes) ≡ 32
length_chained sum bytes = length-sha256 (sum ++ bytes)

length_hex : (bytes : List ℕ) → length bytes ≡ 32 → length (encode_lower bytes) ≡ 64
length_hex bytes is = length-encode_with lower_digits bytes ∙ ap (λ (n : ℕ). 2 * n) is

length_first : (lines : List ℕ) → length lines ≡ 32 → length (first_part lines) ≡ 101
length_first lines is =
    let begin : length head ≡ 24 = refl in
    let between : length middle ≡ 13 = refl in
    length-append head (encode_lower lines ++ middle)
    ∙ ap₂ (λ (m n : ℕ). m + n) begin (length-append (encode_lower lines) middle ∙ ap₂ (λ (m n : ℕ). m + n) (length_hex lines is) between)

-- a mark has 165 bytes and its end
pub length_mark : (lines answers end : List ℕ) → length lines ≡ 32 → length answers ≡ 32 → length (stem lines answers ++ end) ≡ 165 + length end
length_mark lines answers end p q =
    length-append (stem lines answers) end
    ∙ ap (λ (n : ℕ). n + length end) (length-append (first_part lines) (encode_lower answers) ∙ ap₂ (λ (m n : ℕ). m + n) (length_first lines p) (length_hex answers q))

-- ---- sums go on line by line

pub chained_more : (sum begun line rest : List ℕ) → IsOneLine line → chained_from sum begun (line ++ 10 ∷ rest) ≡ chained_from (chained sum ((begun ++ line) ++ 10 ∷ [])) [] rest
chained_more sum begun [] rest one = ap (λ (l : List ℕ). chained_from (chained sum (l ++ 10 ∷ [])) [] rest) (sym (append-nil begun))
chained_more sum begun (b ∷ line) rest one =
    let other : (b == 10) ≡ false = by (b == 10) (first_of b line one) in
    ap (λ (t : Bool). if t then chained_from (chained sum (begun ++ 10 ∷ [])) [] (line ++ 10 ∷ rest) else chained_from sum (begun ++ b ∷ []) (line ++ 10 ∷ rest)) other
    ∙ chained_more sum (begun ++ b ∷ []) line rest (rest_of b line one)
    ∙ ap (λ (l : List ℕ). chained_from (chained sum (l ++ 10 ∷ [])) [] rest) (append_assoc begun (b ∷ []) line)
  where
    by : (t : Bool) → not t ≡ true → t ≡ false
    by true h = absurd (cc)
    by false h = refl

-- ---- marks from which sums go on

-- no quote is among these bytes
abbrev IsQuoteless : List ℕ → Type 0
IsQuoteless bytes = list_all (λ b. not (34 == b)) bytes ≡ true

quoteless_at : (bytes : List ℕ) (n : ℕ) → IsQuoteless bytes → (34 == slice_index bytes n) ≡ false
quoteless_at [] n h = refl
quoteless_at (b ∷ bytes) zero h = by (34 == b) (list_all (λ b. not (34 == b)) bytes) h
  where
    by : (t q : Bool) → (not t && q) ≡ true → t ≡ false
    by true q h = absurd (cc)
    by false q h = refl
quoteless_at (b ∷ bytes) (suc n) h = quoteless_at bytes n (by (34 == b) (list_all (λ b. not (34 == b)) bytes) h)
  where
    by : (t q : Bool) → (not t && q) ≡ true → q ≡ true
    by true q h = absurd (cc)
    by false q h = h

-- behind a mark's head stands a digit, or no sum at all
no_quote : (lines more : List ℕ) → pointwise (λ a b. a == b) head_continued (take (length head_continued) (head ++ (encode_lower lines ++ (middle ++ more)))) ≡ false
unfolding encode_with
no_quote [] more = refl
no_quote (b ∷ lines) more =
    ap (λ (t : Bool). t && pointwise (λ a b. a == b) (codes ",\"continued\":\"") (take 14 (slice_index lower_digits (b % 16) ∷ (encode_lower lines ++ (middle ++ more))))) (quoteless_at lower_digits (b / 16) refl)

-- a mark that is compared is none of them, though it were cut
pub mark_goes_not : (n : ℕ) (lines answers end : List ℕ) → length head_continued ≤ n → is_continued_line (take n (stem lines answers ++ end)) ≡ false
mark_goes_not n lines answers end low =
    let more : List ℕ = encode_lower answers ++ end in
    let whole : stem lines answers ++ end ≡ head ++ (encode_lower lines ++ (middle ++ more)) =
    append_assoc (first_part lines) (encode_lower answers) end ∙ append_assoc head (encode_lower lines ++ middle) more ∙ ap (λ (l : List ℕ). head ++ l) (append_assoc (encode_lower lines) middle more) in
    ap (pointwise (λ a b. a == b) head_continued) (take-take (length head_continued) n (stem lines answers ++ end) low ∙ ap (take (length head_continued)) whole) ∙ no_quote lines more

-- one of them is a mark, and reads as one
pub continued_is : (n : ℕ) (lines answers : List ℕ) → length head_continued ≤ n → is_continued_line (take n (continued_text lines answers)) ≡ true
continued_is n lines answers low =
    let more : List ℕ = encode_lower lines ++ (encode_lower answers ++ tail) in
    ap (pointwise (λ a b. a == b) head_continued) (take-take (length head_continued) n (head_continued ++ more) low ∙ take_at head_continued more (length head_continued) refl) ∙ refl

pub continued_marks : (n : ℕ) (lines answers : List ℕ) → length head ≤ n → is_mark_line (take n (continued_text lines answers)) ≡ true
continued_marks n lines answers low =
    ap (λ (m : List ℕ). is_mark_line (take n m)) (append_assoc head (codes "\",\"continued\":\"") (encode_lower lines ++ (encode_lower answers ++ tail)))
    ∙ begins_mark n (codes "\",\"continued\":\"" ++ (encode_lower lines ++ (encode_lower answers ++ tail))) low

-- so a line that is no mark is none of them
pub unmarked_goes_not : (line : List ℕ) → is_mark_line line ≡ false → is_continued_line line ≡ false
unmarked_goes_not line h = by (is_continued_line line) refl
  where
    longer : (p q l : List ℕ) → pointwise (λ a b. a == b) (p ++ q) (take (length (p ++ q)) l) ≡ true → pointwise (λ a b. a == b) p (take (length p) l) ≡ true
    longer [] q l is = refl
    longer (x ∷ p) q [] is = absurd (cc)
    longer (x ∷ p) q (y ∷ l) is = both (x == y) (pointwise (λ a b. a == b) p (take (length p) l)) (one (x == y) _ is) (longer p q l (two (x == y) _ is))
      where
        one : (s t : Bool) → (s && t) ≡ true → s ≡ true
        one true t h = refl
        one false t h = absurd (cc)

        two : (s t : Bool) → (s && t) ≡ true → t ≡ true
        two true t h = h
        two false t h = absurd (cc)

    by : (t : Bool) → is_continued_line line ≡ t → is_continued_line line ≡ false
    by false is = is
    by true is = absurd (true≢false (sym (longer head (codes "\",\"continued\":\"") line is) ∙ h))

-- it has no line feed
pub open_continued : (lines answers : List ℕ) → IsOneLine (continued_text lines answers)
open_continued lines answers =
    open_both head_continued (encode_lower lines ++ (encode_lower answers ++ tail)) refl (open_both (encode_lower lines) (encode_lower answers ++ tail) (open_hex lines) (open_both (encode_lower answers) tail (open_hex answers) refl))

-- and 169 bytes
pub length_continued : (lines answers : List ℕ) → length lines ≡ 32 → length answers ≡ 32 → length (continued_text lines answers) ≡ 169
length_continued lines answers p q =
    let begin : length head_continued ≡ 39 = refl in
    let end : length tail ≡ 2 = refl in
    length-append head_continued (encode_lower lines ++ (encode_lower answers ++ tail))
    ∙ ap₂ (λ (m n : ℕ). m + n) begin (length-append (encode_lower lines) (encode_lower answers ++ tail) ∙ ap₂ (λ (m n : ℕ). m + n) (length_hex lines p) (length-append (encode_lower answers) tail ∙ ap₂ (λ (m n : ℕ). m + n) (length_hex answers q) end))

-- where all marks agree, sums go on from it
pub continued_goes : (s : Sums) (mark : List ℕ) → marks_agree s ≡ true → continued s mark ≡ going_on s mark
unfolding continued
continued_goes s mark h = ap (λ (t : Bool). if t then going_on s mark else differing s Lines) h

-- else it is told of those that were there
pub continued_differs : (s : Sums) (mark : List ℕ) → marks_agree s ≡ false → continued s mark ≡ differing s Lines
unfolding continued
continued_differs s mark h = ap (λ (t : Bool). if t then going_on s mark else differing s Lines) h
