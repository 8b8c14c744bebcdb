-- A log's text is the whole lines that are left of it.
use Rattle.std.proofs.Common.{◌≡◌, ℕ, ◌+◌, ◌≤◌, ◌<◌, List, [], ◌∷◌, ◌++◌, length, Bool, true, false, refl, sym, ap, ◌∙◌, arith, append_assoc, append-nil, length-append}
use Rattle.std.specs.Prelude.{if◌then◌else◌, ◌==◌, ◌&&◌, ◌||◌, not, nat_le}
use Rattle.std.proofs.lemmas.Bool.Decides.{nat_tests}
use Rattle.snap_log.specs.Texts.{AreLines, has_feed, text_from}
use Rattle.snap_log.specs.Batches.{Batched, batched, with_line, with_byte, is_nothing, is_blank}
use Rattle.snap_durable.specs.Parts.{whole_in}

abbrev made : ℕ → List ℕ → List ℕ → Batched
made l w h = record { limit = l; whole = w; held = h }

-- a byte within a line is held
byte_held : (l : ℕ) (w h : List ℕ) (b : ℕ) → 0 < length h → length h < l → with_byte (made l w h) b ≡ made l w (h ++ b ∷ [])
byte_held l w h b some low =
    let test : ((is_nothing h && is_blank b) || nat_le l (length h)) ≡ false = grind (arith, nat_tests) in
    ap (λ (t : Bool). if t then made l w h else made l w (h ++ b ∷ [])) test

-- and so is a line's brace
brace_held : (l : ℕ) (w : List ℕ) → 0 < l → with_byte (made l w []) 123 ≡ made l w (123 ∷ [])
brace_held l w low =
    let test : nat_le l 0 ≡ false = grind (arith, nat_tests) in
    ap (λ (t : Bool). if t then made l w [] else made l w (123 ∷ [])) test

tail_is : (a b : ℕ) (xs ys : List ℕ) → a ∷ xs ≡ b ∷ ys → xs ≡ ys
tail_is a b xs ys is = cc

-- what is known within a line, and before one
abbrev Stands : Bool → List ℕ → List ℕ → Type 0
Stands true h bytes = (has_feed bytes ≡ true) × (0 < length h)
Stands false h bytes = h ≡ []

behind : (w h bytes : List ℕ) → (w ++ (h ++ 10 ∷ [])) ++ bytes ≡ w ++ (h ++ 10 ∷ bytes)
behind w h bytes = append_assoc w (h ++ 10 ∷ []) bytes ∙ ap (λ (x : List ℕ). w ++ x) (append_assoc h (10 ∷ []) bytes)

pub all_at : (within : Bool) (l : ℕ) (w h bytes : List ℕ) → text_from within bytes ≡ bytes → Stands within h bytes → length h + length bytes ≤ l → batched (made l w h) bytes ≡ made l (w ++ (h ++ bytes)) []
all_at true l w h [] is (feed, some) low = absurd (cc)
all_at false l w h [] is none low = ap (made l w) none ∙ ap (λ (x : List ℕ). made l x []) (sym (append-nil w)) ∙ ap (λ (x : List ℕ). made l (w ++ (x ++ [])) []) (sym none)
all_at true l w h (b ∷ bytes) is (feed, some) low = by (λ within w h. all_at within l w h bytes) (b == 10) refl
  where
    by : ((within : Bool) (w h : List ℕ) → text_from within bytes ≡ bytes → Stands within h bytes → length h + length bytes ≤ l → batched (made l w h) bytes ≡ made l (w ++ (h ++ bytes)) [])
        → (t : Bool) → (b == 10) ≡ t → (if t then batched (with_line (made l w h)) bytes else batched (with_byte (made l w h) b) bytes) ≡ made l (w ++ (h ++ b ∷ bytes)) []
    by rest_of true e =
        let ten : b ≡ 10 = grind (arith, nat_tests) in
        let rest : text_from false bytes ≡ bytes = ap (λ (t : Bool). text_from (not t) bytes) (sym e) ∙ tail_is b b (text_from (not (b == 10)) bytes) bytes is in
        rest_of false (w ++ (h ++ 10 ∷ [])) [] rest refl (omega arith)
        ∙ ap (λ (x : List ℕ). made l x []) (behind w h bytes) ∙ ap (λ (x : ℕ). made l (w ++ (h ++ x ∷ bytes)) []) (sym ten)
    by rest_of false e =
        let rest : text_from true bytes ≡ bytes = ap (λ (t : Bool). text_from (not t) bytes) (sym e) ∙ tail_is b b (text_from (not (b == 10)) bytes) bytes is in
        let more : has_feed bytes ≡ true = ap (λ (t : Bool). t || has_feed bytes) (sym e) ∙ feed in
        ap (λ (t : Batched). batched t bytes) (byte_held l w h b some (omega arith))
        ∙ rest_of true w (h ++ b ∷ []) rest (more, omega (arith, length-append h (b ∷ []))) (omega (arith, length-append h (b ∷ [])))
        ∙ ap (λ (x : List ℕ). made l (w ++ x) []) (append_assoc h (b ∷ []) bytes)
all_at false l w h (b ∷ bytes) is none low = by (λ within w h. all_at within l w h bytes) ((b == 123) && has_feed bytes) refl is
  where
    by : ((within : Bool) (w h : List ℕ) → text_from within bytes ≡ bytes → Stands within h bytes → length h + length bytes ≤ l → batched (made l w h) bytes ≡ made l (w ++ (h ++ bytes)) [])
        → (t : Bool) → ((b == 123) && has_feed bytes) ≡ t → (if t then b ∷ text_from true bytes else []) ≡ b ∷ bytes → batched (made l w h) (b ∷ bytes) ≡ made l (w ++ (h ++ b ∷ bytes)) []
    by rest_of true e text =
        let brace : b ≡ 123 = grind (arith, nat_tests) in
        let feed : has_feed bytes ≡ true = grind (arith, nat_tests) in
        let rest : text_from true bytes ≡ bytes = tail_is b b (text_from true bytes) bytes text in
        ap (λ (x : List ℕ). batched (made l w x) (b ∷ bytes)) none ∙ ap (λ (x : ℕ). batched (made l w []) (x ∷ bytes)) brace
        ∙ ap (λ (t : Batched). batched t bytes) (brace_held l w (omega arith))
        ∙ rest_of true w (123 ∷ []) rest (feed, omega arith) (omega arith)
        ∙ ap (λ (x : ℕ). made l (w ++ x ∷ bytes) []) (sym brace) ∙ ap (λ (x : List ℕ). made l (w ++ (x ++ b ∷ bytes)) []) (sym none)
    by rest_of false e text = absurd (cc)

-- lines of a log are left as they are
pub whole_text : (limit : ℕ) (text : List ℕ) → AreLines text → length text ≤ limit → whole_in limit text ≡ text
whole_text limit text lines low = ap (λ s. s.whole) (all_at false limit [] [] text lines.whole refl (omega (arith, low)))
