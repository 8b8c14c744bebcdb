-- Lines that are served one batch after another.
use Rattle.std.proofs.Common.{◌≡◌, ◌≢◌, inl, inr, ℕ, List, [], ◌∷◌, ◌++◌, Result, Ok, Err, refl, sym, ap, ◌∙◌, append_assoc, Option, None, arith}
use Rattle.std.proofs.lemmas.Bool.{cases_eq}
use Rattle.std.proofs.lemmas.Bool.Decides.{nat_tests}
use Rattle.std.specs.Prelude.{if◌then◌else◌, ◌==◌}
use Rattle.std.specs.List.{onto_first}
use Rattle.snap_script.specs.declared.fault.Fault.{Fault}
use Rattle.snap_lines.specs.Effects.{Effect, Effects}
use Rattle.snap_lines.specs.Lines.{lines_of}
use Rattle.snap_lines.specs.Transcripts.{Transcript, prepended, transcript_from, Tells, transcript, effect_at, goes_on, next_line}
use Rattle.snap_durable.specs.Serves.{place_unlimited, told_whole, Serves}
use Rattle.snap_durable.specs.Served.{AreAnswered}

pub whole_is : {A : Type 0} (t : Transcript A) (w : A) → t.fault ≡ None → t.value ≡ w → t ≡ told_whole t.text w
whole_is t w fault value = ap (λ f. record { text = t.text; fault = f; value = t.value }) fault ∙ ap (λ v. told_whole t.text v) value

-- the number of the first line is of no account
alike_on : {A : Type 0} (effect : Effects A) (r : Result (Effect A) Fault) (n m : ℕ) (v : A) (line : List ℕ) (lines : List (List ℕ)) (text : List ℕ) (w : A)
    → ((x : A) (part : List ℕ) → transcript_from effect (place_unlimited (next_line n) x) lines ≡ told_whole part w → transcript_from effect (place_unlimited (next_line m) x) lines ≡ told_whole part w)
    → goes_on (place_unlimited n v) line r (λ q. transcript_from effect q lines) ≡ told_whole text w → goes_on (place_unlimited m v) line r (λ q. transcript_from effect q lines) ≡ told_whole text w
alike_on effect (Err c) n m v line lines text w more is = absurd (cc (ap (λ t. t.fault) is))
alike_on effect (Ok e) n m v line lines text w more is =
    let t = transcript_from effect (place_unlimited (next_line n) e.value) lines in
    let t_is : t ≡ told_whole t.text w = whole_is t w (ap (λ x. x.fault) is) (ap (λ x. x.value) is) in
    ap (prepended e.text) (more e.value t.text t_is ∙ sym t_is) ∙ is

alike : {A : Type 0} (effect : Effects A) (lines : List (List ℕ)) (n m : ℕ) (v : A) (text : List ℕ) (w : A)
    → transcript_from effect (place_unlimited n v) lines ≡ told_whole text w → transcript_from effect (place_unlimited m v) lines ≡ told_whole text w
unfolding effect_at
alike effect [] n m v text w is = is
alike effect (line ∷ lines) n m v text w is =
    alike_on effect (effect_at effect (place_unlimited m v) line) n m v line lines text w (λ x part. alike effect lines (next_line n) (next_line m) x part w) is

pub serves : {A : Type 0} (effect : Effects A) (v : A) (lines : List (List ℕ)) (text : List ℕ) (w : A) → transcript_from effect (place_unlimited 0 v) lines ≡ told_whole text w → Serves effect v lines text w
serves effect v lines text w is = record { is = λ n. alike effect lines 0 n v text w is }

-- no line
pub serves_none : {A : Type 0} (effect : Effects A) (v : A) → Serves effect v [] [] v
serves_none effect v = record { is = λ n. refl }

-- one batch of lines, and then another
more_on : {A : Type 0} (effect : Effects A) (r : Result (Effect A) Fault) (n : ℕ) (v : A) (line : List ℕ) (xs ys : List (List ℕ)) (text u : List ℕ) (w z : A)
    → ((x : A) (part : List ℕ) → transcript_from effect (place_unlimited (next_line n) x) xs ≡ told_whole part w → transcript_from effect (place_unlimited (next_line n) x) (xs ++ ys) ≡ told_whole (part ++ u) z)
    → goes_on (place_unlimited n v) line r (λ q. transcript_from effect q xs) ≡ told_whole text w → goes_on (place_unlimited n v) line r (λ q. transcript_from effect q (xs ++ ys)) ≡ told_whole (text ++ u) z
more_on effect (Err c) n v line xs ys text u w z more is = absurd (cc (ap (λ t. t.fault) is))
more_on effect (Ok e) n v line xs ys text u w z more is =
    let t = transcript_from effect (place_unlimited (next_line n) e.value) xs in
    let t_is : t ≡ told_whole t.text w = whole_is t w (ap (λ x. x.fault) is) (ap (λ x. x.value) is) in
    let text_is : e.text ++ t.text ≡ text = ap (λ x. x.text) is in
    ap (prepended e.text) (more e.value t.text t_is) ∙ ap (λ l. told_whole l z) (sym (append_assoc e.text t.text u) ∙ ap (λ l. l ++ u) text_is)

more_at : {A : Type 0} (effect : Effects A) (xs ys : List (List ℕ)) (n : ℕ) (v w z : A) (text u : List ℕ)
    → transcript_from effect (place_unlimited n v) xs ≡ told_whole text w → Serves effect w ys u z → transcript_from effect (place_unlimited n v) (xs ++ ys) ≡ told_whole (text ++ u) z
unfolding effect_at
more_at effect [] ys n v w z text u is then_is =
    let same : v ≡ w = ap (λ t. t.value) is in
    let none : [] ≡ text = ap (λ t. t.text) is in
    ap (λ x. transcript_from effect (place_unlimited n x) ys) same ∙ then_is.is n ∙ ap (λ l. told_whole (l ++ u) z) none
more_at effect (line ∷ xs) ys n v w z text u is then_is =
    more_on effect (effect_at effect (place_unlimited n v) line) n v line xs ys text u w z (λ x part x_is. more_at effect xs ys (next_line n) x w z part u x_is then_is) is

pub serves_more : {A : Type 0} (effect : Effects A) (v w z : A) (xs ys : List (List ℕ)) (text u : List ℕ) → Serves effect v xs text w → Serves effect w ys u z → Serves effect v (xs ++ ys) (text ++ u) z
serves_more effect v w z xs ys text u first then_is = record { is = λ n. more_at effect xs ys n v w z text u (first.is n) then_is }

-- bytes up to a line feed have lines of their own
some_lines : (a : List ℕ) → (l : List ℕ) × (ls : List (List ℕ)) × (lines_of (a ++ 10 ∷ []) ≡ l ∷ ls)
some_lines [] = (10 ∷ [], [], refl)
some_lines (x ∷ a) =
    let more : (l : List ℕ) × (ls : List (List ℕ)) × (lines_of (a ++ 10 ∷ []) ≡ l ∷ ls) = some_lines a in
    elim (cases_eq x 10) [
      | inl e ↦ (x ∷ [], lines_of (a ++ 10 ∷ []), grind (arith, nat_tests))
      | inr n ↦ (x ∷ more.0, more.1, starts x n (lines_of (a ++ 10 ∷ [])) ∙ ap (onto_first x) more.2)
    ]
  where
    starts : (x : ℕ) → x ≢ 10 → (ls : List (List ℕ)) → (if x == 10 then (x ∷ []) ∷ ls else onto_first x ls) ≡ onto_first x ls
    starts x n ls = grind (arith, nat_tests)

onto_more : (x : ℕ) (l : List ℕ) (ls ms : List (List ℕ)) → onto_first x ((l ∷ ls) ++ ms) ≡ onto_first x (l ∷ ls) ++ ms
onto_more x l ls ms = refl

chosen : (x : ℕ) (ks ls ms : List (List ℕ)) → ks ≡ ls ++ ms → (l : List ℕ) (more : List (List ℕ)) → ls ≡ l ∷ more → (if x == 10 then (x ∷ []) ∷ ks else onto_first x ks) ≡ (if x == 10 then (x ∷ []) ∷ ls else onto_first x ls) ++ ms
chosen x ks ls ms is l more some = elim (cases_eq x 10) [
  | inl e ↦ grind (arith, nat_tests)
  | inr n ↦ let all : onto_first x ks ≡ onto_first x ls ++ ms = ap (onto_first x) (is ∙ ap (λ z. z ++ ms) some) ∙ ap (λ z. onto_first x z ++ ms) (sym some) in grind (arith, nat_tests)
]

pub lines_more : (a b : List ℕ) → lines_of (a ++ 10 ∷ b) ≡ lines_of (a ++ 10 ∷ []) ++ lines_of b
lines_more [] b = refl
lines_more (x ∷ a) b =
    let some : (l : List ℕ) × (ls : List (List ℕ)) × (lines_of (a ++ 10 ∷ []) ≡ l ∷ ls) = some_lines a in
    chosen x (lines_of (a ++ 10 ∷ b)) (lines_of (a ++ 10 ∷ [])) (lines_of b) (lines_more a b) some.0 some.1 some.2

-- a batch that was told without a fault
pub answers : {A : Type 0} (effect : Effects A) (v w : A) (whole : List ℕ) (before after : Option (List ℕ)) → Tells (transcript None effect v whole) None before after → (transcript None effect v whole).value ≡ w
    → AreAnswered effect v whole w before after
unfolding transcript
answers effect v w whole before after told_is value_is = record {
  text = (transcript None effect v whole).text;
  serves = serves effect v (lines_of whole) (transcript None effect v whole).text w (whole_is (transcript None effect v whole) w told_is.0 value_is);
  written = told_is.1;
}
