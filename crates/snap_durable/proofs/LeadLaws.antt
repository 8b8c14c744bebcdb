-- Lines that lead from one value to another, without what is written for them.
use Rattle.std.proofs.Common.{◌≡◌, ℕ, zero, suc, List, [], ◌∷◌, ◌++◌, take, Bool, true, false, Result, Ok, Err, refl, sym, ap, ◌∙◌, subst, append_assoc}
use Rattle.std.specs.Prelude.{if◌then◌else◌, ◌==◌, ◌&&◌, not}
use Rattle.snap_script.specs.declared.fault.Fault.{Fault}
use Rattle.snap_lines.specs.Effects.{Effect, Effects}
use Rattle.snap_lines.specs.Lines.{lines_of, without_feed, is_open}
use Rattle.snap_lines.specs.Transcripts.{transcript_from, goes_on, next_line, effect_at}
use Rattle.snap_lines.proofs.LineLaws.{feed_ended, line_split}
use Rattle.snap_durable.specs.Serves.{Serves, place_unlimited, told_whole}
use Rattle.snap_durable.specs.Parts.{lines_to_keep, line_limit, line_read}
use Rattle.snap_durable.proofs.ServeLaws.{whole_is}

-- these lines lead from one value to the other
abbrev pub Leads : {A : Type 0} → Effects A → A → List (List ℕ) → A → Type 0
Leads effect v [] w = v ≡ w
Leads {A} effect v (line ∷ lines) w = (e : Effect A) × (effect v (line_read line) ≡ Ok e) × Leads effect e.value lines w

leads_on : {A : Type 0} (effect : Effects A) (r : Result (Effect A) Fault) (n : ℕ) (v : A) (line : List ℕ) (lines : List (List ℕ)) (text : List ℕ) (w : A) → effect v (line_read line) ≡ r
    → ((x : A) (part : List ℕ) → transcript_from effect (place_unlimited (next_line n) x) lines ≡ told_whole part w → Leads effect x lines w)
    → goes_on (place_unlimited n v) line r (λ q. transcript_from effect q lines) ≡ told_whole text w → Leads effect v (line ∷ lines) w
leads_on effect (Err c) n v line lines text w same more is = absurd (cc (ap (λ t. t.fault) is))
leads_on effect (Ok e) n v line lines text w same more is =
    let t = transcript_from effect (place_unlimited (next_line n) e.value) lines in
    let t_is : t ≡ told_whole t.text w = whole_is t w (ap (λ x. x.fault) is) (ap (λ x. x.value) is) in
    (e, same, more e.value t.text t_is)

leads_at : {A : Type 0} (effect : Effects A) (lines : List (List ℕ)) (n : ℕ) (v : A) (text : List ℕ) (w : A) → transcript_from effect (place_unlimited n v) lines ≡ told_whole text w → Leads effect v lines w
unfolding effect_at line_read
leads_at effect [] n v text w is = ap (λ t. t.value) is
leads_at effect (line ∷ lines) n v text w is =
    leads_on effect (effect_at effect (place_unlimited n v) line) n v line lines text w refl (λ x part. leads_at effect lines (next_line n) x part w) is

pub leads_of : {A : Type 0} (effect : Effects A) (v : A) (lines : List (List ℕ)) (text : List ℕ) (w : A) → Serves effect v lines text w → Leads effect v lines w
leads_of effect v lines text w serves = leads_at effect lines 0 v text w (serves.is 0)

-- they lead to one value alone
same_value : {A : Type 0} (effect : Effects A) (v : A) (line : List ℕ) (e f : Effect A) → effect v line ≡ Ok e → effect v line ≡ Ok f → e ≡ f
same_value effect v line e f p q = let both : Ok e ≡ Ok f = sym p ∙ q in cc

pub leads_one : {A : Type 0} (effect : Effects A) (lines : List (List ℕ)) (v w z : A) → Leads effect v lines w → Leads effect v lines z → w ≡ z
leads_one effect [] v w z p q = sym p ∙ q
leads_one effect (line ∷ lines) v w z (e, p, more) (f, q, rest) =
    leads_one effect lines e.value w z more (subst (λ (x : Effect _). Leads effect x.value lines z) (sym (same_value effect v (line_read line) e f p q)) rest)

-- some lines, and then others
pub leads_split : {A : Type 0} (effect : Effects A) (a b : List (List ℕ)) (v z : A) → Leads effect v (a ++ b) z → (m : A) × Leads effect v a m × Leads effect m b z
leads_split effect [] b v z leads = (v, refl, leads)
leads_split effect (line ∷ a) b v z (e, p, more) = let rest = leads_split effect a b e.value z more in (rest.0, (e, p, rest.1), rest.2)

-- ---- the lines that are kept

-- each with its line feed
abbrev pub kept_lines : (List ℕ → Bool) → List (List ℕ) → List (List ℕ)
kept_lines changes [] = []
kept_lines changes (line ∷ lines) = if changes (line_read line) then (line_read line ++ 10 ∷ []) ∷ kept_lines changes lines else kept_lines changes lines

open_cut : (n : ℕ) (bytes : List ℕ) → is_open (take n (without_feed bytes)) ≡ true
open_cut zero bytes = refl
open_cut (suc n) [] = refl
open_cut (suc n) (b ∷ bytes) = by (open_cut n bytes) (b == 10) refl
  where
    by : is_open (take n (without_feed bytes)) ≡ true → (t : Bool) → (b == 10) ≡ t → is_open (take (suc n) (if t then [] else b ∷ without_feed bytes)) ≡ true
    by rest true e = refl
    by rest false e = subst (λ (t : Bool). (not t && is_open (take n (without_feed bytes))) ≡ true) (sym e) rest

pub read_open : (line : List ℕ) → is_open (line_read line) ≡ true
unfolding line_read
read_open line = open_cut line_limit line

take_again : (n : ℕ) (l : List ℕ) → take n (take n l) ≡ take n l
take_again zero l = refl
take_again (suc n) [] = refl
take_again (suc n) (x ∷ l) = ap (λ (r : List ℕ). x ∷ r) (take_again n l)

-- a line that was kept reads as it did
pub read_again : (line : List ℕ) → line_read (line_read line ++ 10 ∷ []) ≡ line_read line
unfolding line_read
read_again line = ap (take line_limit) (feed_ended (take line_limit (without_feed line)) (open_cut line_limit line)) ∙ take_again line_limit (without_feed line)

pub kept_are : (changes : List ℕ → Bool) (lines : List (List ℕ)) (more : List ℕ) → lines_of (lines_to_keep changes lines ++ more) ≡ kept_lines changes lines ++ lines_of more
kept_are changes [] more = refl
kept_are changes (line ∷ lines) more = by (kept_are changes lines more) (changes (line_read line))
  where
    r : List ℕ
    r = line_read line

    rest : List ℕ
    rest = lines_to_keep changes lines

    by : lines_of (lines_to_keep changes lines ++ more) ≡ kept_lines changes lines ++ lines_of more → (t : Bool) → lines_of ((if t then (r ++ 10 ∷ []) ++ rest else rest) ++ more) ≡ (if t then (r ++ 10 ∷ []) ∷ kept_lines changes lines else kept_lines changes lines) ++ lines_of more
    by same true =
        ap lines_of (append_assoc (r ++ 10 ∷ []) rest more ∙ append_assoc r (10 ∷ []) (rest ++ more))
        ∙ line_split r (rest ++ more) (read_open line)
        ∙ ap (λ (ls : List (List ℕ)). (r ++ 10 ∷ []) ∷ ls) same
    by same false = same
