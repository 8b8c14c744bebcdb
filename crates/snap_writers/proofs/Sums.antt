-- Sums over numbers below a bound, and over sessions, each of which has a number of its own.
use Rattle.std.specs.Prelude.{◌==◌, cond, count_by}
use Rattle.std.specs.List.{AllByRecursion}
use Rattle.std.proofs.Common.{◌≡◌, ℕ, zero, suc, ◌+◌, ◌<◌, Bool, true, false, List, [], ◌∷◌, length, refl, sym, ap, ◌∙◌, arith}
use Rattle.std.proofs.lemmas.Bool.{eqb-true, eq-eqb}
use Rattle.std.proofs.lemmas.List.Sums.{sum_by-cons}
use Rattle.snap_tape.specs.Sessions.{AreOnce, has_session_number}
use Rattle.snap_tape.specs.Tapes.{SessionValue}
use Rattle.snap_grants.specs.Grants.{sum_below}
use Rattle.snap_grants.proofs.Tapes.{nothing, sum_more, sum_same}

-- the first number apart
pub sum_first : (n : ℕ) (f : ℕ → ℕ) → sum_below (suc n) f ≡ f 0 + sum_below n (λ k. f (suc k))
sum_first zero f = omega arith
sum_first (suc n) f = omega (arith, sum_first n f)

abbrev one_if : Bool → ℕ
one_if b = cond b 1 0

-- f of each session's number, added up
abbrev pub over : (ℕ → ℕ) → List SessionValue → ℕ
over f [] = 0
over f (s ∷ ss) = f s.number + over f ss

-- the same of those that have the number
abbrev held : (ℕ → ℕ) → List SessionValue → ℕ → ℕ
held f [] k = 0
held f (s ∷ ss) k = cond (s.number == k) (f s.number + held f ss k) (held f ss k)

sum_held : (n : ℕ) (f : ℕ → ℕ) (ss : List SessionValue) → AllByRecursion (λ s. s.number < n) ss → sum_below n (held f ss) ≡ over f ss
sum_held n f [] inside = nothing n
sum_held n f (s ∷ ss) inside =
    let rest = sum_held n f ss inside.1 in
    let all = sum_more n s.number (f s.number) (held f (s ∷ ss)) (held f ss) inside.0
    (ap (λ (b : Bool). cond b (f s.number + held f ss s.number) (held f ss s.number)) (eq-eqb s.number s.number refl))
    (λ k other. ap (λ (b : Bool). cond b (f s.number + held f ss k) (held f ss k)) other) in
    omega (arith, rest, all)

count-cons : (k : ℕ) (s : SessionValue) (ss : List SessionValue) → count_by (has_session_number k) (s ∷ ss) ≡ one_if (s.number == k) + count_by (has_session_number k) ss
count-cons k s ss = sum_by-cons (λ x. cond (has_session_number k x) 1 0) s ss

held_none : (f : ℕ → ℕ) (ss : List SessionValue) (k : ℕ) → count_by (has_session_number k) ss ≡ 0 → held f ss k ≡ 0
held_none f [] k none = refl
held_none f (s ∷ ss) k none = by (s.number == k) refl (held_none f ss k)
  where
    by : (b : Bool) → (s.number == k) ≡ b → (count_by (has_session_number k) ss ≡ 0 → held f ss k ≡ 0) → cond b (f s.number + held f ss k) (held f ss k) ≡ 0
    by true e rest = absurd (omega (arith, none, count-cons k s ss, ap one_if e))
    by false e rest = rest (omega (arith, none, count-cons k s ss, ap one_if e))

held_once : (f : ℕ → ℕ) (ss : List SessionValue) (k : ℕ) → count_by (has_session_number k) ss ≡ 1 → held f ss k ≡ f k
held_once f [] k once = absurd (omega (arith, once))
held_once f (s ∷ ss) k once = by (s.number == k) refl (held_once f ss k)
  where
    by : (b : Bool) → (s.number == k) ≡ b → (count_by (has_session_number k) ss ≡ 1 → held f ss k ≡ f k) → cond b (f s.number + held f ss k) (held f ss k) ≡ f k
    by true e rest =
        let none = held_none f ss k (omega (arith, once, count-cons k s ss, ap one_if e)) in
        omega (arith, none, ap f (eqb-true s.number k e))
    by false e rest = rest (omega (arith, once, count-cons k s ss, ap one_if e))

-- over all sessions of a round it is the sum over all numbers
pub over_once : (f : ℕ → ℕ) (ss : List SessionValue) → AreOnce ss → sum_below (length ss) f ≡ over f ss
over_once f ss once = sym (sum_same (length ss) (held f ss) f (λ k low. held_once f ss k (once.once k low))) ∙ sum_held (length ss) f ss once.inside
