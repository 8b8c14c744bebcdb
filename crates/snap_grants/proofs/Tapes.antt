-- What a journal grants is what its sessions were granted.
use Rattle.std.proofs.Common.{arith, ◌≡◌, ℕ, zero, suc, ◌+◌, ◌<◌, eqb, Bool, true, false, true≢false, List, [], ◌∷◌, refl, sym, ap, ◌∙◌}
use Rattle.std.specs.Prelude.{cond, ◌==◌}
use Rattle.std.proofs.lemmas.Bool.{false_from_ne_true, eqb-true, eq-eqb}
use Rattle.snap_lease.proofs.ListLemmas.{all-filter}
use Rattle.snap_call.specs.declared.entry.Entry.{Entry}
use Rattle.snap_call.specs.declared.state.State.{State}
use Rattle.snap_call.specs.Records.{open_count}
use Rattle.snap_call.specs.Journal.{Replays, session_entries}
use Rattle.snap_grants.specs.Grants.{Stored, Origin, AreKeeping, IsOrigin, AreOrigins, grants, grant_of, sum_below, AreBelow, TapesLaw}
use Rattle.snap_grants.proofs.Law.{committed_law}

pub sum_same : (n : ℕ) (f g : ℕ → ℕ) → ((k : ℕ) → k < n → f k ≡ g k) → sum_below n f ≡ sum_below n g
sum_same zero f g same = refl
sum_same (suc n) f g same =
    let a = sum_same n f g (λ k low. same k (omega (arith, low))) in
    let b = same n (omega arith) in
    omega (arith, a, b)

-- at one place f is greater than g by `more`
pub sum_more : (n s more : ℕ) (f g : ℕ → ℕ) → s < n → (f s ≡ more + g s) → ((k : ℕ) → eqb s k ≡ false → f k ≡ g k) → sum_below n f ≡ more + sum_below n g
sum_more zero s more f g low here there = absurd (omega (arith, low))
sum_more (suc n) s more f g low here there = at (eqb s n) refl (λ below. sum_more n s more f g below here there)
  where
    at : (b : Bool) → eqb s n ≡ b → (s < n → sum_below n f ≡ more + sum_below n g) → sum_below n f + f n ≡ more + (sum_below n g + g n)
    at true is rest =
        let e = eqb-true s n is in
        let a = sum_same n f g (λ k low'. there k (false_from_ne_true (eqb s k) (λ y. let z = eqb-true s k y in absurd (omega (arith, z, e, low'))))) in
        let b : f n ≡ more + g n = ap f (sym e) ∙ here ∙ ap (λ x. more + g x) e in
        omega (arith, a, b)
    at false is rest =
        let ne : s < n = at_most (λ e. absurd (true≢false (sym (eq-eqb s n e) ∙ is))) in
        let a = rest ne in
        let b = there n is in
        omega (arith, a, b)
      where
        at_most : (s ≡ n → ⊥) → s < n
        at_most ne = omega (arith, low, ne)

pub nothing : (n : ℕ) → sum_below n (λ k. 0) ≡ 0
nothing zero = refl
nothing (suc n) = let a = nothing n in omega (arith, a)

pub split : (n : ℕ) (h : Stored → ℕ) (origin : ℕ → Origin) (es : List Entry) → AreBelow n es → grants h origin es ≡ sum_below n (λ k. grants h origin (session_entries es k))
split n h origin [] below = sym (nothing n)
split n h origin (e ∷ es) below =
    let rest = split n h origin es below.1 in
    let all = sum_more n e.session (grant_of h origin e.call e.given e.reply) (λ k. grants h origin (session_entries (e ∷ es) k)) (λ k. grants h origin (session_entries es k)) below.0
    (ap (λ (b : Bool). grants h origin (cond b (e ∷ session_entries es e.session) (session_entries es e.session))) (eq-eqb e.session e.session refl))
    (λ k other. ap (λ (b : Bool). grants h origin (cond b (e ∷ session_entries es k) (session_entries es k))) other) in
    omega (arith, rest, all)

pub tapes_law : (n : ℕ) (s : State) (es : List Entry) (t : State) → open_count s.records ≡ 0 → AreKeeping es → AreBelow n es → Replays s es t → TapesLaw n s es t
tapes_law n s es t idle keeps below replay origin are h =
    let a = committed_law s es t idle keeps replay origin are h in
    let b = split n h origin es below in
    omega (arith, a, b)

-- what is true of the whole journal's origins is true of those of one session
pub own_origins : (origin : ℕ → Origin) (es : List Entry) → AreOrigins origin es → (k : ℕ) → AreOrigins origin (session_entries es k)
own_origins origin es are k = all-filter (λ e. IsOrigin origin e.call e.reply) (λ e. e.session == k) es are
