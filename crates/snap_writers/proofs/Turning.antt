-- Ends that are taken from the workers in turn.
use Rattle.std.specs.Prelude.{drop, get_or}
use Rattle.std.proofs.Common.{◌≡◌, ℕ, ◌+◌, ◌-◌, ◌<◌, ◌≤◌, List, [], ◌∷◌, ◌++◌, length, refl, sym, ap, subst, arith, ◌∙◌, zero, suc, ◌⊎◌, inl, inr, ⊎_elim}
use Rattle.std.proofs.lemmas.List.{append-nil, append_assoc, drop_all}
use Rattle.std.proofs.Math.Seq.{drop-cons}
use Rattle.snap_writers.specs.declared.job.Job.{Job}
use Rattle.snap_writers.specs.declared.job.Ended.{Ended}
use Rattle.snap_writers.specs.declared.job.Worked.{Worked}
use Rattle.snap_writers.specs.Jobs.{Each, ends_at, every, jobs_of}
use Rattle.snap_writers.proofs.Every.{passed_over, taken_up}

-- of a worker's ends the first `taken` are taken, and its next job is `skip` jobs away
pub record Taken (n k skip taken i : ℕ) (jobs : List Job) (ends mine : List Ended) : Type 0 where
  pub left : taken + length (every n skip (drop i jobs)) ≡ length mine
  pub goes : (fs : List Ended) → every n skip fs ≡ drop taken mine → every n k (ends ++ fs) ≡ mine

pub begins : (n k : ℕ) (jobs : List Job) (mine : List Ended) → length mine ≡ length (every n k jobs) → Taken n k k 0 0 jobs [] mine
begins n k jobs mine count = record { left = omega (arith, count); goes = λ fs e. e }

-- another worker's turn
pub waits : (n k skip taken i : ℕ) (jobs : List Job) (d : Job) (ends mine : List Ended) (e : Ended) → i < length jobs → 0 < skip → Taken n k skip taken i jobs ends mine → Taken n k (skip - 1) taken (i + 1) jobs (ends ++ e ∷ []) mine
waits n k zero taken i jobs d ends mine e low some was = absurd (omega (arith, some))
waits n k (suc s) taken i jobs d ends mine e low some was =
    let b : s ≡ suc s - 1 = omega arith in
    record {
      left = (let p = ap (λ (js : List Job). length js) (passed_over n (suc s) i jobs d low some) in let w = was.left in omega (arith, p, w));
      goes = λ fs e'. ap (every n k) (append_assoc ends (e ∷ []) fs) ∙ was.goes (e ∷ fs) (ap (λ m. every n m fs) b ∙ e');
    }

-- its own turn
pub gives : (n k taken i : ℕ) (jobs : List Job) (d : Job) (ends mine : List Ended) (e : Ended) → i < length jobs → drop taken mine ≡ e ∷ drop (taken + 1) mine → Taken n k 0 taken i jobs ends mine → Taken n k (n - 1) (taken + 1) (i + 1) jobs (ends ++ e ∷ []) mine
gives n k taken i jobs d ends mine e low next was = record {
  left = (let p = ap (λ (js : List Job). length js) (taken_up n 0 i jobs d low refl) in let w = was.left in omega (arith, p, w));
  goes = λ fs e'. ap (every n k) (append_assoc ends (e ∷ []) fs) ∙ was.goes (e ∷ fs) (ap (λ xs. e ∷ xs) e' ∙ sym next);
}

pub ends_all : (n k skip taken i : ℕ) (jobs : List Job) (ends mine : List Ended) → length jobs ≡ i → Taken n k skip taken i jobs ends mine → every n k ends ≡ mine
ends_all n k skip taken i jobs ends mine last was =
    let none : drop i jobs ≡ [] = drop_all i jobs (omega (arith, last)) in
    let p : length (every n skip (drop i jobs)) ≡ 0 = ap (λ (js : List Job). length (every n skip js)) none in
    let w = was.left in
    let rest : drop taken mine ≡ [] = drop_all taken mine (omega (arith, p, w)) in
    ap (every n k) (sym (append-nil ends)) ∙ was.goes [] (sym rest)

-- all workers, where it is the turn of one
pub record Turns (n turn round i : ℕ) (jobs : List Job) (ends : List Ended) (ws : List Worked) : Type 0 where
  pub later : (k : ℕ) → turn ≤ k → k < n → Taken n k (k - turn) round i jobs ends (ends_at ws k)
  pub before : (k : ℕ) → k < turn → Taken n k (n + k - turn) (round + 1) i jobs ends (ends_at ws k)

at_skip : (n k skip skip' taken taken' i : ℕ) (jobs : List Job) (ends mine : List Ended) → skip ≡ skip' → taken ≡ taken' → Taken n k skip taken i jobs ends mine → Taken n k skip' taken' i jobs ends mine
at_skip n k skip skip' taken taken' i jobs ends mine a b was = subst (λ s. Taken n k s taken' i jobs ends mine) a (subst (λ t. Taken n k skip t i jobs ends mine) b was)

pub record Next (n turn round i : ℕ) (jobs : List Job) (ends : List Ended) (ws : List Worked) : Type 0 where
  pub later : (k : ℕ) → turn < k → k < n → Taken n k (k - turn - 1) round i jobs ends (ends_at ws k)
  pub before : (k : ℕ) → k < turn → Taken n k (n + k - turn - 1) (round + 1) i jobs ends (ends_at ws k)
  pub here : Taken n turn (n - 1) (round + 1) i jobs ends (ends_at ws turn)

pub next_one : (n turn round i : ℕ) (jobs : List Job) (d : Job) (ends : List Ended) (ws : List Worked) (e : Ended) → i < length jobs → turn < n → drop round (ends_at ws turn) ≡ e ∷ drop (round + 1) (ends_at ws turn) → Turns n turn round i jobs ends ws → Next n turn round (i + 1) jobs (ends ++ e ∷ []) ws
next_one n turn round i jobs d ends ws e low here next was = record {
  later = λ k a b. waits n k (k - turn) round i jobs d ends (ends_at ws k) e low (omega (arith, a)) (was.later k (omega (arith, a)) b);
  before = λ k a. waits n k (n + k - turn) (round + 1) i jobs d ends (ends_at ws k) e low (omega (arith, a, here)) (was.before k a);
  here = gives n turn round i jobs d ends (ends_at ws turn) e low next (at_skip n turn (turn - turn) 0 round round i jobs ends (ends_at ws turn) (omega arith) refl (was.later turn (omega arith) here));
}

lt_or_ge : (k turn : ℕ) → (k < turn) ⊎ (turn ≤ k)
lt_or_ge k zero = inr (omega arith)
lt_or_ge zero (suc t) = inl (omega arith)
lt_or_ge (suc k) (suc t) = ⊎_elim (λ (a : k < t). inl (omega (arith, a))) (λ (a : t ≤ k). inr (omega (arith, a))) (lt_or_ge k t)

lt_or_eq : (k turn : ℕ) → k < turn + 1 → (k < turn) ⊎ (k ≡ turn)
lt_or_eq k turn low = ⊎_elim (λ (a : k < turn). inl a) (λ (a : turn ≤ k). inr (omega (arith, a, low))) (lt_or_ge k turn)

-- to the next worker
pub on : (n turn round i : ℕ) (jobs : List Job) (ends : List Ended) (ws : List Worked) → turn + 1 < n → Next n turn round i jobs ends ws → Turns n (turn + 1) round i jobs ends ws
on n turn round i jobs ends ws low was = record {
  later = λ k a b. at_skip n k (k - turn - 1) (k - (turn + 1)) round round i jobs ends (ends_at ws k) (omega arith) refl (was.later k (omega (arith, a)) b);
  before = λ k a. ⊎_elim (λ (lt : k < turn). at_skip n k (n + k - turn - 1) (n + k - (turn + 1)) (round + 1) (round + 1) i jobs ends (ends_at ws k) (omega arith) refl (was.before k lt)) (λ (eq : k ≡ turn). subst (λ m. Taken n m (n + m - (turn + 1)) (round + 1) i jobs ends (ends_at ws m)) (sym eq) (at_skip n turn (n - 1) (n + turn - (turn + 1)) (round + 1) (round + 1) i jobs ends (ends_at ws turn) (omega arith) refl was.here)) (lt_or_eq k turn a);
}

-- round to the first
pub round_again : (n turn round i : ℕ) (jobs : List Job) (ends : List Ended) (ws : List Worked) → turn + 1 ≡ n → Next n turn round i jobs ends ws → Turns n 0 (round + 1) i jobs ends ws
round_again n turn round i jobs ends ws last was = record {
  later = λ k a b. ⊎_elim (λ (lt : k < turn). at_skip n k (n + k - turn - 1) (k - 0) (round + 1) (round + 1) i jobs ends (ends_at ws k) (omega (arith, last)) refl (was.before k lt)) (λ (eq : k ≡ turn). subst (λ m. Taken n m (m - 0) (round + 1) i jobs ends (ends_at ws m)) (sym eq) (at_skip n turn (n - 1) (turn - 0) (round + 1) (round + 1) i jobs ends (ends_at ws turn) (omega (arith, last)) refl was.here)) (lt_or_eq k turn (omega (arith, b, last)));
  before = λ k a. absurd (omega (arith, a));
}

pub ends_are : (ws : List Worked) (k : ℕ) (d : Worked) → k < length ws → ends_at ws k ≡ (get_or ws k d).ends
ends_are [] k d low = absurd (omega (arith, low))
ends_are (w ∷ ws) zero d low = refl
ends_are (w ∷ ws) (suc k) d low = ends_are ws k d (omega (arith, low))

counted : (jobs : List Job) (n m k : ℕ) (ws : List Worked) → Each (λ k w. length w.ends ≡ length (jobs_of jobs (k + 1) n)) m ws → k < length ws → length (ends_at ws k) ≡ length (every n (m + k) jobs)
counted jobs n m k [] each low = absurd (omega (arith, low))
counted jobs n m zero (w ∷ ws) each low = let e : m + 1 - 1 ≡ m + 0 = omega arith in each.0 ∙ ap (λ s. length (every n s jobs)) e
counted jobs n m (suc k) (w ∷ ws) each low = let e : m + 1 + k ≡ m + suc k = omega arith in counted jobs n (m + 1) k ws each.1 (omega (arith, low)) ∙ ap (λ s. length (every n s jobs)) e

pub turns_begin : (jobs : List Job) (n : ℕ) (ws : List Worked) → length ws ≡ n → Each (λ k w. length w.ends ≡ length (jobs_of jobs (k + 1) n)) 0 ws → Turns n 0 0 0 jobs [] ws
turns_begin jobs n ws count each = record {
  later = λ k a b. at_skip n k k (k - 0) 0 0 0 jobs [] (ends_at ws k) (omega arith) refl (begins n k jobs (ends_at ws k) (let e : 0 + k ≡ k = omega arith in counted jobs n 0 k ws each (omega (arith, b, count)) ∙ ap (λ s. length (every n s jobs)) e));
  before = λ k a. absurd (omega (arith, a));
}

pub in_range : (n turn round i : ℕ) (jobs : List Job) (d : Job) (ends : List Ended) (ws : List Worked) → i < length jobs → turn < n → Turns n turn round i jobs ends ws → round < length (ends_at ws turn)
in_range n turn round i jobs d ends ws low here was =
    let w = (at_skip n turn (turn - turn) 0 round round i jobs ends (ends_at ws turn) (omega arith) refl (was.later turn (omega arith) here)).left in
    let p = ap (λ (js : List Job). length js) (taken_up n 0 i jobs d low refl) in
    omega (arith, w, p)

pub turned : (n turn round i : ℕ) (jobs : List Job) (ends : List Ended) (ws : List Worked) → length jobs ≡ i → turn < n → Turns n turn round i jobs ends ws → (k : ℕ) → k < n → every n k ends ≡ ends_at ws k
turned n turn round i jobs ends ws last here was k low = ⊎_elim
    (λ (lt : k < turn). ends_all n k (n + k - turn) (round + 1) i jobs ends (ends_at ws k) last (was.before k lt))
    (λ (ge : turn ≤ k). ends_all n k (k - turn) round i jobs ends (ends_at ws k) last (was.later k ge low))
    (lt_or_ge k turn)

-- the end that is taken next
pub taken_next : (mine : List Ended) (round : ℕ) (d : Ended) → round < length mine → drop round mine ≡ get_or mine round d ∷ drop (round + 1) mine
taken_next mine round d low = let s : suc round ≡ round + 1 = omega arith in drop-cons mine round d low ∙ ap (λ m. get_or mine round d ∷ drop m mine) s
