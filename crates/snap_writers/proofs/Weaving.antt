-- One list for all jobs, in their order, of what each worker has for its own.
use Rattle.std.specs.Prelude.{◌==◌, cond}
use Rattle.std.specs.List.{AllZip}
use Rattle.std.proofs.Common.{◌≡◌, ℕ, suc, ◌+◌, ◌-◌, ◌<◌, Bool, true, false, true≢false, List, [], ◌∷◌, ◌++◌, length, refl, sym, ap, ◌∙◌, subst, arith}
use Rattle.std.proofs.lemmas.Bool.{eqb-true, eq-eqb}
use Rattle.snap_grants.specs.Grants.{Stored, sum_below}
use Rattle.snap_grants.proofs.Tapes.{nothing, sum_same}
use Rattle.snap_writers.specs.declared.job.Job.{Job}
use Rattle.snap_writers.specs.declared.job.Ended.{Ended}
use Rattle.snap_writers.specs.declared.job.Ended.TheVariants as ended
use Rattle.snap_writers.specs.Jobs.{Done, IsStoredOf, done, every, total, with_end}
use Rattle.snap_writers.proofs.Sums.{sum_first}

-- what is stored for one job, and for those after it
record Parts (inodes : ℕ) (j : Job) (e : Ended) (rest : List Done) (stored : List Stored) : Type 0 where
  front : List Stored
  back : List Stored
  both : stored ≡ front ++ back
  first : AllZip (IsStoredOf inodes) (with_end j e []) front
  others : AllZip (IsStoredOf inodes) rest back

parts : {inodes : ℕ} → (j : Job) (e : Ended) (rest : List Done) (stored : List Stored) → AllZip (IsStoredOf inodes) (with_end j e rest) stored → Parts inodes j e rest stored
parts j (ended.Committed id usage) rest [] p = absurd p
parts j (ended.Committed id usage) rest (s ∷ ss) p = record { front = s ∷ []; back = ss; both = refl; first = (p.0, tt); others = p.1 }
parts j e rest stored p = record { front = []; back = stored; both = refl; first = tt; others = p }

pub put_first : (inodes : ℕ) → (j : Job) (e : Ended) (rest : List Done) (front back : List Stored) → AllZip (IsStoredOf inodes) (with_end j e []) front → AllZip (IsStoredOf inodes) rest back → AllZip (IsStoredOf inodes) (with_end j e rest) (front ++ back)
put_first inodes j (ended.Committed id usage) rest [] back p q = absurd p
put_first inodes j (ended.Committed id usage) rest (s ∷ []) back p q = (p.0, q)
put_first inodes j (ended.Committed id usage) rest (s ∷ t ∷ ss) back p q = absurd p.1
put_first inodes j e rest [] back p q = q
put_first inodes j e rest (s ∷ ss) back p q = absurd p

total_append : (h : Stored → ℕ) (xs ys : List Stored) → total h (xs ++ ys) ≡ total h xs + total h ys
total_append h [] ys = omega arith
total_append h (x ∷ xs) ys = omega (arith, total_append h xs ys)

-- the others move up by one place, and what is left of the first goes last
abbrev turned : ℕ → List Stored → (ℕ → List Stored) → ℕ → List Stored
turned m last lists k = cond (k == m) last (lists (suc k))

turned_last : (m : ℕ) (last : List Stored) (lists : ℕ → List Stored) → turned m last lists m ≡ last
turned_last m last lists = ap (λ (b : Bool). cond b last (lists (suc m))) (eq-eqb m m refl)

turned_other : (m : ℕ) (last : List Stored) (lists : ℕ → List Stored) (k : ℕ) → k < m → turned m last lists k ≡ lists (suc k)
turned_other m last lists k low = by (k == m) refl
  where
    by : (b : Bool) → (k == m) ≡ b → cond b last (lists (suc k)) ≡ lists (suc k)
    by true e = absurd (omega (arith, low, eqb-true k m e))
    by false e = refl

-- ends that have a list of what each of n workers stored have one of all that was stored
pub record Woven (inodes : ℕ) (n : ℕ) (jobs : List Job) (ends : List Ended) (lists : ℕ → List Stored) : Type 0 where
  pub stored : List Stored
  pub of : AllZip (IsStoredOf inodes) (done jobs ends) stored
  pub total : (h : Stored → ℕ) → total h stored ≡ sum_below n (λ k. total h (lists k))

empty_zip : (inodes : ℕ) → (stored : List Stored) → AllZip (IsStoredOf inodes) [] stored → stored ≡ []
empty_zip inodes [] p = refl
empty_zip inodes (s ∷ ss) p = absurd p

other : (k m : ℕ) → (k == m) ≡ false → k ≡ m → ⊥
other k m e same = true≢false (sym (eq-eqb k m same) ∙ e)

-- what the workers have of the jobs after the first
moved : {inodes : ℕ} → (m : ℕ) (j : Job) (js : List Job) (e : Ended) (es : List Ended) (lists : ℕ → List Stored) (first : Parts inodes j e (done (every (suc m) m js) (every (suc m) m es)) (lists 0)) → ((k : ℕ) → k < suc m → AllZip (IsStoredOf inodes) (done (every (suc m) k (j ∷ js)) (every (suc m) k (e ∷ es))) (lists k))
    → (k : ℕ) → k < suc m → (b : Bool) → (k == m) ≡ b → AllZip (IsStoredOf inodes) (done (every (suc m) k js) (every (suc m) k es)) (cond b first.back (lists (suc k)))
moved {inodes = inodes} m j js e es lists first each k low true is = subst (λ i. AllZip (IsStoredOf inodes) (done (every (suc m) i js) (every (suc m) i es)) first.back) (sym (eqb-true k m is)) first.others
moved m j js e es lists first each k low false is = each (suc k) (omega (arith, low, other k m is))

weave : {inodes : ℕ} → (m : ℕ) (j : Job) (js : List Job) (e : Ended) (es : List Ended) (lists : ℕ → List Stored) (first : Parts inodes j e (done (every (suc m) m js) (every (suc m) m es)) (lists 0)) → Woven inodes (suc m) js es (turned m first.back lists) → Woven inodes (suc m) (j ∷ js) (e ∷ es) lists
weave {inodes = inodes} m j js e es lists first rest = record {
  stored = first.front ++ rest.stored;
  of = put_first inodes j e (done js es) first.front rest.stored first.first rest.of;
  total = λ h. total_append h first.front rest.stored ∙ sums h;
}
  where
    sums : (h : Stored → ℕ) → total h first.front + total h rest.stored ≡ sum_below (suc m) (λ k. total h (lists k))
    sums h = omega (
      arith,
      rest.total h,
      ap (total h) (turned_last m first.back lists),
      sum_same m (λ k. total h (turned m first.back lists k)) (λ k. total h (lists (suc k))) (λ k low. ap (total h) (turned_other m first.back lists k low)),
      sum_first m (λ k. total h (lists k)),
      ap (total h) first.both ∙ total_append h first.front first.back,
    )

-- the first job is the first worker's
first_of : {inodes : ℕ} → (m : ℕ) (j : Job) (js : List Job) (e : Ended) (es : List Ended) (stored : List Stored) → AllZip (IsStoredOf inodes) (done (every (suc m) 0 (j ∷ js)) (every (suc m) 0 (e ∷ es))) stored → Parts inodes j e (done (every (suc m) m js) (every (suc m) m es)) stored
first_of {inodes = inodes} m j js e es stored all = let one : suc m - 1 ≡ m = omega arith in parts j e (done (every (suc m) m js) (every (suc m) m es)) stored (subst (λ i. AllZip (IsStoredOf inodes) (with_end j e (done (every (suc m) i js) (every (suc m) i es))) stored) one all)

pub woven : {inodes : ℕ} → (m : ℕ) (jobs : List Job) (ends : List Ended) (lists : ℕ → List Stored) → length ends ≡ length jobs → ((k : ℕ) → k < suc m → AllZip (IsStoredOf inodes) (done (every (suc m) k jobs) (every (suc m) k ends)) (lists k)) → Woven inodes (suc m) jobs ends lists
woven {inodes = inodes} m [] [] lists size each = record {
  stored = [];
  of = tt;
  total = λ h. sym (sum_same (suc m) (λ k. total h (lists k)) (λ k. 0) (λ k low. ap (total h) (empty_zip inodes (lists k) (each k low))) ∙ nothing (suc m));
}
woven m [] (e ∷ es) lists size each = absurd (omega (arith, size))
woven m (j ∷ js) [] lists size each = absurd (omega (arith, size))
woven m (j ∷ js) (e ∷ es) lists size each =
    let first = first_of m j js e es (lists 0) (each 0 (omega arith)) in
    weave m j js e es lists first (woven m js es (turned m first.back lists) (omega (arith, size)) (λ k low. moved m j js e es lists first each k low (k == m) refl))

-- ---- ends, of which each is owed something

own_moved : (R : Job → Ended → Type 0) (m : ℕ) (j : Job) (js : List Job) (e : Ended) (es : List Ended) → ((k : ℕ) → k < suc m → AllZip R (every (suc m) k (j ∷ js)) (every (suc m) k (e ∷ es))) → (k : ℕ) → k < suc m → (b : Bool) → (k == m) ≡ b → AllZip R (every (suc m) k js) (every (suc m) k es)
own_moved R m j js e es each k low true is =
    let last : suc m - 1 ≡ k = omega (arith, eqb-true k m is) in
    subst (λ i. AllZip R (every (suc m) i js) (every (suc m) i es)) last (each 0 (omega arith)).1
own_moved R m j js e es each k low false is = each (suc k) (omega (arith, low, other k m is))

-- where each of n workers' ends are its jobs', so are all
pub own_woven : (R : Job → Ended → Type 0) (m : ℕ) (jobs : List Job) (ends : List Ended) → length ends ≡ length jobs → ((k : ℕ) → k < suc m → AllZip R (every (suc m) k jobs) (every (suc m) k ends)) → AllZip R jobs ends
own_woven R m [] [] size each = tt
own_woven R m [] (e ∷ es) size each = absurd (omega (arith, size))
own_woven R m (j ∷ js) [] size each = absurd (omega (arith, size))
own_woven R m (j ∷ js) (e ∷ es) size each = ((each 0 (omega arith)).0, own_woven R m js es (omega (arith, size)) (λ k low. own_moved R m j js e es each k low (k == m) refl))
