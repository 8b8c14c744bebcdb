-- Walks along parents, and what is out of the set between two steps.
use Rattle.std.proofs.Common.{◌≡◌, ◌⊎◌, inl, inr, ℕ, zero, suc, ◌+◌, ◌<◌, ◌≤◌, Bool, true, false, cond, List, [], ◌∷◌, Option, None, Some, length, get_or, set, slice_get, count_by, option_and_then, refl, sym, ap, subst, ◌∙◌, arith, true≢false, replicate}
use Rattle.std.proofs.lemmas.Bool.{cases_eq}
use Rattle.std.proofs.lemmas.List.{get_or-set_same, get_or-set_other, get_or-replicate, length-replicate, length-set}
use Rattle.std.proofs.lemmas.List.Sums.{sum_by-set}
use Rattle.std.proofs.lemmas.Option.{get_or_from_slice_get, slice_get-get_or, slice_get_within}
use Rattle.snap_lease.specs.Marks.{IsOut, IsClosed, TakesOutWalk}
use Rattle.snap_lease.specs.Reach.{ancestor, IsReached, HasParentsWithin, IsSweepSet}

Some-same : {X : Type 0} (x y : X) → Some x ≡ Some y → x ≡ y
Some-same x y e = cc

None-Some : {X : Type 0} (x : X) → None ≡ Some x → ⊥
None-Some x e = cc

-- a place that is out is in the list
pub IsOut-within : (swept : List Bool) (k : ℕ) → IsOut swept k → k < length swept
IsOut-within [] k out = absurd (true≢false out)
IsOut-within (b ∷ bs) zero out = omega arith
IsOut-within (b ∷ bs) (suc k) out = let rest : k < length bs = IsOut-within bs k out in omega (arith, rest)

-- a place that is taken out is out, and what was out stays out
IsOut-set_same : (swept : List Bool) (place : ℕ) → place < length swept → IsOut (set swept place false) place
IsOut-set_same swept place within = get_or-set_same swept place false true within

IsOut-set_cases : (swept : List Bool) (place k : ℕ) → IsOut (set swept place false) k → (k ≡ place) ⊎ IsOut swept k
IsOut-set_cases swept place k out =
    elim (cases_eq k place) [ inl same ↦ inl same | inr differ ↦ inr (sym (get_or-set_other swept place k false true differ) ∙ out) ]

IsOut-set_kept : (swept : List Bool) (place k : ℕ) → IsOut swept k → IsOut (set swept place false) k
IsOut-set_kept swept place k out =
    elim (cases_eq k place) [
      | inl same ↦ subst (IsOut (set swept place false)) (sym same) (IsOut-set_same swept place (subst (λ j. j < length swept) same (IsOut-within swept k out)))
      | inr differ ↦ get_or-set_other swept place k false true differ ∙ out
    ]

-- a walk from the root has come to `next`, which may still be in the set
pub record IsMidWalk (parents : List (Option ℕ)) (old now : List Bool) (root : ℕ) (next : Option ℕ) : Type 0 where
  pub same_length : length now ≡ length parents
  pub ahead : (p : ℕ) → next ≡ Some p → (p < length parents) × ((n : ℕ) × (ancestor parents n root ≡ Some p))
  pub closed : (k p : ℕ) → IsOut now k → get_or parents k None ≡ Some p → IsOut now p ⊎ (next ≡ Some p)
  pub root_out : IsOut now root ⊎ (next ≡ Some root)
  pub kept : (k : ℕ) → IsOut old k → IsOut now k
  pub only : (k : ℕ) → IsOut now k → IsOut old k ⊎ ((n : ℕ) × (ancestor parents n root ≡ Some k))

module _ (parents : List (Option ℕ)) (old : List Bool) (root : ℕ) where
  pub walk_begins : length old ≡ length parents → root < length parents → IsClosed parents old → IsMidWalk parents old old root (Some root)
  walk_begins same within closed = record {
    same_length = same;
    ahead = λ p e. (subst (λ j. j < length parents) (Some-same root p e) within, (0, e));
    closed = λ k p out parent. inl (closed k p out parent);
    root_out = inr refl;
    kept = λ k out. out;
    only = λ k out. inl out;
  }

  pub walk_steps : (now : List Bool) (place : ℕ) → HasParentsWithin parents → IsMidWalk parents old now root (Some place)
      → IsMidWalk parents old (set now place false) root (get_or parents place None)
  walk_steps now place inside at =
      let here = at.ahead place refl in
      let within : place < length now = omega (arith, here.0, at.same_length) in
      let taken : IsOut (set now place false) place = IsOut-set_same now place within in
      record {
        same_length = length-set now place false ∙ at.same_length;
        ahead = λ p e. (inside place p e, (suc here.1.0, ap (option_and_then (λ b. get_or parents b None)) here.1.1 ∙ e));
        closed = λ k p out parent. elim (IsOut-set_cases now place k out) [
          | inl same ↦ inr (ap (λ j. get_or parents j None) (sym same) ∙ parent)
          | inr before ↦ elim (at.closed k p before parent) [
            | inl done ↦ inl (IsOut-set_kept now place p done)
            | inr next ↦ inl (subst (IsOut (set now place false)) (Some-same place p next) taken)
          ]
        ];
        root_out = elim at.root_out [
          | inl done ↦ inl (IsOut-set_kept now place root done)
          | inr next ↦ inl (subst (IsOut (set now place false)) (Some-same place root next) taken)
        ];
        kept = λ k out. IsOut-set_kept now place k (at.kept k out);
        only = λ k out. elim (IsOut-set_cases now place k out) [
          | inl same ↦ inr (here.1.0, here.1.1 ∙ ap Some (sym same))
          | inr before ↦ at.only k before
        ];
      }

  -- it ends at a place without a parent
  pub walk_ends : (now : List Bool) → IsMidWalk parents old now root None → TakesOutWalk parents old now root
  walk_ends now at = record {
    closed = λ k p out parent. elim (at.closed k p out parent) [ inl done ↦ done | inr next ↦ absurd (None-Some p next) ];
    root_out = elim at.root_out [ inl done ↦ done | inr next ↦ absurd (None-Some root next) ];
    kept = at.kept;
    only = at.only;
  }

  -- or at one that is out already
  pub walk_meets : (now : List Bool) (place : ℕ) → IsMidWalk parents old now root (Some place) → IsOut now place → TakesOutWalk parents old now root
  walk_meets now place at out = record {
    closed = λ k p before parent. elim (at.closed k p before parent) [ inl done ↦ done | inr next ↦ subst (IsOut now) (Some-same place p next) out ];
    root_out = elim at.root_out [ inl done ↦ done | inr next ↦ subst (IsOut now) (Some-same place root next) out ];
    kept = at.kept;
    only = at.only;
  }

-- what one place adds to the count
abbrev one_if : Bool → ℕ
one_if b = cond b 1 0

-- each step takes one place out
pub count_falls : (now : List Bool) (place : ℕ) → place < length now → get_or now place true ≡ true → count_by (λ b. b) (set now place false) < count_by (λ b. b) now
count_falls now place within there =
    let one : one_if (get_or now place true) ≡ 1 = ap one_if there in
    omega (arith, one, sum_by-set (λ b. cond b 1 0) now place false true within)

-- the roots below i and what they reach are out, and nothing else
pub record IsMidSweep (parents : List (Option ℕ)) (roots now : List Bool) (i : ℕ) : Type 0 where
  pub same_length : length now ≡ length parents
  pub closed : IsClosed parents now
  pub roots_out : (r : ℕ) → r < i → slice_get roots r ≡ Some true → IsOut now r
  pub only : (k : ℕ) → IsOut now k → IsReached parents roots k

module _ (parents : List (Option ℕ)) (roots : List Bool) where
  none_out : (k : ℕ) → IsOut (replicate (length parents) true) k → ⊥
  none_out k out =
      let within : k < length (replicate (length parents) true) = IsOut-within (replicate (length parents) true) k out in
      true≢false (sym (get_or-replicate (length parents) k true true (omega (arith, within, length-replicate (length parents) true))) ∙ out)

  pub sweep_begins : IsMidSweep parents roots (replicate (length parents) true) 0
  sweep_begins = record {
    same_length = length-replicate (length parents) true;
    closed = λ k p out parent. absurd (none_out k out);
    roots_out = λ r below root. absurd (omega arith);
    only = λ k out. absurd (none_out k out);
  }

  pub sweep_walks : (old new : List Bool) (i : ℕ) → slice_get roots i ≡ Some true → length new ≡ length old → TakesOutWalk parents old new i
      → IsMidSweep parents roots old i → IsMidSweep parents roots new (i + 1)
  sweep_walks old new i root same taken at = record {
    same_length = same ∙ at.same_length;
    closed = taken.closed;
    roots_out = λ r below is. elim (cases_eq r i) [
      | inl here ↦ subst (IsOut new) (sym here) taken.root_out
      | inr differ ↦ taken.kept r (at.roots_out r (omega arith) is)
    ];
    only = λ k out. elim (taken.only k out) [ inl before ↦ at.only k before | inr walk ↦ (i, walk.0, root, walk.1) ];
  }

  pub sweep_passes : (now : List Bool) (i : ℕ) → slice_get roots i ≡ Some false → IsMidSweep parents roots now i → IsMidSweep parents roots now (i + 1)
  sweep_passes now i root at = record {
    same_length = at.same_length;
    closed = at.closed;
    roots_out = λ r below is. elim (cases_eq r i) [
      | inl here ↦ absurd (true≢false (Some-same true false (sym is ∙ ap (slice_get roots) here ∙ root)))
      | inr differ ↦ at.roots_out r (omega arith) is
    ];
    only = at.only;
  }

  module _ (now : List Bool) where
    -- what a place that is out reaches is out
    walk_out : IsClosed parents now → (r n k : ℕ) → IsOut now r → ancestor parents n r ≡ Some k → IsOut now k
    walk_out closed r zero k out walk = subst (IsOut now) (Some-same r k walk) out
    walk_out closed r (suc n) k out walk = by (ancestor parents n r) refl (λ m before. walk_out closed r n m out before)
      where
        by : (o : Option ℕ) → ancestor parents n r ≡ o → ((m : ℕ) → ancestor parents n r ≡ Some m → IsOut now m) → IsOut now k
        by None e rest = absurd (None-Some k (sym (ap (option_and_then (λ b. get_or parents b None)) e) ∙ walk))
        by (Some m) e rest = closed m k (rest m e) (sym (ap (option_and_then (λ b. get_or parents b None)) e) ∙ walk)

    pub sweep_ends : (i : ℕ) → length roots ≤ i → IsMidSweep parents roots now i → IsSweepSet parents roots now
    sweep_ends i done at =
        let out : (k : ℕ) → IsReached parents roots k → IsOut now k =
        λ k reached. walk_out at.closed reached.0 reached.1 k (at.roots_out reached.0 (let within : reached.0 < length roots = slice_get_within roots reached.0 true reached.2 in omega (arith, within, done)) reached.2) reached.3 in
        record {
          places = at.same_length;
          reached = λ k. (λ is. at.only k (get_or_from_slice_get now k false true is), λ reached. slice_get-get_or now k true (IsOut-within now k (out k reached)) ∙ ap Some (out k reached));
          unreached = λ k. (
            λ is. (let within : k < length now = slice_get_within now k true is in omega (arith, within, at.same_length), λ reached. true≢false (sym (get_or_from_slice_get now k true true is) ∙ out k reached)),
            λ free. slice_get-get_or now k true (omega (arith, free.0, at.same_length)) ∙ ap Some (in_set (get_or now k true) (λ e. free.1 (at.only k e))),
          );
        }
      where
        in_set : (b : Bool) → (b ≡ false → ⊥) → b ≡ true
        in_set true not_out = refl
        in_set false not_out = absurd (not_out refl)
