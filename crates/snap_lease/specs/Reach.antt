-- What is reached from a root along parents. A place is an index into the lists.
use Rattle.std.specs.Prelude.{◌≡◌, ℕ, zero, suc, ◌<◌, ◌↔◌, Bool, true, false, List, Option, None, Some, length, slice_get, slice_index_or, option_and_then}

-- the place that lies n parents above, if there is one
abbrev pub ancestor : List (Option ℕ) → ℕ → ℕ → Option ℕ
ancestor parents zero a = Some a
ancestor parents (suc n) a = option_and_then (λ b. slice_index_or parents b None) (ancestor parents n a)

-- a walk along parents leads from some root to the place
abbrev pub IsReached : List (Option ℕ) → List Bool → ℕ → Type 0
IsReached parents roots k = (r : ℕ) × (n : ℕ) × (slice_get roots r ≡ Some true) × (ancestor parents n r ≡ Some k)

-- each parent is a place of the list
abbrev pub HasParentsWithin : List (Option ℕ) → Type 0
HasParentsWithin parents = (k p : ℕ) → slice_index_or parents k None ≡ Some p → p < length parents

-- the list has a truth value for each place: false where a root reaches it, and true at exactly the others
pub record IsSweepSet (parents : List (Option ℕ)) (roots swept : List Bool) : Type 0 where
  pub places : length swept ≡ length parents
  pub reached : (k : ℕ) → (slice_get swept k ≡ Some false) ↔ IsReached parents roots k
  pub unreached : (k : ℕ) → (slice_get swept k ≡ Some true) ↔ ((k < length parents) × ¬ (IsReached parents roots k))
