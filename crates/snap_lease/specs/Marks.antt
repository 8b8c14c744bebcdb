-- What one walk does to the set of places to be swept. True at a place means that it is still in the set.
use Rattle.std.specs.Prelude.{◌≡◌, ◌⊎◌, ℕ, Bool, true, false, List, Option, None, Some, slice_index_or}
use Rattle.snap_lease.specs.Reach.{ancestor}

-- the place has been taken out of the set
abbrev pub IsOut : List Bool → ℕ → Type 0
IsOut swept k = slice_index_or swept k true ≡ false

-- where a place is out, its parent is
abbrev pub IsClosed : List (Option ℕ) → List Bool → Type 0
IsClosed parents swept = (k p : ℕ) → IsOut swept k → slice_index_or parents k None ≡ Some p → IsOut swept p

-- the root and what it reaches are out, and nothing else that was not out before
pub record TakesOutWalk (parents : List (Option ℕ)) (old new : List Bool) (root : ℕ) : Type 0 where
  pub closed : IsClosed parents new
  pub root_out : IsOut new root
  pub kept : (k : ℕ) → IsOut old k → IsOut new k
  pub only : (k : ℕ) → IsOut new k → IsOut old k ⊎ ((n : ℕ) × (ancestor parents n root ≡ Some k))
