-- Lemmas on what is told of leases.
use Rattle.std.proofs.Common.{◌≡◌, ℕ, Bool, true, false, cond, List, [], ◌∷◌, None, Some, find, refl}
use Rattle.std.specs.Option.{option_map}
use Rattle.snap_lease.specs.Lease.{Lease, is_lease}
use Rattle.snap_lease.specs.Leases.{has_lease}
use Rattle.snap_lease.specs.Told.{told, told_lease}
use Rattle.snap_lease.proofs.ListLemmas.{list_any-tail}

-- of a lease that is not there nothing is told
pub told_lease-none : (ls : List Lease) (namespace lease : List ℕ) → has_lease ls namespace lease ≡ false → told_lease ls namespace lease ≡ None
told_lease-none [] namespace lease none = refl
told_lease-none (l ∷ ls) namespace lease none = by (is_lease namespace lease l) (list_any-tail (is_lease namespace lease) l ls none).0 (told_lease-none ls namespace lease (list_any-tail (is_lease namespace lease) l ls none).1)
  where
    by : (b : Bool) → b ≡ false → told_lease ls namespace lease ≡ None → option_map told (cond b (Some l) (find (is_lease namespace lease) ls)) ≡ None
    by true is rest = cc
    by false is rest = rest
