use Rattle.std.proofs.Common.{◌∙◌, ◌≡◌, ℕ, List, [], ap, subst, sym}
use Rattle.std.specs.List.{AllByRecursion, IsDistinct}
use Rattle.std.specs.Map.{values_of}
use Rattle.snap_lease.specs.Lease.{Lease, NamesOnce}
use Rattle.snap_lease.specs.Leases.{AreDistinct, naming_count}
use Rattle.snap_lease.specs.Numbers.{lease_number}
use Rattle.snap_lease.proofs.NumberLemmas.{no_entries}
use Rattle.snap_lease.proofs.list.Leases.new.Goals as goal

pub invariant_of-result : goal.invariant_of-result
unfolding IsDistinct
invariant_of-result c =
    let none : c.new.result.entries ≡ [] = no_entries c.new.result.entries c.new.ensures.len in (
      subst (λ (es : List (ℕ × Lease)). AreDistinct (values_of es)) (sym none) tt,
      subst (λ (es : List (ℕ × Lease)). AllByRecursion NamesOnce (values_of es)) (sym none) tt,
      (λ space name. c.new-3.ensures space name ∙ ap (λ (es : List (ℕ × Lease)). naming_count (values_of es) space name) (sym none)),
      (λ space name. c.new-2.ensures space name ∙ ap (λ (es : List (ℕ × Lease)). lease_number space name es) (sym none)),
      c.new.ensures.ordered,
    )
