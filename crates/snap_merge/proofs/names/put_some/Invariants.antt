use Rattle.std.proofs.Common.{◌≡◌, List, ℕ, drop, ◌++◌, ◌∷◌, []}
use Rattle.std.specs.Prelude.{is_some}
use Rattle.snap_merge.specs.Objects.{seen}
use Rattle.snap_merge.specs.Shares.{seen_so_far}
use Rattle.snap_merge.proofs.names.put_some.Given as goal

-- no name is shown, and the layers that are left tell what all tell
abbrev pub invariant-loop-shared : goal.invariant-loop-shared
invariant-loop-shared l =
    (l.shown.keys ≡ [])
    × ((n : List ℕ) → seen_so_far [] l.gone.keys n (is_some (seen (drop l.shared-index l.lowers) (l.path ++ n ∷ []))) ≡ seen_so_far [] l.fn.gone.keys n (is_some (seen l.lowers (l.path ++ n ∷ []))))
