use Rattle.std.proofs.Common.{◌≡◌, List, ℕ, drop, ◌++◌, ◌∷◌, []}
use Rattle.std.specs.Prelude.{is_some}
use Rattle.snap_merge.specs.Objects.{seen}
use Rattle.snap_merge.specs.Shares.{seen_so_far}
use Rattle.snap_merge.proofs.names.put_layers.Given as goal

-- the layers that are left tell what all tell
abbrev pub invariant-loop-shared : goal.invariant-loop-shared
invariant-loop-shared l =
    (n : List ℕ) → seen_so_far l.shown.keys l.gone.keys n (is_some (seen (drop l.shared-index l.lowers) (l.path ++ n ∷ []))) ≡ seen_so_far l.fn.shown.keys l.fn.gone.keys n (is_some (seen l.lowers (l.path ++ n ∷ [])))
