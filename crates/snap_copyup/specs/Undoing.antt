-- What takes back what was added to a layer.
use Rattle.std.specs.Prelude.{◌≡◌, ℕ, zero, suc, ◌+◌, List, [], ◌∷◌, take}
use Rattle.snap_path.specs.Text.{Names}
use Rattle.snap_layer.specs.Tree.{Tree}
use Rattle.snap_layer.specs.Edits.{without, IsTakeable}

-- the paths can be taken from the layer v, one after another, and then it is u
abbrev pub Undoes : List Names → Tree → Tree → Type 0
Undoes [] v u = v ≡ u
Undoes (p ∷ ps) v u = IsTakeable v p × Undoes ps (without v p) u

-- the fronts of the path that have this number of names or more, as many as these, the longest first
abbrev pub fronts : Names → ℕ → ℕ → List Names
fronts p first zero = []
fronts p first (suc k) = take (first + k) p ∷ fronts p first k
