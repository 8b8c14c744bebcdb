-- How far a way was gone.
use Rattle.std.specs.Prelude.{◌≡◌, ◌⊎◌, [], ◌∷◌, ◌++◌, ℕ, Bool, true, false, List, Result, Ok, Err}
use Rattle.snap_path.specs.Memory.{no_memory}
use Rattle.snap_path.specs.Text.{Names}
use Rattle.snap_layer.specs.Tree.{Tree}
use Rattle.snap_merge.specs.declared.error.FsError.{FsError}
use Rattle.snap_merge.specs.declared.error.FsError.TheVariants.{OutOfMemory}
use Rattle.snap_merge.specs.declared.resolve.Arrival.{Arrival}
use Rattle.snap_merge.specs.declared.resolve.Arrival.TheVariants.{Place, Link}
use Rattle.snap_merge.specs.Resolving.{Answer, is_here, start_of, words_of, way}

-- the answer that is due is that of the rest of the way, by the words left, from where it was gone to
abbrev pub Leads : (Names → Names → Answer) → List Tree → Names → Answer → Result Arrival FsError → Type 0
Leads follow s ws due (Ok (Place p)) = due ≡ way follow s p ws
Leads follow s ws due (Ok (Link directory target)) = due ≡ follow (start_of directory target.now) (words_of target.now ++ ws)
Leads follow s ws due (Err e) = (e ≡ OutOfMemory no_memory) ⊎ (due ≡ Err e)

-- at a place no words are left
abbrev pub Ends : Names → Result Arrival FsError → Type 0
Ends ws (Ok (Place p)) = ws ≡ []
Ends ws (Ok (Link directory target)) = Unit {0}
Ends ws (Err e) = Unit {0}

-- the next word is taken: it is the name, or it stands for the directory itself
abbrev pub TakesAlong : List ℕ → Bool → Names → Names → Type 0
TakesAlong name true old new = old ≡ name ∷ new
TakesAlong name false old new = (w : List ℕ) × (old ≡ w ∷ new) × (is_here w ≡ true)
