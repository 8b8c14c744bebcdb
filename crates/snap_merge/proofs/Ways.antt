-- A way, word by word.
use Rattle.std.proofs.Common.{◌≡◌, ℕ, true, false, not, List, [], ◌∷◌, ◌++◌, Result, Err, sym, subst}
use Rattle.std.specs.Prelude.{if◌then◌else◌}
use Rattle.snap_path.specs.Text.{Names}
use Rattle.snap_layer.specs.Tree.{Tree}
use Rattle.snap_merge.specs.declared.error.FsError.{FsError}
use Rattle.snap_merge.specs.declared.error.FsError.TheVariants.{BadPath, NotDir}
use Rattle.snap_merge.specs.declared.resolve.Arrival.{Arrival}
use Rattle.snap_merge.specs.Objects.{seen, is_shown_dir}
use Rattle.snap_merge.specs.Resolving.{Answer, is_here, is_above, above, is_too_long, start_of, words_of, entered, way}
use Rattle.snap_merge.specs.Arrivals.{Leads}

-- a word that is a name leads to the directory's entry of this name
pub way_enters : (follow : Names → Names → Answer) (s : List Tree) (place : Names) (w : List ℕ) (ws : Names)
    → is_shown_dir (seen s place) ≡ true → is_here w ≡ false → is_above w ≡ false → is_too_long place w ≡ false
    → way follow s place (w ∷ ws) ≡ entered (λ target. follow (start_of place target) (words_of target ++ ws)) (way follow s (place ++ w ∷ []) ws) (seen s (place ++ w ∷ []))
way_enters follow s place w ws directory here over long = λ i.
    if not (directory i) then Err NotDir
    else if here i then way follow s place ws
    else if over i then way follow s (above place) ws
    else if long i then Err BadPath
    else entered (λ target. follow (start_of place target) (words_of target ++ ws)) (way follow s (place ++ w ∷ []) ws) (seen s (place ++ w ∷ []))

pub leads_from : (follow : Names → Names → Answer) (s : List Tree) (ws : Names) (due other : Answer) (r : Result Arrival FsError) → due ≡ other → Leads follow s ws other r → Leads follow s ws due r
leads_from follow s ws due other r e l = subst (λ (a : Answer). Leads follow s ws a r) (sym e) l
