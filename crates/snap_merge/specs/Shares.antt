-- What one layer shares in a directory of several, and what is told of a name so far.
use Rattle.std.specs.Prelude.{◌≡◌, ℕ, Bool, false, not, ◌||◌, ◌&&◌, List, [], ◌∷◌, ◌++◌, Option, Some, None, MatchOption}
use Rattle.std.specs.List.{list_any}
use Rattle.std.specs.Str.{bytes_eq}
use Rattle.snap_path.specs.Text.{Names}
use Rattle.snap_layer.specs.declared.node.Node.{Node}
use Rattle.snap_layer.specs.Tree.{Tree, at, hides, is_whiteout}
use Rattle.snap_layer.specs.Directory.{Directory}

-- the name is among them
abbrev pub has : List ℕ → Names → Bool
has n ns = list_any (bytes_eq n) ns

-- a name is seen: it is among the shown, or it is not among those that are gone and the layers below show it
abbrev pub seen_so_far : Names → Names → List ℕ → Bool → Bool
seen_so_far shown gone n under = has n shown || (not (has n gone) && under)

-- something stands there, and it is no whiteout
abbrev pub is_there : Option Node → Bool
is_there None = false
is_there (Some v) = not (is_whiteout v)

-- the directory has something else than a whiteout at the name
abbrev pub is_shown : Directory → List ℕ → Bool
is_shown d n = is_there (at d.layer (d.path ++ n ∷ []))

-- the layer's directory at the path, if it has one there, and whether it hides what the layers below have in it
pub record Shares (t : Tree) (p : Names) (d : Option Directory) (h : Bool) : Type 0 where
  pub dir : MatchOption d ((n : List ℕ) → at t (p ++ n ∷ []) ≡ None) (λ x. x ≡ record { layer = t; path = p })
  pub hiding : (n : List ℕ) → hides t (p ++ n ∷ []) ≡ h
