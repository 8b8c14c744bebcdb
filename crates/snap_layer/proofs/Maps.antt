-- A finite map's list, with the words of std's maps.
use Rattle.std.proofs.Common.{◌≡◌, ℕ, cond, List, [], ◌∷◌, Some, refl, sym, ap, ◌∙◌}
use Rattle.std.specs.declared.cmp.Ordering.{Ordering}
use Rattle.std.specs.Ordering.{is_eq}
use Rattle.std.specs.Map.{lookup}
use Rattle.std.specs.BTreeMap.{is_at}
use Rattle.std.specs.FinMap as map
use Rattle.std.specs.FinMap.Entries.{find}
use Rattle.slab.specs.Slab.{Slab as Slots}
use Rattle.snap_path.specs.Text.{Names}
use Rattle.snap_layer.specs.Tree.{path_cmp, at}
use Rattle.snap_layer.specs.declared.inode.Inode.{Inode}
use Rattle.snap_layer.specs.Walk.{stands, view_of}
use Rattle.snap_layer.specs.Holds.{Holds, Places, tree_of}

module _ {K X : Type 0} (R : K → K → Ordering) where
  pub lookup_find : (q : K) (es : List (K × X)) → lookup (is_at (R q)) es ≡ find R q es
  lookup_find q [] = refl
  lookup_find q (e ∷ es) = ap (λ o. cond (is_eq (R q e.0)) (Some e.1) o) (lookup_find q es)

-- what the model has at a path is what stands there
pub at_stands : (s : Slots Inode) (root : ℕ) (h : Holds s root) (places : Places) (next most : ℕ) (p : Names) → at (tree_of h.0 s places next most) p ≡ stands (view_of s) root p
at_stands s root h places next most p = lookup_find path_cmp p (map.entries h.0) ∙ sym (map.get-entries h.0 p) ∙ h.1 p
