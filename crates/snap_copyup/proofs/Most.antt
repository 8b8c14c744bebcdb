-- What is added keeps the most inodes of a layer.
use Rattle.std.proofs.Common.{◌≡◌, Bool, true, false, List, [], ◌∷◌, ◌++◌, Option, Some, None, is_some, refl, ◌∙◌}
use Rattle.std.specs.Prelude.{if◌then◌else◌}
use Rattle.snap_path.specs.Text.{Names}
use Rattle.snap_layer.specs.Tree.{Tree, at}
use Rattle.snap_merge.specs.Objects.{Object, dir, file, symlink}
use Rattle.snap_copyup.specs.declared.parents.Last.{Last}
use Rattle.snap_copyup.specs.declared.parents.Last.TheVariants.{Nothing, Dir, File, Symlink, Whiteout}
use Rattle.snap_copyup.specs.Copying.{below, copied, copied_up, with_object, with_parents, with_parents_from}
use Rattle.snap_copyup.specs.Places.{with_last}

most_object : (u : Tree) (p : Names) (o : Option Object) → (with_object u p o).most ≡ u.most
most_object u p None = refl
most_object u p (Some (dir meta)) = refl
most_object u p (Some (file meta content)) = refl
most_object u p (Some (symlink target)) = refl

pub most_copied : (u : Tree) (ls : List Tree) (p : Names) → (copied u ls p).most ≡ u.most
most_copied u ls p = by (is_some (at u p))
  where
    by : (b : Bool) → (if b then u else with_object u p (below u ls p)).most ≡ u.most
    by true = refl
    by false = most_object u p (below u ls p)

pub most_parents_from : (u : Tree) (ls : List Tree) (front rest : Names) → (with_parents_from u ls front rest).most ≡ u.most
most_parents_from u ls front [] = refl
most_parents_from u ls front (n ∷ rest) = most_parents_from (copied u ls front) ls (front ++ n ∷ []) rest ∙ most_copied u ls front

pub most_parents : (u : Tree) (ls : List Tree) (p : Names) → (with_parents u ls p).most ≡ u.most
most_parents u ls p = most_parents_from u ls [] p

pub most_copied_up : (u : Tree) (ls : List Tree) (p : Names) → (copied_up u ls p).most ≡ u.most
most_copied_up u ls p = most_copied (with_parents u ls p) ls p ∙ most_parents u ls p

pub most_last : (last : Last) (t : Tree) (p : Names) → (with_last last t p).most ≡ t.most
most_last Nothing t p = refl
most_last (Dir meta opaque) t p = refl
most_last (File meta content) t p = refl
most_last (Symlink target) t p = refl
most_last Whiteout t p = refl
