-- What a layer shows, alone and over others, and what is copied where it has a node or none.
use Rattle.std.proofs.Common.{◌≡◌, Bool, true, false, cond, List, [], ◌∷◌, ◌++◌, Option, Some, None, is_some, Result, Ok, Err, OnOk, refl, sym, ap, ◌∙◌}
use Rattle.std.proofs.lemmas.Bool.{cond-true, cond-false}
use Rattle.snap_path.specs.Text.{Names}
use Rattle.snap_layer.specs.declared.node.Node.{Node}
use Rattle.snap_layer.specs.declared.node.Node.TheVariants.{Dir, File, Symlink, Whiteout}
use Rattle.snap_layer.specs.declared.node.Body.{Body}
use Rattle.snap_layer.specs.declared.node.Body.TheVariants as body_kinds
use Rattle.snap_layer.specs.Tree.{Tree, at, body, hides, IsDirAt}
use Rattle.snap_layer.specs.Layers.{IsLayer, IsFile, IsSymlink}
use Rattle.snap_layer.specs.Edits.{IsFree}
use Rattle.snap_merge.specs.declared.error.FsError.{FsError}
use Rattle.snap_merge.specs.Objects.{Object, dir, file, symlink, seen, seen_over, shown_body, is_shown_dir}
use Rattle.snap_merge.specs.Walk.{walk_on, walk_from, walk_error}
use Rattle.snap_copyup.specs.Copying.{below, copied, with_object, with_parents_from, with_parents}

no_bool : true ≡ false → ⊥
no_bool e = cc

-- ---- any layers

-- a walk without an error passes a directory, and goes on
pub walk_passes : (o : Option Object) (later : Option FsError) → walk_on o later ≡ None → (is_shown_dir o ≡ true) × (later ≡ None)
walk_passes None later e = absurd (cc)
walk_passes (Some (dir m)) later e = (refl, e)
walk_passes (Some (file m b)) later e = absurd (cc)
walk_passes (Some (symlink t)) later e = absurd (cc)

-- without a node in the layer, what is below is seen
pub below_seen : (u : Tree) (ls : List Tree) (p : Names) → at u p ≡ None → seen (u ∷ ls) p ≡ below u ls p
below_seen u ls p none = ap (λ (o : Option Node). seen_over u o p (seen ls p)) none

-- and where that is a directory, the layer doesn't hide it
pub below_unhidden : (u : Tree) (ls : List Tree) (p : Names) → at u p ≡ None → is_shown_dir (seen (u ∷ ls) p) ≡ true → seen ls p ≡ below u ls p
below_unhidden u ls p none is = by (hides u p) refl
  where
    was : is_shown_dir (cond (hides u p) None (seen ls p)) ≡ true
    was = ap is_shown_dir (sym (below_seen u ls p none)) ∙ is

    by : (h : Bool) → hides u p ≡ h → seen ls p ≡ cond (hides u p) None (seen ls p)
    by true e = absurd (no_bool (sym was ∙ ap (λ b. is_shown_dir (cond b None (seen ls p))) e))
    by false e = sym (ap (λ b. cond b None (seen ls p)) e)

-- where the layer has a node nothing is copied
pub copied_there : (u : Tree) (ls : List Tree) (p : Names) → is_some (at u p) ≡ true → copied u ls p ≡ u
copied_there u ls p some = cond-true (is_some (at u p)) u (with_object u p (below u ls p)) some

-- and where it has none, what is below is
pub copied_missing : (u : Tree) (ls : List Tree) (p : Names) → at u p ≡ None → copied u ls p ≡ with_object u p (below u ls p)
copied_missing u ls p none = cond-false (is_some (at u p)) u (with_object u p (below u ls p)) (ap is_some none)

-- ---- a node of a layer

shown_file : (o : Option Body) → IsFile o → is_some (shown_body o) ≡ true
shown_file None is = absurd is
shown_file (Some (body_kinds.File m content)) is = refl
shown_file (Some (body_kinds.Symlink target)) is = absurd is

shown_symlink : (o : Option Body) → IsSymlink o → is_some (shown_body o) ≡ true
shown_symlink None link = absurd link
shown_symlink (Some (body_kinds.File m content)) link = absurd link
shown_symlink (Some (body_kinds.Symlink target)) link = refl

-- a body is seen as no directory
pub body_is_no_dir : (o : Option Body) → is_shown_dir (shown_body o) ≡ false
body_is_no_dir None = refl
body_is_no_dir (Some (body_kinds.File m content)) = refl
body_is_no_dir (Some (body_kinds.Symlink target)) = refl

pub nothing_under : (h : Bool) → ◌≡◌ {A = Option Object} (cond h None None) None
nothing_under true = refl
nothing_under false = refl

module _ (u : Tree) (ls : List Tree) (p : Names) where
  -- a directory that stands in the layer is seen
  pub dir_seen : IsDirAt (at u p) → is_shown_dir (seen (u ∷ ls) p) ≡ true
  dir_seen is = by (at u p) is
    where
      by : (o : Option Node) → IsDirAt o → is_shown_dir (seen_over u o p (seen ls p)) ≡ true
      by None is = absurd is
      by (Some (Dir m b)) is = refl
      by (Some (File k)) is = absurd (no_bool (sym is))
      by (Some (Symlink k)) is = absurd (no_bool (sym is))
      by (Some Whiteout) is = absurd (no_bool (sym is))

  -- where nothing is seen nothing or a whiteout stands
  pub free_unseen : IsLayer u → is_some (seen (u ∷ ls) p) ≡ false → IsFree (at u p)
  free_unseen ok none = by (at u p) refl none
    where
      by : (o : Option Node) → at u p ≡ o → is_some (seen_over u o p (seen ls p)) ≡ false → IsFree o
      by None e none = tt
      by (Some (Dir m b)) e none = absurd (no_bool none)
      by (Some (File k)) e none = absurd (no_bool (sym (shown_file (body u k) (ok.nodes p (File k) e)) ∙ none))
      by (Some (Symlink k)) e none = absurd (no_bool (sym (shown_symlink (body u k) (ok.nodes p (Symlink k) e)) ∙ none))
      by (Some Whiteout) e none = refl

-- a directory stands there
pub some_dir : (o : Option Node) → IsDirAt o → is_some o ≡ true
some_dir None is = absurd is
some_dir (Some n) is = refl

-- a node of the layer that is seen as a directory is one
pub dir_there_over : (u : Tree) (ls : List Tree) (p : Names) → is_some (at u p) ≡ true → is_shown_dir (seen (u ∷ ls) p) ≡ true → IsDirAt (at u p)
dir_there_over u ls p some is = by (at u p) some is
  where
    by : (o : Option Node) → is_some o ≡ true → is_shown_dir (seen_over u o p (seen ls p)) ≡ true → IsDirAt o
    by None some is = absurd (cc)
    by (Some (Dir m b)) some is = refl
    by (Some (File k)) some is = absurd (no_bool (sym is ∙ body_is_no_dir (body u k)))
    by (Some (Symlink k)) some is = absurd (no_bool (sym is ∙ body_is_no_dir (body u k)))
    by (Some Whiteout) some is = absurd (no_bool (sym is))

-- ---- a layer alone

module _ (u : Tree) where
  -- a directory that is seen stands in the layer
  pub dir_there : (p : Names) → is_shown_dir (seen (u ∷ []) p) ≡ true → IsDirAt (at u p)
  dir_there p is = by (at u p) is
    where
      by : (o : Option Node) → is_shown_dir (seen_over u o p None) ≡ true → IsDirAt o
      by None is = absurd (no_bool (sym is ∙ ap is_shown_dir (nothing_under (hides u p))))
      by (Some (Dir m b)) is = refl
      by (Some (File k)) is = absurd (no_bool (sym is ∙ body_is_no_dir (body u k)))
      by (Some (Symlink k)) is = absurd (no_bool (sym is ∙ body_is_no_dir (body u k)))
      by (Some Whiteout) is = absurd (no_bool (sym is))

  -- the directories above a path that the walk passes stand there
  pub no_parents_from : (front rest : Names) → walk_from (u ∷ []) front rest ≡ None → with_parents_from u [] front rest ≡ u
  no_parents_from front [] way = refl
  no_parents_from front (n ∷ rest) way =
      let passes = walk_passes (seen (u ∷ []) front) (walk_from (u ∷ []) (front ++ n ∷ []) rest) way in
      ap (λ (v : Tree). with_parents_from v [] (front ++ n ∷ []) rest) (copied_there u [] front (some_dir (at u front) (dir_there front passes.0)))
      ∙ no_parents_from (front ++ n ∷ []) rest passes.1

  pub no_parents : (p : Names) → walk_error (u ∷ []) p ≡ None → with_parents u [] p ≡ u
  no_parents p way = no_parents_from [] p way

-- ---- results

pub OnOk-weaker : {A B : Type 0} {P Q : Type 0} (r : Result A B) → (P → Q) → OnOk r P → OnOk r Q
OnOk-weaker (Ok x) f p = f p
OnOk-weaker (Err x) f p = p
