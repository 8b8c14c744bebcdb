-- What copying up makes is a layer, where it is within the limits of one.
use Rattle.std.proofs.Common.{◌≡◌, ℕ, ◌+◌, ◌≤◌, Bool, true, false, List, [], ◌∷◌, ◌++◌, length, Option, Some, None, IsSome, is_some, refl, sym, ap, subst, ◌∙◌, arith, append_assoc}
use Rattle.std.specs.Prelude.{option_and_then, nat_le, ◌&&◌}
use Rattle.std.proofs.lemmas.Bool.Decides.{nat_tests}
use Rattle.snap_path.specs.Text.{Names, IsPath}
use Rattle.snap_path.proofs.Texts.{IsPath-front}
use Rattle.snap_path.specs.Limits.{most_number}
use Rattle.snap_layer.specs.declared.node.Node.{Node}
use Rattle.snap_layer.specs.declared.node.Node.TheVariants as node
use Rattle.snap_layer.specs.Tree.{Tree, IsDirAt, at, number_of}
use Rattle.snap_layer.specs.Counts.{inode_count, is_within}
use Rattle.snap_layer.specs.Layers.{IsLayer}
use Rattle.snap_layer.specs.Edits.{with_entry, without}
use Rattle.snap_layer.proofs.Paths.{snoc_same}
use Rattle.snap_layer.proofs.Kept.{IsLayer-with_entry, dir_above}
use Rattle.snap_layer.proofs.Replacing.{with_node-free}
use Rattle.snap_layer.proofs.Filling.{dir_becomes, whiteout_becomes, file_becomes, symlink_becomes}
use Rattle.snap_merge.specs.Objects.{Object, dir, file, symlink, seen, is_shown_dir, AreLayers}
use Rattle.snap_merge.specs.Walk.{walk_error, walk_from}
use Rattle.snap_merge.proofs.Views.{walk_same}
use Rattle.snap_copyup.specs.declared.parents.Last.{Last}
use Rattle.snap_copyup.specs.declared.parents.Last.TheVariants.{Nothing, Dir, File, Symlink, Whiteout}
use Rattle.snap_copyup.specs.Copying.{below, copied, with_object, with_parents_from, with_parents, copied_up}
use Rattle.snap_copyup.specs.Places.{with_last, CanStand, ParentStands, last_of}
use Rattle.snap_copyup.proofs.Most.{most_parents_from, most_last}
use Rattle.snap_copyup.proofs.Alone.{walk_passes, below_seen, copied_there, copied_missing, some_dir}
use Rattle.snap_copyup.proofs.ParentDirs.{AddsParents, adds_parents, dir_copied, copied_stands, parents_stand}
use Rattle.snap_copyup.proofs.Growing.{grows_once, grows_from, last_inodes}
use Rattle.snap_copyup.proofs.Wholes.{IsWholeObject, whole_below}
use Rattle.snap_copyup.proofs.Steps.{room, place, fits_same}
use Rattle.snap_copyup.proofs.Copies.{last_copied, copy_fits}

-- ---- directories

-- the layer with one directory more
step_layer : (u : Tree) (ls : List Tree) (front : Names) → IsLayer u → AreLayers ls → is_shown_dir (seen (u ∷ ls) front) ≡ true → IsPath front → ParentStands u front → inode_count (copied u ls front) ≤ (copied u ls front).most → IsLayer (copied u ls front)
step_layer u ls front ok layers is path parent few = by (at u front) refl
  where
    put : (o : Option Object) → at u front ≡ None → is_shown_dir o ≡ true → IsWholeObject o → inode_count (with_object u front o) ≤ (with_object u front o).most → IsLayer (with_object u front o)
    put None none is whole few = ok
    put (Some (dir meta)) none is whole few = IsLayer-with_entry u front (node.Dir meta false) ok (record {
      no_number = ap (option_and_then number_of) none;
      stays = λ d. refl;
      parent = parent;
      root = λ e. refl;
      path = path;
      whole = whole;
      few = few;
    })
    put (Some (file meta content)) none is whole few = absurd (cc)
    put (Some (symlink target)) none is whole few = absurd (cc)

    by : (o : Option Node) → at u front ≡ o → IsLayer (copied u ls front)
    by (Some n) e = subst IsLayer (sym (copied_there u ls front (ap is_some e))) ok
    by None e =
        let same = copied_missing u ls front e in
        subst IsLayer (sym same) (put (below u ls front) e (sym (ap is_shown_dir (below_seen u ls front e)) ∙ is) (whole_below u ls layers front) (subst (λ (v : Tree). inode_count v ≤ v.most) same few))

layer_from : (u : Tree) (ls : List Tree) (front rest : Names) → IsLayer u → AreLayers ls → walk_from (u ∷ ls) front rest ≡ None → IsPath (front ++ rest) → ParentStands u front → inode_count (with_parents_from u ls front rest) ≤ (with_parents_from u ls front rest).most → IsLayer (with_parents_from u ls front rest)
layer_from u ls front [] ok layers way path parent few = ok
layer_from u ls front (n ∷ rest) ok layers way path parent few =
    let v = copied u ls front in
    let passes = walk_passes (seen (u ∷ ls) front) (walk_from (u ∷ ls) (front ++ n ∷ []) rest) way in
    let adds = dir_copied u ls front (length front + 1) passes.0 (omega arith) in
    let way_on = walk_same (u ∷ ls) (v ∷ ls) adds.view (front ++ n ∷ []) rest ∙ passes.1 in
    let later = grows_from v ls (front ++ n ∷ []) rest (grows_once u ls front ok.sorted_paths passes.0).sorted way_on in
    let stands = copied_stands u ls front passes.0 in
    layer_from v ls (front ++ n ∷ []) rest
    (step_layer u ls front ok layers passes.0 (IsPath-front (front ++ n ∷ rest) front (n ∷ rest) path refl) parent (omega (arith, later.inodes, few, most_parents_from v ls (front ++ n ∷ []) rest)))
    layers way_on
    (subst IsPath (sym (append_assoc front (n ∷ []) rest)) path)
    (λ q m e. subst (λ (r : Names). IsDirAt (at (copied u ls front) r)) (snoc_same front q n m e) stands)
    few

-- the layer with the directories above a path is one, where its inodes are few enough
pub IsLayer-with_parents : (u : Tree) (ls : List Tree) (p : Names) → IsLayer u → AreLayers ls → walk_error (u ∷ ls) p ≡ None → IsPath p → inode_count (with_parents u ls p) ≤ (with_parents u ls p).most → IsLayer (with_parents u ls p)
IsLayer-with_parents u ls p ok layers way path few = layer_from u ls [] p ok layers way path (λ q n e. absurd (no_root q n e)) few
  where
    no_root : (q : Names) (n : List ℕ) → [] ≡ q ++ n ∷ [] → ⊥
    no_root [] n e = cc
    no_root (m ∷ q) n e = cc

-- nothing is missing above what stands in the layer
no_missing_from : (u : Tree) (ls : List Tree) (front rest : Names) → IsLayer u → IsSome (at u (front ++ rest)) → with_parents_from u ls front rest ≡ u
no_missing_from u ls front [] ok some = refl
no_missing_from u ls front (n ∷ rest) ok some =
    ap (λ (v : Tree). with_parents_from v ls (front ++ n ∷ []) rest) (copied_there u ls front (some_dir (at u front) (dir_above u ok rest front n some)))
    ∙ no_missing_from u ls (front ++ n ∷ []) rest ok (subst (λ (q : Names). IsSome (at u q)) (sym (append_assoc front (n ∷ []) rest)) some)

pub no_missing : (u : Tree) (ls : List Tree) (p : Names) → IsLayer u → IsSome (at u p) → with_parents u ls p ≡ u
no_missing u ls p ok some = no_missing_from u ls [] p ok some

-- ---- what is put last

few_from : (t : Tree) → is_within t ≡ true → inode_count t ≤ t.most
few_from t within = grind (arith, nat_tests)

last_from : (t : Tree) → is_within t ≡ true → t.next ≤ most_number
last_from t within = by (nat_le (inode_count t) t.most) within
  where
    by : (b : Bool) → (b && nat_le t.next most_number) ≡ true → t.next ≤ most_number
    by true e = grind (arith, nat_tests)
    by false e = absurd (cc)

pub IsLayer-with_last : (t : Tree) (p : Names) (last : Last) → IsLayer t → IsPath p → CanStand last t p → ParentStands t p → is_within (with_last last t p) ≡ true → IsLayer (with_last last t p)
IsLayer-with_last t p Nothing ok path fit parent within = ok
IsLayer-with_last t p (Dir meta opaque) ok path fit parent within =
    let same = with_node-free t ok p (node.Dir meta opaque) fit.0.free in
    let becomes = dir_becomes t ok p path (inode_count (without t p)) refl meta opaque (room t p fit.0 parent) fit.1 in
    subst IsLayer same (becomes.layer (omega (arith, becomes.count, ap inode_count same, few_from (with_entry t p (node.Dir meta opaque)) within)))
IsLayer-with_last t p (File meta content) ok path fit parent within =
    let v = with_last (File meta content) t p in
    let becomes = file_becomes t ok p path (inode_count (without t p)) refl (place t p ok fit.0 parent) (omega (arith, last_from v within)) meta content fit.1 fit.2 in
    becomes.layer (omega (arith, becomes.count, few_from v within))
IsLayer-with_last t p (Symlink target) ok path fit parent within =
    let v = with_last (Symlink target) t p in
    let becomes = symlink_becomes t ok p path (inode_count (without t p)) refl (place t p ok fit.0 parent) (omega (arith, last_from v within)) target fit.1 in
    becomes.layer (omega (arith, becomes.count, few_from v within))
IsLayer-with_last t p Whiteout ok path fit parent within =
    let v = with_last Whiteout t p in
    let becomes = whiteout_becomes t ok p path (inode_count (without t p)) refl (place t p ok fit parent) in
    becomes.layer (omega (arith, becomes.count, few_from v within))

-- the layer with the directories above a path, and with what is put there
pub IsLayer-put : (u : Tree) (ls : List Tree) (p : Names) (last : Last) → IsLayer u → AreLayers ls → walk_error (u ∷ ls) p ≡ None → IsPath p → CanStand last u p → is_within (with_last last (with_parents u ls p) p) ≡ true → IsLayer (with_last last (with_parents u ls p) p)
IsLayer-put u ls p last ok layers way path fit within =
    IsLayer-with_last t p last (by (at u p) refl) path (fits_same last u t p (adds.leaves p (omega arith)) fit) (parents_stand u ls p way) within
  where
    t : Tree
    t = with_parents u ls p

    adds : AddsParents u (with_parents u ls p) ls (length p)
    adds = adds_parents u ls p way

    by : (o : Option Node) → at u p ≡ o → IsLayer (with_parents u ls p)
    by (Some n) e = subst IsLayer (sym (no_missing u ls p ok (ap is_some e))) ok
    by None e =
        let grows = grows_from u ls [] p ok.sorted_paths way in
        IsLayer-with_parents u ls p ok layers way path (omega (arith, last_inodes u t ls p ok e adds grows.sorted last, few_from (with_last last t p) within, most_last last t p))

-- the layer with what is copied up
pub IsLayer-copied_up : (u : Tree) (ls : List Tree) (p : Names) → IsLayer u → AreLayers ls → walk_error (u ∷ ls) p ≡ None → IsPath p → is_within (copied_up u ls p) ≡ true → IsLayer (copied_up u ls p)
IsLayer-copied_up u ls p ok layers way path within =
    let same = last_copied u ls p way in
    subst IsLayer same (IsLayer-put u ls p (last_of (at u p) (below u ls p)) ok layers way path (copy_fits u ls p ok layers) (ap is_within same ∙ within))
