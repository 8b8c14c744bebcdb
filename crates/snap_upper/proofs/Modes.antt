-- A mode that is set.
use Rattle.std.proofs.Common.{◌≡◌, ℕ, ◌≤◌, true, false, List, [], ◌∷◌, Option, Some, None, is_some, Result, Ok, refl, sym, ap, subst, ◌∙◌, arith, ltb-false}
use Rattle.std.specs.Prelude.{nat_lt}
use Rattle.snap_path.specs.Limits.{most_mode}
use Rattle.snap_path.specs.Text.{Names}
use Rattle.snap_layer.specs.declared.node.Meta.{Meta}
use Rattle.snap_layer.specs.declared.node.Node.{Node}
use Rattle.snap_layer.specs.declared.node.Node.TheVariants.{Dir, File, Symlink, Whiteout}
use Rattle.snap_layer.specs.declared.node.Body.{Body}
use Rattle.snap_layer.specs.declared.node.Body.TheVariants as body_kinds
use Rattle.snap_layer.specs.Tree.{Tree, at, body}
use Rattle.snap_layer.specs.Counts.{inode_count, block_count}
use Rattle.snap_layer.specs.Layers.{IsLayer, IsFile, IsSymlink, IsMeta}
use Rattle.snap_layer.proofs.Setting.{dir_stays, file_body}
use Rattle.snap_layer.proofs.Kept.{IsLayer-with_body}
use Rattle.snap_layer.specs.Contents.{edited, IsContent, IsShort}
use Rattle.snap_layer.specs.declared.content.Content.{Content}
use Rattle.snap_usage.specs.declared.usage.Usage.{Usage}
use Rattle.snap_layer.specs.Edits.{with_entry, with_new, with_body, with_mode, with_file_mode, HasMode, meta_with_mode}
use Rattle.snap_layer.proofs.Looks.{Sets-with_entry}
use Rattle.snap_layer.proofs.Laws.{Replaces-with_new, SetsBody-with_new, inode_count-with_mode, block_count-with_mode}
use Rattle.snap_merge.specs.Objects.{Object, dir, file, seen, shown_body, AreLayers}
use Rattle.snap_merge.specs.Walk.{walk_error}
use Rattle.snap_merge.specs.declared.error.FsError.{FsError}
use Rattle.snap_merge.specs.declared.error.FsError.TheVariants.{Invalid}
use Rattle.snap_upper.specs.declared.usage.Planned.{Planned}
use Rattle.snap_merge.proofs.Views.{seen_node}
use Rattle.snap_copyup.specs.Copying.{copied, copied_up, with_object, with_parents}
use Rattle.snap_copyup.specs.Places.{with_last, CanStand}
use Rattle.snap_copyup.proofs.Alone.{copied_there, copied_missing, below_seen}
use Rattle.snap_copyup.proofs.ParentDirs.{adds_parents}
use Rattle.snap_copyup.proofs.Wholes.{IsWholeObject, whole_seen, vacant}
use Rattle.snap_copyup.proofs.Layers.{no_missing}
use Rattle.snap_upper.specs.declared.op.Op.TheVariants as op
use Rattle.snap_copyup.specs.declared.parents.Last.TheVariants as last
use Rattle.snap_layer.specs.declared.bytes.Edit.{Edit}
use Rattle.snap_upper.specs.declared.change.New.{New}
use Rattle.snap_upper.specs.declared.change.New.TheVariants as new
use Rattle.snap_upper.specs.Changes.{as_last, IsSound, IsWithMode}
use Rattle.snap_upper.specs.After.{after, limited, planned, tests, first_error, error_if}
use Rattle.snap_upper.proofs.KindErrors.{mode_error}
use Rattle.snap_upper.proofs.Outcomes.{test_passes, error_if_passes, after_passes, planned_fits}
use Rattle.snap_upper.proofs.Writing.{new_with_body, entry_with_entry}

-- the tests have passed
pub record IsSettable (s : List Tree) (p : Names) (mode : ℕ) : Type 0 where
  pub way : walk_error s p ≡ None
  pub there : mode_error (seen s p) ≡ None
  pub low : mode ≤ most_mode

low_mode : (mode : ℕ) → nat_lt most_mode mode ≡ false → mode ≤ most_mode
low_mode mode e = ltb-false most_mode mode e

pub IsSettable-passed : (s : List Tree) (p : Names) (mode : ℕ) → first_error (tests (op.SetMode p mode) s) ≡ None → IsSettable s p mode
IsSettable-passed s p mode passes =
    let last = error_if (nat_lt most_mode mode) Invalid in
    let first = test_passes (walk_error s p) (mode_error (seen s p) ∷ last ∷ []) passes in
    let second = test_passes (mode_error (seen s p)) (last ∷ []) first.1 in
    let third = test_passes last [] second.1 in
    record {
      way = first.0;
      there = second.0;
      low = low_mode mode (error_if_passes (nat_lt most_mode mode) Invalid third.0);
    }

none_from : {A : Type 0} (o : Option A) → is_some o ≡ false → o ≡ None
none_from None e = refl
none_from (Some x) e = absurd (cc)

-- a symlink has no mode
symlink_refused : (o : Option Body) → IsSymlink o → mode_error (shown_body o) ≡ None → ⊥
symlink_refused None is e = is
symlink_refused (Some (body_kinds.File m content)) is e = is
symlink_refused (Some (body_kinds.Symlink target)) is e = cc

pub has_mode : (u : Tree) (ls : List Tree) (p : Names) → IsLayer u → mode_error (seen (u ∷ ls) p) ≡ None → is_some (at u p) ≡ true → HasMode (at u p)
has_mode u ls p ok there some = by (at u p) refl some
  where
    by : (o : Option Node) → at u p ≡ o → is_some o ≡ true → HasMode o
    by None e some = absurd (cc)
    by (Some (Dir m b)) e some = tt
    by (Some (File k)) e some = tt
    by (Some (Symlink k)) e some = symlink_refused (body u k) (ok.nodes p (Symlink k) e) (sym (ap mode_error (seen_node u ls p (Symlink k) e)) ∙ there)
    by (Some Whiteout) e some = let other = sym (ap mode_error (seen_node u ls p Whiteout e)) ∙ there in absurd (cc)

-- the layer has it
pub own_mode : (u : Tree) (ls : List Tree) (p : Names) (mode : ℕ) → IsLayer u → is_some (at u p) ≡ true → with_mode (copied_up u ls p) p (at (copied_up u ls p) p) mode ≡ with_mode u p (at u p) mode
own_mode u ls p mode ok some =
    ap (λ (t : Tree). with_mode t p (at t p) mode) (ap (λ (t : Tree). copied t ls p) (no_missing u ls p ok some) ∙ copied_there u ls p some)

-- it is copied up
copy_dir : (t : Tree) (p : Names) (m : Meta) (mode : ℕ) → with_mode (with_entry t p (Dir m false)) p (at (with_entry t p (Dir m false)) p) mode ≡ with_entry t p (Dir (meta_with_mode m mode) false)
copy_dir t p m mode =
    ap (λ (o : Option Node). with_mode (with_entry t p (Dir m false)) p o mode) (Sets-with_entry t p (Dir m false)).here
    ∙ entry_with_entry t p (Dir m false) (Dir (meta_with_mode m mode) false)

pub copy_file_body : (t : Tree) (p : Names) (m : Meta) (mode : ℕ) (content : Content) → with_mode (with_new t p (File t.next) (body_kinds.File m content)) p (at (with_new t p (File t.next) (body_kinds.File m content)) p) mode ≡ with_body (with_new t p (File t.next) (body_kinds.File m content)) t.next (body_kinds.File (meta_with_mode m mode) content)
copy_file_body t p m mode content =
    let b = body_kinds.File m content in
    let v = with_new t p (File t.next) b in
    ap (λ (o : Option Node). with_mode v p o mode) (Replaces-with_new t p (File t.next) b).here
    ∙ ap (λ (o : Option Body). with_file_mode v t.next o mode) (SetsBody-with_new t p (File t.next) b).here

module _ (u : Tree) (ls : List Tree) (p : Names) (way : walk_error (u ∷ ls) p ≡ None) (none : at u p ≡ None) where
  abbrev t : Tree
  t = with_parents u ls p

  pub copied_as : (o : Option Object) → seen (u ∷ ls) p ≡ o → copied_up u ls p ≡ with_object (with_parents u ls p) p o
  copied_as o was =
      let adds = adds_parents u ls p way in
      let empty = adds.leaves p (omega arith) ∙ none in
      copied_missing t ls p empty ∙ ap (with_object t p) (sym (below_seen t ls p empty) ∙ adds.view p ∙ was)

  pub dir_copy : (m : Meta) (mode : ℕ) → seen (u ∷ ls) p ≡ Some (dir m) → with_mode (copied_up u ls p) p (at (copied_up u ls p) p) mode ≡ with_entry (with_parents u ls p) p (Dir (meta_with_mode m mode) false)
  dir_copy m mode was = ap (λ (v : Tree). with_mode v p (at v p) mode) (copied_as (Some (dir m)) was) ∙ copy_dir t p m mode

  pub file_copy : (m : Meta) (mode : ℕ) (content : Content) → seen (u ∷ ls) p ≡ Some (file m content) → with_mode (copied_up u ls p) p (at (copied_up u ls p) p) mode ≡ with_body (with_new (with_parents u ls p) p (File (with_parents u ls p).next) (body_kinds.File m content)) (with_parents u ls p).next (body_kinds.File (meta_with_mode m mode) content)
  file_copy m mode content was = ap (λ (v : Tree). with_mode v p (at v p) mode) (copied_as (Some (file m content)) was) ∙ copy_file_body t p m mode content

  copy_file_mode : (m : Meta) (mode : ℕ) (content : Content) → seen (u ∷ ls) p ≡ Some (file m content) → with_mode (copied_up u ls p) p (at (copied_up u ls p) p) mode ≡ with_last (last.File (meta_with_mode m mode) content) (with_parents u ls p) p
  copy_file_mode m mode content is = file_copy m mode content is ∙ new_with_body t p (File t.next) (body_kinds.File m content) (body_kinds.File (meta_with_mode m mode) content)

-- ---- outcomes

module _ (u : Tree) (ls : List Tree) (p : Names) (mode : ℕ) (ok : IsLayer u) (passes : first_error (tests (op.SetMode p mode) (u ∷ ls)) ≡ None) where
  pub settable : IsSettable (u ∷ ls) p mode
  settable = IsSettable-passed (u ∷ ls) p mode passes

  pub own_mode_after : is_some (at u p) ≡ true → limited (with_mode u p (at u p) mode) ≡ after (op.SetMode p mode) u ls
  own_mode_after some = ap limited (sym (own_mode u ls p mode ok some)) ∙ sym (after_passes (op.SetMode p mode) u ls passes)

  pub empty : is_some (at u p) ≡ false → at u p ≡ None
  empty none = none_from (at u p) none

-- ---- plans

mode_layer : (u : Tree) (p : Names) (mode : ℕ) → IsLayer u → HasMode (at u p) → mode ≤ most_mode → IsLayer (with_mode u p (at u p) mode)
mode_layer u p mode ok has low = by (at u p) refl has
  where
    by : (o : Option Node) → at u p ≡ o → HasMode o → IsLayer (with_mode u p o mode)
    by None e has = absurd has
    by (Some (Dir m b)) e has = (dir_stays u ok p m (meta_with_mode m mode) b b e low).layer
    by (Some (File k)) e has =
        let there = ok.nodes p (File k) e in
        let is = file_body (body u k) there in
        subst (λ (o : Option Body). IsLayer (with_file_mode u k o mode)) (sym is.2) (IsLayer-with_body u k (body_kinds.File (meta_with_mode is.0 mode) is.1) ok there (low, (subst IsFile is.2 there).1))
    by (Some (Symlink k)) e has = absurd has
    by (Some Whiteout) e has = absurd has

pub with_mode_planned : (u : Tree) (p : Names) (mode : ℕ) → IsLayer u → HasMode (at u p) → mode ≤ most_mode → (usage : Usage) → usage ≡ record { blocks = block_count u; inodes = inode_count u } → ◌≡◌ {A = Result Planned FsError} (Ok (record { after = usage })) (planned (limited (with_mode u p (at u p) mode)))
with_mode_planned u p mode ok has low usage is =
    planned_fits (with_mode u p (at u p) mode) usage (limited (with_mode u p (at u p) mode))
    (mode_layer u p mode ok has low)
    (ap (λ (n : Usage). n.blocks) is ∙ sym (block_count-with_mode u ok p mode))
    (ap (λ (n : Usage). n.inodes) is ∙ sym (inode_count-with_mode u ok p mode))
    refl

-- ---- changes

module _ (u : Tree) (ls : List Tree) (p : Names) (mode : ℕ) (ok : IsLayer u) (passes : first_error (tests (op.SetMode p mode) (u ∷ ls)) ≡ None) where
  pub lower_ready : AreLayers ls → is_some (at u p) ≡ false → (n : New) → IsWithMode n (seen (u ∷ ls) p) mode → (walk_error (u ∷ ls) p ≡ None) × CanStand (as_last n) u p × IsSound n
  lower_ready layers none (new.Dir m opaque) is =
      let can = settable u ls p mode ok passes in
      (can.way, (vacant u p ok (none_from (at u p) none), subst IsMeta (sym is.2) can.low), tt)
  lower_ready layers none (new.File m old edit) is =
      let can = settable u ls p mode ok passes in
      let whole = subst IsWholeObject is.1 (whole_seen (u ∷ ls) (ok, layers) p) in
      let short : IsContent (edited edit old.now) = subst (λ (e : Edit). IsContent (edited e old.now)) (sym is.3) whole.1 in
      (can.way, (vacant u p ok (none_from (at u p) none), subst IsMeta (sym is.2) can.low, short), (subst (λ (e : Edit). IsShort e old.now) (sym is.3) tt, short))
  lower_ready layers none (new.Empty m) is = absurd is
  lower_ready layers none (new.Sized m size digest) is = absurd is
  lower_ready layers none (new.Symlink target) is = absurd is

  lower_same : at u p ≡ None → (n : New) → IsWithMode n (seen (u ∷ ls) p) mode → with_last (as_last n) (with_parents u ls p) p ≡ with_mode (copied_up u ls p) p (at (copied_up u ls p) p) mode
  lower_same none (new.Dir m opaque) is =
      (λ i. with_last (last.Dir (is.2 i) (is.3 i)) (with_parents u ls p) p)
      ∙ sym (dir_copy u ls p (settable u ls p mode ok passes).way none is.0 mode is.1)
  lower_same none (new.File m old edit) is =
      (λ i. with_last (last.File (is.2 i) (edited (is.3 i) old.now)) (with_parents u ls p) p)
      ∙ sym (copy_file_mode u ls p (settable u ls p mode ok passes).way none is.0 mode old.now is.1)
  lower_same none (new.Empty m) is = absurd is
  lower_same none (new.Sized m size digest) is = absurd is
  lower_same none (new.Symlink target) is = absurd is

  pub lower_after : is_some (at u p) ≡ false → (n : New) → IsWithMode n (seen (u ∷ ls) p) mode → limited (with_last (as_last n) (with_parents u ls p) p) ≡ after (op.SetMode p mode) u ls
  lower_after none n is = ap limited (lower_same (none_from (at u p) none) n is) ∙ sym (after_passes (op.SetMode p mode) u ls passes)
