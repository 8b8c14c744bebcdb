-- A directory that becomes opaque.
use Rattle.std.proofs.Common.{◌≡◌, inl, inr, ℕ, Bool, true, false, List, [], ◌∷◌, ◌++◌, length, Option, Some, None, is_some, Result, Ok, refl, sym, ap, subst, ◌∙◌, arith, length-append}
use Rattle.std.specs.Ordering.{nat_cmp}
use Rattle.std.specs.Map.{lookup}
use Rattle.std.specs.BTreeMap.{is_at}
use Rattle.snap_path.specs.Text.{Names}
use Rattle.snap_layer.specs.declared.node.Meta.{Meta}
use Rattle.snap_layer.specs.declared.node.Node.{Node}
use Rattle.snap_layer.specs.declared.node.Node.TheVariants.{Dir, File, Symlink, Whiteout}
use Rattle.snap_layer.specs.declared.node.Body.{Body}
use Rattle.snap_layer.specs.declared.node.Body.TheVariants as body_kinds
use Rattle.snap_layer.specs.Tree.{Tree, Bodies, at, body, hides, node_hides, IsDirAt}
use Rattle.snap_layer.specs.Counts.{inode_count, block_count}
use Rattle.snap_layer.specs.Layers.{IsLayer}
use Rattle.snap_layer.specs.Edits.{with_entry, with_opaque}
use Rattle.snap_layer.proofs.Looks.{Sets-with_entry, split_path}
use Rattle.snap_usage.specs.declared.usage.Usage.{Usage}
use Rattle.snap_merge.specs.declared.error.FsError.{FsError}
use Rattle.snap_merge.specs.Objects.{Object, dir, file, symlink, seen, shown, shown_body, AreLayers}
use Rattle.snap_merge.specs.Walk.{walk_error}
use Rattle.snap_merge.proofs.Hiding.{hides_from_above}
use Rattle.snap_merge.proofs.Views.{seen_alike, seen_node, seen_through}
use Rattle.snap_copyup.specs.Copying.{copied_up, with_parents}
use Rattle.snap_copyup.specs.Places.{with_last, CanStand}
use Rattle.snap_copyup.specs.declared.parents.Last.TheVariants as last
use Rattle.snap_copyup.proofs.Elsewhere.{shown_same}
use Rattle.snap_copyup.proofs.Layers.{no_missing}
use Rattle.snap_copyup.proofs.ParentDirs.{AddsParents, adds_parents}
use Rattle.snap_copyup.proofs.Wholes.{IsWholeObject, whole_seen, vacant}
use Rattle.snap_upper.specs.declared.op.Op.TheVariants as op
use Rattle.snap_upper.specs.declared.usage.Planned.{Planned}
use Rattle.snap_upper.specs.After.{after, limited, planned, tests, first_error}
use Rattle.snap_upper.specs.Changed.{ShowsOpaque}
use Rattle.snap_upper.proofs.KindErrors.{dir_error}
use Rattle.snap_upper.proofs.Outcomes.{test_passes, after_passes, planned_fits}
use Rattle.snap_upper.proofs.Modes.{copied_as}
use Rattle.snap_upper.proofs.MoveCounts.{opaque_layer}
use Rattle.snap_upper.proofs.Prepared.{own_copy}
use Rattle.snap_upper.proofs.Shifted.{opaque_inodes, opaque_blocks}
use Rattle.snap_upper.proofs.Writing.{entry_with_entry}

-- ---- tests

-- the tests have passed
pub record IsHideable (s : List Tree) (p : Names) : Type 0 where
  pub way : walk_error s p ≡ None
  pub there : dir_error (seen s p) ≡ None

pub IsHideable-passed : (s : List Tree) (p : Names) → first_error (tests (op.Opaque p) s) ≡ None → IsHideable s p
IsHideable-passed s p passes =
    let first = test_passes (walk_error s p) (dir_error (seen s p) ∷ []) passes in
    let second = test_passes (dir_error (seen s p)) [] first.1 in
    record { way = first.0; there = second.0 }

seen_dir : (o : Option Object) → dir_error o ≡ None → (m : Meta) × (o ≡ Some (dir m))
seen_dir None e = absurd (cc)
seen_dir (Some (dir m)) e = (m, refl)
seen_dir (Some (file m old)) e = absurd (cc)
seen_dir (Some (symlink target)) e = absurd (cc)

-- ---- outcomes

module _ (u : Tree) (ls : List Tree) (p : Names) (m : Meta) (ok : IsLayer u) (was : seen (u ∷ ls) p ≡ Some (dir m)) where
  -- the layer has the directory
  pub own_dir : is_some (at u p) ≡ true → IsDirAt (at u p)
  own_dir some = by (at u p) refl some
    where
      shown_no_dir : (o : Option Body) → shown_body o ≡ Some (dir m) → ⊥
      shown_no_dir None e = cc
      shown_no_dir (Some (body_kinds.File meta content)) e = cc
      shown_no_dir (Some (body_kinds.Symlink target)) e = cc

      by : (o : Option Node) → at u p ≡ o → is_some o ≡ true → IsDirAt o
      by None e some = absurd (cc)
      by (Some (Dir n b)) e some = refl
      by (Some (File k)) e some = absurd (shown_no_dir (body u k) (sym (seen_node u ls p (File k) e) ∙ was))
      by (Some (Symlink k)) e some = absurd (shown_no_dir (body u k) (sym (seen_node u ls p (Symlink k) e) ∙ was))
      by (Some Whiteout) e some = let gone = sym (seen_node u ls p Whiteout e) ∙ was in absurd (cc)

  pub own_opaque : is_some (at u p) ≡ true → with_opaque (copied_up u ls p) p (at (copied_up u ls p) p) true ≡ with_opaque u p (at u p) true
  own_opaque some = ap (λ (t : Tree). with_opaque t p (at t p) true) (own_copy u ls p ok some)

  -- it is copied up
  copy_dir : (t : Tree) → with_opaque (with_entry t p (Dir m false)) p (at (with_entry t p (Dir m false)) p) true ≡ with_entry t p (Dir m true)
  copy_dir t =
      ap (λ (o : Option Node). with_opaque (with_entry t p (Dir m false)) p o true) (Sets-with_entry t p (Dir m false)).here
      ∙ entry_with_entry t p (Dir m false) (Dir m true)

  pub copy_opaque : walk_error (u ∷ ls) p ≡ None → at u p ≡ None → with_opaque (copied_up u ls p) p (at (copied_up u ls p) p) true ≡ with_entry (with_parents u ls p) p (Dir m true)
  copy_opaque way none = ap (λ (v : Tree). with_opaque v p (at v p) true) (copied_as u ls p way none (Some (dir m)) was) ∙ copy_dir (with_parents u ls p)

module _ (u : Tree) (ls : List Tree) (p : Names) (ok : IsLayer u) (passes : first_error (tests (op.Opaque p) (u ∷ ls)) ≡ None) (m : Meta) (was : seen (u ∷ ls) p ≡ Some (dir m)) where
  pub own_opaque_after : is_some (at u p) ≡ true → limited (with_opaque u p (at u p) true) ≡ after (op.Opaque p) u ls
  own_opaque_after some = ap limited (sym (own_opaque u ls p m ok was some)) ∙ sym (after_passes (op.Opaque p) u ls passes)

  none_from : (o : Option Node) → is_some o ≡ false → o ≡ None
  none_from None e = refl
  none_from (Some x) e = absurd (cc)

  pub lower_opaque_ready : AreLayers ls → is_some (at u p) ≡ false → (walk_error (u ∷ ls) p ≡ None) × CanStand (last.Dir m true) u p
  lower_opaque_ready layers none = ((IsHideable-passed (u ∷ ls) p passes).way, (vacant u p ok (none_from (at u p) none), subst IsWholeObject was (whole_seen (u ∷ ls) (ok, layers) p)))

  pub lower_opaque_after : is_some (at u p) ≡ false → limited (with_last (last.Dir m true) (with_parents u ls p) p) ≡ after (op.Opaque p) u ls
  lower_opaque_after none = ap limited (sym (copy_opaque u ls p m ok was (IsHideable-passed (u ∷ ls) p passes).way (none_from (at u p) none))) ∙ sym (after_passes (op.Opaque p) u ls passes)

-- ---- plans

pub with_opaque_planned : (u : Tree) (p : Names) → IsLayer u → (usage : Usage) → usage ≡ record { blocks = block_count u; inodes = inode_count u } → ◌≡◌ {A = Result Planned FsError} (Ok (record { after = usage })) (planned (limited (with_opaque u p (at u p) true)))
with_opaque_planned u p ok usage is =
    planned_fits (with_opaque u p (at u p) true) usage (limited (with_opaque u p (at u p) true))
    (opaque_layer u ok p)
    (ap (λ (n : Usage). n.blocks) is ∙ sym (opaque_blocks u p ok.sorted_paths))
    (ap (λ (n : Usage). n.inodes) is ∙ sym (opaque_inodes u p ok.sorted_paths))
    refl

-- ---- what is seen

-- a directory that hides what is below it
marked_changes : (u t : Tree) (ls : List Tree) (p : Names) (m : Meta) → AddsParents u t ls (length p) → seen (u ∷ ls) p ≡ Some (dir m)
    → ShowsOpaque u (seen (u ∷ ls)) (seen (with_entry t p (Dir m true) ∷ ls)) p
marked_changes u t ls p m parents was = record { below = below; others = others }
  where
    v : Tree
    v = with_entry t p (Dir m true)

    kept : (q : Names) (n : Node) → shown v n ≡ shown u n
    kept q n = shown_same u v n (λ k number. ap (λ (bs : Bodies). lookup (is_at (nat_cmp k)) bs) parents.bodies)

    below : (n : List ℕ) (r : Names) → seen (with_entry t p (Dir m true) ∷ ls) (p ++ n ∷ r) ≡ seen (u ∷ []) (p ++ n ∷ r)
    below n r = by (at u (p ++ n ∷ r)) refl
      where
        longer : p ++ n ∷ r ≡ p → ⊥
        longer e = omega (arith, ap (λ (x : Names). length x) e, length-append p (n ∷ r))

        same : at (with_entry t p (Dir m true)) (p ++ n ∷ r) ≡ at u (p ++ n ∷ r)
        same = (Sets-with_entry t p (Dir m true)).others (p ++ n ∷ r) longer ∙ parents.leaves (p ++ n ∷ r) (omega (arith, length-append p (n ∷ r)))

        alone : (b : Bool) → hides u (p ++ n ∷ r) ≡ b → at u (p ++ n ∷ r) ≡ None → seen (u ∷ []) (p ++ n ∷ r) ≡ None
        alone true h e = seen_through u [] (p ++ n ∷ r) true e h
        alone false h e = seen_through u [] (p ++ n ∷ r) false e h

        by : (o : Option Node) → at u (p ++ n ∷ r) ≡ o → seen (with_entry t p (Dir m true) ∷ ls) (p ++ n ∷ r) ≡ seen (u ∷ []) (p ++ n ∷ r)
        by None e =
            seen_through v ls (p ++ n ∷ r) true (same ∙ e) (hides_from_above v (p ++ n ∷ r) (p, n, r, refl, ap node_hides (Sets-with_entry t p (Dir m true)).here))
            ∙ sym (alone (hides u (p ++ n ∷ r)) refl e)
        by (Some x) e = seen_node v ls (p ++ n ∷ r) x (same ∙ e) ∙ kept (p ++ n ∷ r) x ∙ sym (seen_node u [] (p ++ n ∷ r) x e)

    others : (q : Names) → ((n : List ℕ) (r : Names) → q ≡ p ++ n ∷ r → ⊥) → seen (with_entry t p (Dir m true) ∷ ls) q ≡ seen (u ∷ ls) q
    others q out = elim (split_path q p) [
      | inl one ↦ ap (seen (v ∷ ls)) one.0 ∙ seen_node v ls p (Dir m true) (Sets-with_entry t p (Dir m true)).here ∙ sym was ∙ ap (seen (u ∷ ls)) (sym one.0)
      | inr two ↦
          seen_alike t v ls q (record {
            here = (Sets-with_entry t p (Dir m true)).others q (λ e. two.0 (sym e));
            shows = λ n e. shown_same t v n (λ j is. refl);
            above = λ r n rest is. ap node_hides ((Sets-with_entry t p (Dir m true)).others r (λ e. out n rest (is ∙ ap (λ (x : Names). x ++ n ∷ rest) e)));
          })
          ∙ parents.view q
    ]

pub opaque_changes : (u : Tree) (ls : List Tree) (p : Names) → IsLayer u → first_error (tests (op.Opaque p) (u ∷ ls)) ≡ None
    → ShowsOpaque u (seen (u ∷ ls)) (seen (with_opaque (copied_up u ls p) p (at (copied_up u ls p) p) true ∷ ls)) p
opaque_changes u ls p ok passes = by (at u p) refl
  where
    way : walk_error (u ∷ ls) p ≡ None
    way = (IsHideable-passed (u ∷ ls) p passes).way

    found : (m : Meta) × (seen (u ∷ ls) p ≡ Some (dir m))
    found = seen_dir (seen (u ∷ ls) p) (IsHideable-passed (u ∷ ls) p passes).there

    Goal : Tree → Type 0
    Goal v = ShowsOpaque u (seen (u ∷ ls)) (seen (v ∷ ls)) p

    own : (o : Option Node) → at u p ≡ o → IsDirAt o → is_some o ≡ true → ShowsOpaque u (seen (u ∷ ls)) (seen (with_opaque (copied_up u ls p) p (at (copied_up u ls p) p) true ∷ ls)) p
    own None e is some = absurd is
    own (Some (Dir n b)) e is some =
        let none_missing = subst (λ (v : Tree). AddsParents u v ls (length p)) (no_missing u ls p ok (ap is_some e)) (adds_parents u ls p way) in
        let whole = own_opaque u ls p found.0 ok found.1 (ap is_some e) ∙ ap (λ (o : Option Node). with_opaque u p o true) e in
        subst Goal (sym whole) (marked_changes u u ls p n none_missing (seen_node u ls p (Dir n b) e))
    own (Some (File k)) e is some = absurd (cc)
    own (Some (Symlink k)) e is some = absurd (cc)
    own (Some Whiteout) e is some = absurd (cc)

    by : (o : Option Node) → at u p ≡ o → ShowsOpaque u (seen (u ∷ ls)) (seen (with_opaque (copied_up u ls p) p (at (copied_up u ls p) p) true ∷ ls)) p
    by None e = subst Goal (sym (copy_opaque u ls p found.0 ok found.1 way e)) (marked_changes u (with_parents u ls p) ls p found.0 (adds_parents u ls p way) found.1)
    by (Some n) e = own (at u p) refl (own_dir u ls p found.0 ok found.1 (ap is_some e)) (ap is_some e)
