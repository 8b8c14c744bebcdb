-- All that is seen at a path, taken.
use Rattle.std.proofs.Common.{◌≡◌, inl, inr, ℕ, ◌+◌, Bool, true, false, cond, not, List, [], ◌∷◌, ◌++◌, length, Option, Some, None, is_some, Result, Ok, refl, sym, ap, subst, ◌∙◌, arith, append_assoc, append-nil, length-append}
use Rattle.std.specs.Prelude.{option_and_then, if◌then◌else◌}
use Rattle.std.specs.Ordering.{nat_cmp}
use Rattle.std.specs.List.Sorted.{IsStrictlySortedBy}
use Rattle.std.specs.Map.{lookup, keys_of}
use Rattle.std.specs.BTreeMap.{is_at}
use Rattle.snap_path.specs.Text.{Names, IsPath, begins}
use Rattle.snap_layer.specs.declared.node.Node.{Node}
use Rattle.snap_layer.specs.declared.node.Node.TheVariants.{Whiteout}
use Rattle.snap_layer.specs.Tree.{Tree, Bodies, at, hides, node_hides, number_of, IsDirAt}
use Rattle.snap_layer.specs.Counts.{inode_count, block_count}
use Rattle.snap_layer.specs.Layers.{IsLayer}
use Rattle.snap_layer.specs.Edits.{IsInnerDir, with_entry, with_tree_taken, without, without_tree}
use Rattle.snap_layer.proofs.Kept.{nothing_below}
use Rattle.snap_layer.proofs.Laws.{Takes}
use Rattle.snap_layer.proofs.Looks.{Sets, Sets-with_entry}
use Rattle.snap_layer.proofs.Paths.{begins_itself, split_front}
use Rattle.snap_layer.proofs.TreeLayers.{Takes-tree, body_kept, IsLayer-taken, taken_inodes, taken_blocks}
use Rattle.snap_layer.proofs.Trees.{tree_is_name}
use Rattle.snap_usage.specs.declared.usage.Usage.{Usage}
use Rattle.snap_merge.specs.declared.error.FsError.{FsError}
use Rattle.snap_merge.specs.declared.error.FsError.TheVariants.{Invalid, NotFound}
use Rattle.snap_merge.specs.Objects.{Object, seen, is_shown_dir, AreLayers}
use Rattle.snap_merge.specs.Walk.{walk_error}
use Rattle.snap_merge.proofs.Views.{seen_node, seen_through, seen_alike}
use Rattle.snap_merge.proofs.Hiding.{hidden_by, hides_from_above, hides_alike}
use Rattle.snap_merge.proofs.Above.{nothing_seen}
use Rattle.snap_copyup.specs.Copying.{below, with_parents}
use Rattle.snap_copyup.proofs.Alone.{below_seen}
use Rattle.snap_copyup.proofs.Elsewhere.{shown_same}
use Rattle.snap_copyup.proofs.Layers.{no_missing}
use Rattle.snap_copyup.proofs.ParentDirs.{AddsParents, adds_parents}
use Rattle.snap_upper.specs.declared.op.Op.TheVariants as op
use Rattle.snap_upper.specs.declared.usage.Planned.{Planned}
use Rattle.snap_upper.specs.After.{erased, error_if, first_error, is_root, limited, planned, tests, tree_erased}
use Rattle.snap_upper.specs.Changed.{ShowsGone}
use Rattle.snap_upper.proofs.Erased.{above_itself, above_out}
use Rattle.snap_upper.proofs.Outcomes.{error_if_passes, planned_fits, test_passes}

no_bool : true ≡ false → ⊥
no_bool e = cc

-- ---- tests that have passed

-- something other than the root is seen
pub record IsErasableTree (s : List Tree) (p : Names) : Type 0 where
  pub way : walk_error s p ≡ None
  pub below_root : p ≡ [] → ⊥
  pub there : is_some (seen s p) ≡ true

no_root : (p : Names) → is_root p ≡ false → p ≡ [] → ⊥
no_root [] e is = cc
no_root (n ∷ p) e is = cc

not_false : (b : Bool) → not b ≡ false → b ≡ true
not_false true e = refl
not_false false e = absurd (no_bool e)

pub IsErasableTree-passed : (s : List Tree) (p : Names) → first_error (tests (op.Whiteout p) s) ≡ None → IsErasableTree s p
IsErasableTree-passed s p passes =
    let missing = error_if (not (is_some (seen s p))) NotFound in
    let first = test_passes (walk_error s p) (error_if (is_root p) Invalid ∷ missing ∷ []) passes in
    let second = test_passes (error_if (is_root p) Invalid) (missing ∷ []) first.1 in
    let third = test_passes missing [] second.1 in
    record {
      way = first.0;
      below_root = no_root p (error_if_passes (is_root p) Invalid second.0);
      there = not_false (is_some (seen s p)) (error_if_passes (not (is_some (seen s p))) NotFound third.0);
    }

-- ---- the next layer

-- the layer has something at the path
pub tree_own : (u : Tree) (ls : List Tree) (p : Names) (covers : Bool) → IsLayer u → is_some (at u p) ≡ true → covers ≡ is_some (below u ls p) → tree_erased u ls p ≡ with_tree_taken u p covers
tree_own u ls p covers ok some is =
    ap (λ (t : Tree). with_tree_taken t p (is_some (below u ls p))) (no_missing u ls p ok some)
    ∙ ap (λ (b : Bool). with_tree_taken u p b) (sym is)

-- the layer has no directory there: all that goes is a name, if anything does
pub tree_is_erased : (u : Tree) (ls : List Tree) (p : Names) → IsLayer u → walk_error (u ∷ ls) p ≡ None → (IsDirAt (at u p) → ⊥) → tree_erased u ls p ≡ erased u ls p
tree_is_erased u ls p ok way no_dir =
    let t = with_parents u ls p in
    let parents = adds_parents u ls p way in
    let same : without t p ≡ without_tree t p =
    tree_is_name t p
    (subst (λ (bs : Bodies). IsStrictlySortedBy nat_cmp (keys_of bs)) (sym parents.bodies) ok.sorted_numbers)
    (λ k some.
    let had = ok.named k (subst (λ (bs : Bodies). is_some (lookup (is_at (nat_cmp k)) bs) ≡ true) parents.bodies some) in
    (had.0, parents.numbers had.0 ∙ had.1))
    (λ n r. parents.numbers (p ++ n ∷ r) ∙ ap (option_and_then number_of) (nothing_below u ok p no_dir n r)) in
    ap (λ (x : Tree). if is_some (below u ls p) then with_entry x p Whiteout else x) (sym same)

-- ---- what is seen afterwards

-- a whiteout hides what is below
covered_tree : (u t : Tree) (ls : List Tree) (p : Names) → AddsParents u t ls (length p) → ShowsGone (seen (u ∷ ls)) (seen (with_entry (without_tree t p) p Whiteout ∷ ls)) p
covered_tree u t ls p parents = record {
  gone = gone;
  others = λ q out. elim (split_front p q) [
    | inl within ↦ absurd (out within.1 within.2)
    | inr away ↦
        seen_alike t v ls q (record {
          here = outside q away.0;
          shows = λ n e. shown_same t v n (λ j number. body_kept t p q n j away.0 e number);
          above = λ r n rest is. ap node_hides (outside r (above_out p q r n rest out is));
        })
        ∙ parents.view q
  ];
}
  where
    v : Tree
    v = with_entry (without_tree t p) p Whiteout

    sets : Sets (without_tree t p) (with_entry (without_tree t p) p Whiteout) p (Some Whiteout)
    sets = Sets-with_entry (without_tree t p) p Whiteout

    outside : (q : Names) → begins p q ≡ false → at (with_entry (without_tree t p) p Whiteout) q ≡ at t q
    outside q out = sets.others q (λ e. no_bool (sym (ap (begins p) e ∙ begins_itself p) ∙ out)) ∙ (Takes-tree t p).others q out

    inside : (n : List ℕ) (r : Names) → at (with_entry (without_tree t p) p Whiteout) (p ++ n ∷ r) ≡ None
    inside n r = sets.others (p ++ n ∷ r) (λ e. omega (arith, ap (λ (x : Names). length x) e, length-append p (n ∷ r))) ∙ (Takes-tree t p).below n r

    gone : (r : Names) → seen (with_entry (without_tree t p) p Whiteout ∷ ls) (p ++ r) ≡ None
    gone [] = ap (seen (v ∷ ls)) (append-nil p) ∙ seen_node v ls p Whiteout sets.here
    gone (n ∷ r) = seen_through v ls (p ++ n ∷ r) true (inside n r) (hides_from_above v (p ++ n ∷ r) (p, n, r, refl, ap node_hides sets.here))

-- nothing is below
bare_tree : (u : Tree) (ls : List Tree) (p : Names) → AreLayers ls → below u ls p ≡ None → ShowsGone (seen (u ∷ ls)) (seen (without_tree u p ∷ ls)) p
bare_tree u ls p layers bare = record {
  gone = gone;
  others = λ q out. elim (split_front p q) [
    | inl within ↦ absurd (out within.1 within.2)
    | inr away ↦ seen_alike u v ls q (record {
      here = takes.others q away.0;
      shows = λ n e. shown_same u v n (λ j number. body_kept u p q n j away.0 e number);
      above = λ r n rest is. ap node_hides (takes.others r (above_out p q r n rest out is));
    })
  ];
}
  where
    v : Tree
    v = without_tree u p

    takes : Takes u (without_tree u p) p
    takes = Takes-tree u p

    hides_same : hides (without_tree u p) p ≡ hides u p
    hides_same = hides_alike u v p [] (λ q n r e. ap node_hides (takes.others q (above_itself p q n r e)))

    -- what is hidden at the path is hidden below it
    deeper : (n : List ℕ) (r : Names) → hides u p ≡ true → hides (without_tree u p) (p ++ n ∷ r) ≡ true
    deeper n r e =
        let h = hidden_by v p (hides_same ∙ e) in
        hides_from_above v (p ++ n ∷ r) (h.0, h.1, h.2 ++ n ∷ r, ap (λ (x : Names). x ++ n ∷ r) h.3 ∙ append_assoc h.0 (h.1 ∷ h.2) (n ∷ r), h.4)

    lower : (n : List ℕ) (r : Names) (b : Bool) → hides u p ≡ b → cond b None (seen ls p) ≡ None → (c : Bool) → hides (without_tree u p) (p ++ n ∷ r) ≡ c → cond c None (seen ls (p ++ n ∷ r)) ≡ None
    lower n r b e nothing true f = refl
    lower n r true e nothing false f = absurd (no_bool (sym (deeper n r e) ∙ f))
    lower n r false e nothing false f = nothing_seen ls layers r p n (ap is_shown_dir nothing)

    gone : (r : Names) → seen (without_tree u p ∷ ls) (p ++ r) ≡ None
    gone [] = ap (seen (v ∷ ls)) (append-nil p) ∙ seen_through v ls p (hides u p) takes.here hides_same ∙ bare
    gone (n ∷ r) =
        seen_through v ls (p ++ n ∷ r) (hides v (p ++ n ∷ r)) (takes.below n r) refl
        ∙ lower n r (hides u p) refl bare (hides v (p ++ n ∷ r)) refl

pub tree_changes : (u : Tree) (ls : List Tree) (p : Names) → IsLayer u → AreLayers ls → IsErasableTree (u ∷ ls) p → ShowsGone (seen (u ∷ ls)) (seen (tree_erased u ls p ∷ ls)) p
tree_changes u ls p ok layers erasable = by (at u p) refl
  where
    Goal : Tree → Type 0
    Goal v = ShowsGone (seen (u ∷ ls)) (seen (v ∷ ls)) p

    parents : AddsParents u (with_parents u ls p) ls (length p)
    parents = adds_parents u ls p erasable.way

    own : (n : Node) → at u p ≡ Some n → (o : Option Object) → below u ls p ≡ o → ShowsGone (seen (u ∷ ls)) (seen (tree_erased u ls p ∷ ls)) p
    own n e None bare = subst Goal (sym (tree_own u ls p false ok (ap is_some e) (sym (ap is_some bare)))) (bare_tree u ls p layers bare)
    own n e (Some o) covers = subst Goal (sym (tree_own u ls p true ok (ap is_some e) (sym (ap is_some covers)))) (covered_tree u u ls p (subst (λ (v : Tree). AddsParents u v ls (length p)) (no_missing u ls p ok (ap is_some e)) parents))

    by : (o : Option Node) → at u p ≡ o → ShowsGone (seen (u ∷ ls)) (seen (tree_erased u ls p ∷ ls)) p
    by None e = subst Goal (sym (ap (λ (b : Bool). with_tree_taken (with_parents u ls p) p b) (ap is_some (sym (below_seen u ls p e)) ∙ erasable.there))) (covered_tree u (with_parents u ls p) ls p parents)
    by (Some n) e = own n e (below u ls p) refl

-- ---- plans

pub tree_planned : (u : Tree) (ls : List Tree) (p : Names) (covers : Bool) → IsLayer u → IsPath p → IsInnerDir u p → covers ≡ is_some (below u ls p) → (usage : Usage)
    → usage.inodes ≡ inode_count (without_tree u p) + (if covers then 1 else 0) → usage.blocks ≡ block_count (without_tree u p) → ◌≡◌ {A = Result Planned FsError} (Ok (record { after = usage })) (planned (limited (tree_erased u ls p)))
tree_planned u ls p covers ok path inner is usage inodes blocks =
    planned_fits (with_tree_taken u p covers) usage (limited (with_tree_taken u p covers))
    (IsLayer-taken u ok p inner path covers)
    (blocks ∙ sym (taken_blocks u ok p inner covers))
    (inodes ∙ sym (taken_inodes u ok p inner covers))
    refl
    ∙ ap (λ (t : Tree). planned (limited t)) (sym (tree_own u ls p covers ok (there (at u p) inner.dir) is))
  where
    there : (o : Option Node) → IsDirAt o → is_some o ≡ true
    there None d = absurd d
    there (Some n) d = refl
