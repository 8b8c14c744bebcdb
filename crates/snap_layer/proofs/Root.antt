-- The table with the root alone.
use Rattle.std.proofs.Common.{◌≡◌, ℕ, false, List, [], ◌∷◌, Some, None, IsSome, refl, sym, ap, subst, ◌∙◌, inl, inr}
use Rattle.std.specs.Prelude.{option_and_then, is_some}
use Rattle.std.specs.Ordering.{nat_cmp}
use Rattle.std.specs.Cmp.Lexicographic.{slice_cmp}
use Rattle.std.specs.List.Sorted.{IsStrictlySortedBy}
use Rattle.std.specs.Map.{lookup}
use Rattle.std.specs.BTreeMap.{BTreeMap, is_at}
use Rattle.slab.specs.Slab.{Slab as Slots, get}
use Rattle.snap_path.specs.Text.{Names}
use Rattle.snap_layer.specs.declared.node.Meta.{Meta}
use Rattle.snap_layer.specs.declared.node.Node.{Node}
use Rattle.snap_layer.specs.Tree.{at, number_of, IsDirAt}
use Rattle.snap_layer.specs.Edits.{root_within}
use Rattle.snap_layer.specs.declared.inode.Inode.{Inode}
use Rattle.snap_layer.specs.declared.inode.Inode.TheVariants as inode
use Rattle.snap_layer.specs.declared.inode.Target.{Target}
use Rattle.snap_layer.specs.declared.inode.Target.TheVariants as target
use Rattle.snap_layer.specs.Walk.{follow, walk, entry_of, entry_at, node_of, node_at, node_shown, stands, view_of}
use Rattle.snap_layer.specs.Holds.{Places}
use Rattle.snap_layer.proofs.Frames.{split_ℕ}
use Rattle.snap_layer.proofs.Makes.{Makes}

no_some : {A : Type 0} (x : A) → None ≡ Some x → ⊥
no_some x e = cc

no_node : IsSome {T = Node} None → ⊥
no_node e = cc

module _ (s : Slots Inode) (root most : ℕ) (m : Meta) (first : ℕ) (es : BTreeMap (List ℕ) Target) (is : get s root ≡ Some (inode.Dir m false es)) (empty : es.entries ≡ []) (alone : (c : ℕ) → (c ≡ root → ⊥) → get s c ≡ None) where
  no_entry : (n : List ℕ) → entry_at s root n ≡ None
  no_entry n = ap (λ o. entry_of o n) is ∙ ap (lookup (is_at (slice_cmp nat_cmp n))) empty

  walk_none : (n : List ℕ) (ns : Names) → walk (entry_at s) root (n ∷ ns) ≡ None
  walk_none n ns = ap (λ o. follow o (λ c. walk (entry_at s) c ns) ns) (no_entry n)

  only : (p : Names) (c : ℕ) → walk (entry_at s) root p ≡ Some (target.Inode c) → (p ≡ []) × (root ≡ c)
  only [] c to = (refl, cc)
  only (n ∷ ns) c to = absurd (no_some (target.Inode c) (sym (walk_none n ns) ∙ to))

  shows : (q : Names) → stands (view_of s) root q ≡ at (root_within most m first) q
  shows [] = ap node_of is
  shows (n ∷ ns) = ap (node_shown (node_at s)) (walk_none n ns)

  sorted_none : IsStrictlySortedBy nat_cmp []
  unfolding IsStrictlySortedBy
  sorted_none = tt

  pub root_makes : (ps : Places) → ps ≡ [] → Makes (view_of s) root ps first (root_within most m first)
  root_makes ps none = subst (λ (x : Places). Makes (view_of s) root x first (root_within most m first)) (sym none) (record {
    table = record {
      root_dir = subst IsDirAt (sym (ap node_of is)) refl;
      there = λ p c to. subst (λ (x : ℕ). IsSome (node_at s x)) (only p c to).1 (ap is_some (ap node_of is));
      forest = λ p q c dir to_p to_q. (only p c to_p).0 ∙ sym (only q c to_q).0;
      reached = λ c some. elim (split_ℕ c root) [ inl same ↦ ([], ap (λ (x : ℕ). Some (target.Inode x)) (sym same)) | inr other ↦ absurd (no_node (subst IsSome (ap node_of (alone c other)) some)) ];
    };
    filed = record {
      placed = λ p c k to number. absurd (no_some k (sym (ap (λ (x : ℕ). option_and_then number_of (node_at s x)) (sym (only p c to).1) ∙ ap (λ o. option_and_then number_of (node_of o)) is) ∙ number));
      housed = λ k c found. absurd (no_some c found);
      counted = λ k c found. absurd (no_some c found);
      sorted = sorted_none;
    };
    shows = shows;
    bodies = λ j. refl;
    last = refl;
  })
