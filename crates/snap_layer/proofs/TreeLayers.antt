-- The layer without a directory and all that is below it.
use Rattle.std.proofs.Common.{◌≡◌, inl, inr, ℕ, ◌+◌, ◌≤◌, Bool, true, false, cond, not, List, [], ◌∷◌, ◌++◌, Option, Some, None, IsSome, refl, sym, ap, subst, ◌∙◌, arith, length, length-append, append-nil}
use Rattle.std.specs.Prelude.{is_some, option_and_then, ◌==◌, ◌↔◌, if◌then◌else◌, Result, Ok, Err, OnOk, IsErrOf}
use Rattle.std.specs.FinMap.{nat_cmp-IsAntisymmetric}
use Rattle.std.specs.Ordering.{nat_cmp}
use Rattle.std.specs.Cmp.{nat_cmp_total}
use Rattle.std.proofs.lemmas.Bool.{cond-true, cond-false}
use Rattle.std.proofs.lemmas.Bool.Decides.{nat_tests}
use Rattle.snap_path.specs.Text.{Names, IsPath, begins}
use Rattle.snap_path.specs.declared.memory.NoMemory.{NoMemory}
use Rattle.snap_path.specs.Memory.{no_memory}
use Rattle.snap_layer.specs.declared.error.LayerError.{LayerError}
use Rattle.snap_layer.specs.declared.error.LayerError.TheVariants.{LayerFull, OutOfMemory}
use Rattle.snap_layer.specs.declared.node.Node.{Node}
use Rattle.snap_layer.specs.declared.node.Node.TheVariants.{Whiteout}
use Rattle.snap_layer.specs.declared.node.Body.{Body}
use Rattle.snap_layer.specs.Tree.{Tree, path_cmp, at, body, number_of, IsDirAt}
use Rattle.snap_layer.specs.Counts.{name_count, inode_count, block_count, is_within}
use Rattle.snap_layer.specs.Layers.{IsLayer}
use Rattle.snap_layer.specs.Edits.{with_entry, with_node, with_tree_taken, without_tree, outside, IsInnerDir}
use Rattle.snap_layer.proofs.Counting.{inode_count-with_entry, inode_count-without, block_count-with_entry, inodes_of, weight, dirs}
use Rattle.snap_layer.proofs.Ending.{tree_inodes, dir_inside}
use Rattle.snap_layer.proofs.Kept.{IsLayer-with_entry, IsWhole-same, has_body}
use Rattle.snap_layer.proofs.Laws.{Takes, Takes-without}
use Rattle.snap_layer.proofs.Lists.{lookup-filter, sorted-filter}
use Rattle.snap_layer.proofs.Looks.{no_name_at, name_found}
use Rattle.snap_layer.proofs.Paths.{begins-append, begins-trans, split_front}
use Rattle.snap_layer.proofs.Replacing.{inode_count-with_node, is_within_yes}

no_bool : true ≡ false → ⊥
no_bool e = cc

gone : {A : Type 0} (o : Option A) → IsSome o → o ≡ None → ⊥
gone None some e = cc
gone (Some x) some e = cc

-- the paths are those that are left without the path
pub Takes-tree : (t : Tree) (p : Names) → Takes t (without_tree t p) p
Takes-tree t p = let takes = Takes-without t p in record { here = takes.here; below = takes.below; others = takes.others }

body_of_tree : (t : Tree) (p : Names) (k : ℕ) → body (without_tree t p) k ≡ cond (not (name_count k (outside p t.entries) == 0)) (body t k) None
body_of_tree t p k = lookup-filter nat_cmp_total nat_cmp-IsAntisymmetric (λ j. not (name_count j (outside p t.entries) == 0)) k t.bodies

-- a body with a name elsewhere stays
pub body_kept : (t : Tree) (p q : Names) (n : Node) (k : ℕ) → begins p q ≡ false → at t q ≡ Some n → number_of n ≡ Some k → body (without_tree t p) k ≡ body t k
body_kept t p q n k out is number = body_of_tree t p k ∙ by (name_count k (outside p t.entries) == 0) refl
  where
    by : (b : Bool) → (name_count k (outside p t.entries) == 0) ≡ b → cond (not (name_count k (outside p t.entries) == 0)) (body t k) None ≡ body t k
    by false e = cond-true _ (body t k) None (ap not e)
    by true e = absurd (no_name_at k q (outside p t.entries) n (grind (arith, nat_tests)) ((Takes-tree t p).others q out ∙ is) number)

module _ (t : Tree) (ok : IsLayer t) (p : Names) (inner : IsInnerDir t p) where
  abbrev taken : Tree
  taken = without_tree t p

  stood : (q : Names) → IsSome (at (without_tree t p) q) → (begins p q ≡ false) × (at (without_tree t p) q ≡ at t q)
  stood q some = elim (split_front p q) [
    | inr out ↦ (out.0, (Takes-tree t p).others q out.0)
    | inl within ↦ absurd (gone (at (without_tree t p) q) some (ap (at (without_tree t p)) within.2 ∙ by within.1))
  ]
    where
      by : (r : Names) → at (without_tree t p) (p ++ r) ≡ None
      by [] = ap (at (without_tree t p)) (append-nil p) ∙ (Takes-tree t p).here
      by (n ∷ r) = (Takes-tree t p).below n r

  kept : (k : ℕ) → IsSome (body (without_tree t p) k) → IsSome (body t k) × (name_count k (outside p t.entries) ≡ 0 → ⊥)
  kept k some = by (name_count k (outside p t.entries) == 0) refl
    where
      by : (b : Bool) → (name_count k (outside p t.entries) == 0) ≡ b → IsSome (body t k) × (name_count k (outside p t.entries) ≡ 0 → ⊥)
      by false e = (subst IsSome (body_of_tree t p k ∙ cond-true _ (body t k) None (ap not e)) some, grind (arith, nat_tests))
      by true e = absurd (gone (body (without_tree t p) k) some (body_of_tree t p k ∙ cond-false _ (body t k) None (ap not e)))

  fewer : inode_count (without_tree t p) + 1 ≤ inode_count t
  fewer = omega (arith, tree_inodes t p, dir_inside t p inner.dir)

  pub IsLayer-tree : IsLayer (without_tree t p)
  IsLayer-tree = record {
    root = elim (split_front p []) [
      | inl within ↦ absurd (inner.below_root (no_rest p within.1 (sym within.2)))
      | inr out ↦ subst IsDirAt (sym ((Takes-tree t p).others [] out.0)) ok.root
    ];
    parents = λ q n some.
        let was = stood (q ++ n ∷ []) some in
        subst IsDirAt (sym ((Takes-tree t p).others q (apart q n was.0))) (ok.parents q n (subst IsSome was.1 some));
    paths = λ q some. ok.paths q (subst IsSome (stood q some).1 some);
    nodes = λ q n e.
        let was = stood q (ap is_some e) in
        let had : at t q ≡ Some n = sym was.1 ∙ e in
        IsWhole-same t taken n (λ k is. body_kept t p q n k was.0 had is) (ok.nodes q n had);
    named = λ k some.
        let found = name_found k (outside p t.entries) (sorted-filter path_cmp (λ x. not (begins p x.0)) t.entries ok.sorted_paths) (kept k some).1 in
        (found.0, ap (option_and_then number_of) found.2 ∙ found.3);
    numbers = λ k some. ok.numbers k (kept k some).0;
    next = ok.next;
    few = omega (arith, fewer, ok.few);
    most = ok.most;
    sorted_paths = sorted-filter path_cmp (λ x. not (begins p x.0)) t.entries ok.sorted_paths;
    sorted_numbers = sorted-filter nat_cmp (λ (b : ℕ × Body). not (name_count b.0 (outside p t.entries) == 0)) t.bodies ok.sorted_numbers;
  }
    where
      no_rest : (xs ys : Names) → xs ++ ys ≡ [] → xs ≡ []
      no_rest [] ys e = refl
      no_rest (x ∷ xs) ys e = absurd (cc)

      apart : (q : Names) (n : List ℕ) → begins p (q ++ n ∷ []) ≡ false → begins p q ≡ false
      apart q n e = elim (split_front p q) [
        | inr out ↦ out.0
        | inl within ↦ absurd (no_bool (sym (begins-trans p q (q ++ n ∷ []) within.0 (begins-append q (n ∷ []))) ∙ e))
      ]

  covered_inodes : inode_count (with_entry (without_tree t p) p Whiteout) ≡ inode_count (without_tree t p) + 1
  covered_inodes = omega (arith, inode_count-with_entry (without_tree t p) p Whiteout IsLayer-tree.sorted_paths, ap inodes_of (Takes-tree t p).here)

  pub IsLayer-taken : IsPath p → (leaves : Bool) → IsLayer (with_tree_taken t p leaves)
  IsLayer-taken path false = IsLayer-tree
  IsLayer-taken path true = IsLayer-with_entry (without_tree t p) p Whiteout IsLayer-tree (record {
    no_number = ap (option_and_then number_of) (Takes-tree t p).here;
    stays = λ dir. absurd (subst IsDirAt (Takes-tree t p).here dir);
    parent = λ q n e. subst IsDirAt (sym ((Takes-tree t p).others q (above q n e))) (ok.parents q n (subst (λ (x : Names). IsSome (at t x)) e there));
    root = λ e. absurd (inner.below_root e);
    path = path;
    whole = tt;
    few = omega (arith, covered_inodes, fewer, ok.few);
  })
    where
      there : IsSome (at t p)
      there = by (at t p) inner.dir
        where
          by : (o : Option Node) → IsDirAt o → IsSome o
          by None d = absurd d
          by (Some n) d = refl

      above : (q : Names) (n : List ℕ) → p ≡ q ++ n ∷ [] → begins p q ≡ false
      above q n e = elim (split_front p q) [
        | inr out ↦ out.0
        | inl within ↦ absurd (longer within.1 within.2)
      ]
        where
          longer : (r : Names) → q ≡ p ++ r → ⊥
          longer r is = omega (arith, ap (λ (x : Names). length x) e, length-append q (n ∷ []), ap (λ (x : Names). length x) is, length-append p r)

  pub taken_inodes : (leaves : Bool) → inode_count (with_tree_taken t p leaves) ≡ inode_count (without_tree t p) + (if leaves then 1 else 0)
  taken_inodes false = omega arith
  taken_inodes true = covered_inodes

  pub taken_blocks : (leaves : Bool) → block_count (with_tree_taken t p leaves) ≡ block_count (without_tree t p)
  taken_blocks false = refl
  taken_blocks true = omega (arith, block_count-with_entry (without_tree t p) p Whiteout IsLayer-tree.sorted_paths, ap (weight dirs) (Takes-tree t p).here)

-- ---- a whiteout in place of a directory

same_refusal : (m : NoMemory) → m ≡ no_memory
same_refusal m = refl

-- a directory gives its inode to a whiteout: that is never refused
pub covered_done : (t : Tree) → IsLayer t → (p : Names) → IsDirAt (at t p) → {A : Type 0} (r : Result (Unit {0}) LayerError) → OnOk r A
    → (IsErrOf r LayerFull ↔ (is_within (with_node t p Whiteout) ≡ false)) → (IsErrOf r (OutOfMemory no_memory) → at t p ≡ None) → A
covered_done t ok p dir (Ok x) done full sure = done
covered_done t ok p dir (Err LayerFull) done full sure =
    let few : inode_count (with_node t p Whiteout) ≤ t.most = omega (arith, inode_count-with_node t p Whiteout ok, inode_count-without t p (has_body t ok p), dir_inside t p dir, ok.few) in
    absurd (no_bool (sym (is_within_yes (with_node t p Whiteout) few ok.next.1) ∙ full.0 refl))
covered_done t ok p dir (Err (OutOfMemory m)) done full sure =
    absurd (by (at t p) dir (sure (ap (λ (n : NoMemory). Err (OutOfMemory n)) (same_refusal m))))
  where
    by : (o : Option Node) → IsDirAt o → o ≡ None → ⊥
    by None d e = d
    by (Some n) d e = cc
