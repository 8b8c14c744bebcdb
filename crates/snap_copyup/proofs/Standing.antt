-- The paths above a path at which a layer has a node: those from the root on, up to the first at which it has none.
use Rattle.std.proofs.Common.{◌≡◌, inl, inr, ◌⊎◌, ℕ, zero, suc, ◌+◌, ◌-◌, ◌<◌, ◌≤◌, max, min, Bool, true, false, List, [], ◌∷◌, ◌++◌, length, take, drop, get_or, Option, Some, None, is_some, refl, sym, ap, subst, ◌∙◌, append-nil, length-append, add-one, below_more, arith}
use Rattle.std.specs.Prelude.{◌||◌, nat_lt, if◌then◌else◌}
use Rattle.std.proofs.lemmas.Bool.Decides.{nat_tests}
use Rattle.std.proofs.lemmas.List.{take_more, take-take, take-append-drop}
use Rattle.snap_path.specs.Text.{Names}
use Rattle.snap_layer.specs.declared.node.Node.{Node}
use Rattle.snap_layer.specs.Tree.{Tree, IsDirAt, at, is_dir, hides, node_hides}
use Rattle.snap_layer.specs.Directory.{Directory, entry}
use Rattle.snap_layer.specs.Layers.{IsLayer}
use Rattle.snap_layer.proofs.Kept.{nothing_below}
use Rattle.snap_merge.specs.Reach.{Traced}
use Rattle.snap_merge.proofs.Reaching.{traced_none, traced_leaf, goes_on}
use Rattle.snap_merge.specs.Walk.{walk_error, walk_from}
use Rattle.snap_copyup.specs.Copying.{with_parents, with_parents_from}
use Rattle.snap_copyup.specs.Places.{ParentStands, StandsAbove}
use Rattle.snap_copyup.proofs.Missing.{missing_from}
use Rattle.snap_copyup.proofs.Alone.{some_dir}
use Rattle.snap_copyup.proofs.Growing.{missing_more, missing_end}
use Rattle.snap_copyup.proofs.Steps.{present}

split_lt : (a b : ℕ) → (a < b) ⊎ (b ≤ a)
split_lt a b = elim (nat_lt a b) as (λ t. nat_lt a b ≡ t → (a < b) ⊎ (b ≤ a)) [ true ↦ λ e. inl (grind (arith, nat_tests)) | false ↦ λ e. inr (grind (arith, nat_tests)) ] refl

-- ---- the walk

dir_node : (o : Option Node) → IsDirAt o → (v : Node) × (o ≡ Some v) × (is_dir v ≡ true)
dir_node None d = absurd d
dir_node (Some v) d = (v, refl, d)

-- the root is a directory
pub root_dirs : (t : Tree) (p : Names) → IsLayer t → (j : ℕ) → j < 1 → IsDirAt (at t (take j p))
root_dirs t p ok zero less = ok.root
root_dirs t p ok (suc j) less = absurd (omega (arith, less))

-- the first i names lead through directories, and the last of them has this at the next name
module _ (t : Tree) (p : Names) (ok : IsLayer t) (i : ℕ) (d : Directory) (n : List ℕ) (spot : ◌≡◌ {A = Directory} d (record { layer = t; path = take i p })) (dirs : (j : ℕ) → j < i + 1 → IsDirAt (at t (take j p))) (lt : i < length p) (name : n ≡ get_or p i n) where
  last : (v : Node) × (at t (take i p) ≡ Some v) × (is_dir v ≡ true)
  last = dir_node (at t (take i p)) (dirs i (omega arith))

  above : (j : ℕ) → j < i → IsDirAt (at t (take j p))
  above j less = dirs j (omega arith)

  there : (j : ℕ) → j < i + 1 → is_some (at t (take j p)) ≡ true
  there j less = some_dir (at t (take j p)) (dirs j less)

  pub stands_none : entry d n ≡ None → StandsAbove t p (i + 1)
  stands_none e = record {
    few = omega arith;
    there = there;
    end = λ less. (traced_none t p i d last.0 (hides t (take i p)) (node_hides (Some last.0)) n spot last.1 last.2 refl above lt name refl e).end;
  }

  pub stands_leaf : (x : Node) → entry d n ≡ Some (x, None) → StandsAbove t p (min (length p) (i + 2))
  stands_leaf x e = record {
    few = omega arith;
    there = λ k less. below_more (λ (j : ℕ). is_some (at t (take j p)) ≡ true) (i + 1) there (ap is_some leaf.end) k (omega (arith, less));
    end = λ less.
        let more : i + 1 < length p = omega (arith, less) in
        ap (λ (k : ℕ). at t (take k p)) (omega (arith, less)) ∙ ap (at t) (take_more p (i + 1) [] more)
        ∙ nothing_below t ok (take (i + 1) p) (λ is. leaf.stops (omega arith) (subst IsDirAt leaf.end is)) (get_or p (i + 1) []) [];
  }
    where
      leaf : Traced t p (i + 1) (Some x) (hides t (take i p) || node_hides (Some last.0))
      leaf = traced_leaf t p i d last.0 (hides t (take i p)) (node_hides (Some last.0)) n spot last.1 last.2 refl above lt name refl x e

  pub stands_dir : (x : Node) (w : Directory) → entry d n ≡ Some (x, Some w) → (w ≡ record { layer = t; path = take (i + 1) p }) × ((j : ℕ) → j < i + 1 + 1 → IsDirAt (at t (take j p)))
  stands_dir x w e =
      let on = goes_on t p i d last.0 (hides t (take i p)) (node_hides (Some last.0)) n spot last.1 last.2 refl above lt name refl x w e in
      (on.0, below_more (λ (j : ℕ). IsDirAt (at t (take j p))) (i + 1) dirs (subst IsDirAt (sym on.1.0) on.1.1))

pub stands_all : (t : Tree) (p : Names) (i : ℕ) → i ≡ length p → ((j : ℕ) → j < i + 1 → IsDirAt (at t (take j p))) → StandsAbove t p (length p)
stands_all t p i same dirs = record {
  few = omega arith;
  there = λ k less. some_dir (at t (take k p)) (dirs k (omega arith));
  end = λ less. absurd (omega arith);
}

-- ---- where they stand

-- the walk goes on from the first k names, and nothing is added above
pub record Stood (u : Tree) (ls : List Tree) (p : Names) (k : ℕ) : Type 0 where
  pub way : walk_from (u ∷ ls) (take k p) (drop k p) ≡ None
  pub parent : ParentStands u (take k p)
  pub same : with_parents u ls p ≡ with_parents_from u ls (take k p) (drop k p)

pub stood : (u : Tree) (ls : List Tree) (p : Names) (k : ℕ) → walk_error (u ∷ ls) p ≡ None → k ≤ length p → ((j : ℕ) → j < k → is_some (at u (take j p)) ≡ true) → Stood u ls p k
stood u ls p zero way within there = record {
  way = way;
  parent = λ q n e. absurd (omega (arith, ap length e, length-append q (n ∷ [])));
  same = refl;
}
stood u ls p (suc j) way within there =
    let before = stood u ls p j way (omega (arith, within)) (λ i less. there i (omega (arith, less))) in
    let step = present u ls p j (omega (arith, within)) before.way (there j (omega arith)) in
    subst (λ (k : ℕ). Stood u ls p k) (add-one j) (record { way = step.way; parent = step.parent; same = before.same ∙ step.more })

-- ---- what is missing

module _ (u : Tree) (p : Names) (n : ℕ) (ok : IsLayer u) (stands : StandsAbove u p n) where
  -- past the first path at which it has none
  pub none_past : (k : ℕ) → n ≤ k → k < length p → at u (take k p) ≡ None
  none_past k le less = ap (at u) (sym (take-append-drop n (take k p)) ∙ ap (λ (q : Names). q ++ drop n (take k p)) (take-take n k p le)) ∙ by (drop n (take k p))
    where
      first : at u (take n p) ≡ None
      first = stands.end (omega arith)

      by : (r : Names) → at u (take n p ++ r) ≡ None
      by [] = ap (at u) (append-nil (take n p)) ∙ first
      by (m ∷ r) = nothing_below u ok (take n p) (λ is. subst IsDirAt first is) m r

  left_from : (m k : ℕ) → length p ≤ k + m → missing_from u (take k p) (drop k p) ≡ length p - max k n
  left_from zero k far = omega (arith, missing_end u p k (omega (arith, far)))
  left_from (suc m) k far = elim (split_lt k (length p)) [
    | inr end ↦ omega (arith, missing_end u p k end)
    | inl less ↦
        let on : missing_from u (take (k + 1) p) (drop (k + 1) p) ≡ length p - max (k + 1) n = left_from m (k + 1) (omega (arith, far)) in
        elim (split_lt k n) [
          | inl there ↦ omega (arith, missing_more u p k less, on, ap {B = ℕ} (λ (b : Bool). if b then 0 else 1) (stands.there k there), stands.few)
          | inr past ↦ omega (arith, missing_more u p k less, on, ap {B = ℕ} (λ (b : Bool). if b then 0 else 1) (ap is_some (none_past k past less)))
        ]
  ]

  -- of the paths above the path with k names or more this number are missing
  pub missing_left : (k : ℕ) → missing_from u (take k p) (drop k p) ≡ length p - max k n
  missing_left k = left_from (length p) k (omega arith)
