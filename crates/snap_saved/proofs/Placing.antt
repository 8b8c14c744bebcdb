-- The tests before a part is put.
use Rattle.std.proofs.Common.{◌≡◌, ℕ, ◌-◌, ◌<◌, ◌≤◌, Bool, true, false, not, ◌∷◌, [], length, take, Option, Some, None, refl, sym, ap, subst, ◌∙◌, arith}
use Rattle.std.specs.Prelude.{◌↔◌, is_some, if◌then◌else◌, nat_lt, Ok, Err, IsErrOf}
use Rattle.std.specs.Bool.{Decides, one_answer}
use Rattle.std.specs.Option.{option_map_or}
use Rattle.std.proofs.lemmas.Bool.Decides.{nat_tests}
use Rattle.snap_path.specs.Text.{Names}
use Rattle.snap_layer.specs.declared.error.LayerError.TheVariants.{LayerFull}
use Rattle.snap_layer.specs.declared.node.Node.{Node}
use Rattle.snap_layer.specs.declared.node.Node.TheVariants.{Dir, Whiteout}
use Rattle.snap_layer.specs.declared.node.Body.{Body}
use Rattle.snap_layer.specs.Tree.{Tree, at, is_dir, leaf_node, IsDirAt}
use Rattle.snap_layer.specs.Counts.{is_within}
use Rattle.snap_layer.specs.Layers.{IsLayer}
use Rattle.snap_layer.specs.Edits.{HasParent, with_entry, with_new, with_next}
use Rattle.snap_layer.proofs.Testing.{parent_from, parent_is}
use Rattle.snap_saved.specs.declared.dir.SavedDir.{SavedDir}
use Rattle.snap_saved.specs.declared.error.Fault.{Fault}
use Rattle.snap_saved.specs.declared.error.Fault.TheVariants.{BadBody, BadMode, BadNumber, Full, NoParent, Occupied}
use Rattle.snap_saved.specs.declared.error.Part.{Part}
use Rattle.snap_saved.specs.declared.error.RestoreError.TheVariants.{Malformed}
use Rattle.snap_saved.specs.Limits.{is_body, is_meta}
use Rattle.snap_saved.specs.Named.{IsFreePath}
use Rattle.snap_saved.specs.Restored.{fault_if, has_parent, obstacle, put_dir, put_first, put_name, put_whiteout, unless_fault, with_first}
use Rattle.snap_saved.proofs.Adding.{new_put, vacant_raised}

dir_decides : (o : Option Node) → Decides (option_map_or is_dir o false) (IsDirAt o)
dir_decides None = (λ e. cc, λ dir. absurd dir)
dir_decides (Some n) = (λ e. e, λ dir. dir)

-- the test of the parent
has_parent_decides : (t : Tree) (p : Names) → Decides (has_parent t p) (HasParent t p)
has_parent_decides t [] = (λ e. absurd (cc), λ above. absurd (above.below_root refl))
has_parent_decides t (n ∷ ns) =
    let less : length ns ≡ length (n ∷ ns) - 1 = omega arith in
    let front : take (length ns) (n ∷ ns) ≡ take (length (n ∷ ns) - 1) (n ∷ ns) = ap (λ (k : ℕ). take k (n ∷ ns)) less in
    let dir = dir_decides (at t (take (length ns) (n ∷ ns))) in (
      (λ e. parent_from t (n ∷ ns) (λ none. omega (arith, none)) (subst (λ (q : Names). IsDirAt (at t q)) front (dir.0 e))),
      λ above. dir.1 (subst (λ (q : Names). IsDirAt (at t q)) (sym front) (parent_is t (n ∷ ns) above)),
    )

module _ (t : Tree) (p : Names) where
  -- what `has_parent` answers is its definition
  pub parent_answer : (r : Bool) → Decides r (HasParent t p) → r ≡ has_parent t p
  parent_answer r decides = one_answer r (has_parent t p) decides (has_parent_decides t p)

  pub occupied : is_some (at t p) ≡ true → obstacle t p ≡ Some Occupied
  occupied there = ap (λ (b : Bool). if b then Some Occupied else fault_if (not (has_parent t p)) NoParent) there

  pub no_parent : is_some (at t p) ≡ false → has_parent t p ≡ false → obstacle t p ≡ Some NoParent
  no_parent none above = (λ i. if none i then Some Occupied else fault_if (not (above i)) NoParent)

  pub no_obstacle : is_some (at t p) ≡ false → has_parent t p ≡ true → obstacle t p ≡ None
  no_obstacle none above = (λ i. if none i then Some Occupied else fault_if (not (above i)) NoParent)

  -- a free path has no obstacle
  pub free_is_open : IsFreePath t p → obstacle t p ≡ None
  free_is_open free = no_obstacle (ap is_some free.none) ((has_parent_decides t p).1 free.above)

-- ---- the parts

-- an edit that succeeds stays within the limits
pub room_made : {A : Type 0} (x : A) (within : Bool) → (IsErrOf (Ok x) LayerFull ↔ (within ≡ false)) → within ≡ true
room_made x true full = refl
room_made x false full = absurd (clash (full.1 refl))
  where
    clash : Ok x ≡ Err LayerFull → ⊥
    clash e = cc

module _ (part : Part) (t : Tree) (p : Names) (open_at : obstacle t p ≡ None) where
  pub whiteout_put : is_within (with_entry t p Whiteout) ≡ true → put_whiteout part t p ≡ Ok (with_entry t p Whiteout)
  whiteout_put room = λ i. unless_fault part (open_at i ∷ fault_if (not (room i)) Full ∷ []) (with_entry t p Whiteout)

  pub whiteout_full : is_within (with_entry t p Whiteout) ≡ false → put_whiteout part t p ≡ Err (Malformed part Full)
  whiteout_full full = λ i. unless_fault part (open_at i ∷ fault_if (not (full i)) Full ∷ []) (with_entry t p Whiteout)

  pub name_goes : (k : ℕ) (b : Body) → put_name part k b t p ≡ Ok (with_entry t p (leaf_node k b))
  name_goes k b = λ i. unless_fault part (open_at i ∷ []) (with_entry t p (leaf_node k b))

  module _ (k : ℕ) (b : Body) (free : t.next ≤ k) (good : is_body b ≡ true) where
    later : nat_lt k t.next ≡ false
    later = grind (arith, nat_tests)

    pub first_goes : is_within (with_first k b t p) ≡ true → put_first part k b t p ≡ Ok (with_first k b t p)
    first_goes room = λ i. unless_fault part (fault_if (later i) BadNumber ∷ fault_if (not (good i)) BadBody ∷ open_at i ∷ fault_if (not (room i)) Full ∷ []) (with_first k b t p)

    pub first_full : is_within (with_first k b t p) ≡ false → put_first part k b t p ≡ Err (Malformed part Full)
    first_full full = λ i. unless_fault part (fault_if (later i) BadNumber ∷ fault_if (not (good i)) BadBody ∷ open_at i ∷ fault_if (not (full i)) Full ∷ []) (with_first k b t p)

module _ (part : Part) (t : Tree) (p : Names) (k : ℕ) (b : Body) where
  pub first_taken : k < t.next → put_first part k b t p ≡ Err (Malformed part BadNumber)
  first_taken low =
      let taken : nat_lt k t.next ≡ true = grind (arith, nat_tests) in
      ap (λ (x : Bool). unless_fault part (fault_if x BadNumber ∷ fault_if (not (is_body b)) BadBody ∷ obstacle t p ∷ fault_if (not (is_within (with_first k b t p))) Full ∷ []) (with_first k b t p)) taken

  module _ (free : t.next ≤ k) where
    above : nat_lt k t.next ≡ false
    above = grind (arith, nat_tests)

    pub first_bad : is_body b ≡ false → put_first part k b t p ≡ Err (Malformed part BadBody)
    first_bad bad = λ i. unless_fault part (fault_if (above i) BadNumber ∷ fault_if (not (bad i)) BadBody ∷ obstacle t p ∷ fault_if (not (is_within (with_first k b t p))) Full ∷ []) (with_first k b t p)

    pub first_stopped : is_body b ≡ true → (why : Fault) → obstacle t p ≡ Some why → put_first part k b t p ≡ Err (Malformed part why)
    first_stopped good why stops = λ i. unless_fault part (fault_if (above i) BadNumber ∷ fault_if (not (good i)) BadBody ∷ stops i ∷ fault_if (not (is_within (with_first k b t p))) Full ∷ []) (with_first k b t p)

module _ (part : Part) (t : Tree) (d : SavedDir) (good : is_meta d.meta ≡ true) (open_at : obstacle t d.path ≡ None) where
  pub dir_put : is_within (with_entry t d.path (Dir d.meta d.opaque)) ≡ true → put_dir part t d ≡ Ok (with_entry t d.path (Dir d.meta d.opaque))
  dir_put room = λ i. unless_fault part (fault_if (not (good i)) BadMode ∷ open_at i ∷ fault_if (not (room i)) Full ∷ []) (with_entry t d.path (Dir d.meta d.opaque))

-- the edit of a new file under a raised number
pub first_is : (t u : Tree) (k : ℕ) (b : Body) (p : Names) → u ≡ with_next t k → IsLayer u → IsFreePath t p → with_new u p (leaf_node u.next b) b ≡ with_first k b t p
first_is t u k b p is layer free =
    ap (λ (w : Tree). with_new w p (leaf_node w.next b) b) is ∙ new_put (with_next t k) (subst IsLayer is layer) p (vacant_raised t k p free) b
