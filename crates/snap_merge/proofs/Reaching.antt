-- How far a path leads, layer by layer.
use Rattle.std.proofs.Common.{◌≡◌, ℕ, zero, suc, ◌+◌, ◌<◌, ◌≤◌, Bool, true, false, not, cond, List, [], ◌∷◌, ◌++◌, length, take, drop, get_or, Option, Some, None, refl, sym, ap, subst, ◌∙◌, ◌⊎◌, inl, inr, append_assoc, append-nil, add-one, below_more, arith}
use Rattle.std.specs.Prelude.{◌||◌, ◌==◌, nat_lt, if◌then◌else◌}
use Rattle.std.specs.Option.{option_map}
use Rattle.std.proofs.lemmas.Bool.Decides.{nat_tests}
use Rattle.std.proofs.lemmas.List.{at_drop_more, take_more, take_all, take-take, take-append-drop, drop_all, length-take-le}
use Rattle.snap_path.specs.Text.{Names}
use Rattle.snap_layer.specs.declared.node.Meta.{Meta}
use Rattle.snap_layer.specs.declared.content.Content.{Content}
use Rattle.snap_layer.specs.declared.node.Node.{Node}
use Rattle.snap_layer.specs.declared.node.Node.TheVariants.{Dir, File, Symlink, Whiteout}
use Rattle.snap_layer.specs.declared.node.Body.{Body}
use Rattle.snap_layer.specs.declared.node.Body.TheVariants as body_kinds
use Rattle.snap_layer.specs.Tree.{Tree, at, body, is_dir, hides, hides_from, node_hides, IsDirAt}
use Rattle.snap_layer.specs.Layers.{IsLayer}
use Rattle.snap_layer.specs.Directory.{Directory, dir_of, found, entry}
use Rattle.snap_layer.proofs.Kept.{nothing_below}
use Rattle.snap_merge.specs.declared.error.FsError.{FsError}
use Rattle.snap_merge.specs.declared.error.FsError.TheVariants.{NotFound, NotDir}
use Rattle.snap_merge.specs.Objects.{Object, dir, file, symlink, shown, shown_body, seen, seen_over, is_shown_dir, AreLayers}
use Rattle.snap_merge.specs.Walk.{walk_on, walk_from, walk_error}
use Rattle.snap_merge.specs.Resolving.{met, plain_error}
use Rattle.snap_merge.specs.Reach.{Traced, Reached, Begun, Settles, Leaves}
use Rattle.snap_merge.proofs.Hiding.{hides_snoc}
use Rattle.snap_merge.proofs.Above.{dir_seen, nothing_seen, walk_from_dir}
use Rattle.snap_merge.proofs.Walking.{walk_more, walk_at, plain_at}

pub split_lt : (a b : ℕ) → (a < b) ⊎ (b ≤ a)
split_lt a b = elim (nat_lt a b) as (λ t. nat_lt a b ≡ t → (a < b) ⊎ (b ≤ a)) [ true ↦ λ e. inl (grind (arith, nat_tests)) | false ↦ λ e. inr (grind (arith, nat_tests)) ] refl

-- ---- paths

-- a longer prefix begins with a shorter one
longer : (m j : ℕ) (p : Names) → m ≤ j → take j p ≡ take m p ++ drop m (take j p)
longer m j p le = sym (take-append-drop m (take j p)) ∙ ap (λ (q : Names). q ++ drop m (take j p)) (take-take m j p le)

-- and has one name more at least
pub much_longer : (m k : ℕ) (p : Names) → m < k → k ≤ length p → (n : List ℕ) × (r : Names) × (take k p ≡ take m p ++ n ∷ r)
much_longer m k p lt within =
    let some : m < length (take k p) = omega (arith, length-take-le k p within) in
    (get_or (take k p) m [], drop (m + 1) (take k p), longer m k p (omega arith) ∙ at_drop_more (λ (q : Names). take m p ++ q) (take k p) m [] some)

-- ---- below what is no directory

or_last : (a b c : Bool) → (a || (b || c)) ≡ ((a || b) || c)
or_last true b c = refl
or_last false b c = refl

or_false : (b : Bool) → (b || false) ≡ b
or_false true = refl
or_false false = refl

hides_append : (t : Tree) (a b front : Names) → hides_from t front (a ++ b) ≡ (hides_from t front a || hides_from t (front ++ a) b)
hides_append t [] b front = ap (λ (q : Names). hides_from t q b) (sym (append-nil front))
hides_append t (n ∷ a) b front =
    ap (λ x. node_hides (at t front) || x) (hides_append t a b (front ++ n ∷ []) ∙ ap (λ (q : Names). hides_from t (front ++ n ∷ []) a || hides_from t q b) (append_assoc front (n ∷ []) a))
    ∙ or_last (node_hides (at t front)) (hides_from t (front ++ n ∷ []) a) (hides_from t (front ++ n ∷ a) b)

pub no_dir_none : (o : Option Node) → o ≡ None → IsDirAt o → ⊥
no_dir_none o e d = subst IsDirAt e d

bare_hides : (t : Tree) → IsLayer t → (r front : Names) → at t front ≡ None → hides_from t front r ≡ false
bare_hides t ok [] front none = refl
bare_hides t ok (n ∷ r) front none =
    ap (λ o. node_hides o || hides_from t (front ++ n ∷ []) r) none
    ∙ bare_hides t ok r (front ++ n ∷ []) (nothing_below t ok front (no_dir_none (at t front) none) n [])

none_at : (t : Tree) → IsLayer t → (q r : Names) → at t q ≡ None → at t (q ++ r) ≡ None
none_at t ok q [] none = ap (at t) (append-nil q) ∙ none
none_at t ok q (n ∷ r) none = nothing_below t ok q (no_dir_none (at t q) none) n r

-- past a path at which the layer has nothing, it hides what it hides there, and has nothing to say else
past_none : (t : Tree) → IsLayer t → (q r : Names) (under : Option Object) → at t q ≡ None → seen_over t (at t (q ++ r)) (q ++ r) under ≡ cond (hides t q) None under
past_none t ok q r under none =
    ap (λ o. seen_over t o (q ++ r) under) (none_at t ok q r none)
    ∙ ap (λ b. cond b None under) (hides_append t q r [] ∙ ap (λ b. hides t q || b) (bare_hides t ok r q none) ∙ or_false (hides t q))

or_true : (b : Bool) → (b || true) ≡ true
or_true true = refl
or_true false = refl

-- below what hides, and is no directory, nothing is seen
past_leaf : (t : Tree) → IsLayer t → (q : Names) (n : List ℕ) (r : Names) (under : Option Object) → (IsDirAt (at t q) → ⊥) → node_hides (at t q) ≡ true → seen_over t (at t (q ++ n ∷ r)) (q ++ n ∷ r) under ≡ None
past_leaf t ok q n r under leaf covers =
    ap (λ o. seen_over t o (q ++ n ∷ r) under) (nothing_below t ok q leaf n r)
    ∙ ap (λ b. cond b None under) (hides_append t q (n ∷ r) [] ∙ ap (λ b. hides t q || (b || hides_from t (q ++ n ∷ []) r)) covers ∙ or_true (hides t q))

-- ---- one layer

leaf_or_none : (o : Option Node) → (IsDirAt o → ⊥) → node_hides o ≡ false → o ≡ None
leaf_or_none None leaf open_at = refl
leaf_or_none (Some (Dir m b)) leaf open_at = absurd (leaf refl)
leaf_or_none (Some (File k)) leaf open_at = absurd (cc)
leaf_or_none (Some (Symlink k)) leaf open_at = absurd (cc)
leaf_or_none (Some Whiteout) leaf open_at = absurd (cc)

body_no_dir : (b : Option Body) → is_shown_dir (shown_body b) ≡ false
body_no_dir None = refl
body_no_dir (Some (body_kinds.File m x)) = refl
body_no_dir (Some (body_kinds.Symlink x)) = refl

shown_no_dir : (t : Tree) (v : Node) → (IsDirAt (Some v) → ⊥) → is_shown_dir (shown t v) ≡ false
shown_no_dir t (Dir m b) leaf = absurd (leaf refl)
shown_no_dir t (File k) leaf = body_no_dir (body t k)
shown_no_dir t (Symlink k) leaf = body_no_dir (body t k)
shown_no_dir t Whiteout leaf = refl

module _ (t : Tree) (p : Names) (ok : IsLayer t) (k m : ℕ) (node : Option Node) (covered : Bool) (traced : Traced t p m node covered) where
  none_there : node ≡ None → at t (take m p) ≡ None
  none_there none = traced.end ∙ none

  past : (j : ℕ) → m ≤ j → node ≡ None → (under : Option Object) → seen_over t (at t (take j p)) (take j p) under ≡ cond covered None under
  past j le none under =
      ap (λ (q : Names). seen_over t (at t q) q under) (longer m j p le)
      ∙ past_none t ok (take m p) (drop m (take j p)) under (none_there none)
      ∙ ap (λ b. cond b None under) (sym traced.hidden)

  leaf_there : m < k → k ≤ length p → IsDirAt (at t (take m p)) → ⊥
  leaf_there lt within dir_there = traced.stops (omega arith) (subst IsDirAt traced.end dir_there)

  -- the layers above lead further, and this one hides what is below
  pub upper_covered : m < k → k ≤ length p → node_hides node ≡ true → Settles t p k k None
  upper_covered lt within covers = record {
    further = omega arith;
    dirs = λ j a b. absurd (omega arith);
    end = λ under.
        let split = much_longer m k p lt within in
        ap (λ (q : Names). seen_over t (at t q) q under) split.2 ∙ past_leaf t ok (take m p) split.0 split.1 under (leaf_there lt within) (ap node_hides traced.end ∙ covers);
    stops = λ le. refl;
  }

  hidden_past : (under : Option Object) → covered ≡ true → m < k → k ≤ length p → seen_over t (at t (take k p)) (take k p) under ≡ None
  hidden_past under is lt within =
      let split = much_longer m k p lt within in
      let leaf : IsDirAt (at t (take m p)) → ⊥ = leaf_there lt within in
      ap (λ (q : Names). seen_over t (at t q) q under) split.2
      ∙ ap (λ o. seen_over t o (take m p ++ split.0 ∷ split.1) under) (nothing_below t ok (take m p) leaf split.0 split.1)
      ∙ ap (λ b. cond b None under) (hides_append t (take m p) (split.0 ∷ split.1) [] ∙ ap (λ b. b || hides_from t (take m p) (split.0 ∷ split.1)) (sym traced.hidden ∙ is))

  pub upper_hidden : m < k → k ≤ length p → covered ≡ true → Settles t p k k None
  upper_hidden lt within is = record {
    further = omega arith;
    dirs = λ j a b. absurd (omega arith);
    end = λ under. hidden_past under is lt within;
    stops = λ le. refl;
  }

  -- the layers above lead further, and this one adds nothing
  pub upper_open : m < k → k ≤ length p → covered ≡ false → node_hides node ≡ false → Leaves t p k k
  upper_open lt within is open_at = record {
    further = omega arith;
    within = within;
    dirs = λ j a b. absurd (omega arith);
    passed = λ j le under.
        past j (omega arith) (leaf_or_none node (traced.stops (omega arith)) open_at) under ∙ ap (λ b. cond b None under) is;
  }

  -- this layer leads as far, and shows what it has there
  pub here_shown : (v : Node) (o : Option Object) → k ≤ m → node ≡ Some v → o ≡ shown t v → Settles t p k m o
  here_shown v o le is shows = record {
    further = le;
    dirs = λ j a b. traced.dirs j b;
    end = λ under. ap (λ x. seen_over t x (take m p) under) (traced.end ∙ is) ∙ sym shows;
    stops = λ within. ap is_shown_dir shows ∙ shown_no_dir t v (λ d. traced.stops within (subst IsDirAt (sym is) d));
  }

  -- it has nothing there, and hides it
  pub here_hidden : k ≤ m → node ≡ None → covered ≡ true → Settles t p k m None
  here_hidden le none is = record {
    further = le;
    dirs = λ j a b. traced.dirs j b;
    end = λ under. past m (omega arith) none under ∙ ap (λ b. cond b None under) is;
    stops = λ within. refl;
  }

  -- it has nothing there
  pub here_open : k ≤ m → node ≡ None → covered ≡ false → Leaves t p k m
  here_open le none is = record {
    further = le;
    within = elim (split_lt (length p) m) [
      | inl past_end ↦ absurd (no_dir_none (at t (take (length p) p)) (ap (at t) (take_all (length p) p (omega arith) ∙ sym (take_all m p (omega arith))) ∙ none_there none) (traced.dirs (length p) past_end))
      | inr within ↦ within
    ];
    dirs = λ j a b. traced.dirs j b;
    passed = λ j further under. past j further none under ∙ ap (λ b. cond b None under) is;
  }

-- ---- all layers

pub begun_start : (s : List Tree) (p : Names) → Begun s p 0 s
begun_start s p = record { dirs = λ j lt. absurd (omega arith); rest = λ j le. refl }

dirs_on : (s : List Tree) (p : Names) (k m : ℕ) (t : Tree) (ts : List Tree) → Begun s p k (t ∷ ts) → ((j : ℕ) → k ≤ j → j < m → IsDirAt (at t (take j p))) → (j : ℕ) → j < m → is_shown_dir (seen s (take j p)) ≡ true
dirs_on s p k m t ts begun dirs j lt = elim (split_lt j k) [
  | inl before ↦ begun.dirs j before
  | inr after ↦ ap is_shown_dir (begun.rest j after) ∙ dir_seen t (at t (take j p)) (take j p) (seen ts (take j p)) (dirs j after lt)
]

pub begun_on : (s : List Tree) (p : Names) (k m : ℕ) (t : Tree) (ts : List Tree) → Begun s p k (t ∷ ts) → Leaves t p k m → Begun s p m ts
begun_on s p k m t ts begun leaves = record {
  dirs = dirs_on s p k m t ts begun leaves.dirs;
  rest = λ j le. let further : k ≤ m = leaves.further in begun.rest j (omega arith) ∙ leaves.passed j le (seen ts (take j p));
}

pub begun_ends : (s : List Tree) (p : Names) (k m : ℕ) (o : Option Object) (t : Tree) (ts : List Tree) → Begun s p k (t ∷ ts) → Settles t p k m o → Reached s p m o
begun_ends s p k m o t ts begun settles = record {
  dirs = dirs_on s p k m t ts begun settles.dirs;
  end = begun.rest m settles.further ∙ settles.end (seen ts (take m p));
  stops = settles.stops;
}

pub begun_none : (s : List Tree) (p : Names) (k : ℕ) → Begun s p k [] → Reached s p k None
begun_none s p k begun = record { dirs = begun.dirs; end = begun.rest k (omega arith); stops = λ le. refl }

-- ---- what is seen, and the walk to it

parts : (p : Names) (k : ℕ) → k < length p → p ≡ take k p ++ get_or p k [] ∷ drop (k + 1) p
parts p k lt = sym (take-append-drop k p) ∙ at_drop_more (λ (q : Names). take k p ++ q) p k [] lt

pub reached_short : (s : List Tree) (p : Names) (k : ℕ) (o : Option Object) → AreLayers s → Reached s p k o → k < length p → seen s p ≡ None
reached_short s p k o ok reached lt = ap (seen s) (parts p k lt) ∙ nothing_seen s ok (drop (k + 1) p) (take k p) (get_or p k []) (ap is_shown_dir reached.end ∙ reached.stops (omega arith))

pub reached_whole : (s : List Tree) (p : Names) (k : ℕ) (o : Option Object) → Reached s p k o → length p ≤ k → o ≡ seen s p
reached_whole s p k o reached le = sym reached.end ∙ ap (seen s) (take_all k p le)

module _ (s : List Tree) (p : Names) (k : ℕ) (dirs : (j : ℕ) → j < k → is_shown_dir (seen s (take j p)) ≡ true) where
  walk_dirs : (j : ℕ) → j ≤ k → j ≤ length p → walk_from s (take j p) (drop j p) ≡ walk_error s p
  walk_dirs zero le within = refl
  walk_dirs (suc j) le within =
      subst (λ (i : ℕ). walk_from s (take i p) (drop i p) ≡ walk_error s p) (add-one j)
      (sym (walk_from_dir (seen s (take j p)) (walk_from s (take (j + 1) p) (drop (j + 1) p)) (dirs j (omega arith)))
      ∙ walk_at s p j (seen s (take j p)) (omega arith) refl (walk_dirs j (omega arith) (omega arith)))

  plain_dirs : (j : ℕ) → j < k → j ≤ length p → plain_error s (take j p) (drop j p) ≡ plain_error s [] p
  plain_dirs zero le within = refl
  plain_dirs (suc j) le within =
      subst (λ (i : ℕ). plain_error s (take i p) (drop i p) ≡ plain_error s [] p) (add-one j)
      (sym (met_dir (seen s (take (j + 1) p)) (plain_error s (take (j + 1) p) (drop (j + 1) p)) (dirs (j + 1) (omega arith)))
      ∙ plain_at s p j true (seen s (take (j + 1) p)) (omega arith) (sym (dirs j (omega arith))) refl (plain_dirs j (omega arith) (omega arith)))
    where
      met_dir : (o : Option Object) (later : Option FsError) → is_shown_dir o ≡ true → met o later ≡ later
      met_dir None later e = absurd (cc)
      met_dir (Some (dir m)) later e = refl
      met_dir (Some (file m b)) later e = absurd (cc)
      met_dir (Some (symlink b)) later e = absurd (cc)

pub walk_passes : (s : List Tree) (p : Names) (k : ℕ) (o : Option Object) → Reached s p k o → length p ≤ k → walk_error s p ≡ None
walk_passes s p k o reached le = sym (walk_dirs s p k reached.dirs (length p) le (omega arith)) ∙ ap (walk_from s (take (length p) p)) (drop_all (length p) p (omega arith))

pub walk_stops : (s : List Tree) (p : Names) (k : ℕ) (o : Option Object) → Reached s p k o → k < length p → walk_error s p ≡ walk_on o None
walk_stops s p k o reached lt =
    sym (walk_dirs s p k reached.dirs k (omega arith) (omega arith)) ∙ walk_more s p k lt
    ∙ ap (λ x. walk_on x (walk_from s (take (k + 1) p) (drop (k + 1) p))) reached.end
    ∙ by o (reached.stops (omega arith))
  where
    by : (x : Option Object) → is_shown_dir x ≡ false → walk_on x (walk_from s (take (k + 1) p) (drop (k + 1) p)) ≡ walk_on x None
    by None e = refl
    by (Some (dir m)) e = absurd (cc)
    by (Some (file m b)) e = refl
    by (Some (symlink b)) e = refl

pub walk_on_some : (o : Option Object) (x : Object) → is_shown_dir o ≡ false → o ≡ Some x → walk_on o None ≡ Some NotDir
walk_on_some None x e is = absurd (cc)
walk_on_some (Some (dir m)) x e is = absurd (cc)
walk_on_some (Some (file m b)) x e is = refl
walk_on_some (Some (symlink b)) x e is = refl

-- the error before a symlink
pub plain_reached : (s : List Tree) (p : Names) (k : ℕ) (o : Option Object) → Reached s p k o → 0 < k → k ≤ length p → plain_error s [] p ≡ met o (plain_error s (take k p) (drop k p))
plain_reached s p zero o reached some within = absurd (omega arith)
plain_reached s p (suc j) o reached some within =
    let last : is_shown_dir (seen s (take j p)) ≡ true = reached.dirs j (omega arith) in
    sym (plain_at s p j true o (omega arith) (sym last) (sym reached.end ∙ ap (λ (i : ℕ). seen s (take i p)) (sym (add-one j))) (plain_dirs s p (suc j) reached.dirs j (omega arith) (omega arith)))
    ∙ ap (λ (i : ℕ). met o (plain_error s (take i p) (drop i p))) (add-one j)

pub plain_whole : (s : List Tree) (p : Names) (k : ℕ) (o : Option Object) → Reached s p k o → length p < k → plain_error s [] p ≡ None
plain_whole s p k o reached lt = sym (plain_dirs s p k reached.dirs (length p) lt (omega arith)) ∙ ap (plain_error s (take (length p) p)) (drop_all (length p) p (omega arith))

pub plain_first : (s : List Tree) (p : Names) (o : Option Object) → Reached s p 0 o → 0 < length p → plain_error s [] p ≡ Some NotDir
plain_first s [] o reached some = absurd (omega arith)
plain_first s (n ∷ p) o reached some = ap (λ b. if not b then Some NotDir else met (seen s (n ∷ [])) (plain_error s (n ∷ []) p)) (ap is_shown_dir reached.end ∙ reached.stops (omega arith))

-- past a file, the way has an error where a name is left
pub plain_file : (s : List Tree) (p : Names) (k : ℕ) (o : Option Object) → Reached s p k o → k < length p → plain_error s (take k p) (drop k p) ≡ Some NotDir
plain_file s p k o reached lt =
    at_drop_more (plain_error s (take k p)) p k [] lt
    ∙ ap (λ b. if not b then Some NotDir else met (seen s (take k p ++ get_or p k [] ∷ [])) (plain_error s (take k p ++ get_or p k [] ∷ []) (drop (k + 1) p))) (ap is_shown_dir reached.end ∙ reached.stops (omega arith))

pub plain_end : (s : List Tree) (p : Names) (k : ℕ) → length p ≤ k → plain_error s (take k p) (drop k p) ≡ None
plain_end s p k le = ap (plain_error s (take k p)) (drop_all k p le)

pub not_empty : (p : Names) (b : Bool) → b ≡ (length p == 0) → b ≡ false → 0 < length p
not_empty p b test is = grind (arith, nat_tests)

none_not_dir : (o : Option Object) → o ≡ None → is_shown_dir o ≡ true → ⊥
none_not_dir None e d = cc
none_not_dir (Some x) e d = cc

clash : true ≡ false → ⊥
clash e = cc

module _ (s : List Tree) (p : Names) (k : ℕ) (o : Option Object) (reached : Reached s p k o) (some : 0 < k) where
  last_seen : length p < k → is_shown_dir o ≡ true
  last_seen lt = ap is_shown_dir (sym reached.end ∙ ap (seen s) (take_all k p (omega arith) ∙ sym (take_all (length p) p (omega arith)))) ∙ reached.dirs (length p) lt

  pub plain_none : o ≡ None → plain_error s [] p ≡ Some NotFound
  plain_none is = elim (split_lt (length p) k) [
    | inl lt ↦ absurd (none_not_dir o is (last_seen lt))
    | inr within ↦ plain_reached s p k o reached some within ∙ ap (λ x. met x (plain_error s (take k p) (drop k p))) is
  ]

  pub plain_dir : (m : Meta) → o ≡ Some (dir m) → plain_error s [] p ≡ None
  plain_dir m is = elim (split_lt (length p) k) [
    | inl lt ↦ plain_whole s p k o reached lt
    | inr within ↦ absurd (clash (sym (ap is_shown_dir is) ∙ reached.stops within))
  ]

  pub plain_symlink : (b : List ℕ) → o ≡ Some (symlink b) → plain_error s [] p ≡ None
  plain_symlink b is = elim (split_lt (length p) k) [
    | inl lt ↦ plain_whole s p k o reached lt
    | inr within ↦ plain_reached s p k o reached some within ∙ ap (λ x. met x (plain_error s (take k p) (drop k p))) is
  ]

  pub plain_at_file : (m : Meta) (b : Content) → o ≡ Some (file m b) → length p ≤ k → plain_error s [] p ≡ None
  plain_at_file m b is le = elim (split_lt (length p) k) [
    | inl lt ↦ plain_whole s p k o reached lt
    | inr within ↦ plain_reached s p k o reached some within ∙ ap (λ x. met x (plain_error s (take k p) (drop k p))) is ∙ plain_end s p k le
  ]

  pub plain_past_file : (m : Meta) (b : Content) → o ≡ Some (file m b) → k < length p → plain_error s [] p ≡ Some NotDir
  plain_past_file m b is lt = plain_reached s p k o reached some (omega arith) ∙ ap (λ x. met x (plain_error s (take k p) (drop k p))) is ∙ plain_file s p k o reached lt

  -- the error is that of what is seen last, where no name may be left
  pub plain_met : (b : Bool) → (b ≡ true → length p ≤ k) → (b ≡ false → k < length p) → met o (if b then None else Some NotDir) ≡ plain_error s [] p
  plain_met b whole short = by o refl b whole short
    where
      by : (x : Option Object) → o ≡ x → (b : Bool) → (b ≡ true → length p ≤ k) → (b ≡ false → k < length p) → met x (if b then None else Some NotDir) ≡ plain_error s [] p
      by None is b whole short = sym (plain_none is)
      by (Some (symlink t)) is b whole short = sym (plain_symlink t is)
      by (Some (file m x)) is true whole short = sym (plain_at_file m x is (whole refl))
      by (Some (file m x)) is false whole short = sym (plain_past_file m x is (short refl))
      by (Some (dir m)) is true whole short = sym (plain_dir m is)
      by (Some (dir m)) is false whole short = absurd (clash (sym (ap is_shown_dir is) ∙ reached.stops (let lt : k < length p = short refl in omega arith)))

-- ---- the loop over the layers that are left

pub left_is : (ts : List Tree) (i : ℕ) (t u : Tree) → i < length ts → t ≡ get_or ts i t → u ≡ t → drop i ts ≡ u ∷ drop (i + 1) ts
left_is ts i t u lt is same = at_drop_more (λ (q : List Tree). q) ts i t lt ∙ ap (λ (x : Tree). x ∷ drop (i + 1) ts) (sym is ∙ sym same)

-- ---- the loop over one layer's names

found_none : (t : Tree) (q : Names) (o : Option Node) → option_map {U = Node × Option Directory} (λ (y : Node). (y, dir_of t q y)) o ≡ None → o ≡ None
found_none t q None e = refl
found_none t q (Some y) e = absurd (cc)

found_some : (t : Tree) (q : Names) (o : Option Node) (x : Node) (w : Option Directory) → option_map {U = Node × Option Directory} (λ (y : Node). (y, dir_of t q y)) o ≡ Some (x, w) → (o ≡ Some x) × (dir_of t q x ≡ w)
found_some t q None x w e = absurd (cc)
found_some t q (Some y) x w e =
    let pair : ◌≡◌ {A = Node × Option Directory} (y, dir_of t q y) (x, w) = cc in
    let same : y ≡ x = ap (λ (z : Node × Option Directory). z.0) pair in
    (ap (λ (z : Node). Some z) same, ap (dir_of t q) (sym same) ∙ ap (λ (z : Node × Option Directory). z.1) pair)

leaf_not_dir : (t : Tree) (q : Names) (x : Node) → dir_of t q x ≡ None → IsDirAt (Some x) → ⊥
leaf_not_dir t q (Dir m b) e d = cc
leaf_not_dir t q (File k) e d = cc
leaf_not_dir t q (Symlink k) e d = cc
leaf_not_dir t q Whiteout e d = cc

dir_of_some : (t : Tree) (q : Names) (x : Node) (w : Directory) → dir_of t q x ≡ Some w → (w ≡ record { layer = t; path = q }) × (is_dir x ≡ true)
dir_of_some t q (Dir m b) w e = let same : ◌≡◌ {A = Directory} (record { layer = t; path = q }) w = cc in (sym same, refl)
dir_of_some t q (File k) w e = absurd (cc)
dir_of_some t q (Symlink k) w e = absurd (cc)
dir_of_some t q Whiteout w e = absurd (cc)

module _ (t : Tree) (p : Names) (i : ℕ) (d : Directory) (v : Node) (b h : Bool) (n : List ℕ) (spot : ◌≡◌ {A = Directory} d (record { layer = t; path = take i p })) (here : at t (take i p) ≡ Some v) (kind : is_dir v ≡ true)
    (covered : b ≡ hides t (take i p)) (above : (j : ℕ) → j < i → IsDirAt (at t (take j p))) (lt : i < length p) (name : n ≡ get_or p i n) (covers : h ≡ node_hides (Some v)) where
  next_path : take (i + 1) p ≡ take i p ++ n ∷ []
  next_path = take_more p i n lt ∙ ap (λ (x : List ℕ). take i p ++ x ∷ []) (sym name)

  entry_found : entry d n ≡ found t (take (i + 1) p)
  entry_found = ap (λ (x : Directory). found x.layer (x.path ++ n ∷ [])) spot ∙ ap (found t) (sym next_path)

  pub above_more : (j : ℕ) → j < i + 1 → IsDirAt (at t (take j p))
  above_more = below_more (λ (j : ℕ). IsDirAt (at t (take j p))) i above (subst IsDirAt (sym here) kind)

  pub covered_more : (b || h) ≡ hides t (take (i + 1) p)
  covered_more =
      ap (λ x. x || h) covered ∙ ap (λ x. hides t (take i p) || x) (covers ∙ ap node_hides (sym here))
      ∙ sym (hides_snoc t n (take i p) []) ∙ ap (hides t) (sym next_path)

  pub traced_none : entry d n ≡ None → Traced t p (i + 1) None (b || h)
  traced_none e = record {
    dirs = above_more;
    end = found_none t (take (i + 1) p) (at t (take (i + 1) p)) (sym entry_found ∙ e);
    stops = λ le x. x;
    hidden = covered_more;
  }

  pub traced_leaf : (x : Node) → entry d n ≡ Some (x, None) → Traced t p (i + 1) (Some x) (b || h)
  traced_leaf x e = record {
    dirs = above_more;
    end = (found_some t (take (i + 1) p) (at t (take (i + 1) p)) x None (sym entry_found ∙ e)).0;
    stops = λ le y. leaf_not_dir t (take (i + 1) p) x (found_some t (take (i + 1) p) (at t (take (i + 1) p)) x None (sym entry_found ∙ e)).1 y;
    hidden = covered_more;
  }

  pub goes_on : (x : Node) (w : Directory) → entry d n ≡ Some (x, Some w) → (w ≡ record { layer = t; path = take (i + 1) p }) × ((at t (take (i + 1) p) ≡ Some x) × (is_dir x ≡ true))
  goes_on x w e =
      let parts_of = found_some t (take (i + 1) p) (at t (take (i + 1) p)) x (Some w) (sym entry_found ∙ e) in
      let at_dir = dir_of_some t (take (i + 1) p) x w parts_of.1 in
      (at_dir.0, (parts_of.0, at_dir.1))

pub traced_end : (t : Tree) (p : Names) (i : ℕ) (v : Node) (b : Bool) → i ≡ length p → at t (take i p) ≡ Some v → is_dir v ≡ true → b ≡ hides t (take i p) → ((j : ℕ) → j < i → IsDirAt (at t (take j p))) → Traced t p (length p + 1) (Some v) b
traced_end t p i v b same here kind covered above =
    let whole : take (length p + 1) p ≡ take i p = take_all (length p + 1) p (omega arith) ∙ sym (take_all i p (omega arith)) in
    record {
      dirs = subst (λ (k : ℕ). (j : ℕ) → j < k + 1 → IsDirAt (at t (take j p))) same (below_more (λ (j : ℕ). IsDirAt (at t (take j p))) i above (subst IsDirAt (sym here) kind));
      end = ap (at t) whole ∙ here;
      stops = λ le. absurd (omega arith);
      hidden = covered ∙ ap (hides t) (sym whole);
    }

pub dir_whole : (t : Tree) (p : Names) (i : ℕ) (d : Directory) → ◌≡◌ {A = Directory} d (record { layer = t; path = take i p }) → i ≡ length p → ◌≡◌ {A = Directory} d (record { layer = t; path = p })
dir_whole t p i d spot same = spot ∙ ap {B = Directory} (λ (q : Names). record { layer = t; path = q }) (take_all i p (omega arith))

-- ---- whether a layer hides a path

module _ (t : Tree) (p : Names) (ok : IsLayer t) (m : ℕ) (node : Option Node) (covered : Bool) (traced : Traced t p m node covered) where
  split_hides : hides t p ≡ (covered || hides_from t (take m p) (drop m p))
  split_hides = ap (hides t) (sym (take-append-drop m p)) ∙ hides_append t (take m p) (drop m p) [] ∙ ap (λ b. b || hides_from t (take m p) (drop m p)) (sym traced.hidden)

  pub hides_covered : covered ≡ true → true ≡ hides t p
  hides_covered is = sym (split_hides ∙ ap (λ b. b || hides_from t (take m p) (drop m p)) is)

  pub hides_whole : covered ≡ false → length p ≤ m → false ≡ hides t p
  hides_whole is le = sym is ∙ traced.hidden ∙ ap (hides t) (take_all m p le)

  pub hides_stop : covered ≡ false → m < length p → node_hides node ≡ hides t p
  hides_stop is lt =
      let leaf : IsDirAt (at t (take m p)) → ⊥ = λ d. traced.stops (omega arith) (subst IsDirAt traced.end d) in
      let n = get_or p m [] in
      let none : hides_from t (take m p ++ n ∷ []) (drop (m + 1) p) ≡ false = bare_hides t ok (drop (m + 1) p) (take m p ++ n ∷ []) (nothing_below t ok (take m p) leaf n []) in
      sym (split_hides ∙ ap (λ b. b || hides_from t (take m p) (drop m p)) is
      ∙ at_drop_more (hides_from t (take m p)) p m [] lt
      ∙ ap (λ b. node_hides (at t (take m p)) || b) none ∙ or_false (node_hides (at t (take m p))) ∙ ap node_hides traced.end)
