-- The parts of a saved layer put one after another, as `restored_layer` puts them.
use Rattle.std.proofs.Common.{◌≡◌, ℕ, ◌+◌, ◌-◌, ◌<◌, ◌≤◌, Bool, true, false, List, [], ◌∷◌, length, drop, get_or, Option, Some, None, refl, sym, ap, ◌∙◌, inl, inr, arith}
use Rattle.std.specs.Prelude.{◌⊎◌, nat_lt, Result, Ok, Err, IsErrAnd, IfErr, if◌then◌else◌}
use Rattle.std.specs.Option.{option_map_or}
use Rattle.std.specs.Ordering.{is_le}
use Rattle.std.proofs.lemmas.Bool.Decides.{nat_tests}
use Rattle.std.proofs.lemmas.List.{drop_all, drop_more, get_or_default}
use Rattle.snap_path.specs.Memory.{no_memory}
use Rattle.snap_path.specs.Text.{Names}
use Rattle.snap_path.specs.declared.memory.NoMemory.{NoMemory}
use Rattle.snap_layer.specs.declared.error.LayerError.{LayerError}
use Rattle.snap_layer.specs.declared.error.LayerError.TheVariants as layer_errors
use Rattle.snap_layer.specs.declared.node.Body.{Body}
use Rattle.snap_layer.specs.Tree.{Tree, path_cmp}
use Rattle.snap_layer.specs.Edits.{with_next}
use Rattle.snap_saved.specs.declared.error.Fault.TheVariants.{BadNumber, Full, NotInOrder}
use Rattle.snap_saved.specs.declared.error.Part.{Part}
use Rattle.snap_saved.specs.declared.error.Part.TheVariants.{File, Name, Next}
use Rattle.snap_saved.specs.declared.error.RestoreError.{RestoreError}
use Rattle.snap_saved.specs.declared.error.RestoreError.TheVariants.{Malformed, OutOfMemory}
use Rattle.snap_saved.specs.Refusing.{refusal}
use Rattle.snap_saved.specs.Values.{SavedValue}
use Rattle.snap_saved.specs.Restored.{◌followed_by◌, fault_if, in_order, restored_layer, put_dirs, put_each, put_file, put_first, put_named, put_other_names, put_root, put_whiteouts, unless_fault, unsorted, unsorted_from}

-- ---- errors

-- the exit of a `?`
pub refused_later : {A : Type 0} (r : Result A RestoreError) (x : RestoreError) (one whole : Result Tree RestoreError) → IsErrAnd r (λ e. e ≡ x) → (one ≡ Err x → whole ≡ Err x)
    → (one ≡ Err x) ⊎ (x ≡ OutOfMemory no_memory) → IfErr r (λ e. (whole ≡ Err e) ⊎ (e ≡ OutOfMemory no_memory))
refused_later (Ok y) x one whole same shows was = absurd same
refused_later (Err e) x one whole same shows (inl is) = inl (shows is ∙ ap (λ (y : RestoreError). Err y) (sym same))
refused_later (Err e) x one whole same shows (inr memory) = inr (same ∙ memory)

-- the end by another call
pub refused_same : {A : Type 0} (r : Result A RestoreError) (one whole : Result Tree RestoreError) → whole ≡ one → IfErr r (λ e. (one ≡ Err e) ⊎ (e ≡ OutOfMemory no_memory)) → IfErr r (λ e. (whole ≡ Err e) ⊎ (e ≡ OutOfMemory no_memory))
refused_same (Ok y) one whole same was = tt
refused_same (Err e) one whole same (inl is) = inl (same ∙ is)
refused_same (Err e) one whole same (inr memory) = inr memory

-- an edit that is refused: the layer is full, or memory is refused
pub refused_edit : (error : LayerError) (part : Part) (e : RestoreError) (whole : Result Tree RestoreError) → e ≡ refusal error part → (error ≡ layer_errors.LayerFull → whole ≡ Err (Malformed part Full)) → (whole ≡ Err e) ⊎ (e ≡ OutOfMemory no_memory)
refused_edit layer_errors.LayerFull part e whole is full = inl (full refl ∙ ap (λ (y : RestoreError). Err y) (sym is))
refused_edit (layer_errors.OutOfMemory memory) part e whole is full = inr (is ∙ ap (λ (m : NoMemory). OutOfMemory m) (same memory))
  where
    same : (m : NoMemory) → m ≡ no_memory
    same m = refl

-- ---- lists

module _ {X : Type 0} (put : ℕ → Tree → X → Result Tree RestoreError) (place : ℕ) (t : Tree) where
  pub none_put : put_each put place t [] ≡ Ok t
  unfolding put_each
  none_put = refl

  module _ (x : X) (xs : List X) where
    -- a part that is put, and those after it
    pub next_put : (u : Tree) → put place t x ≡ Ok u → put_each put place t (x ∷ xs) ≡ put_each put (place + 1) u xs
    unfolding put_each
    next_put u e = ap (λ (o : Result Tree RestoreError). o followed_by λ v. put_each put (place + 1) v xs) e

    -- a part that is refused
    pub next_refused : (e : RestoreError) → put place t x ≡ Err e → put_each put place t (x ∷ xs) ≡ Err e
    unfolding put_each
    next_refused why e = ap (λ (o : Result Tree RestoreError). o followed_by λ v. put_each put (place + 1) v xs) e

  module _ (xs : List X) (i : ℕ) where
    pub all_put : length xs ≤ i → put_each put place t (drop i xs) ≡ Ok t
    all_put le = ap (put_each put place t) (drop_all i xs le) ∙ none_put

    module _ (x : X) (lt : i < length xs) (at : x ≡ get_or xs i x) where
      those_left : drop i xs ≡ x ∷ drop (i + 1) xs
      those_left = drop_more xs i x lt ∙ ap (λ (y : X). y ∷ drop (i + 1) xs) (sym at)

      pub there_put : (u : Tree) → put place t x ≡ Ok u → put_each put (place + 1) u (drop (i + 1) xs) ≡ put_each put place t (drop i xs)
      there_put u e = sym (ap (put_each put place t) those_left ∙ next_put x (drop (i + 1) xs) u e)

      pub there_refused : (e : RestoreError) → put place t x ≡ Err e → put_each put place t (drop i xs) ≡ Err e
      there_refused why e = ap (put_each put place t) those_left ∙ next_refused x (drop (i + 1) xs) why e

-- ---- order

no_paths : (place : ℕ) (before : Names) → unsorted_from place before [] ≡ None
unfolding unsorted_from
no_paths place before = refl

-- the first path has none before it
pub order_begins : (ps : List Names) → unsorted_from 1 (get_or ps 0 []) (drop 1 ps) ≡ unsorted ps
unfolding unsorted_from
order_begins [] = refl
order_begins (p ∷ ps) = refl

-- no path is left
pub order_ends : (ps : List Names) (i : ℕ) (before : Names) → length ps ≤ i → unsorted_from i before (drop i ps) ≡ unsorted ps → unsorted ps ≡ None
order_ends ps i before le was = sym was ∙ ap (unsorted_from i before) (drop_all i ps le) ∙ no_paths i before

module _ (ps : List Names) (i : ℕ) (x y : Names) (low : 1 ≤ i) (lt : i < length ps) (at_x : x ≡ get_or ps (i - 1) x) (at_y : y ≡ get_or ps i y) (was : unsorted_from i (get_or ps (i - 1) []) (drop i ps) ≡ unsorted ps) where
  order_here : unsorted_from i x (y ∷ drop (i + 1) ps) ≡ unsorted ps
  order_here =
      let before : x ≡ get_or ps (i - 1) [] = at_x ∙ sym (get_or_default ps (i - 1) [] x (omega arith)) in
      let rest : y ∷ drop (i + 1) ps ≡ drop i ps = ap (λ (z : Names). z ∷ drop (i + 1) ps) at_y ∙ sym (drop_more ps i y lt) in
      (λ j. unsorted_from i (before j) (rest j)) ∙ was

  -- the path comes after the one before it
  pub order_goes_on : is_le (path_cmp y x) ≡ false → unsorted_from (i + 1) (get_or ps (i + 1 - 1) []) (drop (i + 1) ps) ≡ unsorted ps
  unfolding unsorted_from
  order_goes_on after =
      let place : i + 1 - 1 ≡ i = omega arith in
      let its : get_or ps (i + 1 - 1) [] ≡ y = ap (λ (n : ℕ). get_or ps n []) place ∙ get_or_default ps i [] y lt ∙ sym at_y in
      ap (λ (p : Names). unsorted_from (i + 1) p (drop (i + 1) ps)) its
      ∙ sym (ap (λ (b : Bool). if b then Some i else unsorted_from (i + 1) y (drop (i + 1) ps)) after)
      ∙ order_here

  -- it doesn't
  pub order_breaks : is_le (path_cmp y x) ≡ true → unsorted ps ≡ Some i
  unfolding unsorted_from
  order_breaks before = sym order_here ∙ ap (λ (b : Bool). if b then Some i else unsorted_from (i + 1) y (drop (i + 1) ps)) before

-- a list in order
module _ (part : ℕ → Part) (ps : List Names) (t : Tree) (after : Tree → Result Tree RestoreError) where
  pub sorted_goes : unsorted ps ≡ None → (in_order part ps t followed_by after) ≡ after t
  sorted_goes e = ap (λ (o : Option ℕ). option_map_or (λ (place : ℕ). Err (Malformed (part place) NotInOrder)) o (Ok t) followed_by after) e

-- ---- a file or symlink

module _ (file k : ℕ) (b : Body) (t : Tree) (p : Names) (ps : List Names) (sorted : unsorted (p ∷ ps) ≡ None) where
  named_sorted : put_named file k b t (p ∷ ps) ≡ (put_first (File file) k b t p followed_by λ u. put_other_names file k b u ps)
  named_sorted = sorted_goes (Name file) (p ∷ ps) t (λ (w : Tree). put_first (File file) k b w p followed_by λ u. put_other_names file k b u ps) sorted

  -- its first name is there
  pub named_goes : (u : Tree) → put_first (File file) k b t p ≡ Ok u → put_named file k b t (p ∷ ps) ≡ put_other_names file k b u ps
  named_goes u e = named_sorted ∙ ap (λ (o : Result Tree RestoreError). o followed_by λ v. put_other_names file k b v ps) e

-- ---- the whole

module _ (s : SavedValue) where
  -- what follows each list
  abbrev ending : Tree → Result Tree RestoreError
  ending files = unless_fault Next (fault_if (nat_lt s.next files.next) BadNumber ∷ []) (with_next files s.next)

  abbrev filing : Tree → Result Tree RestoreError
  filing whiteouts = put_each put_file 0 whiteouts s.files followed_by ending

  abbrev covering : Tree → Result Tree RestoreError
  covering dirs = put_whiteouts dirs s.whiteouts followed_by filing

  abbrev directing : Tree → Result Tree RestoreError
  directing root = put_dirs root s.dirs followed_by covering

  pub bad_root : (e : RestoreError) → put_root s.meta s.opaque s.most ≡ Err e → restored_layer s ≡ Err e
  bad_root why e = ap (λ (o : Result Tree RestoreError). o followed_by directing) e

  module _ (root : Tree) (is_root : put_root s.meta s.opaque s.most ≡ Ok root) where
    past_root : restored_layer s ≡ directing root
    past_root = ap (λ (o : Result Tree RestoreError). o followed_by directing) is_root

    pub bad_dirs : (e : RestoreError) → put_dirs root s.dirs ≡ Err e → restored_layer s ≡ Err e
    bad_dirs why e = past_root ∙ ap (λ (o : Result Tree RestoreError). o followed_by covering) e

    module _ (dirs : Tree) (is_dirs : put_dirs root s.dirs ≡ Ok dirs) where
      past_dirs : restored_layer s ≡ covering dirs
      past_dirs = past_root ∙ ap (λ (o : Result Tree RestoreError). o followed_by covering) is_dirs

      pub bad_whiteouts : (e : RestoreError) → put_whiteouts dirs s.whiteouts ≡ Err e → restored_layer s ≡ Err e
      bad_whiteouts why e = past_dirs ∙ ap (λ (o : Result Tree RestoreError). o followed_by filing) e

      module _ (whiteouts : Tree) (is_whiteouts : put_whiteouts dirs s.whiteouts ≡ Ok whiteouts) where
        past_whiteouts : restored_layer s ≡ filing whiteouts
        past_whiteouts = past_dirs ∙ ap (λ (o : Result Tree RestoreError). o followed_by filing) is_whiteouts

        pub bad_files : (e : RestoreError) → put_each put_file 0 whiteouts s.files ≡ Err e → restored_layer s ≡ Err e
        bad_files why e = past_whiteouts ∙ ap (λ (o : Result Tree RestoreError). o followed_by ending) e

        module _ (files : Tree) (is_files : put_each put_file 0 whiteouts s.files ≡ Ok files) where
          past_files : restored_layer s ≡ ending files
          past_files = past_whiteouts ∙ ap (λ (o : Result Tree RestoreError). o followed_by ending) is_files

          pub bad_next : s.next < files.next → restored_layer s ≡ Err (Malformed Next BadNumber)
          bad_next low =
              let is : nat_lt s.next files.next ≡ true = grind (arith, nat_tests) in
              past_files ∙ ap (λ (below : Bool). unless_fault Next (fault_if below BadNumber ∷ []) (with_next files s.next)) is

          pub all_good : files.next ≤ s.next → restored_layer s ≡ Ok (with_next files s.next)
          all_good high =
              let is : nat_lt s.next files.next ≡ false = grind (arith, nat_tests) in
              past_files ∙ ap (λ (below : Bool). unless_fault Next (fault_if below BadNumber ∷ []) (with_next files s.next)) is
