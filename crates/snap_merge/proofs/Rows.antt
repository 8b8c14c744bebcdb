-- The directories of the layers at a path, and what is asked of them.
use Rattle.std.proofs.Common.{◌≡◌, ℕ, zero, suc, ◌+◌, ◌<◌, ◌≤◌, Bool, true, false, cond, List, [], ◌∷◌, ◌++◌, length, take, drop, get_or, ◌-◌, Option, Some, None, refl, sym, ap, subst, ◌∙◌, inl, inr, append_assoc, arith}
use Rattle.std.specs.Prelude.{◌||◌, ◌&&◌, not, is_some, option_and_then, MatchOption}
use Rattle.std.specs.Option.{option_map}
use Rattle.std.specs.List.{flat_map}
use Rattle.std.specs.List.Sorted.{IsStrictlySortedBy}
use Rattle.std.proofs.lemmas.List.{take_all, at_drop_more}
use Rattle.snap_path.specs.Text.{Names}
use Rattle.snap_layer.specs.declared.node.Meta.{Meta}
use Rattle.snap_layer.specs.declared.node.Node.{Node}
use Rattle.snap_layer.specs.declared.node.Node.TheVariants.{Dir, File, Symlink, Whiteout}
use Rattle.snap_layer.specs.declared.node.Body.{Body}
use Rattle.snap_layer.specs.declared.node.Body.TheVariants as body_kinds
use Rattle.snap_layer.specs.Tree.{Tree, at, body, hides, node_hides, names_below, IsDirAt}
use Rattle.snap_layer.specs.Layers.{IsLayer}
use Rattle.snap_layer.specs.Directory.{Directory, dir_of, found}
use Rattle.snap_layer.proofs.Laws.{names_below_are}
use Rattle.snap_layer.proofs.Kept.{nothing_below}
use Rattle.snap_merge.specs.declared.taken.Part.{Part}
use Rattle.snap_merge.specs.Objects.{meta_of, metas_from, no_meta, seen, seen_over, shown_body, AreLayers}
use Rattle.snap_merge.specs.Reach.{Traced}
use Rattle.snap_merge.specs.Shares.{has, is_there, Shares}
use Rattle.snap_merge.specs.Listing.{put_names, names}
use Rattle.snap_layer.specs.Rows.{name_cmp}
use Rattle.snap_merge.specs.Taken.{part, part_over, parts_below, with_inside}
use Rattle.snap_merge.specs.Row.{Row, dir_at, hides_inside, row, entry_in, next_dir, entry_hides, row_at, is_seen_over, is_seen_in, gathered_in, names_in, part_at, part_over_dir, part_in, parts_in, node_meta, meta_in, metas_in}
use Rattle.snap_merge.proofs.Hiding.{hides_snoc}
use Rattle.snap_merge.proofs.Reaching.{much_longer, split_lt, no_dir_none}
use Rattle.snap_merge.proofs.Listings.{has_put_names, has_filter, sorted_put_names, sorted_filter, nothing_sorted, regrouped, kept, listing_is}
use Rattle.snap_merge.proofs.Sharing.{same_names, over_told}

-- ---- one layer

no_dir_at : (t : Tree) (p : Names) (o : Option Node) → (IsDirAt o → ⊥) → option_and_then (dir_of t p) o ≡ None
no_dir_at t p None leaf = refl
no_dir_at t p (Some (Dir m b)) leaf = absurd (leaf refl)
no_dir_at t p (Some (File k)) leaf = refl
no_dir_at t p (Some (Symlink k)) leaf = refl
no_dir_at t p (Some Whiteout) leaf = refl

a_dir_at : (t : Tree) (p : Names) (o : Option Node) → IsDirAt o → option_and_then (dir_of t p) o ≡ Some (record { layer = t; path = p })
a_dir_at t p None is = absurd is
a_dir_at t p (Some (Dir m b)) is = refl
a_dir_at t p (Some (File k)) is = absurd (cc)
a_dir_at t p (Some (Symlink k)) is = absurd (cc)
a_dir_at t p (Some Whiteout) is = absurd (cc)

module _ (t : Tree) (p : Names) (ok : IsLayer t) (m : ℕ) (node : Option Node) (covered : Bool) (traced : Traced t p m node covered) where
  whole : at t p ≡ at t (take (length p) p)
  whole = ap (at t) (sym (take_all (length p) p (omega arith)))

  not_there : m ≤ length p → IsDirAt (at t p) → ⊥
  not_there within is =
      elim (split_lt m (length p)) [
        | inl short ↦
            let split = much_longer m (length p) p short (omega arith) in
            no_dir_none (at t p) (whole ∙ ap (at t) split.2 ∙ nothing_below t ok (take m p) (λ d. traced.stops within (subst IsDirAt traced.end d)) split.0 split.1) is
        | inr far ↦
            let same : length p ≡ m = omega arith in
            traced.stops within (subst IsDirAt (whole ∙ ap (λ (k : ℕ). at t (take k p)) same ∙ traced.end) is)
      ]

  -- the walk of the layer comes to its directory
  pub its_dir : (d : Option Directory) → MatchOption d (m ≤ length p) (λ x. (x ≡ record { layer = t; path = p }) × (m ≡ length p + 1)) → d ≡ dir_at t p
  its_dir None within = sym (no_dir_at t p (at t p) (not_there within))
  its_dir (Some d) there =
      let last : length p < m = omega (arith, there.1) in
      ap Some there.0 ∙ sym (a_dir_at t p (at t p) (subst IsDirAt (sym whole) (traced.dirs (length p) last)))

pub its_hiding : (t : Tree) (p : Names) (d : Option Directory) (h : Bool) → Shares t p d h → h ≡ hides_inside t p
its_hiding t p d h shares = sym (shares.hiding []) ∙ hides_snoc t [] p []

-- ---- a name in it

module _ (t : Tree) (ok : IsLayer t) (p : Names) (n : List ℕ) where
  abbrev q : Names
  q = p ++ n ∷ []

  hides_there : hides t q ≡ hides_inside t p
  hides_there = hides_snoc t n p []

  none_there : (o : Option Node) → at t p ≡ o → (IsDirAt o → ⊥) → None ≡ at t q
  none_there o e leaf = sym (nothing_below t ok p (λ d. leaf (subst IsDirAt e d)) n [])

  -- where the layer has no directory, it has nothing at the name
  entry_is : entry_in (dir_at t p) n ≡ found t q
  entry_is = by (at t p) refl
    where
      nothing : None ≡ at t q → None ≡ found t q
      nothing none = ap (option_map (λ (v : Node). (v, dir_of t q v))) none

      by : (o : Option Node) → at t p ≡ o → entry_in (option_and_then (dir_of t p) o) n ≡ found t q
      by None e = nothing (none_there None e (λ d. d))
      by (Some (Dir m b)) e = refl
      by (Some (File k)) e = nothing (none_there (Some (File k)) e (λ d. cc))
      by (Some (Symlink k)) e = nothing (none_there (Some (Symlink k)) e (λ d. cc))
      by (Some Whiteout) e = nothing (none_there (Some Whiteout) e (λ d. cc))

  seen_is : (under : Bool) → is_seen_over (dir_at t p) n under ≡ cond (is_some (at t q)) (is_there (at t q)) under
  seen_is under = by (at t p) refl
    where
      nothing : None ≡ at t q → under ≡ cond (is_some (at t q)) (is_there (at t q)) under
      nothing none = ap (λ (o : Option Node). cond (is_some o) (is_there o) under) none

      by : (o : Option Node) → at t p ≡ o → is_seen_over (option_and_then (dir_of t p) o) n under ≡ cond (is_some (at t q)) (is_there (at t q)) under
      by None e = nothing (none_there None e (λ d. d))
      by (Some (Dir m b)) e = refl
      by (Some (File k)) e = nothing (none_there (Some (File k)) e (λ d. cc))
      by (Some (Symlink k)) e = nothing (none_there (Some (Symlink k)) e (λ d. cc))
      by (Some Whiteout) e = nothing (none_there (Some Whiteout) e (λ d. cc))

  part_is : (place : ℕ) (under : Option Part) → part_over_dir place (dir_at t p) n under ≡ part_at place t (found t q) under
  part_is place under = by (at t p) refl
    where
      nothing : None ≡ at t q → under ≡ part_at place t (found t q) under
      nothing none = ap (λ (o : Option Node). part_at place t (option_map (λ (v : Node). (v, dir_of t q v)) o) under) none

      by : (o : Option Node) → at t p ≡ o → part_over_dir place (option_and_then (dir_of t p) o) n under ≡ part_at place t (found t q) under
      by None e = nothing (none_there None e (λ d. d))
      by (Some (Dir m b)) e = refl
      by (Some (File k)) e = nothing (none_there (Some (File k)) e (λ d. cc))
      by (Some (Symlink k)) e = nothing (none_there (Some (Symlink k)) e (λ d. cc))
      by (Some Whiteout) e = nothing (none_there (Some Whiteout) e (λ d. cc))

-- ---- a name in all of them

-- what an entry leaves of the row
abbrev row_over : Option (Node × Option Directory) → Row → Row
row_over e r = next_dir e ∷ cond (entry_hides e) [] r

either_none : (b : Bool) → cond {A = Row} b [] [] ≡ []
either_none true = refl
either_none false = refl

-- the row of the name is that of the path with it
pub row_more : (s : List Tree) → AreLayers s → (p : Names) (n : List ℕ) → row_at (row s p) n ≡ row s (p ++ n ∷ [])
row_more [] ok p n = refl
row_more (t ∷ ts) ok p n =
    ap (λ e. row_over e (row_at (cond (hides_inside t p) [] (row ts p)) n)) (entry_is t ok.0 p n)
    ∙ ap (λ h. row_over (found t (p ++ n ∷ [])) (row_at (cond h [] (row ts p)) n)) (sym (hides_there t ok.0 p n))
    ∙ by (hides t (p ++ n ∷ [])) (at t (p ++ n ∷ [])) (row_more ts ok.1 p n)
  where
    by : (h : Bool) (o : Option Node) → row_at (row ts p) n ≡ row ts (p ++ n ∷ [])
        → row_over (option_map (λ (v : Node). (v, dir_of t (p ++ n ∷ []) v)) o) (row_at (cond h [] (row ts p)) n) ≡ option_and_then (dir_of t (p ++ n ∷ [])) o ∷ cond (h || node_hides o) [] (row ts (p ++ n ∷ []))
    by true None later = refl
    by true (Some v) later = ap (λ (r : Row). dir_of t (p ++ n ∷ []) v ∷ r) (either_none (node_hides (Some v)))
    by false None later = ap (λ (r : Row). None ∷ r) later
    by false (Some v) later = ap (λ (r : Row). dir_of t (p ++ n ∷ []) v ∷ cond (node_hides (Some v)) [] r) later

pub seen_row : (s : List Tree) → AreLayers s → (p : Names) (n : List ℕ) → is_seen_in (row s p) n ≡ is_some (seen s (p ++ n ∷ []))
seen_row [] ok p n = refl
seen_row (t ∷ ts) ok p n =
    seen_is t ok.0 p n (is_seen_in (cond (hides_inside t p) [] (row ts p)) n)
    ∙ ap (λ b. cond (is_some (at t (p ++ n ∷ []))) (is_there (at t (p ++ n ∷ []))) b) (by (hides_inside t p) (seen_row ts ok.1 p n))
    ∙ sym (over_told t ok.0 (p ++ n ∷ []) (hides_inside t p) (hides_there t ok.0 p n) (seen ts (p ++ n ∷ [])))
  where
    by : (h : Bool) → is_seen_in (row ts p) n ≡ is_some (seen ts (p ++ n ∷ [])) → is_seen_in (cond h [] (row ts p)) n ≡ (not h && is_some (seen ts (p ++ n ∷ [])))
    by true later = refl
    by false later = later

pub part_row : (place : ℕ) (s : List Tree) → AreLayers s → (p : Names) (n : List ℕ) → part_in place (row s p) n ≡ part place s (p ++ n ∷ [])
part_row place [] ok p n = refl
part_row place (t ∷ ts) ok p n =
    part_is t ok.0 p n place (part_in (suc place) (cond (hides_inside t p) [] (row ts p)) n)
    ∙ ap (λ h. part_at place t (found t (p ++ n ∷ [])) (part_in (suc place) (cond h [] (row ts p)) n)) (sym (hides_there t ok.0 p n))
    ∙ by (at t (p ++ n ∷ [])) (part_row (suc place) ts ok.1 p n)
  where
    shut : (h : Bool) → part_in (suc place) (row ts p) n ≡ part (suc place) ts (p ++ n ∷ []) → part_in (suc place) (cond h [] (row ts p)) n ≡ cond h None (part (suc place) ts (p ++ n ∷ []))
    shut true later = refl
    shut false later = later

    by : (o : Option Node) → part_in (suc place) (row ts p) n ≡ part (suc place) ts (p ++ n ∷ [])
        → part_at place t (option_map (λ (v : Node). (v, dir_of t (p ++ n ∷ []) v)) o) (part_in (suc place) (cond (hides t (p ++ n ∷ [])) [] (row ts p)) n) ≡ part_over place t o (p ++ n ∷ []) (part (suc place) ts (p ++ n ∷ []))
    by None later = shut (hides t (p ++ n ∷ [])) later
    by (Some v) later = refl

-- ---- the names

sorted_gathered_in : (r : Row) (ns : Names) → IsStrictlySortedBy name_cmp ns → IsStrictlySortedBy name_cmp (gathered_in r ns)
sorted_gathered_in [] ns sorted = sorted
sorted_gathered_in (None ∷ r) ns sorted = sorted_gathered_in r ns sorted
sorted_gathered_in (Some d ∷ r) ns sorted = sorted_gathered_in r (put_names (names_below d.path d.layer.entries) ns) (sorted_put_names (names_below d.path d.layer.entries) ns sorted)

-- one of the directories has something at the name
abbrev have_in : Row → List ℕ → Bool
have_in [] n = false
have_in (None ∷ r) n = have_in r n
have_in (Some d ∷ r) n = is_some (at d.layer (d.path ++ n ∷ [])) || have_in r n

or_false : (b : Bool) → (b || false) ≡ b
or_false true = refl
or_false false = refl

has_gathered_in : (n : List ℕ) (r : Row) (ns : Names) → has n (gathered_in r ns) ≡ (has n ns || have_in r n)
has_gathered_in n [] ns = sym (or_false (has n ns))
has_gathered_in n (None ∷ r) ns = has_gathered_in n r ns
has_gathered_in n (Some d ∷ r) ns =
    has_gathered_in n r (put_names (names_below d.path d.layer.entries) ns)
    ∙ ap (λ b. b || have_in r n) (has_put_names n (names_below d.path d.layer.entries) ns ∙ ap (λ b. b || has n ns) (names_below_are d.layer d.path n))
    ∙ sym (regrouped (is_some (at d.layer (d.path ++ n ∷ []))) (has n ns) (have_in r n))

unseen_in : (n : List ℕ) (r : Row) → have_in r n ≡ false → is_seen_in r n ≡ false
unseen_in n [] e = refl
unseen_in n (None ∷ r) e = unseen_in n r e
unseen_in n (Some d ∷ r) e = by (at d.layer (d.path ++ n ∷ [])) e (unseen_in n r)
  where
    by : (o : Option Node) → (is_some o || have_in r n) ≡ false → (have_in r n ≡ false → is_seen_in r n ≡ false) → cond (is_some o) (is_there o) (is_seen_in r n) ≡ false
    by None f later = later f
    by (Some v) f later = absurd (cc)

pub has_names_in : (r : Row) (n : List ℕ) → has n (names_in r) ≡ is_seen_in r n
has_names_in r n =
    has_filter n (is_seen_in r) (gathered_in r [])
    ∙ ap (λ b. b && is_seen_in r n) (has_gathered_in n r [])
    ∙ kept (have_in r n) (is_seen_in r n) (unseen_in n r)

pub sorted_names_in : (r : Row) → IsStrictlySortedBy name_cmp (names_in r)
sorted_names_in r = sorted_filter (is_seen_in r) (gathered_in r []) (sorted_gathered_in r [] nothing_sorted)

pub names_row : (s : List Tree) → AreLayers s → (p : Names) → names_in (row s p) ≡ names s p
names_row s ok p = same_names (names_in (row s p)) (names s p) (sorted_names_in (row s p)) (listing_is s p).in_order (λ n. has_names_in (row s p) n ∙ seen_row s ok p n ∙ sym ((listing_is s p).exactly n))

-- ---- what is seen below

nothing_flat : (ns : Names) → flat_map {A = Part} (λ n. []) ns ≡ []
nothing_flat [] = refl
nothing_flat (n ∷ ns) = nothing_flat ns

pub parts_row : (k : ℕ) (s : List Tree) → AreLayers s → (p : Names) → parts_in k (row s p) ≡ flat_map (λ n. parts_below k s (p ++ n ∷ [])) (names s p)
unfolding parts_in parts_below
parts_row zero s ok p = sym (nothing_flat (names s p))
parts_row (suc k) s ok p =
    let inside : (n : List ℕ) → parts_in k (row_at (row s p) n) ≡ flat_map (λ m. parts_below k s ((p ++ n ∷ []) ++ m ∷ [])) (names s (p ++ n ∷ [])) = λ n. ap (parts_in k) (row_more s ok p n) ∙ parts_row k s ok (p ++ n ∷ []) in
    λ i. flat_map (λ n. with_inside (inside n i) (part_row 0 s ok p n i)) (names_row s ok p i)

-- one level
pub level : (k : ℕ) (r : Row) → (k ≡ 0 → ⊥) → parts_in k r ≡ flat_map (λ n. with_inside (parts_in (k - 1) (row_at r n)) (part_in 0 r n)) (names_in r)
unfolding parts_in
level zero r more = absurd (more refl)
level (suc k) r more =
    let less : k ≡ suc k - 1 = omega arith in
    ap (λ (j : ℕ). flat_map (λ n. with_inside (parts_in j (row_at r n)) (part_in 0 r n)) (names_in r)) less

-- ---- the loops

opened : (h : Bool) → not h ≡ true → h ≡ false
opened true e = absurd (cc)
opened false e = refl

closed : (h : Bool) → not h ≡ false → h ≡ true
closed true e = refl
closed false e = absurd (cc)

module _ (xs ys : Row) (t : Tree) (ts : List Tree) (p : Names) (on : Bool) (put : ys ≡ xs ++ dir_at t p ∷ []) (is : on ≡ not (hides_inside t p)) where
  pub row_on : on ≡ true → ys ++ row ts p ≡ xs ++ row (t ∷ ts) p
  row_on e =
      ap (λ (r : Row). r ++ row ts p) put
      ∙ append_assoc xs (dir_at t p ∷ []) (row ts p)
      ∙ ap (λ h. xs ++ dir_at t p ∷ cond h [] (row ts p)) (sym (opened (hides_inside t p) (sym is ∙ e)))

  pub row_ends : on ≡ false → ys ≡ xs ++ row (t ∷ ts) p
  row_ends e = put ∙ ap (λ h. xs ++ dir_at t p ∷ cond h [] (row ts p)) (sym (closed (hides_inside t p) (sym is ∙ e)))

module _ (xs ys : Row) (d : Option Directory) (ds : Row) (n : List ℕ) (hides : Bool) (put : ys ≡ xs ++ next_dir (entry_in d n) ∷ []) (is : hides ≡ entry_hides (entry_in d n)) where
  pub next_on : hides ≡ false → ys ++ row_at ds n ≡ xs ++ row_at (d ∷ ds) n
  next_on e =
      ap (λ (r : Row). r ++ row_at ds n) put
      ∙ append_assoc xs (next_dir (entry_in d n) ∷ []) (row_at ds n)
      ∙ ap (λ h. xs ++ next_dir (entry_in d n) ∷ cond h [] (row_at ds n)) (sym e ∙ is)

  pub next_ends : hides ≡ true → ys ≡ xs ++ row_at (d ∷ ds) n
  next_ends e = put ∙ ap (λ h. xs ++ next_dir (entry_in d n) ∷ cond h [] (row_at ds n)) (sym e ∙ is)

-- the rest of a row
pub rest_is : (r : Row) (i : ℕ) (d : Option Directory) → i < length r → d ≡ get_or r i d → drop i r ≡ d ∷ drop (i + 1) r
rest_is r i d lt is = at_drop_more (λ (x : Row). x) r i d lt ∙ ap (λ (x : Option Directory). x ∷ drop (i + 1) r) (sym is)

-- ---- the metas

no_meta_of : (o : Option Body) → meta_of (shown_body o) ≡ no_meta
no_meta_of None = refl
no_meta_of (Some (body_kinds.File meta content)) = refl
no_meta_of (Some (body_kinds.Symlink target)) = refl

none_in : (h : Bool) (r : Row) → meta_in (None ∷ cond (h || true) [] r) ≡ no_meta
none_in true r = refl
none_in false r = refl

-- the topmost directory of the row is the one that is seen
pub meta_row : (s : List Tree) (p : Names) → meta_in (row s p) ≡ meta_of (seen s p)
meta_row [] p = refl
meta_row (t ∷ ts) p = by (at t p) refl (meta_row ts p)
  where
    shut : (h : Bool) → meta_in (row ts p) ≡ meta_of (seen ts p) → meta_in (None ∷ cond (h || false) [] (row ts p)) ≡ meta_of (cond h None (seen ts p))
    shut true later = refl
    shut false later = later

    by : (o : Option Node) → at t p ≡ o → meta_in (row ts p) ≡ meta_of (seen ts p) → meta_in (option_and_then (dir_of t p) o ∷ cond (hides t p || node_hides o) [] (row ts p)) ≡ meta_of (seen_over t o p (seen ts p))
    by None e later = shut (hides t p) later
    by (Some (Dir m b)) e later = ap node_meta e
    by (Some (File k)) e later = none_in (hides t p) (row ts p) ∙ sym (no_meta_of (body t k))
    by (Some (Symlink k)) e later = none_in (hides t p) (row ts p) ∙ sym (no_meta_of (body t k))
    by (Some Whiteout) e later = none_in (hides t p) (row ts p)

pub metas_row : (s : List Tree) → AreLayers s → (front rest : Names) → metas_in (row s front) rest ≡ metas_from s front rest
metas_row s ok front [] = refl
metas_row s ok front (n ∷ rest) =
    (λ i. meta_row s front i ∷ metas_in (row_more s ok front n i) rest)
    ∙ ap (λ (ms : List Meta). meta_of (seen s front) ∷ ms) (metas_row s ok (front ++ n ∷ []) rest)
