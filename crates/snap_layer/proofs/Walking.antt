-- One step of a walk.
use Rattle.std.proofs.Common.{◌≡◌, ℕ, ◌+◌, ◌-◌, ◌<◌, ◌≤◌, Bool, true, false, cond, List, [], ◌∷◌, ◌++◌, length, take, drop, append_assoc, append-nil, Option, Some, None, IsSome, refl, sym, ap, subst, ◌∙◌, inl, inr, arith}
use Rattle.std.specs.Prelude.{◌||◌}
use Rattle.std.specs.FinMap as map
use Rattle.std.specs.Coded.{Coded}
use Rattle.std.specs.Cmp.Lexicographic.{nat_list_cmp_total}
use Rattle.std.specs.FinMap.{slice_cmp-IsAntisymmetric, nat_cmp-IsAntisymmetric}
use Rattle.std.specs.List.{AllByRecursion}
use Rattle.std.specs.List.Sorted.{IsStrictlySortedBy}
use Rattle.std.specs.Map.{lookup, keys_of}
use Rattle.std.specs.BTreeMap.{is_at}
use Rattle.std.proofs.lemmas.Bool.{cond-false}
use Rattle.std.proofs.lemmas.Grind.{flat_map-append}
use Rattle.std.proofs.lemmas.List.Folds.{flat_map-map}
use Rattle.slab.specs.Slab.{Slab as Slots, get}
use Rattle.snap_path.specs.Limits.{most_path_bytes}
use Rattle.snap_path.specs.Text.{Names, IsPath, text_below, begins}
use Rattle.snap_layer.specs.declared.node.Node.{Node}
use Rattle.snap_layer.specs.Tree.{Entries, path_cmp}
use Rattle.snap_layer.specs.Edits.{inside}
use Rattle.snap_layer.proofs.Lists.{split_key, same_lists, sorted-filter, lookup-filter}
use Rattle.snap_layer.proofs.Paths.{path_cmp_total, path_cmp-IsAntisymmetric, begins_from, begins_rest}
use Rattle.snap_layer.specs.declared.inode.Inode.{Inode}
use Rattle.snap_layer.specs.declared.inode.Inode.TheVariants.{Dir, Leaf}
use Rattle.snap_layer.specs.declared.inode.Target.{Target}
use Rattle.snap_layer.specs.declared.inode.Target.TheVariants as target
use Rattle.snap_layer.specs.Walk.{Table, follow, walk, entry_of, entry_at, node_at, node_shown, stands, view_of}
use Rattle.snap_layer.specs.Holds.{Holds, Holds-prop}
use Rattle.snap_layer.specs.Rows.{name_cmp, Items, items_of, items_at, items_in, items_from, placed, Frames, last_path, frames_text, ahead, spread, frame_of, entered_from, IsWay, Passes, IsWalk, IsListed, own}
use Rattle.snap_layer.proofs.Frames.{walk_push}
use Rattle.snap_layer.proofs.Maps.{lookup_find}
use Rattle.snap_layer.proofs.Inside.{is_under, inside_is, found_each}
use Rattle.snap_layer.proofs.Ahead.{passes_named, passes_path, passes_above, last_path_entered, ahead_entered, way_entered, way_named, names_few, last_path_text, text_entered}

-- ---- the items of a directory

-- what is found among the items of an inode is its entry
pub items_entry : (o : Option Inode) (n : List ℕ) → lookup (is_at (name_cmp n)) (items_of o) ≡ entry_of o n
items_entry None n = refl
items_entry (Some (Dir meta opaque entries)) n = refl
items_entry (Some (Leaf number links body)) n = refl

or_true : (a b : Bool) → b ≡ true → (a || b) ≡ true
or_true true b e = refl
or_true false b e = e

-- a path lies at or under a name that is found
pub under_found : (q : Names) (n : List ℕ) (r : Names) (es : Items) → IsSome (lookup (is_at (name_cmp n)) es) → is_under q es (q ++ n ∷ r) ≡ true
under_found q n r [] some = absurd (cc)
under_found q n r (e ∷ es) some = elim (split_key nat_list_cmp_total (slice_cmp-IsAntisymmetric nat_cmp-IsAntisymmetric) n e.0) [
  | inl same ↦ ap (λ b. b || is_under q es (q ++ n ∷ r)) (begins_from (q ++ e.0 ∷ []) (q ++ n ∷ r) r (ap (λ m. q ++ m ∷ r) same.0 ∙ sym (append_assoc q (e.0 ∷ []) r)))
  | inr apart ↦ or_true (begins (q ++ e.0 ∷ []) (q ++ n ∷ r)) (is_under q es (q ++ n ∷ r)) (under_found q n r es (subst IsSome (cond-false (is_at (name_cmp n) e.0) (Some e.1) (lookup (is_at (name_cmp n)) es) apart.1) some))
]

-- ---- the walk of a path and on

whiteout_follow : (j k : ℕ → Option Target) (r : Names) → follow (Some target.Whiteout) j r ≡ follow (Some target.Whiteout) k r
whiteout_follow j k [] = refl
whiteout_follow j k (n ∷ r) = refl

pub walk_on : (e : Table) (d : ℕ) (q : Names) (t : Target) (r : Names) → walk e d q ≡ Some t → walk e d (q ++ r) ≡ follow (Some t) (λ c. walk e c r) r
walk_on e d [] t r to = let same : target.Inode d ≡ t = cc in ap (λ x. follow (Some x) (λ c. walk e c r) r) same
walk_on e d (n ∷ q) t r to = by (e d n) (λ c is. walk_on e c q t r is) q to
  where
    by : (o : Option Target) → ((c : ℕ) → walk e c q ≡ Some t → walk e c (q ++ r) ≡ follow (Some t) (λ x. walk e x r) r) → (ms : Names) → follow o (λ c. walk e c q) ms ≡ Some t → follow o (λ c. walk e c (q ++ r)) (ms ++ r) ≡ follow (Some t) (λ c. walk e c r) r
    by None rest ms is = absurd (cc)
    by (Some (target.Inode c)) rest ms is = rest c is
    by (Some target.Whiteout) rest [] is = let same : target.Whiteout ≡ t = cc in whiteout_follow (λ c. walk e c (q ++ r)) (λ c. walk e c r) r ∙ ap (λ x. follow (Some x) (λ c. walk e c r) r) same
    by (Some target.Whiteout) rest (m ∷ ms) is = absurd (cc)

-- below a target stands what one of its items leads to
pub under_item : (s : Slots Inode) (root : ℕ) (q : Names) (t : Target) (n : List ℕ) (r : Names) → walk (entry_at s) root q ≡ Some t → IsSome (stands (view_of s) root (q ++ n ∷ r)) → IsSome (lookup (is_at (name_cmp n)) (items_in s t))
under_item s root q target.Whiteout n r leads some = absurd (none (ap (node_shown (node_at s)) (walk_on (entry_at s) root q target.Whiteout (n ∷ r) leads)) some)
  where
    none : {o : Option Node} → o ≡ None → IsSome o → ⊥
    none e f = cc
under_item s root q (target.Inode c) n r leads some =
    subst IsSome (sym (items_entry (get s c) n)) (by (entry_at s c n) refl)
  where
    on : stands (view_of s) root (q ++ n ∷ r) ≡ node_shown (node_at s) (follow (entry_at s c n) (λ d. walk (entry_at s) d r) r)
    on = ap (node_shown (node_at s)) (walk_on (entry_at s) root q (target.Inode c) (n ∷ r) leads)

    none : {o : Option Node} → o ≡ None → IsSome o → ⊥
    none e f = cc

    by : (o : Option Target) → entry_at s c n ≡ o → IsSome o
    by None e = absurd (none (on ∙ ap (λ o. node_shown (node_at s) (follow o (λ d. walk (entry_at s) d r) r)) e) some)
    by (Some x) e = refl

-- ---- the step

leads_items : (s : Slots Inode) (root : ℕ) (q : Names) (c : ℕ) → walk (entry_at s) root q ≡ Some (target.Inode c) → (es : Items) → AllByRecursion (λ (e : List ℕ × Target). lookup (is_at (name_cmp e.0)) (items_at s c) ≡ Some e.1) es
    → AllByRecursion (λ (t : Names × Target). walk (entry_at s) root t.0 ≡ Some t.1) (placed q es)
leads_items s root q c leads [] found = tt
leads_items s root q c leads (e ∷ es) found = (walk_push (entry_at s) root c q e.0 leads ∙ sym (items_entry (get s c) e.0) ∙ found.0, leads_items s root q c leads es found.1)

leads_placed : (s : Slots Inode) (root : ℕ) (q : Names) (t : Target) → walk (entry_at s) root q ≡ Some t → IsStrictlySortedBy name_cmp (keys_of (items_in s t)) → AllByRecursion (λ (u : Names × Target). walk (entry_at s) root u.0 ≡ Some u.1) (placed q (items_in s t))
leads_placed s root q target.Whiteout leads sorted = tt
leads_placed s root q (target.Inode c) leads sorted = leads_items s root q c leads (items_at s c) (found_each nat_list_cmp_total (items_at s c) sorted)

all_append : {X : Type 0} (P : X → Type 0) (xs ys : List X) → AllByRecursion P xs → AllByRecursion P ys → AllByRecursion P (xs ++ ys)
all_append P [] ys a b = b
all_append P (x ∷ xs) ys a b = (a.0, all_append P xs ys a.1 b)

-- what stands at a path and below it, by the items of its target
pub inside_target : (s : Slots Inode) (root : ℕ) (es : Entries) → ((q : Names) → stands (view_of s) root q ≡ lookup (is_at (path_cmp q)) es) → IsStrictlySortedBy path_cmp (keys_of es)
    → (q : Names) (t : Target) (v : Node) → walk (entry_at s) root q ≡ Some t → node_shown (node_at s) (Some t) ≡ Some v → IsStrictlySortedBy name_cmp (keys_of (items_in s t)) → inside q es ≡ (q, v) ∷ spread es (placed q (items_in s t))
inside_target s root es shows sorted q t v leads node order =
    inside_is es sorted q (items_in s t) v order
    (sym (shows q) ∙ ap (node_shown (node_at s)) leads ∙ node)
    (λ n r some. under_found q n r (items_in s t) (under_item s root q t n r leads (subst IsSome (sym (shows (q ++ n ∷ r))) some)))
    ∙ ap (λ l. (q, v) ∷ l) (sym (flat_map-map (λ (u : Names × Target). inside u.0 es) (λ (e : List ℕ × Target). (q ++ e.0 ∷ [], e.1)) (items_in s t)))

module _ (s : Slots Inode) (root : ℕ) (es : Entries) (p : Names) (fs gs : Frames) (n : List ℕ) (t : Target) (walks : IsWalk s root es p fs) (passes : Passes fs gs n) (goes : ahead s p fs ≡ (last_path p gs, t) ∷ ahead s p gs) where
  arrived : AllByRecursion (λ (u : Names × Target). walk (entry_at s) root u.0 ≡ Some u.1) ((last_path p gs, t) ∷ ahead s p gs)
  arrived = subst (AllByRecursion (λ (u : Names × Target). walk (entry_at s) root u.0 ≡ Some u.1)) goes walks.leads

  -- something stands there
  pub step_there : (o : Option Node) → o ≡ node_shown (node_at s) (Some t) → IsSome o
  step_there o is = subst IsSome (sym is) (by t arrived.0)
    where
      by : (x : Target) → walk (entry_at s) root (last_path p gs) ≡ Some x → IsSome (node_shown (node_at s) (Some x))
      by target.Whiteout leads = refl
      by (target.Inode c) leads = walks.there (last_path p gs) c leads

  step_path_is : IsPath (last_path p gs)
  step_path_is = walks.paths (last_path p gs) (subst IsSome (walks.shows (last_path p gs)) (subst (λ o. IsSome (node_shown (node_at s) o)) (sym arrived.0) (step_there _ refl)))

  -- one more frame has room
  pub step_room : length gs < 2048
  step_room =
      omega (arith, names_few (last_path p gs) step_path_is, passes_above p fs gs n passes walks.way)

  -- its path has few names
  pub step_few : length p + (length gs - 1) < 2048
  step_few = omega (arith, names_few (last_path p gs) step_path_is, passes_above p fs gs n passes walks.way)

  -- a walk that leaves out what is below stays one
  pub step_skip : IsWalk s root es p gs
  step_skip = record {
    leads = arrived.1;
    way = way_named gs (passes_named p fs gs n passes walks.way);
    text = omega (arith, last_path_text p gs, step_path_is.1);
    there = walks.there;
    shows = walks.shows;
    sorted = walks.sorted;
    paths = walks.paths;
  }

  module _ (hs : Frames) (enters : hs ≡ gs ++ frame_of t) (v : Node) (node : Some v ≡ node_shown (node_at s) (Some t)) (order : IsStrictlySortedBy name_cmp (keys_of (items_in s t))) where
    path_kept : last_path p hs ≡ last_path p gs
    path_kept = ap (last_path p) enters ∙ last_path_entered p gs t

    ahead_is : ahead s p hs ≡ placed (last_path p gs) (items_in s t) ++ ahead s p gs
    ahead_is = ap (ahead s p) enters ∙ ahead_entered s p gs t

    pub step_walk : IsWalk s root es p hs
    step_walk = record {
      leads = subst (AllByRecursion (λ (u : Names × Target). walk (entry_at s) root u.0 ≡ Some u.1)) (sym ahead_is) (all_append _ (placed (last_path p gs) (items_in s t)) (ahead s p gs) (leads_placed s root (last_path p gs) t arrived.0 order) arrived.1);
      way = subst IsWay (sym enters) (way_entered gs t (passes_named p fs gs n passes walks.way));
      text = omega (arith, ap frames_text enters, text_entered gs t, last_path_text p gs, step_path_is.1);
      there = walks.there;
      shows = walks.shows;
      sorted = walks.sorted;
      paths = walks.paths;
    }

    pub step_row : spread es (ahead s p fs) ≡ (last_path p hs, v) ∷ spread es (ahead s p hs)
    step_row =
        let first : inside (last_path p gs) es ≡ (last_path p gs, v) ∷ spread es (placed (last_path p gs) (items_in s t)) = inside_target s root es walks.shows walks.sorted (last_path p gs) t v arrived.0 (sym node) order in
        ap (spread es) goes
        ∙ ap (λ l. l ++ spread es (ahead s p gs)) first
        ∙ ap (λ l. (last_path p gs, v) ∷ l) (sym (ap (spread es) ahead_is ∙ flat_map-append (λ (u : Names × Target). inside u.0 es) (placed (last_path p gs) (items_in s t)) (ahead s p gs)))
        ∙ ap (λ (x : Names). (x, v) ∷ spread es (ahead s p hs)) (sym path_kept)

    pub step_text : (k : ℕ) → k ≡ frames_text gs → (k ≡ frames_text hs) × (length (text_below (last_path p hs)) ≡ length (text_below p) + k)
    step_text k is = (omega (arith, is, ap frames_text enters, text_entered gs t), omega (arith, is, ap frames_text enters, text_entered gs t, last_path_text p hs))

    pub step_path : (k : ℕ) → k ≡ length gs → last_path p hs ≡ take (length p + (k - 1)) (last_path p fs) ++ n ∷ []
    step_path k is = path_kept ∙ passes_path p fs gs n passes walks.way ∙ ap (λ (j : ℕ). take (length p + (j - 1)) (last_path p fs) ++ n ∷ []) (sym is)

    pub step_above : (k : ℕ) → k ≡ length gs → length p + (k - 1) + 1 ≡ length (last_path p hs)
    step_above k is = omega (arith, is, ap length path_kept, passes_above p fs gs n passes walks.way)

-- a walk that ended stays one
pub walk_ended : (s : Slots Inode) (root : ℕ) (es : Entries) (p : Names) (fs gs : Frames) → IsWalk s root es p fs → gs ≡ [] → IsWalk s root es p gs
walk_ended s root es p fs gs walks gone = subst (IsWalk s root es p) (sym gone) (record { leads = tt; way = tt; text = omega arith; there = walks.there; shows = walks.shows; sorted = walks.sorted; paths = walks.paths })

-- there is one list of entries
pub same_entries : Coded Node → (s : Slots Inode) (root : ℕ) (a b : Holds s root) → map.entries a.0 ≡ map.entries b.0
same_entries code s root a b = ap (λ (x : Holds s root). map.entries x.0) (Holds-prop code s root a b)

-- ---- the first step

-- past what leads nowhere nothing is
pub walk_off : (e : Table) (d : ℕ) (q r : Names) → walk e d q ≡ None → walk e d (q ++ r) ≡ None
walk_off e d [] r off = absurd (cc)
walk_off e d (n ∷ q) r off = by (e d n) (λ c is. walk_off e c q r is) q off
  where
    by : (o : Option Target) → ((c : ℕ) → walk e c q ≡ None → walk e c (q ++ r) ≡ None) → (ms : Names) → follow o (λ c. walk e c q) ms ≡ None → follow o (λ c. walk e c (q ++ r)) (ms ++ r) ≡ None
    by None rest ms is = refl
    by (Some (target.Inode c)) rest ms is = rest c is
    by (Some target.Whiteout) rest [] is = absurd (cc)
    by (Some target.Whiteout) rest (m ∷ ms) is = refl

module _ (s : Slots Inode) (root : ℕ) (h : Holds s root) (listed : IsListed s root (map.entries h.0)) (p : Names) where
  all_shown : (q : Names) → stands (view_of s) root q ≡ lookup (is_at (path_cmp q)) (map.entries h.0)
  all_shown q = sym (lookup_find path_cmp q (map.entries h.0) ∙ sym (map.get-entries h.0 q) ∙ h.1 q)

  none_inside : walk (entry_at s) root p ≡ None → inside p (map.entries h.0) ≡ []
  unfolding IsStrictlySortedBy
  none_inside off =
      same_lists path_cmp_total path_cmp-IsAntisymmetric (inside p (map.entries h.0)) [] (sorted-filter path_cmp (λ (x : Names × Node). begins p x.0) (map.entries h.0) listed.sorted) tt
      (λ q. lookup-filter path_cmp_total path_cmp-IsAntisymmetric (λ x. begins p x) q (map.entries h.0) ∙ by q (begins p q) refl)
    where
      by : (q : Names) (b : Bool) → begins p q ≡ b → cond b (lookup (is_at (path_cmp q)) (map.entries h.0)) None ≡ None
      by q true is =
          sym (all_shown q) ∙ ap (λ (x : Names). stands (view_of s) root x) (begins_rest p q is) ∙ ap (node_shown (node_at s)) (walk_off (entry_at s) root p (drop (length p) q) off)
      by q false is = refl

  module _ (o : Option Target) (is : walk (entry_at s) root p ≡ o) (order : IsStrictlySortedBy name_cmp (keys_of (items_from s o))) where
    pub first_walk : IsWalk s root (map.entries h.0) p (entered_from o)
    first_walk = record {
      leads = by o is order;
      way = way o;
      text = text o;
      there = listed.there;
      shows = all_shown;
      sorted = listed.sorted;
      paths = listed.paths;
    }
      where
        by : (x : Option Target) → walk (entry_at s) root p ≡ x → IsStrictlySortedBy name_cmp (keys_of (items_from s x)) → AllByRecursion (λ (t : Names × Target). walk (entry_at s) root t.0 ≡ Some t.1) (ahead s p (entered_from x))
        by None e sorted = tt
        by (Some t) e sorted = subst (AllByRecursion (λ (u : Names × Target). walk (entry_at s) root u.0 ≡ Some u.1)) (sym (ahead_entered s p [] t ∙ append-nil (placed p (items_in s t)))) (leads_placed s root p t e sorted)

        text : (x : Option Target) → frames_text (entered_from x) ≤ most_path_bytes
        text None = omega arith
        text (Some target.Whiteout) = omega arith
        text (Some (target.Inode c)) = omega arith

        way : (x : Option Target) → IsWay (entered_from x)
        way None = tt
        way (Some target.Whiteout) = tt
        way (Some (target.Inode c)) = tt

    pub first_text : (fs : Frames) → fs ≡ entered_from o → 0 ≡ frames_text fs
    first_text fs enters = by o ∙ sym (ap frames_text enters)
      where
        by : (x : Option Target) → 0 ≡ frames_text (entered_from x)
        by None = refl
        by (Some target.Whiteout) = refl
        by (Some (target.Inode c)) = refl

    pub first_row : inside p (map.entries h.0) ≡ own p (stands (view_of s) root p) ++ spread (map.entries h.0) (ahead s p (entered_from o))
    first_row = by o is order
      where
        no_node : (x : Option Node) → x ≡ None → IsSome x → ⊥
        no_node x f there = cc

        node : (t : Target) → walk (entry_at s) root p ≡ Some t → (x : Option Node) → node_shown (node_at s) (Some t) ≡ x → IsSome x
        node target.Whiteout e x f = subst IsSome f refl
        node (target.Inode c) e x f = subst IsSome f (listed.there p c e)

        some : (t : Target) → walk (entry_at s) root p ≡ Some t → IsStrictlySortedBy name_cmp (keys_of (items_in s t)) → (x : Option Node) → node_shown (node_at s) (Some t) ≡ x → inside p (map.entries h.0) ≡ own p x ++ spread (map.entries h.0) (ahead s p (frame_of t))
        some t e sorted None f = absurd (no_node None refl (node t e None f))
        some t e sorted (Some v) f =
            inside_target s root (map.entries h.0) all_shown listed.sorted p t v e f sorted
            ∙ ap (λ l. (p, v) ∷ spread (map.entries h.0) l) (sym (ahead_entered s p [] t ∙ append-nil (placed p (items_in s t))))

        by : (x : Option Target) → walk (entry_at s) root p ≡ x → IsStrictlySortedBy name_cmp (keys_of (items_from s x)) → inside p (map.entries h.0) ≡ own p (stands (view_of s) root p) ++ spread (map.entries h.0) (ahead s p (entered_from x))
        by None e sorted = none_inside e ∙ sym (ap (λ v. own p (node_shown (node_at s) v) ++ []) e)
        by (Some t) e sorted = some t e sorted (node_shown (node_at s) (Some t)) refl ∙ sym (ap (λ v. own p (node_shown (node_at s) v) ++ spread (map.entries h.0) (ahead s p (frame_of t))) e)
