-- What was added is taken back.
use Rattle.std.proofs.Common.{◌≡◌, ℕ, zero, suc, ◌+◌, ◌<◌, ◌≤◌, Bool, true, false, cond, List, [], ◌∷◌, ◌++◌, length, take, drop, get_or, Option, Some, None, is_some, refl, sym, ap, subst, ◌∙◌, arith, append_assoc, append-nil, length-append, add-one}
use Rattle.std.specs.Prelude.{option_and_then, not}
use Rattle.std.specs.List.Sorted.{IsStrictlySortedBy}
use Rattle.std.specs.Map.{keys_of}
use Rattle.std.proofs.lemmas.List.{at_drop_more, take_more, take-append-drop}
use Rattle.snap_layer.proofs.Replacing.{is_within_many}
use Rattle.snap_path.specs.Text.{Names, begins}
use Rattle.snap_layer.specs.declared.node.Meta.{Meta}
use Rattle.snap_layer.specs.declared.node.Node.{Node}
use Rattle.snap_layer.specs.declared.node.Node.TheVariants as node
use Rattle.snap_layer.specs.Tree.{Tree, IsDirAt, path_cmp, at, number_at, number_of}
use Rattle.snap_layer.specs.Counts.{is_within}
use Rattle.snap_layer.specs.Layers.{IsLayer}
use Rattle.snap_layer.specs.Edits.{with_entry, without, outside, bodies_without, IsFree, IsTakeable, HasParent}
use Rattle.snap_layer.proofs.Lists.{sorted-filter}
use Rattle.snap_layer.proofs.Paths.{begins_rest, begins_itself}
use Rattle.snap_layer.proofs.Looks.{Sets, Sets-with_entry, at-without, same_tree}
use Rattle.snap_layer.proofs.Kept.{dir_above, nothing_below}
use Rattle.snap_layer.proofs.Laws.{sorted-with_entry}
use Rattle.snap_merge.specs.Objects.{Object, dir, file, symlink, seen, is_shown_dir}
use Rattle.snap_merge.specs.declared.error.FsError.{FsError}
use Rattle.snap_merge.specs.Walk.{walk_error, walk_from, walk_on}
use Rattle.snap_merge.proofs.Views.{walk_same}
use Rattle.snap_copyup.specs.Copying.{below, copied, with_object, with_parents, with_parents_from}
use Rattle.snap_copyup.specs.Undoing.{Undoes}
use Rattle.snap_copyup.proofs.Most.{most_parents}
use Rattle.snap_copyup.proofs.Alone.{walk_passes, below_seen, copied_there, copied_missing, some_dir}
use Rattle.snap_copyup.proofs.ParentDirs.{AddsParents, adds_parents}
use Rattle.snap_copyup.proofs.Growing.{grows_from}
use Rattle.snap_copyup.proofs.Steps.{many_from}

no_bool : true ≡ false → ⊥
no_bool e = cc

-- ---- paths that are taken

pub undoes_more : (ps : List Names) (p : Names) (v m u : Tree) → Undoes ps v m → IsTakeable m p → without m p ≡ u → Undoes (ps ++ p ∷ []) v u
undoes_more [] p v m u same takeable back = (subst (λ (t : Tree). IsTakeable t p) (sym same) takeable, ap (λ (t : Tree). without t p) same ∙ back)
undoes_more (q ∷ ps) p v m u undoes takeable back = (undoes.0, undoes_more ps p (without v q) m u undoes.1 takeable back)

-- ---- the directories above a front of a path

walk_on_dir : (o : Option Object) (later : Option FsError) → is_shown_dir o ≡ true → later ≡ None → walk_on o later ≡ None
walk_on_dir None later is none = absurd (cc)
walk_on_dir (Some (dir meta)) later is none = none
walk_on_dir (Some (file meta content)) later is none = absurd (cc)
walk_on_dir (Some (symlink target)) later is none = absurd (cc)

-- a walk passes each front, and goes on from there
pub walk_split : (s : List Tree) (front a b : Names) → walk_from s front (a ++ b) ≡ None → (walk_from s front a ≡ None) × (walk_from s (front ++ a) b ≡ None)
walk_split s front [] b way = (refl, subst (λ (q : Names). walk_from s q b ≡ None) (sym (append-nil front)) way)
walk_split s front (n ∷ a) b way =
    let passes = walk_passes (seen s front) (walk_from s (front ++ n ∷ []) (a ++ b)) way in
    let later = walk_split s (front ++ n ∷ []) a b passes.1 in
    (walk_on_dir (seen s front) (walk_from s (front ++ n ∷ []) a) passes.0 later.0, subst (λ (q : Names). walk_from s q b ≡ None) (append_assoc front (n ∷ []) a) later.1)

parents_snoc : (u : Tree) (ls : List Tree) (front rest : Names) (n : List ℕ) → with_parents_from u ls front (rest ++ n ∷ []) ≡ copied (with_parents_from u ls front rest) ls (front ++ rest)
parents_snoc u ls front [] n = ap (copied u ls) (sym (append-nil front))
parents_snoc u ls front (m ∷ rest) n =
    parents_snoc (copied u ls front) ls (front ++ m ∷ []) rest n
    ∙ ap (copied (with_parents_from (copied u ls front) ls (front ++ m ∷ []) rest) ls) (append_assoc front (m ∷ []) rest)

-- an entry without a number, put where nothing stood, and taken again
taken_entry : (t : Tree) (p : Names) (n : Node) → IsStrictlySortedBy path_cmp (keys_of t.entries) → ((r : Names) → at t (p ++ r) ≡ None) → number_of n ≡ None → without (with_entry t p n) p ≡ t
taken_entry t p n sorted vacant unnumbered =
    let u = with_entry t p n in
    let bare : number_at u p ≡ None = ap (option_and_then number_of) (Sets-with_entry t p n).here ∙ unnumbered in
    same_tree (without u p) t
    (sorted-filter path_cmp (λ e. not (begins p e.0)) u.entries (sorted-with_entry t p n sorted))
    sorted
    (λ q. at-without u p q ∙ by q (begins p q) refl)
    (ap (λ o. bodies_without o (outside p u.entries) t.bodies) bare)
    refl
    refl
  where
    by : (q : Names) (b : Bool) → begins p q ≡ b → cond b None (at (with_entry t p n) q) ≡ at t q
    by q true e = sym (ap (at t) (begins_rest p q e) ∙ vacant (drop (length p) q))
    by q false e = (Sets-with_entry t p n).others q (λ same. no_bool (sym (ap (begins p) same ∙ begins_itself p) ∙ e))

module _ (u : Tree) (ls : List Tree) (p : Names) (k : ℕ) (lt : k < length p) (ok : IsLayer u) (way : walk_error (u ∷ ls) p ≡ None) where
  -- the directories above the front, and with the front
  abbrev f : Names
  f = take k p

  abbrev m : Tree
  m = with_parents u ls (take k p)

  parts : (walk_error (u ∷ ls) (take k p) ≡ None) × (walk_from (u ∷ ls) (take k p) (get_or p k [] ∷ drop (k + 1) p) ≡ None)
  parts = walk_split (u ∷ ls) [] (take k p) (get_or p k [] ∷ drop (k + 1) p) (ap (walk_error (u ∷ ls)) (sym (at_drop_more (λ (rest : Names). take k p ++ rest) p k [] lt) ∙ take-append-drop k p) ∙ way)

  shown : is_shown_dir (seen (u ∷ ls) (take k p)) ≡ true
  shown = (walk_passes (seen (u ∷ ls) (take k p)) (walk_from (u ∷ ls) (take k p ++ get_or p k [] ∷ []) (drop (k + 1) p)) parts.1).0

  adds : AddsParents u (with_parents u ls (take k p)) ls (length (take k p))
  adds = adds_parents u ls (take k p) parts.0

  next_is : with_parents u ls (take (k + 1) p) ≡ copied (with_parents u ls (take k p)) ls (take k p)
  next_is = ap (λ (q : Names). with_parents u ls q) (take_more p k [] lt) ∙ parents_snoc u ls [] (take k p) (get_or p k [])

  -- the layer has it
  pub front_there : is_some (at u (take k p)) ≡ true → with_parents u ls (take (k + 1) p) ≡ with_parents u ls (take k p)
  front_there some = next_is ∙ copied_there m ls f (ap is_some (adds.leaves f (omega arith)) ∙ some)

  -- the layer doesn't have it
  module _ (none : at u (take k p) ≡ None) where
    vacant : (r : Names) → at (with_parents u ls (take k p)) (take k p ++ r) ≡ None
    vacant [] = ap (at m) (append-nil f) ∙ adds.leaves f (omega arith) ∙ none
    vacant (n ∷ r) = adds.leaves (f ++ n ∷ r) (omega (arith, length-append f (n ∷ r))) ∙ nothing_below u ok f (λ is. subst IsDirAt none is) n r

    missing_here : at (with_parents u ls (take k p)) (take k p) ≡ None
    missing_here = ap (at m) (sym (append-nil f)) ∙ vacant []

    seen_here : is_shown_dir (seen (with_parents u ls (take k p) ∷ ls) (take k p)) ≡ true
    seen_here = ap is_shown_dir (adds.view f) ∙ shown

    is_dir_with : (meta : Meta) × (copied (with_parents u ls (take k p)) ls (take k p) ≡ with_entry (with_parents u ls (take k p)) (take k p) (node.Dir meta false))
    is_dir_with = by (below m ls f) refl (sym (ap is_shown_dir (below_seen m ls f missing_here)) ∙ seen_here)
      where
        by : (o : Option Object) → below m ls f ≡ o → is_shown_dir o ≡ true → (meta : Meta) × (copied (with_parents u ls (take k p)) ls (take k p) ≡ with_entry (with_parents u ls (take k p)) (take k p) (node.Dir meta false))
        by None e is = absurd (cc)
        by (Some (dir meta)) e is = (meta, copied_missing m ls f missing_here ∙ ap (with_object m f) e)
        by (Some (file meta content)) e is = absurd (cc)
        by (Some (symlink target)) e is = absurd (cc)

    added_is : with_parents u ls (take (k + 1) p) ≡ with_entry (with_parents u ls (take k p)) (take k p) (node.Dir is_dir_with.0 false)
    added_is = next_is ∙ is_dir_with.1

    sets : Sets m (with_entry m f (node.Dir is_dir_with.0 false)) f (Some (node.Dir is_dir_with.0 false))
    sets = Sets-with_entry m f (node.Dir is_dir_with.0 false)

    pub front_takeable : IsTakeable (with_parents u ls (take (k + 1) p)) (take k p)
    front_takeable = subst (λ (t : Tree). IsTakeable t f) (sym added_is) (record {
      there = ap is_some sets.here;
      clear = λ n. subst IsFree (sym (sets.others (f ++ n ∷ []) (λ e. omega (arith, ap length e, length-append f (n ∷ []))) ∙ vacant (n ∷ []))) tt;
      below_root = λ e. subst IsDirAt none (subst (λ (r : Names). IsDirAt (at u r)) (sym e) ok.root);
    })

    pub front_taken : without (with_parents u ls (take (k + 1) p)) (take k p) ≡ with_parents u ls (take k p)
    front_taken = ap (λ (t : Tree). without t f) added_is ∙ taken_entry m f (node.Dir is_dir_with.0 false) (grows_from u ls [] f ok.sorted_paths parts.0).sorted vacant refl

-- where the layer has a node at each path above a front, nothing is added above it
pub fronts_there : (u : Tree) (ls : List Tree) (p : Names) (k : ℕ) → IsLayer u → walk_error (u ∷ ls) p ≡ None → k ≤ length p → ((j : ℕ) → j < k → is_some (at u (take j p)) ≡ true) → with_parents u ls (take k p) ≡ u
fronts_there u ls p zero ok way within there = refl
fronts_there u ls p (suc j) ok way within there =
    subst (λ (k : ℕ). with_parents u ls (take k p) ≡ u) (add-one j)
    (front_there u ls p j (omega (arith, within)) ok way (there j (omega arith)) ∙ fronts_there u ls p j ok way (omega (arith, within)) (λ i less. there i (omega (arith, less))))

-- ---- nothing is missing

there_from : (u : Tree) (ls : List Tree) (q front : Names) (n : List ℕ) → IsLayer u → is_some (at u (front ++ q)) ≡ true → with_parents_from u ls front (q ++ n ∷ []) ≡ u
there_from u ls [] front n ok some = copied_there u ls front (subst (λ (x : Names). is_some (at u x) ≡ true) (append-nil front) some)
there_from u ls (m ∷ q) front n ok some =
    ap (λ (v : Tree). with_parents_from v ls (front ++ m ∷ []) (q ++ n ∷ [])) (copied_there u ls front (some_dir (at u front) (dir_above u ok q front m some)))
    ∙ there_from u ls q (front ++ m ∷ []) n ok (subst (λ (x : Names). is_some (at u x) ≡ true) (sym (append_assoc front (m ∷ []) q)) some)

snoc_of : (x : List ℕ) (xs : Names) → (q : Names) × (n : List ℕ) × (x ∷ xs ≡ q ++ n ∷ [])
snoc_of x [] = ([], x, refl)
snoc_of x (y ∷ ys) = let rest = snoc_of y ys in (x ∷ rest.0, rest.1, λ i. x ∷ rest.2 i)

-- where the parent stands nothing is added
pub parents_there : (u : Tree) (ls : List Tree) (p : Names) → IsLayer u → HasParent u p → with_parents u ls p ≡ u
parents_there u ls [] ok parent = refl
parents_there u ls (x ∷ xs) ok parent =
    let parts = snoc_of x xs in
    ap (λ (p : Names). with_parents u ls p) parts.2 ∙ there_from u ls parts.0 [] parts.1 ok (some_dir (at u parts.0) (parent.parent parts.0 parts.1 parts.2))

-- ---- the directories above two paths

module _ (u : Tree) (ls : List Tree) (p q : Names) (one : walk_error (u ∷ ls) p ≡ None) (other : walk_error (u ∷ ls) q ≡ None) where
  -- the walk to the second path finds no error either, once those above the first are added
  pub second_way : walk_error (with_parents u ls p ∷ ls) q ≡ None
  second_way = walk_same (u ∷ ls) (with_parents u ls p ∷ ls) (adds_parents u ls p one).view [] q ∙ other

  -- where the first pass the limits, all do
  pub both_full : IsLayer u → is_within (with_parents u ls p) ≡ false → is_within (with_parents (with_parents u ls p) ls q) ≡ false
  both_full ok full =
      let v = with_parents u ls p in
      let more = grows_from v ls [] q (grows_from u ls [] p ok.sorted_paths one).sorted second_way in
      is_within_many (with_parents v ls q) (omega (arith, many_from v (omega (arith, (adds_parents u ls p one).next, ok.next.1)) full, more.inodes, most_parents v ls q))
