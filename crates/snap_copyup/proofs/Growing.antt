-- What is added takes inodes.
use Rattle.std.proofs.Common.{◌≡◌, ℕ, ◌+◌, ◌<◌, ◌≤◌, Bool, true, false, not, List, [], ◌∷◌, ◌++◌, length, Option, Some, None, is_some, refl, sym, ap, subst, ◌∙◌, arith, append-nil, append_assoc, length-append, take, drop}
use Rattle.std.specs.Prelude.{option_and_then, if◌then◌else◌}
use Rattle.std.specs.Ordering.{nat_cmp}
use Rattle.std.specs.List.Sorted.{IsStrictlySortedBy}
use Rattle.std.specs.Map.{lookup, keys_of}
use Rattle.std.specs.BTreeMap.{is_at, insert_entry}
use Rattle.std.proofs.lemmas.List.{at_drop_more, at_drop_all, take_more}
use Rattle.snap_path.specs.Text.{Names, text_below, begins}
use Rattle.snap_layer.specs.declared.node.Meta.{Meta}
use Rattle.snap_layer.specs.declared.node.Node.{Node}
use Rattle.snap_layer.specs.declared.node.Node.TheVariants as node
use Rattle.snap_layer.specs.declared.node.Body.{Body}
use Rattle.snap_layer.specs.declared.node.Body.TheVariants as body_kinds
use Rattle.snap_layer.specs.Tree.{Tree, Bodies, IsDirAt, at, has_number, number_of, path_cmp}
use Rattle.snap_layer.specs.Counts.{inode_count, block_count, name_count}
use Rattle.snap_layer.specs.Layers.{IsLayer}
use Rattle.snap_layer.specs.Edits.{with_entry, with_new, without, outside, bodies_without}
use Rattle.snap_layer.proofs.Lists.{sorted-filter}
use Rattle.snap_layer.proofs.Paths.{begins_rest}
use Rattle.snap_layer.proofs.Looks.{at-without, same_tree}
use Rattle.snap_layer.proofs.Counting.{inodes_of, weight, dirs, inode_count-with_entry, block_count-with_entry, name_count-insert_entry, length-insert_new}
use Rattle.snap_layer.proofs.Kept.{next_is_fresh, nothing_below}
use Rattle.snap_layer.proofs.Laws.{sorted-with_entry}
use Rattle.snap_merge.specs.Objects.{Object, dir, file, symlink, seen, is_shown_dir}
use Rattle.snap_merge.specs.Walk.{walk_error, walk_from}
use Rattle.snap_merge.proofs.Views.{walk_same}
use Rattle.snap_copyup.specs.declared.parents.Last.{Last}
use Rattle.snap_copyup.specs.declared.parents.Last.TheVariants.{Nothing, Dir, File, Symlink, Whiteout}
use Rattle.snap_copyup.specs.Copying.{below, copied, with_object, with_parents_from, with_parents}
use Rattle.snap_copyup.specs.Places.{with_last, TakesMore}
use Rattle.snap_copyup.proofs.Missing.{missing_from}
use Rattle.snap_copyup.proofs.Alone.{walk_passes, below_seen}
use Rattle.snap_copyup.proofs.ParentDirs.{AddsParents, dir_copied}

-- ---- directories

-- where two layers have the same at each directory, the same are missing
pub missing_same : (u v : Tree) (front rest : Names) → ((a : Names) (n : List ℕ) (b : Names) → rest ≡ a ++ n ∷ b → at v (front ++ a) ≡ at u (front ++ a)) → missing_from v front rest ≡ missing_from u front rest
missing_same u v front [] same = refl
missing_same u v front (n ∷ rest) same =
    let here : at v front ≡ at u front = subst (λ (q : Names). at v q ≡ at u q) (append-nil front) (same [] n rest refl) in
    let later = missing_same u v (front ++ n ∷ []) rest (λ a m b is. subst (λ (q : Names). at v q ≡ at u q) (sym (append_assoc front (n ∷ []) a)) (same (n ∷ a) m b (λ i. n ∷ is i))) in
    λ i. (if is_some (here i) then 0 else 1) + later i

-- where each directory stands, none is missing
pub missing_none : (t : Tree) (front rest : Names) → ((a : Names) (n : List ℕ) (b : Names) → rest ≡ a ++ n ∷ b → is_some (at t (front ++ a)) ≡ true) → missing_from t front rest ≡ 0
missing_none t front [] stands = refl
missing_none t front (n ∷ rest) stands =
    let here : is_some (at t front) ≡ true = subst (λ (q : Names). is_some (at t q) ≡ true) (append-nil front) (stands [] n rest refl) in
    let later = missing_none t (front ++ n ∷ []) rest (λ a m b is. subst (λ (q : Names). is_some (at t q) ≡ true) (sym (append_assoc front (n ∷ []) a)) (stands (n ∷ a) m b (λ i. n ∷ is i))) in
    λ i. (if here i then 0 else 1) + later i

-- those of a path are those of its front and those further on
pub missing_split : (t : Tree) (front a b : Names) → missing_from t front (a ++ b) ≡ missing_from t front a + missing_from t (front ++ a) b
missing_split t front [] b = omega (arith, ap (λ (q : Names). missing_from t q b) (append-nil front))
missing_split t front (n ∷ a) b =
    let later = missing_split t (front ++ n ∷ []) a b in
    omega (arith, later, ap (λ (q : Names). missing_from t q b) (append_assoc front (n ∷ []) a))

-- the layer t has this number of directories more than u and no other names, and its paths rise
pub record Grows (u t : Tree) (n : ℕ) : Type 0 where
  pub sorted : IsStrictlySortedBy path_cmp (keys_of t.entries)
  pub inodes : inode_count t ≡ inode_count u + n
  pub blocks : block_count t ≡ block_count u + n
  pub names : (k : ℕ) → name_count k t.entries ≡ name_count k u.entries

one_more : (u : Tree) (p : Names) (n : Node) (i : ℕ) → IsStrictlySortedBy path_cmp (keys_of u.entries) → at u p ≡ None → inodes_of (Some n) ≡ i → inode_count (with_entry u p n) ≡ inode_count u + i
one_more u p n i sorted none is = omega (arith, inode_count-with_entry u p n sorted, ap inodes_of none, is)

one_block : (u : Tree) (p : Names) (meta : Meta) → IsStrictlySortedBy path_cmp (keys_of u.entries) → at u p ≡ None → block_count (with_entry u p (node.Dir meta false)) ≡ block_count u + 1
one_block u p meta sorted none = omega (arith, block_count-with_entry u p (node.Dir meta false) sorted, ap (weight dirs) none)

no_names : (u : Tree) (p : Names) (meta : Meta) (k : ℕ) → IsStrictlySortedBy path_cmp (keys_of u.entries) → at u p ≡ None → name_count k (with_entry u p (node.Dir meta false)).entries ≡ name_count k u.entries
no_names u p meta k sorted none = omega (arith, name_count-insert_entry k u.entries p (node.Dir meta false) sorted, ap (weight (λ m. if has_number k m then 1 else 0)) none)

grows_none : (u : Tree) → IsStrictlySortedBy path_cmp (keys_of u.entries) → Grows u u 0
grows_none u sorted = record { sorted = sorted; inodes = omega arith; blocks = omega arith; names = λ k. refl }

pub grows_once : (u : Tree) (ls : List Tree) (p : Names) → IsStrictlySortedBy path_cmp (keys_of u.entries) → is_shown_dir (seen (u ∷ ls) p) ≡ true → Grows u (copied u ls p) (if is_some (at u p) then 0 else 1)
grows_once u ls p sorted is = by (at u p) refl
  where
    seen_as : (o : Option Object) → at u p ≡ None → is_shown_dir o ≡ true → Grows u (with_object u p o) 1
    seen_as None none is = absurd (cc)
    seen_as (Some (dir meta)) none is = record {
      sorted = sorted-with_entry u p (node.Dir meta false) sorted;
      inodes = one_more u p (node.Dir meta false) 1 sorted none refl;
      blocks = one_block u p meta sorted none;
      names = λ k. no_names u p meta k sorted none;
    }
    seen_as (Some (file k b)) none is = absurd (cc)
    seen_as (Some (symlink b)) none is = absurd (cc)

    by : (o : Option Node) → at u p ≡ o → Grows u (if is_some (at u p) then u else with_object u p (below u ls p)) (if is_some (at u p) then 0 else 1)
    by (Some n) e = subst (λ b. Grows u (if b then u else with_object u p (below u ls p)) (if b then 0 else 1)) (sym (ap is_some e)) (grows_none u sorted)
    by None e = subst (λ b. Grows u (if b then u else with_object u p (below u ls p)) (if b then 0 else 1)) (sym (ap is_some e)) (seen_as (below u ls p) e (sym (ap is_shown_dir (below_seen u ls p e)) ∙ is))

pub grows_from : (u : Tree) (ls : List Tree) (front rest : Names) → IsStrictlySortedBy path_cmp (keys_of u.entries) → walk_from (u ∷ ls) front rest ≡ None → Grows u (with_parents_from u ls front rest) (missing_from u front rest)
grows_from u ls front [] sorted way = grows_none u sorted
grows_from u ls front (n ∷ rest) sorted way =
    let passes = walk_passes (seen (u ∷ ls) front) (walk_from (u ∷ ls) (front ++ n ∷ []) rest) way in
    let once = grows_once u ls front sorted passes.0 in
    let adds = dir_copied u ls front (length front + 1) passes.0 (omega arith) in
    let later = grows_from (copied u ls front) ls (front ++ n ∷ []) rest once.sorted (walk_same (u ∷ ls) (copied u ls front ∷ ls) adds.view (front ++ n ∷ []) rest ∙ passes.1) in
    let same = missing_same u (copied u ls front) (front ++ n ∷ []) rest (λ a m b is. adds.leaves ((front ++ n ∷ []) ++ a) (omega (arith, length-append (front ++ n ∷ []) a, length-append front (n ∷ [])))) in
    record { sorted = later.sorted; inodes = omega (arith, once.inodes, later.inodes, same); blocks = omega (arith, once.blocks, later.blocks, same); names = λ k. later.names k ∙ once.names k }

-- the directories that a path lacks are those that are added
pub takes_missing : (u : Tree) (ls : List Tree) (p : Names) → IsLayer u → walk_error (u ∷ ls) p ≡ None → TakesMore (missing_from u [] p) u (with_parents u ls p)
takes_missing u ls p ok way = let grows = grows_from u ls [] p ok.sorted_paths way in (grows.inodes, grows.blocks)

-- ---- a path has at most 4095 names

pub few_names : (p : Names) → length p ≤ length (text_below p)
few_names [] = omega arith
few_names (n ∷ p) = omega (arith, few_names p, length-append n (text_below p))

-- ---- one name further

-- the directory there is missing or not
pub missing_more : (u : Tree) (p : Names) (k : ℕ) → k < length p → missing_from u (take k p) (drop k p) ≡ (if is_some (at u (take k p)) then 0 else 1) + missing_from u (take (k + 1) p) (drop (k + 1) p)
missing_more u p k lt =
    at_drop_more (missing_from u (take k p)) p k [] lt
    ∙ ap (λ (front : Names). (if is_some (at u (take k p)) then 0 else 1) + missing_from u front (drop (k + 1) p)) (sym (take_more p k [] lt))

-- and the end of the path
pub missing_end : (u : Tree) (p : Names) (k : ℕ) → length p ≤ k → missing_from u (take k p) (drop k p) ≡ 0
missing_end u p k far = at_drop_all (missing_from u (take k p)) p k far

-- ---- what is put last

-- where nothing stands at the path or below it nothing is taken
without_bare : (t : Tree) (p : Names) → IsStrictlySortedBy path_cmp (keys_of t.entries) → ((r : Names) → at t (p ++ r) ≡ None) → without t p ≡ t
without_bare t p sorted bare =
    same_tree (without t p) t
    (sorted-filter path_cmp (λ e. not (begins p e.0)) t.entries sorted)
    sorted
    (λ q. at-without t p q ∙ by q (begins p q) refl)
    (ap (λ o. bodies_without (option_and_then number_of o) (outside p t.entries) t.bodies) (ap (at t) (sym (append-nil p)) ∙ bare []))
    refl
    refl
  where
    by : (q : Names) (b : Bool) → begins p q ≡ b → (if b then None else at t q) ≡ at t q
    by q true e = sym (ap (at t) (begins_rest p q e) ∙ bare (drop (length p) q))
    by q false e = refl

module _ (u t : Tree) (ls : List Tree) (p : Names) (ok : IsLayer u) (none : at u p ≡ None) (adds : AddsParents u t ls (length p)) (sorted : IsStrictlySortedBy path_cmp (keys_of t.entries)) where
  bare : (r : Names) → at t (p ++ r) ≡ None
  bare [] = ap (at t) (append-nil p) ∙ adds.leaves p (omega arith) ∙ none
  bare (n ∷ r) = adds.leaves (p ++ n ∷ r) (omega (arith, length-append p (n ∷ r))) ∙ nothing_below u ok p (λ is. subst IsDirAt none is) n r

  untaken : without t p ≡ t
  untaken = without_bare t p sorted bare

  empty : at t p ≡ None
  empty = ap (at t) (sym (append-nil p)) ∙ bare []

  fresh : lookup (is_at (nat_cmp t.next)) t.bodies ≡ None
  fresh = (λ i. lookup (is_at (nat_cmp (adds.next i))) (adds.bodies i)) ∙ next_is_fresh u ok

  more_bodies : (b : Body) → length (insert_entry nat_cmp t.bodies t.next b) ≡ length t.bodies + 1
  more_bodies b = length-insert_new t.bodies t.next b (subst (λ (bs : Bodies). IsStrictlySortedBy nat_cmp (keys_of bs)) (sym adds.bodies) ok.sorted_numbers) fresh

  pub new_inodes : (n : Node) (b : Body) → inodes_of (Some n) ≡ 0 → inode_count (with_new t p n b) ≡ inode_count t + 1
  new_inodes n b is =
      ap (λ (w : Tree). inode_count (record w { entries = insert_entry path_cmp w.entries p n; bodies = insert_entry nat_cmp w.bodies t.next b; next = t.next + 1 })) untaken
      ∙ omega (arith, one_more t p n 0 sorted empty is, more_bodies b)

  pub last_inodes : (last : Last) → inode_count t ≤ inode_count (with_last last t p)
  last_inodes Nothing = omega arith
  last_inodes (Dir meta opaque) = omega (arith, one_more t p (node.Dir meta opaque) 1 sorted empty refl)
  last_inodes (File meta content) = omega (arith, new_inodes (node.File t.next) (body_kinds.File meta content) refl)
  last_inodes (Symlink target) = omega (arith, new_inodes (node.Symlink t.next) (body_kinds.Symlink target) refl)
  last_inodes Whiteout = omega (arith, one_more t p node.Whiteout 1 sorted empty refl, ap (λ (w : Tree). inode_count (with_entry w p node.Whiteout)) untaken)
