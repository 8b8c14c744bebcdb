-- What a move does to a layer: what is found after it, what is counted, and that it leaves a layer.
use Rattle.std.proofs.Common.{◌≡◌, ℕ, ◌+◌, Bool, true, false, cond, not, List, [], ◌∷◌, ◌++◌, length, drop, Option, Some, None, IsSome, refl, sym, ap, subst, ◌∙◌, ◌⊎◌, inl, inr, arith, append_assoc, append-nil}
use Rattle.std.specs.Prelude.{map, option_and_then, if◌then◌else◌}
use Rattle.std.specs.Option.{option_or}
use Rattle.std.specs.Ordering.{nat_cmp}
use Rattle.std.specs.List.{sum_by}
use Rattle.std.specs.List.Sorted.{IsStrictlySortedBy}
use Rattle.std.specs.Map.{lookup, keys_of, values_of}
use Rattle.std.specs.BTreeMap.{is_at}
use Rattle.std.proofs.lemmas.Bool.{cond-true, cond-false}
use Rattle.std.proofs.lemmas.List.Sums.{sum_by-cons}
use Rattle.std.proofs.lemmas.Map.Entries.{sum_by-insert_entry}
use Rattle.snap_path.specs.Text.{Names, IsPath, begins}
use Rattle.snap_layer.specs.declared.node.Node.{Node}
use Rattle.snap_layer.specs.declared.node.Node.TheVariants.{Dir, File, Symlink, Whiteout}
use Rattle.snap_layer.specs.Tree.{Tree, Entries, path_cmp, at, body, number_of, number_at, has_number, IsDirAt}
use Rattle.snap_layer.specs.Counts.{dir_count, whiteout_count, name_count, inode_count, block_count}
use Rattle.snap_layer.specs.Layers.{IsFile, IsSymlink, IsWhole, IsLayer}
use Rattle.snap_layer.specs.Edits.{with_entry, without, outside, inside, relocated, relocate, put_all, moved, with_moved, HasParent}
use Rattle.snap_layer.proofs.Lists.{at_itself, apart_from, lookup-insert_entry, lookup_below, sorted-filter, sorted-insert_entry, sum_by-filter}
use Rattle.snap_layer.proofs.Paths.{path_cmp_total, path_cmp-IsAntisymmetric, begins_rest, begins-append, begins_from, begins_itself, split_front, append-cancel, begins_snoc}
use Rattle.snap_layer.proofs.Looks.{split_path, at-with_entry, at-without, at-without_outside, at-without_inside}
use Rattle.snap_layer.proofs.Counting.{dirs, whites, weight, inodes_of, inode_count-with_entry, block_count-with_entry, name_count-insert_entry}

no_bool : true ≡ false → ⊥
no_bool e = cc

-- nothing stands at the path or below it
abbrev pub IsVacant : Tree → Names → Type 0
IsVacant t p = (q : Names) → begins p q ≡ true → at t q ≡ None

-- the entries at the path and below it under their new paths
abbrev pub relocated_entries : Names → Names → Entries → Entries
relocated_entries from to es = map (relocate from to) (inside from es)

-- ---- fronts

-- two fronts of one path: one begins with the other
pub fronts_of_one : (a b r s : Names) → a ++ r ≡ b ++ s → (begins a b ≡ true) ⊎ (begins b a ≡ true)
fronts_of_one [] b r s e = inl (begins-append [] b)
fronts_of_one (x ∷ a) [] r s e = inr (begins-append [] (x ∷ a))
fronts_of_one (x ∷ a) (y ∷ b) r s e =
    let head : x ≡ y = cc in
    let tail : a ++ r ≡ b ++ s = cc in
    elim (fronts_of_one a b r s tail) [
      | inl f ↦ inl (begins_from (x ∷ a) (y ∷ b) (drop (length a) b) (λ i. sym head i ∷ begins_rest a b f i))
      | inr f ↦ inr (begins_from (y ∷ b) (x ∷ a) (drop (length b) a) (λ i. head i ∷ begins_rest b a f i))
    ]

-- where neither of two paths begins with the other, what lies below one does not begin with the other
pub apart_below : (a b r : Names) → begins a b ≡ false → begins b a ≡ false → begins a (b ++ r) ≡ false
apart_below a b r e f = elim (split_front a (b ++ r)) [
  | inl is ↦ absurd (elim (fronts_of_one a b is.1 r (sym is.2)) [ inl g ↦ no_bool (sym g ∙ e) | inr g ↦ no_bool (sym g ∙ f) ])
  | inr other ↦ other.0
]

-- what is no front of a path is none of its parent
pub not_of_parent : (front q : Names) (n : List ℕ) → begins front (q ++ n ∷ []) ≡ false → begins front q ≡ false
not_of_parent front q n e = elim (split_front front q) [
  | inl is ↦ absurd (no_bool (sym (begins_from front (q ++ n ∷ []) (is.1 ++ n ∷ []) (ap (λ (x : Names). x ++ n ∷ []) is.2 ∙ append_assoc front is.1 (n ∷ []))) ∙ e))
  | inr other ↦ other.0
]

-- a path does not begin with one that has a name more
pub not_longer : (q : Names) (n : List ℕ) → begins (q ++ n ∷ []) q ≡ false
not_longer q n = elim (split_front (q ++ n ∷ []) q) [
  | inl is ↦ absurd (longer (append-cancel q [] (n ∷ is.1) (append-nil q ∙ is.2 ∙ append_assoc q (n ∷ []) is.1)))
  | inr other ↦ other.0
]
  where
    longer : {r : Names} → [] ≡ n ∷ r → ⊥
    longer e = cc

-- the root begins with no other path
pub not_of_root : (p : Names) → (p ≡ [] → ⊥) → begins p [] ≡ false
not_of_root [] apart = absurd (apart refl)
not_of_root (n ∷ p) apart = elim (split_front (n ∷ p) []) [ inl is ↦ absurd (cc) | inr other ↦ other.0 ]

-- what does not begin a path is not the root
pub not_root : (front p : Names) → begins front p ≡ false → front ≡ [] → ⊥
not_root front p e root = no_bool (sym (begins_from front p p (ap (λ (x : Names). x ++ p) (sym root))) ∙ e)

-- ---- the order of the paths

-- entries put one by one among entries in order leave them in order
pub sorted-put_all : (new es : Entries) → IsStrictlySortedBy path_cmp (keys_of es) → IsStrictlySortedBy path_cmp (keys_of (put_all new es))
sorted-put_all [] es sorted = sorted
sorted-put_all (e ∷ new) es sorted = sorted-insert_entry path_cmp_total (put_all new es) e.0 e.1 (sorted-put_all new es sorted)

-- a move leaves the paths in order
pub sorted-moved : (t : Tree) (from to : Names) → IsStrictlySortedBy path_cmp (keys_of t.entries) → IsStrictlySortedBy path_cmp (keys_of (moved t from to).entries)
sorted-moved t from to sorted = sorted-put_all (relocated_entries from to t.entries) (outside from t.entries) (sorted-filter path_cmp (λ e. not (begins from e.0)) t.entries sorted)

-- a taken path leaves the others in order
pub sorted-without : (t : Tree) (p : Names) → IsStrictlySortedBy path_cmp (keys_of t.entries) → IsStrictlySortedBy path_cmp (keys_of (without t p).entries)
sorted-without t p sorted = sorted-filter path_cmp (λ e. not (begins p e.0)) t.entries sorted

-- a move in place of what stands there leaves the paths in order
pub sorted-with_moved : (t : Tree) (from to : Names) (leaves : Bool) → IsStrictlySortedBy path_cmp (keys_of t.entries) → IsStrictlySortedBy path_cmp (keys_of (with_moved t from to leaves).entries)
sorted-with_moved t from to true sorted = sorted-insert_entry path_cmp_total (moved (without t to) from to).entries from Whiteout (sorted-moved (without t to) from to (sorted-without t to sorted))
sorted-with_moved t from to false sorted = sorted-moved (without t to) from to (sorted-without t to sorted)

-- ---- what is found after a move

-- two paths below one front test as equal exactly where the same names below another do
is_at-append : (a b r s : Names) → is_at (path_cmp (a ++ r)) (a ++ s) ≡ is_at (path_cmp (b ++ r)) (b ++ s)
is_at-append a b r s = elim (split_path (a ++ r) (a ++ s)) [
  | inl same ↦ same.1 ∙ sym (subst (λ z. is_at (path_cmp (b ++ r)) (b ++ z) ≡ true) (append-cancel a r s same.0) (at_itself path_cmp_total path_cmp-IsAntisymmetric (b ++ r)))
  | inr apart ↦ apart.1 ∙ sym (apart_from path_cmp_total path_cmp-IsAntisymmetric (b ++ r) (b ++ s) (λ e. apart.0 (ap (λ (x : Names). a ++ x) (append-cancel b s r e))))
]

-- a relocated entry is found under its new path
pub lookup-relocated : (from to r : Names) (es : Entries) → lookup (is_at (path_cmp (to ++ r))) (relocated_entries from to es) ≡ lookup (is_at (path_cmp (from ++ r))) es
lookup-relocated from to r [] = refl
lookup-relocated from to r (e ∷ es) = by (begins from e.0) refl (lookup-relocated from to r es)
  where
    tests : begins from e.0 ≡ true → is_at (path_cmp (to ++ r)) (relocated from to e.0) ≡ is_at (path_cmp (from ++ r)) e.0
    tests is = is_at-append to from r (drop (length from) e.0) ∙ ap (is_at (path_cmp (from ++ r))) (sym (begins_rest from e.0 is))

    by : (b : Bool) → begins from e.0 ≡ b → lookup (is_at (path_cmp (to ++ r))) (relocated_entries from to es) ≡ lookup (is_at (path_cmp (from ++ r))) es
        → lookup (is_at (path_cmp (to ++ r))) (map (relocate from to) (cond b (e ∷ inside from es) (inside from es))) ≡ cond (is_at (path_cmp (from ++ r)) e.0) (Some e.1) (lookup (is_at (path_cmp (from ++ r))) es)
    by true is later = ap (λ b. cond b (Some e.1) (lookup (is_at (path_cmp (to ++ r))) (relocated_entries from to es))) (tests is) ∙ ap (λ l. cond (is_at (path_cmp (from ++ r)) e.0) (Some e.1) l) later
    by false is later = later ∙ sym (cond-false _ _ _ (apart_from path_cmp_total path_cmp-IsAntisymmetric (from ++ r) e.0 (λ same. no_bool (sym (begins_from from e.0 r same) ∙ is))))

-- no relocated entry is found elsewhere
pub lookup-relocated_else : (from to q : Names) (es : Entries) → begins to q ≡ false → lookup (is_at (path_cmp q)) (relocated_entries from to es) ≡ None
lookup-relocated_else from to q [] not_to = refl
lookup-relocated_else from to q (e ∷ es) not_to = by (begins from e.0) (lookup-relocated_else from to q es not_to)
  where
    by : (b : Bool) → lookup (is_at (path_cmp q)) (relocated_entries from to es) ≡ None → lookup (is_at (path_cmp q)) (map (relocate from to) (cond b (e ∷ inside from es) (inside from es))) ≡ None
    by true later = cond-false _ _ _ (apart_from path_cmp_total path_cmp-IsAntisymmetric q (relocated from to e.0) (λ same. no_bool (sym (begins_from to q (drop (length from) e.0) (sym same)) ∙ not_to))) ∙ later
    by false later = later

-- among entries put one by one among others, the put ones are found first
pub lookup-put_all : (new es : Entries) (q : Names) → lookup (is_at (path_cmp q)) (put_all new es) ≡ option_or (lookup (is_at (path_cmp q)) new) (lookup (is_at (path_cmp q)) es)
lookup-put_all [] es q = refl
lookup-put_all (e ∷ new) es q = lookup-insert_entry path_cmp_total path_cmp-IsAntisymmetric (put_all new es) e.0 e.1 q ∙ by (is_at (path_cmp q) e.0) (lookup-put_all new es q)
  where
    by : (b : Bool) → lookup (is_at (path_cmp q)) (put_all new es) ≡ option_or (lookup (is_at (path_cmp q)) new) (lookup (is_at (path_cmp q)) es)
        → cond b (Some e.1) (lookup (is_at (path_cmp q)) (put_all new es)) ≡ option_or (cond b (Some e.1) (lookup (is_at (path_cmp q)) new)) (lookup (is_at (path_cmp q)) es)
    by true later = refl
    by false later = later

-- after a move a relocated entry stands at a path, or what stood there outside `from`
pub at-moved : (t : Tree) (from to q : Names) → at (moved t from to) q ≡ option_or (lookup (is_at (path_cmp q)) (relocated_entries from to t.entries)) (cond (begins from q) None (at t q))
at-moved t from to q = lookup-put_all (relocated_entries from to t.entries) (outside from t.entries) q ∙ ap (option_or (lookup (is_at (path_cmp q)) (relocated_entries from to t.entries))) (at-without t from q)

-- below `to` stands what stood below `from`, or else what stood there outside `from`
pub at-moved_over : (t : Tree) (from to r : Names) → at (moved t from to) (to ++ r) ≡ option_or (at t (from ++ r)) (cond (begins from (to ++ r)) None (at t (to ++ r)))
at-moved_over t from to r = at-moved t from to (to ++ r) ∙ ap (λ o. option_or o (cond (begins from (to ++ r)) None (at t (to ++ r)))) (lookup-relocated from to r t.entries)

-- where nothing stood at `to` or below it, there stands what stood at `from` and below it
pub at-moved_below : (t : Tree) (from to r : Names) → IsVacant t to → at (moved t from to) (to ++ r) ≡ at t (from ++ r)
at-moved_below t from to r vacant = at-moved_over t from to r ∙ alone (at t (from ++ r)) (begins from (to ++ r)) (at t (to ++ r)) (vacant (to ++ r) (begins-append to r))
  where
    alone : (o : Option Node) (b : Bool) (l : Option Node) → l ≡ None → option_or o (cond b None l) ≡ o
    alone None true l none = refl
    alone None false l none = none
    alone (Some n) b l none = refl

-- outside `to` nothing stands at `from` or below it any more
pub at-moved_gone : (t : Tree) (from to q : Names) → begins to q ≡ false → begins from q ≡ true → at (moved t from to) q ≡ None
at-moved_gone t from to q not_to gone = at-moved t from to q ∙ ap (λ o. option_or o (cond (begins from q) None (at t q))) (lookup-relocated_else from to q t.entries not_to) ∙ cond-true _ _ _ gone

-- outside `from` and `to` the same stands
pub at-moved_else : (t : Tree) (from to q : Names) → begins to q ≡ false → begins from q ≡ false → at (moved t from to) q ≡ at t q
at-moved_else t from to q not_to stays = at-moved t from to q ∙ ap (λ o. option_or o (cond (begins from q) None (at t q))) (lookup-relocated_else from to q t.entries not_to) ∙ cond-false _ _ _ stays

-- ---- what is found after a move in place of what stood there

-- nothing stands at a path taken, or below it
pub IsVacant-without : (t : Tree) (p : Names) → IsVacant (without t p) p
IsVacant-without t p q below = at-without_inside t p q below

-- the move that is made of the layer without what stands at `to`, before a whiteout is left
abbrev pub replaced : Tree → Names → Names → Tree
replaced t from to = moved (without t to) from to

module _ (t : Tree) (from to : Names) (not_inside : begins from to ≡ false) (not_around : begins to from ≡ false) where
  -- before a whiteout is left, `to` has what `from` had
  replaced_below : (r : Names) → at (replaced t from to) (to ++ r) ≡ at t (from ++ r)
  replaced_below r = at-moved_below (without t to) from to r (IsVacant-without t to) ∙ at-without_outside t to (from ++ r) (apart_below to from r not_around not_inside)

  -- `from` has nothing
  replaced_gone : (r : Names) → at (replaced t from to) (from ++ r) ≡ None
  replaced_gone r = at-moved_gone (without t to) from to (from ++ r) (apart_below to from r not_around not_inside) (begins-append from r)

  -- and the same stands outside both
  replaced_else : (q : Names) → begins from q ≡ false → begins to q ≡ false → at (replaced t from to) q ≡ at t q
  replaced_else q stays not_to = at-moved_else (without t to) from to q not_to stays ∙ at-without_outside t to q not_to

  -- what a whiteout at `from` leaves of the rest
  past : (q : Names) → (from ≡ q → ⊥) → at (with_entry (replaced t from to) from Whiteout) q ≡ at (replaced t from to) q
  past q apart = at-with_entry (replaced t from to) from Whiteout q ∙ cond-false _ _ _ (apart_from path_cmp_total path_cmp-IsAntisymmetric q from apart)

  -- at `to` and below it stands what stood at `from` and below it
  pub at-with_moved_below : (leaves : Bool) (r : Names) → at (with_moved t from to leaves) (to ++ r) ≡ at t (from ++ r)
  at-with_moved_below true r = past (to ++ r) (λ same. no_bool (sym (begins_from to from r same) ∙ not_around)) ∙ replaced_below r
  at-with_moved_below false r = replaced_below r

  -- at `from` stands the whiteout, where one is left, or nothing
  pub at-with_moved_from : (leaves : Bool) → at (with_moved t from to leaves) from ≡ (if leaves then Some Whiteout else None)
  at-with_moved_from true = at-with_entry (replaced t from to) from Whiteout from ∙ cond-true _ _ _ (at_itself path_cmp_total path_cmp-IsAntisymmetric from)
  at-with_moved_from false = at-moved_gone (without t to) from to from not_around (begins_itself from)

  -- below `from` nothing stands any more
  pub at-with_moved_gone : (leaves : Bool) (n : List ℕ) (r : Names) → at (with_moved t from to leaves) (from ++ n ∷ r) ≡ None
  at-with_moved_gone true n r = past (from ++ n ∷ r) (λ same. longer (sym (append-cancel from [] (n ∷ r) (append-nil from ∙ same)))) ∙ replaced_gone (n ∷ r)
    where
      longer : n ∷ r ≡ [] → ⊥
      longer e = cc
  at-with_moved_gone false n r = replaced_gone (n ∷ r)

  -- outside `from` and `to` the same stands
  pub at-with_moved_else : (leaves : Bool) (q : Names) → begins from q ≡ false → begins to q ≡ false → at (with_moved t from to leaves) q ≡ at t q
  at-with_moved_else true q stays not_to = past q (λ same. no_bool (sym (subst (λ x. begins from x ≡ true) same (begins_itself from)) ∙ stays)) ∙ replaced_else q stays not_to
  at-with_moved_else false q stays not_to = replaced_else q stays not_to

-- ---- what is counted

-- entries that are relocated among others, where nothing stands at `to` or below it, count as they did
pub sum_by-put_relocated : (f : Node → ℕ) (from to : Names) (fs es : Entries) → IsStrictlySortedBy path_cmp (keys_of fs) → IsStrictlySortedBy path_cmp (keys_of es) → ((r : Names) → lookup (is_at (path_cmp (to ++ r))) es ≡ None)
    → sum_by f (values_of (put_all (relocated_entries from to fs) es)) ≡ sum_by f (values_of (inside from fs)) + sum_by f (values_of es)
unfolding IsStrictlySortedBy
sum_by-put_relocated f from to [] es rises sorted none = omega arith
sum_by-put_relocated f from to (e ∷ fs) es rises sorted none = by (begins from e.0) refl (sum_by-put_relocated f from to fs es rises.1 sorted none)
  where
    new : Entries
    new = relocated_entries from to fs

    rest : Names
    rest = drop (length from) e.0

    once : begins from e.0 ≡ true → lookup (is_at (path_cmp (to ++ rest))) new ≡ None
    once is = lookup-relocated from to rest fs ∙ ap (λ (p : Names). lookup (is_at (path_cmp p)) fs) (sym (begins_rest from e.0 is)) ∙ lookup_below path_cmp_total path_cmp-IsAntisymmetric e.0 fs rises.0

    absent : begins from e.0 ≡ true → lookup (is_at (path_cmp (to ++ rest))) (put_all new es) ≡ None
    absent is = lookup-put_all new es (to ++ rest) ∙ ap (λ o. option_or o (lookup (is_at (path_cmp (to ++ rest))) es)) (once is) ∙ none rest

    by : (b : Bool) → begins from e.0 ≡ b → sum_by f (values_of (put_all new es)) ≡ sum_by f (values_of (inside from fs)) + sum_by f (values_of es)
        → sum_by f (values_of (put_all (map (relocate from to) (cond b (e ∷ inside from fs) (inside from fs))) es)) ≡ sum_by f (values_of (cond b (e ∷ inside from fs) (inside from fs))) + sum_by f (values_of es)
    by true is later = omega (arith, later, sum_by-insert_entry f path_cmp_total (put_all new es) (to ++ rest) e.1 (sorted-put_all new es sorted), ap (weight f) (absent is), sum_by-cons f e.1 (values_of (inside from fs)))
    by false is later = later

-- a move to where nothing stands leaves each sum over the nodes
pub sum_by-moved : (f : Node → ℕ) (t : Tree) (from to : Names) → IsStrictlySortedBy path_cmp (keys_of t.entries) → IsVacant t to → sum_by f (values_of (moved t from to).entries) ≡ sum_by f (values_of t.entries)
sum_by-moved f t from to sorted vacant =
    sum_by-put_relocated f from to t.entries (outside from t.entries) sorted (sorted-without t from sorted) none ∙ sum_by-filter f (λ e. begins from e.0) t.entries
  where
    either : (b : Bool) (l : Option Node) → l ≡ None → cond b None l ≡ None
    either true l gone = refl
    either false l gone = gone

    none : (r : Names) → lookup (is_at (path_cmp (to ++ r))) (outside from t.entries) ≡ None
    none r = at-without t from (to ++ r) ∙ either (begins from (to ++ r)) (at t (to ++ r)) (vacant (to ++ r) (begins-append to r))

-- a move to where nothing stands leaves the number of directories
pub dir_count-moved : (t : Tree) (from to : Names) → IsStrictlySortedBy path_cmp (keys_of t.entries) → IsVacant t to → dir_count (moved t from to) ≡ dir_count t
dir_count-moved t from to sorted vacant = sum_by-moved dirs t from to sorted vacant

-- it leaves the number of whiteouts
pub whiteout_count-moved : (t : Tree) (from to : Names) → IsStrictlySortedBy path_cmp (keys_of t.entries) → IsVacant t to → whiteout_count (moved t from to) ≡ whiteout_count t
whiteout_count-moved t from to sorted vacant = sum_by-moved whites t from to sorted vacant

-- it leaves the names of each file number
pub name_count-moved : (k : ℕ) (t : Tree) (from to : Names) → IsStrictlySortedBy path_cmp (keys_of t.entries) → IsVacant t to → name_count k (moved t from to).entries ≡ name_count k t.entries
name_count-moved k t from to sorted vacant = sum_by-moved (λ n. cond (has_number k n) 1 0) t from to sorted vacant

-- it leaves the number of inodes
pub inode_count-moved : (t : Tree) (from to : Names) → IsStrictlySortedBy path_cmp (keys_of t.entries) → IsVacant t to → inode_count (moved t from to) ≡ inode_count t
inode_count-moved t from to sorted vacant = omega (arith, dir_count-moved t from to sorted vacant, whiteout_count-moved t from to sorted vacant)

-- it leaves the number of blocks
pub block_count-moved : (t : Tree) (from to : Names) → IsStrictlySortedBy path_cmp (keys_of t.entries) → IsVacant t to → block_count (moved t from to) ≡ block_count t
block_count-moved t from to sorted vacant = omega (arith, dir_count-moved t from to sorted vacant)

-- ---- what is counted after a move in place of what stood there

module _ (t : Tree) (from to : Names) (sorted : IsStrictlySortedBy path_cmp (keys_of t.entries)) where
  -- the paths are in order before a whiteout is left
  replaced_sorted : IsStrictlySortedBy path_cmp (keys_of (replaced t from to).entries)
  replaced_sorted = sorted-moved (without t to) from to (sorted-without t to sorted)

  -- without a whiteout the move leaves the inodes that the layer has without what stood at `to`
  pub inode_count-with_moved : inode_count (with_moved t from to false) ≡ inode_count (without t to)
  inode_count-with_moved = inode_count-moved (without t to) from to (sorted-without t to sorted) (IsVacant-without t to)

  -- the directories that the layer has without what stood at `to`
  replaced_dirs : dir_count (replaced t from to) ≡ dir_count (without t to)
  replaced_dirs = dir_count-moved (without t to) from to (sorted-without t to sorted) (IsVacant-without t to)

  -- the names of a file number that it has without that
  replaced_names : (k : ℕ) → name_count k (replaced t from to).entries ≡ name_count k (without t to).entries
  replaced_names k = name_count-moved k (without t to) from to (sorted-without t to sorted) (IsVacant-without t to)

  module _ (not_around : begins to from ≡ false) where
    -- nothing stands at `from` before a whiteout is left
    nothing : at (replaced t from to) from ≡ None
    nothing = at-moved_gone (without t to) from to from not_around (begins_itself from)

    -- the whiteout that is left is one inode more
    pub inode_count-with_moved_whiteout : inode_count (with_moved t from to true) ≡ inode_count (without t to) + 1
    inode_count-with_moved_whiteout = omega (arith, inode_count-with_entry (replaced t from to) from Whiteout replaced_sorted, ap inodes_of nothing, inode_count-with_moved)

    -- the move leaves the blocks that the layer has without what stood at `to`: a whiteout takes none
    pub block_count-with_moved : (leaves : Bool) → block_count (with_moved t from to leaves) ≡ block_count (without t to)
    block_count-with_moved true = omega (arith, block_count-with_entry (replaced t from to) from Whiteout replaced_sorted, ap (weight dirs) nothing, replaced_dirs)
    block_count-with_moved false = block_count-moved (without t to) from to (sorted-without t to sorted) (IsVacant-without t to)

    -- the move leaves the names of each file number that the layer has without what stood at `to`
    pub name_count-with_moved : (k : ℕ) (leaves : Bool) → name_count k (with_moved t from to leaves).entries ≡ name_count k (without t to).entries
    name_count-with_moved k true = omega (arith, name_count-insert_entry k (replaced t from to).entries from Whiteout replaced_sorted, ap (weight (λ m. cond (has_number k m) 1 0)) nothing, replaced_names k)
    name_count-with_moved k false = replaced_names k

-- ---- a move leaves a layer

-- `Some` is not `None`
no_some : IsSome {T = Node} None → ⊥
no_some e = cc

no_node : {n : Node} → None ≡ Some n → ⊥
no_node e = cc

no_number : {k : ℕ} → None ≡ Some k → ⊥
no_number e = cc

-- whether a node is whole is a matter of the bodies alone
pub same_whole : (t u : Tree) (n : Node) → t.bodies ≡ u.bodies → IsWhole t n → IsWhole u n
same_whole t u (Dir meta opaque) same whole = whole
same_whole t u (File number) same whole = subst (λ bs. IsFile (lookup (is_at (nat_cmp number)) bs)) same whole
same_whole t u (Symlink number) same whole = subst (λ bs. IsSymlink (lookup (is_at (nat_cmp number)) bs)) same whole
same_whole t u Whiteout same whole = tt

-- a path after a move: it lies at or below `to`, and has what the same names below `from` had; or outside both, and has what it had; or has nothing
pub moved_cases : (t : Tree) (from to q : Names) → IsVacant t to
    → ((r : Names) × (q ≡ to ++ r) × (at (moved t from to) q ≡ at t (from ++ r))) ⊎ (((begins to q ≡ false) × (begins from q ≡ false) × (at (moved t from to) q ≡ at t q)) ⊎ (at (moved t from to) q ≡ None))
moved_cases t from to q vacant = elim (split_front to q) [
  | inl below ↦ inl (below.1, below.2, ap (at (moved t from to)) below.2 ∙ at-moved_below t from to below.1 vacant)
  | inr apart ↦ elim (split_front from q) [
    | inl gone ↦ inr (inr (at-moved_gone t from to q apart.0 gone.0))
    | inr stays ↦ inr (inl (apart.0, stays.0, at-moved_else t from to q apart.0 stays.0))
  ]
]

module _ (t : Tree) (from to : Names) (layer : IsLayer t) (vacant : IsVacant t to) where
  -- the root is where it was
  moved_root : (to ≡ [] → ⊥) → begins from to ≡ false → IsDirAt (at (moved t from to) [])
  moved_root below_root not_inside = subst IsDirAt (sym (at-moved_else t from to [] (not_of_root to below_root) (not_of_root from (not_root from to not_inside)))) layer.root

  -- the parent of `to` is where it was
  top_parent : (q : Names) (n : List ℕ) → HasParent t to → begins from to ≡ false → to ≡ q ++ n ∷ [] → IsDirAt (at (moved t from to) q)
  top_parent q n place not_inside top =
      let not_to : begins to q ≡ false = subst (λ p. begins p q ≡ false) (sym top) (not_longer q n) in
      let stays : begins from q ≡ false = not_of_parent from q n (subst (λ p. begins from p ≡ false) top not_inside) in
      subst IsDirAt (sym (at-moved_else t from to q not_to stays)) (place.parent q n top)

  -- each other parent at or below `to` has moved with what it holds
  moved_parent : (q : Names) (n : List ℕ) (r : Names) → q ++ n ∷ [] ≡ to ++ r → IsSome (at t (from ++ r)) → begins to q ≡ true → IsDirAt (at (moved t from to) q)
  moved_parent q n r is some below =
      let s = drop (length to) q in
      let front : q ≡ to ++ s = begins_rest to q below in
      let rest : r ≡ s ++ n ∷ [] = append-cancel to r (s ++ n ∷ []) (sym is ∙ ap (λ (x : Names). x ++ n ∷ []) front ∙ append_assoc to s (n ∷ [])) in
      let there : IsSome (at t ((from ++ s) ++ n ∷ [])) = subst (λ p. IsSome (at t p)) (ap (λ (x : Names). from ++ x) rest ∙ sym (append_assoc from s (n ∷ []))) some in
      subst IsDirAt (sym (ap (at (moved t from to)) front ∙ at-moved_below t from to s vacant)) (layer.parents (from ++ s) n there)

  -- each parent is a directory
  moved_parents : HasParent t to → begins from to ≡ false → (q : Names) (n : List ℕ) → IsSome (at (moved t from to) (q ++ n ∷ [])) → IsDirAt (at (moved t from to) q)
  moved_parents place not_inside q n some = elim (moved_cases t from to (q ++ n ∷ []) vacant) [
    | inl moves ↦ elim (begins_snoc to q n (begins_from to (q ++ n ∷ []) moves.0 moves.1)) [
      | inl top ↦ top_parent q n place not_inside top
      | inr below ↦ moved_parent q n moves.0 moves.1 (subst IsSome moves.2 some) below
    ]
    | inr other ↦ elim other [
      | inl stays ↦ subst IsDirAt (sym (at-moved_else t from to q (not_of_parent to q n stays.0) (not_of_parent from q n stays.1))) (layer.parents q n (subst IsSome stays.2 some))
      | inr gone ↦ absurd (no_some (subst IsSome gone some))
    ]
  ]

  -- each path is valid
  moved_paths : ((r : Names) → IsSome (at t (from ++ r)) → IsPath (to ++ r)) → (q : Names) → IsSome (at (moved t from to) q) → IsPath q
  moved_paths fits q some = elim (moved_cases t from to q vacant) [
    | inl moves ↦ subst IsPath (sym moves.1) (fits moves.0 (subst IsSome moves.2 some))
    | inr other ↦ elim other [ inl stays ↦ layer.paths q (subst IsSome stays.2 some) | inr gone ↦ absurd (no_some (subst IsSome gone some)) ]
  ]

  -- each node is whole
  moved_nodes : (q : Names) (n : Node) → at (moved t from to) q ≡ Some n → IsWhole (moved t from to) n
  moved_nodes q n is = same_whole t (moved t from to) n refl (elim (moved_cases t from to q vacant) [
    | inl moves ↦ layer.nodes (from ++ moves.0) n (sym moves.2 ∙ is)
    | inr other ↦ elim other [ inl stays ↦ layer.nodes q n (sym stays.2 ∙ is) | inr gone ↦ absurd (no_node (sym gone ∙ is)) ]
  ])

  -- each body has a name
  moved_names : (k : ℕ) → IsSome (body t k) → (q : Names) × (number_at (moved t from to) q ≡ Some k)
  moved_names k some =
      let was = layer.named k some in
      elim (split_front from was.0) [
        | inl below ↦ (to ++ below.1, ap (option_and_then number_of) (at-moved_below t from to below.1 vacant) ∙ ap (number_at t) (sym below.2) ∙ was.1)
        | inr stays ↦ elim (split_front to was.0) [
          | inl there ↦ absurd (no_number (sym (ap (option_and_then number_of) (vacant was.0 there.0)) ∙ was.1))
          | inr not_to ↦ (was.0, ap (option_and_then number_of) (at-moved_else t from to was.0 not_to.0 stays.0) ∙ was.1)
        ]
      ]

-- a move to a free place in a directory, not below `from`, leaves a layer, where each new path is valid
pub IsLayer-moved : (t : Tree) (from to : Names) → IsLayer t → HasParent t to → IsVacant t to → begins from to ≡ false → ((r : Names) → IsSome (at t (from ++ r)) → IsPath (to ++ r)) → IsLayer (moved t from to)
IsLayer-moved t from to layer place vacant not_inside fits = record {
  root = moved_root t from to layer vacant place.below_root not_inside;
  parents = moved_parents t from to layer vacant place not_inside;
  paths = moved_paths t from to layer vacant fits;
  nodes = moved_nodes t from to layer vacant;
  named = moved_names t from to layer vacant;
  numbers = layer.numbers;
  next = layer.next;
  few = omega (arith, layer.few, inode_count-moved t from to layer.sorted_paths vacant);
  most = layer.most;
  sorted_paths = sorted-moved t from to layer.sorted_paths;
  sorted_numbers = layer.sorted_numbers;
}

-- a path taken leaves its parent where it was
pub HasParent-without : (t : Tree) (p : Names) → HasParent t p → HasParent (without t p) p
HasParent-without t p place = record {
  below_root = place.below_root;
  parent = λ q n is. subst IsDirAt (sym (at-without_outside t p q (subst (λ x. begins x q ≡ false) (sym is) (not_longer q n)))) (place.parent q n is);
}

-- where taking what stands at `to` leaves a layer, so does the move in its place, before a whiteout is left
pub IsLayer-replaced : (t : Tree) (from to : Names) → IsLayer (without t to) → HasParent t to → begins from to ≡ false → begins to from ≡ false → ((r : Names) → IsSome (at t (from ++ r)) → IsPath (to ++ r)) → IsLayer (moved (without t to) from to)
IsLayer-replaced t from to layer place not_inside not_around fits =
    IsLayer-moved (without t to) from to layer (HasParent-without t to place) (IsVacant-without t to) not_inside (λ r some. fits r (subst IsSome (at-without_outside t to (from ++ r) (apart_below to from r not_around not_inside)) some))

-- a move keeps the most inodes
pub most_moved : (t : Tree) (from to : Names) (leaves : Bool) → (with_moved t from to leaves).most ≡ t.most
most_moved t from to true = refl
most_moved t from to false = refl
