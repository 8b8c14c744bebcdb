-- What a layer takes after a rename: never less than a layer on the way.
use Rattle.std.proofs.Common.{◌≡◌, ◌⊎◌, inl, inr, ℕ, ◌+◌, ◌≤◌, Bool, true, false, cond, List, [], ◌∷◌, ◌++◌, length, drop, Option, Some, None, is_some, not, Result, Ok, Err, IfErr, refl, sym, ap, subst, ◌∙◌, arith, append-nil, length-append}
use Rattle.std.specs.Prelude.{option_and_then, nat_le, ◌&&◌, ◌==◌}
use Rattle.std.specs.Result.{IsErrAnd}
use Rattle.std.specs.List.{sum_by}
use Rattle.std.specs.List.Sorted.{IsStrictlySortedBy}
use Rattle.std.specs.Map.{lookup, keys_of, values_of}
use Rattle.std.specs.BTreeMap.{is_at}
use Rattle.std.specs.Ordering.{nat_cmp}
use Rattle.std.proofs.lemmas.Bool.{cond-true, cond-false}
use Rattle.std.proofs.lemmas.Bool.Decides.{nat_tests}
use Rattle.snap_path.specs.Limits.{most_number}
use Rattle.snap_path.specs.Memory.{no_memory}
use Rattle.snap_path.specs.Text.{Names, begins}
use Rattle.snap_layer.specs.declared.node.Node.{Node}
use Rattle.snap_layer.specs.declared.node.Node.TheVariants.{Dir, File, Symlink, Whiteout}
use Rattle.snap_layer.specs.declared.error.LayerError.{LayerError}
use Rattle.snap_layer.specs.declared.error.LayerError.TheVariants as layer_errors
use Rattle.snap_layer.specs.Tree.{Tree, Entries, Bodies, IsDirAt, path_cmp, at, body, is_dir, is_whiteout, number_at, number_of}
use Rattle.snap_layer.specs.Counts.{inode_count, block_count, is_within, name_count}
use Rattle.snap_layer.specs.Layers.{IsLayer}
use Rattle.snap_layer.specs.Edits.{inside, outside, with_moved, with_opaque, without}
use Rattle.snap_layer.proofs.Lists.{same_lists, lookup-filter, sorted-filter}
use Rattle.snap_layer.proofs.Paths.{path_cmp_total, path_cmp-IsAntisymmetric, begins_itself, begins_rest}
use Rattle.snap_layer.proofs.Looks.{split_path}
use Rattle.snap_layer.proofs.Counting.{dropped, dirs, inodes_of, weight, block_count-with_entry, inode_count-with_entry, inode_count-without}
use Rattle.snap_layer.proofs.Kept.{nothing_below}
use Rattle.snap_layer.proofs.Moves.{most_moved, sorted-with_moved, block_count-with_moved, inode_count-with_moved, inode_count-with_moved_whiteout}
use Rattle.snap_layer.proofs.Replacing.{is_within_yes}
use Rattle.snap_merge.specs.declared.error.FsError.{FsError}
use Rattle.snap_merge.specs.declared.error.FsError.TheVariants.{IsDir, OutOfMemory}
use Rattle.snap_merge.specs.Errors.{OfLayer}
use Rattle.snap_merge.specs.Objects.{Object, dir, file, symlink, seen, is_shown_dir, AreLayers}
use Rattle.snap_copyup.specs.Copying.{below, copied_up, with_parents}
use Rattle.snap_copyup.specs.Places.{IsRefusal}
use Rattle.snap_copyup.proofs.Missing.{missing_from}
use Rattle.snap_copyup.proofs.Alone.{below_seen, dir_seen}
use Rattle.snap_copyup.proofs.ParentDirs.{AddsParents}
use Rattle.snap_copyup.proofs.Growing.{Grows, grows_from}
use Rattle.snap_copyup.proofs.Layers.{no_missing}
use Rattle.snap_copyup.proofs.Wholes.{refused_later}
use Rattle.snap_upper.specs.After.{tests, first_error, after, error_if, kind_error, is_same_name, limited, renamed, before_move, shifted}
use Rattle.snap_upper.specs.declared.op.Op.TheVariants as op
use Rattle.snap_upper.proofs.Most.{most_shifted}
use Rattle.snap_upper.proofs.Outcomes.{after_passes, few_from, limited_fits, layer_fits, refused}
use Rattle.snap_upper.proofs.Movable.{IsRenamable}
use Rattle.snap_upper.proofs.Prepared.{IsCopy, own_copy, longer_out, added, way_after, lower_no_dir, lower_is_copy}

no_bool : true ≡ false → ⊥
no_bool e = cc

none_some : {A : Type 0} {x : A} → None ≡ Some x → ⊥
none_some e = cc

-- ---- a path at which a node stands, and nothing below it

-- the entry of the node, if there is one
abbrev entry_of : Names → Option Node → Entries
entry_of p None = []
entry_of p (Some n) = (p, n) ∷ []

entry_rises : (p : Names) (o : Option Node) → IsStrictlySortedBy path_cmp (keys_of (entry_of p o))
unfolding IsStrictlySortedBy
entry_rises p None = tt
entry_rises p (Some n) = (tt, tt)

entry_found : (p q : Names) (o : Option Node) → is_at (path_cmp q) p ≡ true → o ≡ lookup (is_at (path_cmp q)) (entry_of p o)
entry_found p q None e = refl
entry_found p q (Some n) e = sym (ap (λ b. cond b (Some n) None) e)

entry_apart : (p q : Names) (o : Option Node) → is_at (path_cmp q) p ≡ false → None ≡ lookup (is_at (path_cmp q)) (entry_of p o)
entry_apart p q None e = refl
entry_apart p q (Some n) e = sym (ap (λ b. cond b (Some n) None) e)

module _ (t : Tree) (p : Names) (sorted : IsStrictlySortedBy path_cmp (keys_of t.entries)) (bare : (n : List ℕ) (r : Names) → at t (p ++ n ∷ r) ≡ None) where
  alone : inside p t.entries ≡ entry_of p (at t p)
  alone = same_lists path_cmp_total path_cmp-IsAntisymmetric (inside p t.entries) (entry_of p (at t p)) (sorted-filter path_cmp (λ e. begins p e.0) t.entries sorted) (entry_rises p (at t p)) (λ q. lookup-filter path_cmp_total path_cmp-IsAntisymmetric (λ x. begins p x) q t.entries ∙ same q)
    where
      beyond : (q : Names) → (p ≡ q → ⊥) → (b : Bool) → begins p q ≡ b → cond b (at t q) None ≡ None
      beyond q apart false e = refl
      beyond q apart true e = rest (drop (length p) q) (begins_rest p q e)
        where
          rest : (r : Names) → q ≡ p ++ r → at t q ≡ None
          rest [] is = absurd (apart (sym (is ∙ append-nil p)))
          rest (n ∷ r) is = ap (at t) is ∙ bare n r

      same : (q : Names) → cond (begins p q) (at t q) None ≡ lookup (is_at (path_cmp q)) (entry_of p (at t p))
      same q = elim (split_path q p) [
        | inl one ↦
            ap (λ (x : Names). cond (begins p x) (at t x) None) one.0
            ∙ ap (λ b. cond b (at t p) None) (begins_itself p)
            ∙ entry_found p q (at t p) one.1
        | inr two ↦ beyond q two.0 (begins p q) refl ∙ entry_apart p q (at t p) two.1
      ]

  dropped_few : (o : Option ℕ) (es : Entries) → dropped o es ≤ 1
  dropped_few None es = omega arith
  dropped_few (Some k) es = by (name_count k es == 0)
    where
      by : (b : Bool) → ◌≤◌ (cond b 1 0) 1
      by true = omega arith
      by false = omega arith

  -- the directories and the whiteouts that stand there
  dirs_there : (o : Option Node) → at t p ≡ o → sum_by (λ n. cond (is_dir n) 1 0) (values_of (inside p t.entries)) ≡ sum_by (λ n. cond (is_dir n) 1 0) (values_of (entry_of p o))
  dirs_there o e = ap (λ (es : Entries). sum_by (λ n. cond (is_dir n) 1 0) (values_of es)) (alone ∙ ap (entry_of p) e)

  whiteouts_there : (o : Option Node) → at t p ≡ o → sum_by (λ n. cond (is_whiteout n) 1 0) (values_of (inside p t.entries)) ≡ sum_by (λ n. cond (is_whiteout n) 1 0) (values_of (entry_of p o))
  whiteouts_there o e = ap (λ (es : Entries). sum_by (λ n. cond (is_whiteout n) 1 0) (values_of es)) (alone ∙ ap (entry_of p) e)

  dropped_there : (o : Option Node) → at t p ≡ o → dropped (number_at t p) (outside p t.entries) ≡ dropped (option_and_then number_of o) (outside p t.entries)
  dropped_there o e = ap (λ (x : Option Node). dropped (option_and_then number_of x) (outside p t.entries)) e

  -- it takes an inode at most, and nothing takes none
  pub taken : (o : Option Node) → at t p ≡ o → ((k : ℕ) → number_at t p ≡ Some k → is_some (body t k) ≡ true) → inode_count t ≤ inode_count (without t p) + (cond (is_some o) 1 0)
  taken None e bodies = omega (arith, inode_count-without t p bodies, dirs_there None e, whiteouts_there None e, dropped_there None e)
  taken (Some (Dir m b)) e bodies = omega (arith, inode_count-without t p bodies, dirs_there (Some (Dir m b)) e, whiteouts_there (Some (Dir m b)) e, dropped_there (Some (Dir m b)) e)
  taken (Some (File k)) e bodies = omega (arith, inode_count-without t p bodies, dirs_there (Some (File k)) e, whiteouts_there (Some (File k)) e, dropped_there (Some (File k)) e, dropped_few (Some k) (outside p t.entries))
  taken (Some (Symlink k)) e bodies = omega (arith, inode_count-without t p bodies, dirs_there (Some (Symlink k)) e, whiteouts_there (Some (Symlink k)) e, dropped_there (Some (Symlink k)) e, dropped_few (Some k) (outside p t.entries))
  taken (Some Whiteout) e bodies = omega (arith, inode_count-without t p bodies, dirs_there (Some Whiteout) e, whiteouts_there (Some Whiteout) e, dropped_there (Some Whiteout) e)

-- ---- the limits

pub last_from : (t : Tree) → is_within t ≡ true → t.next ≤ most_number
last_from t within = by (nat_le (inode_count t) t.most) within
  where
    by : (b : Bool) → (b && nat_le t.next most_number) ≡ true → t.next ≤ most_number
    by true e = grind (arith, nat_tests)
    by false e = absurd (no_bool (sym e))

-- a layer with no fewer inodes, the same next number and the same most inodes passes the limits too
pub full_more : (t f : Tree) → inode_count t ≤ inode_count f → f.next ≡ t.next → f.most ≡ t.most → is_within t ≡ false → is_within f ≡ false
full_more t f more next most full = by (is_within f) refl
  where
    by : (b : Bool) → is_within f ≡ b → is_within f ≡ false
    by false e = e
    by true e = absurd (no_bool (sym (is_within_yes t (omega (arith, more, most, few_from f e)) (omega (arith, next, last_from f e))) ∙ full))

-- why a move was not made is why a layer with the same limits was not
pub move_refused : {A : Type 0} (r : Result A FsError) (x : LayerError) (v f : Tree) → IsErrAnd r (λ e. OfLayer x e) → (x ≡ layer_errors.LayerFull → is_within v ≡ false) → (is_within v ≡ false → is_within f ≡ false) → IfErr r (λ e. IsRefusal f e)
move_refused (Ok y) x v f of full same = absurd of
move_refused (Err e) layer_errors.LayerFull v f of full same = inr (of, same (full refl))
move_refused (Err e) (layer_errors.OutOfMemory want) v f of full same = inl of

-- why a layer was not made is the outcome's error, where that is the layer
pub refused_same : {A : Type 0} (r : Result A FsError) (x : FsError) (t f : Tree) → IsErrAnd r (λ e. e ≡ x) → t ≡ f → IsRefusal t x → IfErr r (λ e. (e ≡ OutOfMemory no_memory) ⊎ (limited f ≡ Err e))
refused_same (Ok y) x t f is same refusal = absurd is
refused_same (Err e) x t f is same refusal = refused f e (subst (λ (z : Tree). IsRefusal z e) same (subst (λ (y : FsError). IsRefusal t y) (sym is) refusal))

-- why it was not made is why the last one was not, where it is an earlier one that would pass the limits too, or the last one
pub either_refused : (e : FsError) (t v f : Tree) → (is_within t ≡ false → is_within f ≡ false) → v ≡ f → IsRefusal t e ⊎ IsRefusal v e → IsRefusal f e
either_refused e t v f full same (inl first) = refused_later e t f full first
either_refused e t v f full same (inr last) = subst (λ (z : Tree). IsRefusal z e) same last

-- the first one was not made
pub refused_first : {A : Type 0} (r : Result A FsError) (x : FsError) (t v : Tree) → IsErrAnd r (λ e. e ≡ x) → IsRefusal t x → IfErr r (λ e. IsRefusal t e ⊎ IsRefusal v e)
refused_first (Ok y) x t v is refusal = absurd is
refused_first (Err e) x t v is refusal = inl (subst (λ (y : FsError). IsRefusal t y) (sym is) refusal)

-- ---- the layer after the move

pub opaque_inodes : (t : Tree) (p : Names) → IsStrictlySortedBy path_cmp (keys_of t.entries) → inode_count (with_opaque t p (at t p) true) ≡ inode_count t
opaque_inodes t p sorted = by (at t p) refl
  where
    by : (o : Option Node) → at t p ≡ o → inode_count (with_opaque t p o true) ≡ inode_count t
    by None e = refl
    by (Some (Dir m b)) e = omega (arith, inode_count-with_entry t p (Dir m true) sorted, ap inodes_of e)
    by (Some (File k)) e = refl
    by (Some (Symlink k)) e = refl
    by (Some Whiteout) e = refl

pub opaque_blocks : (t : Tree) (p : Names) → IsStrictlySortedBy path_cmp (keys_of t.entries) → block_count (with_opaque t p (at t p) true) ≡ block_count t
opaque_blocks t p sorted = by (at t p) refl
  where
    by : (o : Option Node) → at t p ≡ o → block_count (with_opaque t p o true) ≡ block_count t
    by None e = refl
    by (Some (Dir m b)) e = omega (arith, block_count-with_entry t p (Dir m true) sorted, ap (weight dirs) e)
    by (Some (File k)) e = refl
    by (Some (Symlink k)) e = refl
    by (Some Whiteout) e = refl

opaque_next : (t : Tree) (p : Names) (o : Option Node) → (with_opaque t p o true).next ≡ t.next
opaque_next t p None = refl
opaque_next t p (Some (Dir m b)) = refl
opaque_next t p (Some (File k)) = refl
opaque_next t p (Some (Symlink k)) = refl
opaque_next t p (Some Whiteout) = refl

moved_next : (t : Tree) (from to : Names) (leaves : Bool) → (with_moved t from to leaves).next ≡ t.next
moved_next t from to true = refl
moved_next t from to false = refl

module _ (t : Tree) (from to : Names) (sorted : IsStrictlySortedBy path_cmp (keys_of t.entries)) where
  -- the mark counts nothing
  marked_inodes : (leaves covers : Bool) → inode_count (shifted t from to leaves covers) ≡ inode_count (with_moved t from to leaves)
  marked_inodes leaves true = opaque_inodes (with_moved t from to leaves) to (sorted-with_moved t from to leaves sorted)
  marked_inodes leaves false = refl

  pub shifted_next : (leaves covers : Bool) → (shifted t from to leaves covers).next ≡ t.next
  shifted_next leaves true = opaque_next (with_moved t from to leaves) to (at (with_moved t from to leaves) to) ∙ moved_next t from to leaves
  shifted_next leaves false = moved_next t from to leaves

  -- so it leaves the layer within the limits or beyond them
  pub shifted_full : (leaves covers : Bool) → is_within (with_moved t from to leaves) ≡ false → is_within (shifted t from to leaves covers) ≡ false
  shifted_full leaves covers full = full_more (with_moved t from to leaves) (shifted t from to leaves covers) (omega (arith, marked_inodes leaves covers)) (shifted_next leaves covers ∙ sym (moved_next t from to leaves)) (most_shifted t from to leaves covers ∙ sym (most_moved t from to leaves)) full

  -- what stands at `to` goes, and a whiteout is left or none
  pub shifted_inodes : begins to from ≡ false → (leaves covers : Bool) → inode_count (shifted t from to leaves covers) ≡ inode_count (without t to) + (cond leaves 1 0)
  shifted_inodes apart true covers = marked_inodes true covers ∙ inode_count-with_moved_whiteout t from to sorted apart
  shifted_inodes apart false covers = omega (arith, marked_inodes false covers, inode_count-with_moved t from to sorted)

  pub shifted_blocks : begins to from ≡ false → (leaves covers : Bool) → block_count (shifted t from to leaves covers) ≡ block_count (without t to)
  shifted_blocks apart leaves true = opaque_blocks (with_moved t from to leaves) to (sorted-with_moved t from to leaves sorted) ∙ block_count-with_moved t from to sorted apart leaves
  shifted_blocks apart leaves false = block_count-with_moved t from to sorted apart leaves

-- ---- the layers on the way

no_dir_replaced : (moved target : Option Object) → kind_error moved target ≡ None → is_shown_dir moved ≡ false → is_shown_dir target ≡ false
no_dir_replaced moved None kinds other = refl
no_dir_replaced moved (Some (dir m)) kinds other = absurd (none_left (is_shown_dir moved) kinds other)
  where
    none_left : (b : Bool) → error_if (not b) IsDir ≡ None → b ≡ false → ⊥
    none_left true kinds other = no_bool other
    none_left false kinds other = cc
no_dir_replaced moved (Some (file m b)) kinds other = refl
no_dir_replaced moved (Some (symlink b)) kinds other = refl

module _ (u : Tree) (ls : List Tree) (from to : Names) (ok : IsLayer u) (layers : AreLayers ls) (is : IsRenamable u ls from to) where
  abbrev v : Tree
  v = copied_up u ls from

  abbrev t : Tree
  t = before_move u ls from to

  copied_sorted : IsStrictlySortedBy path_cmp (keys_of (copied_up u ls from).entries)
  copied_sorted = by (at u from) refl
    where
      by : (o : Option Node) → at u from ≡ o → IsStrictlySortedBy path_cmp (keys_of (copied_up u ls from).entries)
      by (Some n) e = subst (λ (x : Tree). IsStrictlySortedBy path_cmp (keys_of x.entries)) (sym (own_copy u ls from ok (ap is_some e))) ok.sorted_paths
      by None e = (lower_is_copy u ls from to ok layers is e).sorted

  grows : Grows (copied_up u ls from) (before_move u ls from to) (missing_from (copied_up u ls from) [] to)
  grows = grows_from v ls [] to copied_sorted (way_after u ls from to ok layers is)

  pub prepared_sorted : IsStrictlySortedBy path_cmp (keys_of (before_move u ls from to).entries)
  prepared_sorted = grows.sorted

  adds : AddsParents (copied_up u ls from) (before_move u ls from to) ls (length to)
  adds = added u ls from to ok layers is

  -- where it takes no less than the layer before the move, it passes the limits with it
  passes_too : inode_count (before_move u ls from to) ≤ inode_count (without (before_move u ls from to) to) + (cond (is_some (below u ls from)) 1 0) → is_within (before_move u ls from to) ≡ false → is_within (renamed u ls from to) ≡ false
  passes_too more full =
      full_more t (renamed u ls from to) (omega (arith, more, shifted_inodes t from to grows.sorted is.not_around (is_some (below u ls from)) (is_some (below u ls to))))
      (shifted_next t from to grows.sorted (is_some (below u ls from)) (is_some (below u ls to))) (most_shifted t from to (is_some (below u ls from)) (is_some (below u ls to))) full

  below_to : (n : List ℕ) (r : Names) → at v (to ++ n ∷ r) ≡ None → at t (to ++ n ∷ r) ≡ None
  below_to n r none = adds.leaves (to ++ n ∷ r) (omega (arith, length-append to (n ∷ r))) ∙ none

  -- the layer has what is seen at `from`: where it has a node at `to` too, nothing is added, and else nothing is taken
  own_full : is_some (at u from) ≡ true → is_within (before_move u ls from to) ≡ false → is_within (renamed u ls from to) ≡ false
  own_full some full = by (at u to) refl
    where
      same : copied_up u ls from ≡ u
      same = own_copy u ls from ok some

      by : (o : Option Node) → at u to ≡ o → is_within (renamed u ls from to) ≡ false
      by (Some n) e =
          let unchanged : before_move u ls from to ≡ u = ap (λ (x : Tree). with_parents x ls to) same ∙ no_missing u ls to ok (ap is_some e) in
          absurd (no_bool (sym (layer_fits u ok) ∙ ap is_within (sym unchanged) ∙ full))
      by None e =
          let none : at t to ≡ None = adds.leaves to (omega arith) ∙ ap (λ (x : Tree). at x to) same ∙ e in
          let few = taken t to grows.sorted (λ n r. below_to n r (ap (λ (x : Tree). at x (to ++ n ∷ r)) same ∙ nothing_below u ok to (λ d. subst IsDirAt e d) n r)) None none (λ k number. absurd (none_number none number)) in
          passes_too (omega (arith, few)) full
        where
          none_number : {k : ℕ} → at t to ≡ None → number_at t to ≡ Some k → ⊥
          none_number none number = none_some (sym (ap (option_and_then number_of) none) ∙ number)

  -- a lower file at `from` leaves a whiteout, and at `to` is one inode at most
  lower_full : at u from ≡ None → is_within (before_move u ls from to) ≡ false → is_within (renamed u ls from to) ≡ false
  lower_full none full =
      passes_too (omega (arith, taken t to grows.sorted (λ n r. below_to n r (nothing n r)) (at t to) refl bodies, at_most (is_some (at t to)), ap {B = ℕ} (λ b. cond b 1 0) leaves)) full
    where
      copy : IsCopy u (copied_up u ls from) from
      copy = lower_is_copy u ls from to ok layers is none

      leaves : is_some (below u ls from) ≡ true
      leaves = sym (ap is_some (below_seen u ls from none)) ∙ is.there

      at_most : (b : Bool) → ◌≤◌ (cond b 1 0) 1
      at_most true = omega arith
      at_most false = omega arith

      no_dir : IsDirAt (at u to) → ⊥
      no_dir d = no_bool (sym (dir_seen u ls to d) ∙ no_dir_replaced (seen (u ∷ ls) from) (seen (u ∷ ls) to) is.kinds (lower_no_dir u ls from to ok layers is none))

      nothing : (n : List ℕ) (r : Names) → at (copied_up u ls from) (to ++ n ∷ r) ≡ None
      nothing n r = copy.beside (to ++ n ∷ r) (longer_out to from (n ∷ r) is.not_around) ∙ nothing_below u ok to no_dir n r

      bodies : (k : ℕ) → number_at (before_move u ls from to) to ≡ Some k → is_some (body (before_move u ls from to) k) ≡ true
      bodies k number = ap (λ (bs : Bodies). is_some (lookup (is_at (nat_cmp k)) bs)) adds.bodies ∙ copy.bodies to k is.not_around (sym (adds.numbers to) ∙ number)

  -- where the layer before the move passes the limits, so does the one after it
  pub prepared_full : is_within (before_move u ls from to) ≡ false → is_within (renamed u ls from to) ≡ false
  prepared_full full = by (at u from) refl
    where
      by : (o : Option Node) → at u from ≡ o → is_within (renamed u ls from to) ≡ false
      by (Some n) e = own_full (ap is_some e) full
      by None e = lower_full e full

-- ---- outcomes

-- a rename without a fault that has nothing to do leaves the layer
pub stays_after : (u : Tree) (ls : List Tree) (from to : Names) → IsLayer u → first_error (tests (op.Rename from to) (u ∷ ls)) ≡ None → is_same_name u from to ≡ true → after (op.Rename from to) u ls ≡ Ok u
stays_after u ls from to ok passes same = after_passes (op.Rename from to) u ls passes ∙ ap limited (cond-true (is_same_name u from to) u (renamed u ls from to) same) ∙ limited_fits u (layer_fits u ok)

-- one that has something to do is done, where it is within the limits
pub moves_after : (u : Tree) (ls : List Tree) (from to : Names) → first_error (tests (op.Rename from to) (u ∷ ls)) ≡ None → is_same_name u from to ≡ false → limited (renamed u ls from to) ≡ after (op.Rename from to) u ls
moves_after u ls from to passes other = sym (after_passes (op.Rename from to) u ls passes ∙ ap limited (cond-false (is_same_name u from to) u (renamed u ls from to) other))
