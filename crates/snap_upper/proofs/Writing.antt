-- A file that is edited.
use Rattle.std.proofs.Common.{◌≡◌, ◌⊎◌, inl, inr, ℕ, ◌+◌, ◌*◌, ◌≤◌, false, List, [], ◌∷◌, length, Option, Some, None, is_some, refl, sym, ap, subst, ◌∙◌, arith, ltb-false}
use Rattle.std.specs.Prelude.{nat_lt, option_and_then}
use Rattle.std.specs.declared.cmp.Ordering.{Ordering}
use Rattle.std.specs.declared.cmp.Ordering.TheVariants.{Less, Equal, Greater}
use Rattle.std.specs.Ordering.{nat_cmp, match_ordering}
use Rattle.std.specs.Cmp.{IsTotalOrder, nat_cmp_total}
use Rattle.std.proofs.lemmas.Cmp.{tied_itself}
use Rattle.std.specs.BTreeMap.{insert_entry}
use Rattle.snap_path.specs.Text.{Names}
use Rattle.snap_layer.specs.declared.content.Content.{Content}
use Rattle.snap_layer.specs.declared.node.Meta.{Meta}
use Rattle.snap_layer.specs.declared.node.Node.{Node}
use Rattle.snap_layer.specs.declared.node.Node.TheVariants.{Dir, File, Symlink, Whiteout}
use Rattle.snap_layer.specs.declared.node.Body.{Body}
use Rattle.snap_layer.specs.declared.node.Body.TheVariants as body_kinds
use Rattle.snap_layer.specs.Tree.{Tree, Entries, Bodies, path_cmp, at, body, number_at, number_of}
use Rattle.snap_layer.specs.Counts.{inode_count, block_count, blocks_of, body_blocks, most_inodes, most_file_blocks}
use Rattle.snap_layer.specs.Layers.{IsLayer, IsFile, IsSymlink}
use Rattle.snap_layer.specs.Edits.{with_entry, with_node, with_new, with_body, with_filled}
use Rattle.snap_layer.proofs.Bounds.{blocks_of_bodies}
use Rattle.snap_layer.proofs.Paths.{path_cmp_total}
use Rattle.snap_layer.proofs.Counting.{weight_of_body, inode_count-with_body, block_count-with_body}
use Rattle.snap_layer.proofs.Filling.{file_there}
use Rattle.snap_layer.proofs.Kept.{IsLayer-with_body}
use Rattle.snap_layer.proofs.Laws.{Replaces-with_new, SetsBody-with_new}
use Rattle.snap_layer.specs.Contents.{body_content, size_of, IsContent}
use Rattle.snap_merge.specs.Objects.{Object, dir, file, symlink, seen, shown_body}
use Rattle.snap_merge.specs.Walk.{walk_error}
use Rattle.snap_merge.specs.declared.error.FsError.TheVariants.{TooBig}
use Rattle.snap_merge.proofs.Views.{seen_node}
use Rattle.snap_copyup.specs.declared.parents.Last.TheVariants as last
use Rattle.snap_copyup.specs.Copying.{copied, copied_up, with_object, with_parents}
use Rattle.snap_copyup.specs.Places.{with_last}
use Rattle.snap_copyup.proofs.Alone.{copied_there, copied_missing, below_seen}
use Rattle.snap_copyup.proofs.ParentDirs.{adds_parents}
use Rattle.snap_copyup.proofs.Layers.{no_missing}
use Rattle.snap_upper.specs.declared.op.Op.TheVariants as op
use Rattle.snap_upper.specs.After.{tests, first_error, error_if, most_of, with_content}
use Rattle.snap_upper.proofs.KindErrors.{file_error}
use Rattle.snap_upper.proofs.Outcomes.{test_passes, error_if_passes}

-- the tests of a write have passed
pub record IsWritable (s : List Tree) (p : Names) (offset : ℕ) (bytes : List ℕ) : Type 0 where
  pub way : walk_error s p ≡ None
  pub file : file_error (seen s p) ≡ None
  pub short : offset + length bytes ≤ most_of (seen s p)

short_end : (m n : ℕ) → nat_lt m n ≡ false → n ≤ m
short_end m n e = ltb-false m n e

pub IsWritable-passed : (s : List Tree) (p : Names) (offset : ℕ) (bytes : List ℕ) → first_error (tests (op.Write p offset bytes) s) ≡ None → IsWritable s p offset bytes
IsWritable-passed s p offset bytes passes =
    let last = error_if (nat_lt (most_of (seen s p)) (offset + length bytes)) TooBig in
    let first = test_passes (walk_error s p) (file_error (seen s p) ∷ last ∷ []) passes in
    let second = test_passes (file_error (seen s p)) (last ∷ []) first.1 in
    let third = test_passes last [] second.1 in
    record {
      way = first.0;
      file = second.0;
      short = short_end (most_of (seen s p)) (offset + length bytes) (error_if_passes (nat_lt (most_of (seen s p)) (offset + length bytes)) TooBig third.0);
    }

-- the tests of a truncation have passed
pub record IsSizable (s : List Tree) (p : Names) (size : ℕ) : Type 0 where
  pub way : walk_error s p ≡ None
  pub file : file_error (seen s p) ≡ None
  pub short : size ≤ most_of (seen s p)

pub IsSizable-passed : (s : List Tree) (p : Names) (size : ℕ) → first_error (tests (op.Truncate p size) s) ≡ None → IsSizable s p size
IsSizable-passed s p size passes =
    let last = error_if (nat_lt (most_of (seen s p)) size) TooBig in
    let first = test_passes (walk_error s p) (file_error (seen s p) ∷ last ∷ []) passes in
    let second = test_passes (file_error (seen s p)) (last ∷ []) first.1 in
    let third = test_passes last [] second.1 in
    record {
      way = first.0;
      file = second.0;
      short = short_end (most_of (seen s p)) size (error_if_passes (nat_lt (most_of (seen s p)) size) TooBig third.0);
    }

-- a value put twice under one key
insert_twice : {K X : Type 0} (R : K → K → Ordering) → IsTotalOrder R → (es : List (K × X)) (k : K) (v w : X) → insert_entry R (insert_entry R es k v) k w ≡ insert_entry R es k w
insert_twice R o [] k v w = ap (λ c. match_ordering c ((k, w) ∷ (k, v) ∷ []) ((k, w) ∷ []) ((k, v) ∷ (k, w) ∷ [])) (tied_itself o k)
insert_twice {K = K} {X = X} R o (e ∷ es) k v w = by (insert_twice R o es k v w) (R k e.0) refl
  where
    by : insert_entry R (insert_entry R es k v) k w ≡ insert_entry R es k w → (c : Ordering) → R k e.0 ≡ c → insert_entry R (match_ordering c ((k, v) ∷ e ∷ es) ((e.0, v) ∷ es) (e ∷ insert_entry R es k v)) k w ≡ match_ordering c ((k, w) ∷ e ∷ es) ((e.0, w) ∷ es) (e ∷ insert_entry R es k w)
    by later Less is = ap (λ c. match_ordering c ((k, w) ∷ (k, v) ∷ e ∷ es) ((k, w) ∷ e ∷ es) ((k, v) ∷ insert_entry R (e ∷ es) k w)) (tied_itself o k)
    by later Equal is = ap (λ c. match_ordering c ((k, w) ∷ (e.0, v) ∷ es) ((e.0, w) ∷ es) ((e.0, v) ∷ insert_entry R es k w)) is
    by later Greater is =
        ap (λ c. match_ordering c ((k, w) ∷ e ∷ insert_entry R es k v) ((e.0, w) ∷ insert_entry R es k v) (e ∷ insert_entry R (insert_entry R es k v) k w)) is
        ∙ ap (λ fs. e ∷ fs) later

-- an object put with its old body and then given a new one is the object put with the new body
pub new_with_body : (t : Tree) (p : Names) (n : Node) (old new : Body) → with_body (with_new t p n old) t.next new ≡ with_new t p n new
new_with_body t p n old new =
    ap {B = Tree} (λ (bs : Bodies). record (with_new t p n old) { bodies = bs }) (insert_twice nat_cmp nat_cmp_total (with_node t p n).bodies t.next old new)

pub entry_with_entry : (t : Tree) (p : Names) (old new : Node) → with_entry (with_entry t p old) p new ≡ with_entry t p new
entry_with_entry t p old new = ap {B = Tree} (λ (es : Entries). record t { entries = es }) (insert_twice path_cmp path_cmp_total t.entries p old new)

-- ---- the file at a path

pub seen_file : (o : Option Object) → file_error o ≡ None → (m : Meta) × (old : Content) × (o ≡ Some (file m old))
seen_file None e = absurd (cc)
seen_file (Some (dir m)) e = absurd (cc)
seen_file (Some (file m old)) e = (m, old, refl)
seen_file (Some (symlink target)) e = absurd (cc)

pub body_shown : (o : Option Body) (m : Meta) (old : Content) → shown_body o ≡ Some (file m old) → o ≡ Some (body_kinds.File m old)
body_shown None m old e = absurd (cc)
body_shown (Some (body_kinds.File n content)) m old e =
    let meta : n ≡ m = cc in
    let same : content ≡ old = cc in
    λ i. Some (body_kinds.File (meta i) (same i))
body_shown (Some (body_kinds.Symlink target)) m old e = absurd (cc)

symlink_shown : (o : Option Body) (m : Meta) (old : Content) → IsSymlink o → shown_body o ≡ Some (file m old) → ⊥
symlink_shown None m old is e = is
symlink_shown (Some (body_kinds.File n content)) m old is e = is
symlink_shown (Some (body_kinds.Symlink target)) m old is e = cc

module _ (u : Tree) (ls : List Tree) (p : Names) (m : Meta) (old : Content) (ok : IsLayer u) (was : seen (u ∷ ls) p ≡ Some (file m old)) where
  -- the layer has no node there, or a name of the file
  pub own_or_lower : (at u p ≡ None) ⊎ ((k : ℕ) × (at u p ≡ Some (File k)) × (body u k ≡ Some (body_kinds.File m old)))
  own_or_lower = by (at u p) refl
    where
      by : (o : Option Node) → at u p ≡ o → (at u p ≡ None) ⊎ ((k : ℕ) × (at u p ≡ Some (File k)) × (body u k ≡ Some (body_kinds.File m old)))
      by None e = inl e
      by (Some (File k)) e = inr (k, e, body_shown (body u k) m old (sym (seen_node u ls p (File k) e) ∙ was))
      by (Some (Dir n b)) e = let other = sym (seen_node u ls p (Dir n b) e) ∙ was in absurd (cc)
      by (Some (Symlink k)) e = absurd (symlink_shown (body u k) m old (ok.nodes p (Symlink k) e) (sym (seen_node u ls p (Symlink k) e) ∙ was))
      by (Some Whiteout) e = let other = sym (seen_node u ls p Whiteout e) ∙ was in absurd (cc)

  pub own_file : (k : ℕ) → number_at u p ≡ Some k → (at u p ≡ Some (File k)) × (body u k ≡ Some (body_kinds.File m old))
  own_file k number = elim own_or_lower [
    | inl none ↦ absurd (no_some k (sym (ap (option_and_then number_of) none) ∙ number))
    | inr own ↦
        let same : own.0 ≡ k = some_same own.0 k (sym (ap (option_and_then number_of) own.1) ∙ number) in
        subst (λ j. (at u p ≡ Some (File j)) × (body u j ≡ Some (body_kinds.File m old))) same (own.1, own.2)
  ]
    where
      no_some : (j : ℕ) → None ≡ Some j → ⊥
      no_some j e = cc

      some_same : (i j : ℕ) → Some i ≡ Some j → i ≡ j
      some_same i j e = cc

  pub no_own : number_at u p ≡ None → at u p ≡ None
  no_own number = elim own_or_lower [
    | inl none ↦ none
    | inr own ↦ absurd (no_some own.0 (sym number ∙ ap (option_and_then number_of) own.1))
  ]
    where
      no_some : (j : ℕ) → None ≡ Some j → ⊥
      no_some j e = cc

-- ---- the file with another content

-- the layer has the file
pub own_layer : (t : Tree) (ls : List Tree) (p : Names) (k : ℕ) (m : Meta) (old : Content) (g : Content → Content) → at t p ≡ Some (File k) → body t k ≡ Some (body_kinds.File m old) → with_content (copied t ls p) (number_at (copied t ls p) p) g ≡ with_body t k (body_kinds.File m (g old))
own_layer t ls p k m old g is file_is =
    ap (λ (v : Tree). with_content v (number_at v p) g) (copied_there t ls p (ap is_some is))
    ∙ ap (λ (o : Option ℕ). with_content t o g) (ap (option_and_then number_of) is)
    ∙ ap (λ (o : Option Body). with_filled t k o (g (body_content o))) file_is

-- it is copied up
pub copy_layer : (t : Tree) (ls : List Tree) (p : Names) (m : Meta) (old : Content) (g : Content → Content) → at t p ≡ None → seen (t ∷ ls) p ≡ Some (file m old)
    → with_content (copied t ls p) (number_at (copied t ls p) p) g ≡ with_body (with_new t p (File t.next) (body_kinds.File m old)) t.next (body_kinds.File m (g old))
copy_layer t ls p m old g none was =
    let b = body_kinds.File m old in
    let v = with_new t p (File t.next) b in
    ap (λ (w : Tree). with_content w (number_at w p) g) (copied_missing t ls p none ∙ ap (with_object t p) (sym (below_seen t ls p none) ∙ was))
    ∙ ap (λ (o : Option ℕ). with_content v o g) (ap (option_and_then number_of) (Replaces-with_new t p (File t.next) b).here)
    ∙ ap (λ (o : Option Body). with_filled v t.next o (g (body_content o))) (SetsBody-with_new t p (File t.next) b).here

-- the next layer, where the layer has the file
pub own_filled : (u : Tree) (ls : List Tree) (p : Names) (k : ℕ) (m : Meta) (old : Content) (f : Content → Content) → IsLayer u → at u p ≡ Some (File k) → body u k ≡ Some (body_kinds.File m old)
    → with_content (copied_up u ls p) (number_at (copied_up u ls p) p) f ≡ with_body u k (body_kinds.File m (f old))
own_filled u ls p k m old f ok is file_is =
    ap (λ (t : Tree). with_content (copied t ls p) (number_at (copied t ls p) p) f) (no_missing u ls p ok (ap is_some is))
    ∙ own_layer u ls p k m old f is file_is

-- the next layer, where a lower layer has it
pub copy_filled : (u : Tree) (ls : List Tree) (p : Names) (m : Meta) (old : Content) (f : Content → Content) → walk_error (u ∷ ls) p ≡ None → at u p ≡ None → seen (u ∷ ls) p ≡ Some (file m old)
    → with_content (copied_up u ls p) (number_at (copied_up u ls p) p) f ≡ with_last (last.File m (f old)) (with_parents u ls p) p
copy_filled u ls p m old f way none was =
    let adds = adds_parents u ls p way in
    let t = with_parents u ls p in
    copy_layer t ls p m old f (adds.leaves p (omega arith) ∙ none) (adds.view p ∙ was)
    ∙ new_with_body t p (File t.next) (body_kinds.File m old) (body_kinds.File m (f old))

-- ---- counts

pub record Rewrites (t : Tree) (k : ℕ) (m : Meta) (old new : Content) : Type 0 where
  pub layer : IsLayer (with_body t k (body_kinds.File m new))
  pub inodes : inode_count (with_body t k (body_kinds.File m new)) ≡ inode_count t
  pub blocks : block_count (with_body t k (body_kinds.File m new)) + blocks_of (size_of old) ≡ block_count t + blocks_of (size_of new)

pub rewrites : (t : Tree) (k : ℕ) (m : Meta) (old new : Content) → IsLayer t → body t k ≡ Some (body_kinds.File m old) → IsContent new → Rewrites t k m old new
rewrites t k m old new ok is short =
    let there = file_there t ok k m old is in
    let b = body_kinds.File m new in
    record {
      layer = IsLayer-with_body t k b ok there ((subst IsFile is there).0, short);
      inodes = inode_count-with_body t k b ok.sorted_numbers (ap is_some is);
      blocks = omega (arith, block_count-with_body t k b ok.sorted_numbers, ap (weight_of_body body_blocks) is);
    }

-- a layer's blocks are few
pub few_blocks : (t : Tree) → IsLayer t → block_count t ≤ most_inodes + most_inodes * most_file_blocks
few_blocks t ok = omega (arith, ok.few, ok.most.1, blocks_of_bodies t ok)
