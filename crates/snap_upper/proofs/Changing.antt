-- What is seen after an operation.
use Rattle.std.proofs.Common.{◌≡◌, ◌⊎◌, inl, inr, ℕ, Bool, true, false, List, [], ◌∷◌, ◌++◌, length, Option, Some, None, is_some, Result, Ok, Err, refl, sym, ap, subst, ◌∙◌, arith}
use Rattle.std.specs.Prelude.{option_and_then, if◌then◌else◌}
use Rattle.std.specs.Option.{option_map}
use Rattle.std.specs.Ordering.{nat_cmp}
use Rattle.std.specs.Map.{lookup}
use Rattle.std.specs.BTreeMap.{is_at}
use Rattle.snap_path.specs.Text.{Names}
use Rattle.snap_layer.specs.declared.node.Meta.{Meta}
use Rattle.snap_layer.specs.declared.node.Node.{Node}
use Rattle.snap_layer.specs.declared.node.Node.TheVariants.{Dir, File, Symlink, Whiteout}
use Rattle.snap_layer.specs.declared.content.Content.{Content}
use Rattle.snap_layer.specs.declared.content.Content.TheVariants.{Bytes, Sized}
use Rattle.snap_layer.specs.declared.node.Body.{Body}
use Rattle.snap_layer.specs.declared.node.Body.TheVariants as body_kinds
use Rattle.snap_layer.specs.Tree.{Tree, Bodies, at, body, number_at, number_of, node_hides}
use Rattle.snap_layer.specs.Counts.{is_within}
use Rattle.snap_layer.specs.Layers.{IsLayer}
use Rattle.snap_layer.specs.Edits.{IsFree, HasMode, with_entry, with_new, with_body, with_mode, with_file_mode, meta_with_mode}
use Rattle.snap_layer.proofs.Setting.{file_body}
use Rattle.snap_layer.proofs.Looks.{Sets-with_entry, SetsBody-with_body}
use Rattle.snap_layer.proofs.Kept.{node_with_number}
use Rattle.snap_layer.proofs.Laws.{Replaces-with_new}
use Rattle.snap_layer.specs.Contents.{written, resized}
use Rattle.snap_merge.specs.Objects.{Object, dir, file, symlink, seen, shown_body, is_shown_dir, AreLayers}
use Rattle.snap_merge.specs.declared.error.FsError.{FsError}
use Rattle.snap_merge.specs.declared.error.FsError.TheVariants.{LayerFull}
use Rattle.snap_merge.proofs.Views.{seen_node, seen_alike}
use Rattle.snap_merge.proofs.Above.{nothing_seen}
use Rattle.snap_upper.specs.declared.op.Op.{Op}
use Rattle.snap_upper.specs.declared.op.Op.TheVariants as op
use Rattle.snap_copyup.specs.Copying.{with_parents, copied_up}
use Rattle.snap_copyup.proofs.Layers.{no_missing}
use Rattle.snap_merge.specs.Walk.{walk_error, unless}
use Rattle.snap_upper.specs.After.{after, tests, first_error, limited, next_layer, is_whiteout_at, with_content}
use Rattle.snap_upper.proofs.KindErrors.{file_error, mode_error}
use Rattle.snap_upper.specs.Changed.{ShowsAt, IsName, Turns, with_file_content, with_object_mode, changed}
use Rattle.snap_copyup.proofs.Alone.{free_unseen, dir_seen}
use Rattle.snap_upper.proofs.Erased.{IsErasable-name, IsErasable-dir, erased_changes}
use Rattle.snap_upper.proofs.Linked.{link_changes}
use Rattle.snap_upper.proofs.Making.{IsNew, IsNew-passed, IsNewSized-passed, IsNewSymlink-passed}
use Rattle.snap_upper.proofs.Modes.{IsSettable-passed, has_mode, own_mode, dir_copy, file_copy}
use Rattle.snap_upper.proofs.Opaque.{opaque_changes}
use Rattle.snap_upper.proofs.Renames.{rename_changes}
use Rattle.snap_upper.proofs.Trees.{IsErasableTree-passed, tree_changes}
use Rattle.snap_upper.proofs.Writing.{IsWritable-passed, IsSizable-passed, seen_file, own_or_lower, own_layer, copy_layer}
use Rattle.snap_copyup.proofs.Elsewhere.{Puts, shown_same, shown_number, seen-put_alike, seen-put_hiding}
use Rattle.snap_copyup.proofs.ParentDirs.{AddsParents, adds_parents}
use Rattle.snap_copyup.proofs.Copies.{not_next, Puts-with_new, new_shown, new_elsewhere}

none_from : (o : Option Object) → is_some o ≡ false → o ≡ None
none_from None e = refl
none_from (Some o) e = absurd (cc)

-- ---- a directory

hides_alike : (o : Option Node) (m : Meta) → IsFree o → node_hides (Some (Dir m (is_whiteout_at o))) ≡ node_hides o
hides_alike None m free = refl
hides_alike (Some (Dir n b)) m free = absurd (cc)
hides_alike (Some (File k)) m free = absurd (cc)
hides_alike (Some (Symlink k)) m free = absurd (cc)
hides_alike (Some Whiteout) m free = refl

mkdir_changes : (u : Tree) (ls : List Tree) (p : Names) (m : ℕ) → IsLayer u → first_error (tests (op.Mkdir p m) (u ∷ ls)) ≡ None
    → ShowsAt (seen (u ∷ ls)) (seen (next_layer (op.Mkdir p m) u ls ∷ ls)) p (Some (dir (record { mode = m })))
mkdir_changes u ls p m ok passes = record {
  here = seen_node v ls p (Dir (record { mode = m }) opaque) (Sets-with_entry t p (Dir (record { mode = m }) opaque)).here;
  others = λ q apart. seen-put_alike t v ls p puts hides q apart ∙ parents.view q;
}
  where
    new : IsNew (u ∷ ls) p m
    new = IsNew-passed (u ∷ ls) p m passes

    opaque : Bool
    opaque = is_whiteout_at (at u p)

    t : Tree
    t = with_parents u ls p

    v : Tree
    v = with_entry (with_parents u ls p) p (Dir (record { mode = m }) (is_whiteout_at (at u p)))

    parents : AddsParents u (with_parents u ls p) ls (length p)
    parents = adds_parents u ls p new.way

    puts : Puts (with_parents u ls p) (with_entry (with_parents u ls p) p (Dir (record { mode = m }) (is_whiteout_at (at u p)))) p
    puts = record { others = λ q apart. (Sets-with_entry t p (Dir (record { mode = m }) opaque)).others q apart; shows = λ q n apart e. shown_same t v n (λ j is. refl) }

    hides : node_hides (at (with_entry (with_parents u ls p) p (Dir (record { mode = m }) (is_whiteout_at (at u p)))) p) ≡ node_hides (at (with_parents u ls p) p)
    hides =
        ap node_hides (Sets-with_entry t p (Dir (record { mode = m }) opaque)).here
        ∙ hides_alike (at u p) (record { mode = m }) (free_unseen u ls p ok new.unseen)
        ∙ sym (ap node_hides (parents.leaves p (omega arith)))

-- ---- a new file

create_changes : (u : Tree) (ls : List Tree) (p : Names) (m : ℕ) → IsLayer u → AreLayers ls → first_error (tests (op.Create p m) (u ∷ ls)) ≡ None
    → ShowsAt (seen (u ∷ ls)) (seen (next_layer (op.Create p m) u ls ∷ ls)) p (Some (file (record { mode = m }) (Bytes [])))
create_changes u ls p m ok layers passes =
    let new = IsNew-passed (u ∷ ls) p m passes in
    let t = with_parents u ls p in
    let parents = adds_parents u ls p new.way in
    let free = free_unseen u ls p ok new.unseen in
    let b = body_kinds.File (record { mode = m }) (Bytes []) in
    record {
      here = new_shown u t ls p ok free parents (File t.next) refl b;
      others = λ q apart. new_elsewhere u t ls p ok free parents (File t.next) refl b layers (ap is_shown_dir (none_from (seen (u ∷ ls) p) new.unseen)) q apart;
    }

-- ---- a new file of a size

put_changes : (u : Tree) (ls : List Tree) (p : Names) (m size : ℕ) (digest : Option (List ℕ)) → IsLayer u → AreLayers ls → first_error (tests (op.Put p m size digest) (u ∷ ls)) ≡ None
    → ShowsAt (seen (u ∷ ls)) (seen (next_layer (op.Put p m size digest) u ls ∷ ls)) p (Some (file (record { mode = m }) (Sized size digest)))
put_changes u ls p m size digest ok layers passes =
    let new = IsNewSized-passed (u ∷ ls) p m size digest passes in
    let t = with_parents u ls p in
    let parents = adds_parents u ls p new.way in
    let free = free_unseen u ls p ok new.unseen in
    let b = body_kinds.File (record { mode = m }) (Sized size digest) in
    record {
      here = new_shown u t ls p ok free parents (File t.next) refl b;
      others = λ q apart. new_elsewhere u t ls p ok free parents (File t.next) refl b layers (ap is_shown_dir (none_from (seen (u ∷ ls) p) new.unseen)) q apart;
    }

-- ---- a file's content

-- the object of a file is turned into that of its new body
abbrev Gives : (Object → Object) → Meta → Content → Meta → Content → Type 0
Gives f m old n new = f (file m old) ≡ file n new

module _ (u t : Tree) (ls : List Tree) (p : Names) (parents : AddsParents u t ls (length p)) (k : ℕ) (m n : Meta) (old new : Content) (f : Object → Object) (gives : Gives f m old n new) (is : at u p ≡ Some (File k)) (file_is : body u k ≡ Some (body_kinds.File m old)) where
  abbrev own : Tree
  own = with_body t k (body_kinds.File n new)

  seen_before : seen (u ∷ ls) p ≡ Some (file m old)
  seen_before = seen_node u ls p (File k) is ∙ ap shown_body file_is

  named : (q : Names) → IsName u p q → number_at u q ≡ Some k
  named q (inl e) = ap (λ (x : Names). number_at u x) e ∙ ap (option_and_then number_of) is
  named q (inr (j, here, there)) =
      let mine : number_at u p ≡ Some k = ap (option_and_then number_of) is in
      let same : j ≡ k = some_same j k (sym here ∙ mine) in
      there ∙ ap (λ (i : ℕ). Some i) same
    where
      some_same : (i j : ℕ) → Some i ≡ Some j → i ≡ j
      some_same i j e = cc

  -- the file has a name in the layer: it changes for all its names there
  own_changes : Turns u (seen (u ∷ ls)) (seen (own ∷ ls)) p f
  own_changes = record {
    here = λ q name.
        let node = node_with_number (at t q) k (parents.numbers q ∙ named q name) in
        seen_node own ls q node.0 node.1
        ∙ shown_number own node.0 k node.2
        ∙ ap shown_body (SetsBody-with_body t k (body_kinds.File n new)).here
        ∙ sym (ap (option_map f) seen_before ∙ ap (λ (o : Object). Some o) gives);
    others = λ q apart.
        seen_alike t own ls q (record {
          here = refl;
          shows = λ node e. shown_same t own node (λ j number. (SetsBody-with_body t k (body_kinds.File n new)).others j (λ same. apart (inr (k, ap (option_and_then number_of) is, sym (parents.numbers q) ∙ ap (option_and_then number_of) e ∙ number ∙ ap (λ (i : ℕ). Some i) same))));
          above = λ r word rest at_r. refl;
        })
        ∙ parents.view q;
  }

module _ (u t : Tree) (ls : List Tree) (p : Names) (ok : IsLayer u) (layers : AreLayers ls) (parents : AddsParents u t ls (length p)) (m n : Meta) (old new : Content) (f : Object → Object) (gives : Gives f m old n new) (none : at u p ≡ None) (was : seen (u ∷ ls) p ≡ Some (file m old)) where
  free : IsFree (at u p)
  free = subst IsFree (sym none) tt

  abbrev made : Tree
  made = with_new t p (File t.next) (body_kinds.File m old)

  abbrev copy : Tree
  copy = with_body (with_new t p (File t.next) (body_kinds.File m old)) t.next (body_kinds.File n new)

  puts_new : Puts t made p
  puts_new = Puts-with_new u t ls p ok free parents (File t.next) refl (body_kinds.File m old)

  puts_copy : Puts t copy p
  puts_copy = record {
    others = λ q apart. puts_new.others q apart;
    shows = λ q node apart e.
        shown_same made copy node (λ j number. (SetsBody-with_body made t.next (body_kinds.File n new)).others j (not_next u t ls p ok free parents (File t.next) refl (body_kinds.File m old) q j (ap (option_and_then number_of) e ∙ number)))
        ∙ puts_new.shows q node apart e;
  }

  name_here : (q : Names) → IsName u p q → q ≡ p
  name_here q (inl e) = e
  name_here q (inr (j, here, there)) = absurd (no_some j (sym here ∙ ap (option_and_then number_of) none))
    where
      no_some : (j : ℕ) → Some j ≡ None → ⊥
      no_some j e = cc

  -- the file is copied up: its other names below are other files now
  copy_changes : Turns u (seen (u ∷ ls)) (seen (copy ∷ ls)) p f
  copy_changes = record {
    here = λ q name.
        ap (seen (copy ∷ ls)) (name_here q name)
        ∙ seen_node copy ls p (File t.next) (Replaces-with_new t p (File t.next) (body_kinds.File m old)).here
        ∙ ap shown_body (SetsBody-with_body made t.next (body_kinds.File n new)).here
        ∙ sym (ap (option_map f) was ∙ ap (λ (o : Object). Some o) gives);
    others = λ q apart.
        seen-put_hiding t copy ls p puts_copy (ap node_hides (Replaces-with_new t p (File t.next) (body_kinds.File m old)).here)
        (λ word r. parents.view (p ++ word ∷ r) ∙ nothing_seen (u ∷ ls) (ok, layers) r p word (ap is_shown_dir was)) q (λ e. apart (inl e))
        ∙ parents.view q;
  }

-- ---- contents

fill_changes : (u : Tree) (ls : List Tree) (p : Names) (g : Content → Content) → IsLayer u → AreLayers ls → walk_error (u ∷ ls) p ≡ None → file_error (seen (u ∷ ls) p) ≡ None
    → Turns u (seen (u ∷ ls)) (seen (with_content (copied_up u ls p) (number_at (copied_up u ls p) p) g ∷ ls)) p (with_file_content g)
fill_changes u ls p g ok layers way regular = let f = seen_file (seen (u ∷ ls) p) regular in by f.0 f.1 f.2
  where
    Goal : Tree → Type 0
    Goal v = Turns u (seen (u ∷ ls)) (seen (v ∷ ls)) p (with_file_content g)

    t : Tree
    t = with_parents u ls p

    parents : AddsParents u (with_parents u ls p) ls (length p)
    parents = adds_parents u ls p way

    by : (m : Meta) (old : Content) → seen (u ∷ ls) p ≡ Some (file m old) → Turns u (seen (u ∷ ls)) (seen (with_content (copied_up u ls p) (number_at (copied_up u ls p) p) g ∷ ls)) p (with_file_content g)
    by m old was = elim (own_or_lower u ls p m old ok was) [
      | inl none ↦ subst Goal (sym (copy_layer t ls p m old g (parents.leaves p (omega arith) ∙ none) (parents.view p ∙ was))) (copy_changes u t ls p ok layers parents m m old (g old) (with_file_content g) refl none was)
      | inr name ↦ subst Goal (sym (own_layer t ls p name.0 m old g (parents.leaves p (omega arith) ∙ name.1) (ap (λ (bs : Bodies). lookup (is_at (nat_cmp name.0)) bs) parents.bodies ∙ name.2))) (own_changes u t ls p parents name.0 m m old (g old) (with_file_content g) refl name.1 name.2)
    ]

-- ---- modes

-- a directory with another mode
entry_changes : (u t : Tree) (ls : List Tree) (p : Names) (m : Meta) (mode : ℕ) (b : Bool) → AddsParents u t ls (length p) → node_hides (Some (Dir (meta_with_mode m mode) b)) ≡ node_hides (at t p) → number_at u p ≡ None → seen (u ∷ ls) p ≡ Some (dir m)
    → Turns u (seen (u ∷ ls)) (seen (with_entry t p (Dir (meta_with_mode m mode) b) ∷ ls)) p (with_object_mode mode)
entry_changes u t ls p m mode b parents hides none was = record {
  here = λ q name.
      ap (seen (v ∷ ls)) (name_here q name)
      ∙ seen_node v ls p (Dir (meta_with_mode m mode) b) (Sets-with_entry t p (Dir (meta_with_mode m mode) b)).here
      ∙ sym (ap (option_map (with_object_mode mode)) was);
  others = λ q apart. seen-put_alike t v ls p puts (ap node_hides (Sets-with_entry t p (Dir (meta_with_mode m mode) b)).here ∙ hides) q (λ e. apart (inl e)) ∙ parents.view q;
}
  where
    v : Tree
    v = with_entry t p (Dir (meta_with_mode m mode) b)

    puts : Puts t (with_entry t p (Dir (meta_with_mode m mode) b)) p
    puts = record { others = λ q apart. (Sets-with_entry t p (Dir (meta_with_mode m mode) b)).others q apart; shows = λ q n apart e. shown_same t (with_entry t p (Dir (meta_with_mode m mode) b)) n (λ j is. refl) }

    no_some : (j : ℕ) → Some j ≡ None → ⊥
    no_some j e = cc

    name_here : (q : Names) → IsName u p q → q ≡ p
    name_here q (inl e) = e
    name_here q (inr (j, here, there)) = absurd (no_some j (sym here ∙ none))

seen_with_mode : (o : Option Object) → mode_error o ≡ None → ((m : Meta) × (o ≡ Some (dir m))) ⊎ ((m : Meta) × (old : Content) × (o ≡ Some (file m old)))
seen_with_mode None e = absurd (cc)
seen_with_mode (Some (dir m)) e = inl (m, refl)
seen_with_mode (Some (file m old)) e = inr (m, old, refl)
seen_with_mode (Some (symlink target)) e = absurd (cc)

mode_changes : (u : Tree) (ls : List Tree) (p : Names) (mode : ℕ) → IsLayer u → AreLayers ls → walk_error (u ∷ ls) p ≡ None → mode_error (seen (u ∷ ls) p) ≡ None
    → Turns u (seen (u ∷ ls)) (seen (with_mode (copied_up u ls p) p (at (copied_up u ls p) p) mode ∷ ls)) p (with_object_mode mode)
mode_changes u ls p mode ok layers way there = by (at u p) refl
  where
    Goal : Tree → Type 0
    Goal v = Turns u (seen (u ∷ ls)) (seen (v ∷ ls)) p (with_object_mode mode)

    t : Tree
    t = with_parents u ls p

    parents : AddsParents u (with_parents u ls p) ls (length p)
    parents = adds_parents u ls p way

    same : (n : Node) → at u p ≡ Some n → AddsParents u u ls (length p)
    same n e = subst (λ (v : Tree). AddsParents u v ls (length p)) (no_missing u ls p ok (ap is_some e)) (adds_parents u ls p way)

    own : (n : Node) → at u p ≡ Some n → with_mode (copied_up u ls p) p (at (copied_up u ls p) p) mode ≡ with_mode u p (Some n) mode
    own n e = own_mode u ls p mode ok (ap is_some e) ∙ ap (λ (o : Option Node). with_mode u p o mode) e

    by : (o : Option Node) → at u p ≡ o → Turns u (seen (u ∷ ls)) (seen (with_mode (copied_up u ls p) p (at (copied_up u ls p) p) mode ∷ ls)) p (with_object_mode mode)
    by None e = elim (seen_with_mode (seen (u ∷ ls) p) there) [
      | inl d ↦ subst Goal (sym (dir_copy u ls p way e d.0 mode d.1)) (entry_changes u t ls p d.0 mode false parents (sym (ap node_hides (parents.leaves p (omega arith) ∙ e))) (ap (option_and_then number_of) e) d.1)
      | inr f ↦ subst Goal (sym (file_copy u ls p way e f.0 mode f.1 f.2)) (copy_changes u t ls p ok layers parents f.0 (meta_with_mode f.0 mode) f.1 f.1 (with_object_mode mode) refl e f.2)
    ]
    by (Some (Dir m b)) e = subst Goal (sym (own (Dir m b) e)) (entry_changes u u ls p m mode b (same (Dir m b) e) (sym (ap node_hides e)) (ap (option_and_then number_of) e) (seen_node u ls p (Dir m b) e))
    by (Some (File k)) e =
        let is = file_body (body u k) (ok.nodes p (File k) e) in
        subst Goal (sym (own (File k) e ∙ ap (λ (o : Option Body). with_file_mode u k o mode) is.2)) (own_changes u u ls p (same (File k) e) k is.0 (meta_with_mode is.0 mode) is.1 is.1 (with_object_mode mode) refl e is.2)
    by (Some (Symlink k)) e = absurd (has_mode_at (has_mode u ls p ok there (ap is_some e)))
      where
        has_mode_at : HasMode (at u p) → ⊥
        has_mode_at has = subst HasMode e has
    by (Some Whiteout) e = absurd (has_mode_at (has_mode u ls p ok there (ap is_some e)))
      where
        has_mode_at : HasMode (at u p) → ⊥
        has_mode_at has = subst HasMode e has

-- ---- a symlink

symlink_changes : (u : Tree) (ls : List Tree) (p : Names) (target : List ℕ) → IsLayer u → AreLayers ls → first_error (tests (op.Symlink p target) (u ∷ ls)) ≡ None
    → ShowsAt (seen (u ∷ ls)) (seen (next_layer (op.Symlink p target) u ls ∷ ls)) p (Some (symlink target))
symlink_changes u ls p target ok layers passes =
    let new = IsNewSymlink-passed (u ∷ ls) p target passes in
    let t = with_parents u ls p in
    let parents = adds_parents u ls p new.way in
    let free = free_unseen u ls p ok new.unseen in
    let b = body_kinds.Symlink target in
    record {
      here = new_shown u t ls p ok free parents (Symlink t.next) refl b;
      others = λ q apart. new_elsewhere u t ls p ok free parents (Symlink t.next) refl b layers (ap is_shown_dir (none_from (seen (u ∷ ls) p) new.unseen)) q apart;
    }

-- ---- any operation

after_given : (o : Option FsError) (t v : Tree) → unless o (limited t) ≡ Ok v → (o ≡ None) × (t ≡ v)
after_given (Some x) t v e = absurd (cc)
after_given None t v e = by (is_within t) e
  where
    by : (b : Bool) → ◌≡◌ {A = Result Tree FsError} (if b then Ok t else Err LayerFull) (Ok v) → ◌≡◌ {A = Option FsError} None None × (t ≡ v)
    by true e = (refl, cc)
    by false e = absurd (cc)

pub after_changes : (op : Op) (u : Tree) (ls : List Tree) (v : Tree) → IsLayer u → AreLayers ls → after op u ls ≡ Ok v → changed op u (seen (u ∷ ls)) (seen (v ∷ ls))
after_changes (op.Mkdir p m) u ls v ok layers e =
    let given = after_given (first_error (tests (op.Mkdir p m) (u ∷ ls))) (next_layer (op.Mkdir p m) u ls) v e in
    subst (λ (w : Tree). changed (op.Mkdir p m) u (seen (u ∷ ls)) (seen (w ∷ ls))) given.1 (mkdir_changes u ls p m ok given.0)
after_changes (op.Create p m) u ls v ok layers e =
    let given = after_given (first_error (tests (op.Create p m) (u ∷ ls))) (next_layer (op.Create p m) u ls) v e in
    subst (λ (w : Tree). changed (op.Create p m) u (seen (u ∷ ls)) (seen (w ∷ ls))) given.1 (create_changes u ls p m ok layers given.0)
after_changes (op.Put p m size digest) u ls v ok layers e =
    let given = after_given (first_error (tests (op.Put p m size digest) (u ∷ ls))) (next_layer (op.Put p m size digest) u ls) v e in
    subst (λ (w : Tree). changed (op.Put p m size digest) u (seen (u ∷ ls)) (seen (w ∷ ls))) given.1 (put_changes u ls p m size digest ok layers given.0)
after_changes (op.Write p offset bytes) u ls v ok layers e =
    let given = after_given (first_error (tests (op.Write p offset bytes) (u ∷ ls))) (next_layer (op.Write p offset bytes) u ls) v e in
    let ready = IsWritable-passed (u ∷ ls) p offset bytes given.0 in
    subst (λ (w : Tree). changed (op.Write p offset bytes) u (seen (u ∷ ls)) (seen (w ∷ ls))) given.1 (fill_changes u ls p (λ old. written old offset bytes) ok layers ready.way ready.file)
after_changes (op.Truncate p size) u ls v ok layers e =
    let given = after_given (first_error (tests (op.Truncate p size) (u ∷ ls))) (next_layer (op.Truncate p size) u ls) v e in
    let ready = IsSizable-passed (u ∷ ls) p size given.0 in
    subst (λ (w : Tree). changed (op.Truncate p size) u (seen (u ∷ ls)) (seen (w ∷ ls))) given.1 (fill_changes u ls p (λ old. resized old size) ok layers ready.way ready.file)
after_changes (op.SetMode p mode) u ls v ok layers e =
    let given = after_given (first_error (tests (op.SetMode p mode) (u ∷ ls))) (next_layer (op.SetMode p mode) u ls) v e in
    let ready = IsSettable-passed (u ∷ ls) p mode given.0 in
    subst (λ (w : Tree). changed (op.SetMode p mode) u (seen (u ∷ ls)) (seen (w ∷ ls))) given.1 (mode_changes u ls p mode ok layers ready.way ready.there)
after_changes (op.Symlink p target) u ls v ok layers e =
    let given = after_given (first_error (tests (op.Symlink p target) (u ∷ ls))) (next_layer (op.Symlink p target) u ls) v e in
    subst (λ (w : Tree). changed (op.Symlink p target) u (seen (u ∷ ls)) (seen (w ∷ ls))) given.1 (symlink_changes u ls p target ok layers given.0)
after_changes (op.Link from to) u ls v ok layers e =
    let given = after_given (first_error (tests (op.Link from to) (u ∷ ls))) (next_layer (op.Link from to) u ls) v e in
    subst (λ (w : Tree). changed (op.Link from to) u (seen (u ∷ ls)) (seen (w ∷ ls))) given.1 (link_changes u ls from to ok layers given.0)
after_changes (op.Unlink p) u ls v ok layers e =
    let given = after_given (first_error (tests (op.Unlink p) (u ∷ ls))) (next_layer (op.Unlink p) u ls) v e in
    subst (λ (w : Tree). changed (op.Unlink p) u (seen (u ∷ ls)) (seen (w ∷ ls))) given.1 (erased_changes u ls p ok layers (IsErasable-name (u ∷ ls) p (ok, layers) (dir_seen u ls [] ok.root) given.0))
after_changes (op.Rmdir p) u ls v ok layers e =
    let given = after_given (first_error (tests (op.Rmdir p) (u ∷ ls))) (next_layer (op.Rmdir p) u ls) v e in
    subst (λ (w : Tree). changed (op.Rmdir p) u (seen (u ∷ ls)) (seen (w ∷ ls))) given.1 (erased_changes u ls p ok layers (IsErasable-dir (u ∷ ls) p given.0))
after_changes (op.Rename from to) u ls v ok layers e =
    let given = after_given (first_error (tests (op.Rename from to) (u ∷ ls))) (next_layer (op.Rename from to) u ls) v e in
    subst (λ (w : Tree). changed (op.Rename from to) u (seen (u ∷ ls)) (seen (w ∷ ls))) given.1 (rename_changes u ls from to ok layers given.0)
after_changes (op.Opaque p) u ls v ok layers e =
    let given = after_given (first_error (tests (op.Opaque p) (u ∷ ls))) (next_layer (op.Opaque p) u ls) v e in
    subst (λ (w : Tree). changed (op.Opaque p) u (seen (u ∷ ls)) (seen (w ∷ ls))) given.1 (opaque_changes u ls p ok given.0)
after_changes (op.Whiteout p) u ls v ok layers e =
    let given = after_given (first_error (tests (op.Whiteout p) (u ∷ ls))) (next_layer (op.Whiteout p) u ls) v e in
    subst (λ (w : Tree). changed (op.Whiteout p) u (seen (u ∷ ls)) (seen (w ∷ ls))) given.1 (tree_changes u ls p ok layers (IsErasableTree-passed (u ∷ ls) p given.0))
