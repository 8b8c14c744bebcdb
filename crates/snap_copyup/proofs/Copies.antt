-- What is copied up: nothing that is seen changes.
use Rattle.std.proofs.Common.{◌≡◌, inl, inr, ℕ, ◌+◌, true, false, List, [], ◌∷◌, ◌++◌, length, Option, Some, None, is_some, refl, sym, ap, subst, ◌∙◌, arith, length-append, append-nil}
use Rattle.std.specs.Prelude.{option_and_then}
use Rattle.std.specs.Ordering.{nat_cmp}
use Rattle.std.specs.Map.{lookup}
use Rattle.std.specs.BTreeMap.{is_at}
use Rattle.snap_path.specs.Text.{Names}
use Rattle.snap_layer.specs.declared.node.Node.{Node}
use Rattle.snap_layer.specs.declared.node.Node.TheVariants as node
use Rattle.snap_layer.specs.declared.node.Body.{Body}
use Rattle.snap_layer.specs.declared.node.Body.TheVariants as body_kinds
use Rattle.snap_layer.specs.Tree.{Tree, at, body, number_at, number_of, node_hides}
use Rattle.snap_layer.specs.Layers.{IsLayer}
use Rattle.snap_layer.specs.Edits.{IsFree, with_new, without, bodies_without, outside}
use Rattle.snap_layer.proofs.Looks.{split_path}
use Rattle.snap_layer.proofs.Paths.{split_front}
use Rattle.snap_layer.proofs.Kept.{has_body, free_has_no_number, free_is_no_dir, nothing_below}
use Rattle.snap_layer.proofs.Laws.{Replaces, Replaces-with_new, SetsBody-with_new}
use Rattle.snap_merge.specs.Objects.{Object, dir, file, symlink, seen, shown_body, is_shown_dir, AreLayers}
use Rattle.snap_merge.specs.Walk.{walk_error}
use Rattle.snap_merge.proofs.Views.{seen_node}
use Rattle.snap_merge.proofs.Above.{nothing_seen}
use Rattle.snap_copyup.specs.Copying.{below, with_object, with_parents, copied_up}
use Rattle.snap_copyup.specs.Places.{with_last, CanStand, last_of}
use Rattle.snap_copyup.proofs.Alone.{below_seen, copied_there, copied_missing}
use Rattle.snap_copyup.proofs.Elsewhere.{Puts, shown_same, shown_number, seen-put_hiding}
use Rattle.snap_copyup.proofs.ParentDirs.{AddsParents, adds_parents, one_dir}
use Rattle.snap_copyup.proofs.Wholes.{IsWholeObject, whole_below, vacant}

-- ---- a new file or symlink

number_hides : (n : Node) (k : ℕ) → number_of n ≡ Some k → node_hides (Some n) ≡ true
number_hides (node.Dir meta opaque) k e = absurd (cc)
number_hides (node.File j) k e = refl
number_hides (node.Symlink j) k e = refl
number_hides node.Whiteout k e = absurd (cc)

module _ (u t : Tree) (ls : List Tree) (p : Names) (ok : IsLayer u) (free : IsFree (at u p)) (parents : AddsParents u t ls (length p)) (n : Node) (number : number_of n ≡ Some t.next) (b : Body) where
  no_number : number_at t p ≡ None
  no_number = parents.numbers p ∙ free_has_no_number (at u p) free

  bodies_left : (j : ℕ) → body (without t p) j ≡ body t j
  bodies_left j = ap (λ o. lookup (is_at (nat_cmp j)) (bodies_without o (outside p t.entries) t.bodies)) no_number

  -- no name has the next number
  pub not_next : (q : Names) (j : ℕ) → number_at t q ≡ Some j → j ≡ t.next → ⊥
  not_next q j is same = omega (arith, parents.next, same, (ok.numbers j (has_body u ok q j (sym (parents.numbers q) ∙ is))).1)

  pub Puts-with_new : Puts t (with_new t p n b) p
  Puts-with_new = record {
    others = λ q apart. elim (split_front p q) [
      | inl within ↦ by q apart within.1 within.2
      | inr out ↦ replaces.others q out.0
    ];
    shows = λ q m apart e. shown_same t (with_new t p n b) m (λ j is. (SetsBody-with_new t p n b).others j (not_next q j (ap (option_and_then number_of) e ∙ is)) ∙ bodies_left j);
  }
    where
      replaces : Replaces t (with_new t p n b) p n
      replaces = Replaces-with_new t p n b

      by : (q : Names) → (q ≡ p → ⊥) → (rest : Names) → q ≡ p ++ rest → at (with_new t p n b) q ≡ at t q
      by q apart [] is = absurd (apart (is ∙ append-nil p))
      by q apart (m ∷ r) is =
          ap (at (with_new t p n b)) is ∙ replaces.below m r
          ∙ sym (ap (at t) is ∙ parents.leaves (p ++ m ∷ r) (omega (arith, length-append p (m ∷ r))) ∙ nothing_below u ok p (free_is_no_dir (at u p) free) m r)

  -- it is seen
  pub new_shown : seen (with_new t p n b ∷ ls) p ≡ shown_body (Some b)
  new_shown =
      seen_node (with_new t p n b) ls p n (Replaces-with_new t p n b).here
      ∙ shown_number (with_new t p n b) n t.next number
      ∙ ap shown_body (SetsBody-with_new t p n b).here

  -- where no directory was seen, all else is seen as before
  pub new_elsewhere : AreLayers ls → is_shown_dir (seen (u ∷ ls) p) ≡ false → (q : Names) → (q ≡ p → ⊥) → seen (with_new t p n b ∷ ls) q ≡ seen (u ∷ ls) q
  new_elsewhere layers no_dir q apart =
      seen-put_hiding t (with_new t p n b) ls p Puts-with_new
      (ap node_hides (Replaces-with_new t p n b).here ∙ number_hides n t.next number)
      (λ m r. parents.view (p ++ m ∷ r) ∙ nothing_seen (u ∷ ls) (ok, layers) r p m no_dir) q apart
      ∙ parents.view q

-- ---- what is copied

pub same_object : (t : Tree) (p : Names) (o : Option Object) → with_last (last_of None o) t p ≡ with_object t p o
same_object t p None = refl
same_object t p (Some (dir meta)) = refl
same_object t p (Some (file meta content)) = refl
same_object t p (Some (symlink target)) = refl

module _ (u : Tree) (ls : List Tree) (p : Names) (way : walk_error (u ∷ ls) p ≡ None) where
  abbrev t : Tree
  t = with_parents u ls p

  adds : AddsParents u (with_parents u ls p) ls (length p)
  adds = adds_parents u ls p way

  there : at (with_parents u ls p) p ≡ at u p
  there = adds.leaves p (omega arith)

  -- what is below stays below
  same_below : at u p ≡ None → below (with_parents u ls p) ls p ≡ below u ls p
  same_below none = sym (below_seen t ls p (there ∙ none)) ∙ adds.view p ∙ below_seen u ls p none

  copied_below : at u p ≡ None → copied_up u ls p ≡ with_object (with_parents u ls p) p (below u ls p)
  copied_below none = copied_missing t ls p (there ∙ none) ∙ ap (with_object t p) (same_below none)

  -- the layer with the directories, and with what a copy-up puts at the path
  pub last_copied : with_last (last_of (at u p) (below u ls p)) (with_parents u ls p) p ≡ copied_up u ls p
  last_copied = by (at u p) refl
    where
      by : (o : Option Node) → at u p ≡ o → with_last (last_of o (below u ls p)) (with_parents u ls p) p ≡ copied_up u ls p
      by (Some n) e = sym (copied_there t ls p (ap is_some (there ∙ e)))
      by None e = same_object t p (below u ls p) ∙ sym (copied_below e)

  -- nothing that is seen changes
  pub copied_view : IsLayer u → AreLayers ls → (q : Names) → seen (copied_up u ls p ∷ ls) q ≡ seen (u ∷ ls) q
  copied_view ok layers q = by (at u p) refl
    where
      new : (n : Node) (b : Body) → at u p ≡ None → number_of n ≡ Some t.next → seen (u ∷ ls) p ≡ shown_body (Some b) → is_shown_dir (shown_body (Some b)) ≡ false → seen (with_new t p n b ∷ ls) q ≡ seen (u ∷ ls) q
      new n b none number was no_dir = elim (split_path q p) [
        | inl same ↦ ap (seen (with_new t p n b ∷ ls)) same.0 ∙ new_shown u t ls p ok (subst IsFree (sym none) tt) adds n number b ∙ sym was ∙ ap (seen (u ∷ ls)) (sym same.0)
        | inr apart ↦ new_elsewhere u t ls p ok (subst IsFree (sym none) tt) adds n number b layers (ap is_shown_dir was ∙ no_dir) q (λ e. apart.0 (sym e))
      ]

      seen_as : (o : Option Object) → at u p ≡ None → seen (u ∷ ls) p ≡ o → seen (with_object t p o ∷ ls) q ≡ seen (u ∷ ls) q
      seen_as None none was = adds.view q
      seen_as (Some (dir meta)) none was = (one_dir t ls p meta (length p + 1) (there ∙ none) (adds.view p ∙ was) (omega arith)).view q ∙ adds.view q
      seen_as (Some (file meta content)) none was = new (node.File t.next) (body_kinds.File meta content) none refl was refl
      seen_as (Some (symlink target)) none was = new (node.Symlink t.next) (body_kinds.Symlink target) none refl was refl

      by : (o : Option Node) → at u p ≡ o → seen (copied_up u ls p ∷ ls) q ≡ seen (u ∷ ls) q
      by (Some n) e = ap (λ (v : Tree). seen (v ∷ ls) q) (copied_there t ls p (ap is_some (there ∙ e))) ∙ adds.view q
      by None e = ap (λ (v : Tree). seen (v ∷ ls) q) (copied_below e) ∙ seen_as (below u ls p) e (below_seen u ls p e)

-- what a copy-up puts at the path may be put there
pub copy_fits : (u : Tree) (ls : List Tree) (p : Names) → IsLayer u → AreLayers ls → CanStand (last_of (at u p) (below u ls p)) u p
copy_fits u ls p ok layers = by (at u p) refl
  where
    fits : (o : Option Object) → at u p ≡ None → IsWholeObject o → CanStand (last_of None o) u p
    fits None none whole = tt
    fits (Some (dir meta)) none whole = (vacant u p ok none, whole)
    fits (Some (file meta content)) none whole = (vacant u p ok none, whole.0, whole.1)
    fits (Some (symlink target)) none whole = (vacant u p ok none, whole)

    by : (o : Option Node) → at u p ≡ o → CanStand (last_of o (below u ls p)) u p
    by (Some n) e = tt
    by None e = fits (below u ls p) e (whole_below u ls layers p)
