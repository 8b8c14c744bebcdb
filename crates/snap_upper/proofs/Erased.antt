-- What is taken at a path.
use Rattle.std.proofs.Common.{◌≡◌, inl, inr, ℕ, Bool, true, false, cond, List, [], ◌∷◌, ◌++◌, length, Option, Some, None, is_some, refl, sym, ap, subst, ◌∙◌, arith, append_assoc, append-nil, length-append, ltb-false}
use Rattle.std.specs.Prelude.{nat_lt, option_and_then, if◌then◌else◌}
use Rattle.std.specs.Option.{option_map}
use Rattle.std.specs.Ordering.{nat_cmp}
use Rattle.std.specs.List.{list_any}
use Rattle.std.specs.List.Sorted.{IsStrictlySortedBy}
use Rattle.std.specs.Map.{keys_of}
use Rattle.std.specs.Str.{bytes_eq}
use Rattle.std.proofs.lemmas.Bool.{cond-true, cond-false}
use Rattle.snap_path.specs.Text.{Names, begins}
use Rattle.snap_layer.specs.declared.node.Node.{Node}
use Rattle.snap_layer.specs.declared.node.Node.TheVariants.{Dir, File, Symlink, Whiteout}
use Rattle.snap_layer.specs.Tree.{Tree, Bodies, at, body, hides, node_hides, number_at, number_of}
use Rattle.snap_layer.specs.Layers.{IsLayer}
use Rattle.snap_layer.specs.Edits.{HasPlace, IsFree, IsTakeable, outside, with_node, without}
use Rattle.snap_layer.proofs.Paths.{split_front}
use Rattle.snap_layer.proofs.Looks.{at-without_outside, body-bodies_without, kept_by_name}
use Rattle.snap_layer.proofs.Laws.{Takes, Takes-without, Replaces, Replaces-with_node}
use Rattle.snap_merge.specs.declared.look.Seen.{Seen}
use Rattle.snap_merge.specs.Objects.{Object, dir, file, symlink, object, seen, is_shown_dir, AreLayers}
use Rattle.snap_merge.specs.Walk.{walk_error}
use Rattle.snap_merge.specs.Listing.{names}
use Rattle.snap_merge.proofs.Listings.{listing_is}
use Rattle.snap_merge.proofs.Views.{seen_node, seen_through, seen_alike}
use Rattle.snap_merge.proofs.Hiding.{hidden_by, hides_from_above, hides_alike}
use Rattle.snap_merge.proofs.Above.{nothing_seen}
use Rattle.snap_copyup.specs.declared.parents.Last.TheVariants as last
use Rattle.snap_copyup.specs.Copying.{below, with_parents}
use Rattle.snap_copyup.specs.Places.{with_last}
use Rattle.snap_copyup.proofs.Alone.{below_seen}
use Rattle.snap_copyup.proofs.Elsewhere.{shown_same}
use Rattle.snap_copyup.proofs.ParentDirs.{AddsParents, adds_parents}
use Rattle.snap_copyup.proofs.Layers.{no_missing}
use Rattle.snap_upper.specs.declared.op.Op.TheVariants as op
use Rattle.snap_merge.specs.declared.error.FsError.TheVariants.{Invalid, NotEmpty}
use Rattle.snap_upper.specs.After.{tests, first_error, error_if, is_root, has_names, erased}
use Rattle.snap_upper.proofs.KindErrors.{name_error, dir_error}
use Rattle.snap_upper.specs.Changed.{ShowsAt}
use Rattle.snap_upper.proofs.Outcomes.{test_passes, error_if_passes}

pub none_from : {A : Type 0} (o : Option A) → is_some o ≡ false → o ≡ None
none_from None e = refl
none_from (Some x) e = absurd (cc)

pub seen_some : (o : Option Seen) → is_some (option_map object o) ≡ is_some o
seen_some None = refl
seen_some (Some x) = refl

-- ---- tests that have passed

-- something other than the root is seen, and nothing in it
pub record IsErasable (s : List Tree) (p : Names) : Type 0 where
  pub way : walk_error s p ≡ None
  pub there : is_some (seen s p) ≡ true
  pub below_root : p ≡ [] → ⊥
  pub clear : (n : List ℕ) → is_some (seen s (p ++ n ∷ [])) ≡ false

name_there : (o : Option Object) → name_error o ≡ None → (is_some o ≡ true) × (is_shown_dir o ≡ false)
name_there None e = absurd (cc)
name_there (Some (dir m)) e = absurd (cc)
name_there (Some (file m b)) e = (refl, refl)
name_there (Some (symlink b)) e = (refl, refl)

dir_there : (o : Option Object) → dir_error o ≡ None → is_some o ≡ true
dir_there None e = absurd (cc)
dir_there (Some (dir m)) e = refl
dir_there (Some (file m b)) e = absurd (cc)
dir_there (Some (symlink b)) e = absurd (cc)

no_root : (p : Names) → is_root p ≡ false → p ≡ [] → ⊥
no_root [] e is = cc
no_root (n ∷ p) e is = cc

pub nil_from : (xs : Names) → nat_lt 0 (length xs) ≡ false → xs ≡ []
nil_from [] e = refl
nil_from (x ∷ xs) e = absurd (omega (arith, ltb-false 0 (length (x ∷ xs)) e))

-- the root of a stack is a directory
pub IsErasable-name : (s : List Tree) (p : Names) → AreLayers s → is_shown_dir (seen s []) ≡ true → first_error (tests (op.Unlink p) s) ≡ None → IsErasable s p
IsErasable-name s p layers root passes =
    let first = test_passes (walk_error s p) (name_error (seen s p) ∷ []) passes in
    let second = test_passes (name_error (seen s p)) [] first.1 in
    let there = name_there (seen s p) second.0 in
    record {
      way = first.0;
      there = there.0;
      below_root = λ e. no_bool (sym root ∙ ap (λ (q : Names). is_shown_dir (seen s q)) (sym e) ∙ there.1);
      clear = λ n. ap is_some (nothing_seen s layers [] p n there.1);
    }
  where
    no_bool : true ≡ false → ⊥
    no_bool e = cc

pub IsErasable-dir : (s : List Tree) (p : Names) → first_error (tests (op.Rmdir p) s) ≡ None → IsErasable s p
IsErasable-dir s p passes =
    let full = error_if (has_names s p) NotEmpty in
    let first = test_passes (walk_error s p) (error_if (is_root p) Invalid ∷ dir_error (seen s p) ∷ full ∷ []) passes in
    let second = test_passes (error_if (is_root p) Invalid) (dir_error (seen s p) ∷ full ∷ []) first.1 in
    let third = test_passes (dir_error (seen s p)) (full ∷ []) second.1 in
    let fourth = test_passes full [] third.1 in
    let empty = nil_from (names s p) (error_if_passes (has_names s p) NotEmpty fourth.0) in
    record {
      way = first.0;
      there = dir_there (seen s p) third.0;
      below_root = no_root p (error_if_passes (is_root p) Invalid second.0);
      clear = λ n. sym ((listing_is s p).exactly n) ∙ ap (λ (ns : Names). list_any (bytes_eq n) ns) empty;
    }

-- ---- what the layer has there

module _ (u : Tree) (ls : List Tree) (p : Names) (ok : IsLayer u) (some : is_some (at u p) ≡ true) where
  module _ (below_root : p ≡ [] → ⊥) (clear : (n : List ℕ) → IsFree (at u (p ++ n ∷ []))) where
    pub place_erased : HasPlace u p
    place_erased = record {
      clear = clear;
      above = record { below_root = below_root; parent = λ q n is. ok.parents q n (subst (λ (r : Names). is_some (at u r) ≡ true) is some) };
    }

    pub takeable_erased : IsTakeable u p
    takeable_erased = record { there = some; clear = clear; below_root = below_root }

  pub erased_covered : is_some (below u ls p) ≡ true → erased u ls p ≡ with_node u p Whiteout
  erased_covered covers =
      ap (λ (t : Tree). if is_some (below u ls p) then with_node t p Whiteout else without t p) (no_missing u ls p ok some)
      ∙ cond-true (is_some (below u ls p)) (with_node u p Whiteout) (without u p) covers

  pub erased_bare : is_some (below u ls p) ≡ false → erased u ls p ≡ without u p
  erased_bare bare =
      ap (λ (t : Tree). if is_some (below u ls p) then with_node t p Whiteout else without t p) (no_missing u ls p ok some)
      ∙ cond-false (is_some (below u ls p)) (with_node u p Whiteout) (without u p) bare

pub erased_lower : (u : Tree) (ls : List Tree) (p : Names) → at u p ≡ None → is_some (seen (u ∷ ls) p) ≡ true → erased u ls p ≡ with_last last.Whiteout (with_parents u ls p) p
erased_lower u ls p none there = cond-true (is_some (below u ls p)) (with_node (with_parents u ls p) p Whiteout) (without (with_parents u ls p) p) (ap is_some (sym (below_seen u ls p none)) ∙ there)

-- ---- what is seen afterwards

pub nothing_under : (s : List Tree) → AreLayers s → (p : Names) → ((n : List ℕ) → is_some (seen s (p ++ n ∷ [])) ≡ false) → (n : List ℕ) (r : Names) → seen s (p ++ n ∷ r) ≡ None
nothing_under s layers p clear n [] = none_from (seen s (p ++ n ∷ [])) (clear n)
nothing_under s layers p clear n (m ∷ r) =
    ap (seen s) (sym (append_assoc p (n ∷ []) (m ∷ r)))
    ∙ nothing_seen s layers r (p ++ n ∷ []) m (ap is_shown_dir (none_from (seen s (p ++ n ∷ [])) (clear n)))

-- a path above one that does not lie at or below p does not either
pub above_out : (p q r : Names) (n : List ℕ) (rest : Names) → ((s : Names) → q ≡ p ++ s → ⊥) → q ≡ r ++ n ∷ rest → begins p r ≡ false
above_out p q r n rest out is = elim (split_front p r) [
  | inl within ↦ absurd (out (within.1 ++ n ∷ rest) (is ∙ ap (λ (x : Names). x ++ n ∷ rest) within.2 ∙ append_assoc p within.1 (n ∷ rest)))
  | inr away ↦ away.0
]

-- a path above p does not lie at or below p
pub above_itself : (p r : Names) (n : List ℕ) (rest : Names) → p ≡ r ++ n ∷ rest → begins p r ≡ false
above_itself p r n rest is = elim (split_front p r) [
  | inl within ↦ absurd (longer within.1 within.2)
  | inr away ↦ away.0
]
  where
    longer : (s : Names) → r ≡ p ++ s → ⊥
    longer s e = omega (arith, ap length is, length-append r (n ∷ rest), ap length e, length-append p s)

-- a body with a name elsewhere stays
pub body_stays : (t : Tree) (p q : Names) (n : Node) (j : ℕ) → IsStrictlySortedBy nat_cmp (keys_of t.bodies) → begins p q ≡ false → at t q ≡ Some n → number_of n ≡ Some j → body (without t p) j ≡ body t j
body_stays t p q n j sorted out is number =
    body-bodies_without (number_at t p) (outside p t.entries) t.bodies j sorted
    ∙ cond-false _ None (body t j) (kept_by_name (number_at t p) (outside p t.entries) j q n (at-without_outside t p q out ∙ is) number)

-- a whiteout, where nothing was seen below
pub whiteout_changes : (u t : Tree) (ls : List Tree) (p : Names) → AddsParents u t ls (length p) → IsStrictlySortedBy nat_cmp (keys_of t.bodies) → ((n : List ℕ) (r : Names) → seen (u ∷ ls) (p ++ n ∷ r) ≡ None)
    → ShowsAt (seen (u ∷ ls)) (seen (with_node t p Whiteout ∷ ls)) p None
whiteout_changes u t ls p parents sorted nothing = record {
  here = seen_node v ls p Whiteout replaces.here;
  others = λ q apart. elim (split_front p q) [
    | inl within ↦ by q apart within.1 within.2
    | inr out ↦
        seen_alike t v ls q (record {
          here = replaces.others q out.0;
          shows = λ n e. shown_same t v n (λ j number. body_stays t p q n j sorted out.0 e number);
          above = λ r n rest is. ap node_hides (replaces.others r (above_out p q r n rest out.1 is));
        })
        ∙ parents.view q
  ];
}
  where
    v : Tree
    v = with_node t p Whiteout

    replaces : Replaces t (with_node t p Whiteout) p Whiteout
    replaces = Replaces-with_node t p Whiteout

    by : (q : Names) → (q ≡ p → ⊥) → (rest : Names) → q ≡ p ++ rest → seen (with_node t p Whiteout ∷ ls) q ≡ seen (u ∷ ls) q
    by q apart [] is = absurd (apart (is ∙ append-nil p))
    by q apart (n ∷ r) is =
        ap (seen (v ∷ ls)) is
        ∙ seen_through v ls (p ++ n ∷ r) true (replaces.below n r) (hides_from_above v (p ++ n ∷ r) (p, n, r, refl, ap node_hides replaces.here))
        ∙ sym (ap (seen (u ∷ ls)) is ∙ nothing n r)

-- what stands there is gone, and nothing is below
gone_changes : (u : Tree) (ls : List Tree) (p : Names) → IsLayer u → AreLayers ls → below u ls p ≡ None → ((n : List ℕ) (r : Names) → seen (u ∷ ls) (p ++ n ∷ r) ≡ None)
    → ShowsAt (seen (u ∷ ls)) (seen (without u p ∷ ls)) p None
gone_changes u ls p ok layers bare nothing = record {
  here = seen_through v ls p (hides u p) takes.here hides_same ∙ bare;
  others = λ q apart. elim (split_front p q) [
    | inl within ↦ by q apart within.1 within.2
    | inr out ↦ seen_alike u v ls q (record {
      here = takes.others q out.0;
      shows = λ n e. shown_same u v n (λ j number. body_stays u p q n j ok.sorted_numbers out.0 e number);
      above = λ r n rest is. ap node_hides (takes.others r (above_out p q r n rest out.1 is));
    })
  ];
}
  where
    v : Tree
    v = without u p

    takes : Takes u (without u p) p
    takes = Takes-without u p

    hides_same : hides (without u p) p ≡ hides u p
    hides_same = hides_alike u v p [] (λ q n r e. ap node_hides (takes.others q (above_itself p q n r e)))

    -- what is hidden at the path is hidden below it
    deeper : (n : List ℕ) (r : Names) → hides u p ≡ true → hides (without u p) (p ++ n ∷ r) ≡ true
    deeper n r e =
        let h = hidden_by v p (hides_same ∙ e) in
        hides_from_above v (p ++ n ∷ r) (h.0, h.1, h.2 ++ n ∷ r, ap (λ (x : Names). x ++ n ∷ r) h.3 ∙ append_assoc h.0 (h.1 ∷ h.2) (n ∷ r), h.4)

    lower : (n : List ℕ) (r : Names) (b : Bool) → hides u p ≡ b → cond b None (seen ls p) ≡ None → (c : Bool) → hides (without u p) (p ++ n ∷ r) ≡ c → cond c None (seen ls (p ++ n ∷ r)) ≡ None
    lower n r b e nothing true f = refl
    lower n r true e nothing false f = absurd (no_bool (sym (deeper n r e) ∙ f))
      where
        no_bool : true ≡ false → ⊥
        no_bool e = cc
    lower n r false e nothing false f = nothing_seen ls layers r p n (ap is_shown_dir nothing)

    by : (q : Names) → (q ≡ p → ⊥) → (rest : Names) → q ≡ p ++ rest → seen (without u p ∷ ls) q ≡ seen (u ∷ ls) q
    by q apart [] is = absurd (apart (is ∙ append-nil p))
    by q apart (n ∷ r) is =
        ap (seen (v ∷ ls)) is
        ∙ seen_through v ls (p ++ n ∷ r) (hides v (p ++ n ∷ r)) (takes.below n r) refl
        ∙ lower n r (hides u p) refl bare (hides v (p ++ n ∷ r)) refl
        ∙ sym (ap (seen (u ∷ ls)) is ∙ nothing n r)

pub erased_changes : (u : Tree) (ls : List Tree) (p : Names) → IsLayer u → AreLayers ls → IsErasable (u ∷ ls) p → ShowsAt (seen (u ∷ ls)) (seen (erased u ls p ∷ ls)) p None
erased_changes u ls p ok layers erasable = by (at u p) refl
  where
    Goal : Tree → Type 0
    Goal v = ShowsAt (seen (u ∷ ls)) (seen (v ∷ ls)) p None

    parents : AddsParents u (with_parents u ls p) ls (length p)
    parents = adds_parents u ls p erasable.way

    nothing : (n : List ℕ) (r : Names) → seen (u ∷ ls) (p ++ n ∷ r) ≡ None
    nothing = nothing_under (u ∷ ls) (ok, layers) p erasable.clear

    own : (n : Node) → at u p ≡ Some n → (o : Option Object) → below u ls p ≡ o → ShowsAt (seen (u ∷ ls)) (seen (erased u ls p ∷ ls)) p None
    own n e None bare = subst Goal (sym (erased_bare u ls p ok (ap is_some e) (ap is_some bare))) (gone_changes u ls p ok layers bare nothing)
    own n e (Some o) covers = subst Goal (sym (erased_covered u ls p ok (ap is_some e) (ap is_some covers))) (whiteout_changes u u ls p (subst (λ (v : Tree). AddsParents u v ls (length p)) (no_missing u ls p ok (ap is_some e)) parents) ok.sorted_numbers nothing)

    by : (o : Option Node) → at u p ≡ o → ShowsAt (seen (u ∷ ls)) (seen (erased u ls p ∷ ls)) p None
    by None e = subst Goal (sym (erased_lower u ls p e erasable.there)) (whiteout_changes u (with_parents u ls p) ls p parents (subst (λ (bs : Bodies). IsStrictlySortedBy nat_cmp (keys_of bs)) (sym parents.bodies) ok.sorted_numbers) nothing)
    by (Some n) e = own n e (below u ls p) refl

-- ---- plans

-- the layer has no node where a name is seen that isn't its own
pub no_node : (u : Tree) (ls : List Tree) (p : Names) → name_error (seen (u ∷ ls) p) ≡ None → number_at u p ≡ None → at u p ≡ None
no_node u ls p there number = by (at u p) refl
  where
    by : (o : Option Node) → at u p ≡ o → at u p ≡ None
    by None e = e
    by (Some (Dir m b)) e = let other = sym (ap name_error (seen_node u ls p (Dir m b) e)) ∙ there in absurd (cc)
    by (Some (File k)) e = let other = sym (ap (option_and_then number_of) e) ∙ number in absurd (cc)
    by (Some (Symlink k)) e = let other = sym (ap (option_and_then number_of) e) ∙ number in absurd (cc)
    by (Some Whiteout) e = let other = sym (ap name_error (seen_node u ls p Whiteout e)) ∙ there in absurd (cc)

pub erased_own : (u : Tree) (ls : List Tree) (p : Names) (covers : Bool) → IsLayer u → is_some (at u p) ≡ true → covers ≡ is_some (below u ls p) → erased u ls p ≡ (if covers then with_node u p Whiteout else without u p)
erased_own u ls p covers ok some is =
    ap (λ (t : Tree). if is_some (below u ls p) then with_node t p Whiteout else without t p) (no_missing u ls p ok some)
    ∙ ap {B = Tree} (λ b. if b then with_node u p Whiteout else without u p) (sym is)
