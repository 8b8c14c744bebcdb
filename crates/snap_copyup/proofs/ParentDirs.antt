-- The directories above a path that are copied up: nothing that is seen changes.
use Rattle.std.proofs.Common.{◌≡◌, inl, inr, ℕ, ◌+◌, ◌<◌, ◌≤◌, true, false, List, [], ◌∷◌, ◌++◌, length, Option, Some, None, is_some, refl, sym, ap, subst, ◌∙◌, arith, length-append, append_assoc, append-nil}
use Rattle.std.specs.Prelude.{option_and_then, if◌then◌else◌}
use Rattle.snap_path.specs.Text.{Names, begins}
use Rattle.snap_layer.specs.declared.node.Meta.{Meta}
use Rattle.snap_layer.specs.declared.node.Node.{Node}
use Rattle.snap_layer.specs.declared.node.Node.TheVariants.{Dir}
use Rattle.snap_layer.specs.Tree.{Tree, IsDirAt, at, number_at, number_of, node_hides}
use Rattle.snap_layer.specs.Edits.{with_entry}
use Rattle.snap_layer.proofs.Looks.{Sets, Sets-with_entry, split_path}
use Rattle.snap_layer.proofs.Paths.{begins_from}
use Rattle.snap_merge.specs.Objects.{Object, dir, file, symlink, seen, is_shown_dir}
use Rattle.snap_merge.specs.Walk.{walk_error, walk_from}
use Rattle.snap_merge.proofs.Views.{seen_node, walk_same}
use Rattle.snap_copyup.specs.Copying.{below, copied, with_object, with_parents, with_parents_from}
use Rattle.snap_copyup.proofs.Alone.{walk_passes, below_seen, copied_there, copied_missing, dir_there_over}
use Rattle.snap_copyup.proofs.Elsewhere.{Puts, shown_same, seen-put_alike}

no_bool : true ≡ false → ⊥
no_bool e = cc

none_some : {A : Type 0} {x : A} → None ≡ Some x → ⊥
none_some e = cc

-- the layer t is u with directories at paths shorter than m that were seen
pub record AddsParents (u t : Tree) (ls : List Tree) (m : ℕ) : Type 0 where
  pub bodies : t.bodies ≡ u.bodies
  pub next : t.next ≡ u.next
  pub numbers : (q : Names) → number_at t q ≡ number_at u q
  pub leaves : (q : Names) → m ≤ length q → at t q ≡ at u q
  pub view : (q : Names) → seen (t ∷ ls) q ≡ seen (u ∷ ls) q

same_layer : (u : Tree) (ls : List Tree) (m : ℕ) → AddsParents u u ls m
same_layer u ls m = record { bodies = refl; next = refl; numbers = λ q. refl; leaves = λ q far. refl; view = λ q. refl }

pub both : (u t v : Tree) (ls : List Tree) (m : ℕ) → AddsParents u t ls m → AddsParents t v ls m → AddsParents u v ls m
both u t v ls m a b = record {
  bodies = b.bodies ∙ a.bodies;
  next = b.next ∙ a.next;
  numbers = λ q. b.numbers q ∙ a.numbers q;
  leaves = λ q far. b.leaves q far ∙ a.leaves q far;
  view = λ q. b.view q ∙ a.view q;
}

-- one directory that was seen from below
pub one_dir : (u : Tree) (ls : List Tree) (p : Names) (k : Meta) (m : ℕ) → at u p ≡ None → seen (u ∷ ls) p ≡ Some (dir k) → length p < m → AddsParents u (with_entry u p (Dir k false)) ls m
one_dir u ls p k m none was short = record {
  bodies = refl;
  next = refl;
  numbers = λ q. elim (split_path q p) [
    | inl one ↦ ap (λ (x : Names). number_at v x) one.0 ∙ ap (option_and_then number_of) (sets.here) ∙ sym (ap (option_and_then number_of) none) ∙ ap (λ (x : Names). number_at u x) (sym one.0)
    | inr two ↦ ap (option_and_then number_of) (sets.others q (λ e. two.0 (sym e)))
  ];
  leaves = λ q far. sets.others q (λ e. omega (arith, ap length e));
  view = λ q. elim (split_path q p) [
    | inl one ↦ ap (seen (v ∷ ls)) one.0 ∙ seen_node v ls p (Dir k false) sets.here ∙ sym was ∙ ap (seen (u ∷ ls)) (sym one.0)
    | inr two ↦ seen-put_alike u v ls p puts (ap node_hides sets.here ∙ sym (ap node_hides none)) q (λ e. two.0 (sym e))
  ];
}
  where
    v : Tree
    v = with_entry u p (Dir k false)

    sets : Sets u (with_entry u p (Dir k false)) p (Some (Dir k false))
    sets = Sets-with_entry u p (Dir k false)

    puts : Puts u (with_entry u p (Dir k false)) p
    puts = record { others = λ q apart. sets.others q apart; shows = λ q n apart e. shown_same u (with_entry u p (Dir k false)) n (λ j is. refl) }

pub dir_copied : (u : Tree) (ls : List Tree) (p : Names) (m : ℕ) → is_shown_dir (seen (u ∷ ls) p) ≡ true → length p < m → AddsParents u (copied u ls p) ls m
dir_copied u ls p m is short = by (at u p) refl
  where
    seen_as : (o : Option Object) → at u p ≡ None → seen (u ∷ ls) p ≡ o → is_shown_dir o ≡ true → AddsParents u (with_object u p o) ls m
    seen_as None none e is = absurd (cc)
    seen_as (Some (dir k)) none e is = one_dir u ls p k m none e short
    seen_as (Some (file k b)) none e is = absurd (cc)
    seen_as (Some (symlink b)) none e is = absurd (cc)

    by : (o : Option Node) → at u p ≡ o → AddsParents u (if is_some (at u p) then u else with_object u p (below u ls p)) ls m
    by (Some n) e = subst (λ b. AddsParents u (if b then u else with_object u p (below u ls p)) ls m) (sym (ap is_some e)) (same_layer u ls m)
    by None e = subst (λ b. AddsParents u (if b then u else with_object u p (below u ls p)) ls m) (sym (ap is_some e)) (seen_as (below u ls p) e (below_seen u ls p e) (sym (ap is_shown_dir (below_seen u ls p e)) ∙ is))

pub adds_from : (u : Tree) (ls : List Tree) (front rest : Names) (m : ℕ) → length front + length rest ≤ m → walk_from (u ∷ ls) front rest ≡ None → AddsParents u (with_parents_from u ls front rest) ls m
adds_from u ls front [] m far way = same_layer u ls m
adds_from u ls front (n ∷ rest) m far way =
    let passes = walk_passes (seen (u ∷ ls) front) (walk_from (u ∷ ls) (front ++ n ∷ []) rest) way in
    let step = dir_copied u ls front m passes.0 (omega (arith, far)) in
    let later = adds_from (copied u ls front) ls (front ++ n ∷ []) rest m (omega (arith, far, length-append front (n ∷ []))) (walk_same (u ∷ ls) (copied u ls front ∷ ls) step.view (front ++ n ∷ []) rest ∙ passes.1) in
    both u (copied u ls front) (with_parents_from (copied u ls front) ls (front ++ n ∷ []) rest) ls m step later

-- the directories above a path that the walk passes
pub adds_parents : (u : Tree) (ls : List Tree) (p : Names) → walk_error (u ∷ ls) p ≡ None → AddsParents u (with_parents u ls p) ls (length p)
adds_parents u ls p way = adds_from u ls [] p (length p) (omega arith) way

-- ---- nothing else is added

-- t has all that u has, and has it alone at paths that w doesn't begin with
pub record Extends (u t : Tree) (w : Names) : Type 0 where
  pub keeps : (q : Names) (n : Node) → at u q ≡ Some n → at t q ≡ Some n
  pub beside : (q : Names) → begins q w ≡ false → at t q ≡ at u q

same_extends : (u : Tree) (w : Names) → Extends u u w
same_extends u w = record { keeps = λ q n e. e; beside = λ q out. refl }

both_extend : (u t v : Tree) (w : Names) → Extends u t w → Extends t v w → Extends u v w
both_extend u t v w a b = record {
  keeps = λ q n e. b.keeps q n (a.keeps q n e);
  beside = λ q out. b.beside q out ∙ a.beside q out;
}

copied_extends : (u : Tree) (ls : List Tree) (p w : Names) → is_shown_dir (seen (u ∷ ls) p) ≡ true → begins p w ≡ true → Extends u (copied u ls p) w
copied_extends u ls p w is front = by (at u p) refl
  where
    put : (o : Option Object) → at u p ≡ None → is_shown_dir o ≡ true → Extends u (with_object u p o) w
    put None none is = absurd (cc)
    put (Some (dir k)) none is =
        let sets = Sets-with_entry u p (Dir k false) in
        record {
          keeps = λ q n e. sets.others q (λ same. none_some (sym none ∙ ap (at u) (sym same) ∙ e)) ∙ e;
          beside = λ q out. sets.others q (λ same. no_bool (sym (ap (λ (x : Names). begins x w) same ∙ front) ∙ out));
        }
    put (Some (file k b)) none is = absurd (cc)
    put (Some (symlink b)) none is = absurd (cc)

    by : (o : Option Node) → at u p ≡ o → Extends u (copied u ls p) w
    by (Some n) e = subst (λ (v : Tree). Extends u v w) (sym (copied_there u ls p (ap is_some e))) (same_extends u w)
    by None e = subst (λ (v : Tree). Extends u v w) (sym (copied_missing u ls p e)) (put (below u ls p) e (sym (ap is_shown_dir (below_seen u ls p e)) ∙ is))

extends_from : (u : Tree) (ls : List Tree) (front rest w : Names) → front ++ rest ≡ w → walk_from (u ∷ ls) front rest ≡ None → Extends u (with_parents_from u ls front rest) w
extends_from u ls front [] w is way = same_extends u w
extends_from u ls front (n ∷ rest) w is way =
    let v = copied u ls front in
    let passes = walk_passes (seen (u ∷ ls) front) (walk_from (u ∷ ls) (front ++ n ∷ []) rest) way in
    let adds = dir_copied u ls front (length front + 1) passes.0 (omega arith) in
    both_extend u v (with_parents_from v ls (front ++ n ∷ []) rest) w (copied_extends u ls front w passes.0 (begins_from front w (n ∷ rest) (sym is)))
    (extends_from v ls (front ++ n ∷ []) rest w (append_assoc front (n ∷ []) rest ∙ is) (walk_same (u ∷ ls) (v ∷ ls) adds.view (front ++ n ∷ []) rest ∙ passes.1))

-- the directories above a path are added where nothing stands
pub parents_extend : (u : Tree) (ls : List Tree) (p : Names) → walk_error (u ∷ ls) p ≡ None → Extends u (with_parents u ls p) p
parents_extend u ls p way = extends_from u ls [] p p refl way

-- ---- the directories stand

-- a directory stays one
kept_dir : (u t : Tree) (w q : Names) → Extends u t w → IsDirAt (at u q) → IsDirAt (at t q)
kept_dir u t w q extends is = by (at u q) refl is
  where
    by : (o : Option Node) → at u q ≡ o → IsDirAt o → IsDirAt (at t q)
    by None e is = absurd is
    by (Some n) e is = subst IsDirAt (sym (extends.keeps q n e)) is

-- a directory that is copied stands in the layer
pub copied_stands : (u : Tree) (ls : List Tree) (p : Names) → is_shown_dir (seen (u ∷ ls) p) ≡ true → IsDirAt (at (copied u ls p) p)
copied_stands u ls p is = by (at u p) refl
  where
    put : (o : Option Object) → is_shown_dir o ≡ true → IsDirAt (at (with_object u p o) p)
    put None is = absurd (cc)
    put (Some (dir k)) is = subst IsDirAt (sym (Sets-with_entry u p (Dir k false)).here) refl
    put (Some (file k b)) is = absurd (cc)
    put (Some (symlink b)) is = absurd (cc)

    by : (o : Option Node) → at u p ≡ o → IsDirAt (at (copied u ls p) p)
    by (Some n) e = subst (λ (v : Tree). IsDirAt (at v p)) (sym (copied_there u ls p (ap is_some e))) (dir_there_over u ls p (ap is_some e) is)
    by None e = subst (λ (v : Tree). IsDirAt (at v p)) (sym (copied_missing u ls p e)) (put (below u ls p) (sym (ap is_shown_dir (below_seen u ls p e)) ∙ is))

-- where the front stands with the later additions, so does it in the end
stands_from : (u : Tree) (ls : List Tree) (q front : Names) (n : List ℕ) (r : Names) → walk_from (u ∷ ls) front (q ++ n ∷ r) ≡ None → IsDirAt (at (with_parents_from u ls front (q ++ n ∷ r)) (front ++ q))
stands_from u ls [] front n r way =
    let v = copied u ls front in
    let passes = walk_passes (seen (u ∷ ls) front) (walk_from (u ∷ ls) (front ++ n ∷ []) r) way in
    let adds = dir_copied u ls front (length front + 1) passes.0 (omega arith) in
    let extends = extends_from v ls (front ++ n ∷ []) r (front ++ n ∷ r) (append_assoc front (n ∷ []) r) (walk_same (u ∷ ls) (v ∷ ls) adds.view (front ++ n ∷ []) r ∙ passes.1) in
    subst (λ (x : Names). IsDirAt (at (with_parents_from v ls (front ++ n ∷ []) r) x)) (sym (append-nil front)) (kept_dir v (with_parents_from v ls (front ++ n ∷ []) r) (front ++ n ∷ r) front extends (copied_stands u ls front passes.0))
stands_from u ls (m ∷ q) front n r way =
    let v = copied u ls front in
    let passes = walk_passes (seen (u ∷ ls) front) (walk_from (u ∷ ls) (front ++ m ∷ []) (q ++ n ∷ r)) way in
    let step = dir_copied u ls front (length front + 1) passes.0 (omega arith) in
    subst (λ (x : Names). IsDirAt (at (with_parents_from v ls (front ++ m ∷ []) (q ++ n ∷ r)) x)) (append_assoc front (m ∷ []) q)
    (stands_from v ls q (front ++ m ∷ []) n r (walk_same (u ∷ ls) (v ∷ ls) step.view (front ++ m ∷ []) (q ++ n ∷ r) ∙ passes.1))

-- above a path that the walk passes all directories stand once they are added
pub parents_all_stand : (u : Tree) (ls : List Tree) (p : Names) → walk_error (u ∷ ls) p ≡ None → (q : Names) (n : List ℕ) (r : Names) → p ≡ q ++ n ∷ r → IsDirAt (at (with_parents u ls p) q)
parents_all_stand u ls p way q n r is =
    subst (λ (x : Names). IsDirAt (at (with_parents u ls x) q)) (sym is) (stands_from u ls q [] n r (ap (λ (x : Names). walk_error (u ∷ ls) x) (sym is) ∙ way))

-- and so does the parent
pub parents_stand : (u : Tree) (ls : List Tree) (p : Names) → walk_error (u ∷ ls) p ≡ None → (q : Names) (n : List ℕ) → p ≡ q ++ n ∷ [] → IsDirAt (at (with_parents u ls p) q)
parents_stand u ls p way q n is = parents_all_stand u ls p way q n [] is
