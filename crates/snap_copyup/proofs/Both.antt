-- The directories above two paths: those above both are added once.
use Rattle.std.proofs.Common.{◌≡◌, inl, inr, ℕ, ◌+◌, ◌<◌, ◌≤◌, true, List, [], ◌∷◌, ◌++◌, length, take, drop, min, None, is_some, sym, ap, subst, ◌∙◌, arith, append_assoc, append-nil, get_or, length-append, length-take}
use Rattle.std.proofs.lemmas.List.{at_drop_more, take-append-drop, take-append-le, take_all}
use Rattle.snap_path.specs.Text.{Names}
use Rattle.snap_layer.specs.Tree.{Tree, at}
use Rattle.snap_layer.specs.Layers.{IsLayer}
use Rattle.snap_layer.proofs.Paths.{split_front}
use Rattle.snap_merge.specs.Walk.{walk_error}
use Rattle.snap_merge.proofs.Views.{walk_same}
use Rattle.snap_copyup.specs.Copying.{with_parents}
use Rattle.snap_copyup.specs.Places.{TakesMore}
use Rattle.snap_copyup.proofs.Missing.{missing_from}
use Rattle.snap_copyup.proofs.Alone.{some_dir}
use Rattle.snap_copyup.proofs.ParentDirs.{AddsParents, adds_parents, parents_extend, parents_all_stand}
use Rattle.snap_copyup.proofs.Growing.{grows_from, missing_same, missing_none, missing_split}

-- ---- fronts of paths

-- a front of a front is a front
take_front : (p a r : Names) (k : ℕ) → take k p ≡ a ++ r → take (length a) p ≡ a
take_front p a r k is =
    ap (take (length a)) (sym (take-append-drop k p) ∙ ap (λ (x : Names). x ++ drop k p) is ∙ append_assoc a r (drop k p))
    ∙ take-append-le (length a) a (r ++ drop k p) (omega arith)
    ∙ take_all (length a) a (omega arith)

-- where the paths have a front in common, so they have its fronts
take_shared : (p q : Names) (k j : ℕ) → take k p ≡ take k q → k ≤ length p → j ≤ k → take j p ≡ take j q
take_shared p q k j same within less =
    let long : length (take k p) ≡ k = omega (arith, length-take k p, within) in
    ap (take j) (sym (take-append-drop k p))
    ∙ take-append-le j (take k p) (drop k p) (omega (arith, long, less))
    ∙ ap (take j) same
    ∙ sym (take-append-le j (take k q) (drop k q) (omega (arith, long, less, ap length same)))
    ∙ ap (take j) (take-append-drop k q)

-- a front with fewer names has a name after it
cut : (p : Names) (k : ℕ) → k < length p → (n : List ℕ) × (r : Names) × (p ≡ take k p ++ n ∷ r)
cut p k less = (get_or p k [], drop (k + 1) p, sym (take-append-drop k p) ∙ at_drop_more (λ (r : Names). take k p ++ r) p k [] less)

-- k names are shared by both paths and not one more, and s is the least number of names with which a front of q is not above p
module _ (u : Tree) (ls : List Tree) (p q : Names) (ok : IsLayer u) (way_p : walk_error (u ∷ ls) p ≡ None) (way_q : walk_error (u ∷ ls) q ≡ None) (k s : ℕ) (within : k ≤ length p) (same : take k p ≡ take k q) (most : k < length p → k < length q → take (k + 1) p ≡ take (k + 1) q → ⊥) (least : s ≡ min (length p) (k + 1)) where
  abbrev v : Tree
  v = with_parents u ls p

  adds : AddsParents u (with_parents u ls p) ls (length p)
  adds = adds_parents u ls p way_p

  -- a front of q that is above p stands
  stands : (a : Names) (n : List ℕ) (b : Names) → take s q ≡ a ++ n ∷ b → is_some (at (with_parents u ls p) a) ≡ true
  stands a n b is =
      let few : length a < s = omega (arith, ap length is, length-append a (n ∷ b), length-take s q) in
      let rest = cut p (length a) (omega (arith, few, least)) in
      let front : take (length a) p ≡ a = take_shared p q k (length a) same within (omega (arith, few, least)) ∙ take_front q a (n ∷ b) s is in
      let whole : p ≡ a ++ rest.0 ∷ rest.1 = subst (λ (x : Names). p ≡ x ++ rest.0 ∷ rest.1) front rest.2 in
      some_dir (at v a) (parents_all_stand u ls p way_p a rest.0 rest.1 whole)

  -- at any other nothing is added
  others : (a : Names) (n : List ℕ) (b : Names) → drop s q ≡ a ++ n ∷ b → at (with_parents u ls p) (take s q ++ a) ≡ at u (take s q ++ a)
  others a n b is = elim (split_front (take s q ++ a) p) [
    | inr out ↦ (parents_extend u ls p way_p).beside (take s q ++ a) out.0
    | inl front ↦ by front.1 front.2
  ]
    where
      r : Names
      r = take s q ++ a

      whole : q ≡ (take s q ++ a) ++ n ∷ b
      whole = sym (take-append-drop s q) ∙ ap (λ (x : Names). take s q ++ x) is ∙ sym (append_assoc (take s q) a (n ∷ b))

      long : s ≤ length (take s q)
      long = omega (arith, length-take s q, ap length whole, length-append (take s q ++ a) (n ∷ b), length-append (take s q) a)

      far : s ≤ length (take s q ++ a)
      far = omega (arith, long, length-append (take s q) a)

      by : (rest : Names) → p ≡ (take s q ++ a) ++ rest → at (with_parents u ls p) (take s q ++ a) ≡ at u (take s q ++ a)
      by [] e = adds.leaves r (omega (arith, ap length (e ∙ append-nil r)))
      by (x ∷ xs) e =
          let shorter : length (take s q ++ a) < length p = omega (arith, ap length e, length-append r (x ∷ xs)) in
          let less : k < length (take s q ++ a) = omega (arith, far, shorter, least) in
          absurd (most (omega (arith, less, shorter)) (omega (arith, less, ap length whole, length-append r (n ∷ b))) (
          ap (take (k + 1)) e ∙ take-append-le (k + 1) r (x ∷ xs) (omega (arith, less))
          ∙ sym (ap (take (k + 1)) whole ∙ take-append-le (k + 1) r (n ∷ b) (omega (arith, less)))
          ))

  -- what is missing above q once the directories above p stand
  later : missing_from (with_parents u ls p) [] q ≡ missing_from u (take s q) (drop s q)
  later =
      let split : missing_from (with_parents u ls p) [] q ≡ missing_from v [] (take s q) + missing_from v (take s q) (drop s q) = ap (missing_from v []) (sym (take-append-drop s q)) ∙ missing_split v [] (take s q) (drop s q) in
      omega (arith, split, missing_none v [] (take s q) stands, missing_same u v (take s q) (drop s q) others)

  pub takes_both : TakesMore (missing_from u [] p + missing_from u (take s q) (drop s q)) u (with_parents (with_parents u ls p) ls q)
  takes_both =
      let first = grows_from u ls [] p ok.sorted_paths way_p in
      let second = grows_from v ls [] q first.sorted (walk_same (u ∷ ls) (v ∷ ls) adds.view [] q ∙ way_q) in
      (omega (arith, first.inodes, second.inodes, later), omega (arith, first.blocks, second.blocks, later))
