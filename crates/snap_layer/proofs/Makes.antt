-- What makes a table a layer, by what is found in both.
use Rattle.std.proofs.Common.{◌≡◌, ℕ, Bool, true, false, cond, List, [], ◌∷◌, ◌++◌, Option, Some, None, IsSome, refl, sym, ap, subst, ◌∙◌, inl, inr}
use Rattle.std.specs.Prelude.{is_some, Result, OnOk, OnErr, T, ◌&&◌, option_map, option_and_then}
use Rattle.std.specs.declared.result.Result.TheVariants.{Ok, Err}
use Rattle.std.specs.declared.cmp.Ordering.{Ordering}
use Rattle.std.specs.declared.cmp.Ordering.TheVariants.{Less}
use Rattle.std.specs.Ordering.{nat_cmp, is_lt}
use Rattle.std.specs.Cmp.{nat_cmp_total}
use Rattle.std.specs.List.{AllByRecursion, cons_option}
use Rattle.std.specs.List.Sorted.{IsStrictlySortedBy}
use Rattle.std.specs.Map.{lookup, keys_of}
use Rattle.std.specs.BTreeMap.{is_at}
use Rattle.std.specs.FinMap as map
use Rattle.std.specs.FinMap.{nat_cmp-IsAntisymmetric}
use Rattle.std.specs.FinMap.Entries.{is_sorted, below_all}
use Rattle.std.specs.Coded.{Coded}
use Rattle.slab.specs.Slab.{Slab as Slots}
use Rattle.snap_path.specs.Text.{Names}
use Rattle.snap_layer.specs.declared.node.Node.{Node}
use Rattle.snap_layer.specs.declared.node.Body.{Body}
use Rattle.snap_layer.specs.Tree.{Tree, path_cmp, at, body, IsDirAt}
use Rattle.snap_layer.specs.Layers.{IsLayer}
use Rattle.snap_layer.specs.Edits.{HasParent}
use Rattle.snap_layer.proofs.Lists.{same_lists, split_key, lookup_below, at_itself}
use Rattle.std.proofs.lemmas.Bool.{cond-true, cond-false}
use Rattle.snap_layer.specs.declared.inode.Inode.{Inode}
use Rattle.snap_layer.specs.Walk.{SlotView, view_of, body_at, stands, IsTable}
use Rattle.snap_layer.specs.Holds.{Holds, Holds-prop, Places, place, bodies_of, tree_of, IsFiled, IsKept}
use Rattle.snap_layer.proofs.Maps.{at_stands, lookup_find}

pair : (a b : Bool) → T a → T b → T (a && b)
pair true b s t = t
pair false b s t = absurd s

is_less : (r : Ordering) → r ≡ Less → T (is_lt r)
is_less r e = subst (λ x. T (is_lt x)) (sym e) tt

rises_above : (k : Names) (es : List (Names × Node)) → AllByRecursion (λ y. path_cmp k y ≡ Less) (keys_of es) → T (below_all path_cmp k es)
rises_above k [] a = tt
rises_above k (e ∷ es) a = pair _ _ (is_less _ a.0) (rises_above k es a.1)

pub rises : (es : List (Names × Node)) → IsStrictlySortedBy path_cmp (keys_of es) → T (is_sorted path_cmp es)
unfolding IsStrictlySortedBy
rises [] s = tt
rises (e ∷ es) s = pair _ _ (rises_above e.0 es s.0) (rises es s.1)

-- ---- bodies by number

abbrev bodied : ℕ → Option Body → Option (ℕ × Body)
bodied k o = option_map (λ (b : Body). (k, b)) o

all_bodies : (f : ℕ → Option Body) (P : ℕ → Type 0) (ps : Places) → AllByRecursion P (keys_of ps) → AllByRecursion P (keys_of (bodies_of f ps))
all_bodies f P [] a = tt
all_bodies f P (p ∷ ps) a = by (f p.1) (all_bodies f P ps a.1)
  where
    by : (o : Option Body) → AllByRecursion P (keys_of (bodies_of f ps)) → AllByRecursion P (keys_of (cons_option (bodied p.0 o) (bodies_of f ps)))
    by None later = later
    by (Some b) later = (a.0, later)

pub sorted_bodies : (f : ℕ → Option Body) (ps : Places) → IsStrictlySortedBy nat_cmp (keys_of ps) → IsStrictlySortedBy nat_cmp (keys_of (bodies_of f ps))
unfolding IsStrictlySortedBy
sorted_bodies f [] s = tt
sorted_bodies f (p ∷ ps) s = by (f p.1) (sorted_bodies f ps s.1)
  where
    by : (o : Option Body) → IsStrictlySortedBy nat_cmp (keys_of (bodies_of f ps)) → IsStrictlySortedBy nat_cmp (keys_of (cons_option (bodied p.0 o) (bodies_of f ps)))
    by None later = later
    by (Some b) later = (all_bodies f (λ y. nat_cmp p.0 y ≡ Less) ps s.0, later)

pub lookup_bodies : (f : ℕ → Option Body) (ps : Places) (j : ℕ) → IsStrictlySortedBy nat_cmp (keys_of ps) → lookup (is_at (nat_cmp j)) (bodies_of f ps) ≡ option_and_then f (place ps j)
unfolding IsStrictlySortedBy
lookup_bodies f [] j s = refl
lookup_bodies f (p ∷ ps) j s = by (f p.1) refl (lookup_bodies f ps j s.1)
  where
    none_below : is_at (nat_cmp j) p.0 ≡ true → place ps j ≡ None
    none_below h = elim (split_key nat_cmp_total nat_cmp-IsAntisymmetric j p.0) [
      | inl same ↦ ap (place ps) same.0 ∙ lookup_below nat_cmp_total nat_cmp-IsAntisymmetric p.0 ps s.0
      | inr apart ↦ absurd (no (sym h ∙ apart.1))
    ]
      where
        no : true ≡ false → ⊥
        no e = cc

    by : (o : Option Body) → f p.1 ≡ o → lookup (is_at (nat_cmp j)) (bodies_of f ps) ≡ option_and_then f (place ps j)
        → lookup (is_at (nat_cmp j)) (cons_option (bodied p.0 o) (bodies_of f ps)) ≡ option_and_then f (cond (is_at (nat_cmp j) p.0) (Some p.1) (place ps j))
    by None is later = later ∙ at (is_at (nat_cmp j) p.0) refl
      where
        at : (b : Bool) → is_at (nat_cmp j) p.0 ≡ b → option_and_then f (place ps j) ≡ option_and_then f (cond b (Some p.1) (place ps j))
        at true e = ap (option_and_then f) (none_below e) ∙ sym is
        at false e = refl
    by (Some b) is later = ap (λ l. cond (is_at (nat_cmp j) p.0) (Some b) l) later ∙ at (is_at (nat_cmp j) p.0)
      where
        at : (h : Bool) → cond h (Some b) (option_and_then f (place ps j)) ≡ option_and_then f (cond h (Some p.1) (place ps j))
        at true = sym is
        at false = refl

-- ---- a table that is a layer

pub record Makes (s : SlotView) (root : ℕ) (places : Places) (next : ℕ) (u : Tree) : Type 0 where
  pub table : IsTable s root
  pub filed : IsFiled s root places u
  pub shows : (q : Names) → stands s root q ≡ at u q
  pub bodies : (j : ℕ) → option_and_then s.bodies (place places j) ≡ body u j
  pub last : next ≡ u.next

module _ (s : Slots Inode) (root : ℕ) (places : Places) (next : ℕ) (u : Tree) where
  -- what the fields are
  pub opens : {most : ℕ} (h : Holds s root) → IsKept (view_of s) root places (tree_of h.0 s places next most) → tree_of h.0 s places next most ≡ u → Makes (view_of s) root places next u
  opens {most} h kept view = record {
    table = kept.table;
    filed = subst (IsFiled (view_of s) root places) view kept.filed;
    shows = λ q. sym (at_stands s root h places next most q) ∙ ap (λ x. at x q) view;
    bodies = λ j. sym (lookup_bodies (body_at s) places j kept.filed.sorted) ∙ ap (λ x. body x j) view;
    last = ap (λ (x : Tree). x.next) view;
  }

  module _ (m : Makes (view_of s) root places next u) (ok : IsLayer u) where
    unfoldable pub makes_holds : Holds s root
    makes_holds = (map.from_sorted u.entries, λ q. map.get-from_sorted path_cmp u.entries q (rises u.entries ok.sorted_paths) ∙ sym (lookup_find path_cmp q u.entries) ∙ sym (m.shows q))

    pub makes_view : {most : ℕ} → most ≡ u.most → Coded Node → (g : Holds s root) → tree_of g.0 s places next most ≡ u
    unfolding makes_holds
    makes_view same code g =
        let entries : map.entries g.0 ≡ u.entries = ap (λ (x : Holds s root). map.entries x.0) (Holds-prop code s root g makes_holds) ∙ map.entries-from_sorted path_cmp u.entries (rises u.entries ok.sorted_paths) in
        let bodies : bodies_of (body_at s) places ≡ u.bodies = same_lists nat_cmp_total nat_cmp-IsAntisymmetric _ _ (sorted_bodies (body_at s) places m.filed.sorted) ok.sorted_numbers (λ j. lookup_bodies (body_at s) places j m.filed.sorted ∙ m.bodies j) in
        λ i. record { entries = entries i; bodies = bodies i; next = m.last i; most = same i }

    pub makes_kept : {most : ℕ} → most ≡ u.most → Coded Node → (g : Holds s root) → IsKept (view_of s) root places (tree_of g.0 s places next most)
    makes_kept same code g = subst (IsKept (view_of s) root places) (sym (makes_view same code g)) (record { table = m.table; filed = m.filed; layer = ok })

-- the most inodes of equal layers are the same
pub most_same : {t u : Tree} → t ≡ u → t.most ≡ u.most
most_same e = ap (λ (x : Tree). x.most) e

-- whichever way a call ended
pub either : {A E X Y Z : Type 0} (r : Result A E) → OnOk r X → OnErr r Y → (X → Z) → (Y → Z) → Z
either (Ok a) x y f g = f x
either (Err e) x y f g = g y

-- where the directory of a path is
pub parent_stands : (s : SlotView) (root : ℕ) (places : Places) (next : ℕ) (u : Tree) (path q : Names) (n : List ℕ) → Makes s root places next u → path ≡ q ++ n ∷ [] → HasParent u path → IsDirAt (stands s root q)
parent_stands s root places next u path q n m splits above = subst IsDirAt (sym (m.shows q)) (above.parent q n splits)

-- ---- the numbers of the bodies are those of the places

pub keys_bodies : (f : ℕ → Option Body) (ps : Places) → IsStrictlySortedBy nat_cmp (keys_of ps) → ((k c : ℕ) → place ps k ≡ Some c → IsSome (f c)) → keys_of (bodies_of f ps) ≡ keys_of ps
unfolding IsStrictlySortedBy
keys_bodies f [] s each = refl
keys_bodies f (p ∷ ps) s each = by (f p.1) (each p.0 p.1 (cond-true _ _ _ (at_itself nat_cmp_total nat_cmp-IsAntisymmetric p.0))) (keys_bodies f ps s.1 (λ k c is. each k c (later k c is)))
  where
    by : (o : Option Body) → IsSome o → keys_of (bodies_of f ps) ≡ keys_of ps → keys_of (cons_option (bodied p.0 o) (bodies_of f ps)) ≡ p.0 ∷ keys_of ps
    by None some rest = absurd (cc)
    by (Some b) some rest = λ i. p.0 ∷ rest i

    none : {c : ℕ} → Some c ≡ None → ⊥
    none e = cc

    later : (k c : ℕ) → place ps k ≡ Some c → cond (is_at (nat_cmp k) p.0) (Some p.1) (place ps k) ≡ Some c
    later k c is = elim (split_key nat_cmp_total nat_cmp-IsAntisymmetric k p.0) [
      | inl same ↦ absurd (none (sym is ∙ ap (place ps) same.0 ∙ lookup_below nat_cmp_total nat_cmp-IsAntisymmetric p.0 ps s.0))
      | inr apart ↦ cond-false _ _ _ apart.1 ∙ is
    ]

pub keys_kept : (s : Slots Inode) (root : ℕ) (places : Places) (next : ℕ) (u : Tree) {most : ℕ} (h : Holds s root) → IsKept (view_of s) root places (tree_of h.0 s places next most) → tree_of h.0 s places next most ≡ u → keys_of places ≡ keys_of u.bodies
keys_kept s root places next u h kept view =
    sym (keys_bodies (body_at s) places kept.filed.sorted (λ k c is. ap is_some (kept.filed.housed k c is).1)) ∙ ap (λ (x : Tree). keys_of x.bodies) view
