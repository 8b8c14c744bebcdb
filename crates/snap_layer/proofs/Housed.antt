-- The bodies of two tables.
use Rattle.std.proofs.Common.{◌≡◌, ℕ, Bool, true, false, List, [], ◌∷◌, Option, Some, None, IsSome, refl, sym, ap, ◌∙◌}
use Rattle.std.specs.Prelude.{is_some, nat_eq, option_map, ◌↔◌}
use Rattle.std.specs.Bool.{Decides}
use Rattle.std.specs.Ordering.{nat_cmp}
use Rattle.std.specs.Cmp.{nat_cmp_total, unsigned_Decides}
use Rattle.std.specs.List.{AllByRecursion, cons_option}
use Rattle.std.specs.List.Sorted.{IsStrictlySortedBy}
use Rattle.std.specs.Map.{keys_of}
use Rattle.slab.specs.Slab.{Slab as Slots}
use Rattle.snap_layer.specs.Tree.{Tree}
use Rattle.snap_layer.specs.Equal.{tree_eq, tree_eq-Decides}
use Rattle.snap_layer.specs.declared.inode.Inode.{Inode}
use Rattle.snap_layer.specs.Walk.{view_of}
use Rattle.snap_layer.specs.declared.node.Body.{Body}
use Rattle.snap_layer.specs.Holds.{Places, place, bodies_of, IsLeafOf}
use Rattle.snap_layer.specs.Rows.{AreHoused}
use Rattle.snap_layer.proofs.Inside.{found_each}

-- ---- each place of a table has its body

pub are_housed : (s : Slots Inode) (ps : Places) → IsStrictlySortedBy nat_cmp (keys_of ps) → ((k c : ℕ) → place ps k ≡ Some c → IsLeafOf (view_of s) k c) → AreHoused s ps
are_housed s ps sorted housed = by ps (found_each nat_cmp_total ps sorted)
  where
    by : (es : Places) → AllByRecursion (λ (e : ℕ × ℕ). place ps e.0 ≡ Some e.1) es → AreHoused s es
    by [] a = tt
    by (e ∷ es) a = (ap is_some (housed e.0 e.1 a.0).1, by es a.1)

-- ---- the test of two layers

-- tests of facts that come to one are the same
same_test : {P Q : Type 0} (a b : Bool) → Decides a P → Decides b Q → (P → Q) → (Q → P) → a ≡ b
same_test true b d e f g = sym (e.1 (f (d.0 refl)))
same_test false true d e f g = d.1 (g (e.0 refl))
same_test false false d e f g = refl

pub differ : (t u : Tree) {b : Bool} → b ≡ false → (t ≡ u → b ≡ true) → false ≡ tree_eq t u
differ t u failed holds = same_test {P = ⊥} false (tree_eq t u) ((λ e. absurd (clash e)), λ x. absurd x) (tree_eq-Decides t u) (λ x. absurd x) (λ same. clash (sym failed ∙ holds same))
  where
    clash : false ≡ true → ⊥
    clash e = cc

-- where all else is the same, the most inodes decide
pub by_most : (t u : Tree) → t.entries ≡ u.entries → t.bodies ≡ u.bodies → t.next ≡ u.next → nat_eq t.most u.most ≡ tree_eq t u
by_most t u entries bodies next = same_test (nat_eq t.most u.most) (tree_eq t u) (unsigned_Decides t.most u.most) (tree_eq-Decides t u) (λ e i. record { entries = entries i; bodies = bodies i; next = next i; most = e i }) (λ e. ap (λ (x : Tree). x.most) e)

-- ---- two lists of bodies side by side

tails : (x : ℕ × Body) (xs ys : List (ℕ × Body)) → x ∷ xs ≡ x ∷ ys → xs ≡ ys
tails x xs ys e = cc

-- with one more body of the same number on both sides they are the same exactly where the rest is
one_more : (k : ℕ) (o : Option Body) (xs ys : List (ℕ × Body)) → IsSome o → (cons_option (option_map (λ (b : Body). (k, b)) o) xs ≡ cons_option (option_map (λ (b : Body). (k, b)) o) ys) ↔ (xs ≡ ys)
one_more k None xs ys some = absurd (cc)
one_more k (Some b) xs ys some = (λ e. tails (k, b) xs ys e, λ e. ap (λ l. (k, b) ∷ l) e)

pub same_next : (f g : ℕ → Option Body) (xs ys past others : Places) (k j c d : ℕ) (P : Type 0) → xs ≡ (k, c) ∷ past → ys ≡ (j, d) ∷ others → k ≡ j → f c ≡ g d → IsSome (f c) → ((bodies_of f xs ≡ bodies_of g ys) ↔ P) → (bodies_of f past ≡ bodies_of g others) ↔ P
same_next f g xs ys past others k j c d P first second number body some left =
    let one : bodies_of f xs ≡ cons_option (option_map (λ (b : Body). (k, b)) (f c)) (bodies_of f past) = ap (bodies_of f) first in
    let two : bodies_of g ys ≡ cons_option (option_map (λ (b : Body). (k, b)) (f c)) (bodies_of g others) = ap (bodies_of g) second ∙ (λ i. cons_option (option_map (λ (b : Body). (sym number i, b)) (sym body i)) (bodies_of g others)) in
    let more = one_more k (f c) (bodies_of f past) (bodies_of g others) some in
    (λ e. left.0 (one ∙ more.1 e ∙ sym two), λ p. more.0 (sym one ∙ left.1 p ∙ two))
