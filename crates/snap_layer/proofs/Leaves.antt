-- Where no directory stands, nothing lies below.
use Rattle.std.proofs.Common.{◌≡◌, Bool, true, false, cond, [], ◌∷◌, ◌++◌, length, drop, append-nil, Option, Some, None, refl, sym, ap, ◌∙◌, inl, inr}
use Rattle.std.specs.Prelude.{IsTrue}
use Rattle.std.specs.List.Sorted.{IsStrictlySortedBy}
use Rattle.std.specs.Map.{lookup, keys_of}
use Rattle.std.specs.BTreeMap.{is_at}
use Rattle.std.proofs.lemmas.Bool.{cond-true, cond-false}
use Rattle.snap_path.specs.Text.{Names, begins}
use Rattle.snap_layer.specs.declared.node.Node.{Node}
use Rattle.snap_layer.specs.Tree.{Tree, path_cmp, at, IsDirAt}
use Rattle.snap_layer.specs.Layers.{IsLayer}
use Rattle.snap_layer.specs.Edits.{inside}
use Rattle.snap_layer.specs.Rows.{own}
use Rattle.snap_layer.proofs.Lists.{same_lists, sorted-filter, lookup-filter}
use Rattle.snap_layer.proofs.Looks.{split_path}
use Rattle.snap_layer.proofs.Paths.{path_cmp_total, path_cmp-IsAntisymmetric, begins_rest, begins_itself}
use Rattle.snap_layer.proofs.Kept.{nothing_below}

sorted_own : (p : Names) (o : Option Node) → IsStrictlySortedBy path_cmp (keys_of (own p o))
unfolding IsStrictlySortedBy
sorted_own p None = tt
sorted_own p (Some n) = (tt, tt)

own_here : (q p : Names) (o : Option Node) → is_at (path_cmp q) p ≡ true → lookup (is_at (path_cmp q)) (own p o) ≡ o
own_here q p None at_it = refl
own_here q p (Some n) at_it = cond-true (is_at (path_cmp q) p) (Some n) None at_it

own_else : (q p : Names) (o : Option Node) → is_at (path_cmp q) p ≡ false → lookup (is_at (path_cmp q)) (own p o) ≡ None
own_else q p None off = refl
own_else q p (Some n) off = cond-false (is_at (path_cmp q) p) (Some n) None off

module _ (t : Tree) (ok : IsLayer t) (p : Names) (leaf : IsDirAt (at t p) → ⊥) where
  further : (r q : Names) → q ≡ p ++ r → (p ≡ q → ⊥) → at t q ≡ None
  further [] q is apart = absurd (apart (sym (is ∙ append-nil p)))
  further (n ∷ r) q is apart = ap (at t) is ∙ nothing_below t ok p leaf n r

  elsewhere : (q : Names) (b : Bool) → begins p q ≡ b → (p ≡ q → ⊥) → cond b (at t q) None ≡ None
  elsewhere q true inside_it apart = further (drop (length p) q) q (begins_rest p q inside_it) apart
  elsewhere q false out apart = refl

  found_inside : (q : Names) → lookup (is_at (path_cmp q)) (inside p t.entries) ≡ lookup (is_at (path_cmp q)) (own p (at t p))
  found_inside q = lookup-filter path_cmp_total path_cmp-IsAntisymmetric (λ x. begins p x) q t.entries ∙ elim (split_path q p) [
    | inl same ↦
        cond-true (begins p q) (at t q) None (ap (begins p) same.0 ∙ begins_itself p) ∙ ap (at t) same.0
        ∙ sym (own_here q p (at t p) same.1)
    | inr apart ↦ elsewhere q (begins p q) refl apart.0 ∙ sym (own_else q p (at t p) apart.1)
  ]

  -- at the path and below it is what stands at it
  pub inside_leaf : inside p t.entries ≡ own p (at t p)
  inside_leaf =
      same_lists path_cmp_total path_cmp-IsAntisymmetric (inside p t.entries) (own p (at t p))
      (sorted-filter path_cmp (λ (x : Names × Node). begins p x.0) t.entries ok.sorted_paths) (sorted_own p (at t p)) found_inside

pub not_true : (b : Bool) → b ≡ false → IsTrue b → ⊥
not_true true e t = absurd (cc)
not_true false e t = absurd (cc)
