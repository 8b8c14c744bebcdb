-- The paths and the names below a directory, as a walk comes to them.
use Rattle.std.proofs.Common.{◌≡◌, ℕ, ◌+◌, ◌≤◌, Bool, true, false, List, [], ◌∷◌, ◌++◌, length, take, Option, Some, None, IsSome, refl, sym, ap, subst, ◌∙◌, arith, append_assoc, length-append}
use Rattle.std.specs.Prelude.{is_some}
use Rattle.std.specs.List.{AllByRecursion}
use Rattle.std.specs.Map.{lookup, keys_of}
use Rattle.std.specs.BTreeMap.{is_at}
use Rattle.std.proofs.Math.Nat.{min-le_right}
use Rattle.std.proofs.lemmas.Bool.{cond-true, cond-false}
use Rattle.std.proofs.lemmas.List.{length-take}
use Rattle.snap_path.specs.Text.{Names, IsPath, begins}
use Rattle.snap_layer.specs.declared.node.Node.{Node}
use Rattle.snap_layer.specs.Tree.{Tree, Entries, path_cmp, at}
use Rattle.snap_layer.specs.Layers.{IsLayer}
use Rattle.snap_layer.specs.Edits.{inside}
use Rattle.snap_layer.specs.Rows.{own}
use Rattle.snap_layer.proofs.Inside.{found_each}
use Rattle.snap_layer.proofs.Lists.{lookup-filter, sorted-filter}
use Rattle.snap_layer.proofs.Paths.{path_cmp_total, path_cmp-IsAntisymmetric}

-- what is listed at the path and below it are paths
pub inside_paths : (t : Tree) → IsLayer t → (p : Names) → AllByRecursion IsPath (keys_of (inside p t.entries))
inside_paths t ok p = by (inside p t.entries) (found_each path_cmp_total (inside p t.entries) (sorted-filter path_cmp (λ e. begins p e.0) t.entries ok.sorted_paths))
  where
    gone : (o : Option Node) → IsSome o → o ≡ None → ⊥
    gone None some e = cc
    gone (Some x) some e = cc

    there : (q : Names) (b : Bool) → begins p q ≡ b → IsSome (lookup (is_at (path_cmp q)) (inside p t.entries)) → IsSome (at t q)
    there q true e some = subst IsSome (lookup-filter path_cmp_total path_cmp-IsAntisymmetric (begins p) q t.entries ∙ cond-true _ (at t q) None e) some
    there q false e some = absurd (gone (lookup (is_at (path_cmp q)) (inside p t.entries)) some (lookup-filter path_cmp_total path_cmp-IsAntisymmetric (begins p) q t.entries ∙ cond-false _ (at t q) None e))

    by : (es : Entries) → AllByRecursion (λ (e : Names × Node). lookup (is_at (path_cmp e.0)) (inside p t.entries) ≡ Some e.1) es → AllByRecursion IsPath (keys_of es)
    by [] a = tt
    by (e ∷ es) a = (ok.paths e.0 (there e.0 (begins p e.0) refl (ap is_some a.0)), by es a.1)

second : {K : Type 0} (P : K → Type 0) (xs : List K) (y z : K) (ys : List K) → AllByRecursion P (xs ++ y ∷ z ∷ ys) → P z
second P [] y z ys a = a.1.0
second P (x ∷ xs) y z ys a = second P xs y z ys a.1

-- the paths that came, the last one, and those still to come
abbrev pub AreListed : Tree → Names → List Names → Names → Entries → Type 0
AreListed t p ps last rest = ps ++ last ∷ keys_of rest ≡ keys_of (inside p t.entries)

pub listed_first : (t : Tree) (p : Names) (rest : Entries) → IsSome (at t p) → inside p t.entries ≡ own p (at t p) ++ rest → AreListed t p [] p rest
listed_first t p rest some is = by (at t p) refl some
  where
    by : (o : Option Node) → at t p ≡ o → IsSome o → p ∷ keys_of rest ≡ keys_of (inside p t.entries)
    by None e s = absurd (cc)
    by (Some n) e s = sym (ap (λ (es : Entries). keys_of es) (is ∙ ap (λ o. own p o ++ rest) e))

module _ (t : Tree) (ok : IsLayer t) (p : Names) (ps : List Names) (last next : Names) (node : Node) (rest after : Entries) (listed : AreListed t p ps last rest) (row : rest ≡ (next, node) ∷ after) where
  split : ps ++ last ∷ next ∷ keys_of after ≡ keys_of (inside p t.entries)
  split = ap (λ (es : Entries). ps ++ last ∷ keys_of es) (sym row) ∙ listed

  pub next_path : IsPath next
  next_path = second IsPath ps last next (keys_of after) (subst (AllByRecursion IsPath) (sym split) (inside_paths t ok p))

  pub listed_next : AreListed t p (ps ++ last ∷ []) next after
  listed_next = append_assoc ps (last ∷ []) (next ∷ keys_of after) ∙ split

-- the names of a path before its last one stand in the path that came before
pub front_within : (above : ℕ) (old new : Names) (name : List ℕ) → new ≡ take above old ++ name ∷ [] → above + 1 ≡ length new → above ≤ length old
front_within above old new name is long = omega (arith, ap (λ (x : Names). length x) is, length-append (take above old) (name ∷ []), long, length-take above old, min-le_right above (length old))
