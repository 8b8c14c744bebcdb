-- Whether a layer hides a path, name by name.
use Rattle.std.proofs.Common.{◌≡◌, ℕ, ◌+◌, ◌<◌, Bool, true, false, List, [], ◌∷◌, ◌++◌, length, take, drop, refl, sym, ap, subst, ◌∙◌, append_assoc, append-nil}
use Rattle.std.specs.Prelude.{◌||◌}
use Rattle.std.proofs.lemmas.List.{at_drop_more, take_more}
use Rattle.snap_path.specs.Text.{Names}
use Rattle.snap_layer.specs.Tree.{Tree, at, hides, hides_from, node_hides}
use Rattle.snap_merge.specs.Rules.{IsHiddenFromAbove}

-- one name further
pub hides_more : (t : Tree) (p : Names) (k : ℕ) → k < length p → hides_from t (take k p) (drop k p) ≡ (node_hides (at t (take k p)) || hides_from t (take (k + 1) p) (drop (k + 1) p))
hides_more t p k lt =
    at_drop_more (hides_from t (take k p)) p k [] lt
    ∙ ap (λ (front : Names). node_hides (at t (take k p)) || hides_from t front (drop (k + 1) p)) (sym (take_more p k [] lt))

or_last : (a b c : Bool) → (a || (b || c)) ≡ ((a || b) || c)
or_last true b c = refl
or_last false b c = refl

or_false : (b : Bool) → (b || false) ≡ b
or_false true = refl
or_false false = refl

or_true : (b : Bool) → (b || true) ≡ true
or_true true = refl
or_true false = refl

-- one proper prefix more
pub hides_snoc : (t : Tree) (n : List ℕ) (rest front : Names) → hides_from t front (rest ++ n ∷ []) ≡ (hides_from t front rest || node_hides (at t (front ++ rest)))
hides_snoc t n [] front = or_false (node_hides (at t front)) ∙ ap (λ (q : Names). node_hides (at t q)) (sym (append-nil front))
hides_snoc t n (m ∷ rest) front =
    ap (λ b. node_hides (at t front) || b) (hides_snoc t n rest (front ++ m ∷ []) ∙ ap (λ (q : Names). hides_from t (front ++ m ∷ []) rest || node_hides (at t q)) (append_assoc front (m ∷ []) rest))
    ∙ or_last (node_hides (at t front)) (hides_from t (front ++ m ∷ []) rest) (node_hides (at t (front ++ m ∷ rest)))

-- what hides at a path hides all that is below it
pub hides_below : (t : Tree) (q front : Names) (n : List ℕ) (r : Names) → node_hides (at t (front ++ q)) ≡ true → hides_from t front (q ++ n ∷ r) ≡ true
hides_below t [] front n r e = ap (λ b. b || hides_from t (front ++ n ∷ []) r) (ap (λ (x : Names). node_hides (at t x)) (sym (append-nil front)) ∙ e)
hides_below t (m ∷ q) front n r e =
    ap (λ b. node_hides (at t front) || b) (hides_below t q (front ++ m ∷ []) n r (ap (λ (x : Names). node_hides (at t x)) (append_assoc front (m ∷ []) q) ∙ e))
    ∙ or_true (node_hides (at t front))

-- and nothing else hides a path
hidden_from : (t : Tree) (rest front : Names) → hides_from t front rest ≡ true → (q : Names) × (n : List ℕ) × (r : Names) × (rest ≡ q ++ n ∷ r) × (node_hides (at t (front ++ q)) ≡ true)
hidden_from t [] front e = absurd (cc)
hidden_from t (n ∷ rest) front e = by (node_hides (at t front)) refl (hidden_from t rest (front ++ n ∷ [])) e
  where
    by : (b : Bool) → node_hides (at t front) ≡ b
        → (hides_from t (front ++ n ∷ []) rest ≡ true → (q : Names) × (m : List ℕ) × (r : Names) × (rest ≡ q ++ m ∷ r) × (node_hides (at t ((front ++ n ∷ []) ++ q)) ≡ true))
        → (b || hides_from t (front ++ n ∷ []) rest) ≡ true
        → (q : Names) × (m : List ℕ) × (r : Names) × (n ∷ rest ≡ q ++ m ∷ r) × (node_hides (at t (front ++ q)) ≡ true)
    by true here later f = ([], n, rest, refl, ap (λ (x : Names). node_hides (at t x)) (append-nil front) ∙ here)
    by false here later f =
        let found = later f in
        (n ∷ found.0, found.1, found.2, ap (λ (x : Names). n ∷ x) found.3, ap (λ (x : Names). node_hides (at t x)) (sym (append_assoc front (n ∷ []) found.0)) ∙ found.4)

pub hidden_by : (t : Tree) (p : Names) → hides t p ≡ true → IsHiddenFromAbove t p
hidden_by t p e = hidden_from t p [] e

pub hides_from_above : (t : Tree) (p : Names) → IsHiddenFromAbove t p → hides t p ≡ true
hides_from_above t p h = ap (hides t) h.3 ∙ hides_below t h.0 [] h.1 h.2 h.4

-- layers of which the same hides above a path hide it alike
pub hides_alike : (t u : Tree) (rest front : Names) → ((q : Names) (n : List ℕ) (r : Names) → rest ≡ q ++ n ∷ r → node_hides (at u (front ++ q)) ≡ node_hides (at t (front ++ q))) → hides_from u front rest ≡ hides_from t front rest
hides_alike t u [] front same = refl
hides_alike t u (n ∷ rest) front same =
    let here : node_hides (at u front) ≡ node_hides (at t front) = subst (λ (x : Names). node_hides (at u x) ≡ node_hides (at t x)) (append-nil front) (same [] n rest refl) in
    let later = hides_alike t u rest (front ++ n ∷ []) (λ q m r e. subst (λ (x : Names). node_hides (at u x) ≡ node_hides (at t x)) (sym (append_assoc front (n ∷ []) q)) (same (n ∷ q) m r (ap (λ (x : Names). n ∷ x) e))) in
    λ i. here i || later i
