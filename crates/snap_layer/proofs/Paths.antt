-- Paths: their order, and which begin with which.
use Rattle.std.proofs.Common.{◌≡◌, ℕ, ◌+◌, ◌-◌, Bool, true, false, cond, List, [], ◌∷◌, ◌++◌, length, drop, Some, None, refl, sym, ap, ◌∙◌, ◌⊎◌, inl, inr, arith, length-append, append_assoc, append-nil}
use Rattle.std.specs.Prelude.{slice_get}
use Rattle.std.specs.Str.{bytes_eq}
use Rattle.std.specs.Cmp.{IsTotalOrder}
use Rattle.std.specs.Cmp.Lexicographic.{lists_total, nat_list_cmp_total, nat_list_eq_equiv}
use Rattle.std.specs.FinMap.{IsAntisymmetric, slice_cmp-IsAntisymmetric, nat_cmp-IsAntisymmetric}
use Rattle.std.proofs.lemmas.Slice.Eq.{bytes_eq-Decides, starts_is}
use Rattle.snap_path.specs.Text.{Names, begins}
use Rattle.snap_layer.specs.Tree.{path_cmp, name_below}

pub path_cmp_total : IsTotalOrder path_cmp
path_cmp_total = lists_total nat_list_cmp_total

pub path_cmp-IsAntisymmetric : IsAntisymmetric path_cmp
path_cmp-IsAntisymmetric = slice_cmp-IsAntisymmetric (slice_cmp-IsAntisymmetric nat_cmp-IsAntisymmetric)

-- what begins with a front is the front and some names more
pub begins_rest : (front p : Names) → begins front p ≡ true → p ≡ front ++ drop (length front) p
begins_rest front p e = (starts_is bytes_eq-Decides p front (begins front p) refl).0 e

pub begins-append : (front rest : Names) → begins front (front ++ rest) ≡ true
begins-append front rest = (starts_is bytes_eq-Decides (front ++ rest) front (begins front (front ++ rest)) refl).1 rest refl

pub begins_from : (front p rest : Names) → p ≡ front ++ rest → begins front p ≡ true
begins_from front p rest e = (starts_is bytes_eq-Decides p front (begins front p) refl).1 rest e

pub begins_itself : (p : Names) → begins p p ≡ true
begins_itself p = begins_from p p [] (sym (append-nil p))

no_bool : true ≡ false → ⊥
no_bool e = cc

-- a path begins with a front, or goes on from it by no names
pub split_front : (front p : Names) → ((begins front p ≡ true) × (rest : Names) × (p ≡ front ++ rest)) ⊎ ((begins front p ≡ false) × ((rest : Names) → p ≡ front ++ rest → ⊥))
split_front front p = elim (begins front p) as (λ b. begins front p ≡ b → ((b ≡ true) × (rest : Names) × (p ≡ front ++ rest)) ⊎ ((b ≡ false) × ((rest : Names) → p ≡ front ++ rest → ⊥))) [
  | true ↦ λ e. inl (refl, drop (length front) p, begins_rest front p e)
  | false ↦ λ e. inr (refl, λ rest is. no_bool (sym (begins_from front p rest is) ∙ e))
] refl

-- a front of a front
pub begins-trans : (a b p : Names) → begins a b ≡ true → begins b p ≡ true → begins a p ≡ true
begins-trans a b p e f =
    begins_from a p (drop (length a) b ++ drop (length b) p)
    (begins_rest b p f ∙ ap (λ (x : Names). x ++ drop (length b) p) (begins_rest a b e) ∙ append_assoc a (drop (length a) b) (drop (length b) p))

pub drop-append : (xs ys : Names) → drop (length xs) (xs ++ ys) ≡ ys
drop-append [] ys = refl
drop-append (x ∷ xs) ys = drop-append xs ys

-- lists that begin alike are equal only if the rests are
pub append-cancel : (xs ys zs : Names) → xs ++ ys ≡ xs ++ zs → ys ≡ zs
append-cancel xs ys zs e = sym (drop-append xs ys) ∙ ap (drop (length xs)) e ∙ drop-append xs zs

-- lists with one more element are equal only if the lists are
pub snoc_same : (xs ys : Names) (x y : List ℕ) → xs ++ x ∷ [] ≡ ys ++ y ∷ [] → xs ≡ ys
snoc_same [] [] x y e = refl
snoc_same [] (z ∷ ys) x y e = absurd (omega (arith, ap length e, length-append ys (y ∷ [])))
snoc_same (z ∷ xs) [] x y e = absurd (omega (arith, ap length e, length-append xs (x ∷ [])))
snoc_same (z ∷ xs) (w ∷ ys) x y e =
    let head : z ≡ w = cc in
    let tail : xs ++ x ∷ [] ≡ ys ++ y ∷ [] = cc in
    λ i. head i ∷ snoc_same xs ys x y tail i

-- what begins with a front is the front itself, or its parent begins with the front too
pub begins_snoc : (front q : Names) (n : List ℕ) → begins front (q ++ n ∷ []) ≡ true → (front ≡ q ++ n ∷ []) ⊎ (begins front q ≡ true)
begins_snoc front q n e = by (drop (length front) (q ++ n ∷ [])) refl
  where
    whole : q ++ n ∷ [] ≡ front ++ drop (length front) (q ++ n ∷ [])
    whole = begins_rest front (q ++ n ∷ []) e

    last : (x : List ℕ) (xs front : Names) → q ++ n ∷ [] ≡ front ++ x ∷ xs → begins front q ≡ true
    last x [] front is = begins_from front q [] (snoc_same q front n x is ∙ sym (append-nil front))
    last x (y ∷ ys) front is =
        let further = last y ys (front ++ x ∷ []) (is ∙ sym (append_assoc front (x ∷ []) (y ∷ ys))) in
        begins-trans front (front ++ x ∷ []) q (begins-append front (x ∷ [])) further

    by : (rest : Names) → drop (length front) (q ++ n ∷ []) ≡ rest → (front ≡ q ++ n ∷ []) ⊎ (begins front q ≡ true)
    by [] is = inl (sym (whole ∙ ap (λ (r : Names). front ++ r) is ∙ append-nil front))
    by (x ∷ xs) is = inr (last x xs front (whole ∙ ap (λ (r : Names). front ++ r) is))

bytes_same : (xs ys : List ℕ) → bytes_eq xs ys ≡ true → xs ≡ ys
bytes_same xs ys e = (bytes_eq-Decides xs ys).0 e

-- the name of an entry in a directory
pub name_below-append : (d : Names) (n : List ℕ) → name_below d (d ++ n ∷ []) ≡ Some n
name_below-append [] n = refl
name_below-append (m ∷ d) n = ap (λ b. cond b (name_below d (d ++ n ∷ [])) None) (nat_list_eq_equiv.refl m) ∙ name_below-append d n

pub name_below_is : (d p : Names) (n : List ℕ) → name_below d p ≡ Some n → p ≡ d ++ n ∷ []
name_below_is [] [] n e = absurd (cc)
name_below_is [] (m ∷ []) n e = let same : m ≡ n = cc in λ i. same i ∷ []
name_below_is [] (m ∷ k ∷ p) n e = absurd (cc)
name_below_is (x ∷ d) [] n e = absurd (cc)
name_below_is (x ∷ d) (y ∷ p) n e = by (name_below_is d p n) (bytes_eq x y) refl e
  where
    by : (name_below d p ≡ Some n → p ≡ d ++ n ∷ []) → (b : Bool) → bytes_eq x y ≡ b → cond b (name_below d p) None ≡ Some n → y ∷ p ≡ x ∷ (d ++ n ∷ [])
    by later true is f =
        let same : x ≡ y = bytes_same x y is in
        let rest = later f in
        λ i. sym same i ∷ rest i
    by later false is f = absurd (cc)

-- where the path is one name longer than the directory and begins with it, its last name
pub below_last : (d p : Names) → length p ≡ length d + 1 → begins d p ≡ true → slice_get p (length p - 1) ≡ name_below d p
below_last d p long e =
    let rest : p ≡ d ++ drop (length d) p = begins_rest d p e in
    let one : length (drop (length d) p) ≡ 1 = omega (arith, ap length rest, length-append d (drop (length d) p)) in
    by (drop (length d) p) one rest
  where
    last : (ds : Names) (n : List ℕ) → slice_get (ds ++ n ∷ []) (length ds) ≡ Some n
    last [] n = refl
    last (x ∷ ds) n = last ds n

    by : (r : Names) → length r ≡ 1 → p ≡ d ++ r → slice_get p (length p - 1) ≡ name_below d p
    by [] l is = absurd (omega arith)
    by (n ∷ []) l is =
        let place : length p - 1 ≡ length d = omega arith in
        (λ i. slice_get (is i) (place i)) ∙ last d n ∙ sym (name_below-append d n) ∙ ap (name_below d) (sym is)
    by (n ∷ m ∷ r) l is = absurd (omega arith)
