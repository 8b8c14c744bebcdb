-- A directory's names from a bound on.
use Rattle.std.proofs.Common.{◌≡◌, ℕ, Bool, true, false, cond, List, [], ◌∷◌, refl, sym, ap, subst, ◌∙◌}
use Rattle.std.specs.Prelude.{◌&&◌}
use Rattle.std.specs.declared.cmp.Ordering.{Ordering}
use Rattle.std.specs.declared.cmp.Ordering.TheVariants.{Less, Equal, Greater}
use Rattle.std.specs.Ordering.{is_le, is_lt, ordering_reverse}
use Rattle.std.specs.Cmp.Lexicographic.{nat_list_cmp_total}
use Rattle.std.specs.List.{AllByRecursion}
use Rattle.std.specs.List.Sorted.{IsStrictlySortedBy}
use Rattle.std.specs.Map.{keys_of}
use Rattle.std.specs.BTreeMap.Range.{entries_between, range_contains}
use Rattle.std.specs.declared.ops.Bound.{Bound}
use Rattle.std.specs.declared.ops.Bound.TheVariants.{Included, Excluded, Unbounded}
use Rattle.std.proofs.lemmas.Bool.{cond-true, cond-false}
use Rattle.std.proofs.lemmas.Cmp.{tied_itself}
use Rattle.snap_path.specs.Text.{Names}
use Rattle.snap_layer.specs.Directory.{names_from}
use Rattle.snap_layer.specs.Rows.{name_cmp}

-- the name is from the bound on
abbrev is_from : Bound (List ℕ) → List ℕ → Bool
is_from from n = range_contains name_cmp from Unbounded n

-- the names of the entries from the bound on
pub keys_from : {X : Type 0} (from : Bound (List ℕ)) (es : List (List ℕ × X)) → names_from from (keys_of es) ≡ keys_of (entries_between name_cmp from Unbounded es)
keys_from from [] = refl
keys_from {X = X} from (e ∷ es) = by (is_from from e.0) (keys_from from es)
  where
    by : (b : Bool) → names_from from (keys_of es) ≡ keys_of (entries_between name_cmp from Unbounded es) → cond b (e.0 ∷ names_from from (keys_of es)) (names_from from (keys_of es)) ≡ keys_of (cond b (e ∷ entries_between name_cmp from Unbounded es) (entries_between name_cmp from Unbounded es))
    by true later = ap (λ (ns : Names). e.0 ∷ ns) later
    by false later = later

-- ---- the name after one

not_after_itself : (n : List ℕ) → is_from (Excluded n) n ≡ false
not_after_itself n = ap (λ r. is_lt r && true) (tied_itself nat_list_cmp_total n)

after_less : (n m : List ℕ) → name_cmp n m ≡ Less → is_from (Excluded n) m ≡ true
after_less n m e = ap (λ r. is_lt r && true) e

not_after : (n m : List ℕ) → name_cmp n m ≡ Less → is_from (Excluded m) n ≡ false
not_after n m e = ap (λ r. is_lt r && true) (nat_list_cmp_total.antisymm m n ∙ ap ordering_reverse e)

-- what is after a name from the bound on is from the bound on
from_less : (from : Bound (List ℕ)) (n m : List ℕ) → is_from from n ≡ true → name_cmp n m ≡ Less → is_from from m ≡ true
from_less Unbounded n m e f = refl
from_less (Excluded k) n m e f = by (name_cmp k n) refl e
  where
    by : (r : Ordering) → name_cmp k n ≡ r → (is_lt r && true) ≡ true → is_from (Excluded k) m ≡ true
    by Less p t = after_less k m (nat_list_cmp_total.trans k n m p f)
    by Equal p t = absurd (cc)
    by Greater p t = absurd (cc)
from_less (Included k) n m e f = by (name_cmp k n) refl e
  where
    by : (r : Ordering) → name_cmp k n ≡ r → (is_le r && true) ≡ true → is_from (Included k) m ≡ true
    by Less p t = ap (λ r. is_le r && true) (nat_list_cmp_total.trans k n m p f)
    by Equal p t = ap (λ r. is_le r && true) (nat_list_cmp_total.congr k n m p ∙ f)
    by Greater p t = absurd (cc)

all_from : (from : Bound (List ℕ)) (n : List ℕ) (ns : Names) → is_from from n ≡ true → AllByRecursion (λ m. name_cmp n m ≡ Less) ns → names_from from ns ≡ ns
all_from from n [] e a = refl
all_from from n (m ∷ ns) e a = cond-true (is_from from m) (m ∷ names_from from ns) (names_from from ns) (from_less from n m e a.0) ∙ ap (λ (l : Names). m ∷ l) (all_from from n ns e a.1)

all_after : (n : List ℕ) (ns : Names) → AllByRecursion (λ m. name_cmp n m ≡ Less) ns → names_from (Excluded n) ns ≡ ns
all_after n [] a = refl
all_after n (m ∷ ns) a = cond-true (is_from (Excluded n) m) (m ∷ names_from (Excluded n) ns) (names_from (Excluded n) ns) (after_less n m a.0) ∙ ap (λ (l : Names). m ∷ l) (all_after n ns a.1)

-- what holds of all holds of the first from the bound on
first_is : (P : List ℕ → Type 0) (from : Bound (List ℕ)) (ns : Names) (n : List ℕ) (rest : Names) → AllByRecursion P ns → names_from from ns ≡ n ∷ rest → P n
first_is P from [] n rest a e = absurd (cc)
first_is P from (m ∷ ns) n rest a e = by (first_is P from ns n rest a.1) (is_from from m) e
  where
    by : (names_from from ns ≡ n ∷ rest → P n) → (b : Bool) → cond b (m ∷ names_from from ns) (names_from from ns) ≡ n ∷ rest → P n
    by later true is = let same : m ≡ n = cc in subst P same a.0
    by later false is = later is

-- the names after the first one are the others
pub after_first : (from : Bound (List ℕ)) (ns : Names) (n : List ℕ) (rest : Names) → IsStrictlySortedBy name_cmp ns → names_from from ns ≡ n ∷ rest → names_from (Excluded n) ns ≡ rest
unfolding IsStrictlySortedBy
after_first from [] n rest sorted is = absurd (cc)
after_first from (m ∷ ns) n rest sorted is = by (after_first from ns n rest sorted.1) (is_from from m) refl is
  where
    by : (names_from from ns ≡ n ∷ rest → names_from (Excluded n) ns ≡ rest) → (b : Bool) → is_from from m ≡ b → cond b (m ∷ names_from from ns) (names_from from ns) ≡ n ∷ rest → cond (is_from (Excluded n) m) (m ∷ names_from (Excluded n) ns) (names_from (Excluded n) ns) ≡ rest
    by later true test first =
        let same : m ≡ n = cc in
        let others : names_from from ns ≡ rest = cc in
        cond-false (is_from (Excluded n) m) (m ∷ names_from (Excluded n) ns) (names_from (Excluded n) ns) (ap (is_from (Excluded n)) same ∙ not_after_itself n)
        ∙ all_after n ns (subst (λ k. AllByRecursion (λ y. name_cmp k y ≡ Less) ns) same sorted.0)
        ∙ sym (all_from from m ns test sorted.0)
        ∙ others
    by later false test first =
        cond-false (is_from (Excluded n) m) (m ∷ names_from (Excluded n) ns) (names_from (Excluded n) ns) (not_after m n (first_is (λ y. name_cmp m y ≡ Less) from ns n rest sorted.0 first))
        ∙ later first
