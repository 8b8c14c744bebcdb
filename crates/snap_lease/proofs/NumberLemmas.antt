-- Leases by their numbers, and the index of these numbers, before and after a change.
use Rattle.std.proofs.Common.{◌≡◌, ◌↔◌, ℕ, suc, ◌-◌, ◌<◌, Bool, true, false, true≢false, not, cond, count_by, List, [], ◌∷◌, ◌++◌, ◌≢◌, ◌&&◌, ◌||◌, filter, find, length, get_or, set, Option, None, Some, is_some, IfSome, Result, Ok, Err, String, BTreeMap, string_bytes, refl, sym, ap, ◌∙◌, subst, arith, bytes_eq}
use Rattle.std.proofs.lemmas.Cmp.{by_ranked, nat_cmp_total, ranked, tied_itself}
use Rattle.std.proofs.lemmas.List.{map-append}
use Rattle.std.proofs.lemmas.List.Sums.{sum_by-cons}
use Rattle.std.proofs.lemmas.Map.Text.{is_eq-slice_cmp}
use Rattle.std.proofs.lemmas.Slice.Eq.{bytes_eq-Decides}
use Rattle.std.specs.BTreeMap.{btree_map_len, get_by_text, insert_entry, is_at}
use Rattle.std.specs.Cmp.Lexicographic.{slice_cmp}
use Rattle.std.specs.List.{AllByRecursion, IsDistinct, list_any}
use Rattle.std.specs.List.Sorted.{IsStrictlySortedBy}
use Rattle.std.specs.Map.{keys_of, values_of, lookup, set_value, remove_entry}
use Rattle.std.specs.Option.{option_and_then, option_map}
use Rattle.std.specs.Result.{OnErr}
use Rattle.std.specs.Ordering.{is_eq, match_ordering, nat_cmp, ordering_reverse}
use Rattle.std.specs.declared.cmp.Ordering.TheVariants.{Less, Greater}
use Rattle.snap_counts.proofs.Lists.{one_if}
use Rattle.snap_counts.proofs.Reading.{Sets, lookup-by_bytes, read-Sets}
use Rattle.snap_counts.specs.Counts.{by_bytes, count_within}
use Rattle.snap_lease.specs.Index.{IsUncounted, NameCounts}
use Rattle.snap_lease.specs.Lease.{Lease, empty_lease, is_lease, is_of, with_lease_name}
use Rattle.snap_lease.specs.Leases.{AreDistinct, guards, has_lease, has_leases, with_name_added, without_lease}
use Rattle.snap_lease.specs.Numbers.{AreNumbers, AreUnnumbered, LeaseIndex, index_of, number_in, lease_number}
use Rattle.snap_lease.proofs.LeaseLemmas.{list_any-map}
use Rattle.snap_lease.proofs.ListLemmas.{bytes_eq_comm, filter-none, has_lease-after, is_lease-parts, is_lease_comm, list_any-tail, set-with_name_added, with_name-name, with_name-namespace}

-- ---- numbers

less-apart : (k n : ℕ) → nat_cmp k n ≡ Less → is_eq (nat_cmp n k) ≡ false
less-apart k n less = ap is_eq (nat_cmp_total.antisymm n k ∙ ap ordering_reverse less)

greater : (n k : ℕ) → k < n → nat_cmp n k ≡ Greater
greater n k below =
    by_ranked (n < k) (n ≡ k) (k < n) (nat_cmp n k) (ranked n k (nat_cmp n k) refl)
    (λ e above. absurd (omega (arith, above, below))) (λ e same. absurd (omega (arith, same, below))) (λ e under. e)

-- an entry above all others goes last
pub insert_entry-last : {X : Type 0} (n : ℕ) (x : X) (es : List (ℕ × X)) → AllByRecursion (λ k. k < n) (keys_of es) → insert_entry nat_cmp es n x ≡ es ++ (n, x) ∷ []
insert_entry-last n x [] below = refl
insert_entry-last n x (e ∷ es) below =
    ap (λ o. match_ordering o ((n, x) ∷ e ∷ es) ((e.0, x) ∷ es) (e ∷ insert_entry nat_cmp es n x)) (greater n e.0 below.0)
    ∙ ap (λ rest. e ∷ rest) (insert_entry-last n x es below.1)

pub values-push : {X : Type 0} (n : ℕ) (x : X) (es : List (ℕ × X)) → values_of (es ++ (n, x) ∷ []) ≡ values_of es ++ x ∷ []
values-push n x es = map-append (λ e. e.1) es ((n, x) ∷ [])

pub values-filter : {X : Type 0} (p : X → Bool) (es : List (ℕ × X)) → values_of (filter (λ e. p e.1) es) ≡ filter p (values_of es)
values-filter p [] = refl
values-filter p (e ∷ es) = by (p e.1) (values-filter p es)
  where
    by : (b : Bool) → values_of (filter (λ e. p e.1) es) ≡ filter p (values_of es)
        → values_of (cond b (e ∷ filter (λ e. p e.1) es) (filter (λ e. p e.1) es)) ≡ cond b (e.1 ∷ filter p (values_of es)) (filter p (values_of es))
    by true rest = ap (λ xs. e.1 ∷ xs) rest
    by false rest = rest

-- ---- the number of a lease

-- a lease of one namespace and name is of another exactly where these are the same
is_lease-same : (namespace lease space q : List ℕ) (l : Lease) → is_lease namespace lease l ≡ true → is_lease space q l ≡ (bytes_eq space namespace && bytes_eq q lease)
is_lease-same namespace lease space q l is =
    let parts = is_lease-parts namespace lease l is in
    ap (λ n. bytes_eq space n && bytes_eq q l.name) (sym parts.0) ∙ ap (λ n. bytes_eq space namespace && bytes_eq q n) (sym parts.1)

pub same_comm : (namespace lease space q : List ℕ) → (bytes_eq namespace space && bytes_eq lease q) ≡ (bytes_eq space namespace && bytes_eq q lease)
same_comm namespace lease space q = ap (λ b. b && bytes_eq lease q) (bytes_eq_comm namespace space) ∙ ap (λ b. bytes_eq space namespace && b) (bytes_eq_comm lease q)

module _ (space q : List ℕ) where
  pub number_of-none : (es : List (ℕ × Lease)) → has_lease (values_of es) space q ≡ false → lease_number space q es ≡ None
  number_of-none [] none = refl
  number_of-none (e ∷ es) none =
      let both = list_any-tail (is_lease space q) e.1 (values_of es) none in
      ap (λ b. cond b (Some e.0) (lease_number space q es)) both.0 ∙ number_of-none es both.1

  pub has_number : (es : List (ℕ × Lease)) → is_some (lease_number space q es) ≡ has_lease (values_of es) space q
  has_number [] = refl
  has_number (e ∷ es) = by (is_lease space q e.1) (has_number es)
    where
      by : (b : Bool) → is_some (lease_number space q es) ≡ has_lease (values_of es) space q → is_some (cond b (Some e.0) (lease_number space q es)) ≡ (b || has_lease (values_of es) space q)
      by true rest = refl
      by false rest = rest

  -- the lease that a test of the numbers finds is written anew, with its namespace and its name
  pub number_of-set : (t : ℕ → Bool) (old w : Lease) → is_lease space q w ≡ is_lease space q old → (es : List (ℕ × Lease)) → lookup t es ≡ Some old → lease_number space q (set_value t es w) ≡ lease_number space q es
  number_of-set t old w same [] found = refl
  number_of-set t old w same (e ∷ es) found = by (t e.0) found (number_of-set t old w same es)
    where
      by : (b : Bool) → cond b (Some e.1) (lookup t es) ≡ Some old → (lookup t es ≡ Some old → lease_number space q (set_value t es w) ≡ lease_number space q es)
          → lease_number space q (cond b ((e.0, w) ∷ es) (e ∷ set_value t es w)) ≡ lease_number space q (e ∷ es)
      by true here rest = let is : old ≡ e.1 = cc in ap (λ b. cond b (Some e.0) (lease_number space q es)) (same ∙ ap (is_lease space q) is)
      by false later rest = ap (cond (is_lease space q e.1) (Some e.0)) (rest later)

  -- a lease that is new goes last
  pub number_of-push : (n : ℕ) (l : Lease) (es : List (ℕ × Lease)) → has_lease (values_of es) l.namespace l.name ≡ false → lease_number space q (es ++ (n, l) ∷ []) ≡ cond (is_lease space q l) (Some n) (lease_number space q es)
  number_of-push n l [] absent = refl
  number_of-push n l (e ∷ es) absent =
      let both = list_any-tail (is_lease l.namespace l.name) e.1 (values_of es) absent in
      by (is_lease space q e.1) refl both.0 (number_of-push n l es both.1)
    where
      by : (b : Bool) → is_lease space q e.1 ≡ b → is_lease l.namespace l.name e.1 ≡ false → lease_number space q (es ++ (n, l) ∷ []) ≡ cond (is_lease space q l) (Some n) (lease_number space q es)
          → cond b (Some e.0) (lease_number space q (es ++ (n, l) ∷ [])) ≡ cond (is_lease space q l) (Some n) (cond b (Some e.0) (lease_number space q es))
      by true is other rest =
          let parts = is_lease-parts space q e.1 is in
          let apart : is_lease space q l ≡ false = ap (λ s. is_lease s q l) parts.0 ∙ ap (λ m. is_lease e.1.namespace m l) parts.1 ∙ is_lease_comm e.1 l ∙ other in
          sym (ap (λ b. cond b (Some n) (Some e.0)) apart)
      by false is other rest = rest

  -- the namespace's lease of a name goes
  pub number_of-without : (namespace lease : List ℕ) (es : List (ℕ × Lease))
      → lease_number space q (filter (λ e. not (is_lease namespace lease e.1)) es) ≡ cond (bytes_eq space namespace && bytes_eq q lease) None (lease_number space q es)
  number_of-without namespace lease [] = by (bytes_eq space namespace && bytes_eq q lease)
    where
      by : (b : Bool) → lease_number space q [] ≡ cond b None (lease_number space q [])
      by true = refl
      by false = refl
  number_of-without namespace lease (e ∷ es) = by (is_lease namespace lease e.1) (is_lease space q e.1) refl refl (number_of-without namespace lease es)
    where
      both : (s b : Bool) → s ≡ b → (o p : Option ℕ) → o ≡ cond s None p → o ≡ cond s None (cond b (Some e.0) p)
      both s true same o p is = is ∙ ap (λ x. cond x None p) same ∙ sym (ap (λ x. cond x None (Some e.0)) same)
      both s false same o p is = is

      by : (a b : Bool) → is_lease namespace lease e.1 ≡ a → is_lease space q e.1 ≡ b
          → lease_number space q (filter (λ e. not (is_lease namespace lease e.1)) es) ≡ cond (bytes_eq space namespace && bytes_eq q lease) None (lease_number space q es)
          → lease_number space q (cond (not a) (e ∷ filter (λ e. not (is_lease namespace lease e.1)) es) (filter (λ e. not (is_lease namespace lease e.1)) es)) ≡ cond (bytes_eq space namespace && bytes_eq q lease) None (cond b (Some e.0) (lease_number space q es))
      by true b gone is rest = both (bytes_eq space namespace && bytes_eq q lease) b (sym (is_lease-same namespace lease space q e.1 gone) ∙ is) _ (lease_number space q es) rest
      by false true stays is rest =
          let apart : (bytes_eq space namespace && bytes_eq q lease) ≡ false = sym (same_comm namespace lease space q) ∙ sym (is_lease-same space q namespace lease e.1 is) ∙ stays in
          ap (λ x. cond x (Some e.0) (lease_number space q (filter (λ e. not (is_lease namespace lease e.1)) es))) is ∙ sym (ap (λ x. cond x None (Some e.0)) apart)
      by false false stays is rest = ap (λ x. cond x (Some e.0) (lease_number space q (filter (λ e. not (is_lease namespace lease e.1)) es))) is ∙ rest

  and_none : (b : Bool) → (b && false) ≡ false
  and_none true = refl
  and_none false = refl

  any-and : (t p : Lease → Bool) (ls : List Lease) → list_any p ls ≡ false → list_any (λ l. t l && p l) ls ≡ false
  any-and t p [] none = refl
  any-and t p (l ∷ ls) none =
      let both = list_any-tail p l ls none in
      ap (λ b. (t l && b) || list_any (λ l. t l && p l) ls) both.0 ∙ ap (λ b. b || list_any (λ l. t l && p l) ls) (and_none (t l)) ∙ any-and t p ls both.1

  -- the leases that pass a test go
  pub number_of-filter : (test : Lease → Bool) (es : List (ℕ × Lease)) → AreDistinct (values_of es)
      → lease_number space q (filter (λ e. not (test e.1)) es) ≡ cond (list_any (λ l. test l && is_lease space q l) (values_of es)) None (lease_number space q es)
  unfolding IsDistinct
  number_of-filter test [] distinct = refl
  number_of-filter test (e ∷ es) distinct = by (test e.1) (is_lease space q e.1) refl (number_of-filter test es distinct.1)
    where
      some : Bool
      some = list_any (λ l. test l && is_lease space q l) (values_of es)

      either : (b : Bool) (o : Option ℕ) → o ≡ None → cond b None o ≡ None
      either true o none = refl
      either false o none = none

      by : (a b : Bool) → is_lease space q e.1 ≡ b
          → lease_number space q (filter (λ e. not (test e.1)) es) ≡ cond some None (lease_number space q es)
          → lease_number space q (cond (not a) (e ∷ filter (λ e. not (test e.1)) es) (filter (λ e. not (test e.1)) es)) ≡ cond ((a && b) || some) None (cond b (Some e.0) (lease_number space q es))
      by true true is rest = rest ∙ either some (lease_number space q es) (number_of-none es (has_lease-after space q e.1 (values_of es) distinct is))
      by true false is rest = rest
      by false true is rest =
          let none : some ≡ false = any-and test (is_lease space q) (values_of es) (has_lease-after space q e.1 (values_of es) distinct is) in
          ap (λ x. cond x (Some e.0) (lease_number space q (filter (λ e. not (test e.1)) es))) is ∙ sym (ap (λ x. cond x None (Some e.0)) none)
      by false false is rest = ap (λ x. cond x (Some e.0) (lease_number space q (filter (λ e. not (test e.1)) es))) is ∙ rest

-- what was put at a lease that had no number was taken back
pub number_back : (same : Bool) (n : ℕ) (before during after : Option ℕ) → (same ≡ true → before ≡ None) → during ≡ cond same (Some n) before → after ≡ cond same None during → after ≡ before
number_back true n before during after none put taken = taken ∙ sym (none refl)
number_back false n before during after none put taken = taken ∙ put

-- two texts are the same where both tests say so
pub both_same : (space namespace q lease : List ℕ) → (bytes_eq space namespace && bytes_eq q lease) ≡ true → (space ≡ namespace) × (q ≡ lease)
both_same space namespace q lease is =
    let both : (bytes_eq space namespace ≡ true) × (bytes_eq q lease ≡ true) = grind arith in
    ((bytes_eq-Decides space namespace).0 both.0, (bytes_eq-Decides q lease).0 both.1)

-- ---- the lease at a number

-- a test of the numbers passes where a test of the leases does
abbrev pub Agree : (ℕ → Bool) → (Lease → Bool) → List (ℕ × Lease) → Type 0
Agree t p es = AllByRecursion (λ e. t e.0 ≡ p e.1) es

module _ (namespace lease : List ℕ) (n : ℕ) where
  agree-after : (es : List (ℕ × Lease)) → AllByRecursion (λ k. nat_cmp n k ≡ Less) (keys_of es) → has_lease (values_of es) namespace lease ≡ false → Agree (is_at (nat_cmp n)) (is_lease namespace lease) es
  agree-after [] above none = tt
  agree-after (e ∷ es) above none =
      let both = list_any-tail (is_lease namespace lease) e.1 (values_of es) none in
      (ap is_eq above.0 ∙ sym both.0, agree-after es above.1 both.1)

  number-above : (k : ℕ) (es : List (ℕ × Lease)) → AllByRecursion (λ i. nat_cmp k i ≡ Less) (keys_of es) → lease_number namespace lease es ≡ Some n → nat_cmp k n ≡ Less
  number-above k [] above found = cc
  number-above k (e ∷ es) above found = by (is_lease namespace lease e.1) found (number-above k es above.1)
    where
      by : (b : Bool) → cond b (Some e.0) (lease_number namespace lease es) ≡ Some n → (lease_number namespace lease es ≡ Some n → nat_cmp k n ≡ Less) → nat_cmp k n ≡ Less
      by true here rest = let same : n ≡ e.0 = cc in ap (nat_cmp k) same ∙ above.0
      by false later rest = rest later

  -- the lease's number leads to that lease alone
  pub numbered : (es : List (ℕ × Lease)) → IsStrictlySortedBy nat_cmp (keys_of es) → AreDistinct (values_of es) → lease_number namespace lease es ≡ Some n → Agree (is_at (nat_cmp n)) (is_lease namespace lease) es
  unfolding IsStrictlySortedBy IsDistinct
  numbered [] sorted distinct found = tt
  numbered (e ∷ es) sorted distinct found = by (is_lease namespace lease e.1) refl found (numbered es sorted.1 distinct.1)
    where
      by : (b : Bool) → is_lease namespace lease e.1 ≡ b → cond b (Some e.0) (lease_number namespace lease es) ≡ Some n
          → (lease_number namespace lease es ≡ Some n → Agree (is_at (nat_cmp n)) (is_lease namespace lease) es) → Agree (is_at (nat_cmp n)) (is_lease namespace lease) (e ∷ es)
      by true is here rest =
          let same : e.0 ≡ n = cc in (
            ap (λ k. is_eq (nat_cmp n k)) same ∙ ap is_eq (tied_itself nat_cmp_total n) ∙ sym is,
            agree-after es (subst (λ k. AllByRecursion (λ i. nat_cmp k i ≡ Less) (keys_of es)) same sorted.0) (has_lease-after namespace lease e.1 (values_of es) distinct is),
          )
      by false is later rest = (less-apart e.0 n (number-above e.0 es sorted.0 later) ∙ sym is, rest later)

module _ (t : ℕ → Bool) where
  -- it is found
  pub lookup-number : (namespace lease : List ℕ) (es : List (ℕ × Lease)) → Agree t (is_lease namespace lease) es → is_some (lookup t es) ≡ is_some (lease_number namespace lease es)
  lookup-number namespace lease [] agree = refl
  lookup-number namespace lease (e ∷ es) agree =
      ap (λ b. is_some (cond b (Some e.1) (lookup t es))) agree.0 ∙ by (is_lease namespace lease e.1) (lookup-number namespace lease es agree.1)
    where
      by : (b : Bool) → is_some (lookup t es) ≡ is_some (lease_number namespace lease es) → is_some (cond b (Some e.1) (lookup t es)) ≡ is_some (cond b (Some e.0) (lease_number namespace lease es))
      by true rest = refl
      by false rest = rest

  pub lookup-find : (p : Lease → Bool) (es : List (ℕ × Lease)) → Agree t p es → lookup t es ≡ find p (values_of es)
  lookup-find p [] agree = refl
  lookup-find p (e ∷ es) agree = ap (λ b. cond b (Some e.1) (lookup t es)) agree.0 ∙ ap (cond (p e.1) (Some e.1)) (lookup-find p es agree.1)

  -- it stands at a place among the leases, and a write at its number is a write at that place
  pub record Stands (p : Lease → Bool) (es : List (ℕ × Lease)) (l : Lease) : Type 0 where
    pub place : ℕ
    pub within : place < length (values_of es)
    pub at : l ≡ get_or (values_of es) place l
    pub passes : p (get_or (values_of es) place l) ≡ true
    pub writes : (w : Lease) → values_of (set_value t es w) ≡ set (values_of es) place w

  pub stands : (p : Lease → Bool) (l : Lease) (es : List (ℕ × Lease)) → Agree t p es → lookup t es ≡ Some l → Stands p es l
  stands p l [] agree found = absurd (none_some found)
    where
      none_some : None ≡ Some l → ⊥
      none_some e = cc
  stands p l (e ∷ es) agree found = by (t e.0) refl found (stands p l es agree.1)
    where
      by : (b : Bool) → t e.0 ≡ b → cond b (Some e.1) (lookup t es) ≡ Some l → (lookup t es ≡ Some l → Stands p es l) → Stands p (e ∷ es) l
      by true is here rest =
          let same : l ≡ e.1 = cc in
          record {
            place = 0;
            within = omega arith;
            at = same;
            passes = sym agree.0 ∙ is;
            writes = λ w. ap (λ b. values_of (cond b ((e.0, w) ∷ es) (e ∷ set_value t es w))) is;
          }
      by false is later rest =
          let there = rest later in
          record {
            place = suc there.place;
            within = omega (arith, there.within);
            at = there.at;
            passes = there.passes;
            writes = λ w. ap (λ b. values_of (cond b ((e.0, w) ∷ es) (e ∷ set_value t es w))) is ∙ ap (λ ls. e.1 ∷ ls) (there.writes w);
          }

  -- it goes, and no other
  pub removed : (namespace lease : List ℕ) (es : List (ℕ × Lease)) → Agree t (is_lease namespace lease) es → AreDistinct (values_of es) → remove_entry t es ≡ filter (λ e. not (is_lease namespace lease e.1)) es
  unfolding IsDistinct
  removed namespace lease [] agree distinct = refl
  removed namespace lease (e ∷ es) agree distinct =
      ap (λ b. cond b es (e ∷ remove_entry t es)) agree.0 ∙ by (is_lease namespace lease e.1) refl (removed namespace lease es agree.1 distinct.1)
    where
      by : (b : Bool) → is_lease namespace lease e.1 ≡ b → remove_entry t es ≡ filter (λ e. not (is_lease namespace lease e.1)) es
          → cond b es (e ∷ remove_entry t es) ≡ cond (not b) (e ∷ filter (λ e. not (is_lease namespace lease e.1)) es) (filter (λ e. not (is_lease namespace lease e.1)) es)
      by true is rest =
          sym (filter-none (λ e. is_lease namespace lease e.1) es (sym (list_any-map (is_lease namespace lease) (λ e. e.1) es) ∙ has_lease-after namespace lease e.1 (values_of es) distinct is))
      by false is rest = ap (λ rest. e ∷ rest) rest

-- ---- the index

-- an index as a map of maps
abbrev pub IndexMap : Type 0 → Type 0
IndexMap Z = BTreeMap (String Z) (BTreeMap (String Z) ℕ)

pub not_both : (b : Bool) → b ≡ false → b ≡ true → ⊥
not_both b not_so so = let both : true ≡ false = sym so ∙ not_so in cc

pub none_either : (b : Bool) (o : Option ℕ) → o ≡ None → None ≡ cond b None o
none_either true o is = refl
none_either false o is = sym is

module _ {Z : Type 0} where
  -- the number of a name among a namespace's
  abbrev pub number_among : List ℕ → Option (BTreeMap (String Z) ℕ) → Option ℕ
  number_among q names = option_and_then (λ names. get_by_text names q) names

  -- a namespace is found among the bytes as among the keys
  lookup-index_of : (space : List ℕ) (es : List (String Z × BTreeMap (String Z) ℕ))
      → lookup (bytes_eq space) (index_of es) ≡ option_map (λ names. by_bytes names.entries) (lookup (is_at (λ k. slice_cmp nat_cmp space (string_bytes k))) es)
  lookup-index_of space [] = refl
  lookup-index_of space (e ∷ es) =
      ap (λ b. cond b (Some (by_bytes e.1.entries)) (lookup (bytes_eq space) (index_of es))) (sym (is_eq-slice_cmp space (string_bytes e.0)))
      ∙ by (is_at (λ k. slice_cmp nat_cmp space (string_bytes k)) e.0) (lookup-index_of space es)
    where
      by : (b : Bool) → lookup (bytes_eq space) (index_of es) ≡ option_map (λ names. by_bytes names.entries) (lookup (is_at (λ k. slice_cmp nat_cmp space (string_bytes k))) es)
          → cond b (Some (by_bytes e.1.entries)) (lookup (bytes_eq space) (index_of es)) ≡ option_map (λ names. by_bytes names.entries) (cond b (Some e.1) (lookup (is_at (λ k. slice_cmp nat_cmp space (string_bytes k))) es))
      by true rest = refl
      by false rest = rest

  -- so is a number
  pub number_in-index_of : (space q : List ℕ) (m : IndexMap Z) → number_in space q (index_of m.entries) ≡ number_among q (get_by_text m space)
  number_in-index_of space q m = ap (option_and_then (lookup (bytes_eq q))) (lookup-index_of space m.entries) ∙ by (get_by_text m space)
    where
      by : (o : Option (BTreeMap (String Z) ℕ)) → option_and_then (lookup (bytes_eq q)) (option_map (λ names. by_bytes names.entries) o) ≡ number_among q o
      by None = refl
      by (Some names) = lookup-by_bytes q names.entries

  -- what is read of a number where the names of a namespace change
  read-number : (old new : IndexMap Z) (seen : LeaseIndex) (namespace : List ℕ) (names : Option (BTreeMap (String Z) ℕ)) (f : List ℕ → List ℕ → Option ℕ → Option ℕ) → index_of old.entries ≡ seen → Sets old new namespace names
      → ((space : List ℕ) → bytes_eq space namespace ≡ true → (q : List ℕ) → number_among q names ≡ f space q (number_among q (get_by_text old space)))
      → ((space : List ℕ) → bytes_eq space namespace ≡ false → (q : List ℕ) (o : Option ℕ) → o ≡ f space q o)
      → (space q : List ℕ) → number_in space q (index_of new.entries) ≡ f space q (number_in space q seen)
  read-number old new seen namespace names f view sets here elsewhere space q =
      number_in-index_of space q new ∙ read-Sets (number_among q) old new namespace names sets space ∙ by (bytes_eq space namespace) refl
      ∙ ap (f space q) (sym (number_in-index_of space q old) ∙ ap (number_in space q) view)
    where
      by : (b : Bool) → bytes_eq space namespace ≡ b → cond b (number_among q names) (number_among q (get_by_text old space)) ≡ f space q (number_among q (get_by_text old space))
      by true same = here space same q
      by false differ = elsewhere space differ q (number_among q (get_by_text old space))

  -- the names of a namespace change, at one name
  pub number_in-set : (old new : IndexMap Z) (seen : LeaseIndex) (namespace lease : List ℕ) (names : Option (BTreeMap (String Z) ℕ)) (w : Option ℕ) → index_of old.entries ≡ seen → Sets old new namespace names
      → ((q : List ℕ) → number_among q names ≡ cond (bytes_eq q lease) w (number_among q (get_by_text old namespace)))
      → (space q : List ℕ) → number_in space q (index_of new.entries) ≡ cond (bytes_eq space namespace && bytes_eq q lease) w (number_in space q seen)
  number_in-set old new seen namespace lease names w view sets one =
      read-number old new seen namespace names (λ space q o. cond (bytes_eq space namespace && bytes_eq q lease) w o) view sets
      (λ space same q. one q ∙ ap (λ s. cond (bytes_eq q lease) w (number_among q (get_by_text old s))) (sym ((bytes_eq-Decides space namespace).0 same)) ∙ ap (λ b. cond (b && bytes_eq q lease) w (number_among q (get_by_text old space))) (sym same))
      (λ space differ q o. ap (λ b. cond (b && bytes_eq q lease) w o) (sym differ))

  -- the names of a namespace are written as they were
  pub number_in-same : (old new : IndexMap Z) (seen : LeaseIndex) (namespace : List ℕ) (names : Option (BTreeMap (String Z) ℕ)) → index_of old.entries ≡ seen → Sets old new namespace names
      → ((q : List ℕ) → number_among q names ≡ number_among q (get_by_text old namespace)) → (space q : List ℕ) → number_in space q (index_of new.entries) ≡ number_in space q seen
  number_in-same old new seen namespace names view sets one =
      read-number old new seen namespace names (λ space q o. o) view sets
      (λ space same q. one q ∙ ap (λ s. number_among q (get_by_text old s)) (sym ((bytes_eq-Decides space namespace).0 same)))
      (λ space differ q o. refl)

  pub no_names : (q : List ℕ) (m : BTreeMap (String Z) ℕ) → btree_map_len m ≡ 0 → get_by_text m q ≡ None
  no_names q m empty = by m.entries empty
    where
      by : (es : List (String Z × ℕ)) → length es ≡ 0 → lookup (is_at (λ k. slice_cmp nat_cmp q (string_bytes k))) es ≡ None
      by [] e = refl
      by (x ∷ es) e = absurd (omega arith)

  -- where no name is found there is none
  pub no_name : (m : BTreeMap (String Z) ℕ) → ((q : List ℕ) → get_by_text m q ≡ None) → btree_map_len m ≡ 0
  no_name m none = by m.entries (λ q. lookup-by_bytes q m.entries ∙ none q)
    where
      by : (es : List (String Z × ℕ)) → ((q : List ℕ) → lookup (bytes_eq q) (by_bytes es) ≡ None) → length es ≡ 0
      by [] read = refl
      by (e ∷ es) read =
          let text = string_bytes e.0 in
          let found : lookup (bytes_eq text) (by_bytes (e ∷ es)) ≡ Some e.1 = ap (λ b. cond b (Some e.1) (lookup (bytes_eq text) (by_bytes es))) ((bytes_eq-Decides text text).1 refl) in
          let absent : lookup (bytes_eq text) (by_bytes (e ∷ es)) ≡ None = read text in
          absurd (cc)

  -- a namespace is found exactly where one of its names has a number
  pub found-numbered : (m : IndexMap Z) (seen : LeaseIndex) (space : List ℕ) (found : Bool) → found ≡ is_some (get_by_text m space) → index_of m.entries ≡ seen → ((q : List ℕ) → IfSome (get_by_text m q) (λ names. btree_map_len names ≢ 0))
      → (found ≡ false) ↔ ((q : List ℕ) → number_in space q seen ≡ None)
  found-numbered m seen space found is view all = by (get_by_text m space) refl (all space)
    where
      by : (o : Option (BTreeMap (String Z) ℕ)) → get_by_text m space ≡ o → IfSome o (λ names. btree_map_len names ≢ 0) → (found ≡ false) ↔ ((q : List ℕ) → number_in space q seen ≡ None)
      by None at some =
          (λ none q. sym (ap (number_in space q) view) ∙ number_in-index_of space q m ∙ ap (number_among q) at, λ none. is ∙ ap is_some at)
      by (Some names) at some = (
        λ none. absurd (true≢false (sym (is ∙ ap is_some at) ∙ none)),
        λ none. absurd (some (no_name names (λ q. sym (ap (number_among q) at) ∙ sym (number_in-index_of space q m) ∙ ap (number_in space q) view ∙ none q))),
      )

  -- a map of names isn't empty once one of them got a number
  pub named-put : (old new : BTreeMap (String Z) ℕ) (lease : List ℕ) (n : ℕ) → Sets old new lease (Some n) → btree_map_len new ≢ 0
  named-put old new lease n sets empty =
      let same : bytes_eq lease lease ≡ true = (bytes_eq-Decides lease lease).1 refl in
      let there : get_by_text new lease ≡ Some n = read-Sets (λ o. o) old new lease (Some n) sets lease ∙ ap (λ b. cond b (Some n) (get_by_text old lease)) same in
      let none : get_by_text new lease ≡ None = no_names lease new empty in
      cc

-- what holds in any case holds after an error
pub on_err : {T E P : Type 0} (r : Result T E) → P → OnErr r P
on_err (Ok x) p = tt
on_err (Err e) p = p

-- ---- the leases with their index

module _ (es : List (ℕ × Lease)) where
  -- the namespace has the lease exactly where the lease has a number
  pub has_lease_at_number : (ls : List Lease) (index : LeaseIndex) (namespace lease : List ℕ) (number : Option ℕ) → number ≡ number_in namespace lease index → AreNumbers es index → values_of es ≡ ls → has_lease ls namespace lease ≡ is_some number
  has_lease_at_number ls index namespace lease number at are view =
      ap (λ ks. has_lease ks namespace lease) (sym view) ∙ sym (has_number namespace lease es) ∙ ap is_some (sym (are namespace lease) ∙ sym at)

  module _ (index : LeaseIndex) (namespace lease : List ℕ) (n : ℕ) (ordered : IsStrictlySortedBy nat_cmp (keys_of es)) (distinct : AreDistinct (values_of es)) (are : AreNumbers es index) (found : Some n ≡ number_in namespace lease index) where
    -- its number leads to it
    pub at_number : Agree (is_at (nat_cmp n)) (is_lease namespace lease) es
    at_number = numbered namespace lease n es ordered distinct (sym (are namespace lease) ∙ sym found)

    pub found_at_number : is_some (lookup (is_at (nat_cmp n)) es) ≡ true
    found_at_number = lookup-number (is_at (nat_cmp n)) namespace lease es at_number ∙ ap is_some (sym (are namespace lease) ∙ sym found)

    pub stands_at_number : (l : Lease) → lookup (is_at (nat_cmp n)) es ≡ Some l → Stands (is_at (nat_cmp n)) (is_lease namespace lease) es l
    stands_at_number l there = stands (is_at (nat_cmp n)) (is_lease namespace lease) l es at_number there

    pub removed_at_number : remove_entry (is_at (nat_cmp n)) es ≡ filter (λ e. not (is_lease namespace lease e.1)) es
    removed_at_number = removed (is_at (nat_cmp n)) namespace lease es at_number distinct

    pub values-released : values_of (remove_entry (is_at (nat_cmp n)) es) ≡ without_lease (values_of es) namespace lease
    values-released = ap values_of removed_at_number ∙ values-filter (λ l. not (is_lease namespace lease l)) es

  module _ (before after : LeaseIndex) where
    pub numbers-created : (namespace lease : List ℕ) (until : Option ℕ) (n : ℕ) (l : Lease) → l ≡ empty_lease namespace lease until → has_lease (values_of es) namespace lease ≡ false → AreNumbers es before
        → ((space q : List ℕ) → number_in space q after ≡ cond (bytes_eq space namespace && bytes_eq q lease) (Some n) (number_in space q before)) → AreNumbers (es ++ (n, l) ∷ []) after
    numbers-created namespace lease until n l is absent are put space q =
        put space q ∙ ap (cond (bytes_eq space namespace && bytes_eq q lease) (Some n)) (are space q)
        ∙ ap (λ k. cond (is_lease space q k) (Some n) (lease_number space q es)) (sym is)
        ∙ sym (number_of-push space q n l es (ap (λ (k : Lease). has_lease (values_of es) k.namespace k.name) is ∙ absent))

    -- the number of a lease that is not there was put and taken back
    pub numbers-back : (during : LeaseIndex) (namespace lease : List ℕ) (n : ℕ) → has_lease (values_of es) namespace lease ≡ false → AreNumbers es before
        → ((space q : List ℕ) → number_in space q during ≡ cond (bytes_eq space namespace && bytes_eq q lease) (Some n) (number_in space q before))
        → ((space q : List ℕ) → number_in space q after ≡ cond (bytes_eq space namespace && bytes_eq q lease) None (number_in space q during)) → AreNumbers es after
    numbers-back during namespace lease n absent are put taken space q =
        number_back (bytes_eq space namespace && bytes_eq q lease) n (number_in space q before) (number_in space q during) (number_in space q after)
        (λ same. let parts = both_same space namespace q lease same in are space q ∙ ap (λ s. lease_number s q es) parts.0 ∙ ap (λ m. lease_number namespace m es) parts.1 ∙ number_of-none namespace lease es absent)
        (put space q) (taken space q) ∙ are space q

    pub numbers-released : (namespace lease : List ℕ) → AreNumbers es before
        → ((space q : List ℕ) → number_in space q after ≡ cond (bytes_eq space namespace && bytes_eq q lease) None (number_in space q before)) → AreNumbers (filter (λ e. not (is_lease namespace lease e.1)) es) after
    numbers-released namespace lease are taken space q =
        taken space q ∙ ap (cond (bytes_eq space namespace && bytes_eq q lease) None) (are space q) ∙ sym (number_of-without space q namespace lease es)

    pub numbers-ended : (test : Lease → Bool) → AreDistinct (values_of es) → AreNumbers es before → AreUnnumbered test (values_of es) before after → AreNumbers (filter (λ e. not (test e.1)) es) after
    numbers-ended test distinct are ended space q =
        ended space q ∙ ap (cond (list_any (λ l. test l && is_lease space q l) (values_of es)) None) (are space q) ∙ sym (number_of-filter space q test es distinct)

is_lease-with_name : (space q name : List ℕ) (l : Lease) → is_lease space q (with_lease_name name l) ≡ is_lease space q l
is_lease-with_name space q name l =
    ap (λ n. bytes_eq space n && bytes_eq q (with_lease_name name l).name) (with_name-namespace name l) ∙ ap (λ n. bytes_eq space l.namespace && bytes_eq q n) (with_name-name name l)

-- the lease at a number gets a name
module _ (namespace lease name : List ℕ) (n : ℕ) (es new : List (ℕ × Lease)) (entry w : Lease)
    (at : Stands (is_at (nat_cmp n)) (is_lease namespace lease) es entry) (writes : new ≡ set_value (is_at (nat_cmp n)) es w) (is : w ≡ with_lease_name name entry) where
  pub values-written : values_of new ≡ set (values_of es) at.place w
  values-written = ap values_of writes ∙ at.writes w

  pub values-added : AreDistinct (values_of es) → values_of new ≡ with_name_added (values_of es) namespace lease name
  values-added distinct =
      values-written ∙ ap (set (values_of es) at.place) (is ∙ ap (with_lease_name name) at.at)
      ∙ set-with_name_added namespace lease name (values_of es) at.place entry distinct at.within at.passes

  pub numbers-added : (index : LeaseIndex) → lookup (is_at (nat_cmp n)) es ≡ Some entry → AreNumbers es index → AreNumbers new index
  numbers-added index there are space q =
      are space q ∙ sym (number_of-set space q (is_at (nat_cmp n)) entry w (ap (is_lease space q) is ∙ is_lease-with_name space q name entry) es there) ∙ ap (lease_number space q) (sym writes)

-- ---- the leases ahead of a walk

-- an ended lease's names are taken back
pub uncounted-ahead : (test : Lease → Bool) (x : Lease) (left rest : List Lease) (during after : NameCounts) (space name : List ℕ) (total : ℕ) → left ≡ x ∷ rest → test x ≡ true → IsUncounted x during after
    → count_within space name during - count_by (λ l. test l && guards space name l) left ≡ total → count_within space name after - count_by (λ l. test l && guards space name l) rest ≡ total
uncounted-ahead test x left rest during after space name total is passes uncounted so_far =
    let one : one_if (test x && guards space name x) ≡ one_if (guards space name x) = ap (λ b. one_if (b && guards space name x)) passes in
    let all : count_by (λ l. test l && guards space name l) left ≡ count_by (λ l. test l && guards space name l) (x ∷ rest) = ap (count_by (λ l. test l && guards space name l)) is in
    omega (arith, uncounted space name, one, all, sum_by-cons (λ l. one_if (test l && guards space name l)) x rest, so_far)

-- and its number
pub unnumbered-ahead : (test : Lease → Bool) (x : Lease) (left rest : List Lease) (during after : LeaseIndex) (space name : List ℕ) (total : Option ℕ) → left ≡ x ∷ rest → test x ≡ true
    → number_in space name after ≡ cond (is_lease space name x) None (number_in space name during)
    → cond (list_any (λ l. test l && is_lease space name l) left) None (number_in space name during) ≡ total → cond (list_any (λ l. test l && is_lease space name l) rest) None (number_in space name after) ≡ total
unnumbered-ahead test x left rest during after space name total is passes taken so_far =
    by (is_lease space name x) (list_any (λ l. test l && is_lease space name l) rest) (number_in space name during) (number_in space name after) taken
    (ap (λ b. cond ((b && is_lease space name x) || list_any (λ l. test l && is_lease space name l) rest) None (number_in space name during)) (sym passes)
    ∙ ap (λ ls. cond (list_any (λ l. test l && is_lease space name l) ls) None (number_in space name during)) (sym is) ∙ so_far)
  where
    by : (b some : Bool) (old new : Option ℕ) → new ≡ cond b None old → cond (b || some) None old ≡ total → cond some None new ≡ total
    by true true old new gone so_far = so_far
    by true false old new gone so_far = gone ∙ so_far
    by false true old new gone so_far = so_far
    by false false old new gone so_far = gone ∙ so_far

-- a lease that stays takes nothing back
pub uncounted-kept : (test : Lease → Bool) (x : Lease) (left rest : List Lease) (n : ℕ) (space name : List ℕ) (total : ℕ) → left ≡ x ∷ rest → test x ≡ false
    → n - count_by (λ l. test l && guards space name l) left ≡ total → n - count_by (λ l. test l && guards space name l) rest ≡ total
uncounted-kept test x left rest n space name total is stays so_far =
    let one : one_if (test x && guards space name x) ≡ 0 = ap (λ b. one_if (b && guards space name x)) stays in
    let all : count_by (λ l. test l && guards space name l) left ≡ count_by (λ l. test l && guards space name l) (x ∷ rest) = ap (count_by (λ l. test l && guards space name l)) is in
    omega (arith, one, all, sum_by-cons (λ l. one_if (test l && guards space name l)) x rest, so_far)

pub unnumbered-kept : (test : Lease → Bool) (x : Lease) (left rest : List Lease) (number : Option ℕ) (space name : List ℕ) (total : Option ℕ) → left ≡ x ∷ rest → test x ≡ false
    → cond (list_any (λ l. test l && is_lease space name l) left) None number ≡ total → cond (list_any (λ l. test l && is_lease space name l) rest) None number ≡ total
unnumbered-kept test x left rest number space name total is stays so_far =
    ap (λ b. cond ((b && is_lease space name x) || list_any (λ l. test l && is_lease space name l) rest) None number) (sym stays)
    ∙ ap (λ ls. cond (list_any (λ l. test l && is_lease space name l) ls) None number) (sym is) ∙ so_far

-- a list without a length has no entries
pub no_entries : {X : Type 0} (es : List X) → length es ≡ 0 → es ≡ []
no_entries [] empty = refl
no_entries (e ∷ es) empty = absurd (omega arith)

-- ---- whether a namespace has leases

module _ (namespace : List ℕ) where
  -- it has none where none of its leases has a number
  pub leases-unnumbered : (es : List (ℕ × Lease)) → ((q : List ℕ) → lease_number namespace q es ≡ None) → has_leases (values_of es) namespace ≡ false
  leases-unnumbered [] none = refl
  leases-unnumbered (e ∷ es) none = by (is_of namespace e.1) refl (leases-unnumbered es)
    where
      rest : (b : Bool) → is_of namespace e.1 ≡ b → b ≡ false → (q : List ℕ) → lease_number namespace q es ≡ None
      rest b is out q = sym (ap (λ c. cond (c && bytes_eq q e.1.name) (Some e.0) (lease_number namespace q es)) (is ∙ out)) ∙ none q

      by : (b : Bool) → is_of namespace e.1 ≡ b → (((q : List ℕ) → lease_number namespace q es ≡ None) → has_leases (values_of es) namespace ≡ false) → (b || has_leases (values_of es) namespace) ≡ false
      by false out later = later (rest false out refl)
      by true own later =
          let q = e.1.name in
          let numbered : lease_number namespace q (e ∷ es) ≡ Some e.0 =
          ap (λ c. cond (c && bytes_eq q q) (Some e.0) (lease_number namespace q es)) own ∙ ap (λ c. cond c (Some e.0) (lease_number namespace q es)) ((bytes_eq-Decides q q).1 refl) in
          let absent : lease_number namespace q (e ∷ es) ≡ None = none q in
          absurd (cc)

  -- and then none has a number
  pub unnumbered-leases : (es : List (ℕ × Lease)) → has_leases (values_of es) namespace ≡ false → (q : List ℕ) → lease_number namespace q es ≡ None
  unnumbered-leases [] none q = refl
  unnumbered-leases (e ∷ es) none q =
      let both = list_any-tail (is_of namespace) e.1 (values_of es) none in
      ap (λ c. cond (c && bytes_eq q e.1.name) (Some e.0) (lease_number namespace q es)) both.0 ∙ unnumbered-leases es both.1 q

  pub has_leases_at_number : (es : List (ℕ × Lease)) (ls : List Lease) (index : LeaseIndex) (found : Bool) → (found ≡ false) ↔ ((q : List ℕ) → number_in namespace q index ≡ None) → AreNumbers es index → values_of es ≡ ls → found ≡ has_leases ls namespace
  has_leases_at_number es ls index found at are view = by found at (has_leases (values_of es) namespace) refl ∙ ap (λ ks. has_leases ks namespace) view
    where
      by : (a : Bool) → (a ≡ false) ↔ ((q : List ℕ) → number_in namespace q index ≡ None) → (b : Bool) → has_leases (values_of es) namespace ≡ b → a ≡ b
      by true at true is = refl
      by false at false is = refl
      by false at true is = sym (leases-unnumbered es (λ q. sym (are namespace q) ∙ at.0 refl q)) ∙ is
      by true at false is = at.1 (λ q. are namespace q ∙ unnumbered-leases es is q)
