-- Lemmas on lists of leases: which lease is meant, and that leases stay distinct.
use Rattle.std.proofs.Common.{◌≡◌, ℕ, zero, suc, ◌<◌, Bool, true, false, not, cond, List, [], ◌∷◌, ◌++◌, ◌&&◌, ◌||◌, Option, map, filter, set, length, get_or, refl, sym, ap, ◌∙◌, arith, true≢false, if◌then◌else◌, bytes_eq}
use Rattle.std.proofs.lemmas.List.Folds.{list_any_at}
use Rattle.std.proofs.lemmas.Slice.Eq.{bytes_eq-Decides}
use Rattle.std.specs.List.{list_any, AllByRecursion, IsDistinct}
use Rattle.snap_lease.specs.Lease.{Lease, is_lease, does_name, empty_lease, with_lease_name, NamesOnce}
use Rattle.snap_lease.specs.Leases.{has_lease, AreDistinct, with_name_added}

-- a test that no element passes: the filter by its negation keeps all, and a change where it passes changes nothing
module _ {X : Type 0} (t : X → Bool) where
  pub list_any-tail : (x : X) (xs : List X) → list_any t (x ∷ xs) ≡ false → (t x ≡ false) × (list_any t xs ≡ false)
  list_any-tail x xs none = grind arith

  pub filter-none : (xs : List X) → list_any t xs ≡ false → filter (λ x. not (t x)) xs ≡ xs
  filter-none [] none = refl
  filter-none (x ∷ xs) none =
      let both = list_any-tail x xs none in
      ap (λ b. cond (not b) (x ∷ filter (λ y. not (t y)) xs) (filter (λ y. not (t y)) xs)) both.0 ∙ ap (λ ys. x ∷ ys) (filter-none xs both.1)

  pub map-none : (f : X → X) (xs : List X) → list_any t xs ≡ false → map (λ x. if t x then f x else x) xs ≡ xs
  map-none f [] none = refl
  map-none f (x ∷ xs) none =
      let both = list_any-tail x xs none in
      ap (λ b. (if b then f x else x) ∷ map (λ y. if t y then f y else y) xs) both.0 ∙ ap (λ ys. x ∷ ys) (map-none f xs both.1)

  pub list_any-each : (xs : List X) → AllByRecursion (λ x. t x ≡ false) xs → list_any t xs ≡ false
  list_any-each [] all = refl
  list_any-each (x ∷ xs) all = ap (λ b. b || list_any t xs) all.0 ∙ list_any-each xs all.1

-- the test of a lease finds its namespace and its name
pub is_lease-parts : (namespace lease : List ℕ) (l : Lease) → is_lease namespace lease l ≡ true → (namespace ≡ l.namespace) × (lease ≡ l.name)
is_lease-parts namespace lease l is =
    let both : (bytes_eq namespace l.namespace ≡ true) × (bytes_eq lease l.name ≡ true) = grind arith in
    ((bytes_eq-Decides namespace l.namespace).0 both.0, (bytes_eq-Decides lease l.name).0 both.1)

pub bytes_eq_comm : (xs ys : List ℕ) → bytes_eq xs ys ≡ bytes_eq ys xs
bytes_eq_comm xs ys = by (bytes_eq xs ys) (bytes_eq ys xs) refl refl
  where
    by : (a b : Bool) → bytes_eq xs ys ≡ a → bytes_eq ys xs ≡ b → bytes_eq xs ys ≡ bytes_eq ys xs
    by true b p q = p ∙ sym ((bytes_eq-Decides ys xs).1 (sym ((bytes_eq-Decides xs ys).0 p)))
    by false true p q = (bytes_eq-Decides xs ys).1 (sym ((bytes_eq-Decides ys xs).0 q)) ∙ sym q
    by false false p q = p ∙ sym q

pub is_lease_comm : (l k : Lease) → is_lease l.namespace l.name k ≡ is_lease k.namespace k.name l
is_lease_comm l k = ap (λ b. b && bytes_eq l.name k.name) (bytes_eq_comm l.namespace k.namespace) ∙ ap (λ b. bytes_eq k.namespace l.namespace && b) (bytes_eq_comm l.name k.name)

-- ---- what is so of each element

module _ {X : Type 0} (P : X → Type 0) where
  pub all-push : (xs : List X) (x : X) → AllByRecursion P xs → P x → AllByRecursion P (xs ++ x ∷ [])
  all-push [] x all last = (last, tt)
  all-push (y ∷ xs) x all last = (all.0, all-push xs x all.1 last)

  pub all-filter : (p : X → Bool) (xs : List X) → AllByRecursion P xs → AllByRecursion P (filter p xs)
  all-filter p [] all = tt
  all-filter p (x ∷ xs) all = by (p x) (all-filter p xs all.1)
    where
      by : (b : Bool) → AllByRecursion P (filter p xs) → AllByRecursion P (cond b (x ∷ filter p xs) (filter p xs))
      by true rest = (all.0, rest)
      by false rest = rest

-- ---- what is distinct

module _ {X : Type 0} (same : X → X → Bool) where
  -- what is new goes last
  pub IsDistinct-push : ((x y : X) → same x y ≡ same y x) → (xs : List X) (x : X) → IsDistinct same xs → list_any (same x) xs ≡ false → IsDistinct same (xs ++ x ∷ [])
  unfolding IsDistinct
  IsDistinct-push comm [] x distinct absent = (tt, tt)
  IsDistinct-push comm (y ∷ ys) x distinct absent =
      let both = list_any-tail (same x) y ys absent in
      (all-push (λ z. same y z ≡ false) ys x distinct.0 (comm y x ∙ both.0), IsDistinct-push comm ys x distinct.1 both.1)

  pub IsDistinct-filter : (p : X → Bool) (xs : List X) → IsDistinct same xs → IsDistinct same (filter p xs)
  unfolding IsDistinct
  IsDistinct-filter p [] distinct = tt
  IsDistinct-filter p (x ∷ xs) distinct = by (p x) (IsDistinct-filter p xs distinct.1)
    where
      by : (b : Bool) → IsDistinct same (filter p xs) → IsDistinct same (cond b (x ∷ filter p xs) (filter p xs))
      by true rest = (all-filter (λ y. same x y ≡ false) p xs distinct.0, rest)
      by false rest = rest

  pub IsDistinct-map : (f : X → X) → ((x y : X) → same (f x) (f y) ≡ same x y) → (xs : List X) → IsDistinct same xs → IsDistinct same (map f xs)
  unfolding IsDistinct
  IsDistinct-map f kept [] distinct = tt
  IsDistinct-map f kept (x ∷ xs) distinct = (by xs distinct.0, IsDistinct-map f kept xs distinct.1)
    where
      by : (ys : List X) → AllByRecursion (λ y. same x y ≡ false) ys → AllByRecursion (λ y. same (f x) y ≡ false) (map f ys)
      by [] all = tt
      by (y ∷ ys) all = (kept x y ∙ all.0, by ys all.1)

pub NamesOnce-empty : (namespace lease : List ℕ) (until : Option ℕ) → NamesOnce (empty_lease namespace lease until)
unfolding IsDistinct
NamesOnce-empty namespace lease until = tt

pub NamesOnce-with_name : (name : List ℕ) (l : Lease) → NamesOnce l → NamesOnce (with_lease_name name l)
NamesOnce-with_name name l once = by (does_name name l) refl
  where
    by : (b : Bool) → does_name name l ≡ b → NamesOnce (if b then l else record l { names = l.names ++ name ∷ [] })
    by true named = once
    by false absent = IsDistinct-push bytes_eq bytes_eq_comm l.names name once absent

-- after a lease that is of the namespace and of the name, there is no other
pub has_lease-after : (namespace lease : List ℕ) (l : Lease) (ls : List Lease) → AreDistinct (l ∷ ls) → is_lease namespace lease l ≡ true → has_lease ls namespace lease ≡ false
unfolding IsDistinct
has_lease-after namespace lease l ls distinct is =
    let parts = is_lease-parts namespace lease l is in
    ap (λ n. has_lease ls n lease) parts.0 ∙ ap (has_lease ls l.namespace) parts.1 ∙ list_any-each (is_lease l.namespace l.name) ls distinct.0

-- a lease keeps its namespace and its name when a name is added
pub with_name-namespace : (name : List ℕ) (l : Lease) → (with_lease_name name l).namespace ≡ l.namespace
with_name-namespace name l = by (does_name name l)
  where
    by : (b : Bool) → (if b then l else record l { names = l.names ++ name ∷ [] }).namespace ≡ l.namespace
    by true = refl
    by false = refl

pub with_name-name : (name : List ℕ) (l : Lease) → (with_lease_name name l).name ≡ l.name
with_name-name name l = by (does_name name l)
  where
    by : (b : Bool) → (if b then l else record l { names = l.names ++ name ∷ [] }).name ≡ l.name
    by true = refl
    by false = refl

module _ (namespace lease name : List ℕ) where
  -- what becomes of one lease
  abbrev pub changed : Lease → Lease
  changed l = if is_lease namespace lease l then with_lease_name name l else l

  pub is_lease-changed : (space other : List ℕ) (l : Lease) → is_lease space other (changed l) ≡ is_lease space other l
  is_lease-changed space other l = by (is_lease namespace lease l)
    where
      by : (b : Bool) → is_lease space other (if b then with_lease_name name l else l) ≡ is_lease space other l
      by true = ap (λ n. bytes_eq space n && bytes_eq other (with_lease_name name l).name) (with_name-namespace name l) ∙ ap (λ n. bytes_eq space l.namespace && bytes_eq other n) (with_name-name name l)
      by false = refl

  pub namespace-changed : (l : Lease) → (changed l).namespace ≡ l.namespace
  namespace-changed l = by (is_lease namespace lease l)
    where
      by : (b : Bool) → (if b then with_lease_name name l else l).namespace ≡ l.namespace
      by true = with_name-namespace name l
      by false = refl

  pub name-changed : (l : Lease) → (changed l).name ≡ l.name
  name-changed l = by (is_lease namespace lease l)
    where
      by : (b : Bool) → (if b then with_lease_name name l else l).name ≡ l.name
      by true = with_name-name name l
      by false = refl

  pub AreDistinct-with_name_added : (ls : List Lease) → AreDistinct ls → AreDistinct (with_name_added ls namespace lease name)
  AreDistinct-with_name_added = IsDistinct-map (λ l. is_lease l.namespace l.name) changed kept
    where
      kept : (l k : Lease) → is_lease (changed l).namespace (changed l).name (changed k) ≡ is_lease l.namespace l.name k
      kept l k = is_lease-changed (changed l).namespace (changed l).name k ∙ ap (λ n. is_lease n (changed l).name k) (namespace-changed l) ∙ ap (λ n. is_lease l.namespace n k) (name-changed l)

  pub NamesOnce-with_name_added : (ls : List Lease) → AllByRecursion NamesOnce ls → AllByRecursion NamesOnce (with_name_added ls namespace lease name)
  NamesOnce-with_name_added [] all = tt
  NamesOnce-with_name_added (l ∷ ls) all = (by (is_lease namespace lease l), NamesOnce-with_name_added ls all.1)
    where
      by : (b : Bool) → NamesOnce (if b then with_lease_name name l else l)
      by true = NamesOnce-with_name name l all.0
      by false = all.0

  -- a write at the place of the lease changes it alone
  pub set-with_name_added : (ls : List Lease) (place : ℕ) (d : Lease) → AreDistinct ls → place < length ls → is_lease namespace lease (get_or ls place d) ≡ true
      → set ls place (with_lease_name name (get_or ls place d)) ≡ with_name_added ls namespace lease name
  unfolding IsDistinct
  set-with_name_added [] place d distinct within is = absurd (omega arith)
  set-with_name_added (l ∷ ls) zero d distinct within is =
      ap (λ k. k ∷ ls) (sym (ap (λ b. if b then with_lease_name name l else l) is))
      ∙ ap (λ ks. changed l ∷ ks) (sym (map-none (is_lease namespace lease) (with_lease_name name) ls (has_lease-after namespace lease l ls distinct is)))
  set-with_name_added (l ∷ ls) (suc place) d distinct within is =
      let there : has_lease ls namespace lease ≡ true = list_any_at (is_lease namespace lease) ls place d (omega arith) is in
      by (is_lease namespace lease l) refl there (set-with_name_added ls place d distinct.1 (omega arith) is)
    where
      by : (b : Bool) → is_lease namespace lease l ≡ b → has_lease ls namespace lease ≡ true
          → set ls place (with_lease_name name (get_or ls place d)) ≡ with_name_added ls namespace lease name
          → l ∷ set ls place (with_lease_name name (get_or ls place d)) ≡ with_name_added (l ∷ ls) namespace lease name
      by true e there rest = absurd (true≢false (sym there ∙ has_lease-after namespace lease l ls distinct e))
      by false e there rest = ap (λ ks. l ∷ ks) rest ∙ ap (λ k. k ∷ with_name_added ls namespace lease name) (sym (ap (λ b. if b then with_lease_name name l else l) e))
