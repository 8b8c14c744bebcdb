-- The places of namespaces, as these come and go.
use Rattle.std.proofs.Common.{◌≡◌, ◌≢◌, ℕ, zero, suc, ◌+◌, ◌<◌, ◌≤◌, Bool, true, false, true≢false, not, cond, Bor, BTreeMap, String, List, [], ◌∷◌, ◌++◌, length, Option, Some, None, refl, sym, ap, ◌∙◌, subst, arith}
use Rattle.std.specs.List.{AllByRecursion, list_any}
use Rattle.std.specs.BTreeMap.{get_by_text}
use Rattle.std.specs.Option.{is_some, option_copied, option_map, option_or}
use Rattle.std.specs.Prelude.{if◌then◌else◌, ◌&&◌, ◌||◌, bytes_eq, count_by, nat_le, position, slice_set}
use Rattle.std.proofs.lemmas.Bool.{and_from, and_parts, false_from_ne_true, not-true}
use Rattle.std.proofs.lemmas.List.Sums.{sum_by-cons}
use Rattle.std.proofs.lemmas.Slice.Eq.{bytes_eq-Decides}
use Rattle.snap_counts.proofs.Reading.{Sets, read-Sets}
use Rattle.snap_lease.proofs.ListLemmas.{bytes_eq_comm}
use Rattle.snap_record.specs.Labels.{Bytes}
use Rattle.snap_call.specs.declared.config.Namespace.{Namespace}
use Rattle.snap_call.specs.Forms.{have_distinct_names, is_limit}
use Rattle.snap_call.specs.Namespaces.{ArePlaces, has_name, is_taken, is_taken_at, limit_at, name_at, place_of, vacant, with_namespace, without_namespace}
use Rattle.snap_call.proofs.Leasing.{has_own, name_is, position-here, position-past}
use Rattle.snap_call.proofs.Lists.{some_same}

-- no namespace stands at such a place
abbrev pub is_free : Namespace → Bool
is_free n = not (is_taken n)

-- the first free place, or the one behind all
abbrev pub free_place : List Namespace → ℕ
free_place [] = 0
free_place (n ∷ ns) = if is_taken n then suc (free_place ns) else 0

-- ---- what has a name

either_part : (a b : Bool) → (a || b) ≡ false → (a ≡ false) × (b ≡ false)
either_part true b e = absurd (true≢false e)
either_part false b e = (refl, e)

is_own : (q : Bytes) (n : Namespace) → is_taken n ≡ true → bytes_eq q n.name ≡ true → has_name q n ≡ true
is_own q n taken same = and_from (is_taken n) (bytes_eq n.name q) taken (bytes_eq_comm n.name q ∙ same)

is_other : (q : Bytes) (n : Namespace) → bytes_eq q n.name ≡ false → has_name q n ≡ false
is_other q n differ = false_from_ne_true (has_name q n) (λ is. true≢false (sym ((and_parts (is_taken n) (bytes_eq n.name q) is).1) ∙ bytes_eq_comm n.name q ∙ differ))

is_absent : (q : Bytes) (n : Namespace) → is_taken n ≡ false → has_name q n ≡ false
is_absent q n free = ap (λ b. b && bytes_eq n.name q) free

-- a name that a namespace has isn't that of one that has no place
apart : (q : Bytes) (n m : Namespace) (ms : List Namespace) → has_name q m ≡ true → place_of n.name (m ∷ ms) ≡ None → bytes_eq q n.name ≡ false
apart q n m ms is new = false_from_ne_true (bytes_eq q n.name) (λ same.
    let here : has_name n.name m ≡ true = subst (λ (name : Bytes). has_name name m ≡ true) ((bytes_eq-Decides q n.name).0 same) is in
    let there : place_of n.name (m ∷ ms) ≡ Some 0 = position-here (has_name n.name) m ms here in
    absurd (cc))

mapped_none : (o : Option ℕ) → option_map (λ k. suc k) o ≡ None → o ≡ None
mapped_none None e = refl
mapped_none (Some k) e = absurd (cc)

-- nor has it one among the others
pub none_later : (q : Bytes) (m : Namespace) (ms : List Namespace) → place_of q (m ∷ ms) ≡ None → place_of q ms ≡ None
none_later q m ms none = by (has_name q m) refl
  where
    by : (b : Bool) → has_name q m ≡ b → place_of q ms ≡ None
    by true is = let here : place_of q (m ∷ ms) ≡ Some 0 = position-here (has_name q) m ms is in absurd (cc)
    by false out = mapped_none (place_of q ms) (sym (position-past (has_name q) m ms out) ∙ none)

pub none_here : (q : Bytes) (m : Namespace) (ms : List Namespace) → place_of q (m ∷ ms) ≡ None → has_name q m ≡ false
none_here q m ms none = false_from_ne_true (has_name q m) (λ is. let here : place_of q (m ∷ ms) ≡ Some 0 = position-here (has_name q) m ms is in absurd (cc))

-- a name that none has has no place
pub unnamed : (q : Bytes) (ns : List Namespace) → list_any (has_name q) ns ≡ false → place_of q ns ≡ None
unnamed q [] none = refl
unnamed q (n ∷ ns) none =
    let h = either_part (has_name q n) (list_any (has_name q) ns) none in
    position-past (has_name q) n ns h.0 ∙ ap (option_map (λ k. suc k)) (unnamed q ns h.1)

-- ---- one more behind all

pub place_of-push : (q : Bytes) (n : Namespace) (ns : List Namespace) → place_of q (ns ++ n ∷ []) ≡ option_or (place_of q ns) (if has_name q n then Some (length ns) else None)
place_of-push q n [] = by (has_name q n) refl
  where
    by : (b : Bool) → has_name q n ≡ b → place_of q (n ∷ []) ≡ option_or (place_of q []) (if b then Some 0 else None)
    by true is = position-here (has_name q) n [] is
    by false out = position-past (has_name q) n [] out
place_of-push q n (m ∷ ms) = by (has_name q m) refl (place_of-push q n ms)
  where
    shift : (o : Option ℕ) (b : Bool) → option_map (λ k. suc k) (option_or o (if b then Some (length ms) else None)) ≡ option_or (option_map (λ k. suc k) o) (if b then Some (suc (length ms)) else None)
    shift None true = refl
    shift None false = refl
    shift (Some k) b = refl

    by : (b : Bool) → has_name q m ≡ b → place_of q (ms ++ n ∷ []) ≡ option_or (place_of q ms) (if has_name q n then Some (length ms) else None)
        → place_of q (m ∷ (ms ++ n ∷ [])) ≡ option_or (place_of q (m ∷ ms)) (if has_name q n then Some (suc (length ms)) else None)
    by true is rest = position-here (has_name q) m (ms ++ n ∷ []) is ∙ ap (λ o. option_or o (if has_name q n then Some (suc (length ms)) else None)) (sym (position-here (has_name q) m ms is))
    by false out rest =
        position-past (has_name q) m (ms ++ n ∷ []) out ∙ ap (option_map (λ k. suc k)) rest ∙ shift (place_of q ms) (has_name q n)
        ∙ ap (λ o. option_or o (if has_name q n then Some (suc (length ms)) else None)) (sym (position-past (has_name q) m ms out))

-- ---- one more at the first free place

pub place_of-with : (q : Bytes) (n : Namespace) (ns : List Namespace) → is_taken n ≡ true → place_of n.name ns ≡ None → place_of q (with_namespace n ns) ≡ cond (bytes_eq q n.name) (Some (free_place ns)) (place_of q ns)
place_of-with q n [] taken new = by (bytes_eq q n.name) refl
  where
    by : (b : Bool) → bytes_eq q n.name ≡ b → place_of q (n ∷ []) ≡ cond b (Some 0) None
    by true same = position-here (has_name q) n [] (is_own q n taken same)
    by false differ = position-past (has_name q) n [] (is_other q n differ)
place_of-with q n (m ∷ ms) taken new = at (is_taken m) refl (place_of-with q n ms taken (none_later n.name m ms new))
  where
    shift : (b : Bool) (k : ℕ) (o : Option ℕ) → option_map (λ j. suc j) (cond b (Some k) o) ≡ cond b (Some (suc k)) (option_map (λ j. suc j) o)
    shift true k o = refl
    shift false k o = refl

    filled : is_taken m ≡ false → (b : Bool) → bytes_eq q n.name ≡ b → place_of q (n ∷ ms) ≡ cond b (Some 0) (place_of q (m ∷ ms))
    filled free true same = position-here (has_name q) n ms (is_own q n taken same)
    filled free false differ = position-past (has_name q) n ms (is_other q n differ) ∙ sym (position-past (has_name q) m ms (is_absent q m free))

    past : (b : Bool) → has_name q m ≡ b → place_of q (with_namespace n ms) ≡ cond (bytes_eq q n.name) (Some (free_place ms)) (place_of q ms)
        → place_of q (m ∷ with_namespace n ms) ≡ cond (bytes_eq q n.name) (Some (suc (free_place ms))) (place_of q (m ∷ ms))
    past true is rest =
        position-here (has_name q) m (with_namespace n ms) is ∙ sym (position-here (has_name q) m ms is)
        ∙ sym (ap (λ b. cond b (Some (suc (free_place ms))) (place_of q (m ∷ ms))) (apart q n m ms is new))
    past false out rest =
        position-past (has_name q) m (with_namespace n ms) out ∙ ap (option_map (λ j. suc j)) rest ∙ shift (bytes_eq q n.name) (free_place ms) (place_of q ms)
        ∙ ap (cond (bytes_eq q n.name) (Some (suc (free_place ms)))) (sym (position-past (has_name q) m ms out))

    at : (b : Bool) → is_taken m ≡ b → place_of q (with_namespace n ms) ≡ cond (bytes_eq q n.name) (Some (free_place ms)) (place_of q ms)
        → place_of q (if b then m ∷ with_namespace n ms else n ∷ ms) ≡ cond (bytes_eq q n.name) (Some (if b then suc (free_place ms) else 0)) (place_of q (m ∷ ms))
    at true is rest = past (has_name q m) refl rest
    at false free rest = filled free (bytes_eq q n.name) refl

-- where a place is free, it is filled
pub filled-with : (n : Namespace) (ns : List Namespace) (place : ℕ) → position is_free ns ≡ Some place → (slice_set ns place n ≡ with_namespace n ns) × (free_place ns ≡ place)
filled-with n [] place e = absurd (cc)
filled-with n (m ∷ ms) place e = at (is_taken m) refl (filled-with n ms)
  where
    under : (o : Option ℕ) → ((k : ℕ) → o ≡ Some k → (slice_set ms k n ≡ with_namespace n ms) × (free_place ms ≡ k)) → option_map (λ k. suc k) o ≡ Some place
        → (slice_set (m ∷ ms) place n ≡ m ∷ with_namespace n ms) × (suc (free_place ms) ≡ place)
    under None next f = absurd (cc)
    under (Some k) next f =
        let h = next k refl in
        subst (λ j. (slice_set (m ∷ ms) j n ≡ m ∷ with_namespace n ms) × (suc (free_place ms) ≡ j)) (some_same (suc k) place f) (ap (λ l. m ∷ l) h.0, ap suc h.1)

    at : (b : Bool) → is_taken m ≡ b → ((k : ℕ) → position is_free ms ≡ Some k → (slice_set ms k n ≡ with_namespace n ms) × (free_place ms ≡ k))
        → (slice_set (m ∷ ms) place n ≡ (if b then m ∷ with_namespace n ms else n ∷ ms)) × ((if b then suc (free_place ms) else 0) ≡ place)
    at true is next = under (position is_free ms) next (sym (position-past is_free m ms (ap not is)) ∙ e)
    at false free next =
        subst (λ j. (slice_set (m ∷ ms) j n ≡ n ∷ ms) × (0 ≡ j)) (some_same 0 place (sym (position-here is_free m ms (ap not free)) ∙ e)) (refl, refl)

-- and where none is, it comes behind all
pub pushed-with : (n : Namespace) (ns : List Namespace) → position is_free ns ≡ None → (ns ++ n ∷ [] ≡ with_namespace n ns) × (free_place ns ≡ length ns)
pushed-with n [] e = (refl, refl)
pushed-with n (m ∷ ms) e = at (is_taken m) refl (pushed-with n ms)
  where
    at : (b : Bool) → is_taken m ≡ b → (position is_free ms ≡ None → (ms ++ n ∷ [] ≡ with_namespace n ms) × (free_place ms ≡ length ms))
        → ((m ∷ ms) ++ n ∷ [] ≡ (if b then m ∷ with_namespace n ms else n ∷ ms)) × ((if b then suc (free_place ms) else 0) ≡ suc (length ms))
    at true is next =
        let h = next (mapped_none (position is_free ms) (sym (position-past is_free m ms (ap not is)) ∙ e)) in
        (ap (λ l. m ∷ l) h.0, ap suc h.1)
    at false free next = let here : position is_free (m ∷ ms) ≡ Some 0 = position-here is_free m ms (ap not free) in absurd (cc)

-- ---- one less

-- a name that none has is not that of a place
pub named_apart : (q : Bytes) (ns : List Namespace) (place : ℕ) → list_any (has_name q) ns ≡ false → is_taken_at place ns ≡ true → bytes_eq q (name_at place ns) ≡ false
named_apart q [] place none taken = absurd (true≢false (sym taken))
named_apart q (n ∷ ns) zero none taken =
    false_from_ne_true (bytes_eq q n.name) (λ same. true≢false (sym (is_own q n taken same) ∙ (either_part (has_name q n) (list_any (has_name q) ns) none).0))
named_apart q (n ∷ ns) (suc place) none taken = named_apart q ns place (either_part (has_name q n) (list_any (has_name q) ns) none).1 taken

pub place_of-without : (q : Bytes) (ns : List Namespace) (place : ℕ) → have_distinct_names ns ≡ true → is_taken_at place ns ≡ true → place_of q (without_namespace place ns) ≡ cond (bytes_eq q (name_at place ns)) None (place_of q ns)
place_of-without q [] place distinct taken = absurd (true≢false (sym taken))
place_of-without q (m ∷ ms) zero distinct taken = by (bytes_eq q m.name) refl
  where
    alone : list_any (has_name m.name) ms ≡ false
    alone = not-true (list_any (has_name m.name) ms) (and_parts (not (list_any (has_name m.name) ms)) (have_distinct_names ms) distinct).0

    by : (b : Bool) → bytes_eq q m.name ≡ b → place_of q (vacant ∷ ms) ≡ cond b None (place_of q (m ∷ ms))
    by true same =
        position-past (has_name q) vacant ms refl
        ∙ ap (option_map (λ k. suc k)) (subst (λ (name : Bytes). place_of name ms ≡ None) (sym ((bytes_eq-Decides q m.name).0 same)) (unnamed m.name ms alone))
    by false differ = position-past (has_name q) vacant ms refl ∙ sym (position-past (has_name q) m ms (is_other q m differ))
place_of-without q (m ∷ ms) (suc place) distinct taken = at (has_name q m) refl (place_of-without q ms place (and_parts (not (list_any (has_name m.name) ms)) (have_distinct_names ms) distinct).1 taken)
  where
    alone : list_any (has_name m.name) ms ≡ false
    alone = not-true (list_any (has_name m.name) ms) (and_parts (not (list_any (has_name m.name) ms)) (have_distinct_names ms) distinct).0

    shift : (b : Bool) (o : Option ℕ) → option_map (λ k. suc k) (cond b None o) ≡ cond b None (option_map (λ k. suc k) o)
    shift true o = refl
    shift false o = refl

    differs : has_name q m ≡ true → bytes_eq q (name_at place ms) ≡ false
    differs is = subst (λ (name : Bytes). bytes_eq name (name_at place ms) ≡ false) (name_is q m is) (named_apart m.name ms place alone taken)

    at : (b : Bool) → has_name q m ≡ b → place_of q (without_namespace place ms) ≡ cond (bytes_eq q (name_at place ms)) None (place_of q ms)
        → place_of q (m ∷ without_namespace place ms) ≡ cond (bytes_eq q (name_at place ms)) None (place_of q (m ∷ ms))
    at true is rest =
        position-here (has_name q) m (without_namespace place ms) is ∙ sym (position-here (has_name q) m ms is)
        ∙ sym (ap (λ b. cond b None (place_of q (m ∷ ms))) (differs is))
    at false out rest =
        position-past (has_name q) m (without_namespace place ms) out ∙ ap (option_map (λ k. suc k)) rest ∙ shift (bytes_eq q (name_at place ms)) (place_of q ms)
        ∙ ap (cond (bytes_eq q (name_at place ms)) None) (sym (position-past (has_name q) m ms out))

-- ---- the names stay distinct

any-with : (p : Namespace → Bool) (n : Namespace) (ns : List Namespace) → p n ≡ false → list_any p ns ≡ false → list_any p (with_namespace n ns) ≡ false
any-with p n [] out none = ap (λ b. b || false) out
any-with p n (m ∷ ms) out none = at (is_taken m) (any-with p n ms out h.1)
  where
    h : (p m ≡ false) × (list_any p ms ≡ false)
    h = either_part (p m) (list_any p ms) none

    at : (b : Bool) → list_any p (with_namespace n ms) ≡ false → list_any p (if b then m ∷ with_namespace n ms else n ∷ ms) ≡ false
    at true rest = ap (λ b. b || list_any p (with_namespace n ms)) h.0 ∙ rest
    at false rest = ap (λ b. b || list_any p ms) out ∙ h.1

-- a name without a place is none's
any_none : (q : Bytes) (ns : List Namespace) → place_of q ns ≡ None → list_any (has_name q) ns ≡ false
any_none q [] none = refl
any_none q (n ∷ ns) none = ap (λ b. b || list_any (has_name q) ns) (none_here q n ns none) ∙ any_none q ns (none_later q n ns none)

pub distinct-with : (n : Namespace) (ns : List Namespace) → is_taken n ≡ true → place_of n.name ns ≡ None → have_distinct_names ns ≡ true → have_distinct_names (with_namespace n ns) ≡ true
distinct-with n [] taken new distinct = refl
distinct-with n (m ∷ ms) taken new distinct = at (is_taken m) refl (distinct-with n ms taken (none_later n.name m ms new) h.1)
  where
    h : (not (list_any (has_name m.name) ms) ≡ true) × (have_distinct_names ms ≡ true)
    h = and_parts (not (list_any (has_name m.name) ms)) (have_distinct_names ms) distinct

    -- the new one doesn't have the name of this one
    other : is_taken m ≡ true → has_name m.name n ≡ false
    other is = is_other m.name n (apart m.name n m ms (has_own m is) new)

    at : (b : Bool) → is_taken m ≡ b → have_distinct_names (with_namespace n ms) ≡ true → have_distinct_names (if b then m ∷ with_namespace n ms else n ∷ ms) ≡ true
    at true is rest = and_from (not (list_any (has_name m.name) (with_namespace n ms))) (have_distinct_names (with_namespace n ms)) (ap not (any-with (has_name m.name) n ms (other is) (not-true (list_any (has_name m.name) ms) h.0))) rest
    at false free rest = and_from (not (list_any (has_name n.name) ms)) (have_distinct_names ms) (ap not (any_none n.name ms (none_later n.name m ms new))) h.1

any-without : (q : Bytes) (place : ℕ) (ns : List Namespace) → list_any (has_name q) ns ≡ false → list_any (has_name q) (without_namespace place ns) ≡ false
any-without q place [] none = refl
any-without q zero (n ∷ ns) none = (either_part (has_name q n) (list_any (has_name q) ns) none).1
any-without q (suc place) (n ∷ ns) none =
    let h = either_part (has_name q n) (list_any (has_name q) ns) none in
    ap (λ b. b || list_any (has_name q) (without_namespace place ns)) h.0 ∙ any-without q place ns h.1

-- nothing has no name
any_vacant : (ns : List Namespace) → list_any (has_name []) ns ≡ false
any_vacant [] = refl
any_vacant (n ∷ ns) = ap (λ b. b || list_any (has_name []) ns) (by n.name) ∙ any_vacant ns
  where
    by : (name : Bytes) → (nat_le 1 (length name) && bytes_eq name []) ≡ false
    by [] = refl
    by (b ∷ bs) = either_false (nat_le 1 (length (b ∷ bs)))
      where
        either_false : (c : Bool) → (c && false) ≡ false
        either_false true = refl
        either_false false = refl

pub distinct-without : (place : ℕ) (ns : List Namespace) → have_distinct_names ns ≡ true → have_distinct_names (without_namespace place ns) ≡ true
distinct-without place [] distinct = refl
distinct-without zero (n ∷ ns) distinct =
    and_from (not (list_any (has_name []) ns)) (have_distinct_names ns) (ap not (any_vacant ns)) (and_parts (not (list_any (has_name n.name) ns)) (have_distinct_names ns) distinct).1
distinct-without (suc place) (n ∷ ns) distinct =
    let h = and_parts (not (list_any (has_name n.name) ns)) (have_distinct_names ns) distinct in
    and_from (not (list_any (has_name n.name) (without_namespace place ns))) (have_distinct_names (without_namespace place ns))
    (ap not (any-without n.name place ns (not-true (list_any (has_name n.name) ns) h.0))) (distinct-without place ns h.1)

-- ---- the other places

pub all-with : (P : Namespace → Type 0) (n : Namespace) (ns : List Namespace) → P n → AllByRecursion P ns → AllByRecursion P (with_namespace n ns)
all-with P n [] new all = (new, tt)
all-with P n (m ∷ ms) new all = at (is_taken m) (all-with P n ms new all.1)
  where
    at : (b : Bool) → AllByRecursion P (with_namespace n ms) → AllByRecursion P (if b then m ∷ with_namespace n ms else n ∷ ms)
    at true rest = (all.0, rest)
    at false rest = (new, all.1)

pub all-without_namespace : (P : Namespace → Type 0) (place : ℕ) (ns : List Namespace) → P vacant → AllByRecursion P ns → AllByRecursion P (without_namespace place ns)
all-without_namespace P place [] none all = tt
all-without_namespace P zero (n ∷ ns) none all = (none, all.1)
all-without_namespace P (suc place) (n ∷ ns) none all = (all.0, all-without_namespace P place ns none all.1)

-- what stands at the first free place afterwards, and at the others
pub taken-with : (place : ℕ) (n : Namespace) (ns : List Namespace) → is_taken_at place ns ≡ true → is_taken_at place (with_namespace n ns) ≡ true
taken-with place n [] taken = absurd (true≢false (sym taken))
taken-with place n (m ∷ ms) taken = at (is_taken m) refl place taken (λ k h. taken-with k n ms h)
  where
    at : (b : Bool) → is_taken m ≡ b → (k : ℕ) → is_taken_at k (m ∷ ms) ≡ true → ((j : ℕ) → is_taken_at j ms ≡ true → is_taken_at j (with_namespace n ms) ≡ true) → is_taken_at k (if b then m ∷ with_namespace n ms else n ∷ ms) ≡ true
    at true is zero h rest = is
    at true is (suc k) h rest = rest k h
    at false free zero h rest = absurd (true≢false (sym h ∙ free))
    at false free (suc k) h rest = h

pub limit_at-with_own : (n : Namespace) (ns : List Namespace) → limit_at (free_place ns) (with_namespace n ns) ≡ n.limit
limit_at-with_own n [] = refl
limit_at-with_own n (m ∷ ms) = at (is_taken m) (limit_at-with_own n ms)
  where
    at : (b : Bool) → limit_at (free_place ms) (with_namespace n ms) ≡ n.limit → limit_at (if b then suc (free_place ms) else 0) (if b then m ∷ with_namespace n ms else n ∷ ms) ≡ n.limit
    at true rest = rest
    at false rest = refl

pub limit_at-with_other : (place : ℕ) (n : Namespace) (ns : List Namespace) → place ≢ free_place ns → place < length (with_namespace n ns) → (place < length ns) × (limit_at place (with_namespace n ns) ≡ limit_at place ns)
limit_at-with_other zero n [] other low = absurd (other refl)
limit_at-with_other (suc place) n [] other low = absurd (omega (arith, low))
limit_at-with_other place n (m ∷ ms) other low = at (is_taken m) place other low (λ k h l. limit_at-with_other k n ms h l)
  where
    at : (b : Bool) (k : ℕ) → k ≢ (if b then suc (free_place ms) else 0) → k < length (if b then m ∷ with_namespace n ms else n ∷ ms)
        → ((j : ℕ) → j ≢ free_place ms → j < length (with_namespace n ms) → (j < length ms) × (limit_at j (with_namespace n ms) ≡ limit_at j ms))
        → (k < length (m ∷ ms)) × (limit_at k (if b then m ∷ with_namespace n ms else n ∷ ms) ≡ limit_at k (m ∷ ms))
    at true zero h l rest = (omega arith, refl)
    at true (suc k) h l rest = let r = rest k (λ e. h (ap suc e)) (omega (arith, l)) in (let p = r.0 in omega (arith, p), r.1)
    at false zero h l rest = absurd (h refl)
    at false (suc k) h l rest = (omega (arith, l), refl)

-- there is at most one place more
pub length-with : (n : Namespace) (ns : List Namespace) → (length ns ≤ length (with_namespace n ns)) × (length (with_namespace n ns) ≤ length ns + 1)
length-with n [] = (omega arith, omega arith)
length-with n (m ∷ ms) = at (is_taken m) (length-with n ms)
  where
    at : (b : Bool) → (length ms ≤ length (with_namespace n ms)) × (length (with_namespace n ms) ≤ length ms + 1)
        → (length (m ∷ ms) ≤ length (if b then m ∷ with_namespace n ms else n ∷ ms)) × (length (if b then m ∷ with_namespace n ms else n ∷ ms) ≤ length (m ∷ ms) + 1)
    at true rest = let low = rest.0 in let high = rest.1 in (omega (arith, low), omega (arith, high))
    at false rest = (omega arith, omega arith)

-- and no more places than the most, where fewer namespaces stand before
pub few-with : (most : ℕ) (n : Namespace) (ns : List Namespace) → length ns ≤ most → count_by is_taken ns < most → length (with_namespace n ns) ≤ most
few-with most n [] few room = omega (arith, room)
few-with zero n (m ∷ ms) few room = absurd (omega (arith, few))
few-with (suc k) n (m ∷ ms) few room = at (is_taken m) refl (λ low. few-with k n ms (omega (arith, few)) low)
  where
    at : (b : Bool) → is_taken m ≡ b → (count_by is_taken ms < k → length (with_namespace n ms) ≤ k) → length (if b then m ∷ with_namespace n ms else n ∷ ms) ≤ suc k
    at true is rest =
        let one : ◌≡◌ {A = ℕ} (cond (is_taken m) 1 0) 1 = ap (λ (c : Bool). cond c 1 0) is in
        let next = rest (omega (arith, one, sum_by-cons (λ x. cond (is_taken x) 1 0) m ms, room)) in
        omega (arith, next)
    at false is rest = omega (arith, few)

-- no namespace stands at the first free place before
pub free-untaken : (ns : List Namespace) → is_taken_at (free_place ns) ns ≡ false
free-untaken [] = refl
free-untaken (n ∷ ns) = at (is_taken n) refl (free-untaken ns)
  where
    at : (b : Bool) → is_taken n ≡ b → is_taken_at (free_place ns) ns ≡ false → is_taken_at (if b then suc (free_place ns) else 0) (n ∷ ns) ≡ false
    at true is rest = rest
    at false free rest = free

pub length-without_namespace : (place : ℕ) (ns : List Namespace) → length (without_namespace place ns) ≡ length ns
length-without_namespace place [] = refl
length-without_namespace zero (n ∷ ns) = refl
length-without_namespace (suc place) (n ∷ ns) = ap suc (length-without_namespace place ns)

pub taken-without : (p place : ℕ) (ns : List Namespace) → p ≢ place → is_taken_at p (without_namespace place ns) ≡ is_taken_at p ns
taken-without p place [] other = refl
taken-without zero zero (n ∷ ns) other = absurd (other refl)
taken-without (suc p) zero (n ∷ ns) other = refl
taken-without zero (suc place) (n ∷ ns) other = refl
taken-without (suc p) (suc place) (n ∷ ns) other = taken-without p place ns (λ e. other (ap suc e))

pub limit_at-without_other : (p place : ℕ) (ns : List Namespace) → p ≢ place → limit_at p (without_namespace place ns) ≡ limit_at p ns
limit_at-without_other p place [] other = refl
limit_at-without_other zero zero (n ∷ ns) other = absurd (other refl)
limit_at-without_other (suc p) zero (n ∷ ns) other = refl
limit_at-without_other zero (suc place) (n ∷ ns) other = refl
limit_at-without_other (suc p) (suc place) (n ∷ ns) other = limit_at-without_other p place ns (λ e. other (ap suc e))

pub limited-without_own : (place : ℕ) (ns : List Namespace) → is_limit (limit_at place (without_namespace place ns)) ≡ true
limited-without_own place [] = refl
limited-without_own zero (n ∷ ns) = refl
limited-without_own (suc place) (n ∷ ns) = limited-without_own place ns

-- ---- the map of their places

-- what is read of a place in the map
absent_of : (o : Option (Bor ℕ)) (p : Option ℕ) → option_copied o ≡ p → is_some o ≡ false → p ≡ None
absent_of None p e none = sym e
absent_of (Some r) p e none = absurd (true≢false none)

module _ {Z : Type 0} where
  -- a name gets a place where it has none
  pub put-named : (old new : BTreeMap (String Z) ℕ) (n : Namespace) (place : ℕ) → Sets old new n.name (Some place) → is_taken n ≡ true → (found : Option (Bor ℕ)) → option_copied found ≡ get_by_text old n.name → is_some found ≡ false
      → (q : Bytes) → get_by_text new q ≡ option_or (get_by_text old q) (if has_name q n then Some place else None)
  put-named old new n place sets taken found is none q = read-Sets (λ o. o) old new n.name (Some place) sets q ∙ by (bytes_eq q n.name) refl
    where
      by : (b : Bool) → bytes_eq q n.name ≡ b → cond b (Some place) (get_by_text old q) ≡ option_or (get_by_text old q) (if has_name q n then Some place else None)
      by true same =
          sym (ap (λ o. option_or o (if has_name q n then Some place else None)) (ap (get_by_text old) ((bytes_eq-Decides q n.name).0 same) ∙ absent_of found (get_by_text old n.name) is none)
          ∙ ap (λ b. if b then Some place else None) (is_own q n taken same))
      by false differ = sym (ap (λ b. option_or (get_by_text old q) (if b then Some place else None)) (is_other q n differ) ∙ alone (get_by_text old q))
        where
          alone : (o : Option ℕ) → option_or o None ≡ o
          alone None = refl
          alone (Some k) = refl

  -- the places of the namespaces so far, and of one more
  pub placed-push : (old new : BTreeMap (String Z) ℕ) (ns ms : List Namespace) (n : Namespace) (place : ℕ) → ArePlaces old ns → place ≡ length ns → ms ≡ ns ++ n ∷ []
      → ((q : Bytes) → get_by_text new q ≡ option_or (get_by_text old q) (if has_name q n then Some place else None)) → ArePlaces new ms
  placed-push old new ns ms n place are is next puts q =
      puts q ∙ ap (λ o. option_or o (if has_name q n then Some place else None)) (are q) ∙ ap (λ k. option_or (place_of q ns) (if has_name q n then Some k else None)) is
      ∙ sym (place_of-push q n ns) ∙ ap (place_of q) (sym next)

  -- where a namespace comes to the first free place
  pub placed-with : (old new : BTreeMap (String Z) ℕ) (ns : List Namespace) (n : Namespace) (place : ℕ) → ArePlaces old ns → is_taken n ≡ true → place_of n.name ns ≡ None → free_place ns ≡ place → Sets old new n.name (Some place)
      → ArePlaces new (with_namespace n ns)
  placed-with old new ns n place are taken new_name free sets q =
      read-Sets (λ o. o) old new n.name (Some place) sets q ∙ ap (cond (bytes_eq q n.name) (Some place)) (are q)
      ∙ ap (λ k. cond (bytes_eq q n.name) (Some k) (place_of q ns)) (sym free) ∙ sym (place_of-with q n ns taken new_name)

  -- and where one goes
  pub placed-without : (old new : BTreeMap (String Z) ℕ) (ns : List Namespace) (name : Bytes) (place : ℕ) → ArePlaces old ns → have_distinct_names ns ≡ true → is_taken_at place ns ≡ true → name ≡ name_at place ns → Sets old new name None
      → ArePlaces new (without_namespace place ns)
  placed-without old new ns name place are distinct taken is sets q =
      read-Sets (λ o. o) old new name None sets q ∙ (λ i. cond (bytes_eq q (is i)) None (are q i)) ∙ sym (place_of-without q ns place distinct taken)

  -- a name that came and went again
  pub placed-back : (old during after : BTreeMap (String Z) ℕ) (ns : List Namespace) (n : Namespace) (place : ℕ) (gone : Bytes) → ArePlaces old ns → place_of n.name ns ≡ None → Sets old during n.name (Some place) → gone ≡ n.name → Sets during after gone None → ArePlaces after ns
  placed-back old during after ns n place gone are new_name sets is takes q =
      read-Sets (λ o. o) during after gone None takes q ∙ ap (λ name. cond (bytes_eq q name) None (get_by_text during q)) is
      ∙ ap (cond (bytes_eq q n.name) None) (read-Sets (λ o. o) old during n.name (Some place) sets q) ∙ by (bytes_eq q n.name) refl
    where
      by : (b : Bool) → bytes_eq q n.name ≡ b → cond b None (cond b (Some place) (get_by_text old q)) ≡ place_of q ns
      by true same = sym (ap (λ name. place_of name ns) ((bytes_eq-Decides q n.name).0 same) ∙ new_name)
      by false differ = are q

  -- where it comes behind all
  pub placed-pushed : (old new : BTreeMap (String Z) ℕ) (ns ms : List Namespace) (n : Namespace) (place : ℕ) → ArePlaces old ns → is_taken n ≡ true → place_of n.name ns ≡ None → place ≡ length ns → ms ≡ ns ++ n ∷ [] → Sets old new n.name (Some place)
      → ArePlaces new ms
  placed-pushed old new ns ms n place are taken new_name is next sets q =
      read-Sets (λ o. o) old new n.name (Some place) sets q ∙ ap (cond (bytes_eq q n.name) (Some place)) (are q) ∙ by (bytes_eq q n.name) refl ∙ ap (place_of q) (sym next)
    where
      alone : (o : Option ℕ) → o ≡ option_or o None
      alone None = refl
      alone (Some k) = refl

      by : (b : Bool) → bytes_eq q n.name ≡ b → cond b (Some place) (place_of q ns) ≡ place_of q (ns ++ n ∷ [])
      by true same =
          sym (place_of-push q n ns
          ∙ ap (λ o. option_or o (if has_name q n then Some (length ns) else None)) (ap (λ name. place_of name ns) ((bytes_eq-Decides q n.name).0 same) ∙ new_name)
          ∙ ap (λ b. if b then Some (length ns) else None) (is_own q n taken same) ∙ ap (λ k. Some k) (sym is))
      by false differ =
          alone (place_of q ns) ∙ sym (place_of-push q n ns ∙ ap (λ b. option_or (place_of q ns) (if b then Some (length ns) else None)) (is_other q n differ))
