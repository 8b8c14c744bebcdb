-- What is true of the state after a limit is set, and after leases are made, added to, taken from and released.
use Rattle.std.proofs.Common.{◌≡◌, ◌≢◌, ℕ, zero, suc, ◌<◌, ◌≤◌, Bool, true, false, true≢false, List, [], ◌∷◌, ◌++◌, length, Option, Some, None, IsSome, refl, sym, ap, ◌∙◌, subst, inl, inr, arith}
use Rattle.std.specs.List.{AllByRecursion, list_any, position_or_len}
use Rattle.std.specs.Option.{option_map}
use Rattle.std.specs.Prelude.{if◌then◌else◌, ◌&&◌, bytes_eq, filter, not, nat_lt, position, cond, slice_set, ◌||◌}
use Rattle.std.proofs.lemmas.Bool.{and_from, and_parts, cases_eq, false_from_ne_true, not-true, lt-ltb}
use Rattle.std.proofs.lemmas.Bool.Decides.{nat_tests}
use Rattle.std.proofs.lemmas.Slice.Eq.{bytes_eq-Decides}
use Rattle.snap_usage.specs.declared.usage.Usage.{Usage}
use Rattle.snap_usage.specs.Counted.{Covers}
use Rattle.snap_lease.specs.Lease.{Lease, NamesOnce, does_name, is_lease, empty_lease, with_lease_name, without_lease_name}
use Rattle.snap_lease.specs.Leases.{AreDistinct, has_lease, with_name_added, with_name_dropped, without_lease}
use Rattle.snap_lease.proofs.DropLemmas.{AreDistinct-with_name_dropped, NamesOnce-with_name_dropped}
use Rattle.snap_lease.proofs.ListLemmas.{is_lease-parts, is_lease_comm, all-push, all-filter, name-changed, AreDistinct-with_name_added, IsDistinct-filter, IsDistinct-push, NamesOnce-empty, NamesOnce-with_name_added}
use Rattle.snap_record.specs.Labels.{Bytes}
use Rattle.snap_record.specs.declared.record.Record.{Record}
use Rattle.snap_call.specs.declared.config.Namespace.{Namespace}
use Rattle.snap_call.specs.declared.state.State.{State}
use Rattle.snap_call.specs.Forms.{have_distinct_names, is_key, is_limit, is_space}
use Rattle.snap_call.specs.Good.{Good}
use Rattle.snap_call.specs.Records.{charge_of, committed_at}
use Rattle.snap_call.specs.State.{place_of, name_at, limit_at, has_name, is_taken, is_taken_at, with_limit}
use Rattle.snap_call.specs.Step.{leasing}
use Rattle.snap_call.proofs.Chains.{NamesStand}
use Rattle.snap_call.proofs.Formed.{all_next, space_limited}
use Rattle.snap_call.proofs.Lists.{all-map, some_same}
use Rattle.snap_call.proofs.Parts.{limited_at}
use Rattle.snap_call.specs.Promised.{IsGuarding}

-- ---- the place of a name

module _ {X : Type 0} (p : X → Bool) where
  pub position-here : (x : X) (xs : List X) → p x ≡ true → position p (x ∷ xs) ≡ Some 0
  position-here x xs is = rw is (ap (λ b. cond b (Some 0) None) (lt-ltb 0 (suc (length xs)) (omega arith)))

  pub position-past : (x : X) (xs : List X) → p x ≡ false → position p (x ∷ xs) ≡ option_map (λ k. suc k) (position p xs)
  position-past x xs out =
      ap (λ (k : ℕ). cond (nat_lt k (suc (length xs))) (Some k) None) longer
      ∙ (ap (λ b. cond b (Some (suc (position_or_len p xs))) None) (shifted (position_or_len p xs) (length xs)) ∙ by (nat_lt (position_or_len p xs) (length xs)))
    where
      longer : position_or_len p (x ∷ xs) ≡ suc (position_or_len p xs)
      longer = rw out (omega arith)

      shifted : (a b : ℕ) → nat_lt (suc a) (suc b) ≡ nat_lt a b
      shifted a b = grind (arith, nat_tests)

      by : (b : Bool) → cond b (Some (suc (position_or_len p xs))) None ≡ option_map (λ k. suc k) (cond b (Some (position_or_len p xs)) None)
      by true = refl
      by false = refl

-- a namespace has its own name
pub has_own : (n : Namespace) → is_taken n ≡ true → has_name n.name n ≡ true
has_own n is = and_from (is_taken n) (bytes_eq n.name n.name) is ((bytes_eq-Decides n.name n.name).1 refl)

-- a name that another has is its own
pub name_is : (name : Bytes) (n : Namespace) → has_name name n ≡ true → n.name ≡ name
name_is name n is = (bytes_eq-Decides n.name name).0 (and_parts (is_taken n) (bytes_eq n.name name) is).1

pub taken_is : (name : Bytes) (n : Namespace) → has_name name n ≡ true → is_taken n ≡ true
taken_is name n is = (and_parts (is_taken n) (bytes_eq n.name name) is).0

-- the name at a place that is taken leads to it
pub place_of-name_at : (ns : List Namespace) (place : ℕ) → have_distinct_names ns ≡ true → is_taken_at place ns ≡ true → place_of (name_at place ns) ns ≡ Some place
place_of-name_at [] place apart taken = absurd (true≢false (sym taken))
place_of-name_at (n ∷ ns) zero apart taken = position-here (has_name n.name) n ns (has_own n taken)
place_of-name_at (n ∷ ns) (suc k) apart taken =
    let h = and_parts (not (list_any (has_name n.name) ns)) (have_distinct_names ns) apart in
    position-past (has_name (name_at k ns)) n ns (other ns k taken (not-true (list_any (has_name n.name) ns) h.0)) ∙ ap (option_map (λ j. suc j)) (place_of-name_at ns k h.1 taken)
  where
    rest : (b c : Bool) → (b || c) ≡ false → c ≡ false
    rest true c e = absurd (true≢false e)
    rest false c e = e

    first : (b c : Bool) → (b || c) ≡ false → b ≡ false
    first true c e = absurd (true≢false e)
    first false c e = refl

    other : (ms : List Namespace) (k : ℕ) → is_taken_at k ms ≡ true → list_any (has_name n.name) ms ≡ false → has_name (name_at k ms) n ≡ false
    other [] k taken none = absurd (true≢false (sym taken))
    other (m ∷ ms) zero taken none = false_from_ne_true (has_name m.name n)
        (λ is. true≢false (sym (subst (λ (name : Bytes). has_name name m ≡ true) (sym (name_is m.name n is)) (has_own m taken)) ∙ first (has_name n.name m) (list_any (has_name n.name) ms) none))
    other (m ∷ ms) (suc k) taken none = other ms k taken (rest (has_name n.name m) (list_any (has_name n.name) ms) none)

-- a place that is taken is one of the list's
pub taken-below : (place : ℕ) (ns : List Namespace) → is_taken_at place ns ≡ true → place < length ns
taken-below place [] taken = absurd (true≢false (sym taken))
taken-below zero (n ∷ ns) taken = omega arith
taken-below (suc place) (n ∷ ns) taken = let low = taken-below place ns taken in omega (arith, low)

-- the place of a name is taken
pub place_of-taken : (name : Bytes) (ns : List Namespace) (place : ℕ) → place_of name ns ≡ Some place → is_taken_at place ns ≡ true
place_of-taken name [] place e = absurd (cc)
place_of-taken name (n ∷ ns) place e = by (has_name name n) refl (place_of-taken name ns)
  where
    under : (o : Option ℕ) → ((k : ℕ) → o ≡ Some k → is_taken_at k ns ≡ true) → option_map (λ k. suc k) o ≡ Some place → is_taken_at place (n ∷ ns) ≡ true
    under None next f = absurd (cc)
    under (Some k) next f = subst (λ (j : ℕ). is_taken_at j (n ∷ ns) ≡ true) (some_same (suc k) place f) (next k refl)

    by : (b : Bool) → has_name name n ≡ b → ((k : ℕ) → place_of name ns ≡ Some k → is_taken_at k ns ≡ true) → is_taken_at place (n ∷ ns) ≡ true
    by true is next = subst (λ (j : ℕ). is_taken_at j (n ∷ ns) ≡ true) (some_same 0 place (sym (position-here (has_name name) n ns is) ∙ e)) (taken_is name n is)
    by false out next = under (place_of name ns) next (sym (position-past (has_name name) n ns out) ∙ e)

-- and is the one that was looked for
pub name_at-place : (name : Bytes) (ns : List Namespace) (place : ℕ) → place_of name ns ≡ Some place → name ≡ name_at place ns
name_at-place name [] place e = absurd (cc)
name_at-place name (n ∷ ns) place e = by (has_name name n) refl (name_at-place name ns)
  where
    under : (o : Option ℕ) → ((k : ℕ) → o ≡ Some k → name ≡ name_at k ns) → option_map (λ k. suc k) o ≡ Some place → name ≡ name_at place (n ∷ ns)
    under None next f = absurd (cc)
    under (Some k) next f = subst (λ (j : ℕ). name ≡ name_at j (n ∷ ns)) (some_same (suc k) place f) (next k refl)

    by : (b : Bool) → has_name name n ≡ b → ((k : ℕ) → place_of name ns ≡ Some k → name ≡ name_at k ns) → name ≡ name_at place (n ∷ ns)
    by true is next = subst (λ (j : ℕ). name ≡ name_at j (n ∷ ns)) (some_same 0 place (sym (position-here (has_name name) n ns is) ∙ e)) (sym (name_is name n is))
    by false out next = under (place_of name ns) next (sym (position-past (has_name name) n ns out) ∙ e)

-- ---- another limit

module _ (limit : Usage) where
  pub length-limited : (place : ℕ) (ns : List Namespace) → length (with_limit place limit ns) ≡ length ns
  length-limited place [] = refl
  length-limited zero (n ∷ ns) = refl
  length-limited (suc place) (n ∷ ns) = ap suc (length-limited place ns)

  -- the namespace of the name, with the limit, in its place
  pub set-limited : (place : ℕ) (ns : List Namespace) (n : Namespace) → place < length ns → n.name ≡ name_at place ns → n.limit ≡ limit → slice_set ns place n ≡ with_limit place limit ns
  set-limited place [] n low same is = absurd (omega arith)
  set-limited zero (m ∷ ns) n low same is = λ i. record { name = same i; limit = is i } ∷ ns
  set-limited (suc place) (m ∷ ns) n low same is = ap (λ l. m ∷ l) (set-limited place ns n (omega arith) same is)

  -- a test of the names alone
  any-limited : (p : Namespace → Bool) → ((n : Namespace) → p (record n { limit = limit }) ≡ p n) → (place : ℕ) (ns : List Namespace) → list_any p (with_limit place limit ns) ≡ list_any p ns
  any-limited p same place [] = refl
  any-limited p same zero (n ∷ ns) = rw (same n) refl
  any-limited p same (suc place) (n ∷ ns) = ap (λ b. p n || b) (any-limited p same place ns)

  pub place_of-limited : (name : Bytes) (place : ℕ) (ns : List Namespace) → place_of name (with_limit place limit ns) ≡ place_of name ns
  place_of-limited name place [] = refl
  place_of-limited name zero (n ∷ ns) = refl
  place_of-limited name (suc place) (n ∷ ns) = by (has_name name n) refl (place_of-limited name place ns)
    where
      by : (b : Bool) → has_name name n ≡ b → place_of name (with_limit place limit ns) ≡ place_of name ns → place_of name (n ∷ with_limit place limit ns) ≡ place_of name (n ∷ ns)
      by true is next = position-here (has_name name) n (with_limit place limit ns) is ∙ sym (position-here (has_name name) n ns is)
      by false out next = position-past (has_name name) n (with_limit place limit ns) out ∙ (ap (option_map (λ k. suc k)) next ∙ sym (position-past (has_name name) n ns out))

  taken-limited : (p place : ℕ) (ns : List Namespace) → is_taken_at p (with_limit place limit ns) ≡ is_taken_at p ns
  taken-limited p place [] = refl
  taken-limited zero zero (n ∷ ns) = refl
  taken-limited (suc p) zero (n ∷ ns) = refl
  taken-limited zero (suc place) (n ∷ ns) = refl
  taken-limited (suc p) (suc place) (n ∷ ns) = taken-limited p place ns

  distinct-limited : (place : ℕ) (ns : List Namespace) → have_distinct_names (with_limit place limit ns) ≡ have_distinct_names ns
  distinct-limited place [] = refl
  distinct-limited zero (n ∷ ns) = refl
  distinct-limited (suc place) (n ∷ ns) = λ i. not (any-limited (has_name n.name) (λ m. refl) place ns i) && distinct-limited place ns i

  short-limited : (place : ℕ) (ns : List Namespace) → AllByRecursion (λ n. length n.name ≤ 255) ns → AllByRecursion (λ n. length n.name ≤ 255) (with_limit place limit ns)
  short-limited place [] all = tt
  short-limited zero (n ∷ ns) all = all
  short-limited (suc place) (n ∷ ns) all = (all.0, short-limited place ns all.1)

  spaces-limited : (place : ℕ) (ns : List Namespace) → is_taken_at place ns ≡ true → is_limit limit ≡ true → AllByRecursion (λ n. is_space n ≡ true) ns → AllByRecursion (λ n. is_space n ≡ true) (with_limit place limit ns)
  spaces-limited place [] taken is all = tt
  spaces-limited zero (n ∷ ns) taken is all = (space_limited limit is n taken all.0, all.1)
  spaces-limited (suc place) (n ∷ ns) taken is all = (all.0, spaces-limited place ns taken is all.1)

  pub limit_at-limited_own : (place : ℕ) (ns : List Namespace) → place < length ns → limit_at place (with_limit place limit ns) ≡ limit
  limit_at-limited_own place [] low = absurd (omega arith)
  limit_at-limited_own zero (n ∷ ns) low = refl
  limit_at-limited_own (suc place) (n ∷ ns) low = limit_at-limited_own place ns (omega arith)

  pub limit_at-limited_other : (p place : ℕ) (ns : List Namespace) → p ≢ place → limit_at p (with_limit place limit ns) ≡ limit_at p ns
  limit_at-limited_other p place [] apart = refl
  limit_at-limited_other zero zero (n ∷ ns) apart = absurd (apart refl)
  limit_at-limited_other (suc p) zero (n ∷ ns) apart = refl
  limit_at-limited_other zero (suc place) (n ∷ ns) apart = refl
  limit_at-limited_other (suc p) (suc place) (n ∷ ns) apart = limit_at-limited_other p place ns (λ e. apart (ap suc e))

  -- what is true of the limits of all places is true of the new one and of the others
  limits_anew : (P : ℕ → Usage → Type 0) (place : ℕ) (ns : List Namespace) → place < length ns → P place limit → ((p : ℕ) → p < length ns → P p (limit_at p ns))
      → (p : ℕ) → p < length (with_limit place limit ns) → P p (limit_at p (with_limit place limit ns))
  limits_anew P place ns inside new all p low = elim (cases_eq p place) [
    | inl same ↦ subst (λ k. P k (limit_at k (with_limit place limit ns))) (sym same) (subst (P place) (sym (limit_at-limited_own place ns inside)) new)
    | inr apart ↦ subst (P p) (sym (limit_at-limited_other p place ns apart)) (all p (subst (λ (m : ℕ). p < m) (length-limited place ns) low))
  ]

  pub good_limited : (s : State) (place : ℕ) → Good s → is_taken_at place s.namespaces ≡ true → is_limit limit ≡ true → Covers limit (charge_of place s.records) → Good (limited_at s place limit)
  good_limited s place good taken is covered = record {
    root = good.root;
    promised = record {
      parents = good.promised.parents;
      leased = all-map (IsGuarding s.namespaces s.records) (IsGuarding (with_limit place limit s.namespaces) s.records) (λ l h. subst (λ (o : Option ℕ). NamesStand s.records o l.names) (sym (place_of-limited l.namespace place s.namespaces)) h) s.leases good.promised.leased;
      counted = good.promised.counted;
      within = limits_anew (λ p u. Covers u (charge_of p s.records)) place s.namespaces (taken-below place s.namespaces taken) covered good.promised.within;
      chains = good.promised.chains;
    };
    named_once = good.named_once;
    lease_names = good.lease_names;
    lease_keys = good.lease_keys;
    limits = limits_anew (λ p u. is_limit u ≡ true) place s.namespaces (taken-below place s.namespaces taken) is good.limits;
    short = short-limited place s.namespaces good.short;
    distinct = distinct-limited place s.namespaces ∙ good.distinct;
    spaces = spaces-limited place s.namespaces taken is good.spaces;
    few_spaces = omega (arith, length-limited place s.namespaces, good.few_spaces);
    placed = all-map (λ r. is_taken_at r.namespace s.namespaces ≡ true) (λ r. is_taken_at r.namespace (with_limit place limit s.namespaces) ≡ true) (λ r h. taken-limited r.namespace place s.namespaces ∙ h) s.records good.placed;
    sorted = good.sorted;
    ids = good.ids;
    numbered = good.numbered;
    rising = good.rising;
    fewer = good.fewer;
    formed = all_next s good;
    few_slots = good.few_slots;
    slots = good.slots;
    open_slots = good.open_slots;
    shown = good.shown;
    layers = good.layers;
    most = good.most;
  }

-- ---- other leases

pub good_leasing : (s : State) (ls : List Lease) → Good s → AllByRecursion (IsGuarding s.namespaces s.records) ls → AllByRecursion NamesOnce ls → AllByRecursion (λ l. is_key l.name ≡ true) ls → AreDistinct ls → Good (leasing s ls)
good_leasing s ls good leased once names keys = record {
  root = good.root;
  promised = record {
    parents = good.promised.parents;
    leased = leased;
    counted = good.promised.counted;
    within = good.promised.within;
    chains = good.promised.chains;
  };
  named_once = once;
  lease_names = names;
  lease_keys = keys;
  limits = good.limits;
  short = good.short;
  distinct = good.distinct;
  spaces = good.spaces;
  few_spaces = good.few_spaces;
  placed = good.placed;
  sorted = good.sorted;
  ids = good.ids;
  numbered = good.numbered;
  rising = good.rising;
  fewer = good.fewer;
  formed = all_next s good;
  few_slots = good.few_slots;
  slots = good.slots;
  open_slots = good.open_slots;
  shown = good.shown;
  layers = good.layers;
  most = good.most;
}

-- no names yet
pub good_created : (s : State) (namespace lease : Bytes) (until : Option ℕ) (place : ℕ) → Good s → place_of namespace s.namespaces ≡ Some place → is_key lease ≡ true → has_lease s.leases namespace lease ≡ false → Good (leasing s (s.leases ++ empty_lease namespace lease until ∷ []))
good_created s namespace lease until place good spaced formed new =
    good_leasing s _ good
    (all-push (IsGuarding s.namespaces s.records) s.leases (empty_lease namespace lease until) good.promised.leased (subst (λ (o : Option ℕ). NamesStand s.records o []) (sym spaced) tt))
    (all-push NamesOnce s.leases (empty_lease namespace lease until) good.named_once (NamesOnce-empty namespace lease until))
    (all-push (λ l. is_key l.name ≡ true) s.leases (empty_lease namespace lease until) good.lease_names formed)
    (IsDistinct-push (λ l. is_lease l.namespace l.name) is_lease_comm s.leases (empty_lease namespace lease until) good.lease_keys new)

-- one more name, of a committed snapshot of the lease's namespace
module _ (ns : List Namespace) (rs : List Record) (namespace name : Bytes) (place : ℕ) (spaced : place_of namespace ns ≡ Some place) (there : IsSome (committed_at place name rs)) where
  name_more : (o : Option ℕ) (names : List Bytes) → o ≡ Some place → NamesStand rs o names → NamesStand rs o (names ++ name ∷ [])
  name_more None names e h = absurd (cc)
  name_more (Some p) names e h = all-push (λ n. IsSome (committed_at p n rs)) names name h (subst (λ (k : ℕ). IsSome (committed_at k name rs)) (sym (some_same p place e)) there)

  guarding-name : (l : Lease) → namespace ≡ l.namespace → IsGuarding ns rs l → IsGuarding ns rs (with_lease_name name l)
  guarding-name l own h = by (does_name name l)
    where
      by : (b : Bool) → IsGuarding ns rs (if b then l else record l { names = l.names ++ name ∷ [] })
      by true = h
      by false = name_more (place_of l.namespace ns) l.names (subst (λ (n : Bytes). place_of n ns ≡ Some place) own spaced) h

  pub guarding-with_name : (lease : Bytes) (ls : List Lease) → AllByRecursion (IsGuarding ns rs) ls → AllByRecursion (IsGuarding ns rs) (with_name_added ls namespace lease name)
  guarding-with_name lease [] all = tt
  guarding-with_name lease (l ∷ ls) all = (by (is_lease namespace lease l) refl, guarding-with_name lease ls all.1)
    where
      by : (b : Bool) → is_lease namespace lease l ≡ b → IsGuarding ns rs (if b then with_lease_name name l else l)
      by true is = guarding-name l (is_lease-parts namespace lease l is).0 all.0
      by false is = all.0

-- a lease keeps its own name
pub names-added : (namespace lease name : Bytes) (ls : List Lease) → AllByRecursion (λ l. is_key l.name ≡ true) ls → AllByRecursion (λ l. is_key l.name ≡ true) (with_name_added ls namespace lease name)
names-added namespace lease name [] all = tt
names-added namespace lease name (l ∷ ls) all = (ap is_key (name-changed namespace lease name l) ∙ all.0, names-added namespace lease name ls all.1)

pub good_named : (s : State) (namespace lease name : Bytes) (place : ℕ) → Good s → place_of namespace s.namespaces ≡ Some place → IsSome (committed_at place name s.records) → Good (leasing s (with_name_added s.leases namespace lease name))
good_named s namespace lease name place good spaced there =
    good_leasing s _ good (guarding-with_name s.namespaces s.records namespace name place spaced there lease s.leases good.promised.leased) (NamesOnce-with_name_added namespace lease name s.leases good.named_once)
    (names-added namespace lease name s.leases good.lease_names) (AreDistinct-with_name_added namespace lease name s.leases good.lease_keys)

-- one name fewer
names_fewer : (rs : List Record) (o : Option ℕ) (p : Bytes → Bool) (names : List Bytes) → NamesStand rs o names → NamesStand rs o (filter p names)
names_fewer rs None p names h = absurd h
names_fewer rs (Some place) p names h = all-filter (λ n. IsSome (committed_at place n rs)) p names h

guarding-without_name : (ns : List Namespace) (rs : List Record) (namespace lease name : Bytes) (ls : List Lease) → AllByRecursion (IsGuarding ns rs) ls → AllByRecursion (IsGuarding ns rs) (with_name_dropped ls namespace lease name)
guarding-without_name ns rs namespace lease name [] all = tt
guarding-without_name ns rs namespace lease name (l ∷ ls) all = (by (is_lease namespace lease l), guarding-without_name ns rs namespace lease name ls all.1)
  where
    by : (b : Bool) → IsGuarding ns rs (if b then without_lease_name name l else l)
    by true = names_fewer rs (place_of l.namespace ns) (λ n. not (bytes_eq name n)) l.names all.0
    by false = all.0

names-dropped : (namespace lease name : Bytes) (ls : List Lease) → AllByRecursion (λ l. is_key l.name ≡ true) ls → AllByRecursion (λ l. is_key l.name ≡ true) (with_name_dropped ls namespace lease name)
names-dropped namespace lease name [] all = tt
names-dropped namespace lease name (l ∷ ls) all = (by (is_lease namespace lease l), names-dropped namespace lease name ls all.1)
  where
    by : (b : Bool) → is_key (if b then without_lease_name name l else l).name ≡ true
    by true = all.0
    by false = all.0

pub good_dropped : (s : State) (namespace lease name : Bytes) → Good s → Good (leasing s (with_name_dropped s.leases namespace lease name))
good_dropped s namespace lease name good =
    good_leasing s _ good (guarding-without_name s.namespaces s.records namespace lease name s.leases good.promised.leased) (NamesOnce-with_name_dropped namespace lease name s.leases good.named_once)
    (names-dropped namespace lease name s.leases good.lease_names) (AreDistinct-with_name_dropped namespace lease name s.leases good.lease_keys)

-- one lease fewer
pub good_released : (s : State) (namespace lease : Bytes) → Good s → Good (leasing s (without_lease s.leases namespace lease))
good_released s namespace lease good =
    good_leasing s _ good (all-filter (IsGuarding s.namespaces s.records) (λ l. not (is_lease namespace lease l)) s.leases good.promised.leased) (all-filter NamesOnce (λ l. not (is_lease namespace lease l)) s.leases good.named_once)
    (all-filter (λ l. is_key l.name ≡ true) (λ l. not (is_lease namespace lease l)) s.leases good.lease_names) (IsDistinct-filter (λ l. is_lease l.namespace l.name) (λ l. not (is_lease namespace lease l)) s.leases good.lease_keys)
