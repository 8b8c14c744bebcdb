-- What each change of the state keeps true of it.
use Rattle.std.proofs.Common.{◌≡◌, ◌≢◌, ℕ, ◌+◌, ◌<◌, ◌≤◌, Bool, true, false, true≢false, eqb, List, [], ◌∷◌, length, Option, Some, None, IsSome, eq-eqb, refl, sym, ap, ◌∙◌, subst, inl, inr, arith}
use Rattle.std.specs.List.{AllByRecursion}
use Rattle.std.specs.Option.{is_some}
use Rattle.std.specs.Prelude.{IsSomeAnd, ◌&&◌, ◌==◌, bytes_eq, nat_le, not}
use Rattle.std.proofs.lemmas.Bool.{and_parts, eqb-true, false_from_ne_true, cases_eq, leb-true}
use Rattle.std.proofs.lemmas.Slice.Eq.{bytes_eq-Decides}
use Rattle.snap_layer.specs.Tree.{Tree}
use Rattle.snap_usage.specs.declared.usage.Usage.{Usage}
use Rattle.snap_usage.specs.Counted.{count_of, Covers, no_usage, covers}
use Rattle.snap_ledger.specs.States.{plus, minus}
use Rattle.snap_lease.specs.Lease.{Lease, NamesOnce, does_name, is_of}
use Rattle.snap_lease.specs.Leases.{AreDistinct, guards, is_guarded}
use Rattle.snap_lease.proofs.ListLemmas.{AreDistinct-with_name_added, NamesOnce-with_name_added}
use Rattle.snap_record.specs.Labels.{Bytes, Label, are_labels}
use Rattle.snap_record.specs.Records.{usage_of}
use Rattle.snap_record.specs.declared.record.Content.{Content}
use Rattle.snap_record.specs.declared.record.Content.TheVariants.{View, Active, Committed}
use Rattle.snap_record.specs.declared.record.Record.{Record}
use Rattle.snap_call.specs.declared.config.Namespace.{Namespace}
use Rattle.snap_call.specs.declared.state.State.{State}
use Rattle.snap_call.specs.Records.{has_key, has_children, has_slot, is_named, is_slot, record_at, committed_at, active_at, charge_of, with_record, without_slot, without_key, recharged, relabelled, committed_as, HasLowSlot, AreApart}
use Rattle.snap_call.specs.State.{place_of, name_at, limit_at, is_taken_at, is_base, is_too_deep, ancestors, layers_of, most_ancestors, or_empty, shown_layers}
use Rattle.snap_call.specs.Forms.{is_key, is_parent}
use Rattle.snap_call.specs.Good.{HasOlderParent, IsFormed, IsShown, Good}
use Rattle.snap_call.specs.Step.{are_formed, counted, one, prepared, committed, leases_after, added, viewed, removed_at, new_record}
use Rattle.snap_call.proofs.Formed.{all_later, all_next, formed_charged, formed_committed, formed_labelled, formed_new}
use Rattle.snap_call.proofs.Leasing.{name_at-place, place_of-name_at, place_of-taken, taken-below, guarding-with_name, names-added}
use Rattle.snap_call.proofs.Lengths.{length-with_record, length-without, length-without_found, length-recharged, length-relabelled}
use Rattle.snap_call.proofs.Lists.{all-map, all-both, committed-from, committed_at-record_at, find-with_record_own, find-none, none-passes, record_at-all, record_at-is_named, same_slot, active_at-all, all-with_record, pairwise-with_record, all-without, pairwise-without, all-beside, all-recharged, pairwise-recharged}
use Rattle.snap_call.proofs.InOrder.{sorted-with_record, sorted-without, sorted-recharged, has_key-without}
use Rattle.snap_call.proofs.Chains.{HasParent, IsRising, chain, Keeps, KeepsFor, Every, every, OnParent, AreOn, all_on, IsOther, Keeps-after, Keeps-with_record, Keeps-without_slot, Keeps-recharged, on_other, keeps-without_key, keeps-HasParent, keeps-IsRising, keeps-NamesStand, keeps-some_chain, keeps-ancestors, chain-found, some-within, all-within}
use Rattle.snap_call.proofs.Sums.{charge_with, charge_of-with_record_own, charge_of-with_record_other, charge_of-covers, charge_of-without_own, charge_of-without_other, charge_of-recharged_own, charge_of-recharged_other, charge_of-committed_own, charge_of-committed_other}
use Rattle.snap_call.proofs.Alike.{AreAlike, bare-relabelled, all-relabelled, pairwise-relabelled, sorted-relabelled, alike-HasParent, alike-IsGuarding, alike-IsRising, alike-charge_of, alike-layers, alike-some_chain}
use Rattle.snap_call.specs.Promised.{IsGuarding, IsUsageCounted}

-- ---- a limit

-- the charge of one namespace changes, within its limit
pub within_after : (ns : List Namespace) (rs ts : List Record) (place : ℕ) → ((p : ℕ) → p < length ns → Covers (limit_at p ns) (charge_of p rs))
    → Covers (limit_at place ns) (charge_of place ts) → ((p : ℕ) → p ≢ place → charge_of p ts ≡ charge_of p rs)
    → (p : ℕ) → p < length ns → Covers (limit_at p ns) (charge_of p ts)
within_after ns rs ts place within here other p low = elim (cases_eq p place) [
  | inl same ↦ subst (λ (n : ℕ). Covers (limit_at n ns) (charge_of n ts)) (sym same) here
  | inr apart ↦ subst (λ (u : Usage). Covers (limit_at p ns) u) (sym (other p apart)) (within p low)
]

-- a part gives way to one that it covers
pub covers_less : (limit whole part to : Usage) → Covers limit whole → Covers whole part → Covers part to → Covers limit (plus (minus whole part) to)
covers_less limit whole part to a b c = record { blocks = omega (arith, a.blocks, b.blocks, c.blocks); inodes = omega (arith, a.inodes, b.inodes, c.inodes) }

-- none of the record's charge stays
pub covers_gone : (limit whole part : Usage) → Covers limit whole → Covers limit (minus whole part)
covers_gone limit whole part a = record { blocks = omega (arith, a.blocks); inodes = omega (arith, a.inodes) }

pub covers-Covers : (a b : Usage) → covers a b ≡ true → Covers a b
covers-Covers a b e =
    let h = and_parts (nat_le b.blocks a.blocks) (nat_le b.inodes a.inodes) e in
    record { blocks = leb-true b.blocks a.blocks h.0; inodes = leb-true b.inodes a.inodes h.1 }

-- a place that is found is one of the places
pub place_of-below : (name : Bytes) (ns : List Namespace) (place : ℕ) → place_of name ns ≡ Some place → place < length ns
place_of-below name ns place e = taken-below place ns (place_of-taken name ns place e)

-- each snapshot's place is one of the store's
pub placed_below : (s : State) → Good s → AllByRecursion (λ r. r.namespace < length s.namespaces) s.records
placed_below s good = all-map (λ r. is_taken_at r.namespace s.namespaces ≡ true) (λ r. r.namespace < length s.namespaces) (λ r taken. taken-below r.namespace s.namespaces taken) s.records good.placed

-- ---- two records in slots

-- a record that is out of a slot is apart from one that is active in it
pub apart_other : (slot k : ℕ) (to : Usage) (c : Content) → has_slot slot c ≡ false → has_slot k c ≡ true → has_slot k (Active slot to) ≡ false
apart_other slot k to c out is = false_from_ne_true (eqb slot k) (λ e. true≢false (sym is ∙ ap (λ (n : ℕ). has_slot n c) (sym (eqb-true slot k e)) ∙ out))

-- ---- what stands on committed records

-- a view shows the same where its ancestors have the same layers
pub shown_anew : (rs ts : List Record) (place : ℕ) (parent : Bytes) (c : Content) → layers_of (ancestors place parent ts) ≡ layers_of (ancestors place parent rs) → IsShown rs place parent c → IsShown ts place parent c
shown_anew rs ts place parent (View layers) same h = h ∙ sym (ap or_empty same)
shown_anew rs ts place parent (Active slot charged) same h = tt
shown_anew rs ts place parent (Committed layer usage) same h = tt

-- where the keys of a set are kept
module _ (P : ℕ → Bytes → Type 0) (rs ts : List Record) (keeps : KeepsFor P rs ts) where
  pub parents_on : (us : List Record) → AreOn P us → AllByRecursion (HasParent rs) us → AllByRecursion (HasParent ts) us
  parents_on us on all =
      all-map (λ r. OnParent P r.namespace r.parent × HasParent rs r) (HasParent ts) (λ r h. keeps-HasParent P rs ts keeps r h.0 h.1)
      us (all-both (λ r. OnParent P r.namespace r.parent) (HasParent rs) us on all)

  -- ids rise from parents to children
  pub rising_on : (us : List Record) → AreOn P us → AllByRecursion (IsRising rs) us → AllByRecursion (IsRising ts) us
  rising_on us on all =
      all-map (λ r. OnParent P r.namespace r.parent × IsRising rs r) (IsRising ts) (λ r h. keeps-IsRising P rs ts keeps r h.0 h.1)
      us (all-both (λ r. OnParent P r.namespace r.parent) (IsRising rs) us on all)

  pub chains_on : (most : ℕ) (us : List Record) → AreOn P us → AllByRecursion (λ r. IsSome (chain most rs r)) us → AllByRecursion (λ r. IsSome (chain most ts r)) us
  chains_on most us on all =
      all-map (λ r. OnParent P r.namespace r.parent × IsSome (chain most rs r)) (λ r. IsSome (chain most ts r)) (λ r h. keeps-some_chain P rs ts keeps most r h.0 h.1)
      us (all-both (λ r. OnParent P r.namespace r.parent) (λ r. IsSome (chain most rs r)) us on all)

  -- what views show
  pub shown_on : (us : List Record) → AreOn P us → AllByRecursion (λ r. IsSome (chain most_ancestors rs r)) us → AllByRecursion (λ r. IsShown rs r.namespace r.parent r.content) us → AllByRecursion (λ r. IsShown ts r.namespace r.parent r.content) us
  shown_on us on chained all =
      all-map (λ r. OnParent P r.namespace r.parent × (IsSome (chain most_ancestors rs r) × IsShown rs r.namespace r.parent r.content)) (λ r. IsShown ts r.namespace r.parent r.content)
      (λ r h. shown_anew rs ts r.namespace r.parent r.content (ap layers_of (keeps-ancestors P rs ts keeps r.namespace r.parent h.0 h.1.0)) h.1.1)
      us (all-both (λ r. OnParent P r.namespace r.parent) (λ r. IsSome (chain most_ancestors rs r) × IsShown rs r.namespace r.parent r.content) us on (all-both (λ r. IsSome (chain most_ancestors rs r)) (λ r. IsShown rs r.namespace r.parent r.content) us chained all))

-- the names of a lease, where it has a place, are in the set
abbrev pub AreNamed : (ℕ → Bytes → Type 0) → List Namespace → Lease → Type 0
AreNamed P ns l = (place : ℕ) → place_of l.namespace ns ≡ Some place → AllByRecursion (P place) l.names

pub leases_on : (P : ℕ → Bytes → Type 0) (rs ts : List Record) → KeepsFor P rs ts → (ns : List Namespace) (ls : List Lease) → AllByRecursion (AreNamed P ns) ls → AllByRecursion (IsGuarding ns rs) ls → AllByRecursion (IsGuarding ns ts) ls
leases_on P rs ts keeps ns ls named all =
    all-map (λ l. AreNamed P ns l × IsGuarding ns rs l) (IsGuarding ns ts) (λ l h. keeps-NamesStand P rs ts keeps (place_of l.namespace ns) l.names h.0 h.1)
    ls (all-both (AreNamed P ns) (IsGuarding ns rs) ls named all)

-- where all committed records are kept
pub every_name : (place : ℕ) (names : List Bytes) → AllByRecursion (Every place) names
every_name place [] = tt
every_name place (n ∷ ns) = (tt, every_name place ns)

pub every_lease : (ns : List Namespace) (ls : List Lease) → AllByRecursion (AreNamed Every ns) ls
every_lease ns [] = tt
every_lease ns (l ∷ ls) = (λ place e. every_name place l.names, every_lease ns ls)

module _ (ns : List Namespace) (rs ts : List Record) (keeps : Keeps rs ts) where
  pub stand_parents : (us : List Record) → AllByRecursion (HasParent rs) us → AllByRecursion (HasParent ts) us
  stand_parents us all = parents_on Every rs ts (every rs ts keeps) us (all_on us) all

  pub stand_rising : (us : List Record) → AllByRecursion (IsRising rs) us → AllByRecursion (IsRising ts) us
  stand_rising us all = rising_on Every rs ts (every rs ts keeps) us (all_on us) all

  pub stand_leases : (ls : List Lease) → AllByRecursion (IsGuarding ns rs) ls → AllByRecursion (IsGuarding ns ts) ls
  stand_leases ls all = leases_on Every rs ts (every rs ts keeps) ns ls (every_lease ns ls) all

  pub stand_chains : (most : ℕ) (us : List Record) → AllByRecursion (λ r. IsSome (chain most rs r)) us → AllByRecursion (λ r. IsSome (chain most ts r)) us
  stand_chains most us all = chains_on Every rs ts (every rs ts keeps) most us (all_on us) all

  pub stand_shown : (us : List Record) → AllByRecursion (λ r. IsSome (chain most_ancestors rs r)) us → AllByRecursion (λ r. IsShown rs r.namespace r.parent r.content) us → AllByRecursion (λ r. IsShown ts r.namespace r.parent r.content) us
  stand_shown us chained all = shown_on Every rs ts (every rs ts keeps) us (all_on us) chained all

-- ---- chains that the store allows

-- those of a store are within the most that one can allow
pub most-within : (s : State) → Good s → s.ancestors ≤ most_ancestors
most-within s good = let few : nat_le s.ancestors most_ancestors ≡ true = (and_parts (nat_le 1 s.ancestors) (nat_le s.ancestors most_ancestors) good.most).1 in leb-true s.ancestors most_ancestors few

pub all_deep : (s : State) → Good s → (us : List Record) → AllByRecursion (λ r. IsSome (chain s.ancestors s.records r)) us → AllByRecursion (λ r. IsSome (chain most_ancestors s.records r)) us
all_deep s good us all = all-within s.ancestors most_ancestors s.records us (most-within s good) all

-- each snapshot has a chain
pub good_chains : (s : State) → Good s → AllByRecursion (λ r. IsSome (chain most_ancestors s.records r)) s.records
good_chains s good = all_deep s good s.records good.promised.chains

-- so has a parent that isn't too deep
pub good_deep : (s : State) → Good s → (place : ℕ) (p : Bytes) → is_too_deep s.ancestors place p s.records ≡ false → is_too_deep most_ancestors place p s.records ≡ false
good_deep s good place p e = ap not (some-within s.ancestors most_ancestors s.records place p (most-within s good) (chain-found s.ancestors s.records place p e))

-- ---- the counters alone

pub good_counters : (s : State) (sessions entries : ℕ) → s.entries ≤ entries → Good s → Good (record s { sessions = sessions; entries = entries })
good_counters s m n more good = record {
  root = good.root;
  promised = record {
    parents = good.promised.parents;
    leased = good.promised.leased;
    counted = good.promised.counted;
    within = good.promised.within;
    chains = good.promised.chains;
  };
  named_once = good.named_once;
  lease_names = good.lease_names;
  lease_keys = good.lease_keys;
  limits = good.limits;
  short = good.short;
  distinct = good.distinct;
  spaces = good.spaces;
  few_spaces = good.few_spaces;
  placed = good.placed;
  sorted = good.sorted;
  ids = good.ids;
  numbered = good.numbered;
  rising = good.rising;
  fewer = good.fewer;
  formed = all_later s.entries n more s.records good.formed;
  few_slots = good.few_slots;
  slots = good.slots;
  open_slots = good.open_slots;
  shown = good.shown;
  layers = good.layers;
  most = good.most;
}

pub good_counted : (s : State) → Good s → Good (counted s)
good_counted s good = good_counters s s.sessions (s.entries + 1) (omega arith) good

-- ---- a new snapshot

-- a base's id is below those from the next one on
base_below : (s : State) → Good s → (place : ℕ) (p : Bytes) (id : ℕ) → is_base place p s.records ≡ true → s.next_id ≤ id → HasOlderParent s.records place p id
base_below s good place [] id base high = tt
base_below s good place (b ∷ bs) id base high = by (committed_at place (b ∷ bs) s.records) refl base
  where
    by : (o : Option Record) → committed_at place (b ∷ bs) s.records ≡ o → IsSome o → IsSomeAnd o (λ r. r.id < id)
    by None e some = absurd (true≢false (sym some))
    by (Some r) e some =
        let low = record_at-all (λ t. t.id < s.next_id) place (b ∷ bs) s.records r (committed_at-record_at place (b ∷ bs) s.records r e) good.numbered in
        omega (arith, low, high)

-- the state with a record more, with this next id and this number of entries
abbrev pub joined : State → Record → ℕ → ℕ → State
joined s r next entries = record s { records = with_record r s.records; next_id = next; entries = entries }

-- of a free key, on a base that is there, with an id from the next one on, well-formed, in no slot of another, and within the limit
pub good_joined : (s : State) (r : Record) (next entries : ℕ) → Good s → is_taken_at r.namespace s.namespaces ≡ true → has_key r.namespace r.key s.records ≡ false
    → is_base r.namespace r.parent s.records ≡ true → is_too_deep s.ancestors r.namespace r.parent s.records ≡ false → s.next_id ≤ r.id → r.id < next → s.entries ≤ entries → IsFormed entries r → IsUsageCounted r.content → HasLowSlot s.slots r.content → IsShown s.records r.namespace r.parent r.content
    → AllByRecursion (AreApart r) s.records → AllByRecursion (λ t. AreApart t r) s.records
    → Covers (limit_at r.namespace s.namespaces) (plus (charge_of r.namespace s.records) (usage_of r.content)) → Good (joined s r next entries)
good_joined s r next entries good taken free base deep high below more formed count few shown apart beside room = record {
  root = good.root;
  promised = record {
    parents = stand_parents ns rs ts keeps ts (all-with_record r (HasParent rs) rs base good.promised.parents);
    leased = stand_leases ns rs ts keeps s.leases good.promised.leased;
    counted = all-with_record r (λ t. IsUsageCounted t.content) rs count good.promised.counted;
    within = within_after ns rs ts r.namespace good.promised.within (subst (λ (u : Usage). Covers (limit_at r.namespace ns) u) (sym (charge_of-with_record_own r rs)) room) (λ p apart. charge_of-with_record_other p r rs apart);
    chains = stand_chains ns rs ts keeps s.ancestors ts chained;
  };
  named_once = good.named_once;
  lease_names = good.lease_names;
  lease_keys = good.lease_keys;
  limits = good.limits;
  short = good.short;
  distinct = good.distinct;
  spaces = good.spaces;
  few_spaces = good.few_spaces;
  placed = all-with_record r (λ t. is_taken_at t.namespace ns ≡ true) rs taken good.placed;
  sorted = sorted-with_record r rs free good.sorted;
  ids = pairwise-with_record r (λ t u. t.id ≢ u.id) rs
      (all-map (λ t. t.id < s.next_id) (λ t. r.id ≢ t.id) (λ t h. omega (arith, h, high)) rs good.numbered)
      (all-map (λ t. t.id < s.next_id) (λ t. t.id ≢ r.id) (λ t h. omega (arith, h, high)) rs good.numbered)
      good.ids;
  numbered = all-with_record r (λ t. t.id < next) rs below (all-map (λ t. t.id < s.next_id) (λ t. t.id < next) (λ t h. omega (arith, h, high, below)) rs good.numbered);
  rising = stand_rising ns rs ts keeps ts (all-with_record r (IsRising rs) rs (base_below s good r.namespace r.parent r.id base high) good.rising);
  fewer = omega (arith, length-with_record r rs, good.fewer, high, below);
  formed = all-with_record r (IsFormed entries) rs formed (all_later s.entries entries more rs good.formed);
  few_slots = good.few_slots;
  slots = pairwise-with_record r AreApart rs apart beside good.slots;
  open_slots = all-with_record r (λ t. HasLowSlot s.slots t.content) rs few good.open_slots;
  shown = stand_shown ns rs ts keeps ts (all_deep s good ts chained) (all-with_record r (λ t. IsShown rs t.namespace t.parent t.content) rs shown good.shown);
  layers = good.layers;
  most = good.most;
}
  where
    ns : List Namespace
    ns = s.namespaces

    rs : List Record
    rs = s.records

    ts : List Record
    ts = with_record r rs

    keeps : Keeps rs ts
    keeps = Keeps-with_record r rs free

    chained : AllByRecursion (λ t. IsSome (chain s.ancestors rs t)) ts
    chained = all-with_record r (λ t. IsSome (chain s.ancestors rs t)) rs (chain-found s.ancestors rs r.namespace r.parent deep) good.promised.chains

-- with the next id
pub good_added : (s : State) (r : Record) → Good s → is_taken_at r.namespace s.namespaces ≡ true → has_key r.namespace r.key s.records ≡ false
    → is_base r.namespace r.parent s.records ≡ true → is_too_deep s.ancestors r.namespace r.parent s.records ≡ false → r.id ≡ s.next_id → IsFormed (s.entries + 1) r → IsUsageCounted r.content → HasLowSlot s.slots r.content → IsShown s.records r.namespace r.parent r.content
    → AllByRecursion (AreApart r) s.records → AllByRecursion (λ t. AreApart t r) s.records
    → Covers (limit_at r.namespace s.namespaces) (plus (charge_of r.namespace s.records) (usage_of r.content)) → Good (added s r)
good_added s r good taken free base deep next formed count few shown apart beside room =
    good_joined s r (s.next_id + 1) (s.entries + 1) good taken free base deep (omega (arith, next)) (omega (arith, next)) (omega arith) formed count few shown apart beside room

pub good_prepared : (s : State) (place : ℕ) (key parent : Bytes) (labels : List Label) (slot : ℕ) → Good s → is_taken_at place s.namespaces ≡ true → has_key place key s.records ≡ false
    → is_base place parent s.records ≡ true → is_too_deep s.ancestors place parent s.records ≡ false → (is_key key && is_parent parent && are_labels labels) ≡ true → slot < s.slots → active_at slot s.records ≡ None
    → Covers (limit_at place s.namespaces) (plus (charge_of place s.records) one) → Good (prepared s place key parent labels slot).0
good_prepared s place key parent labels slot good low free base deep texts few none room =
    good_added s r good low free base deep refl (formed_new s place key parent labels (Active slot one) good texts) tt few tt
    (all-map (λ t. is_slot slot t ≡ false) (AreApart r) (λ t out k is. subst (λ (n : ℕ). is_slot n t ≡ false) (eqb-true slot k is) out) s.records empty)
    (all-map (λ t. is_slot slot t ≡ false) (λ t. AreApart t r) (λ t out k is. apart_other slot k one t.content out is) s.records empty)
    room
  where
    r : Record
    r = new_record s place key parent labels (Active slot one)

    empty : AllByRecursion (λ t. is_slot slot t ≡ false) s.records
    empty = find-none (is_slot slot) s.records none

-- no amount more is within the limit
pub nothing_more : (limit total : Usage) → Covers limit total → Covers limit (plus total no_usage)
nothing_more limit total a = record { blocks = omega (arith, a.blocks); inodes = omega (arith, a.inodes) }

-- a view is in no slot, and is charged nothing
pub good_view_added : (s : State) (r : Record) → Good s → r.content ≡ View (shown_layers r.namespace r.parent s.records) → r.id ≡ s.next_id → IsFormed (s.entries + 1) r → is_taken_at r.namespace s.namespaces ≡ true → has_key r.namespace r.key s.records ≡ false
    → is_base r.namespace r.parent s.records ≡ true → is_too_deep s.ancestors r.namespace r.parent s.records ≡ false → Good (added s r)
good_view_added s r good is next formed low free base deep =
    good_added s r good low free base deep next formed (subst IsUsageCounted (sym is) tt) (subst (HasLowSlot s.slots) (sym is) tt) (subst (IsShown s.records r.namespace r.parent) (sym is) refl)
    (all-map (λ t. HasLowSlot s.slots t.content) (AreApart r) (λ t h k held. absurd (true≢false (sym held ∙ ap (has_slot k) is))) s.records good.open_slots)
    (all-map (λ t. HasLowSlot s.slots t.content) (λ t. AreApart t r) (λ t h k held. ap (has_slot k) is) s.records good.open_slots)
    (subst (λ (u : Usage). Covers (limit_at r.namespace s.namespaces) (plus (charge_of r.namespace s.records) u)) (sym (ap usage_of is)) (nothing_more (limit_at r.namespace s.namespaces) (charge_of r.namespace s.records) (good.promised.within r.namespace (taken-below r.namespace s.namespaces low))))

pub good_viewed : (s : State) (place : ℕ) (key parent : Bytes) (labels : List Label) → Good s → is_taken_at place s.namespaces ≡ true → has_key place key s.records ≡ false
    → is_base place parent s.records ≡ true → is_too_deep s.ancestors place parent s.records ≡ false → (is_key key && is_parent parent && are_labels labels) ≡ true → Good (viewed s place key parent labels).0
good_viewed s place key parent labels good low free base deep texts =
    let shown = View (shown_layers place parent s.records) in
    good_view_added s (new_record s place key parent labels shown) good refl refl (formed_new s place key parent labels shown good texts) low free base deep

-- ---- an active snapshot charged anew

module _ (slot : ℕ) (to : Usage) where
  pub place_anew : (most : ℕ) (c : Content) → has_slot slot c ≡ true → HasLowSlot most c → slot < most
  place_anew most (View layers) e h = absurd (true≢false (sym e))
  place_anew most (Active k u) e h = subst (λ (n : ℕ). n < most) (eqb-true k slot e) h
  place_anew most (Committed l u) e h = absurd (true≢false (sym e))

  pub good_recharged : (s : State) (r : Record) → Good s → active_at slot s.records ≡ Some r → Covers (limit_at r.namespace s.namespaces) (charge_with r to s.records)
      → Good (record s { records = recharged slot to s.records; entries = s.entries + 1 })
  good_recharged s r good e room = record {
    root = good.root;
    promised = record {
      parents = stand_parents ns rs ts keeps ts (all-recharged slot to (HasParent rs) rs (λ t is h. h) good.promised.parents);
      leased = stand_leases ns rs ts keeps s.leases good.promised.leased;
      counted = all-recharged slot to (λ t. IsUsageCounted t.content) rs (λ t is h. tt) good.promised.counted;
      within = within_after ns rs ts r.namespace good.promised.within (subst (λ (u : Usage). Covers (limit_at r.namespace ns) u) (sym (charge_of-recharged_own slot to rs r e)) room) (λ p apart. charge_of-recharged_other p slot to rs r e apart);
      chains = stand_chains ns rs ts keeps s.ancestors ts chained;
    };
    named_once = good.named_once;
    lease_names = good.lease_names;
    lease_keys = good.lease_keys;
    limits = good.limits;
    short = good.short;
    distinct = good.distinct;
    spaces = good.spaces;
    few_spaces = good.few_spaces;
    placed = all-recharged slot to (λ t. is_taken_at t.namespace ns ≡ true) rs (λ t is h. h) good.placed;
    sorted = sorted-recharged slot to rs good.sorted;
    ids = pairwise-recharged slot to (λ t u. t.id ≢ u.id) rs (λ t u is h. h) (λ t u is h. h) good.ids;
    numbered = all-recharged slot to (λ t. t.id < s.next_id) rs (λ t is h. h) good.numbered;
    rising = stand_rising ns rs ts keeps ts (all-recharged slot to (IsRising rs) rs (λ t is h. h) good.rising);
    fewer = omega (arith, length-recharged slot to rs, good.fewer);
    formed = all-recharged slot to (IsFormed (s.entries + 1)) rs (λ t is h. formed_charged (s.entries + 1) slot to t h) (all_next s good);
    few_slots = good.few_slots;
    slots = pairwise-recharged slot to AreApart rs
        (λ t u is h k out. h k (sym (same_slot slot k to t.content is) ∙ out))
        (λ t u is h k out. same_slot slot k to u.content is ∙ h k out)
        good.slots;
    open_slots = all-recharged slot to (λ t. HasLowSlot s.slots t.content) rs (λ t is h. place_anew s.slots t.content is h) good.open_slots;
    shown = stand_shown ns rs ts keeps ts (all_deep s good ts chained) (all-recharged slot to (λ t. IsShown rs t.namespace t.parent t.content) rs (λ t is h. tt) good.shown);
    layers = good.layers;
    most = good.most;
  }
    where
      ns : List Namespace
      ns = s.namespaces

      rs : List Record
      rs = s.records

      ts : List Record
      ts = recharged slot to rs

      keeps : Keeps rs ts
      keeps = Keeps-recharged slot to rs

      chained : AllByRecursion (λ t. IsSome (chain s.ancestors rs t)) ts
      chained = all-recharged slot to (λ t. IsSome (chain s.ancestors rs t)) rs (λ t is h. h) good.promised.chains

-- the charge of a record gives way to one that it covers
pub covered : (s : State) (slot : ℕ) (r : Record) (to : Usage) → Good s → active_at slot s.records ≡ Some r → Covers (usage_of r.content) to → Covers (limit_at r.namespace s.namespaces) (charge_with r to s.records)
covered s slot r to good e less =
    covers_less (limit_at r.namespace s.namespaces) (charge_of r.namespace s.records) (usage_of r.content) to
    (good.promised.within r.namespace (active_at-all (λ t. t.namespace < length s.namespaces) slot s.records r e (placed_below s good)))
    (charge_of-covers (is_slot slot) s.records r e) less

-- ---- one snapshot fewer

pub good_discarded : (s : State) (slot : ℕ) (r : Record) → Good s → active_at slot s.records ≡ Some r → Good (record s { records = without_slot slot s.records; entries = s.entries + 1 })
good_discarded s slot r good e = record {
  root = good.root;
  promised = record {
    parents = stand_parents ns rs ts keeps ts (all-without (is_slot slot) (HasParent rs) rs good.promised.parents);
    leased = stand_leases ns rs ts keeps s.leases good.promised.leased;
    counted = all-without (is_slot slot) (λ t. IsUsageCounted t.content) rs good.promised.counted;
    within = within_after ns rs ts r.namespace good.promised.within
        (subst (λ (u : Usage). Covers (limit_at r.namespace ns) u) (sym (charge_of-without_own (is_slot slot) rs r e)) (covers_gone (limit_at r.namespace ns) (charge_of r.namespace rs) (usage_of r.content) (good.promised.within r.namespace low)))
        (λ p apart. charge_of-without_other p (is_slot slot) rs r e apart);
    chains = stand_chains ns rs ts keeps s.ancestors ts chained;
  };
  named_once = good.named_once;
  lease_names = good.lease_names;
  lease_keys = good.lease_keys;
  limits = good.limits;
  short = good.short;
  distinct = good.distinct;
  spaces = good.spaces;
  few_spaces = good.few_spaces;
  placed = all-without (is_slot slot) (λ t. is_taken_at t.namespace ns ≡ true) rs good.placed;
  sorted = sorted-without (is_slot slot) rs good.sorted;
  ids = pairwise-without (is_slot slot) (λ t u. t.id ≢ u.id) rs good.ids;
  numbered = all-without (is_slot slot) (λ t. t.id < s.next_id) rs good.numbered;
  rising = stand_rising ns rs ts keeps ts (all-without (is_slot slot) (IsRising rs) rs good.rising);
  fewer = omega (arith, length-without (is_slot slot) rs, good.fewer);
  formed = all-without (is_slot slot) (IsFormed (s.entries + 1)) rs (all_next s good);
  few_slots = good.few_slots;
  slots = pairwise-without (is_slot slot) AreApart rs good.slots;
  open_slots = all-without (is_slot slot) (λ t. HasLowSlot s.slots t.content) rs good.open_slots;
  shown = stand_shown ns rs ts keeps ts (all_deep s good ts chained) (all-without (is_slot slot) (λ t. IsShown rs t.namespace t.parent t.content) rs good.shown);
  layers = good.layers;
  most = good.most;
}
  where
    ns : List Namespace
    ns = s.namespaces

    rs : List Record
    rs = s.records

    ts : List Record
    ts = without_slot slot rs

    keeps : Keeps rs ts
    keeps = Keeps-without_slot slot rs

    chained : AllByRecursion (λ t. IsSome (chain s.ancestors rs t)) ts
    chained = all-without (is_slot slot) (λ t. IsSome (chain s.ancestors rs t)) rs good.promised.chains

    low : r.namespace < length ns
    low = active_at-all (λ t. t.namespace < length ns) slot rs r e (placed_below s good)

-- ---- a snapshot removed

-- two texts with one place are one text
pub same_name : (a b : Bytes) (ns : List Namespace) (place : ℕ) → place_of a ns ≡ Some place → place_of b ns ≡ Some place → a ≡ b
same_name a b ns place e f = name_at-place a ns place e ∙ sym (name_at-place b ns place f)

-- a lease that doesn't name the key in its namespace names other keys
pub names_other : (namespace key : Bytes) (ns : List Namespace) (place : ℕ) → place_of namespace ns ≡ Some place → (l : Lease) → guards namespace key l ≡ false → AreNamed (IsOther place key) ns l
names_other namespace key ns place e l out p f = by (eqb p place) refl
  where
    apart : (k : Bytes) → (eqb p place) ≡ false → IsOther place key p k
    apart k ne = ap (λ b. b && bytes_eq k key) ne

    turned : (k : Bytes) → bytes_eq key k ≡ false → bytes_eq k key ≡ false
    turned k ne = false_from_ne_true (bytes_eq k key) (λ is. true≢false (sym ((bytes_eq-Decides key k).1 (sym ((bytes_eq-Decides k key).0 is))) ∙ ne))

    all_apart : (names : List Bytes) → (eqb p place) ≡ false → AllByRecursion (IsOther place key p) names
    all_apart [] ne = tt
    all_apart (k ∷ ks) ne = (apart k ne, all_apart ks ne)

    by : (b : Bool) → eqb p place ≡ b → AllByRecursion (IsOther place key p) l.names
    by false ne = all_apart l.names ne
    by true is =
        let own : namespace ≡ l.namespace = same_name namespace l.namespace ns p (subst (λ (n : ℕ). place_of namespace ns ≡ Some n) (sym (eqb-true p place is)) e) f in
        let of : is_of namespace l ≡ true = (bytes_eq-Decides namespace l.namespace).1 own in
        let unnamed : does_name key l ≡ false = sym (ap (λ b. b && does_name key l) of) ∙ out in
        all-map (λ k. bytes_eq key k ≡ false) (IsOther place key p) (λ k ne. (λ i. is i && bytes_eq k key) ∙ turned k ne) l.names (none-passes (bytes_eq key) l.names unnamed)

-- all leases of a state do, where none names the key
pub leases_other : (namespace key : Bytes) (ns : List Namespace) (place : ℕ) → place_of namespace ns ≡ Some place → (ls : List Lease) → is_guarded ls namespace key ≡ false → AllByRecursion (AreNamed (IsOther place key) ns) ls
leases_other namespace key ns place e ls out =
    all-map (λ l. guards namespace key l ≡ false) (AreNamed (IsOther place key) ns) (λ l ne. names_other namespace key ns place e l ne) ls (none-passes (guards namespace key) ls out)

-- the snapshot of the key goes, where no snapshot is on it and no lease names it
module _ (s : State) (place : ℕ) (key : Bytes) (r : Record) (good : Good s) (e : record_at place key s.records ≡ Some r) (childless : has_children place key s.records ≡ false) where
  -- it is of the namespace
  pub removed_place : r.namespace ≡ place
  removed_place = eqb-true r.namespace place (and_parts (r.namespace == place) (bytes_eq r.key key) (record_at-is_named place key s.records r e)).0

  pub removed_total : charge_of place (without_key place key s.records) ≡ minus (charge_of place s.records) (usage_of r.content)
  removed_total = subst (λ (n : ℕ). charge_of n (without_key place key s.records) ≡ minus (charge_of n s.records) (usage_of r.content)) removed_place (charge_of-without_own (is_named place key) s.records r e)

  pub removed_others : (p : ℕ) → p ≢ place → charge_of p (without_key place key s.records) ≡ charge_of p s.records
  removed_others p apart = charge_of-without_other p (is_named place key) s.records r e (λ same. apart (same ∙ removed_place))

  pub good_removed : (namespace : Bytes) → place_of namespace s.namespaces ≡ Some place → is_guarded s.leases namespace key ≡ false → Good (removed_at s place key)
  good_removed namespace spaced unleased = record {
    root = good.root;
    promised = record {
      parents = parents_on P rs ts keeps ts on (all-without p (HasParent rs) rs good.promised.parents);
      leased = leases_on P rs ts keeps ns s.leases (leases_other namespace key ns place spaced s.leases unleased) good.promised.leased;
      counted = all-without p (λ t. IsUsageCounted t.content) rs good.promised.counted;
      within = within_after ns rs ts place good.promised.within
          (subst (λ (u : Usage). Covers (limit_at place ns) u) (sym removed_total) (covers_gone (limit_at place ns) (charge_of place rs) (usage_of r.content) (good.promised.within place low)))
          removed_others;
      chains = chains_on P rs ts keeps s.ancestors ts on chained;
    };
    named_once = good.named_once;
    lease_names = good.lease_names;
    lease_keys = good.lease_keys;
    limits = good.limits;
    short = good.short;
    distinct = good.distinct;
    spaces = good.spaces;
    few_spaces = good.few_spaces;
    placed = all-without p (λ t. is_taken_at t.namespace ns ≡ true) rs good.placed;
    sorted = sorted-without p rs good.sorted;
    ids = pairwise-without p (λ t u. t.id ≢ u.id) rs good.ids;
    numbered = all-without p (λ t. t.id < s.next_id) rs good.numbered;
    rising = rising_on P rs ts keeps ts on (all-without p (IsRising rs) rs good.rising);
    fewer = omega (arith, length-without p rs, good.fewer);
    formed = all-without p (IsFormed (s.entries + 1)) rs (all_next s good);
    few_slots = good.few_slots;
    slots = pairwise-without p AreApart rs good.slots;
    open_slots = all-without p (λ t. HasLowSlot s.slots t.content) rs good.open_slots;
    shown = shown_on P rs ts keeps ts on (all_deep s good ts chained) (all-without p (λ t. IsShown rs t.namespace t.parent t.content) rs good.shown);
    layers = good.layers;
    most = good.most;
  }
    where
      P : ℕ → Bytes → Type 0
      P = IsOther place key

      p : Record → Bool
      p = is_named place key

      ns : List Namespace
      ns = s.namespaces

      rs : List Record
      rs = s.records

      ts : List Record
      ts = without_key place key rs

      keeps : KeepsFor P rs ts
      keeps = keeps-without_key place key rs childless

      on : AreOn P ts
      on = all-without p (λ t. OnParent P t.namespace t.parent) rs (on_other place key rs childless)

      chained : AllByRecursion (λ t. IsSome (chain s.ancestors rs t)) ts
      chained = all-without p (λ t. IsSome (chain s.ancestors rs t)) rs good.promised.chains

      low : place < length ns
      low = place_of-below namespace ns place spaced

-- ---- a snapshot committed

pub good_committed : (s : State) (slot : ℕ) (name : Bytes) (lease : Option Bytes) (labels : Option (List Label)) (layer : Tree) (r : Record) → Good s → active_at slot s.records ≡ Some r → are_formed name lease labels ≡ true → has_key r.namespace name s.records ≡ false → Covers (usage_of r.content) (count_of layer)
    → Good (committed s slot name lease labels layer r).0
good_committed s slot name lease labels layer r good e given free less = record {
  root = good.root;
  promised = record {
    parents = stand_parents ns rs ts keeps ts (all-with_record c (HasParent rs) us (active_at-all (HasParent rs) slot rs r e good.promised.parents) (all-without (is_slot slot) (HasParent rs) rs good.promised.parents));
    leased = guarding lease;
    counted = all-with_record c (λ t. IsUsageCounted t.content) us refl (all-without (is_slot slot) (λ t. IsUsageCounted t.content) rs good.promised.counted);
    within = within_after ns rs ts r.namespace good.promised.within
        (subst (λ (u : Usage). Covers (limit_at r.namespace ns) u) (sym (charge_of-committed_own slot name labels layer (s.entries + 1) rs r e)) (covered s slot r (count_of layer) good e less))
        (λ p apart. charge_of-committed_other p slot name labels layer (s.entries + 1) rs r e apart);
    chains = stand_chains ns rs ts keeps s.ancestors ts chained;
  };
  named_once = once lease;
  lease_names = lease_forms lease;
  lease_keys = keys_apart lease;
  limits = good.limits;
  short = good.short;
  distinct = good.distinct;
  spaces = good.spaces;
  few_spaces = good.few_spaces;
  placed = all-with_record c (λ t. is_taken_at t.namespace ns ≡ true) us taken (all-without (is_slot slot) (λ t. is_taken_at t.namespace ns ≡ true) rs good.placed);
  sorted = sorted-with_record c us left (sorted-without (is_slot slot) rs good.sorted);
  ids = pairwise-with_record c (λ t u. t.id ≢ u.id) us
      (all-beside (is_slot slot) (λ t u. t.id ≢ u.id) (λ t. r.id ≢ t.id) rs r e (λ t h. h) (λ t h same. h (sym same)) good.ids)
      (all-beside (is_slot slot) (λ t u. t.id ≢ u.id) (λ t. t.id ≢ r.id) rs r e (λ t h same. h (sym same)) (λ t h. h) good.ids)
      (pairwise-without (is_slot slot) (λ t u. t.id ≢ u.id) rs good.ids);
  numbered = all-with_record c (λ t. t.id < s.next_id) us (active_at-all (λ t. t.id < s.next_id) slot rs r e good.numbered) (all-without (is_slot slot) (λ t. t.id < s.next_id) rs good.numbered);
  rising = stand_rising ns rs ts keeps ts (all-with_record c (IsRising rs) us (active_at-all (IsRising rs) slot rs r e good.rising) (all-without (is_slot slot) (IsRising rs) rs good.rising));
  fewer = omega (arith, length-with_record c us, length-without_found (is_slot slot) rs r e, good.fewer);
  formed = all-with_record c (IsFormed (s.entries + 1)) us (formed_committed (s.entries + 1) name lease labels layer r given (active_at-all (IsFormed (s.entries + 1)) slot rs r e held)) (all-without (is_slot slot) (IsFormed (s.entries + 1)) rs held);
  few_slots = good.few_slots;
  slots = pairwise-with_record c AreApart us
      (all-map (λ t. HasLowSlot s.slots t.content) (AreApart c) (λ t h k is. absurd (true≢false (sym is))) us places)
      (all-map (λ t. HasLowSlot s.slots t.content) (λ t. AreApart t c) (λ t h k is. refl) us places)
      (pairwise-without (is_slot slot) AreApart rs good.slots);
  open_slots = all-with_record c (λ t. HasLowSlot s.slots t.content) us tt places;
  shown = stand_shown ns rs ts keeps ts (all_deep s good ts chained) (all-with_record c (λ t. IsShown rs t.namespace t.parent t.content) us tt (all-without (is_slot slot) (λ t. IsShown rs t.namespace t.parent t.content) rs good.shown));
  layers = good.layers;
  most = good.most;
}
  where
    ns : List Namespace
    ns = s.namespaces

    rs : List Record
    rs = s.records

    us : List Record
    us = without_slot slot rs

    c : Record
    c = committed_as name labels layer (s.entries + 1) r

    ts : List Record
    ts = with_record c us

    left : has_key r.namespace name us ≡ false
    left = has_key-without (is_slot slot) r.namespace name rs free

    keeps : Keeps rs ts
    keeps = Keeps-after rs us ts (Keeps-without_slot slot rs) (Keeps-with_record c us left)

    low : r.namespace < length ns
    low = active_at-all (λ t. t.namespace < length ns) slot rs r e (placed_below s good)

    taken : is_taken_at r.namespace ns ≡ true
    taken = active_at-all (λ t. is_taken_at t.namespace ns ≡ true) slot rs r e good.placed

    -- the name is that of a committed snapshot now
    there : IsSome (committed_at r.namespace name ts)
    there = ap is_some (committed-from (record_at r.namespace name ts) c (find-with_record_own c (is_named r.namespace name) us own left) refl)
      where
        own : is_named r.namespace name c ≡ true
        own = (λ i. eq-eqb r.namespace r.namespace refl i && bytes_eq name name) ∙ (bytes_eq-Decides name name).1 refl

    stood : AllByRecursion (IsGuarding ns ts) s.leases
    stood = stand_leases ns rs ts keeps s.leases good.promised.leased

    guarding : (l : Option Bytes) → AllByRecursion (IsGuarding ns ts) (leases_after s r.namespace name l)
    guarding None = stood
    guarding (Some l) = guarding-with_name ns ts (name_at r.namespace ns) name r.namespace (place_of-name_at ns r.namespace good.distinct taken) there l s.leases stood

    lease_forms : (l : Option Bytes) → AllByRecursion (λ k. is_key k.name ≡ true) (leases_after s r.namespace name l)
    lease_forms None = good.lease_names
    lease_forms (Some l) = names-added (name_at r.namespace ns) l name s.leases good.lease_names

    keys_apart : (l : Option Bytes) → AreDistinct (leases_after s r.namespace name l)
    keys_apart None = good.lease_keys
    keys_apart (Some l) = AreDistinct-with_name_added (name_at r.namespace ns) l name s.leases good.lease_keys

    once : (l : Option Bytes) → AllByRecursion NamesOnce (leases_after s r.namespace name l)
    once None = good.named_once
    once (Some l) = NamesOnce-with_name_added (name_at r.namespace ns) l name s.leases good.named_once

    chained : AllByRecursion (λ t. IsSome (chain s.ancestors rs t)) ts
    chained = all-with_record c (λ t. IsSome (chain s.ancestors rs t)) us (active_at-all (λ t. IsSome (chain s.ancestors rs t)) slot rs r e good.promised.chains) (all-without (is_slot slot) (λ t. IsSome (chain s.ancestors rs t)) rs good.promised.chains)

    held : AllByRecursion (IsFormed (s.entries + 1)) rs
    held = all_next s good

    places : AllByRecursion (λ t. HasLowSlot s.slots t.content) us
    places = all-without (is_slot slot) (λ t. HasLowSlot s.slots t.content) rs good.open_slots

-- ---- a snapshot with other labels

pub good_relabelled : (s : State) (place : ℕ) (key : Bytes) (labels : List Label) → Good s → are_labels labels ≡ true → Good (record s { records = relabelled place key labels (s.entries + 1) s.records; entries = s.entries + 1 })
good_relabelled s place key labels good formed = record {
  root = good.root;
  promised = record {
    parents = all-relabelled place key labels n (HasParent ts) rs (λ t h. h) (all-map (HasParent rs) (HasParent ts) (alike-HasParent rs ts alike) rs good.promised.parents);
    leased = all-map (IsGuarding ns rs) (IsGuarding ns ts) (alike-IsGuarding rs ts alike ns) s.leases good.promised.leased;
    counted = all-relabelled place key labels n (λ t. IsUsageCounted t.content) rs (λ t h. h) good.promised.counted;
    within = λ p low. subst (λ (u : Usage). Covers (limit_at p ns) u) (sym (alike-charge_of rs ts alike p)) (good.promised.within p low);
    chains = all-relabelled place key labels n (λ t. IsSome (chain s.ancestors ts t)) rs (λ t h. h) (all-map (λ t. IsSome (chain s.ancestors rs t)) (λ t. IsSome (chain s.ancestors ts t)) (alike-some_chain rs ts alike s.ancestors) rs good.promised.chains);
  };
  named_once = good.named_once;
  lease_names = good.lease_names;
  lease_keys = good.lease_keys;
  limits = good.limits;
  short = good.short;
  distinct = good.distinct;
  spaces = good.spaces;
  few_spaces = good.few_spaces;
  placed = all-relabelled place key labels n (λ t. is_taken_at t.namespace ns ≡ true) rs (λ t h. h) good.placed;
  sorted = sorted-relabelled place key labels n rs good.sorted;
  ids = pairwise-relabelled place key labels n (λ t u. t.id ≢ u.id) rs (λ t u h. h) (λ t u h. h) good.ids;
  numbered = all-relabelled place key labels n (λ t. t.id < s.next_id) rs (λ t h. h) good.numbered;
  rising = all-relabelled place key labels n (IsRising ts) rs (λ t h. h) (all-map (IsRising rs) (IsRising ts) (alike-IsRising rs ts alike) rs good.rising);
  fewer = omega (arith, length-relabelled place key labels n rs, good.fewer);
  formed = all-relabelled place key labels n (IsFormed n) rs (formed_labelled n labels formed) (all_next s good);
  few_slots = good.few_slots;
  slots = pairwise-relabelled place key labels n AreApart rs (λ t u h. h) (λ t u h. h) good.slots;
  open_slots = all-relabelled place key labels n (λ t. HasLowSlot s.slots t.content) rs (λ t h. h) good.open_slots;
  shown = all-relabelled place key labels n (λ t. IsShown ts t.namespace t.parent t.content) rs (λ t h. h)
      (all-map (λ t. IsShown rs t.namespace t.parent t.content) (λ t. IsShown ts t.namespace t.parent t.content) (λ t h. shown_anew rs ts t.namespace t.parent t.content (alike-layers rs ts alike t.namespace t.parent) h) rs good.shown);
  layers = good.layers;
  most = good.most;
}
  where
    ns : List Namespace
    ns = s.namespaces

    rs : List Record
    rs = s.records

    n : ℕ
    n = s.entries + 1

    ts : List Record
    ts = relabelled place key labels n rs

    alike : AreAlike rs ts
    alike = bare-relabelled place key labels n rs
