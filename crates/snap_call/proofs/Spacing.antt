-- What is true of the state after a namespace was made, and after one was taken away.
use Rattle.std.proofs.Common.{◌≡◌, ◌≢◌, ℕ, ◌<◌, ◌≤◌, count_by, Bool, true, false, true≢false, cond, eq-eqb, List, length, Option, Some, None, refl, sym, ap, ◌∙◌, subst, inl, inr, arith}
use Rattle.std.specs.List.{AllByRecursion, list_any}
use Rattle.std.specs.Prelude.{◌==◌, ◌&&◌, ◌||◌, bytes_eq, nat_le, not}
use Rattle.std.proofs.lemmas.Bool.{and_parts, cases_eq, leb-true, or_left}
use Rattle.std.proofs.lemmas.Slice.Eq.{bytes_eq-Decides}
use Rattle.snap_usage.specs.declared.usage.Usage.{Usage}
use Rattle.snap_usage.specs.Counted.{Covers, no_usage}
use Rattle.snap_lease.specs.Lease.{Lease, is_of}
use Rattle.snap_lease.specs.Leases.{has_leases}
use Rattle.snap_lease.proofs.ListLemmas.{bytes_eq_comm}
use Rattle.snap_record.specs.Labels.{Bytes}
use Rattle.snap_call.specs.declared.config.Namespace.{Namespace}
use Rattle.snap_call.specs.declared.state.State.{State}
use Rattle.snap_call.specs.Forms.{have_distinct_names, is_limit, is_namespace, is_space, is_text}
use Rattle.snap_call.specs.Good.{Good}
use Rattle.snap_call.specs.Records.{charge_of, has_records}
use Rattle.snap_call.specs.State.{is_taken, is_taken_at, limit_at, most_namespaces, place_of, with_namespace, without_namespace}
use Rattle.snap_call.specs.Step.{spacing}
use Rattle.snap_call.proofs.Chains.{NamesStand}
use Rattle.snap_call.proofs.Formed.{all_next}
use Rattle.snap_call.proofs.Leasing.{name_at-place, place_of-taken}
use Rattle.snap_call.proofs.Lists.{all-map, all-both, none-passes}
use Rattle.snap_call.proofs.Naming.{all-with, all-without_namespace, distinct-with, distinct-without, few-with, free-untaken, free_place, length-without_namespace, limit_at-with_other, limit_at-with_own, limit_at-without_other, limited-without_own, place_of-with, place_of-without, taken-with, taken-without}
use Rattle.snap_call.proofs.Sums.{charge_of-elsewhere}
use Rattle.snap_call.specs.Promised.{IsGuarding}

-- what is true of the namespaces and of what stands on them
good_spacing : (s : State) (ns : List Namespace) → Good s → AllByRecursion (IsGuarding ns s.records) s.leases → ((place : ℕ) → place < length ns → Covers (limit_at place ns) (charge_of place s.records))
    → ((place : ℕ) → place < length ns → is_limit (limit_at place ns) ≡ true) → AllByRecursion (λ n. length n.name ≤ 255) ns → have_distinct_names ns ≡ true → AllByRecursion (λ n. is_space n ≡ true) ns → length ns ≤ most_namespaces
    → AllByRecursion (λ r. is_taken_at r.namespace ns ≡ true) s.records → Good (spacing s ns)
good_spacing s ns good leased within limits short distinct spaces few placed = record {
  root = good.root;
  promised = record {
    parents = good.promised.parents;
    leased = leased;
    counted = good.promised.counted;
    within = within;
    chains = good.promised.chains;
  };
  named_once = good.named_once;
  lease_names = good.lease_names;
  lease_keys = good.lease_keys;
  limits = limits;
  short = short;
  distinct = distinct;
  spaces = spaces;
  few_spaces = few;
  placed = placed;
  sorted = good.sorted;
  ids = good.ids;
  numbered = good.numbered;
  rising = good.rising;
  fewer = good.fewer;
  formed = all_next s good;
  few_slots = good.few_slots;
  slots = good.slots;
  open_slots = good.open_slots;
  shown = good.shown;
  layers = good.layers;
  most = good.most;
}

covers_nothing : (limit charge : Usage) → charge ≡ no_usage → Covers limit charge
covers_nothing limit charge none = subst (Covers limit) (sym none) (record { blocks = omega arith; inodes = omega arith })

-- the parts of a namespace's form
pub namespace_parts : (n : Namespace) → is_namespace n ≡ true → (is_taken n ≡ true) × (length n.name ≤ 255) × (is_limit n.limit ≡ true)
namespace_parts n formed =
    let h = and_parts (is_text 255 n.name) (is_limit n.limit) formed in
    let p = and_parts (nat_le 1 (length n.name) && nat_le (length n.name) 255) (not (list_any (λ b. b == 0) n.name)) h.0 in
    let q = and_parts (nat_le 1 (length n.name)) (nat_le (length n.name) 255) p.0 in
    (q.0, leb-true (length n.name) 255 q.1, h.1)

-- one that is new, at the first free place
module _ (s : State) (n : Namespace) (good : Good s) (formed : is_namespace n ≡ true) (new : place_of n.name s.namespaces ≡ None) (room : count_by is_taken s.namespaces < most_namespaces) where
  abbrev ns : List Namespace
  ns = s.namespaces

  abbrev ts : List Namespace
  ts = with_namespace n ns

  parts : (is_taken n ≡ true) × (length n.name ≤ 255) × (is_limit n.limit ≡ true)
  parts = namespace_parts n formed

  -- no snapshot is there yet
  bare : charge_of (free_place ns) s.records ≡ no_usage
  bare =
      charge_of-elsewhere (free_place ns) s.records
      (all-map (λ r. is_taken_at r.namespace ns ≡ true) (λ r. free_place ns ≢ r.namespace)
      (λ r taken same. true≢false (sym (ap (λ place. is_taken_at place ns) same ∙ taken) ∙ free-untaken ns)) s.records good.placed)

  guarded : (l : Lease) → IsGuarding ns s.records l → IsGuarding ts s.records l
  guarded l h = by (bytes_eq l.namespace n.name) refl
    where
      by : (b : Bool) → bytes_eq l.namespace n.name ≡ b → IsGuarding ts s.records l
      by true same = absurd (subst (λ (o : Option ℕ). NamesStand s.records o l.names) (ap (λ name. place_of name ns) ((bytes_eq-Decides l.namespace n.name).0 same) ∙ new) h)
      by false differ =
          subst (λ (o : Option ℕ). NamesStand s.records o l.names)
          (sym (place_of-with l.namespace n ns parts.0 new ∙ ap (λ b. cond b (Some (free_place ns)) (place_of l.namespace ns)) differ)) h

  pub good_namespace : Good (spacing s (with_namespace n s.namespaces))
  good_namespace =
      good_spacing s ts good (all-map (IsGuarding ns s.records) (IsGuarding ts s.records) guarded s.leases good.promised.leased)
      (λ place low. elim (cases_eq place (free_place ns)) [
        | inl same ↦ covers_nothing (limit_at place ts) (charge_of place s.records) (ap (λ p. charge_of p s.records) same ∙ bare)
        | inr other ↦ (let h = limit_at-with_other place n ns other low in subst (λ (u : Usage). Covers u (charge_of place s.records)) (sym h.1) (good.promised.within place h.0))
      ])
      (λ place low. elim (cases_eq place (free_place ns)) [
        | inl same ↦ ap is_limit (ap (λ p. limit_at p ts) same ∙ limit_at-with_own n ns) ∙ parts.2
        | inr other ↦ (let h = limit_at-with_other place n ns other low in ap is_limit h.1 ∙ good.limits place h.0)
      ])
      (all-with (λ m. length m.name ≤ 255) n ns parts.1 good.short)
      (distinct-with n ns parts.0 new good.distinct)
      (all-with (λ m. is_space m ≡ true) n ns (or_left (is_namespace n) (not (is_taken n) && (n.limit.blocks == 0) && (n.limit.inodes == 0)) formed) good.spaces)
      (few-with most_namespaces n ns good.few_spaces room)
      (all-map (λ r. is_taken_at r.namespace ns ≡ true) (λ r. is_taken_at r.namespace ts ≡ true) (λ r taken. taken-with r.namespace n ns taken) s.records good.placed)

neither : (a b : Bool) → (a || b) ≡ false → (a ≡ false) × (b ≡ false)
neither true b e = absurd (true≢false e)
neither false b e = (refl, e)

-- one that has no snapshot and no lease
module _ (s : State) (namespace : Bytes) (place : ℕ) (good : Good s) (named : place_of namespace s.namespaces ≡ Some place) (empty : (has_records place s.records || has_leases s.leases namespace) ≡ false) where
  abbrev old : List Namespace
  old = s.namespaces

  abbrev left : List Namespace
  left = without_namespace place old

  gone : (has_records place s.records ≡ false) × (has_leases s.leases namespace ≡ false)
  gone = neither (has_records place s.records) (has_leases s.leases namespace) empty

  here : is_taken_at place old ≡ true
  here = place_of-taken namespace old place named

  elsewhere : AllByRecursion (λ r. r.namespace ≢ place) s.records
  elsewhere =
      all-map (λ r. (r.namespace == place) ≡ false) (λ r. r.namespace ≢ place) (λ r out same. true≢false (sym (eq-eqb r.namespace place same) ∙ out)) s.records (none-passes (λ r. r.namespace == place) s.records gone.0)

  uncharged : charge_of place s.records ≡ no_usage
  uncharged = charge_of-elsewhere place s.records (all-map (λ r. r.namespace ≢ place) (λ r. place ≢ r.namespace) (λ r h same. h (sym same)) s.records elsewhere)

  still : (l : Lease) → is_of namespace l ≡ false → IsGuarding old s.records l → IsGuarding left s.records l
  still l out h =
      subst (λ (o : Option ℕ). NamesStand s.records o l.names)
      (sym (place_of-without l.namespace old place good.distinct here
      ∙ ap (λ b. cond b None (place_of l.namespace old)) (ap (bytes_eq l.namespace) (sym (name_at-place namespace old place named)) ∙ bytes_eq_comm l.namespace namespace ∙ out))) h

  pub good_removed_namespace : Good (spacing s (without_namespace place s.namespaces))
  good_removed_namespace =
      good_spacing s left good
      (all-map (λ l. (is_of namespace l ≡ false) × IsGuarding old s.records l) (IsGuarding left s.records) (λ l h. still l h.0 h.1) s.leases
      (all-both (λ l. is_of namespace l ≡ false) (IsGuarding old s.records) s.leases (none-passes (is_of namespace) s.leases gone.1) good.promised.leased))
      (λ p low. elim (cases_eq p place) [
        | inl same ↦ covers_nothing (limit_at p left) (charge_of p s.records) (ap (λ q. charge_of q s.records) same ∙ uncharged)
        | inr other ↦ subst (λ (u : Usage). Covers u (charge_of p s.records)) (sym (limit_at-without_other p place old other)) (good.promised.within p (subst (λ (m : ℕ). p < m) (length-without_namespace place old) low))
      ])
      (λ p low. elim (cases_eq p place) [
        | inl same ↦ subst (λ q. is_limit (limit_at q left) ≡ true) (sym same) (limited-without_own place old)
        | inr other ↦ ap is_limit (limit_at-without_other p place old other) ∙ good.limits p (subst (λ (m : ℕ). p < m) (length-without_namespace place old) low)
      ])
      (all-without_namespace (λ m. length m.name ≤ 255) place old (omega arith) good.short)
      (distinct-without place old good.distinct)
      (all-without_namespace (λ m. is_space m ≡ true) place old refl good.spaces)
      (omega (arith, length-without_namespace place old, good.few_spaces))
      (all-map (λ r. (r.namespace ≢ place) × (is_taken_at r.namespace old ≡ true)) (λ r. is_taken_at r.namespace left ≡ true) (λ r h. taken-without r.namespace place old h.0 ∙ h.1) s.records
      (all-both (λ r. r.namespace ≢ place) (λ r. is_taken_at r.namespace old ≡ true) s.records elsewhere good.placed))
