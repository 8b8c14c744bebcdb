-- What is saved of a good state is put back as it was.
use Rattle.std.proofs.Common.{◌≡◌, ℕ, zero, suc, ◌+◌, ◌<◌, ◌≤◌, true, List, [], ◌∷◌, ◌++◌, length, Option, None, Some, IsSome, eq-eqb, refl, sym, ap, ◌∙◌, subst, arith}
use Rattle.std.specs.Prelude.{filter, find, map, max, not, Result, Ok, Err}
use Rattle.std.specs.List.{AllByRecursion}
use Rattle.std.proofs.lemmas.Bool.{eqb-true}
use Rattle.std.proofs.lemmas.List.{append-nil, map-append}
use Rattle.snap_usage.specs.declared.usage.Usage.{Usage}
use Rattle.snap_usage.specs.Counted.{Covers}
use Rattle.snap_ledger.specs.States.{plus}
use Rattle.snap_record.specs.Records.{usage_of}
use Rattle.snap_record.specs.declared.record.Content.{Content}
use Rattle.snap_record.specs.declared.record.Content.TheVariants as contents
use Rattle.snap_record.specs.declared.record.Record.{Record}
use Rattle.snap_call.specs.declared.refusal.Refusal.{Refusal}
use Rattle.snap_call.specs.declared.saved.Saved.{Saved}
use Rattle.snap_call.specs.declared.state.State.{State}
use Rattle.snap_call.specs.Good.{Good, IsFormed, IsShown}
use Rattle.snap_call.specs.Promised.{IsUsageCounted}
use Rattle.snap_call.specs.Records.{active_at, charge_of, has_slot, is_named, is_slot, record_at, HasLowSlot}
use Rattle.snap_call.specs.Results.{◌>>=◌}
use Rattle.snap_call.specs.Saved.{by_id, CanPutBack, without_snapshots, has_id, HasFreeSlot, IsChargedOne, put_all_back, put_back, saved_of, saved_records}
use Rattle.snap_call.specs.State.{is_taken_at, layers_of, limit_at, most_ancestors}
use Rattle.snap_call.specs.Step.{one}
use Rattle.snap_call.proofs.Chains.{HasParent, IsRising, chain, keeps-HasParent, keeps-ancestors, keeps-some_chain, KeepsFor, OnParent}
use Rattle.snap_call.proofs.InOrder.{own_found}
use Rattle.snap_call.proofs.Joined.{filter-none}
use Rattle.snap_call.proofs.Keeping.{covers-Covers, good_chains, placed_below, shown_anew}
use Rattle.snap_call.proofs.Lists.{find-all, find-none, find-passes}
use Rattle.snap_call.proofs.Lowest.{is_taken-None}
use Rattle.snap_call.proofs.Older.{covers-older, finds-active, finds-named, IsOlder, keeps_older, none-older, older, older-all, older-more, older-none, older-zero, on_older, one_of_id}
use Rattle.snap_call.proofs.Passing.{Covers-covers, put_back-saved}
use Rattle.snap_call.proofs.Sums.{charge_of-with_record_own}

-- ---- one list of saved snapshots after another

module _ (more : List Saved) where
  pub put_all_back-append : (s : State) (saved : List Saved) → put_all_back s (saved ++ more) ≡ (put_all_back s saved >>= λ t. put_all_back t more)
  unfolding put_all_back
  put_all_back-append s [] = refl
  put_all_back-append s (x ∷ xs) = by (put_back s x) (λ t. put_all_back-append t xs)
    where
      by : (o : Result State Refusal) → ((t : State) → put_all_back t (xs ++ more) ≡ (put_all_back t xs >>= λ u. put_all_back u more)) → (o >>= λ t. put_all_back t (xs ++ more)) ≡ ((o >>= λ t. put_all_back t xs) >>= λ u. put_all_back u more)
      by (Ok t) next = next t
      by (Err why) next = refl

pub put_all_back-one : (s t : State) (saved : Saved) → put_back s saved ≡ Ok t → put_all_back s (saved ∷ []) ≡ Ok t
unfolding put_all_back
put_all_back-one s t saved e = ap (λ (o : Result State Refusal). o >>= λ next. Ok next) e

-- ---- a good state

module _ (s : State) (good : Good s) (charged : AllByRecursion (λ r. IsChargedOne r.content) s.records) where
  -- the state once the snapshots with ids below n are put back
  abbrev pub back_below : ℕ → ℕ → State
  back_below n next = record s { records = older n s.records; leases = []; next_id = next }

  -- the record of an id
  module _ (n : ℕ) (r : Record) (found : find (has_id n) s.records ≡ Some r) where
    -- what holds of each record holds of it
    pub of_it : (P : Record → Type 0) → AllByRecursion P s.records → P r
    of_it P all = find-all P (has_id n) s.records r found all

    pub its_id : r.id ≡ n
    its_id = eqb-true r.id n (find-passes (has_id n) s.records r found)

    pub its_forms : IsFormed s.entries r
    its_forms = of_it (IsFormed s.entries) good.formed

    keeps : KeepsFor (IsOlder s.records n) s.records (older n s.records)
    keeps = keeps_older s.records n good.rising

    -- its parent is none, or below it
    on : OnParent (IsOlder s.records n) r.namespace r.parent
    on = on_older s.records n r.namespace r.parent r.id (omega (arith, its_id)) (of_it (IsRising s.records) good.rising)

    -- no record below it is active in its slot
    free : (slot : ℕ) → is_slot slot r ≡ true → active_at slot (older n s.records) ≡ None
    free slot is =
        is_taken-None slot (older n s.records) (none-older n (is_slot slot) s.records r (finds-active slot s.records good.slots)
        (of_it (λ t. is_slot slot t ≡ true → active_at slot s.records ≡ Some t) (finds-active slot s.records good.slots) is) (omega (arith, its_id)))

    free_slot : (c : Content) → ((slot : ℕ) → has_slot slot c ≡ true → active_at slot (older n s.records) ≡ None) → HasLowSlot s.slots c → IsChargedOne c → (next : ℕ) → HasFreeSlot (back_below n next) c
    free_slot (contents.View layers) none low charged next = tt
    free_slot (contents.Active slot u) none low charged next = (low, none slot (eq-eqb slot slot refl), covers-Covers u one charged)
    free_slot (contents.Committed layer usage) none low charged next = tt

    -- the charge with it is a part of the whole
    within : Covers (limit_at r.namespace s.namespaces) (plus (charge_of r.namespace (older n s.records)) (usage_of r.content))
    within =
        subst (λ (u : Usage). Covers (limit_at r.namespace s.namespaces) u)
        (sym (ap (charge_of r.namespace) (older-more n s.records r good.ids good.sorted found)) ∙ charge_of-with_record_own r (older n s.records))
        (covers-older (limit_at r.namespace s.namespaces) r.namespace (suc n) s.records (good.promised.within r.namespace (of_it (λ t. t.namespace < length s.namespaces) (placed_below s good))))

    -- the state with those below it has room for it
    pub can_again : (next : ℕ) → next ≤ n → CanPutBack (back_below n next) r
    can_again next low = record {
      taken = of_it (λ t. is_taken_at t.namespace s.namespaces ≡ true) good.placed;
      new = none-older n (is_named r.namespace r.key) s.records r (finds-named r.namespace r.key s.records good.sorted) (of_it (λ t. record_at t.namespace t.key s.records ≡ Some t) (own_found s.records good.sorted)) (omega (arith, its_id));
      base = keeps-HasParent (IsOlder s.records n) s.records (older n s.records) keeps r on (of_it (HasParent s.records) good.promised.parents);
      deep = ap not (keeps-some_chain (IsOlder s.records n) s.records (older n s.records) keeps s.ancestors r on (of_it (λ t. IsSome (chain s.ancestors s.records t)) good.promised.chains));
      above = omega (arith, low, its_id);
      formed = its_forms;
      slot = free_slot r.content free (of_it (λ t. HasLowSlot s.slots t.content) good.open_slots) (of_it (λ t. IsChargedOne t.content) charged) next;
      shown = shown_anew s.records (older n s.records) r.namespace r.parent r.content
          (ap layers_of (keeps-ancestors (IsOlder s.records n) s.records (older n s.records) keeps r.namespace r.parent on (of_it (λ t. IsSome (chain most_ancestors s.records t)) (good_chains s good))))
          (of_it (λ t. IsShown s.records t.namespace t.parent t.content) good.shown);
      counted = of_it (λ t. IsUsageCounted t.content) good.promised.counted;
      fits = Covers-covers (limit_at r.namespace s.namespaces) (plus (charge_of r.namespace (older n s.records)) (usage_of r.content)) within;
    }

    -- so it is put back after them
    pub put_next : (next : ℕ) → next ≤ n → put_back (back_below n next) (saved_of s.namespaces r) ≡ Ok (back_below (suc n) (r.id + 1))
    put_next next low =
        put_back-saved (back_below n next) r (can_again next low) good.distinct its_forms.texts
        ∙ ap (λ (l : List Record). Ok (record s { records = l; leases = []; next_id = r.id + 1 })) (older-more n s.records r good.ids good.sorted found)

  -- the snapshots with ids below n are put back in turn
  pub put_below : (n : ℕ) → (next : ℕ) × (next ≤ max n 1) × (put_all_back (without_snapshots s) (map (saved_of s.namespaces) (by_id n s.records)) ≡ Ok (back_below n next))
  unfolding by_id put_all_back
  put_below zero = (1, omega arith, ap (λ (l : List Record). Ok (record s { records = l; leases = []; next_id = 1 })) (sym (older-zero s.records)))
  put_below (suc n) = by (find (has_id n) s.records) refl (put_below n)
    where
      by : (o : Option Record) → find (has_id n) s.records ≡ o → (next : ℕ) × (next ≤ max n 1) × (put_all_back (without_snapshots s) (map (saved_of s.namespaces) (by_id n s.records)) ≡ Ok (back_below n next))
          → (next : ℕ) × (next ≤ max (suc n) 1) × (put_all_back (without_snapshots s) (map (saved_of s.namespaces) (by_id n s.records ++ filter (has_id n) s.records)) ≡ Ok (back_below (suc n) next))
      by None e before =
          let none = find-none (has_id n) s.records e in (
            before.0,
            omega (arith, before.1),
            ap (λ (l : List Record). put_all_back (without_snapshots s) (map (saved_of s.namespaces) (by_id n s.records ++ l))) (filter-none (has_id n) s.records none)
                ∙ ap (λ (l : List Record). put_all_back (without_snapshots s) (map (saved_of s.namespaces) l)) (append-nil (by_id n s.records))
                ∙ before.2
                ∙ ap (λ (l : List Record). Ok (record s { records = l; leases = []; next_id = before.0 })) (sym (older-none n s.records none)),
          )
      by (Some r) e before =
          let first : 1 ≤ r.id = (its_forms n r e).above in
          let id : r.id ≡ n = its_id n r e in
          let low : before.0 ≤ n = omega (arith, before.1, first, id) in (
            r.id + 1,
            omega (arith, id),
            ap (λ (l : List Record). put_all_back (without_snapshots s) (map (saved_of s.namespaces) (by_id n s.records ++ l))) (one_of_id n s.records r good.ids e)
                ∙ ap (put_all_back (without_snapshots s)) (map-append (saved_of s.namespaces) (by_id n s.records) (r ∷ []))
                ∙ put_all_back-append (saved_of s.namespaces r ∷ []) (without_snapshots s) (map (saved_of s.namespaces) (by_id n s.records))
                ∙ ap (λ (o : Result State Refusal). o >>= λ t. put_all_back t (saved_of s.namespaces r ∷ [])) before.2
                ∙ put_all_back-one (back_below n before.0) (back_below (suc n) (r.id + 1)) (saved_of s.namespaces r) (put_next n r e before.0 low),
          )

-- all that is saved of a good state is put back in turn, and gives the state without its leases; its next id may be a lower one
pub put_back_all : (s : State) → Good s → AllByRecursion (λ r. IsChargedOne r.content) s.records → (next : ℕ) × (next ≤ s.next_id) × (put_all_back (without_snapshots s) (saved_records s) ≡ Ok (record s { leases = []; next_id = next }))
put_back_all s good charged =
    let all = put_below s good charged s.next_id in
    let fewer : length s.records < s.next_id = good.fewer in (
      all.0,
      omega (arith, all.1, fewer),
      all.2 ∙ ap (λ (l : List Record). Ok (record s { records = l; leases = []; next_id = all.0 })) (older-all s.next_id s.records good.numbered),
    )
