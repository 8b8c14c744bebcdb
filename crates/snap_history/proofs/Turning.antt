-- What one step makes of the charge of the namespace at a place is what its entry tells.
use Rattle.std.proofs.Common.{◌≡◌, ◌≢◌, ℕ, ◌+◌, ◌<◌, List, [], length, Bool, true, false, Option, Some, None, refl, sym, ap, ◌∙◌, subst, ⊎_elim, arith}
use Rattle.std.proofs.lemmas.Bool.{and_parts, eqb-true}
use Rattle.std.proofs.lemmas.Bool.Decides.{eqb_tells}
use Rattle.std.proofs.lemmas.List.{get_or-set_same, get_or-set_other}
use Rattle.std.proofs.Math.ListN.{length-set}
use Rattle.std.specs.Option.{option_map, option_map_or, option_or, is_some}
use Rattle.std.specs.Prelude.{◌==◌, ◌&&◌, ◌||◌, count_by, nat_le, nat_lt, if◌then◌else◌, bytes_eq, Result, Ok, Err}
use Rattle.snap_path.specs.Limits.{most_number}
use Rattle.snap_layer.specs.Tree.{Tree}
use Rattle.snap_usage.specs.declared.usage.Usage.{Usage}
use Rattle.snap_usage.specs.Counted.{count_of, covers, no_usage}
use Rattle.snap_ledger.specs.States.{plus}
use Rattle.snap_lease.specs.Leases.{is_guarded, has_lease, has_leases, lease_names}
use Rattle.snap_record.specs.Labels.{Bytes, Label}
use Rattle.snap_record.specs.Records.{usage_of, info_of}
use Rattle.snap_record.specs.Updates.{is_granted, is_well_formed, updated as labels_after}
use Rattle.snap_record.specs.declared.filter.Filter.{Filter}
use Rattle.snap_record.specs.declared.record.Content.TheVariants.{View, Active}
use Rattle.snap_record.specs.declared.record.Record.{Record}
use Rattle.snap_call.specs.declared.call.Call.{Call}
use Rattle.snap_call.specs.declared.call.Call.TheVariants as calls
use Rattle.snap_call.specs.declared.call.Given.{Given}
use Rattle.snap_call.specs.declared.call.Given.TheVariants.{Nothing, Count, Layer}
use Rattle.snap_call.specs.declared.refusal.Refusal.{Refusal}
use Rattle.snap_call.specs.declared.refusal.Refusal.TheVariants.{NoNamespace, NotFound}
use Rattle.snap_call.specs.declared.reply.Reply.{Reply}
use Rattle.snap_call.specs.declared.reply.Reply.TheVariants as replies
use Rattle.snap_call.specs.declared.config.Namespace.{Namespace}
use Rattle.snap_call.specs.declared.state.State.{State}
use Rattle.snap_call.specs.Forms.{is_key, is_limit, is_namespace, is_page, is_start}
use Rattle.snap_call.specs.Good.{Good}
use Rattle.snap_call.specs.Reached.{swept}
use Rattle.snap_call.specs.Records.{active_at, charge_of, committed_as, has_children, has_key, has_records, is_active, is_committed, is_named, is_slot, record_at, recharged, relabelled, with_record, without_key, without_slot, HasLowSlot, max_sessions}
use Rattle.snap_call.specs.State.{is_taken, is_taken_at, most_namespaces, name_at, place_of, shown_layers}
use Rattle.snap_call.specs.Step.{are_formed, IsAllowed, IsCovered, IsOpenSlot, ask, charge, counted, commit_as, committed as committed_state, discard, has_named, in_namespace, mounts, one, place_for, prepare, prepared as prepared_state, refused, removed_at, slot_for, step, sweep, sweep_at, trim, unless_refused, update_record, prepare_view, at_record, new_record}
use Rattle.snap_call.specs.Steps.{lease_add, lease_create, lease_drop, lease_release, namespace_create, namespace_remove, remove, session, set_limit, update, walk_infos}
use Rattle.snap_call.proofs.Parts.{charge_to, lease_add_record, lease_drop_at, namespace_remove_at, prepare_at, remove_record, set_limit_at, view_at, unswept}
use Rattle.snap_call.proofs.Alike.{AreAlike, bare-relabelled, alike-active_at, alike-active_at_None, alike-charge_of}
use Rattle.snap_call.proofs.Leasing.{place_of-name_at}
use Rattle.snap_call.proofs.Lists.{active_at-all, record_at-is_named}
use Rattle.snap_call.proofs.Lowest.{lowest_free-Some}
use Rattle.snap_call.proofs.Places.{IsSlotFor, place_for-Ok, slot_for-Ok}
use Rattle.snap_call.proofs.Slots.{Active-is_slot, active_at-Active, active_at-committed_other, active_at-committed_own, active_at-recharged_other, active_at-recharged_own, active_at-with_record_other, active_at-with_record_own, active_at-without_idle, active_at-without_slot_other, active_at-without_slot_own, is_slot-other}
use Rattle.snap_call.proofs.Sums.{charge_of-recharged, charge_of-with_record, charge_of-without, plus-none}
use Rattle.snap_call.proofs.Sweeping.{active_at-unswept, swept_others, swept_sum}
use Rattle.snap_call.proofs.Tested.{commit_by_tests}
use Rattle.snap_history.specs.History.{namespace_in, slot_in, is_call_of}
use Rattle.snap_history.specs.Changes.{change, change_by, changed_to, is_own, named_change, named_shares, no_change, recharged_to, share_of_slot, shares_by, slot_change, slot_shares, with_share}
use Rattle.snap_history.specs.declared.change.Change.{Change}

cases_if : {X : Type 0} (P : X → Type 0) (b : Bool) (x y : X) → (b ≡ true → P x) → (b ≡ false → P y) → P (if b then x else y)
cases_if P true x y f g = f refl
cases_if P false x y f g = g refl

-- ---- what is known of the table of shares

-- what the namespace is charged in a slot
abbrev pub share_by : ℕ → Option Record → Option Usage
share_by place None = None
share_by place (Some r) = if r.namespace == place then Some (usage_of r.content) else None

-- the namespaces of this name are those at the place
abbrev pub IsPlaceOf : Bytes → ℕ → State → Type 0
IsPlaceOf name place s = (namespace : Bytes) (at : ℕ) → place_of namespace s.namespaces ≡ Some at → bytes_eq namespace name ≡ (at == place)

-- the table has what the open snapshots of the namespace at the place are charged
pub record HoldsAt (place : ℕ) (shares : List (Option Usage)) (s : State) : Type 0 where
  pub places : length shares ≡ s.slots
  pub agrees : (slot : ℕ) → slot < s.slots → share_of_slot slot shares ≡ share_by place (active_at slot s.records)

-- the table holds after the step, and of the charge before and after it the change tells the parts; the rest is the same
pub record TurnsAt (place : ℕ) (s : State) (shares : List (Option Usage)) (c : Change) (t : State) : Type 0 where
  pub holds : HoldsAt place shares t
  pub rest : Usage
  pub before : charge_of place s.records ≡ plus rest c.found
  pub after : charge_of place t.records ≡ plus rest c.left

-- ---- parts by whether they are the namespace's

either_none : (b : Bool) → (if b then no_usage else no_usage) ≡ no_usage
either_none true = refl
either_none false = refl

found_by : (b : Bool) (u v : Usage) → (if b then change u v else no_change).found ≡ (if b then u else no_usage)
found_by true u v = refl
found_by false u v = refl

left_by : (b : Bool) (u v : Usage) → (if b then change u v else no_change).left ≡ (if b then v else no_usage)
left_by true u v = refl
left_by false u v = refl

found_in : (b : Bool) (u v : Usage) → (changed_to v (if b then Some u else None)).found ≡ (if b then u else no_usage)
found_in true u v = refl
found_in false u v = refl

left_in : (b : Bool) (u v : Usage) → (changed_to v (if b then Some u else None)).left ≡ (if b then v else no_usage)
left_in true u v = refl
left_in false u v = refl

mapped_if : (b : Bool) (u v : Usage) → option_map (λ (before : Usage). v) (if b then Some u else None) ≡ (if b then Some v else None)
mapped_if true u v = refl
mapped_if false u v = refl

some_if : (b : Bool) (u : Usage) → is_some (if b then Some u else None) ≡ b
some_if true u = refl
some_if false u = refl

-- a reply that tells of no change
abbrev Plain : Reply → Type 0
Plain (replies.Prepared id slot chain) = ⊥
Plain (replies.Removed usage) = ⊥
Plain (replies.Swept removed leases freed) = ⊥
Plain reply = Unit {0}

plain_shares : (own : Bool) (shares : List (Option Usage)) (reply : Reply) → Plain reply → named_shares own shares reply ≡ shares
plain_shares own shares (replies.Prepared id slot chain) h = absurd h
plain_shares own shares reply h = refl

plain_change : (own : Bool) (reply : Reply) → Plain reply → named_change own reply ≡ no_change
plain_change own (replies.Prepared id slot chain) h = absurd h
plain_change own (replies.Removed usage) h = absurd h
plain_change own (replies.Swept removed leases freed) h = absurd h
plain_change own reply h = refl

-- a step that leaves the charges and the slots
record Even (place : ℕ) (s t : State) (reply : Reply) : Type 0 where
  as_many : t.slots ≡ s.slots
  slots : (slot : ℕ) → share_by place (active_at slot t.records) ≡ share_by place (active_at slot s.records)
  charges : charge_of place t.records ≡ charge_of place s.records
  plain : Plain reply

module _ (name : Bytes) (place : ℕ) (s : State) (shares : List (Option Usage)) (good : Good s) (owned : IsPlaceOf name place s) (held : HoldsAt place shares s) where
  -- ---- steps that leave the charges and the slots

  abbrev Evenly : State × Reply → Type 0
  Evenly p = Even place s p.0 p.1

  even_same : (t : State) (reply : Reply) → t.records ≡ s.records → t.slots ≡ s.slots → Plain reply → Even place s t reply
  even_same t reply same as_many plain = record {
    as_many = as_many;
    slots = λ slot. ap (λ (rs : List Record). share_by place (active_at slot rs)) same;
    charges = ap (charge_of place) same;
    plain = plain;
  }

  even_refused : (why : Refusal) → Evenly (refused s why)
  even_refused why = even_same (refused s why).0 (replies.Refused why) refl refl tt

  -- the table and no change
  even_turns : (t : State) (reply : Reply) → Even place s t reply → TurnsAt place s shares no_change t
  even_turns t reply even = record {
    holds = record {
      places = held.places ∙ sym even.as_many;
      agrees = λ slot low. held.agrees slot (subst (λ (n : ℕ). slot < n) even.as_many low) ∙ sym (even.slots slot);
    };
    rest = charge_of place s.records;
    before = sym (plus-none (charge_of place s.records));
    after = even.charges ∙ sym (plus-none (charge_of place s.records));
  }

  -- as a call tells it that names a namespace
  abbrev Named : Bool → State × Reply → Type 0
  Named own p = TurnsAt place s (named_shares own shares p.1) (named_change own p.1) p.0

  even_named : (own : Bool) (p : State × Reply) → Evenly p → Named own p
  even_named own p even =
      subst (λ (l : List (Option Usage)). TurnsAt place s l (named_change own p.1) p.0) (sym (plain_shares own shares p.1 even.plain))
      (subst (λ (c : Change). TurnsAt place s shares c p.0) (sym (plain_change own p.1 even.plain)) (even_turns p.0 p.1 even))

  -- a refusal
  refuses : TurnsAt place s shares no_change (counted s)
  refuses = even_turns (counted s) (replies.Refused NoNamespace) (even_refused NoNamespace)

  even_session : Evenly (session s)
  even_session = cases_if Evenly (nat_lt s.sessions max_sessions) _ _ (λ few. even_same _ replies.Opened refl refl tt) (λ spent. even_same s _ refl refl tt)

  -- a call in a namespace that the store has
  in_its_namespace : (P : State × Reply → Type 0) (namespace : Bytes) (next : ℕ → State × Reply) → P (refused s NoNamespace) → ((at : ℕ) → place_of namespace s.namespaces ≡ Some at → P (next at)) → P (in_namespace s namespace next)
  in_its_namespace P namespace next none here = by (place_of namespace s.namespaces) refl
    where
      by : (o : Option ℕ) → place_of namespace s.namespaces ≡ o → P (option_map_or next o (refused s NoNamespace))
      by None e = none
      by (Some at) e = here at e

  -- a call of a record that the namespace has
  at_its_record : (P : State × Reply → Type 0) (at : ℕ) (key : Bytes) (next : Record → State × Reply) → P (refused s NotFound) → ((r : Record) → record_at at key s.records ≡ Some r → P (next r))
      → P (option_map_or next (record_at at key s.records) (refused s NotFound))
  at_its_record P at key next none here = by (record_at at key s.records) refl
    where
      by : (o : Option Record) → record_at at key s.records ≡ o → P (option_map_or next o (refused s NotFound))
      by None e = none
      by (Some r) e = here r e

  even_at_record : (namespace key : Bytes) (next : ℕ → Record → State × Reply) → ((at : ℕ) (r : Record) → Evenly (next at r)) → Evenly (at_record s namespace key next)
  even_at_record namespace key next here = in_its_namespace Evenly namespace _ (even_refused NoNamespace) (λ at e. at_its_record Evenly at key (next at) (even_refused NotFound) (λ r f. here at r))

  even_ask : (answer : Record → Reply) → ((r : Record) → Plain (answer r)) → (namespace key : Bytes) → Evenly (ask s answer namespace key)
  even_ask answer plain namespace key = cases_if Evenly (is_key key) _ _ (λ formed. even_at_record namespace key _ (λ at r. even_same _ (answer r) refl refl (plain r))) (λ bad. even_refused _)

  plain_mounts : (r : Record) → Plain (mounts s r)
  plain_mounts r = cases_if Plain (is_committed r.content) _ _ (λ committed. tt) (λ other. tt)

  even_walk : (namespace after : Bytes) (most : ℕ) (asked : Filter) → Evenly (walk_infos s namespace after most asked)
  even_walk namespace after most asked = cases_if Evenly (is_start after && is_page most) _ _ (λ formed. in_its_namespace Evenly namespace _ (even_refused NoNamespace) (λ at e. even_same _ _ refl refl tt)) (λ bad. even_refused _)

  even_namespace_create : (namespace : Bytes) (limit : Usage) → Evenly (namespace_create s namespace limit)
  even_namespace_create namespace limit =
      let n : Namespace = record { name = namespace; limit = limit } in
      cases_if Evenly (is_namespace n) _ _
      (λ formed. cases_if Evenly (is_some (place_of namespace s.namespaces)) _ _ (λ there. even_refused _)
      (λ new. cases_if Evenly (nat_lt (count_by is_taken s.namespaces) most_namespaces) _ _ (λ room. record { as_many = refl; slots = λ slot. refl; charges = refl; plain = tt }) (λ full. even_refused _)))
      (λ bad. even_refused _)

  even_namespace_remove : (namespace : Bytes) → Evenly (namespace_remove s namespace)
  even_namespace_remove namespace =
      in_its_namespace Evenly namespace (namespace_remove_at s namespace) (even_refused NoNamespace)
      (λ at e. cases_if Evenly (has_records at s.records || has_leases s.leases namespace) _ _ (λ full. even_refused _) (λ empty. record { as_many = refl; slots = λ slot. refl; charges = refl; plain = tt }))

  even_set_limit : (namespace : Bytes) (limit : Usage) → Evenly (set_limit s namespace limit)
  even_set_limit namespace limit =
      cases_if Evenly (is_limit limit) _ _
      (λ formed. in_its_namespace Evenly namespace (set_limit_at s limit) (even_refused NoNamespace)
      (λ at e. cases_if Evenly (covers limit (charge_of at s.records)) _ _
      (λ covered. record { as_many = refl; slots = λ slot. refl; charges = refl; plain = tt })
      (λ below. even_refused _)))
      (λ bad. even_refused _)

  even_lease_create : (namespace lease : Bytes) (until : Option ℕ) → Evenly (lease_create s namespace lease until)
  even_lease_create namespace lease until =
      cases_if Evenly (is_key lease) _ _
      (λ formed. in_its_namespace Evenly namespace _ (even_refused NoNamespace)
      (λ at e. cases_if Evenly (has_lease s.leases namespace lease) _ _ (λ there. even_refused _) (λ new. even_same _ replies.Done refl refl tt)))
      (λ bad. even_refused _)

  even_lease_add_record : (namespace lease key : Bytes) (r : Record) → Evenly (lease_add_record s namespace lease key r)
  even_lease_add_record namespace lease key r =
      cases_if Evenly (is_committed r.content) _ _
      (λ is. cases_if Evenly (has_lease s.leases namespace lease) _ _ (λ there. even_same _ replies.Done refl refl tt) (λ none. even_refused _))
      (λ other. even_refused _)

  even_lease_add : (namespace lease key : Bytes) → Evenly (lease_add s namespace lease key)
  even_lease_add namespace lease key =
      cases_if Evenly (is_key lease && is_key key) _ _
      (λ formed. even_at_record namespace key _ (λ at. even_lease_add_record namespace lease key))
      (λ bad. even_refused _)

  even_lease_drop_at : (namespace lease key : Bytes) → Evenly (lease_drop_at s namespace lease key)
  even_lease_drop_at namespace lease key =
      cases_if Evenly (has_lease s.leases namespace lease) _ _
      (λ there. cases_if Evenly (lease_names s.leases namespace lease key) _ _ (λ named. even_same _ replies.Done refl refl tt) (λ other. even_refused _))
      (λ none. even_refused _)

  even_lease_drop : (namespace lease key : Bytes) → Evenly (lease_drop s namespace lease key)
  even_lease_drop namespace lease key =
      cases_if Evenly (is_key lease && is_key key) _ _
      (λ formed. in_its_namespace Evenly namespace _ (even_refused NoNamespace) (λ at e. even_lease_drop_at namespace lease key))
      (λ bad. even_refused _)

  even_lease_release : (namespace lease : Bytes) → Evenly (lease_release s namespace lease)
  even_lease_release namespace lease =
      cases_if Evenly (is_key lease) _ _
      (λ formed. in_its_namespace Evenly namespace _ (even_refused NoNamespace)
      (λ at e. cases_if Evenly (has_lease s.leases namespace lease) _ _ (λ there. even_same _ replies.Done refl refl tt) (λ none. even_refused _)))
      (λ bad. even_refused _)

  -- a result, or the refusal of a place
  unless : (P : State × Reply → Type 0) → ((why : Refusal) → P (refused s why)) → (r : Result ℕ Refusal) (next : ℕ → State × Reply) → ((n : ℕ) → r ≡ Ok n → P (next n)) → P (unless_refused s r next)
  unless P bad (Ok n) next here = here n refl
  unless P bad (Err why) next here = bad why

  even_view_at : (key parent : Bytes) (labels : List Label) (at : ℕ) → Evenly (view_at s key parent labels at)
  even_view_at key parent labels at =
      let new : Record = new_record s at key parent labels (View (shown_layers at parent s.records)) in
      cases_if Evenly (nat_le s.next_id most_number) _ _
      (λ few. record {
        as_many = refl;
        slots = λ slot. ap (share_by place) (active_at-with_record_other slot new s.records refl);
        charges = charge_of-with_record place new s.records ∙ ap (plus (charge_of place s.records)) (either_none (at == place)) ∙ plus-none (charge_of place s.records);
        plain = tt;
      })
      (λ spent. even_refused _)

  even_view : (namespace key parent : Bytes) (labels : List Label) → Evenly (prepare_view s namespace key parent labels)
  even_view namespace key parent labels = unless Evenly even_refused (place_for s namespace key parent labels) (view_at s key parent labels) (λ at e. even_view_at key parent labels at)

  -- other labels
  module _ (ts : List Record) (alike : AreAlike s.records ts) where
    alike_slots : (slot : ℕ) → share_by place (active_at slot ts) ≡ share_by place (active_at slot s.records)
    alike_slots slot = by (active_at slot s.records) refl
      where
        by : (o : Option Record) → active_at slot s.records ≡ o → share_by place (active_at slot ts) ≡ share_by place o
        by None e = ap (share_by place) (alike-active_at_None s.records ts alike slot e)
        by (Some r) e =
            let found = alike-active_at s.records ts alike slot r e in
            ap (share_by place) found.1 ∙ ap (λ (x : Record). share_by place (Some x)) found.2

  even_update_record : (key : Bytes) (given : List Label) (paths : List Bytes) (at : ℕ) (r : Record) → Evenly (update_record s key given paths at r)
  even_update_record key given paths at r =
      let labels = labels_after r.labels given paths in
      let ts : List Record = relabelled at key labels (s.entries + 1) s.records in
      let alike : AreAlike s.records ts = bare-relabelled at key labels (s.entries + 1) s.records in
      cases_if Evenly (is_granted r.labels given paths) _ _
      (λ granted. record { as_many = refl; slots = alike_slots ts alike; charges = alike-charge_of s.records ts alike place; plain = tt })
      (λ bad. even_refused _)

  even_update : (namespace key : Bytes) (given : List Label) (paths : List Bytes) → Evenly (update s namespace key given paths)
  even_update namespace key given paths =
      cases_if Evenly (is_key key && is_well_formed given paths) _ _ (λ formed. even_at_record namespace key _ (even_update_record key given paths)) (λ bad. even_refused _)

  -- ---- steps in a namespace, which is the one or isn't

  removes : (at : ℕ) (key : Bytes) (r : Record) → record_at at key s.records ≡ Some r → is_active r.content ≡ false → Named (at == place) (removed_at s at key, replies.Removed (usage_of r.content))
  removes at key r e idle =
      let there : r.namespace ≡ at = eqb-true r.namespace at (and_parts (r.namespace == at) (bytes_eq r.key key) (record_at-is_named at key s.records r e)).0 in
      record {
        holds = record { places = held.places; agrees = λ slot low. held.agrees slot low ∙ sym (ap (share_by place) (active_at-without_idle slot (is_named at key) s.records r e idle)) };
        rest = charge_of place (without_key at key s.records);
        before =
            charge_of-without place (is_named at key) s.records r e
            ∙ ap (λ (k : ℕ). plus (charge_of place (without_key at key s.records)) (if k == place then usage_of r.content else no_usage)) there
            ∙ ap (plus (charge_of place (without_key at key s.records))) (sym (found_by (at == place) (usage_of r.content) no_usage));
        after =
            sym (plus-none (charge_of place (without_key at key s.records)))
            ∙ ap (plus (charge_of place (without_key at key s.records))) (sym (left_by (at == place) (usage_of r.content) no_usage ∙ either_none (at == place)));
      }

  remove_found : (namespace key : Bytes) (at : ℕ) (r : Record) → record_at at key s.records ≡ Some r → Named (at == place) (remove_record s namespace key at r)
  remove_found namespace key at r e =
      cases_if (Named (at == place)) (has_children at key s.records) _ _ (λ some. refuses)
      (λ childless. cases_if (Named (at == place)) (is_active r.content) _ _ (λ active. refuses)
      (λ idle. cases_if (Named (at == place)) (is_guarded s.leases namespace key) _ _ (λ leased. refuses) (λ free. removes at key r e idle)))

  turns_remove : (namespace key : Bytes) → Named (bytes_eq namespace name) (remove s namespace key)
  turns_remove namespace key =
      cases_if (Named (bytes_eq namespace name)) (is_key key) _ _
      (λ formed. in_its_namespace (Named (bytes_eq namespace name)) namespace _ refuses
      (λ at e. subst (λ (b : Bool). Named b (option_map_or (remove_record s namespace key at) (record_at at key s.records) (refused s NotFound))) (sym (owned namespace at e))
      (at_its_record (Named (at == place)) at key (remove_record s namespace key at) refuses (λ r f. remove_found namespace key at r f))))
      (λ bad. refuses)

  sweeps : (namespace : Bytes) (moment at : ℕ) → Named (at == place) (sweep_at s namespace moment at)
  sweeps namespace moment at =
      let stay : List Record = unswept s namespace at moment in
      let holds : HoldsAt place shares (sweep_at s namespace moment at).0 =
      record { places = held.places; agrees = λ slot low. held.agrees slot low ∙ sym (ap (share_by place) (active_at-unswept s namespace at moment slot)) } in
      ⊎_elim
      (λ (h : ((at == place) ≡ true) × (at ≡ place)).
      let own : (at == place) ≡ true = h.0 in
      subst (λ (b : Bool). TurnsAt place s shares (named_change b (replies.Swept [] 0 (charge_of at (swept s namespace at moment)))) (sweep_at s namespace moment at).0) (sym own)
      (record {
        holds = holds;
        rest = charge_of place stay;
        before = swept_sum s namespace at moment place ∙ ap (λ (k : ℕ). plus (charge_of place stay) (charge_of k (swept s namespace at moment))) (sym h.1);
        after = sym (plus-none (charge_of place stay));
      }))
      (λ (h : ((at == place) ≡ false) × (at ≢ place)).
      let other : (at == place) ≡ false = h.0 in
      subst (λ (b : Bool). TurnsAt place s shares (named_change b (replies.Swept [] 0 (charge_of at (swept s namespace at moment)))) (sweep_at s namespace moment at).0) (sym other)
      (record {
        holds = holds;
        rest = charge_of place s.records;
        before = sym (plus-none (charge_of place s.records));
        after = swept_others s namespace at moment place (λ e. h.1 (sym e)) ∙ sym (plus-none (charge_of place s.records));
      }))
      (eqb_tells at place)

  turns_sweep : (namespace : Bytes) (moment : ℕ) → Named (bytes_eq namespace name) (sweep s namespace moment)
  turns_sweep namespace moment =
      in_its_namespace (Named (bytes_eq namespace name)) namespace (sweep_at s namespace moment) refuses
      (λ at e. subst (λ (b : Bool). Named b (sweep_at s namespace moment at)) (sym (owned namespace at e)) (sweeps namespace moment at))

  -- one slot of the table changes
  agree_set : (slot : ℕ) (o : Option Usage) (ts : List Record) → slot < s.slots → o ≡ share_by place (active_at slot ts) → ((k : ℕ) → k ≢ slot → active_at k ts ≡ active_at k s.records)
      → (k : ℕ) → k < s.slots → share_of_slot k (with_share slot o shares) ≡ share_by place (active_at k ts)
  agree_set slot o ts low here others k small =
      ⊎_elim
      (λ (h : ((k == slot) ≡ true) × (k ≡ slot)).
      let P : ℕ → Type 0 = λ j. share_of_slot j (with_share slot o shares) ≡ share_by place (active_at j ts) in
      let inside : slot < length shares = (let p = held.places in omega arith) in
      subst P (sym h.1) (get_or-set_same shares slot o None inside ∙ here))
      (λ (h : ((k == slot) ≡ false) × (k ≢ slot)).
      get_or-set_other shares slot k o None h.1 ∙ held.agrees k small ∙ sym (ap (share_by place) (others k h.1)))
      (eqb_tells k slot)

  set_places : (slot : ℕ) (o : Option Usage) → length (with_share slot o shares) ≡ s.slots
  set_places slot o = length-set shares slot o ∙ held.places

  prepares : (at : ℕ) (key parent : Bytes) (labels : List Label) (slot : ℕ) → IsSlotFor s at slot → Named (at == place) (prepared_state s at key parent labels slot)
  prepares at key parent labels slot found =
      let lowest = lowest_free-Some s.slots s.records slot found.lowest in
      let new : Record = new_record s at key parent labels (Active slot one) in
      let ts : List Record = with_record new s.records in
      let own : is_slot slot new ≡ true = Active-is_slot slot one new refl in
      record {
        holds = record {
          places = set_places slot (if at == place then Some one else None);
          agrees = agree_set slot (if at == place then Some one else None) ts lowest.0 (sym (ap (share_by place) (active_at-with_record_own slot new s.records own lowest.1))) (λ k ne. active_at-with_record_other k new s.records (is_slot-other slot k new ne own));
        };
        rest = charge_of place s.records;
        before = sym (plus-none (charge_of place s.records)) ∙ ap (plus (charge_of place s.records)) (sym (found_by (at == place) no_usage one ∙ either_none (at == place)));
        after = charge_of-with_record place new s.records ∙ ap (plus (charge_of place s.records)) (sym (left_by (at == place) no_usage one));
      }

  prepare_in : (key parent : Bytes) (labels : List Label) (at : ℕ) → Named (at == place) (prepare_at s key parent labels at)
  prepare_in key parent labels at =
      unless (Named (at == place)) (λ why. refuses) (slot_for s at) (prepared_state s at key parent labels) (λ slot e. prepares at key parent labels slot (slot_for-Ok s at slot e))

  turns_prepare : (namespace key parent : Bytes) (labels : List Label) → Named (bytes_eq namespace name) (prepare s namespace key parent labels)
  turns_prepare namespace key parent labels =
      unless (Named (bytes_eq namespace name)) (λ why. refuses) (place_for s namespace key parent labels) (prepare_at s key parent labels)
      (λ at e. subst (λ (b : Bool). Named b (prepare_at s key parent labels at)) (sym (owned namespace at (place_for-Ok s namespace key parent labels at e).named)) (prepare_in key parent labels at))

  -- ---- steps on a slot

  module _ (slot : ℕ) (r : Record) (stands : active_at slot s.records ≡ Some r) where
    low : slot < s.slots
    low = subst (HasLowSlot s.slots) (active_at-Active slot s.records r stands) (active_at-all (λ t. HasLowSlot s.slots t.content) slot s.records r stands good.open_slots)

    share_now : share_of_slot slot shares ≡ (if r.namespace == place then Some (usage_of r.content) else None)
    share_now = held.agrees slot low ∙ ap (share_by place) stands

    abbrev OnSlot : Given → State × Reply → Type 0
    OnSlot given p = TurnsAt place s (slot_shares p.1 given slot shares) (slot_change p.1 given (share_of_slot slot shares)) p.0

    -- its share becomes another amount, and the records those that have it
    turned_to : (to : Usage) (o : Option Usage) (t : State) → t.slots ≡ s.slots → o ≡ share_by place (active_at slot t.records) → ((k : ℕ) → k ≢ slot → active_at k t.records ≡ active_at k s.records)
        → charge_of place t.records ≡ plus (charge_of place (without_slot slot s.records)) (if r.namespace == place then to else no_usage) → TurnsAt place s (with_share slot o shares) (changed_to to (share_of_slot slot shares)) t
    turned_to to o t as_many here others charged =
        subst (λ (x : Option Usage). TurnsAt place s (with_share slot o shares) (changed_to to x) t) (sym share_now)
        (record {
          holds = record {
            places = set_places slot o ∙ sym as_many;
            agrees = λ k small. agree_set slot o t.records low here others k (subst (λ (n : ℕ). k < n) as_many small);
          };
          rest = charge_of place (without_slot slot s.records);
          before = charge_of-without place (is_slot slot) s.records r stands ∙ ap (plus (charge_of place (without_slot slot s.records))) (sym (found_in (r.namespace == place) (usage_of r.content) to));
          after = charged ∙ ap (plus (charge_of place (without_slot slot s.records))) (sym (left_in (r.namespace == place) (usage_of r.content) to));
        })

    -- charged anew
    recharges : (to : Usage) (t : State) → t.slots ≡ s.slots → t.records ≡ recharged slot to s.records → TurnsAt place s (recharged_to slot to shares) (changed_to to (share_of_slot slot shares)) t
    recharges to t as_many is =
        turned_to to (option_map (λ before. to) (share_of_slot slot shares)) t as_many
        (ap (option_map (λ (before : Usage). to)) share_now ∙ mapped_if (r.namespace == place) (usage_of r.content) to
        ∙ sym (ap (λ (rs : List Record). share_by place (active_at slot rs)) is ∙ ap (share_by place) (active_at-recharged_own slot to s.records r stands)))
        (λ k ne. ap (active_at k) is ∙ active_at-recharged_other slot k to s.records ne)
        (ap (charge_of place) is ∙ charge_of-recharged place slot to s.records r stands)

    turns_charge_to : (given : Given) (o : Option Usage) → OnSlot given (charge_to s slot r o)
    turns_charge_to given (Some to) = recharges to _ refl refl
    turns_charge_to given None = refuses

    turns_trim : (now : Usage) → OnSlot (Count now) (trim s slot (Count now) (Some r))
    turns_trim now = recharges now _ refl refl

    commits : (key : Bytes) (lease : Option Bytes) (labels : Option (List Label)) (layer : Tree) → OnSlot (Layer layer) (committed_state s slot key lease labels layer r)
    commits key lease labels layer =
        let c : Record = committed_as key labels layer (s.entries + 1) r in
        turned_to (count_of layer) None _ refl
        (sym (ap (share_by place) (active_at-committed_own slot key labels layer (s.entries + 1) s.records r good.slots)))
        (λ k ne. active_at-committed_other slot k key labels layer (s.entries + 1) s.records r ne)
        (charge_of-with_record place c (without_slot slot s.records))

    turns_commit : (key : Bytes) (lease : Option Bytes) (labels : Option (List Label)) (layer : Tree) → OnSlot (Layer layer) (commit_as s slot key lease labels layer (Some r))
    turns_commit key lease labels layer =
        commit_by_tests (OnSlot (Layer layer)) s slot key lease labels layer r (λ why. refuses) (λ formed new named. commits key lease labels layer)

    turns_discard : (given : Given) → OnSlot given (discard s slot (Some r))
    turns_discard given =
        turned_to no_usage None _ refl
        (sym (ap (share_by place) (active_at-without_slot_own slot s.records good.slots)))
        (λ k ne. active_at-without_slot_other slot k s.records ne)
        (sym (ap (plus (charge_of place (without_slot slot s.records))) (either_none (r.namespace == place)) ∙ plus-none _))

  -- ---- one step

  -- the change and the shares that the entry tells, and the state after it
  abbrev pub Told : Call → Given → State × Reply → Type 0
  Told call given p = TurnsAt place s (shares_by name shares given p.1 (namespace_in call) (slot_in call)) (change_by name shares given p.1 (namespace_in call) (slot_in call)) p.0

  -- the record of the slot that an allowed call is on
  open_record : (id slot : ℕ) → IsOpenSlot id (active_at slot s.records) → (r : Record) × (active_at slot s.records ≡ Some r)
  open_record id slot = by (active_at slot s.records)
    where
      by : (o : Option Record) → IsOpenSlot id o → (r : Record) × (o ≡ Some r)
      by None h = absurd h
      by (Some r) h = (r, refl)

  covered_record : (id slot : ℕ) (now : Usage) → IsCovered id now (active_at slot s.records) → (r : Record) × (active_at slot s.records ≡ Some r)
  covered_record id slot now = by (active_at slot s.records)
    where
      by : (o : Option Record) → IsCovered id now o → (r : Record) × (o ≡ Some r)
      by None h = absurd h
      by (Some r) h = (r, refl)

  pub turns : (call : Call) (given : Given) → IsAllowed s call given → Told call given (step s call given)
  turns calls.Session given h = even_turns (session s).0 (session s).1 even_session
  turns (calls.Prepare namespace key parent labels) given h = turns_prepare namespace key parent labels
  turns (calls.Charge slot id need want) given h =
      let r = open_record id slot h in
      subst (λ (o : Option Record). Told (calls.Charge slot id need want) given (charge s slot need want o)) (sym r.1) (turns_charge_to slot r.0 r.1 given _)
  turns (calls.Trim slot id) (Count now) h =
      let r = covered_record id slot now h in
      subst (λ (o : Option Record). Told (calls.Trim slot id) (Count now) (trim s slot (Count now) o)) (sym r.1) (turns_trim slot r.0 r.1 now)
  turns (calls.Trim slot id) Nothing h = absurd h
  turns (calls.Trim slot id) (Layer layer) h = absurd h
  turns (calls.Commit slot id key lease labels) (Layer layer) h =
      let r = covered_record id slot (count_of layer) h in
      subst (λ (o : Option Record). Told (calls.Commit slot id key lease labels) (Layer layer) (commit_as s slot key lease labels layer o)) (sym r.1) (turns_commit slot r.0 r.1 key lease labels layer)
  turns (calls.Commit slot id key lease labels) Nothing h = absurd h
  turns (calls.Commit slot id key lease labels) (Count now) h = absurd h
  turns (calls.Discard slot id) given h =
      let r = open_record id slot h in
      subst (λ (o : Option Record). Told (calls.Discard slot id) given (discard s slot o)) (sym r.1) (turns_discard slot r.0 r.1 given)
  turns (calls.Stat namespace key) given h = even_named (bytes_eq namespace name) (step s (calls.Stat namespace key) given) (even_ask (λ r. replies.Info (info_of r)) (λ r. tt) namespace key)
  turns (calls.Usage namespace key) given h = even_named (bytes_eq namespace name) (step s (calls.Usage namespace key) given) (even_ask (λ r. replies.Usage (usage_of r.content)) (λ r. tt) namespace key)
  turns (calls.Mounts namespace key) given h = even_named (bytes_eq namespace name) (step s (calls.Mounts namespace key) given) (even_ask (mounts s) plain_mounts namespace key)
  turns (calls.View namespace key parent labels) given h = even_named (bytes_eq namespace name) (step s (calls.View namespace key parent labels) given) (even_view namespace key parent labels)
  turns (calls.Remove namespace key) given h = turns_remove namespace key
  turns (calls.Update namespace key labels paths) given h = even_named (bytes_eq namespace name) (step s (calls.Update namespace key labels paths) given) (even_update namespace key labels paths)
  turns (calls.Walk namespace after most asked) given h = even_named (bytes_eq namespace name) (step s (calls.Walk namespace after most asked) given) (even_walk namespace after most asked)
  turns (calls.SetLimit namespace limit) given h = even_named (bytes_eq namespace name) (step s (calls.SetLimit namespace limit) given) (even_set_limit namespace limit)
  turns (calls.NamespaceCreate namespace limit) given h = even_named (bytes_eq namespace name) (step s (calls.NamespaceCreate namespace limit) given) (even_namespace_create namespace limit)
  turns (calls.NamespaceRemove namespace) given h = even_named (bytes_eq namespace name) (step s (calls.NamespaceRemove namespace) given) (even_namespace_remove namespace)
  turns (calls.LeaseCreate namespace lease until) given h = even_named (bytes_eq namespace name) (step s (calls.LeaseCreate namespace lease until) given) (even_lease_create namespace lease until)
  turns (calls.LeaseAdd namespace lease key) given h = even_named (bytes_eq namespace name) (step s (calls.LeaseAdd namespace lease key) given) (even_lease_add namespace lease key)
  turns (calls.LeaseDrop namespace lease key) given h = even_named (bytes_eq namespace name) (step s (calls.LeaseDrop namespace lease key) given) (even_lease_drop namespace lease key)
  turns (calls.LeaseRelease namespace lease) given h = even_named (bytes_eq namespace name) (step s (calls.LeaseRelease namespace lease) given) (even_lease_release namespace lease)
  turns (calls.Sweep namespace moment) given h = turns_sweep namespace moment

  -- ---- whose the entry is

  own_slot : (slot : ℕ) (r : Record) → active_at slot s.records ≡ Some r
      → option_map_or (λ (n : Bytes). bytes_eq n name) (option_or None (option_map (λ (t : Record). name_at t.namespace s.namespaces) (active_at slot s.records))) false ≡ is_some (share_of_slot slot shares)
  own_slot slot r stands =
      let taken : is_taken_at r.namespace s.namespaces ≡ true = active_at-all (λ t. is_taken_at t.namespace s.namespaces ≡ true) slot s.records r stands good.placed in
      ap (λ (o : Option Record). option_map_or (λ (n : Bytes). bytes_eq n name) (option_or None (option_map (λ (t : Record). name_at t.namespace s.namespaces) o)) false) stands
      ∙ owned (name_at r.namespace s.namespaces) r.namespace (place_of-name_at s.namespaces r.namespace good.distinct taken)
      ∙ sym (ap is_some (share_now slot r stands) ∙ some_if (r.namespace == place) (usage_of r.content))

  pub own : (call : Call) (given : Given) → IsAllowed s call given → is_call_of name s call ≡ is_own name shares call
  unfolding is_own
  own calls.Session given h = refl
  own (calls.Prepare namespace key parent labels) given h = refl
  own (calls.Charge slot id need want) given h = let r = open_record id slot h in own_slot slot r.0 r.1
  own (calls.Trim slot id) (Count now) h = let r = covered_record id slot now h in own_slot slot r.0 r.1
  own (calls.Trim slot id) Nothing h = absurd h
  own (calls.Trim slot id) (Layer layer) h = absurd h
  own (calls.Commit slot id key lease labels) (Layer layer) h = let r = covered_record id slot (count_of layer) h in own_slot slot r.0 r.1
  own (calls.Commit slot id key lease labels) Nothing h = absurd h
  own (calls.Commit slot id key lease labels) (Count now) h = absurd h
  own (calls.Discard slot id) given h = let r = open_record id slot h in own_slot slot r.0 r.1
  own (calls.Stat namespace key) given h = refl
  own (calls.Usage namespace key) given h = refl
  own (calls.Mounts namespace key) given h = refl
  own (calls.View namespace key parent labels) given h = refl
  own (calls.Remove namespace key) given h = refl
  own (calls.Update namespace key labels paths) given h = refl
  own (calls.Walk namespace after most asked) given h = refl
  own (calls.SetLimit namespace limit) given h = refl
  own (calls.NamespaceCreate namespace limit) given h = refl
  own (calls.NamespaceRemove namespace) given h = refl
  own (calls.LeaseCreate namespace lease until) given h = refl
  own (calls.LeaseAdd namespace lease key) given h = refl
  own (calls.LeaseDrop namespace lease key) given h = refl
  own (calls.LeaseRelease namespace lease) given h = refl
  own (calls.Sweep namespace moment) given h = refl
