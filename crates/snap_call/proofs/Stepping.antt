-- What holds of a state and another with one more entry and as many slots holds of a state and what a call leaves, but a session may leave it as it was.
use Rattle.std.proofs.Common.{◌≡◌, ℕ, ◌+◌, List, Bool, true, false, Some, None, refl}
use Rattle.std.specs.Option.{option_map_or, is_some}
use Rattle.std.specs.Prelude.{◌&&◌, ◌||◌, nat_le, nat_lt, count_by, if◌then◌else◌, Option, Result, Ok, Err}
use Rattle.snap_path.specs.Limits.{most_number}
use Rattle.snap_layer.specs.Tree.{Tree}
use Rattle.snap_usage.specs.declared.usage.Usage.{Usage}
use Rattle.snap_usage.specs.Counted.{covers}
use Rattle.snap_lease.specs.Leases.{is_guarded, has_lease, has_leases, lease_names}
use Rattle.snap_record.specs.Labels.{Bytes, Label}
use Rattle.snap_record.specs.Records.{usage_of, info_of}
use Rattle.snap_record.specs.Updates.{is_granted, is_well_formed}
use Rattle.snap_record.specs.declared.filter.Filter.{Filter}
use Rattle.snap_record.specs.declared.record.Record.{Record}
use Rattle.snap_call.specs.declared.call.Call.{Call}
use Rattle.snap_call.specs.declared.config.Namespace.{Namespace}
use Rattle.snap_call.specs.declared.call.Call.TheVariants as calls
use Rattle.snap_call.specs.declared.call.Given.{Given}
use Rattle.snap_call.specs.declared.call.Given.TheVariants.{Nothing, Count, Layer}
use Rattle.snap_call.specs.declared.refusal.Refusal.{Refusal}
use Rattle.snap_call.specs.declared.refusal.Refusal.TheVariants.{NoNamespace, NumbersSpent, NotFound}
use Rattle.snap_call.specs.declared.reply.Reply.{Reply}
use Rattle.snap_call.specs.declared.reply.Reply.TheVariants.{Opened, Info, Usage as UsageReply, Refused}
use Rattle.snap_call.specs.declared.state.State.{State}
use Rattle.snap_call.specs.Forms.{is_key, is_limit, is_namespace, is_page, is_start}
use Rattle.snap_call.specs.Records.{record_at, has_key, has_records, has_children, is_active, is_committed, active_at, charge_of}
use Rattle.snap_call.specs.State.{is_taken, most_namespaces, place_of}
use Rattle.snap_call.specs.Step.{are_formed, refused, prepared, prepare, granted, charge, trim, commit_as, discard, ask, step, place_for, slot_for, unless_refused, mounts, prepare_view, update_record, in_namespace, has_named, sweep_at, at_record}
use Rattle.snap_call.specs.Steps.{session, remove, update, walk_infos, set_limit, namespace_create, namespace_remove, lease_create, lease_add, lease_drop, lease_release}
use Rattle.snap_call.proofs.Parts.{prepare_at, charge_to, view_at, remove_record, set_limit_at, namespace_remove_at, lease_add_record, lease_drop_at, commit}
use Rattle.snap_call.proofs.Tested.{commit_by_tests}

-- a session is counted where one is left
abbrev pub opened : State → Bool → State × Reply
opened s b = if b then (record s { sessions = s.sessions + 1; entries = s.entries + 1 }, Opened) else (s, Refused NumbersSpent)

module _ (R : State → State → Type 0) (made : (s t : State) → t.slots ≡ s.slots → t.entries ≡ s.entries + 1 → R s t) where
  either : (s : State) (b : Bool) (p q : State × Reply) → R s p.0 → R s q.0 → R s (if b then p else q).0
  either s true p q h k = h
  either s false p q h k = k

  unless_refusing : (s : State) (r : Result ℕ Refusal) (next : ℕ → State × Reply) → ((n : ℕ) → R s (next n).0) → R s (unless_refused s r next).0
  unless_refusing s (Ok n) next h = h n
  unless_refusing s (Err why) next h = made _ _ refl refl

  preparing_at : (s : State) (key parent : Bytes) (labels : List Label) (place : ℕ) → R s (prepare_at s key parent labels place).0
  preparing_at s key parent labels place = unless_refusing s (slot_for s place) (prepared s place key parent labels) (λ slot. made _ _ refl refl)

  preparing : (s : State) (namespace key parent : Bytes) (labels : List Label) → R s (prepare s namespace key parent labels).0
  preparing s namespace key parent labels = unless_refusing s (place_for s namespace key parent labels) (prepare_at s key parent labels) (preparing_at s key parent labels)

  viewing_at : (s : State) (key parent : Bytes) (labels : List Label) (place : ℕ) → R s (view_at s key parent labels place).0
  viewing_at s key parent labels place = either s (nat_le s.next_id most_number) _ _ (made _ _ refl refl) (made _ _ refl refl)

  viewing : (s : State) (namespace key parent : Bytes) (labels : List Label) → R s (prepare_view s namespace key parent labels).0
  viewing s namespace key parent labels = unless_refusing s (place_for s namespace key parent labels) (view_at s key parent labels) (viewing_at s key parent labels)

  charging_to : (s : State) (slot : ℕ) (r : Record) (o : Option Usage) → R s (charge_to s slot r o).0
  charging_to s slot r (Some to) = made _ _ refl refl
  charging_to s slot r None = made _ _ refl refl

  charging : (s : State) (slot : ℕ) (need want : Usage) (o : Option Record) → R s (charge s slot need want o).0
  charging s slot need want (Some r) = charging_to s slot r (granted s r.namespace (usage_of r.content) need want)
  charging s slot need want None = made _ _ refl refl

  trimming : (s : State) (slot : ℕ) (given : Given) (o : Option Record) → R s (trim s slot given o).0
  trimming s slot (Count now) (Some r) = made _ _ refl refl
  trimming s slot (Count now) None = made _ _ refl refl
  trimming s slot Nothing o = made _ _ refl refl
  trimming s slot (Layer layer) o = made _ _ refl refl

  committing_as : (s : State) (slot : ℕ) (name : Bytes) (lease : Option Bytes) (labels : Option (List Label)) (layer : Tree) (o : Option Record) → R s (commit_as s slot name lease labels layer o).0
  committing_as s slot name lease labels layer (Some r) =
      commit_by_tests (λ x. R s x.0) s slot name lease labels layer r (λ why. made _ _ refl refl) (λ formed free named. made _ _ refl refl)
  committing_as s slot name lease labels layer None = made _ _ refl refl

  committing : (s : State) (slot : ℕ) (name : Bytes) (lease : Option Bytes) (labels : Option (List Label)) (given : Given) → R s (commit s slot name lease labels given).0
  committing s slot name lease labels (Layer layer) = committing_as s slot name lease labels layer (active_at slot s.records)
  committing s slot name lease labels Nothing = made _ _ refl refl
  committing s slot name lease labels (Count now) = made _ _ refl refl

  discarding : (s : State) (slot : ℕ) (o : Option Record) → R s (discard s slot o).0
  discarding s slot (Some r) = made _ _ refl refl
  discarding s slot None = made _ _ refl refl

  in_place : (s : State) (namespace : Bytes) (next : ℕ → State × Reply) → ((place : ℕ) → R s (next place).0) → R s (in_namespace s namespace next).0
  in_place s namespace next h = by (place_of namespace s.namespaces)
    where
      by : (o : Option ℕ) → R s (option_map_or next o (refused s NoNamespace)).0
      by None = made _ _ refl refl
      by (Some place) = h place

  on_record : (s : State) (namespace key : Bytes) (next : ℕ → Record → State × Reply) → ((place : ℕ) (r : Record) → R s (next place r).0) → R s (at_record s namespace key next).0
  on_record s namespace key next h = in_place s namespace _ (λ place. by place (record_at place key s.records))
    where
      by : (place : ℕ) (o : Option Record) → R s (option_map_or (next place) o (refused s NotFound)).0
      by place None = made _ _ refl refl
      by place (Some r) = h place r

  asking : (s : State) (answer : Record → Reply) (namespace key : Bytes) → R s (ask s answer namespace key).0
  asking s answer namespace key = either s (is_key key) _ _ (on_record s namespace key _ (λ place r. made _ _ refl refl)) (made _ _ refl refl)

  removing_record : (s : State) (namespace key : Bytes) (place : ℕ) (r : Record) → R s (remove_record s namespace key place r).0
  removing_record s namespace key place r =
      either s (has_children place key s.records) _ _ (made _ _ refl refl)
      (either s (is_active r.content) _ _ (made _ _ refl refl)
      (either s (is_guarded s.leases namespace key) _ _ (made _ _ refl refl) (made _ _ refl refl)))

  removing : (s : State) (namespace key : Bytes) → R s (remove s namespace key).0
  removing s namespace key = either s (is_key key) _ _ (on_record s namespace key _ (removing_record s namespace key)) (made _ _ refl refl)

  updating_record : (s : State) (key : Bytes) (given : List Label) (paths : List Bytes) (place : ℕ) (r : Record) → R s (update_record s key given paths place r).0
  updating_record s key given paths place r =
      either s (is_granted r.labels given paths) _ _ (made _ _ refl refl) (made _ _ refl refl)

  updating : (s : State) (namespace key : Bytes) (given : List Label) (paths : List Bytes) → R s (update s namespace key given paths).0
  updating s namespace key given paths = either s (is_key key && is_well_formed given paths) _ _ (on_record s namespace key _ (updating_record s key given paths)) (made _ _ refl refl)

  walking : (s : State) (namespace after : Bytes) (most : ℕ) (asked : Filter) → R s (walk_infos s namespace after most asked).0
  walking s namespace after most asked = either s (is_start after && is_page most) _ _ (in_place s namespace _ (λ place. made _ _ refl refl)) (made _ _ refl refl)

  limiting : (s : State) (namespace : Bytes) (limit : Usage) → R s (set_limit s namespace limit).0
  limiting s namespace limit = either s (is_limit limit) _ _ (in_place s namespace (set_limit_at s limit) (λ place. either s (covers limit (charge_of place s.records)) _ _ (made _ _ refl refl) (made _ _ refl refl))) (made _ _ refl refl)

  spacing_one : (s : State) (namespace : Bytes) (limit : Usage) → R s (namespace_create s namespace limit).0
  spacing_one s namespace limit =
      let n : Namespace = record { name = namespace; limit = limit } in
      either s (is_namespace n) _ _ (either s (is_some (place_of namespace s.namespaces)) _ _ (made _ _ refl refl) (either s (nat_lt (count_by is_taken s.namespaces) most_namespaces) _ _ (made _ _ refl refl) (made _ _ refl refl))) (made _ _ refl refl)

  unspacing : (s : State) (namespace : Bytes) → R s (namespace_remove s namespace).0
  unspacing s namespace = in_place s namespace (namespace_remove_at s namespace) (λ place. either s (has_records place s.records || has_leases s.leases namespace) _ _ (made _ _ refl refl) (made _ _ refl refl))

  creating : (s : State) (namespace lease : Bytes) (until : Option ℕ) → R s (lease_create s namespace lease until).0
  creating s namespace lease until = either s (is_key lease) _ _ (in_place s namespace _ (λ place. either s (has_lease s.leases namespace lease) _ _ (made _ _ refl refl) (made _ _ refl refl))) (made _ _ refl refl)

  adding_record : (s : State) (namespace lease name : Bytes) (r : Record) → R s (lease_add_record s namespace lease name r).0
  adding_record s namespace lease name r = either s (is_committed r.content) _ _ (either s (has_lease s.leases namespace lease) _ _ (made _ _ refl refl) (made _ _ refl refl)) (made _ _ refl refl)

  adding : (s : State) (namespace lease name : Bytes) → R s (lease_add s namespace lease name).0
  adding s namespace lease name = either s (is_key lease && is_key name) _ _ (on_record s namespace name _ (λ place. adding_record s namespace lease name)) (made _ _ refl refl)

  dropping_at : (s : State) (namespace lease name : Bytes) → R s (lease_drop_at s namespace lease name).0
  dropping_at s namespace lease name = either s (has_lease s.leases namespace lease) _ _ (either s (lease_names s.leases namespace lease name) _ _ (made _ _ refl refl) (made _ _ refl refl)) (made _ _ refl refl)

  dropping : (s : State) (namespace lease name : Bytes) → R s (lease_drop s namespace lease name).0
  dropping s namespace lease name = either s (is_key lease && is_key name) _ _ (in_place s namespace _ (λ place. dropping_at s namespace lease name)) (made _ _ refl refl)

  releasing : (s : State) (namespace lease : Bytes) → R s (lease_release s namespace lease).0
  releasing s namespace lease = either s (is_key lease) _ _ (in_place s namespace _ (λ place. either s (has_lease s.leases namespace lease) _ _ (made _ _ refl refl) (made _ _ refl refl))) (made _ _ refl refl)

  pub stepped : (s : State) (call : Call) (given : Given) → (call ≡ calls.Session → R s (session s).0) → R s (step s call given).0
  stepped s calls.Session given opens = opens refl
  stepped s (calls.Prepare namespace key parent labels) given opens = preparing s namespace key parent labels
  stepped s (calls.Charge slot id need want) given opens = charging s slot need want (active_at slot s.records)
  stepped s (calls.Trim slot id) given opens = trimming s slot given (active_at slot s.records)
  stepped s (calls.Commit slot id name lease labels) given opens = committing s slot name lease labels given
  stepped s (calls.Discard slot id) given opens = discarding s slot (active_at slot s.records)
  stepped s (calls.Stat namespace key) given opens = asking s (λ r. Info (info_of r)) namespace key
  stepped s (calls.Usage namespace key) given opens = asking s (λ r. UsageReply (usage_of r.content)) namespace key
  stepped s (calls.Mounts namespace key) given opens = asking s (mounts s) namespace key
  stepped s (calls.View namespace key parent labels) given opens = viewing s namespace key parent labels
  stepped s (calls.Remove namespace key) given opens = removing s namespace key
  stepped s (calls.Update namespace key labels paths) given opens = updating s namespace key labels paths
  stepped s (calls.Walk namespace after most asked) given opens = walking s namespace after most asked
  stepped s (calls.SetLimit namespace limit) given opens = limiting s namespace limit
  stepped s (calls.NamespaceCreate namespace limit) given opens = spacing_one s namespace limit
  stepped s (calls.NamespaceRemove namespace) given opens = unspacing s namespace
  stepped s (calls.LeaseCreate namespace lease until) given opens = creating s namespace lease until
  stepped s (calls.LeaseAdd namespace lease name) given opens = adding s namespace lease name
  stepped s (calls.LeaseDrop namespace lease name) given opens = dropping s namespace lease name
  stepped s (calls.LeaseRelease namespace lease) given opens = releasing s namespace lease
  stepped s (calls.Sweep namespace moment) given opens = in_place s namespace (sweep_at s namespace moment) (λ place. made _ _ refl refl)
