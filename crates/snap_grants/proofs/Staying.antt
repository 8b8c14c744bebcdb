-- What calls leave that grant no snapshot and take none away.
use Rattle.std.proofs.Common.{◌≡◌, ℕ, ◌+◌, ◌≤◌, Bool, true, false, List, Option, Some, None, refl, arith}
use Rattle.std.specs.Option.{option_map_or}
use Rattle.std.specs.Prelude.{if◌then◌else◌, ◌&&◌, nat_le, nat_lt, Result, Ok, Err}
use Rattle.snap_path.specs.Limits.{most_number}
use Rattle.snap_usage.specs.declared.usage.Usage.{Usage}
use Rattle.snap_usage.specs.Counted.{covers}
use Rattle.snap_lease.specs.Lease.{Lease}
use Rattle.snap_lease.specs.Leases.{has_lease, lease_names}
use Rattle.snap_record.specs.Labels.{Bytes, Label}
use Rattle.snap_record.specs.Records.{usage_of, info_of}
use Rattle.snap_record.specs.Updates.{is_granted, is_well_formed, updated as labels_after}
use Rattle.snap_record.specs.declared.filter.Filter.{Filter}
use Rattle.snap_record.specs.declared.record.Record.{Record}
use Rattle.snap_record.specs.declared.record.Content.TheVariants.{View}
use Rattle.snap_call.specs.declared.call.Call.{Call}
use Rattle.snap_call.specs.declared.call.Call.TheVariants as calls
use Rattle.snap_call.specs.declared.call.Given.{Given}
use Rattle.snap_call.specs.declared.call.Given.TheVariants.{Nothing, Count, Layer}
use Rattle.snap_call.specs.declared.refusal.Refusal.{Refusal}
use Rattle.snap_call.specs.declared.refusal.Refusal.TheVariants.{NoNamespace, NotFound}
use Rattle.snap_call.specs.declared.reply.Reply.{Reply}
use Rattle.snap_call.specs.declared.reply.Reply.TheVariants.{Info, Usage as UsageReply}
use Rattle.snap_call.specs.declared.state.State.{State}
use Rattle.snap_call.specs.Forms.{is_key, is_limit, is_page, is_start}
use Rattle.snap_call.specs.Records.{record_at, is_slot, is_committed, active_at, charge_of, recharged, max_sessions}
use Rattle.snap_call.specs.State.{place_of, shown_layers}
use Rattle.snap_call.specs.Step.{counted, refused, unless_refused, place_for, granted, charge, trim, discard, ask, mounts, viewed, prepare_view, update_record, in_namespace, step, at_record, new_record, relabelled_at}
use Rattle.snap_call.specs.Steps.{session, update, walk_infos, set_limit, lease_create, lease_add, lease_drop, lease_release}
use Rattle.snap_call.proofs.Parts.{charge_to, view_at, set_limit_at, lease_add_record, lease_drop_at, limited_at}
use Rattle.snap_call.proofs.Lists.{all-with_record, all-without}
use Rattle.snap_grants.specs.Grants.{Stored, Origin, worth}
use Rattle.snap_grants.proofs.Weights.{Comes, AllCome, weights-with_record, weights-without_slot, weights-recharged, weights-relabelled, weights-limited, comes-recharged, comes-relabelled, comes-limited}

-- ---- what holds of each outcome

pub either : (P : State × Reply → Type 0) (b : Bool) (x y : State × Reply) → P x → P y → P (if b then x else y)
either P true x y p q = p
either P false x y p q = q

pub unless : (P : State × Reply → Type 0) (s : State) → ((why : Refusal) → P (refused s why)) → (r : Result ℕ Refusal) (next : ℕ → State × Reply) → ((n : ℕ) → r ≡ Ok n → P (next n)) → P (unless_refused s r next)
unless P s refusing (Ok n) next f = f n refl
unless P s refusing (Err why) next f = refusing why

-- ---- one call

-- each active record comes from its id's origin as before, what is committed weighs the same, and no id is given again
pub record Stays (s t : State) : Type 0 where
  pub come : (origin : ℕ → Origin) → AllCome origin s → AllCome origin t
  pub same : (h : Stored → ℕ) → worth h t ≡ worth h s
  pub grows : s.next_id ≤ t.next_id

-- a call that isn't Prepare or Commit, and keeps what is committed and the places of the namespaces
abbrev pub IsPlain : Call → Type 0
IsPlain (calls.Prepare namespace key parent labels) = ⊥
IsPlain (calls.Commit slot id name lease labels) = ⊥
IsPlain (calls.Remove namespace key) = ⊥
IsPlain (calls.Sweep namespace moment) = ⊥
IsPlain (calls.NamespaceCreate namespace limit) = ⊥
IsPlain (calls.NamespaceRemove namespace) = ⊥
IsPlain call = Unit {0}

module _ (s : State) where
  abbrev P : State × Reply → Type 0
  P next = Stays s next.0

  -- no record changes
  still : (sessions entries : ℕ) (leases : List Lease) → Stays s (record s { sessions = sessions; leases = leases; entries = entries })
  still sessions entries leases = record { come = λ origin all. all; same = λ h. refl; grows = omega arith }

  leased : (leases : List Lease) → Stays s (record s { leases = leases; entries = s.entries + 1 })
  leased leases = still s.sessions (s.entries + 1) leases

  -- nothing but the number of entries does, as by a refusal
  pub counts : Stays s (counted s)
  counts = still s.sessions (s.entries + 1) s.leases

  stays_session : P (session s)
  stays_session = either P (nat_lt s.sessions max_sessions) _ _ (still (s.sessions + 1) (s.entries + 1) s.leases) (still s.sessions s.entries s.leases)

  stays_recharged : (slot : ℕ) (to : Usage) → Stays s (record s { records = recharged slot to s.records; entries = s.entries + 1 })
  stays_recharged slot to = record { come = λ origin all. comes-recharged origin s.namespaces slot to s.records all; same = λ h. weights-recharged h s.namespaces slot to s.records; grows = omega arith }

  stays_charge_to : (slot : ℕ) (r : Record) (o : Option Usage) → P (charge_to s slot r o)
  stays_charge_to slot r (Some to) = stays_recharged slot to
  stays_charge_to slot r None = counts

  stays_charge : (slot : ℕ) (need want : Usage) (o : Option Record) → P (charge s slot need want o)
  stays_charge slot need want (Some r) = stays_charge_to slot r (granted s r.namespace (usage_of r.content) need want)
  stays_charge slot need want None = counts

  stays_trim : (slot : ℕ) (given : Given) (o : Option Record) → P (trim s slot given o)
  stays_trim slot (Count now) (Some r) = stays_recharged slot now
  stays_trim slot (Count now) None = counts
  stays_trim slot Nothing o = counts
  stays_trim slot (Layer layer) o = counts

  stays_discard : (slot : ℕ) (o : Option Record) → P (discard s slot o)
  stays_discard slot (Some r) = record { come = λ origin all. all-without (is_slot slot) (Comes origin s.namespaces) s.records all; same = λ h. weights-without_slot h s.namespaces slot s.records; grows = omega arith }
  stays_discard slot None = counts

  -- what follows in a namespace, and at a record
  in_place : (namespace : Bytes) (next : ℕ → State × Reply) → ((place : ℕ) → P (next place)) → P (in_namespace s namespace next)
  in_place namespace next h = by (place_of namespace s.namespaces)
    where
      by : (o : Option ℕ) → P (option_map_or next o (refused s NoNamespace))
      by None = counts
      by (Some place) = h place

  on_record : (namespace key : Bytes) (next : ℕ → Record → State × Reply) → ((place : ℕ) (r : Record) → P (next place r)) → P (at_record s namespace key next)
  on_record namespace key next h = in_place namespace _ (λ place. by place (record_at place key s.records))
    where
      by : (place : ℕ) (o : Option Record) → P (option_map_or (next place) o (refused s NotFound))
      by place None = counts
      by place (Some r) = h place r

  -- what is only asked
  stays_ask : (answer : Record → Reply) (namespace key : Bytes) → P (ask s answer namespace key)
  stays_ask answer namespace key = either P (is_key key) _ _ (on_record namespace key _ (λ place r. counts)) counts

  stays_walk : (namespace after : Bytes) (most : ℕ) (asked : Filter) → P (walk_infos s namespace after most asked)
  stays_walk namespace after most asked = either P (is_start after && is_page most) _ _ (in_place namespace _ (λ place. counts)) counts

  -- a view isn't active, and weighs nothing
  stays_viewed : (place : ℕ) (key parent : Bytes) (labels : List Label) → P (viewed s place key parent labels)
  stays_viewed place key parent labels = record {
    come = λ origin all. all-with_record new (Comes origin s.namespaces) s.records tt all;
    same = λ h. let more = weights-with_record h s.namespaces new s.records in omega (arith, more);
    grows = omega arith;
  }
    where
      new : Record
      new = new_record s place key parent labels (View (shown_layers place parent s.records))

  stays_view : (namespace key parent : Bytes) (labels : List Label) → P (prepare_view s namespace key parent labels)
  stays_view namespace key parent labels =
      unless P s (λ why. counts) (place_for s namespace key parent labels) (view_at s key parent labels)
      (λ place e. either P (nat_le s.next_id most_number) _ _ (stays_viewed place key parent labels) counts)

  stays_relabelled : (place : ℕ) (key : Bytes) (labels : List Label) → Stays s (relabelled_at s place key labels)
  stays_relabelled place key labels = record {
    come = λ origin all. comes-relabelled origin s.namespaces place key labels (s.entries + 1) s.records all;
    same = λ h. weights-relabelled h s.namespaces place key labels (s.entries + 1) s.records;
    grows = omega arith;
  }

  stays_update_record : (key : Bytes) (given : List Label) (paths : List Bytes) (place : ℕ) (r : Record) → P (update_record s key given paths place r)
  stays_update_record key given paths place r = either P (is_granted r.labels given paths) _ _ (stays_relabelled place key (labels_after r.labels given paths)) counts

  stays_update : (namespace key : Bytes) (given : List Label) (paths : List Bytes) → P (update s namespace key given paths)
  stays_update namespace key given paths = either P (is_key key && is_well_formed given paths) _ _ (on_record namespace key _ (stays_update_record key given paths)) counts

  -- a limit and the leases
  stays_limited : (place : ℕ) (limit : Usage) → Stays s (limited_at s place limit)
  stays_limited place limit = record { come = λ origin all. comes-limited origin limit place s.namespaces s.records all; same = λ h. weights-limited h limit place s.namespaces s.records; grows = omega arith }

  stays_set_limit : (namespace : Bytes) (limit : Usage) → P (set_limit s namespace limit)
  stays_set_limit namespace limit = either P (is_limit limit) _ _ (in_place namespace (set_limit_at s limit) (λ place. either P (covers limit (charge_of place s.records)) _ _ (stays_limited place limit) counts)) counts

  stays_create : (namespace lease : Bytes) (until : Option ℕ) → P (lease_create s namespace lease until)
  stays_create namespace lease until = either P (is_key lease) _ _ (in_place namespace _ (λ place. either P (has_lease s.leases namespace lease) _ _ counts (leased _))) counts

  stays_add_record : (namespace lease name : Bytes) (r : Record) → P (lease_add_record s namespace lease name r)
  stays_add_record namespace lease name r = either P (is_committed r.content) _ _ (either P (has_lease s.leases namespace lease) _ _ (leased _) counts) counts

  stays_add : (namespace lease name : Bytes) → P (lease_add s namespace lease name)
  stays_add namespace lease name = either P (is_key lease && is_key name) _ _ (on_record namespace name _ (λ place. stays_add_record namespace lease name)) counts

  stays_drop_at : (namespace lease name : Bytes) → P (lease_drop_at s namespace lease name)
  stays_drop_at namespace lease name = either P (has_lease s.leases namespace lease) _ _ (either P (lease_names s.leases namespace lease name) _ _ (leased _) counts) counts

  stays_drop : (namespace lease name : Bytes) → P (lease_drop s namespace lease name)
  stays_drop namespace lease name = either P (is_key lease && is_key name) _ _ (in_place namespace _ (λ place. stays_drop_at namespace lease name)) counts

  stays_release : (namespace lease : Bytes) → P (lease_release s namespace lease)
  stays_release namespace lease = either P (is_key lease) _ _ (in_place namespace _ (λ place. either P (has_lease s.leases namespace lease) _ _ (leased _) counts)) counts

  pub stays : (call : Call) (given : Given) → IsPlain call → P (step s call given)
  stays calls.Session given plain = stays_session
  stays (calls.Charge slot id need want) given plain = stays_charge slot need want (active_at slot s.records)
  stays (calls.Trim slot id) given plain = stays_trim slot given (active_at slot s.records)
  stays (calls.Discard slot id) given plain = stays_discard slot (active_at slot s.records)
  stays (calls.Stat namespace key) given plain = stays_ask (λ r. Info (info_of r)) namespace key
  stays (calls.Usage namespace key) given plain = stays_ask (λ r. UsageReply (usage_of r.content)) namespace key
  stays (calls.Mounts namespace key) given plain = stays_ask (mounts s) namespace key
  stays (calls.View namespace key parent labels) given plain = stays_view namespace key parent labels
  stays (calls.Update namespace key labels paths) given plain = stays_update namespace key labels paths
  stays (calls.Walk namespace after most asked) given plain = stays_walk namespace after most asked
  stays (calls.SetLimit namespace limit) given plain = stays_set_limit namespace limit
  stays (calls.LeaseCreate namespace lease until) given plain = stays_create namespace lease until
  stays (calls.LeaseAdd namespace lease name) given plain = stays_add namespace lease name
  stays (calls.LeaseDrop namespace lease name) given plain = stays_drop namespace lease name
  stays (calls.LeaseRelease namespace lease) given plain = stays_release namespace lease
  stays call given plain = absurd plain
