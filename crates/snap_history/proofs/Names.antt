-- Calls that make no namespace and take none away change no name and no place of one.
use Rattle.std.proofs.Common.{◌≡◌, ℕ, ◌+◌, ◌<◌, List, Bool, true, false, Some, None, refl, arith}
use Rattle.std.proofs.lemmas.Bool.Decides.{nat_tests}
use Rattle.std.specs.Option.{option_map_or}
use Rattle.std.specs.Prelude.{◌&&◌, nat_le, nat_lt, if◌then◌else◌, Option, Result, Ok, Err}
use Rattle.snap_path.specs.Limits.{most_number}
use Rattle.snap_layer.specs.Tree.{Tree}
use Rattle.snap_usage.specs.declared.usage.Usage.{Usage}
use Rattle.snap_usage.specs.Counted.{covers}
use Rattle.snap_lease.specs.Leases.{is_guarded, has_lease, lease_names}
use Rattle.snap_record.specs.Labels.{Bytes, Label}
use Rattle.snap_record.specs.Records.{usage_of, info_of}
use Rattle.snap_record.specs.Updates.{is_granted, is_well_formed}
use Rattle.snap_record.specs.declared.filter.Filter.{Filter}
use Rattle.snap_record.specs.declared.record.Record.{Record}
use Rattle.snap_call.specs.declared.call.Call.{Call}
use Rattle.snap_call.specs.declared.call.Call.TheVariants as calls
use Rattle.snap_call.specs.declared.call.Given.{Given}
use Rattle.snap_call.specs.declared.call.Given.TheVariants.{Nothing, Count, Layer}
use Rattle.snap_call.specs.declared.refusal.Refusal.{Refusal}
use Rattle.snap_call.specs.declared.refusal.Refusal.TheVariants.{NoNamespace, NumbersSpent, NotFound}
use Rattle.snap_call.specs.declared.reply.Reply.{Reply}
use Rattle.snap_call.specs.declared.reply.Reply.TheVariants.{Opened, Info, Usage as UsageReply, Refused}
use Rattle.snap_call.specs.declared.state.State.{State}
use Rattle.snap_call.specs.Forms.{is_key, is_limit, is_page, is_start}
use Rattle.snap_call.specs.Records.{record_at, has_key, has_children, is_active, is_committed, active_at, charge_of, max_sessions}
use Rattle.snap_call.specs.State.{place_of}
use Rattle.snap_call.specs.Step.{are_formed, refused, prepared, prepare, granted, charge, trim, commit_as, discard, ask, step, IsAllowed, place_for, slot_for, unless_refused, mounts, prepare_view, update_record, in_namespace, has_named, sweep_at, at_record}
use Rattle.snap_call.specs.Steps.{session, remove, update, walk_infos, set_limit, lease_create, lease_add, lease_drop, lease_release}
use Rattle.snap_call.proofs.Parts.{prepare_at, charge_to, view_at, remove_record, set_limit_at, lease_add_record, lease_drop_at, commit}
use Rattle.snap_call.proofs.Leasing.{place_of-limited}
use Rattle.snap_call.proofs.Tested.{commit_by_tests}

-- the namespaces have the same names at the same places
abbrev IsNext : State → State → Type 0
IsNext s t = (name : Bytes) → place_of name t.namespaces ≡ place_of name s.namespaces

either : (s : State) (b : Bool) (p q : State × Reply) → IsNext s p.0 → IsNext s q.0 → IsNext s (if b then p else q).0
either s true p q h k = h
either s false p q h k = k

unless_refusing : (s : State) (r : Result ℕ Refusal) (next : ℕ → State × Reply) → ((n : ℕ) → IsNext s (next n).0) → IsNext s (unless_refused s r next).0
unless_refusing s (Ok n) next h = h n
unless_refusing s (Err why) next h = (λ name. refl)

preparing_at : (s : State) (key parent : Bytes) (labels : List Label) (place : ℕ) → IsNext s (prepare_at s key parent labels place).0
preparing_at s key parent labels place = unless_refusing s (slot_for s place) (prepared s place key parent labels) (λ slot. (λ name. refl))

preparing : (s : State) (namespace key parent : Bytes) (labels : List Label) → IsNext s (prepare s namespace key parent labels).0
preparing s namespace key parent labels = unless_refusing s (place_for s namespace key parent labels) (prepare_at s key parent labels) (preparing_at s key parent labels)

viewing_at : (s : State) (key parent : Bytes) (labels : List Label) (place : ℕ) → IsNext s (view_at s key parent labels place).0
viewing_at s key parent labels place = either s (nat_le s.next_id most_number) _ _ (λ name. refl) (λ name. refl)

viewing : (s : State) (namespace key parent : Bytes) (labels : List Label) → IsNext s (prepare_view s namespace key parent labels).0
viewing s namespace key parent labels = unless_refusing s (place_for s namespace key parent labels) (view_at s key parent labels) (viewing_at s key parent labels)

charging_to : (s : State) (slot : ℕ) (r : Record) (o : Option Usage) → IsNext s (charge_to s slot r o).0
charging_to s slot r (Some to) = (λ name. refl)
charging_to s slot r None = (λ name. refl)

charging : (s : State) (slot : ℕ) (need want : Usage) (o : Option Record) → IsNext s (charge s slot need want o).0
charging s slot need want (Some r) = charging_to s slot r (granted s r.namespace (usage_of r.content) need want)
charging s slot need want None = (λ name. refl)

trimming : (s : State) (slot : ℕ) (given : Given) (o : Option Record) → IsNext s (trim s slot given o).0
trimming s slot (Count now) (Some r) = (λ name. refl)
trimming s slot (Count now) None = (λ name. refl)
trimming s slot Nothing o = (λ name. refl)
trimming s slot (Layer layer) o = (λ name. refl)

committing_as : (s : State) (slot : ℕ) (name : Bytes) (lease : Option Bytes) (labels : Option (List Label)) (layer : Tree) (o : Option Record) → IsNext s (commit_as s slot name lease labels layer o).0
committing_as s slot name lease labels layer (Some r) =
    commit_by_tests (λ x. IsNext s x.0) s slot name lease labels layer r (λ why name. refl) (λ formed free named name. refl)
committing_as s slot name lease labels layer None = (λ name. refl)

committing : (s : State) (slot : ℕ) (name : Bytes) (lease : Option Bytes) (labels : Option (List Label)) (given : Given) → IsNext s (commit s slot name lease labels given).0
committing s slot name lease labels (Layer layer) = committing_as s slot name lease labels layer (active_at slot s.records)
committing s slot name lease labels Nothing = (λ name. refl)
committing s slot name lease labels (Count now) = (λ name. refl)

discarding : (s : State) (slot : ℕ) (o : Option Record) → IsNext s (discard s slot o).0
discarding s slot (Some r) = (λ name. refl)
discarding s slot None = (λ name. refl)

in_place : (s : State) (namespace : Bytes) (next : ℕ → State × Reply) → ((place : ℕ) → IsNext s (next place).0) → IsNext s (in_namespace s namespace next).0
in_place s namespace next h = by (place_of namespace s.namespaces)
  where
    by : (o : Option ℕ) → IsNext s (option_map_or next o (refused s NoNamespace)).0
    by None = (λ name. refl)
    by (Some place) = h place

on_record : (s : State) (namespace key : Bytes) (next : ℕ → Record → State × Reply) → ((place : ℕ) (r : Record) → IsNext s (next place r).0) → IsNext s (at_record s namespace key next).0
on_record s namespace key next h = in_place s namespace _ (λ place. by place (record_at place key s.records))
  where
    by : (place : ℕ) (o : Option Record) → IsNext s (option_map_or (next place) o (refused s NotFound)).0
    by place None = (λ name. refl)
    by place (Some r) = h place r

asking : (s : State) (answer : Record → Reply) (namespace key : Bytes) → IsNext s (ask s answer namespace key).0
asking s answer namespace key = either s (is_key key) _ _ (on_record s namespace key _ (λ place r. (λ name. refl))) (λ name. refl)

removing_record : (s : State) (namespace key : Bytes) (place : ℕ) (r : Record) → IsNext s (remove_record s namespace key place r).0
removing_record s namespace key place r =
    either s (has_children place key s.records) _ _ (λ name. refl)
    (either s (is_active r.content) _ _ (λ name. refl)
    (either s (is_guarded s.leases namespace key) _ _ (λ name. refl) (λ name. refl)))

removing : (s : State) (namespace key : Bytes) → IsNext s (remove s namespace key).0
removing s namespace key = either s (is_key key) _ _ (on_record s namespace key _ (removing_record s namespace key)) (λ name. refl)

updating_record : (s : State) (key : Bytes) (given : List Label) (paths : List Bytes) (place : ℕ) (r : Record) → IsNext s (update_record s key given paths place r).0
updating_record s key given paths place r =
    either s (is_granted r.labels given paths) _ _ (λ name. refl) (λ name. refl)

updating : (s : State) (namespace key : Bytes) (given : List Label) (paths : List Bytes) → IsNext s (update s namespace key given paths).0
updating s namespace key given paths = either s (is_key key && is_well_formed given paths) _ _ (on_record s namespace key _ (updating_record s key given paths)) (λ name. refl)

walking : (s : State) (namespace after : Bytes) (most : ℕ) (asked : Filter) → IsNext s (walk_infos s namespace after most asked).0
walking s namespace after most asked = either s (is_start after && is_page most) _ _ (in_place s namespace _ (λ place. (λ name. refl))) (λ name. refl)

limiting : (s : State) (namespace : Bytes) (limit : Usage) → IsNext s (set_limit s namespace limit).0
limiting s namespace limit = either s (is_limit limit) _ _ (in_place s namespace (set_limit_at s limit) (λ place. either s (covers limit (charge_of place s.records)) _ _ (λ name. place_of-limited limit name place s.namespaces) (λ name. refl))) (λ name. refl)

creating : (s : State) (namespace lease : Bytes) (until : Option ℕ) → IsNext s (lease_create s namespace lease until).0
creating s namespace lease until = either s (is_key lease) _ _ (in_place s namespace _ (λ place. either s (has_lease s.leases namespace lease) _ _ (λ name. refl) (λ name. refl))) (λ name. refl)

adding_record : (s : State) (namespace lease name : Bytes) (r : Record) → IsNext s (lease_add_record s namespace lease name r).0
adding_record s namespace lease name r = either s (is_committed r.content) _ _ (either s (has_lease s.leases namespace lease) _ _ (λ name. refl) (λ name. refl)) (λ name. refl)

adding : (s : State) (namespace lease name : Bytes) → IsNext s (lease_add s namespace lease name).0
adding s namespace lease name = either s (is_key lease && is_key name) _ _ (on_record s namespace name _ (λ place. adding_record s namespace lease name)) (λ name. refl)

dropping_at : (s : State) (namespace lease name : Bytes) → IsNext s (lease_drop_at s namespace lease name).0
dropping_at s namespace lease name = either s (has_lease s.leases namespace lease) _ _ (either s (lease_names s.leases namespace lease name) _ _ (λ name. refl) (λ name. refl)) (λ name. refl)

dropping : (s : State) (namespace lease name : Bytes) → IsNext s (lease_drop s namespace lease name).0
dropping s namespace lease name = either s (is_key lease && is_key name) _ _ (in_place s namespace _ (λ place. dropping_at s namespace lease name)) (λ name. refl)

releasing : (s : State) (namespace lease : Bytes) → IsNext s (lease_release s namespace lease).0
releasing s namespace lease = either s (is_key lease) _ _ (in_place s namespace _ (λ place. either s (has_lease s.leases namespace lease) _ _ (λ name. refl) (λ name. refl))) (λ name. refl)

-- a session is counted where one is left
abbrev opened : State → Bool → State × Reply
opened s b = if b then (record s { sessions = s.sessions + 1; entries = s.entries + 1 }, Opened) else (s, Refused NumbersSpent)

opening : (s : State) → s.sessions < max_sessions → IsNext s (session s).0
opening s left = at (nat_lt s.sessions max_sessions) refl
  where
    at : (b : Bool) → nat_lt s.sessions max_sessions ≡ b → IsNext s (opened s b).0
    at true is = (λ name. refl)
    at false is = absurd (grind (arith, nat_tests))

-- a call that makes no namespace and takes none away
abbrev pub KeepsSpaces : Call → Type 0
KeepsSpaces (calls.NamespaceCreate namespace limit) = ⊥
KeepsSpaces (calls.NamespaceRemove namespace) = ⊥
KeepsSpaces call = Unit {0}

-- each such call that is allowed leaves them so
pub step-names : (s : State) (call : Call) (given : Given) → KeepsSpaces call → IsAllowed s call given → IsNext s (step s call given).0
step-names s calls.Session given kept left = opening s left
step-names s (calls.Prepare namespace key parent labels) given kept h = preparing s namespace key parent labels
step-names s (calls.Charge slot id need want) given kept h = charging s slot need want (active_at slot s.records)
step-names s (calls.Trim slot id) given kept h = trimming s slot given (active_at slot s.records)
step-names s (calls.Commit slot id name lease labels) given kept h = committing s slot name lease labels given
step-names s (calls.Discard slot id) given kept h = discarding s slot (active_at slot s.records)
step-names s (calls.Stat namespace key) given kept h = asking s (λ r. Info (info_of r)) namespace key
step-names s (calls.Usage namespace key) given kept h = asking s (λ r. UsageReply (usage_of r.content)) namespace key
step-names s (calls.Mounts namespace key) given kept h = asking s (mounts s) namespace key
step-names s (calls.View namespace key parent labels) given kept h = viewing s namespace key parent labels
step-names s (calls.Remove namespace key) given kept h = removing s namespace key
step-names s (calls.Update namespace key labels paths) given kept h = updating s namespace key labels paths
step-names s (calls.Walk namespace after most asked) given kept h = walking s namespace after most asked
step-names s (calls.SetLimit namespace limit) given kept h = limiting s namespace limit
step-names s (calls.NamespaceCreate namespace limit) given kept h = absurd kept
step-names s (calls.NamespaceRemove namespace) given kept h = absurd kept
step-names s (calls.LeaseCreate namespace lease until) given kept h = creating s namespace lease until
step-names s (calls.LeaseAdd namespace lease name) given kept h = adding s namespace lease name
step-names s (calls.LeaseDrop namespace lease name) given kept h = dropping s namespace lease name
step-names s (calls.LeaseRelease namespace lease) given kept h = releasing s namespace lease
step-names s (calls.Sweep namespace moment) given kept h = in_place s namespace (sweep_at s namespace moment) (λ place. (λ name. refl))
