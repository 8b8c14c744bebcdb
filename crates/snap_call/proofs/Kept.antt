-- Each step keeps what is true of the state, and so does the replay of a journal.
use Rattle.std.proofs.Common.{◌≡◌, ℕ, zero, suc, ◌+◌, ◌<◌, ◌≤◌, Bool, true, false, true≢false, List, [], ◌∷◌, length, Option, Some, None, refl, ap, arith}
use Rattle.std.specs.List.{AllByRecursion, IsDistinct, list_all}
use Rattle.std.specs.List.Sorted.{IsStrictlySortedBy}
use Rattle.std.specs.Option.{option_map_or, is_some}
use Rattle.std.specs.Prelude.{if◌then◌else◌, ◌&&◌, ◌||◌, count_by, nat_lt, nat_le, Result, Ok, Err}
use Rattle.std.proofs.lemmas.Bool.{and_parts, leb-true, ltb-true}
use Rattle.std.proofs.lemmas.Bool.Decides.{nat_tests}
use Rattle.snap_path.specs.Limits.{most_number}
use Rattle.snap_layer.specs.Tree.{Tree}
use Rattle.snap_usage.specs.declared.usage.Usage.{Usage}
use Rattle.snap_usage.specs.Counted.{count_of, covers}
use Rattle.snap_lease.specs.Leases.{AreDistinct, is_guarded, has_lease, has_leases, lease_names}
use Rattle.snap_record.specs.Labels.{Bytes, Label, are_labels}
use Rattle.snap_record.specs.Records.{usage_of}
use Rattle.snap_record.specs.Updates.{is_granted, is_well_formed, updated as labels_after}
use Rattle.snap_record.specs.declared.filter.Filter.{Filter}
use Rattle.snap_record.specs.declared.record.Record.{Record}
use Rattle.snap_mount.specs.Mounts.{is_root_text}
use Rattle.snap_call.specs.declared.call.Call.{Call}
use Rattle.snap_call.specs.declared.call.Call.TheVariants as calls
use Rattle.snap_call.specs.declared.call.Given.{Given}
use Rattle.snap_call.specs.declared.call.Given.TheVariants.{Nothing, Count, Layer}
use Rattle.snap_call.specs.declared.config.Config.{Config}
use Rattle.snap_call.specs.declared.config.Namespace.{Namespace}
use Rattle.snap_call.specs.declared.entry.Entry.{Entry}
use Rattle.snap_call.specs.declared.refusal.Refusal.{Refusal}
use Rattle.snap_call.specs.declared.refusal.Refusal.TheVariants.{NoNamespace, NotFound}
use Rattle.snap_call.specs.declared.reply.Reply.{Reply}
use Rattle.snap_call.specs.declared.state.State.{State}
use Rattle.snap_call.specs.Forms.{is_limit, is_layer_limit, is_ancestor_limit, is_namespace, is_slots, is_space, are_spaces_by, have_distinct_names, is_saved_config, is_key, is_page, is_parent, is_start}
use Rattle.snap_call.specs.Records.{charge_of, has_key, has_children, has_records, is_active, is_committed, record_at, active_at, max_slots, max_journal, max_sessions}
use Rattle.snap_call.specs.State.{opening, is_taken, most_namespaces, place_of, limit_at}
use Rattle.snap_call.specs.Good.{Good, IsFormed}
use Rattle.snap_call.specs.Step.{are_formed, refused, prepared, prepare, greater, fits_limit, charge, trim, commit_as, discard, ask, step, IsCovered, IsAllowed, place_for, slot_for, unless_refused, prepare_view, update_record, in_namespace, has_named, at_record}
use Rattle.snap_call.specs.Steps.{session, remove, update, walk_infos, set_limit, namespace_create, namespace_remove, lease_create, lease_add, lease_drop, lease_release}
use Rattle.snap_call.proofs.Opening.{space_limit, space_short}
use Rattle.snap_call.proofs.Parts.{prepare_at, charge_to, view_at, remove_record, set_limit_at, namespace_remove_at, lease_add_record, lease_drop_at, commit}
use Rattle.snap_call.specs.Journal.{Replays}
use Rattle.snap_call.proofs.Formed.{all-listed, labels_formed, texts_parts}
use Rattle.snap_call.proofs.Leasing.{place_of-taken, good_limited, good_created, good_dropped, good_named, good_released}
use Rattle.snap_call.proofs.Lists.{committed-from, record_at-all}
use Rattle.snap_call.proofs.Spacing.{good_namespace, good_removed_namespace}
use Rattle.snap_call.proofs.Sweeping.{good_sweep}
use Rattle.snap_call.proofs.Lowest.{lowest_free-Some}
use Rattle.snap_call.proofs.Replaying.{Replays-over}
use Rattle.snap_call.proofs.Places.{IsPlace, place_for-Ok, place_for-texts, slot_for-Ok}
use Rattle.snap_call.proofs.Keeping.{covers-Covers, good_counters, good_counted, good_prepared, good_viewed, good_recharged, covered, good_discarded, good_removed, good_committed, good_relabelled}
use Rattle.snap_call.proofs.Tested.{commit_by_tests}

-- ---- one call

-- a test chooses one of two outcomes
either : (b : Bool) (x y : State × Reply) → (b ≡ true → Good x.0) → (b ≡ false → Good y.0) → Good (if b then x else y).0
either true x y f g = f refl
either false x y f g = g refl

pub good_session : (s : State) → Good s → Good (session s).0
good_session s good = either (nat_lt s.sessions max_sessions) _ _ (λ e. good_counters s (s.sessions + 1) (s.entries + 1) (omega arith) good) (λ e. good)

good_unless_refused : (s : State) → Good s → (r : Result ℕ Refusal) (next : ℕ → State × Reply) → ((n : ℕ) → r ≡ Ok n → Good (next n).0) → Good (unless_refused s r next).0
good_unless_refused s good (Ok n) next h = h n refl
good_unless_refused s good (Err why) next h = good_counted s good

good_prepare_at : (s : State) (namespace key parent : Bytes) (labels : List Label) (place : ℕ) → Good s → (is_key key && is_parent parent && are_labels labels) ≡ true → IsPlace s namespace key parent place → Good (prepare_at s key parent labels place).0
good_prepare_at s namespace key parent labels place good texts is =
    good_unless_refused s good (slot_for s place) (prepared s place key parent labels) (λ slot e.
    let found = slot_for-Ok s place slot e in
    let free = lowest_free-Some s.slots s.records slot found.lowest in
    good_prepared s place key parent labels slot good (place_of-taken namespace s.namespaces place is.named) is.free is.base is.deep texts free.0 free.1 (covers-Covers _ _ found.room))

pub good_prepare : (s : State) (namespace key parent : Bytes) (labels : List Label) → Good s → Good (prepare s namespace key parent labels).0
good_prepare s namespace key parent labels good =
    good_unless_refused s good (place_for s namespace key parent labels) (prepare_at s key parent labels)
    (λ place e. good_prepare_at s namespace key parent labels place good (place_for-texts s namespace key parent labels place e) (place_for-Ok s namespace key parent labels place e))

good_view_at : (s : State) (namespace key parent : Bytes) (labels : List Label) (place : ℕ) → Good s → (is_key key && is_parent parent && are_labels labels) ≡ true → IsPlace s namespace key parent place → Good (view_at s key parent labels place).0
good_view_at s namespace key parent labels place good texts is =
    either (nat_le s.next_id most_number) _ _
    (λ few. good_viewed s place key parent labels good (place_of-taken namespace s.namespaces place is.named) is.free is.base is.deep texts)
    (λ spent. good_counted s good)

pub good_view : (s : State) (namespace key parent : Bytes) (labels : List Label) → Good s → Good (prepare_view s namespace key parent labels).0
good_view s namespace key parent labels good =
    good_unless_refused s good (place_for s namespace key parent labels) (view_at s key parent labels)
    (λ place e. good_view_at s namespace key parent labels place good (place_for-texts s namespace key parent labels place e) (place_for-Ok s namespace key parent labels place e))

-- the choice was tested
good_charge_to : (s : State) (slot : ℕ) (r : Record) → Good s → active_at slot s.records ≡ Some r → (a b : Bool) (needed wanted : Usage) → fits_limit s r.namespace (usage_of r.content) wanted ≡ a → fits_limit s r.namespace (usage_of r.content) needed ≡ b
    → Good (charge_to s slot r (if a then Some wanted else if b then Some needed else None)).0
good_charge_to s slot r good e true b needed wanted first second = good_recharged slot wanted s r good e (covers-Covers _ _ first)
good_charge_to s slot r good e false true needed wanted first second = good_recharged slot needed s r good e (covers-Covers _ _ second)
good_charge_to s slot r good e false false needed wanted first second = good_counted s good

pub good_charge : (s : State) (slot : ℕ) (need want : Usage) → Good s → (o : Option Record) → active_at slot s.records ≡ o → Good (charge s slot need want o).0
good_charge s slot need want good None e = good_counted s good
good_charge s slot need want good (Some r) e = good_charge_to s slot r good e _ _ (greater (usage_of r.content) need) (greater (greater (usage_of r.content) need) want) refl refl

good_trim_to : (s : State) (slot id : ℕ) (now : Usage) → Good s → (o : Option Record) → active_at slot s.records ≡ o → IsCovered id now o → Good (trim s slot (Count now) o).0
good_trim_to s slot id now good None e h = good_counted s good
good_trim_to s slot id now good (Some r) e h = good_recharged slot now s r good e (covered s slot r now good e h.1)

pub good_trim : (s : State) (slot id : ℕ) → Good s → (given : Given) → IsAllowed s (calls.Trim slot id) given → Good (trim s slot given (active_at slot s.records)).0
good_trim s slot id good (Count now) h = good_trim_to s slot id now good (active_at slot s.records) refl h
good_trim s slot id good Nothing h = good_counted s good
good_trim s slot id good (Layer layer) h = good_counted s good

good_commit_as : (s : State) (slot id : ℕ) (name : Bytes) (lease : Option Bytes) (labels : Option (List Label)) (layer : Tree) → Good s → (o : Option Record) → active_at slot s.records ≡ o → IsCovered id (count_of layer) o → Good (commit_as s slot name lease labels layer o).0
good_commit_as s slot id name lease labels layer good None e h = good_counted s good
good_commit_as s slot id name lease labels layer good (Some r) e h =
    commit_by_tests (λ x. Good x.0) s slot name lease labels layer r (λ why. good_counted s good) (λ formed free named. good_committed s slot name lease labels layer r good e formed free h.1)

pub good_commit : (s : State) (slot id : ℕ) (name : Bytes) (lease : Option Bytes) (labels : Option (List Label)) → Good s → (given : Given) → IsAllowed s (calls.Commit slot id name lease labels) given → Good (commit s slot name lease labels given).0
good_commit s slot id name lease labels good (Layer layer) h = good_commit_as s slot id name lease labels layer good (active_at slot s.records) refl h
good_commit s slot id name lease labels good Nothing h = good_counted s good
good_commit s slot id name lease labels good (Count now) h = good_counted s good

pub good_discard : (s : State) (slot : ℕ) → Good s → (o : Option Record) → active_at slot s.records ≡ o → Good (discard s slot o).0
good_discard s slot good None e = good_counted s good
good_discard s slot good (Some r) e = good_discarded s slot r good e

good_in_namespace : (s : State) (namespace : Bytes) (next : ℕ → State × Reply) → Good s → ((place : ℕ) → place_of namespace s.namespaces ≡ Some place → Good (next place).0) → Good (in_namespace s namespace next).0
good_in_namespace s namespace next good h = by (place_of namespace s.namespaces) refl
  where
    by : (o : Option ℕ) → place_of namespace s.namespaces ≡ o → Good (option_map_or next o (refused s NoNamespace)).0
    by None e = good_counted s good
    by (Some place) e = h place e

good_at_record : (s : State) (namespace key : Bytes) (next : ℕ → Record → State × Reply) → Good s
    → ((place : ℕ) (r : Record) → place_of namespace s.namespaces ≡ Some place → record_at place key s.records ≡ Some r → Good (next place r).0) → Good (at_record s namespace key next).0
good_at_record s namespace key next good h = good_in_namespace s namespace _ good (λ place e. by place e (record_at place key s.records) refl)
  where
    by : (place : ℕ) → place_of namespace s.namespaces ≡ Some place → (o : Option Record) → record_at place key s.records ≡ o → Good (option_map_or (next place) o (refused s NotFound)).0
    by place e None f = good_counted s good
    by place e (Some r) f = h place r e f

pub good_ask : (s : State) (answer : Record → Reply) (namespace key : Bytes) → Good s → Good (ask s answer namespace key).0
good_ask s answer namespace key good = either (is_key key) _ _ (λ e. good_at_record s namespace key _ good (λ place r e f. good_counted s good)) (λ e. good_counted s good)

good_remove_record : (s : State) (namespace key : Bytes) (place : ℕ) → Good s → place_of namespace s.namespaces ≡ Some place → (r : Record) → record_at place key s.records ≡ Some r → Good (remove_record s namespace key place r).0
good_remove_record s namespace key place good spaced r e =
    either (has_children place key s.records) _ _ (λ some. good_counted s good)
    (λ childless. either (is_active r.content) _ _ (λ active. good_counted s good)
    (λ idle. either (is_guarded s.leases namespace key) _ _ (λ leased. good_counted s good)
    (λ unleased. good_removed s place key r good e childless namespace spaced unleased)))

pub good_remove : (s : State) (namespace key : Bytes) → Good s → Good (remove s namespace key).0
good_remove s namespace key good = either (is_key key) _ _ (λ e. good_at_record s namespace key _ good (λ place r spaced f. good_remove_record s namespace key place good spaced r f)) (λ e. good_counted s good)

good_update_record : (s : State) (place : ℕ) (key : Bytes) (given : List Label) (paths : List Bytes) → Good s → (r : Record) → record_at place key s.records ≡ Some r → Good (update_record s key given paths place r).0
good_update_record s place key given paths good r found =
    let own = texts_parts s.entries r (record_at-all (IsFormed s.entries) place key s.records r found good.formed) in
    either (is_granted r.labels given paths) _ _ (λ granted. good_relabelled s place key (labels_after r.labels given paths) good (labels_formed r.labels given paths own.2 granted)) (λ e. good_counted s good)

pub good_update : (s : State) (namespace key : Bytes) (given : List Label) (paths : List Bytes) → Good s → Good (update s namespace key given paths).0
good_update s namespace key given paths good =
    either (is_key key && is_well_formed given paths) _ _ (λ e. good_at_record s namespace key _ good (λ place r spaced f. good_update_record s place key given paths good r f)) (λ e. good_counted s good)

pub good_walk : (s : State) (namespace after : Bytes) (most : ℕ) (asked : Filter) → Good s → Good (walk_infos s namespace after most asked).0
good_walk s namespace after most asked good =
    either (is_start after && is_page most) _ _ (λ e. good_in_namespace s namespace _ good (λ place e. good_counted s good)) (λ e. good_counted s good)

pub good_set_limit : (s : State) (namespace : Bytes) (limit : Usage) → Good s → Good (set_limit s namespace limit).0
good_set_limit s namespace limit good =
    either (is_limit limit) _ _
    (λ formed. good_in_namespace s namespace (set_limit_at s limit) good (λ place e.
    either (covers limit (charge_of place s.records)) _ _ (λ covered. good_limited limit s place good (place_of-taken namespace s.namespaces place e) formed (covers-Covers _ _ covered)) (λ below. good_counted s good)))
    (λ bad. good_counted s good)

pub good_namespace_create : (s : State) (namespace : Bytes) (limit : Usage) → Good s → Good (namespace_create s namespace limit).0
good_namespace_create s namespace limit good =
    let n : Namespace = record { name = namespace; limit = limit } in
    either (is_namespace n) _ _
    (λ formed. either (is_some (place_of namespace s.namespaces)) _ _ (λ there. good_counted s good)
    (λ new. either (nat_lt (count_by is_taken s.namespaces) most_namespaces) _ _ (λ room. good_namespace s n good formed (no_place (place_of namespace s.namespaces) new) (ltb-true (count_by is_taken s.namespaces) most_namespaces room)) (λ full. good_counted s good)))
    (λ bad. good_counted s good)
  where
    no_place : (o : Option ℕ) → is_some o ≡ false → o ≡ None
    no_place None e = refl
    no_place (Some place) e = absurd (true≢false e)

pub good_namespace_remove : (s : State) (namespace : Bytes) → Good s → Good (namespace_remove s namespace).0
good_namespace_remove s namespace good =
    good_in_namespace s namespace (namespace_remove_at s namespace) good (λ place e.
    either (has_records place s.records || has_leases s.leases namespace) _ _ (λ full. good_counted s good) (λ empty. good_removed_namespace s namespace place good e empty))

pub good_lease_create : (s : State) (namespace lease : Bytes) (until : Option ℕ) → Good s → Good (lease_create s namespace lease until).0
good_lease_create s namespace lease until good =
    either (is_key lease) _ _
    (λ formed. good_in_namespace s namespace _ good (λ place e.
    either (has_lease s.leases namespace lease) _ _ (λ there. good_counted s good) (λ new. good_created s namespace lease until place good e formed new)))
    (λ bad. good_counted s good)

good_lease_add_record : (s : State) (namespace lease name : Bytes) (place : ℕ) → Good s → place_of namespace s.namespaces ≡ Some place → (r : Record) → record_at place name s.records ≡ Some r → Good (lease_add_record s namespace lease name r).0
good_lease_add_record s namespace lease name place good e r f =
    either (is_committed r.content) _ _
    (λ is. either (has_lease s.leases namespace lease) _ _
    (λ there. good_named s namespace lease name place good e (ap is_some (committed-from (record_at place name s.records) r f is)))
    (λ none. good_counted s good))
    (λ other. good_counted s good)

pub good_lease_add : (s : State) (namespace lease name : Bytes) → Good s → Good (lease_add s namespace lease name).0
good_lease_add s namespace lease name good =
    either (is_key lease && is_key name) _ _
    (λ formed. good_at_record s namespace name _ good (λ place r e f. good_lease_add_record s namespace lease name place good e r f))
    (λ bad. good_counted s good)

good_lease_drop_at : (s : State) (namespace lease name : Bytes) → Good s → Good (lease_drop_at s namespace lease name).0
good_lease_drop_at s namespace lease name good =
    either (has_lease s.leases namespace lease) _ _
    (λ there. either (lease_names s.leases namespace lease name) _ _ (λ named. good_dropped s namespace lease name good) (λ other. good_counted s good))
    (λ none. good_counted s good)

pub good_lease_drop : (s : State) (namespace lease name : Bytes) → Good s → Good (lease_drop s namespace lease name).0
good_lease_drop s namespace lease name good =
    either (is_key lease && is_key name) _ _
    (λ formed. good_in_namespace s namespace _ good (λ place e. good_lease_drop_at s namespace lease name good))
    (λ bad. good_counted s good)

pub good_lease_release : (s : State) (namespace lease : Bytes) → Good s → Good (lease_release s namespace lease).0
good_lease_release s namespace lease good =
    either (is_key lease) _ _
    (λ formed. good_in_namespace s namespace _ good (λ place e. either (has_lease s.leases namespace lease) _ _ (λ there. good_released s namespace lease good) (λ none. good_counted s good)))
    (λ bad. good_counted s good)

-- each call keeps what is true of the state
pub good_step : (s : State) (call : Call) (given : Given) → Good s → IsAllowed s call given → Good (step s call given).0
good_step s calls.Session given good h = good_session s good
good_step s (calls.Prepare namespace key parent labels) given good h = good_prepare s namespace key parent labels good
good_step s (calls.Charge slot id need want) given good h = good_charge s slot need want good (active_at slot s.records) refl
good_step s (calls.Trim slot id) given good h = good_trim s slot id good given h
good_step s (calls.Commit slot id name lease labels) given good h = good_commit s slot id name lease labels good given h
good_step s (calls.Discard slot id) given good h = good_discard s slot good (active_at slot s.records) refl
good_step s (calls.Stat namespace key) given good h = good_ask s _ namespace key good
good_step s (calls.Usage namespace key) given good h = good_ask s _ namespace key good
good_step s (calls.Mounts namespace key) given good h = good_ask s _ namespace key good
good_step s (calls.View namespace key parent labels) given good h = good_view s namespace key parent labels good
good_step s (calls.Remove namespace key) given good h = good_remove s namespace key good
good_step s (calls.Update namespace key labels paths) given good h = good_update s namespace key labels paths good
good_step s (calls.Walk namespace after most asked) given good h = good_walk s namespace after most asked good
good_step s (calls.SetLimit namespace limit) given good h = good_set_limit s namespace limit good
good_step s (calls.NamespaceCreate namespace limit) given good h = good_namespace_create s namespace limit good
good_step s (calls.NamespaceRemove namespace) given good h = good_namespace_remove s namespace good
good_step s (calls.LeaseCreate namespace lease until) given good h = good_lease_create s namespace lease until good
good_step s (calls.LeaseAdd namespace lease name) given good h = good_lease_add s namespace lease name good
good_step s (calls.LeaseDrop namespace lease name) given good h = good_lease_drop s namespace lease name good
good_step s (calls.LeaseRelease namespace lease) given good h = good_lease_release s namespace lease good
good_step s (calls.Sweep namespace moment) given good h = good_sweep s namespace moment good

-- ---- a store that is opened

limits_from : (ns : List Namespace) (place : ℕ) → list_all is_space ns ≡ true → place < length ns → is_limit (limit_at place ns) ≡ true
limits_from [] place all low = absurd (omega arith)
limits_from (n ∷ ns) zero all low = let h = and_parts (is_space n) (list_all is_space ns) all in space_limit n h.0
limits_from (n ∷ ns) (suc place) all low = let h = and_parts (is_space n) (list_all is_space ns) all in limits_from ns place h.1 (omega arith)

short_from : (ns : List Namespace) → list_all is_space ns ≡ true → AllByRecursion (λ n. length n.name ≤ 255) ns
short_from [] all = tt
short_from (n ∷ ns) all = let h = and_parts (is_space n) (list_all is_space ns) all in (space_short n h.0, short_from ns h.1)

-- each part of a configuration is well-formed
seven : (a b d f g h k : Bool) → (a && (b && (d && (f && (g && (h && (k && true))))))) ≡ true → (a ≡ true) × (b ≡ true) × (d ≡ true) × (g ≡ true) × (h ≡ true) × (k ≡ true)
seven a b d f g h k e =
    let p = and_parts a (b && (d && (f && (g && (h && (k && true)))))) e in
    let q = and_parts b (d && (f && (g && (h && (k && true))))) p.1 in
    let r = and_parts d (f && (g && (h && (k && true)))) q.1 in
    let s = and_parts f (g && (h && (k && true))) r.1 in
    let t = and_parts g (h && (k && true)) s.1 in
    let u = and_parts h (k && true) t.1 in
    (p.0, q.0, r.0, t.0, u.0, (and_parts k true u.1).0)

parts_formed : (c : Config) → is_saved_config c ≡ true
    → (is_root_text c.root ≡ true) × (are_spaces_by is_space c.namespaces ≡ true) × (is_slots c.slots ≡ true) × (nat_le 1 c.first_id ≡ true) × (is_layer_limit c.layer_inodes ≡ true) × (is_ancestor_limit c.ancestors ≡ true)
parts_formed c e = seven (is_root_text c.root) (are_spaces_by is_space c.namespaces) (is_slots c.slots) (nat_le c.journal max_journal) (nat_le 1 c.first_id) (is_layer_limit c.layer_inodes) (is_ancestor_limit c.ancestors) e

root_formed : (c : Config) → is_saved_config c ≡ true → is_root_text c.root ≡ true
root_formed c e = (parts_formed c e).0

-- the namespaces are well-formed, their names are distinct, and there are few enough
namespaces_formed : (c : Config) → is_saved_config c ≡ true → (list_all is_space c.namespaces ≡ true) × (have_distinct_names c.namespaces ≡ true) × (length c.namespaces ≤ most_namespaces)
namespaces_formed c e =
    let each = list_all is_space c.namespaces in
    let few = nat_le (length c.namespaces) most_namespaces in
    let formed = and_parts (each && few) (have_distinct_names c.namespaces) (parts_formed c e).1 in
    let both = and_parts each few formed.0 in
    (both.0, formed.1, leb-true (length c.namespaces) most_namespaces both.1)

slots_given : (c : Config) → is_saved_config c ≡ true → (1 ≤ c.slots) × (c.slots ≤ max_slots)
slots_given c e =
    let parts = and_parts (nat_le 1 c.slots) (nat_le c.slots max_slots) (parts_formed c e).2 in
    let some : nat_le 1 c.slots ≡ true = parts.0 in
    let few : nat_le c.slots max_slots ≡ true = parts.1 in
    (grind (arith, nat_tests), grind (arith, nat_tests))

first_given : (c : Config) → is_saved_config c ≡ true → 0 < c.first_id
first_given c e = let first : nat_le 1 c.first_id ≡ true = (parts_formed c e).3 in grind (arith, nat_tests)

no_leases : AreDistinct []
unfolding IsDistinct
no_leases = tt

pub good_opening : (c : Config) → is_saved_config c ≡ true → Good (opening c)
unfolding IsStrictlySortedBy
good_opening c e = record {
  root = root_formed c e;
  promised = record {
    parents = tt;
    leased = tt;
    counted = tt;
    within = λ place low. record { blocks = omega arith; inodes = omega arith };
    chains = tt;
  };
  named_once = tt;
  lease_names = tt;
  lease_keys = no_leases;
  limits = λ place low. limits_from c.namespaces place (namespaces_formed c e).0 low;
  short = short_from c.namespaces (namespaces_formed c e).0;
  distinct = (namespaces_formed c e).1;
  spaces = all-listed is_space c.namespaces (namespaces_formed c e).0;
  few_spaces = (namespaces_formed c e).2;
  placed = tt;
  sorted = tt;
  ids = tt;
  numbered = tt;
  rising = tt;
  fewer = first_given c e;
  formed = tt;
  few_slots = slots_given c e;
  slots = tt;
  open_slots = tt;
  shown = tt;
  layers = (parts_formed c e).4;
  most = (parts_formed c e).5;
}

-- ---- a journal

-- the calls of a journal, one after the other
pub good_replays : (s : State) (j : List Entry) (t : State) → Good s → Replays s j t → Good t
good_replays s j t good h = Replays-over (λ s j t. Good s → Good t) (λ s good. good) (λ s e es t allowed rest good. rest (good_step s e.call e.given good allowed)) s j t h good
