-- Each step keeps the hands those of the open slots.
use Rattle.std.proofs.Common.{◌≡◌, ◌≢◌, inl, inr, ℕ, ◌+◌, ◌≤◌, ◌<◌, List, length, true, false, Bool, Option, None, Some, eqb, refl, sym, ap, ◌∙◌, subst, ⊎_elim, arith, length-set}
use Rattle.std.specs.Prelude.{if◌then◌else◌, ◌&&◌, ◌||◌, nat_le, nat_lt, max, count_by, Result, Ok, Err, IsSome}
use Rattle.std.specs.List.{AllByRecursion}
use Rattle.std.proofs.Math.Nat.{le-max_left}
use Rattle.std.proofs.lemmas.Bool.{ltb-true}
use Rattle.std.proofs.lemmas.Bool.Decides.{eqb_tells}
use Rattle.snap_layer.specs.Tree.{Tree}
use Rattle.snap_usage.specs.declared.usage.Usage.{Usage}
use Rattle.snap_usage.specs.Counted.{Covers, count_of, covers}
use Rattle.snap_lease.specs.Leases.{has_lease, has_leases, lease_names}
use Rattle.snap_record.specs.Labels.{Bytes, Label}
use Rattle.snap_record.specs.Records.{usage_of, info_of}
use Rattle.snap_record.specs.Updates.{is_granted, is_well_formed, updated as labels_after}
use Rattle.snap_record.specs.declared.filter.Filter.{Filter}
use Rattle.snap_record.specs.declared.record.Record.{Record}
use Rattle.snap_record.specs.declared.record.Content.TheVariants.{Active, View}
use Rattle.snap_call.specs.declared.call.Call.{Call}
use Rattle.snap_call.specs.declared.call.Call.TheVariants as calls
use Rattle.snap_call.specs.declared.call.Given.{Given}
use Rattle.snap_call.specs.declared.call.Given.TheVariants.{Nothing, Count, Layer}
use Rattle.snap_call.specs.declared.refusal.Refusal.TheVariants.{NoNamespace, NotFound}
use Rattle.snap_call.specs.declared.refusal.Refusal.{Refusal}
use Rattle.snap_call.specs.declared.reply.Reply.{Reply}
use Rattle.snap_call.specs.declared.reply.Reply.TheVariants as replies
use Rattle.snap_call.specs.declared.config.Namespace.{Namespace}
use Rattle.snap_call.specs.declared.state.State.{State}
use Rattle.snap_call.specs.Good.{Good}
use Rattle.snap_call.specs.Journal.{call_entry}
use Rattle.snap_call.specs.Records.{active_at, charge_of, has_children, has_key, has_records, is_active, is_committed, is_named, is_slot, recharged, record_at, relabelled, with_record, without_key, without_slot, committed_as, max_sessions}
use Rattle.snap_call.specs.Forms.{is_key, is_limit, is_namespace, is_page, is_start}
use Rattle.snap_call.specs.State.{ancestors, is_taken, layers_of, most_ancestors, most_namespaces, place_of, shown_layers}
use Rattle.snap_call.specs.Step.{are_formed, IsAllowed, IsCovered, IsOpenSlot, has_named, in_namespace, sweep, sweep_at, ask, charge, commit_as, committed as committed_state, discard, greater, one, prepared as prepared_state, refused, step, trim, place_for, slot_for, unless_refused, mounts, prepare_view, update_record, new_record, at_record}
use Rattle.snap_call.specs.Steps.{lease_add, lease_create, lease_drop, lease_release, namespace_create, namespace_remove, set_limit, session, remove, update, walk_infos}
use Rattle.snap_call.proofs.Parts.{namespace_remove_at, lease_add_record, lease_drop_at, charge_to, prepare_at, view_at, remove_record, unswept}
use Rattle.snap_call.proofs.Alike.{AreAlike, bare, bare-relabelled, alike-active_at, alike-active_at_None, alike-layers}
use Rattle.snap_call.proofs.Chains.{chain, Every, OnParent, every, on_parent, IsOther, Keeps, Keeps-after, Keeps-recharged, Keeps-with_record, Keeps-without_slot, chain-found, keeps-ancestors, keeps-without_key, on_other}
use Rattle.snap_call.proofs.Keeping.{covers-Covers, good_chains, good_deep}
use Rattle.snap_call.proofs.Kept.{good_step}
use Rattle.snap_call.proofs.Lists.{active_at-all}
use Rattle.snap_call.proofs.InOrder.{has_key-without}
use Rattle.snap_call.proofs.AsMany.{step-slots}
use Rattle.snap_call.proofs.Lowest.{lowest_free-Some}
use Rattle.snap_call.proofs.Places.{IsPlace, IsSlotFor, place_for-Ok, slot_for-Ok}
use Rattle.snap_call.proofs.Replaying.{replays_push}
use Rattle.snap_call.proofs.Sweeping.{active-ancestors, active_at-unswept}
use Rattle.snap_call.proofs.Slots.{Active-is_slot, is_slot-other, active_at-with_record_own, active_at-with_record_other, active_at-without_slot_own, active_at-without_slot_other, active_at-without_idle, active_at-recharged_own, active_at-recharged_other, active_at-committed_own, active_at-committed_other}
use Rattle.std.specs.Option.{is_some, option_map, option_map_or}
use Rattle.snap_path.specs.Limits.{most_number}
use Rattle.snap_merge.specs.declared.error.FsError.TheVariants.{NeedsCharge}
use Rattle.snap_upper.specs.declared.op.Op.{Op}
use Rattle.snap_upper.specs.After.{Outcome, after, within_share}
use Rattle.snap_book.specs.Files.{worked}
use Rattle.snap_book.specs.Active.{ActiveValue}
use Rattle.snap_world.specs.declared.step.Answer.{Answer}
use Rattle.snap_world.specs.declared.step.Step.{Step}
use Rattle.snap_world.specs.declared.step.Step.TheVariants as steps
use Rattle.snap_world.specs.World.{AgreesAt, Fits, HandValue, IsHandOf, WorldValue, hand_at, with_hand}
use Rattle.snap_world.specs.Move.{admitted, called, charged_hand, committed_hand, with_outcome, new_hand, is_under, is_unsealed, is_working, is_its_session, move, on_hand, with_prepared, recorded, sealed_hand}
use Rattle.snap_world.specs.Runs.{IsLeft, Moves, with_sealed}
use Rattle.snap_world.proofs.Hold.{holds, under-id}
use Rattle.snap_world.proofs.Steps.{on_found}
use Rattle.snap_world.proofs.Places.{hand_at-low, hand_at-other, hand_at-own, with_hand-again}

pub cases_if : {X : Type 0} (P : X → Type 0) (b : Bool) (x y : X) → (b ≡ true → P x) → (b ≡ false → P y) → P (if b then x else y)
cases_if P true x y f g = f refl
cases_if P false x y f g = g refl

-- the hands are those of the open slots of these records
abbrev pub AgreeAll : List (Option HandValue) → List Record → Type 0
AgreeAll hands rs = (slot : ℕ) → AgreesAt slot rs (hand_at slot hands) (active_at slot rs)

-- each record has its ancestors
abbrev pub AreChained : List Record → Type 0
AreChained rs = AllByRecursion (λ r. IsSome (chain most_ancestors rs r)) rs

-- ---- records that keep the committed ones

-- those that are active have the same ancestors
abbrev pub AreSame : List Record → List Record → Type 0
AreSame rs ts = (k : ℕ) (r : Record) → active_at k rs ≡ Some r → layers_of (ancestors r.namespace r.parent ts) ≡ layers_of (ancestors r.namespace r.parent rs)

same_here : (rs : List Record) → AreSame rs rs
same_here rs k r e = refl

-- where all committed records are kept
pub same_where : (rs ts : List Record) → AreChained rs → Keeps rs ts → AreSame rs ts
same_where rs ts chained keeps k r e =
    ap layers_of (keeps-ancestors Every rs ts (every rs ts keeps) r.namespace r.parent (on_parent Every r.namespace r.parent tt) (active_at-all (λ t. IsSome (chain most_ancestors rs t)) k rs r e chained))

-- where a key goes that no record is on
same_without : (rs : List Record) (place : ℕ) (key : Bytes) → AreChained rs → has_children place key rs ≡ false → AreSame rs (without_key place key rs)
same_without rs place key chained childless k r e =
    ap layers_of
    (keeps-ancestors (IsOther place key) rs (without_key place key rs) (keeps-without_key place key rs childless) r.namespace r.parent
    (active_at-all (λ t. OnParent (IsOther place key) t.namespace t.parent) k rs r e (on_other place key rs childless))
    (active_at-all (λ t. IsSome (chain most_ancestors rs t)) k rs r e chained))

module _ (rs ts : List Record) (same_lowers : AreSame rs ts) where
  -- and its hand is still the record's
  still_hand : (k : ℕ) (o : Option HandValue) → AgreesAt k rs o (active_at k rs) → AgreesAt k ts o (active_at k rs)
  still_hand k o agrees = at o (active_at k rs) refl agrees
    where
      at : (o : Option HandValue) (found : Option Record) → active_at k rs ≡ found → AgreesAt k rs o found → AgreesAt k ts o found
      at None None e is = tt
      at None (Some r) e is = is
      at (Some h) None e is = is
      at (Some h) (Some r) e is = record { namespace = is.namespace; key = is.key; lowers = is.lowers ∙ sym (same_lowers k r e); slot = is.slot; id = is.id; usage = is.usage; covers = is.covers }

  -- one slot changes
  pub agree_set : (slot : ℕ) (o : Option HandValue) (hands : List (Option HandValue)) → AgreeAll hands rs → slot < length hands → AgreesAt slot ts o (active_at slot ts)
      → ((k : ℕ) → k ≢ slot → active_at k ts ≡ active_at k rs) → AgreeAll (with_hand slot o hands) ts
  agree_set slot o hands agree low here others k =
      ⊎_elim
      (λ (e : (eqb k slot ≡ true) × (k ≡ slot)). let P : ℕ → Type 0 = λ j. AgreesAt j ts (hand_at j (with_hand slot o hands)) (active_at j ts) in
      subst P (sym e.1) (subst (λ (x : Option HandValue). AgreesAt slot ts x (active_at slot ts)) (sym (hand_at-own slot o hands low)) here))
      (λ (e : (eqb k slot ≡ false) × (k ≢ slot)). subst (λ (x : Option HandValue). AgreesAt k ts x (active_at k ts)) (sym (hand_at-other k slot o hands e.1))
      (subst (λ (x : Option Record). AgreesAt k ts (hand_at k hands) x) (sym (others k e.1)) (still_hand k (hand_at k hands) (agree k))))
      (eqb_tells k slot)

  -- a hand that goes with its record
  goes : (slot : ℕ) (hands : List (Option HandValue)) → AgreeAll hands rs → slot < length hands → active_at slot ts ≡ None → ((k : ℕ) → k ≢ slot → active_at k ts ≡ active_at k rs) → AgreeAll (with_hand slot None hands) ts
  goes slot hands agree low none others = agree_set slot None hands agree low (subst (λ (x : Option Record). AgreesAt slot ts None x) (sym none) tt) others

  -- no slot changes
  pub agree_on : (hands : List (Option HandValue)) → AgreeAll hands rs → ((k : ℕ) → active_at k ts ≡ active_at k rs) → AgreeAll hands ts
  agree_on hands agree same k = subst (λ (x : Option Record). AgreesAt k ts (hand_at k hands) x) (sym (same k)) (still_hand k (hand_at k hands) (agree k))

-- ---- records with other labels

module _ (rs ts : List Record) (alike : AreAlike rs ts) where
  -- a record's hand is still its hand
  alike_hand : (k : ℕ) (h : HandValue) (r t : Record) → bare t ≡ bare r → IsHandOf k rs h r → IsHandOf k ts h t
  alike_hand k h r t same is =
      let lowers : layers_of (ancestors t.namespace t.parent ts) ≡ layers_of (ancestors r.namespace r.parent rs) =
      alike-layers rs ts alike t.namespace t.parent ∙ ap (λ (x : Record). layers_of (ancestors x.namespace x.parent rs)) same in
      record {
        namespace = is.namespace ∙ sym (ap (λ (x : Record). x.namespace) same);
        key = is.key ∙ sym (ap (λ (x : Record). x.key) same);
        lowers = is.lowers ∙ sym lowers;
        slot = is.slot;
        id = is.id ∙ sym (ap (λ (x : Record). x.id) same);
        usage = is.usage ∙ sym (ap (λ (x : Record). usage_of x.content) same);
        covers = is.covers;
      }

  alike_at : (k : ℕ) (o : Option HandValue) (found : Option Record) → active_at k rs ≡ found → AgreesAt k rs o found → AgreesAt k ts o (active_at k ts)
  alike_at k None None e is = subst (λ (x : Option Record). AgreesAt k ts None x) (sym (alike-active_at_None rs ts alike k e)) tt
  alike_at k (Some h) None e is = absurd is
  alike_at k None (Some r) e is = absurd is
  alike_at k (Some h) (Some r) e is =
      let found = alike-active_at rs ts alike k r e in
      subst (λ (x : Option Record). AgreesAt k ts (Some h) x) (sym found.1) (alike_hand k h r found.0 found.2 is)

  agree_alike : (hands : List (Option HandValue)) → AgreeAll hands rs → AgreeAll hands ts
  agree_alike hands agree k = alike_at k (hand_at k hands) (active_at k rs) refl (agree k)

-- the snapshot, charged `to`
abbrev charged_so : ActiveValue → Usage → ActiveValue
charged_so a to = record { namespace = a.namespace; key = a.key; lowers = a.lowers; layer = a.layer; share = record { slot = a.share.slot; id = a.share.id; usage = to } }

recharges : (slot : ℕ) (to : Usage) (hands : List (Option HandValue)) (rs : List Record) (h : HandValue) (r : Record) → AreChained rs → AgreeAll hands rs → slot < length hands → active_at slot rs ≡ Some r → IsHandOf slot rs h r
    → Covers to (count_of h.snapshot.layer) → AgreeAll (with_hand slot (Some (record { snapshot = charged_so h.snapshot to; sealed = h.sealed })) hands) (recharged slot to rs)
recharges slot to hands rs h r chained agree low at is more =
    let ts : List Record = recharged slot to rs in
    let keeps : Keeps rs ts = Keeps-recharged slot to rs in
    agree_set rs ts (same_where rs ts chained keeps) slot _ hands agree low
    (subst (λ (x : Option Record). AgreesAt slot ts (Some (record { snapshot = charged_so h.snapshot to; sealed = h.sealed })) x)
    (sym (active_at-recharged_own slot to rs r at))
    (record { namespace = is.namespace; key = is.key; lowers = is.lowers ∙ sym (same_where rs ts chained keeps slot r at); slot = is.slot; id = is.id; usage = refl; covers = more }))
    (λ k ne. active_at-recharged_other slot k to rs ne)

-- a hand that stays
stays : (slot : ℕ) (h : HandValue) (hands : List (Option HandValue)) (rs : List Record) → AgreeAll hands rs → hand_at slot hands ≡ Some h → AgreeAll (with_hand slot (Some h) hands) rs
stays slot h hands rs agree at = subst (λ (l : List (Option HandValue)). AgreeAll l rs) (sym (with_hand-again slot (Some h) hands at)) agree

seals : (slot : ℕ) (hands : List (Option HandValue)) (rs : List Record) (h : HandValue) (r : Record) → AreChained rs → AgreeAll hands rs → slot < length hands → active_at slot rs ≡ Some r → IsHandOf slot rs h r
    → AgreeAll (with_hand slot (Some (sealed_hand h.snapshot)) hands) rs
seals slot hands rs h r chained agree low at is =
    agree_set rs rs (same_here rs) slot (Some (sealed_hand h.snapshot)) hands agree low
    (subst (λ (x : Option Record). AgreesAt slot rs (Some (sealed_hand h.snapshot)) x) (sym at)
    (record { namespace = is.namespace; key = is.key; lowers = is.lowers; slot = is.slot; id = is.id; usage = is.usage; covers = is.covers }))
    (λ k ne. refl)

-- ---- calls on a hand

-- the amount after a charge covers what was held
pub more_of : (a b c : Usage) → Covers a c → Covers (greater a b) c
more_of a b c less = record { blocks = most a.blocks b.blocks c.blocks less.blocks; inodes = most a.inodes b.inodes c.inodes less.inodes }
  where
    most : (x y z : ℕ) → z ≤ x → z ≤ max x y
    most x y z lt = let p = le-max_left x y in omega (arith, lt, p)

-- what the hands are after the state and the reply of a step
abbrev Left : (Reply → List (Option HandValue)) → State × Reply → Type 0
Left f p = AgreeAll (f p.1) p.0.records

left_charge_to : (s : State) (slot : ℕ) (hands : List (Option HandValue)) (h : HandValue) (r : Record) → Good s → AgreeAll hands s.records → slot < length hands → hand_at slot hands ≡ Some h → active_at slot s.records ≡ Some r → IsHandOf slot s.records h r
    → (a b : Bool) (needed wanted : Usage) → Covers needed (count_of h.snapshot.layer) → Covers wanted (count_of h.snapshot.layer) → Left (λ reply. with_hand slot (charged_hand h reply) hands) (charge_to s slot r (if a then Some wanted else if b then Some needed else None))
left_charge_to s slot hands h r good agree low at stands is true b needed wanted n w = recharges slot wanted hands s.records h r (good_chains s good) agree low stands is w
left_charge_to s slot hands h r good agree low at stands is false true needed wanted n w = recharges slot needed hands s.records h r (good_chains s good) agree low stands is n
left_charge_to s slot hands h r good agree low at stands is false false needed wanted n w = stays slot h hands s.records agree at

left_charge : (s : State) (slot : ℕ) (need want : Usage) (hands : List (Option HandValue)) (h : HandValue) (r : Record) → Good s → AgreeAll hands s.records → slot < length hands → hand_at slot hands ≡ Some h → active_at slot s.records ≡ Some r → IsHandOf slot s.records h r
    → Left (λ reply. with_hand slot (charged_hand h reply) hands) (charge s slot need want (active_at slot s.records))
left_charge s slot need want hands h r good agree low at stands is =
    let held : Covers (usage_of r.content) (count_of h.snapshot.layer) = subst (λ (u : Usage). Covers u (count_of h.snapshot.layer)) is.usage is.covers in
    let needed : Usage = greater (usage_of r.content) need in
    let n : Covers needed (count_of h.snapshot.layer) = more_of (usage_of r.content) need (count_of h.snapshot.layer) held in
    subst (λ (o : Option Record). Left (λ reply. with_hand slot (charged_hand h reply) hands) (charge s slot need want o)) (sym stands)
    (left_charge_to s slot hands h r good agree low at stands is _ _ needed (greater needed want) n (more_of needed want (count_of h.snapshot.layer) n))

left_trim : (s : State) (slot : ℕ) (hands : List (Option HandValue)) (h : HandValue) (r : Record) → Good s → AgreeAll hands s.records → slot < length hands → active_at slot s.records ≡ Some r → IsHandOf slot s.records h r
    → Left (λ reply. with_hand slot (charged_hand h reply) hands) (trim s slot (Count (count_of h.snapshot.layer)) (active_at slot s.records))
left_trim s slot hands h r good agree low stands is =
    subst (λ (o : Option Record). Left (λ reply. with_hand slot (charged_hand h reply) hands) (trim s slot (Count (count_of h.snapshot.layer)) o)) (sym stands)
    (recharges slot (count_of h.snapshot.layer) hands s.records h r (good_chains s good) agree low stands is (record { blocks = omega arith; inodes = omega arith }))

left_under : (s : State) (slot : ℕ) (name : Bytes) (lease : Option Bytes) (labels : Option (List Label)) (hands : List (Option HandValue)) (h : HandValue) (r : Record) → Good s → AgreeAll hands s.records → slot < length hands → active_at slot s.records ≡ Some r → IsHandOf slot s.records h r → has_key r.namespace name s.records ≡ false
    → Left (λ reply. with_hand slot (committed_hand h.snapshot reply) hands) (committed_state s slot name lease labels h.snapshot.layer r)
left_under s slot name lease labels hands h r good agree low stands is new =
    let c : Record = committed_as name labels h.snapshot.layer (s.entries + 1) r in
    let us : List Record = without_slot slot s.records in
    goes s.records (with_record c us) (same_where s.records (with_record c us) (good_chains s good) (Keeps-after s.records us (with_record c us) (Keeps-without_slot slot s.records) (Keeps-with_record c us (has_key-without (is_slot slot) r.namespace name s.records new)))) slot hands agree low
    (active_at-committed_own slot name labels h.snapshot.layer (s.entries + 1) s.records r good.slots) (λ k ne. active_at-committed_other slot k name labels h.snapshot.layer (s.entries + 1) s.records r ne)

left_commit : (s : State) (slot : ℕ) (name : Bytes) (lease : Option Bytes) (labels : Option (List Label)) (hands : List (Option HandValue)) (h : HandValue) (r : Record) → Good s → AgreeAll hands s.records → slot < length hands → active_at slot s.records ≡ Some r → IsHandOf slot s.records h r
    → Left (λ reply. with_hand slot (committed_hand h.snapshot reply) hands) (commit_as s slot name lease labels h.snapshot.layer (active_at slot s.records))
left_commit s slot name lease labels hands h r good agree low stands is =
    let f : Reply → List (Option HandValue) = λ reply. with_hand slot (committed_hand h.snapshot reply) hands in
    let refuses = seals slot hands s.records h r (good_chains s good) agree low stands is in
    subst (λ (o : Option Record). Left f (commit_as s slot name lease labels h.snapshot.layer o)) (sym stands)
    (cases_if (Left f) (are_formed name lease labels) _ _
    (λ formed. cases_if (Left f) (has_key r.namespace name s.records) _ _ (λ taken. refuses)
    (λ new. cases_if (Left f) (has_named s r.namespace lease) _ _ (λ named. left_under s slot name lease labels hands h r good agree low stands is new) (λ unnamed. refuses)))
    (λ bad. refuses))

left_discard : (s : State) (slot : ℕ) (hands : List (Option HandValue)) (r : Record) → Good s → AgreeAll hands s.records → slot < length hands → active_at slot s.records ≡ Some r
    → Left (λ reply. with_hand slot None hands) (discard s slot (active_at slot s.records))
left_discard s slot hands r good agree low stands =
    subst (λ (o : Option Record). Left (λ reply. with_hand slot None hands) (discard s slot o)) (sym stands)
    (goes s.records (without_slot slot s.records) (same_where s.records (without_slot slot s.records) (good_chains s good) (Keeps-without_slot slot s.records)) slot hands agree low (active_at-without_slot_own slot s.records good.slots) (λ k ne. active_at-without_slot_other slot k s.records ne))

-- ---- other calls

-- a call that leaves the records as they are, once its namespace was found
left_in_namespace : (s : State) (hands : List (Option HandValue)) (namespace : Bytes) (next : ℕ → State × Reply) → AgreeAll hands s.records → ((place : ℕ) → Left (λ reply. hands) (next place)) → Left (λ reply. hands) (in_namespace s namespace next)
left_in_namespace s hands namespace next agree here = by (place_of namespace s.namespaces)
  where
    by : (o : Option ℕ) → Left (λ reply. hands) (option_map_or next o (refused s NoNamespace))
    by None = agree
    by (Some place) = here place

-- and once its record was found
left_at_record : (s : State) (hands : List (Option HandValue)) (namespace key : Bytes) (next : ℕ → Record → State × Reply) → AgreeAll hands s.records
    → ((place : ℕ) (r : Record) → record_at place key s.records ≡ Some r → Left (λ reply. hands) (next place r)) → Left (λ reply. hands) (at_record s namespace key next)
left_at_record s hands namespace key next agree here = left_in_namespace s hands namespace _ agree (λ place. by place (record_at place key s.records) refl)
  where
    by : (place : ℕ) (o : Option Record) → record_at place key s.records ≡ o → Left (λ reply. hands) (option_map_or (next place) o (refused s NotFound))
    by place None e = agree
    by place (Some r) e = here place r e

left_ask : (s : State) (hands : List (Option HandValue)) (answer : Record → Reply) (namespace key : Bytes) → AgreeAll hands s.records → Left (λ reply. hands) (ask s answer namespace key)
left_ask s hands answer namespace key agree = cases_if (Left (λ reply. hands)) (is_key key) _ _ (λ e. left_at_record s hands namespace key _ agree (λ place r f. agree)) (λ e. agree)

left_unless_refused : (s : State) (f : Reply → List (Option HandValue)) (r : Result ℕ Refusal) (next : ℕ → State × Reply) → ((why : Refusal) → Left f (refused s why)) → ((n : ℕ) → r ≡ Ok n → Left f (next n)) → Left f (unless_refused s r next)
left_unless_refused s f (Ok n) next bad good = good n refl
left_unless_refused s f (Err why) next bad good = bad why

left_view_at : (s : State) (namespace key parent : Bytes) (labels : List Label) (place : ℕ) (hands : List (Option HandValue)) → Good s → AgreeAll hands s.records → IsPlace s namespace key parent place → Left (λ reply. hands) (view_at s key parent labels place)
left_view_at s namespace key parent labels place hands good agree is =
    let new : Record = new_record s place key parent labels (View (shown_layers place parent s.records)) in
    let ts : List Record = with_record new s.records in
    cases_if (Left (λ reply. hands)) (nat_le s.next_id most_number) _ _
    (λ few. agree_on s.records ts (same_where s.records ts (good_chains s good) (Keeps-with_record new s.records is.free)) hands agree (λ k. active_at-with_record_other k new s.records refl))
    (λ spent. agree)

left_view : (s : State) (hands : List (Option HandValue)) (namespace key parent : Bytes) (labels : List Label) → Good s → AgreeAll hands s.records → Left (λ reply. hands) (prepare_view s namespace key parent labels)
left_view s hands namespace key parent labels good agree =
    left_unless_refused s (λ reply. hands) (place_for s namespace key parent labels) (view_at s key parent labels) (λ why. agree)
    (λ place e. left_view_at s namespace key parent labels place hands good agree (place_for-Ok s namespace key parent labels place e))

left_remove_record : (s : State) (hands : List (Option HandValue)) (namespace key : Bytes) (place : ℕ) (r : Record) → Good s → record_at place key s.records ≡ Some r → AgreeAll hands s.records → Left (λ reply. hands) (remove_record s namespace key place r)
left_remove_record s hands namespace key place r good e agree =
    cases_if (Left (λ reply. hands)) (has_children place key s.records) _ _ (λ some. agree)
    (λ childless. cases_if (Left (λ reply. hands)) (is_active r.content) _ _ (λ active. agree)
    (λ idle. cases_if (Left (λ reply. hands)) _ _ _ (λ leased. agree)
    (λ unleased. agree_on s.records (without_key place key s.records) (same_without s.records place key (good_chains s good) childless) hands agree (λ k. active_at-without_idle k (is_named place key) s.records r e idle))))

left_remove : (s : State) (hands : List (Option HandValue)) (namespace key : Bytes) → Good s → AgreeAll hands s.records → Left (λ reply. hands) (remove s namespace key)
left_remove s hands namespace key good agree = cases_if (Left (λ reply. hands)) (is_key key) _ _ (λ formed. left_at_record s hands namespace key _ agree (λ place r e. left_remove_record s hands namespace key place r good e agree)) (λ bad. agree)

left_update_record : (s : State) (hands : List (Option HandValue)) (key : Bytes) (given : List Label) (paths : List Bytes) (place : ℕ) (r : Record) → AgreeAll hands s.records → Left (λ reply. hands) (update_record s key given paths place r)
left_update_record s hands key given paths place r agree =
    let labels = labels_after r.labels given paths in
    cases_if (Left (λ reply. hands)) (is_granted r.labels given paths) _ _
    (λ granted. agree_alike s.records (relabelled place key labels (s.entries + 1) s.records) (bare-relabelled place key labels (s.entries + 1) s.records) hands agree)
    (λ bad. agree)

left_update : (s : State) (hands : List (Option HandValue)) (namespace key : Bytes) (given : List Label) (paths : List Bytes) → AgreeAll hands s.records → Left (λ reply. hands) (update s namespace key given paths)
left_update s hands namespace key given paths agree =
    cases_if (Left (λ reply. hands)) (is_key key && is_well_formed given paths) _ _ (λ formed. left_at_record s hands namespace key _ agree (λ place r e. left_update_record s hands key given paths place r agree)) (λ bad. agree)

left_walk : (s : State) (hands : List (Option HandValue)) (namespace after : Bytes) (most : ℕ) (asked : Filter) → AgreeAll hands s.records → Left (λ reply. hands) (walk_infos s namespace after most asked)
left_walk s hands namespace after most asked agree =
    cases_if (Left (λ reply. hands)) (is_start after && is_page most) _ _ (λ formed. left_in_namespace s hands namespace _ agree (λ place. agree)) (λ bad. agree)

left_set_limit : (s : State) (hands : List (Option HandValue)) (namespace : Bytes) (limit : Usage) → AgreeAll hands s.records → Left (λ reply. hands) (set_limit s namespace limit)
left_set_limit s hands namespace limit agree =
    cases_if (Left (λ reply. hands)) (is_limit limit) _ _
    (λ formed. left_in_namespace s hands namespace _ agree (λ place. cases_if (Left (λ reply. hands)) (covers limit (charge_of place s.records)) _ _ (λ covered. agree) (λ below. agree))) (λ bad. agree)

left_namespace_create : (s : State) (hands : List (Option HandValue)) (namespace : Bytes) (limit : Usage) → AgreeAll hands s.records → Left (λ reply. hands) (namespace_create s namespace limit)
left_namespace_create s hands namespace limit agree =
    let n : Namespace = record { name = namespace; limit = limit } in
    cases_if (Left (λ reply. hands)) (is_namespace n) _ _
    (λ formed. cases_if (Left (λ reply. hands)) (is_some (place_of namespace s.namespaces)) _ _ (λ there. agree)
    (λ new. cases_if (Left (λ reply. hands)) (nat_lt (count_by is_taken s.namespaces) most_namespaces) _ _ (λ room. agree) (λ full. agree))) (λ bad. agree)

left_namespace_remove : (s : State) (hands : List (Option HandValue)) (namespace : Bytes) → AgreeAll hands s.records → Left (λ reply. hands) (namespace_remove s namespace)
left_namespace_remove s hands namespace agree =
    left_in_namespace s hands namespace (namespace_remove_at s namespace) agree (λ place. cases_if (Left (λ reply. hands)) (has_records place s.records || has_leases s.leases namespace) _ _ (λ full. agree) (λ empty. agree))

left_lease_create : (s : State) (hands : List (Option HandValue)) (namespace lease : Bytes) (until : Option ℕ) → AgreeAll hands s.records → Left (λ reply. hands) (lease_create s namespace lease until)
left_lease_create s hands namespace lease until agree =
    cases_if (Left (λ reply. hands)) (is_key lease) _ _
    (λ formed. left_in_namespace s hands namespace _ agree (λ place. cases_if (Left (λ reply. hands)) _ _ _ (λ there. agree) (λ new. agree))) (λ bad. agree)

left_lease_add_record : (s : State) (hands : List (Option HandValue)) (namespace lease name : Bytes) (r : Record) → AgreeAll hands s.records → Left (λ reply. hands) (lease_add_record s namespace lease name r)
left_lease_add_record s hands namespace lease name r agree =
    cases_if (Left (λ reply. hands)) (is_committed r.content) _ _ (λ is. cases_if (Left (λ reply. hands)) _ _ _ (λ there. agree) (λ none. agree)) (λ other. agree)

left_lease_add : (s : State) (hands : List (Option HandValue)) (namespace lease name : Bytes) → AgreeAll hands s.records → Left (λ reply. hands) (lease_add s namespace lease name)
left_lease_add s hands namespace lease name agree =
    cases_if (Left (λ reply. hands)) (is_key lease && is_key name) _ _
    (λ formed. left_at_record s hands namespace name _ agree (λ place r e. left_lease_add_record s hands namespace lease name r agree)) (λ bad. agree)

left_lease_drop_at : (s : State) (hands : List (Option HandValue)) (namespace lease name : Bytes) → AgreeAll hands s.records → Left (λ reply. hands) (lease_drop_at s namespace lease name)
left_lease_drop_at s hands namespace lease name agree =
    cases_if (Left (λ reply. hands)) (has_lease s.leases namespace lease) _ _
    (λ there. cases_if (Left (λ reply. hands)) (lease_names s.leases namespace lease name) _ _ (λ named. agree) (λ other. agree))
    (λ none. agree)

left_lease_drop : (s : State) (hands : List (Option HandValue)) (namespace lease name : Bytes) → AgreeAll hands s.records → Left (λ reply. hands) (lease_drop s namespace lease name)
left_lease_drop s hands namespace lease name agree =
    cases_if (Left (λ reply. hands)) (is_key lease && is_key name) _ _
    (λ formed. left_in_namespace s hands namespace _ agree (λ place. left_lease_drop_at s hands namespace lease name agree)) (λ bad. agree)

left_lease_release : (s : State) (hands : List (Option HandValue)) (namespace lease : Bytes) → AgreeAll hands s.records → Left (λ reply. hands) (lease_release s namespace lease)
left_lease_release s hands namespace lease agree =
    cases_if (Left (λ reply. hands)) (is_key lease) _ _
    (λ formed. left_in_namespace s hands namespace _ agree (λ place. cases_if (Left (λ reply. hands)) _ _ _ (λ there. agree) (λ none. agree))) (λ bad. agree)

left_sweep : (s : State) (hands : List (Option HandValue)) (namespace : Bytes) (moment : ℕ) → Good s → AgreeAll hands s.records → Left (λ reply. hands) (sweep s namespace moment)
left_sweep s hands namespace moment good agree =
    left_in_namespace s hands namespace (sweep_at s namespace moment) agree
    (λ place. agree_on s.records (unswept s namespace place moment) (λ k r e. ap layers_of (active-ancestors s namespace place moment good k r e)) hands agree (active_at-unswept s namespace place moment))

left_session : (s : State) (hands : List (Option HandValue)) → AgreeAll hands s.records → Left (λ reply. hands) (session s)
left_session s hands agree = cases_if (Left (λ reply. hands)) (nat_lt s.sessions max_sessions) _ _ (λ e. agree) (λ e. agree)

left_room : (s : State) (namespace key parent : Bytes) (labels : List Label) (place slot : ℕ) (hands : List (Option HandValue)) → Good s → AgreeAll hands s.records → length hands ≡ s.slots → IsPlace s namespace key parent place → IsSlotFor s place slot
    → Left (with_prepared s.layer_inodes (Some place) key parent s.records hands) (prepared_state s place key parent labels slot)
left_room s namespace key parent labels place slot hands good agree places is found =
    let lowest = lowest_free-Some s.slots s.records slot found.lowest in
    let new : Record = new_record s place key parent labels (Active slot one) in
    let ts : List Record = with_record new s.records in
    let keeps : Keeps s.records ts = Keeps-with_record new s.records is.free in
    let own : is_slot slot new ≡ true = Active-is_slot slot one new refl in
    let low : slot < length hands = (let p = lowest.0 in omega (arith, places)) in
    let hand : HandValue = new_hand s.layer_inodes key parent s.records s.next_id slot place in
    let same : layers_of (ancestors place parent s.records) ≡ layers_of (ancestors place parent ts) = ap layers_of (sym (keeps-ancestors Every s.records ts (every s.records ts keeps) place parent (on_parent Every place parent tt) (chain-found most_ancestors s.records place parent (good_deep s good place parent is.deep)))) in
    agree_set s.records ts (same_where s.records ts (good_chains s good) keeps) slot (Some hand) hands agree low
    (subst (λ (x : Option Record). AgreesAt slot ts (Some hand) x) (sym (active_at-with_record_own slot new s.records own lowest.1))
    (record { namespace = refl; key = refl; lowers = same; slot = refl; id = refl; usage = refl; covers = record { blocks = omega arith; inodes = omega arith } }))
    (λ k ne. active_at-with_record_other k new s.records (is_slot-other slot k new ne own))

left_prepare_at : (s : State) (namespace key parent : Bytes) (labels : List Label) (place : ℕ) (hands : List (Option HandValue)) → Good s → AgreeAll hands s.records → length hands ≡ s.slots → IsPlace s namespace key parent place
    → Left (with_prepared s.layer_inodes (Some place) key parent s.records hands) (prepare_at s key parent labels place)
left_prepare_at s namespace key parent labels place hands good agree places is =
    left_unless_refused s (with_prepared s.layer_inodes (Some place) key parent s.records hands) (slot_for s place) (prepared_state s place key parent labels) (λ why. agree)
    (λ slot e. left_room s namespace key parent labels place slot hands good agree places is (slot_for-Ok s place slot e))

left_prepare : (s : State) (namespace key parent : Bytes) (labels : List Label) (hands : List (Option HandValue)) → Good s → AgreeAll hands s.records → length hands ≡ s.slots
    → Left (with_prepared s.layer_inodes (place_of namespace s.namespaces) key parent s.records hands) (step s (calls.Prepare namespace key parent labels) Nothing)
left_prepare s namespace key parent labels hands good agree places =
    left_unless_refused s (with_prepared s.layer_inodes (place_of namespace s.namespaces) key parent s.records hands) (place_for s namespace key parent labels) (prepare_at s key parent labels) (λ why. agree)
    (λ place e.
    let is = place_for-Ok s namespace key parent labels place e in
    subst (λ (o : Option ℕ). Left (with_prepared s.layer_inodes o key parent s.records hands) (prepare_at s key parent labels place)) (sym is.named) (left_prepare_at s namespace key parent labels place hands good agree places is))

-- ---- steps

-- a recorded call whose hands are left so
fits_recorded : (w : WorldValue) (n : ℕ) (call : Call) (given : Given) (f : Reply → List (Option HandValue)) → Fits w → IsAllowed w.state call given → ((r : Reply) → length (f r) ≡ w.state.slots) → Left f (step w.state call given) → Fits (recorded w n call given f).0
fits_recorded w n call given f fit allowed places left = record {
  good = good_step w.state call given fit.good allowed;
  began = fit.began;
  replays = replays_push w.opening w.journal w.state (call_entry n call given (step w.state call given).1) fit.replays allowed refl;
  places = places (step w.state call given).1 ∙ sym (step-slots w.state call given);
  hands = left;
}

fits_admitted : (w : WorldValue) (more : ℕ) (left : List (Option HandValue)) (next : WorldValue × Answer) → Fits (record w { hands = left }) → Fits next.0 → Fits (admitted w more left next).0
fits_admitted w more left next full not_full = cases_if (λ (p : WorldValue × Answer). Fits p.0) _ _ _ (λ e. full) (λ e. not_full)

fits_on_hand : (w : WorldValue) (slot : ℕ) (test : HandValue → Bool) (next : HandValue → WorldValue × Answer) → Fits w
    → ((h : HandValue) (r : Record) → slot < length w.hands → hand_at slot w.hands ≡ Some h → active_at slot w.state.records ≡ Some r → IsHandOf slot w.state.records h r → test h ≡ true → Fits (next h).0) → Fits (on_hand w slot test next).0
fits_on_hand w slot test next fit use_it = at (hand_at slot w.hands) refl
  where
    at : (o : Option HandValue) → hand_at slot w.hands ≡ o → Fits (on_found w test next o).0
    at None e = fit
    at (Some h) e =
        let low : slot < length w.hands = hand_at-low slot h w.hands e in
        let r = holds w slot h fit e in
        cases_if (λ (p : WorldValue × Answer). Fits p.0) (test h) _ _ (λ t. use_it h r.0 low e r.1 r.2 t) (λ t. fit)

and_left : (a b : Bool) → (a && b) ≡ true → a ≡ true
and_left true b e = refl
and_left false b e = absurd (cc)

set_places : (w : WorldValue) (slot : ℕ) (o : Option HandValue) → Fits w → length (with_hand slot o w.hands) ≡ w.state.slots
set_places w slot o fit = length-set w.hands slot o ∙ fit.places

-- the slot is stands under the id
open_under : (w : WorldValue) (slot id : ℕ) (h : HandValue) (r : Record) → active_at slot w.state.records ≡ Some r → IsHandOf slot w.state.records h r → is_under id h ≡ true → IsOpenSlot id (active_at slot w.state.records)
open_under w slot id h r stands is under = subst (λ (o : Option Record). IsOpenSlot id o) (sym stands) (sym is.id ∙ under-id id h under)

covered_under : (w : WorldValue) (slot id : ℕ) (h : HandValue) (r : Record) → active_at slot w.state.records ≡ Some r → IsHandOf slot w.state.records h r → is_under id h ≡ true → IsCovered id (count_of h.snapshot.layer) (active_at slot w.state.records)
covered_under w slot id h r stands is under =
    subst (λ (o : Option Record). IsCovered id (count_of h.snapshot.layer) o) (sym stands)
    (sym is.id ∙ under-id id h under, subst (λ (u : Usage). Covers u (count_of h.snapshot.layer)) is.usage is.covers)

fits_called : (w : WorldValue) (n : ℕ) (call : Call) → Fits w → Fits (called w n call).0
fits_called w n calls.Session fit =
    fits_admitted w 1 w.hands _ fit
    (cases_if (λ (p : WorldValue × Answer). Fits p.0) (nat_lt w.state.sessions max_sessions) _ _
    (λ few. fits_recorded w n calls.Session Nothing (λ reply. w.hands) fit (ltb-true w.state.sessions max_sessions few) (λ r. fit.places) (left_session w.state w.hands fit.hands))
    (λ spent. fit))
fits_called w n (calls.Prepare namespace key parent labels) fit =
    fits_admitted w 2 w.hands _ fit
    (fits_recorded w n (calls.Prepare namespace key parent labels) Nothing (with_prepared w.state.layer_inodes (place_of namespace w.state.namespaces) key parent w.state.records w.hands) fit tt places (left_prepare w.state namespace key parent labels w.hands fit.good fit.hands fit.places))
  where
    places : (r : Reply) → length (with_prepared w.state.layer_inodes (place_of namespace w.state.namespaces) key parent w.state.records w.hands r) ≡ w.state.slots
    places replies.Opened = fit.places
    places (replies.Prepared id slot chain) = set_places w slot _ fit
    places (replies.Viewed id chain) = fit.places
    places (replies.Charged now) = fit.places
    places replies.Trimmed = fit.places
    places (replies.Committed id usage) = fit.places
    places (replies.Discarded usage) = fit.places
    places (replies.Removed usage) = fit.places
    places (replies.Info info) = fit.places
    places (replies.Usage usage) = fit.places
    places (replies.Mounts own) = fit.places
    places (replies.Page infos) = fit.places
    places replies.Done = fit.places
    places (replies.Swept removed leases freed) = fit.places
    places (replies.Refused why) = fit.places
fits_called w n (calls.Charge slot id need want) fit =
    fits_on_hand w slot (is_working id) _ fit
    (λ h r low at stands is test. fits_admitted w 1 w.hands _ fit
    (fits_recorded w n (calls.Charge slot id need want) Nothing (λ reply. with_hand slot (charged_hand h reply) w.hands) fit (open_under w slot id h r stands is (and_left _ _ test)) (λ reply. set_places w slot _ fit)
    (left_charge w.state slot need want w.hands h r fit.good fit.hands low at stands is)))
fits_called w n (calls.Trim slot id) fit =
    fits_on_hand w slot (is_working id) _ fit
    (λ h r low at stands is test. fits_admitted w 1 w.hands _ fit
    (fits_recorded w n (calls.Trim slot id) (Count (count_of h.snapshot.layer)) (λ reply. with_hand slot (charged_hand h reply) w.hands) fit (covered_under w slot id h r stands is (and_left _ _ test)) (λ reply. set_places w slot _ fit)
    (left_trim w.state slot w.hands h r fit.good fit.hands low stands is)))
fits_called w n (calls.Commit slot id name lease labels) fit =
    fits_on_hand w slot (is_under id) _ fit
    (λ h r inside at stands is test.
    fits_admitted w 1 (with_hand slot (Some (sealed_hand h.snapshot)) w.hands) _
    (record { good = fit.good; began = fit.began; replays = fit.replays; places = set_places w slot _ fit; hands = seals slot w.hands w.state.records h r (good_chains w.state fit.good) fit.hands inside stands is })
    (fits_recorded w n (calls.Commit slot id name lease labels) (Layer h.snapshot.layer) (λ reply. with_hand slot (committed_hand h.snapshot reply) w.hands) fit (covered_under w slot id h r stands is test) (λ reply. set_places w slot _ fit)
    (left_commit w.state slot name lease labels w.hands h r fit.good fit.hands inside stands is)))
fits_called w n (calls.Discard slot id) fit =
    fits_on_hand w slot (is_under id) _ fit
    (λ h r low at stands is test.
    fits_recorded w n (calls.Discard slot id) Nothing (λ reply. with_hand slot None w.hands) fit (open_under w slot id h r stands is test) (λ reply. set_places w slot _ fit)
    (left_discard w.state slot w.hands r fit.good fit.hands low stands))
fits_called w n (calls.Stat namespace key) fit =
    fits_admitted w 1 w.hands _ fit
    (fits_recorded w n (calls.Stat namespace key) Nothing (λ reply. w.hands) fit tt (λ r. fit.places) (left_ask w.state w.hands (λ r. replies.Info (info_of r)) namespace key fit.hands))
fits_called w n (calls.Usage namespace key) fit =
    fits_admitted w 1 w.hands _ fit
    (fits_recorded w n (calls.Usage namespace key) Nothing (λ reply. w.hands) fit tt (λ r. fit.places) (left_ask w.state w.hands (λ r. replies.Usage (usage_of r.content)) namespace key fit.hands))
fits_called w n (calls.Mounts namespace key) fit =
    fits_admitted w 1 w.hands _ fit
    (fits_recorded w n (calls.Mounts namespace key) Nothing (λ reply. w.hands) fit tt (λ r. fit.places) (left_ask w.state w.hands (mounts w.state) namespace key fit.hands))
fits_called w n (calls.View namespace key parent labels) fit =
    fits_admitted w 1 w.hands _ fit
    (fits_recorded w n (calls.View namespace key parent labels) Nothing (λ reply. w.hands) fit tt (λ r. fit.places) (left_view w.state w.hands namespace key parent labels fit.good fit.hands))
fits_called w n (calls.Remove namespace key) fit =
    fits_admitted w 1 w.hands _ fit
    (fits_recorded w n (calls.Remove namespace key) Nothing (λ reply. w.hands) fit tt (λ r. fit.places) (left_remove w.state w.hands namespace key fit.good fit.hands))
fits_called w n (calls.Update namespace key labels paths) fit =
    fits_admitted w 1 w.hands _ fit
    (fits_recorded w n (calls.Update namespace key labels paths) Nothing (λ reply. w.hands) fit tt (λ r. fit.places) (left_update w.state w.hands namespace key labels paths fit.hands))
fits_called w n (calls.Walk namespace after most asked) fit =
    fits_admitted w 1 w.hands _ fit
    (fits_recorded w n (calls.Walk namespace after most asked) Nothing (λ reply. w.hands) fit tt (λ r. fit.places) (left_walk w.state w.hands namespace after most asked fit.hands))
fits_called w n (calls.NamespaceCreate namespace limit) fit =
    fits_admitted w 1 w.hands _ fit
    (fits_recorded w n (calls.NamespaceCreate namespace limit) Nothing (λ reply. w.hands) fit tt (λ r. fit.places) (left_namespace_create w.state w.hands namespace limit fit.hands))
fits_called w n (calls.NamespaceRemove namespace) fit =
    fits_admitted w 1 w.hands _ fit
    (fits_recorded w n (calls.NamespaceRemove namespace) Nothing (λ reply. w.hands) fit tt (λ r. fit.places) (left_namespace_remove w.state w.hands namespace fit.hands))
fits_called w n (calls.SetLimit namespace limit) fit =
    fits_admitted w 1 w.hands _ fit
    (fits_recorded w n (calls.SetLimit namespace limit) Nothing (λ reply. w.hands) fit tt (λ r. fit.places) (left_set_limit w.state w.hands namespace limit fit.hands))
fits_called w n (calls.LeaseCreate namespace lease until) fit =
    fits_admitted w 1 w.hands _ fit
    (fits_recorded w n (calls.LeaseCreate namespace lease until) Nothing (λ reply. w.hands) fit tt (λ r. fit.places) (left_lease_create w.state w.hands namespace lease until fit.hands))
fits_called w n (calls.LeaseAdd namespace lease name) fit =
    fits_admitted w 1 w.hands _ fit
    (fits_recorded w n (calls.LeaseAdd namespace lease name) Nothing (λ reply. w.hands) fit tt (λ r. fit.places) (left_lease_add w.state w.hands namespace lease name fit.hands))
fits_called w n (calls.LeaseDrop namespace lease name) fit =
    fits_admitted w 1 w.hands _ fit
    (fits_recorded w n (calls.LeaseDrop namespace lease name) Nothing (λ reply. w.hands) fit tt (λ r. fit.places) (left_lease_drop w.state w.hands namespace lease name fit.hands))
fits_called w n (calls.LeaseRelease namespace lease) fit =
    fits_admitted w 1 w.hands _ fit
    (fits_recorded w n (calls.LeaseRelease namespace lease) Nothing (λ reply. w.hands) fit tt (λ r. fit.places) (left_lease_release w.state w.hands namespace lease fit.hands))
fits_called w n (calls.Sweep namespace moment) fit =
    fits_admitted w 1 w.hands _ fit
    (fits_recorded w n (calls.Sweep namespace moment) Nothing (λ reply. w.hands) fit tt (λ r. fit.places) (left_sweep w.state w.hands namespace moment fit.good fit.hands))

-- an operation under the share leaves a layer that the share covers
within : (share : Usage) (o : Outcome) (next : Tree) → within_share share o ≡ Ok next → Covers share (count_of next)
within share (Err e) next is = absurd (cc)
within share (Ok t) next is = at (covers share (count_of t)) refl is
  where
    at : (b : Bool) → covers share (count_of t) ≡ b → (if b then Ok t else Err (NeedsCharge (count_of t))) ≡ Ok next → Covers share (count_of next)
    at true e is = let same : t ≡ next = cc in subst (λ (l : Tree). Covers share (count_of l)) same (covers-Covers share (count_of t) e)
    at false e is = absurd (cc)

pub fits_filed : (w : WorldValue) (slot : ℕ) (h : HandValue) (r : Record) (o : Outcome) → Fits w → slot < length w.hands → active_at slot w.state.records ≡ Some r → IsHandOf slot w.state.records h r → ((next : Tree) → o ≡ Ok next → Covers h.snapshot.share.usage (count_of next)) → Fits (with_outcome w slot h o).0
fits_filed w slot h r (Err e) fit low stands is covers_it = fit
fits_filed w slot h r (Ok next) fit low stands is covers_it = record {
  good = fit.good;
  began = fit.began;
  replays = fit.replays;
  places = set_places w slot _ fit;
  hands = agree_set w.state.records w.state.records (same_here w.state.records) slot _ w.hands fit.hands low
      (subst (λ (x : Option Record). AgreesAt slot w.state.records (Some (record { snapshot = record { namespace = h.snapshot.namespace; key = h.snapshot.key; lowers = h.snapshot.lowers; layer = next; share = h.snapshot.share }; sealed = h.sealed })) x) (sym stands)
      (record { namespace = is.namespace; key = is.key; lowers = is.lowers; slot = is.slot; id = is.id; usage = is.usage; covers = covers_it next refl }))
      (λ k ne. refl);
}

-- each step keeps what fits
pub fits_move : (w : WorldValue) (s : Step) → Fits w → Fits (move w s).0
fits_move w (steps.Locked n call) fit = cases_if (λ (p : WorldValue × Answer). Fits p.0) (is_its_session w.state.sessions n call) _ _ (λ e. fits_called w n call fit) (λ e. fit)
fits_move w (steps.Hand slot op) fit =
    fits_on_hand w slot is_unsealed _ fit
    (λ h r low at stands is test. fits_filed w slot h r (worked op h.snapshot.share.usage h.snapshot.layer h.snapshot.lowers) fit low stands is (λ next e. within h.snapshot.share.usage (after op h.snapshot.layer h.snapshot.lowers) next e))

fits_sealed : (w : WorldValue) (slot : ℕ) → Fits w → Fits (with_sealed w slot)
fits_sealed w slot fit = at (hand_at slot w.hands) refl
  where
    at : (o : Option HandValue) → hand_at slot w.hands ≡ o → Fits (record w { hands = with_hand slot (option_map (λ h. sealed_hand h.snapshot) o) w.hands })
    at None e = subst (λ (l : List (Option HandValue)). Fits (record w { hands = l })) (sym (with_hand-again slot None w.hands e)) fit
    at (Some h) e =
        let r = holds w slot h fit e in
        record { good = fit.good; began = fit.began; replays = fit.replays; places = set_places w slot _ fit; hands = seals slot w.hands w.state.records h r.0 (good_chains w.state fit.good) fit.hands (hand_at-low slot h w.hands e) r.1 r.2 }

fits_left : (w v : WorldValue) (call : Call) → Fits w → IsLeft w call v → Fits v
fits_left w v (calls.Charge slot id need want) fit h = subst Fits (sym h.2) fit
fits_left w v (calls.Trim slot id) fit h = subst Fits (sym h.2) fit
fits_left w v (calls.Commit slot id name lease labels) fit h = ⊎_elim (λ e. subst Fits (sym e.1) fit) (λ e. subst Fits (sym e.2) (fits_sealed w slot fit)) h
fits_left w v (calls.Discard slot id) fit h = absurd h
fits_left w v call fit h = subst Fits (sym h.1) fit

pub fits_moves : (w v : WorldValue) (s : Step) (answer : Answer) → Fits w → Moves w s answer v → Fits v
fits_moves w v s answer fit (inl e) = subst Fits (ap (λ (p : WorldValue × Answer). p.0) e) (fits_move w s fit)
fits_moves w v (steps.Locked n call) answer fit (inr e) = fits_left w v call fit e.2
fits_moves w v (steps.Hand slot op) answer fit (inr e) = subst Fits (sym e.3) fit

pub fits_locked : (w v : WorldValue) (n : ℕ) (call : Call) (answer : Answer) → Fits w → Moves w (steps.Locked n call) answer v → Fits v
fits_locked w v n call answer fit moves = fits_moves w v (steps.Locked n call) answer fit moves

pub fits_file : (w v : WorldValue) (slot : ℕ) (op : Op) (answer : Answer) → Fits w → Moves w (steps.Hand slot op) answer v → Fits v
fits_file w v slot op answer fit moves = fits_moves w v (steps.Hand slot op) answer fit moves
