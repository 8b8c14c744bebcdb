-- The law, by induction on the journal.
use Rattle.std.proofs.Common.{◌≡◌, ℕ, ◌+◌, List, [], ◌∷◌, Option, Some, None, refl, sym, ap, ◌∙◌, subst, arith}
use Rattle.snap_layer.specs.Tree.{Tree}
use Rattle.snap_usage.specs.Counted.{count_of}
use Rattle.snap_record.specs.Labels.{Bytes, Label}
use Rattle.snap_record.specs.declared.record.Record.{Record}
use Rattle.snap_record.specs.declared.record.Content.TheVariants.{Active}
use Rattle.snap_call.specs.declared.call.Call.{Call}
use Rattle.snap_call.specs.declared.call.Call.TheVariants as calls
use Rattle.snap_call.specs.declared.call.Given.{Given}
use Rattle.snap_call.specs.declared.call.Given.TheVariants.{Nothing, Count, Layer}
use Rattle.snap_call.specs.declared.entry.Entry.{Entry}
use Rattle.snap_call.specs.declared.refusal.Refusal.{Refusal}
use Rattle.snap_call.specs.declared.reply.Reply.{Reply}
use Rattle.snap_call.specs.declared.state.State.{State}
use Rattle.snap_call.specs.Records.{has_key, is_slot, active_at, open_count, without_slot, committed_as}
use Rattle.snap_call.specs.State.{name_at}
use Rattle.snap_call.specs.Step.{are_formed, refused, place_for, slot_for, prepared, prepare, has_named, committed, commit_as, step, IsCovered, IsAllowed, new_record, one}
use Rattle.snap_call.proofs.Parts.{prepare_at, commit}
use Rattle.snap_call.specs.Journal.{Replays}
use Rattle.snap_call.proofs.Leasing.{name_at-place}
use Rattle.snap_call.proofs.Lists.{all-with_record, all-without}
use Rattle.snap_call.proofs.Places.{place_for-Ok}
use Rattle.snap_call.proofs.Tested.{commit_by_tests}
use Rattle.snap_grants.specs.Grants.{Stored, Origin, IsKeeping, AreKeeping, worth, grant_of, grants, IsOrigin, AreOrigins, CommittedLaw}
use Rattle.snap_grants.proofs.Staying.{either, unless, Stays, counts, stays}
use Rattle.snap_grants.proofs.Weights.{HasOrigin, Comes, AllCome, weights-with_record, weights-without_slot, active_at-origin, comes-idle}

-- ---- one call

-- what it makes: each active record comes from its id's origin again, and the committed ones are worth what is granted more
pub record Moves (origin : ℕ → Origin) (s : State) (call : Call) (given : Given) (next : State × Reply) : Type 0 where
  pub come : AllCome origin next.0
  pub more : (h : Stored → ℕ) → worth h next.0 ≡ worth h s + grant_of h origin call given next.1

module _ (origin : ℕ → Origin) (s : State) (all : AllCome origin s) where
  -- nothing is granted, and what is committed stays
  plain : (call : Call) (given : Given) (next : State × Reply) → Stays s next.0 → ((h : Stored → ℕ) → grant_of h origin call given next.1 ≡ 0) → Moves origin s call given next
  plain call given next stay none = record { come = stay.come origin all; more = λ h. let same = stay.same h in let n = none h in omega (arith, same, n) }

  moves_prepared : (namespace key parent : Bytes) (labels : List Label) (given : Given) (place slot : ℕ) → name_at place s.namespaces ≡ namespace
      → IsOrigin origin (calls.Prepare namespace key parent labels) (prepared s place key parent labels slot).1 → Moves origin s (calls.Prepare namespace key parent labels) given (prepared s place key parent labels slot)
  moves_prepared namespace key parent labels given place slot named is =
      let r : Record = new_record s place key parent labels (Active slot one) in
      let here : HasOrigin origin s.namespaces r = is ∙ ap (λ (n : Bytes). record { namespace = n; parent = parent }) (sym named) in
      record {
        come = all-with_record r (Comes origin s.namespaces) s.records here all;
        more = λ h. let more = weights-with_record h s.namespaces r s.records in omega (arith, more);
      }

  moves_prepare : (namespace key parent : Bytes) (labels : List Label) (given : Given) → IsOrigin origin (calls.Prepare namespace key parent labels) (prepare s namespace key parent labels).1 → Moves origin s (calls.Prepare namespace key parent labels) given (prepare s namespace key parent labels)
  moves_prepare namespace key parent labels given =
      unless P s none (place_for s namespace key parent labels) (prepare_at s key parent labels)
      (λ place e. unless P s none (slot_for s place) (prepared s place key parent labels)
      (λ slot f. moves_prepared namespace key parent labels given place slot (sym (name_at-place namespace s.namespaces place (place_for-Ok s namespace key parent labels place e).named))))
    where
      P : State × Reply → Type 0
      P next = IsOrigin origin (calls.Prepare namespace key parent labels) next.1 → Moves origin s (calls.Prepare namespace key parent labels) given next

      none : (why : Refusal) → P (refused s why)
      none why is = plain (calls.Prepare namespace key parent labels) given (refused s why) (counts s) (λ h. refl)

  -- the snapshot that is stored has the namespace and the parent of its id's origin
  is_stored : (h : Stored → ℕ) (id : ℕ) (name : Bytes) (layer : Tree) (r : Record) → HasOrigin origin s.namespaces r → r.id ≡ id
      → h (record { namespace = name_at r.namespace s.namespaces; name = name; parent = r.parent; id = r.id; layer = layer }) ≡ h (record { namespace = (origin id).namespace; name = name; parent = (origin id).parent; id = id; layer = layer })
  is_stored h id name layer r is same = ap (λ (o : Origin). made o r.id) (sym is) ∙ ap (λ (i : ℕ). made (origin i) i) same
    where
      made : Origin → ℕ → ℕ
      made o i = h (record { namespace = o.namespace; name = name; parent = o.parent; id = i; layer = layer })

  moves_committed : (slot id : ℕ) (name : Bytes) (lease : Option Bytes) (labels : Option (List Label)) (layer : Tree) (r : Record) → active_at slot s.records ≡ Some r → r.id ≡ id → Moves origin s (calls.Commit slot id name lease labels) (Layer layer) (committed s slot name lease labels layer r)
  moves_committed slot id name lease labels layer r found same =
      let c : Record = committed_as name labels layer (s.entries + 1) r in record {
        come = all-with_record c (Comes origin s.namespaces) (without_slot slot s.records) tt (all-without (is_slot slot) (Comes origin s.namespaces) s.records all);
        more = λ h.
            let more = weights-with_record h s.namespaces c (without_slot slot s.records) in
            let less = weights-without_slot h s.namespaces slot s.records in
            let is = is_stored h id name layer r (active_at-origin origin s.namespaces slot s.records r all found) same in
            omega (arith, more, less, is);
      }

  moves_commit_as : (slot id : ℕ) (name : Bytes) (lease : Option Bytes) (labels : Option (List Label)) (layer : Tree) (o : Option Record) → active_at slot s.records ≡ o → IsCovered id (count_of layer) o → Moves origin s (calls.Commit slot id name lease labels) (Layer layer) (commit_as s slot name lease labels layer o)
  moves_commit_as slot id name lease labels layer (Some r) found covered =
      commit_by_tests P s slot name lease labels layer r none (λ formed free named. moves_committed slot id name lease labels layer r found covered.0)
    where
      P : State × Reply → Type 0
      P next = Moves origin s (calls.Commit slot id name lease labels) (Layer layer) next

      none : (why : Refusal) → P (refused s why)
      none why = plain (calls.Commit slot id name lease labels) (Layer layer) (refused s why) (counts s) (λ h. refl)
  moves_commit_as slot id name lease labels layer None found covered = absurd covered

  moves_commit : (slot id : ℕ) (name : Bytes) (lease : Option Bytes) (labels : Option (List Label)) (given : Given) → IsAllowed s (calls.Commit slot id name lease labels) given → Moves origin s (calls.Commit slot id name lease labels) given (commit s slot name lease labels given)
  moves_commit slot id name lease labels (Layer layer) allowed = moves_commit_as slot id name lease labels layer (active_at slot s.records) refl allowed
  moves_commit slot id name lease labels Nothing allowed = absurd allowed
  moves_commit slot id name lease labels (Count now) allowed = absurd allowed

  moves : (call : Call) (given : Given) → IsKeeping call → IsAllowed s call given → IsOrigin origin call (step s call given).1 → Moves origin s call given (step s call given)
  moves (calls.Prepare namespace key parent labels) given keeps allowed is = moves_prepare namespace key parent labels given is
  moves (calls.Commit slot id name lease labels) given keeps allowed is = moves_commit slot id name lease labels given allowed
  moves (calls.Remove namespace key) given keeps allowed is = absurd keeps
  moves (calls.Sweep namespace moment) given keeps allowed is = absurd keeps
  moves (calls.NamespaceCreate namespace limit) given keeps allowed is = absurd keeps
  moves (calls.NamespaceRemove namespace) given keeps allowed is = absurd keeps
  moves call given keeps allowed is = plain call given (step s call given) (stays s call given tt) (λ h. refl)

-- ---- the journal

-- where each active record comes from its id's origin
pub law_from : (origin : ℕ → Origin) (es : List Entry) (s t : State) → AllCome origin s → AreKeeping es → AreOrigins origin es → Replays s es t → (h : Stored → ℕ) → worth h t ≡ worth h s + grants h origin es
law_from origin [] s t all keeps are replay h = ap (worth h) replay ∙ omega arith
law_from origin (e ∷ es) s t all keeps are replay h =
    let m = moves origin s all e.call e.given keeps.0 replay.0 (subst (λ (r : Reply). IsOrigin origin e.call r) replay.1 are.0) in
    let rest = law_from origin es (step s e.call e.given).0 t m.come keeps.1 are.1 replay.2 h in
    let here = m.more h in
    let same = ap (λ (r : Reply). grant_of h origin e.call e.given r) replay.1 in
    omega (arith, rest, here, same)

pub committed_law : (s : State) (es : List Entry) (t : State) → open_count s.records ≡ 0 → AreKeeping es → Replays s es t → CommittedLaw s es t
committed_law s es t idle keeps replay origin are h = law_from origin es s t (comes-idle origin s.namespaces s.records idle) keeps are replay h
