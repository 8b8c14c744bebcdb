-- Ids are given once, so a journal says where each comes from.
use Rattle.std.proofs.Common.{◌≡◌, ℕ, ◌≤◌, eqb, Bool, false, List, [], ◌∷◌, Option, Some, None, refl, sym, ap, ◌∙◌, subst, arith}
use Rattle.std.specs.Prelude.{if◌then◌else◌}
use Rattle.std.proofs.lemmas.Bool.{false_from_ne_true, eqb-true, eq-eqb}
use Rattle.snap_layer.specs.Tree.{Tree}
use Rattle.snap_record.specs.Labels.{Bytes, Label}
use Rattle.snap_record.specs.declared.record.Record.{Record}
use Rattle.snap_call.specs.declared.call.Call.{Call}
use Rattle.snap_call.specs.declared.call.Call.TheVariants as calls
use Rattle.snap_call.specs.declared.call.Given.{Given}
use Rattle.snap_call.specs.declared.call.Given.TheVariants.{Nothing, Count, Layer}
use Rattle.snap_call.specs.declared.entry.Entry.{Entry}
use Rattle.snap_call.specs.declared.refusal.Refusal.{Refusal}
use Rattle.snap_call.specs.declared.reply.Reply.{Reply}
use Rattle.snap_call.specs.declared.state.State.{State}
use Rattle.snap_call.specs.Records.{has_key, active_at}
use Rattle.snap_call.specs.Step.{are_formed, refused, place_for, slot_for, prepared, prepare, has_named, commit_as, step}
use Rattle.snap_call.proofs.Parts.{prepare_at, commit}
use Rattle.snap_call.specs.Journal.{Replays}
use Rattle.snap_call.proofs.Tested.{commit_by_tests}
use Rattle.snap_grants.specs.Grants.{Origin, IsKeeping, AreKeeping, IsOrigin, AreOrigins, origin_of, origin_in}
use Rattle.snap_grants.proofs.Staying.{either, unless, stays}

-- ids grow: one that is given later isn't this call's, and this call's is the next one
pub record Numbers (n : ℕ) (call : Call) (next : State × Reply) : Type 0 where
  pub grows : n ≤ next.0.next_id
  pub later : (id : ℕ) (rest : Origin) → next.0.next_id ≤ id → origin_of call next.1 id rest ≡ rest
  pub told : (origin rest : ℕ → Origin) → ((id : ℕ) → n ≤ id → origin id ≡ origin_of call next.1 id (rest id)) → IsOrigin origin call next.1

module _ (s : State) where
  numbers_prepared : (namespace key parent : Bytes) (labels : List Label) (place slot : ℕ) → Numbers s.next_id (calls.Prepare namespace key parent labels) (prepared s place key parent labels slot)
  numbers_prepared namespace key parent labels place slot = record {
    grows = omega arith;
    later = λ id rest low. let other : eqb s.next_id id ≡ false = false_from_ne_true (eqb s.next_id id) (λ e. let same = eqb-true s.next_id id e in absurd (omega (arith, same, low))) in ap (λ (b : Bool). if b then record { namespace = namespace; parent = parent } else rest) other;
    told = λ origin rest same. same s.next_id (omega arith) ∙ ap (λ (b : Bool). if b then record { namespace = namespace; parent = parent } else rest s.next_id) (eq-eqb s.next_id s.next_id refl);
  }

  numbers_prepare : (namespace key parent : Bytes) (labels : List Label) → Numbers s.next_id (calls.Prepare namespace key parent labels) (prepare s namespace key parent labels)
  numbers_prepare namespace key parent labels =
      unless P s refusing (place_for s namespace key parent labels) (prepare_at s key parent labels)
      (λ place e. unless P s refusing (slot_for s place) (prepared s place key parent labels) (λ slot f. numbers_prepared namespace key parent labels place slot))
    where
      P : State × Reply → Type 0
      P next = Numbers s.next_id (calls.Prepare namespace key parent labels) next

      refusing : (why : Refusal) → P (refused s why)
      refusing why = record { grows = omega arith; later = λ id rest low. refl; told = λ origin rest same. tt }

  -- Commit gives no id
  abbrev Same : State × Reply → Type 0
  Same next = next.0.next_id ≡ s.next_id

  same_commit_as : (slot : ℕ) (name : Bytes) (lease : Option Bytes) (labels : Option (List Label)) (layer : Tree) (o : Option Record) → Same (commit_as s slot name lease labels layer o)
  same_commit_as slot name lease labels layer (Some r) =
      commit_by_tests Same s slot name lease labels layer r (λ why. refl) (λ formed free named. refl)
  same_commit_as slot name lease labels layer None = refl

  same_commit : (slot : ℕ) (name : Bytes) (lease : Option Bytes) (labels : Option (List Label)) (given : Given) → Same (commit s slot name lease labels given)
  same_commit slot name lease labels (Layer layer) = same_commit_as slot name lease labels layer (active_at slot s.records)
  same_commit slot name lease labels Nothing = refl
  same_commit slot name lease labels (Count now) = refl

  numbers : (call : Call) (given : Given) → IsKeeping call → Numbers s.next_id call (step s call given)
  numbers (calls.Prepare namespace key parent labels) given keeps = numbers_prepare namespace key parent labels
  numbers (calls.Commit slot id name lease labels) given keeps = record { grows = (let e = same_commit slot name lease labels given in omega (arith, e)); later = λ at rest low. refl; told = λ origin rest same. tt }
  numbers (calls.Remove namespace key) given keeps = absurd keeps
  numbers (calls.Sweep namespace moment) given keeps = absurd keeps
  numbers (calls.NamespaceCreate namespace limit) given keeps = absurd keeps
  numbers (calls.NamespaceRemove namespace) given keeps = absurd keeps
  numbers call given keeps = record { grows = (stays s call given tt).grows; later = λ at rest low. refl; told = λ origin rest same. tt }

-- whatever says of each id to come what the journal says
told_by : (origin : ℕ → Origin) (es : List Entry) (s t : State) → AreKeeping es → Replays s es t → ((id : ℕ) → s.next_id ≤ id → origin id ≡ origin_in es id) → AreOrigins origin es
told_by origin [] s t keeps replay same = tt
told_by origin (e ∷ es) s t keeps replay same =
    let m = numbers s e.call e.given keeps.0 in
    let r : (step s e.call e.given).1 ≡ e.reply = sym replay.1 in (
      subst (λ (x : Reply). IsOrigin origin e.call x) r (m.told origin (origin_in es) (λ id low. same id low ∙ ap (λ (x : Reply). origin_of e.call x id (origin_in es id)) replay.1)),
      told_by origin es (step s e.call e.given).0 t keeps.1 replay.2 (λ id low. same id (let g = m.grows in omega (arith, g, low)) ∙ ap (λ (x : Reply). origin_of e.call x id (origin_in es id)) replay.1 ∙ m.later id (origin_in es id) low),
    )

pub origins : (s : State) (es : List Entry) (t : State) → AreKeeping es → Replays s es t → AreOrigins (origin_in es) es
origins s es t keeps replay = told_by (origin_in es) es s t keeps replay (λ id low. refl)
