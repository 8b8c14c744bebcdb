-- What a world that fits says of one slot.
use Rattle.std.proofs.Common.{◌≡◌, ℕ, ◌<◌, List, length, true, Option, None, Some, refl, ap, ◌∙◌, subst, arith}
use Rattle.std.specs.Prelude.{Result, Ok, Err}
use Rattle.std.proofs.lemmas.Bool.{eqb-true}
use Rattle.snap_record.specs.Labels.{Bytes, Label}
use Rattle.snap_record.specs.declared.record.Record.{Record}
use Rattle.snap_call.specs.declared.call.Call.TheVariants as calls
use Rattle.snap_call.specs.declared.call.Given.TheVariants.{Nothing}
use Rattle.snap_call.specs.declared.refusal.Refusal.{Refusal}
use Rattle.snap_call.specs.declared.reply.Reply.{Reply}
use Rattle.snap_call.specs.declared.reply.Reply.TheVariants.{Prepared}
use Rattle.snap_call.specs.declared.state.State.{State}
use Rattle.snap_call.specs.Records.{active_at, lowest_free}
use Rattle.snap_call.specs.Step.{step, place_for, prepared, slot_for, unless_refused}
use Rattle.snap_call.proofs.Parts.{prepare_at}
use Rattle.snap_call.proofs.Lowest.{lowest_free-Some}
use Rattle.snap_call.proofs.Places.{slot_for-Ok}
use Rattle.snap_world.specs.World.{HandValue, WorldValue, Fits, IsHandOf, AgreesAt, hand_at}
use Rattle.snap_world.specs.Move.{is_under}

holds_at : (slot : ℕ) (rs : List Record) (h : HandValue) (o : Option Record) → AgreesAt slot rs (Some h) o → (r : Record) × (o ≡ Some r) × IsHandOf slot rs h r
holds_at slot rs h None a = absurd a
holds_at slot rs h (Some r) a = (r, refl, a)

-- a hand stands at an open slot
pub holds : (w : WorldValue) (slot : ℕ) (h : HandValue) → Fits w → hand_at slot w.hands ≡ Some h → (r : Record) × (active_at slot w.state.records ≡ Some r) × IsHandOf slot w.state.records h r
holds w slot h fits at = holds_at slot w.state.records h (active_at slot w.state.records) (subst (λ (o : Option HandValue). AgreesAt slot w.state.records o (active_at slot w.state.records)) at (fits.hands slot))

-- its share is that of the slot
pub placed : (w : WorldValue) (slot : ℕ) (h : HandValue) → Fits w → hand_at slot w.hands ≡ Some h → h.snapshot.share.slot ≡ slot
placed w slot h fits at = (holds w slot h fits at).2.slot

pub under-id : (id : ℕ) (h : HandValue) → is_under id h ≡ true → h.snapshot.share.id ≡ id
under-id id h e = eqb-true h.snapshot.share.id id e

free_if : (slot : ℕ) (rs : List Record) (o : Option HandValue) → AgreesAt slot rs o None → o ≡ None
free_if slot rs None a = refl
free_if slot rs (Some h) a = absurd a

-- no hand stands at a free slot
pub free : (w : WorldValue) (slot : ℕ) → Fits w → active_at slot w.state.records ≡ None → hand_at slot w.hands ≡ None
free w slot fits e = free_if slot w.state.records (hand_at slot w.hands) (subst (λ (o : Option Record). AgreesAt slot w.state.records (hand_at slot w.hands) o) e (fits.hands slot))

-- a granted prepare takes the lowest free slot

-- a reply that is no refusal comes from what was found
past_refusal : (s : State) (id slot : ℕ) (chain : List ℕ) (r : Result ℕ Refusal) (next : ℕ → State × Reply) → Prepared id slot chain ≡ (unless_refused s r next).1 → (n : ℕ) × (r ≡ Ok n) × (Prepared id slot chain ≡ (next n).1)
past_refusal s id slot chain (Ok n) next e = (n, refl, e)
past_refusal s id slot chain (Err why) next e = absurd (cc)

pub prepared_slot : (s : State) (namespace key parent : Bytes) (labels : List Label) (id slot : ℕ) (chain : List ℕ) → Prepared id slot chain ≡ (step s (calls.Prepare namespace key parent labels) Nothing).1 → lowest_free s.slots s.records ≡ Some slot
prepared_slot s namespace key parent labels id slot chain e =
    let at = past_refusal s id slot chain (place_for s namespace key parent labels) (prepare_at s key parent labels) e in
    let in_slot = past_refusal s id slot chain (slot_for s at.0) (prepared s at.0 key parent labels) at.2 in
    let last : Prepared id slot chain ≡ (prepared s at.0 key parent labels in_slot.0).1 = in_slot.2 in
    let same : in_slot.0 ≡ slot = cc in
    (slot_for-Ok s at.0 in_slot.0 in_slot.1).lowest ∙ ap (λ (n : ℕ). Some n) same

-- where no hand stands
pub prepared_free : (w : WorldValue) (namespace key parent : Bytes) (labels : List Label) (id slot : ℕ) (chain : List ℕ) → Fits w → Prepared id slot chain ≡ (step w.state (calls.Prepare namespace key parent labels) Nothing).1 → hand_at slot w.hands ≡ None
prepared_free w namespace key parent labels id slot chain fits e =
    let lowest = lowest_free-Some w.state.slots w.state.records slot (prepared_slot w.state namespace key parent labels id slot chain e) in
    free w slot fits lowest.1

-- and which is one of the places
pub prepared_low : (w : WorldValue) (namespace key parent : Bytes) (labels : List Label) (id slot : ℕ) (chain : List ℕ) → Fits w → Prepared id slot chain ≡ (step w.state (calls.Prepare namespace key parent labels) Nothing).1 → slot < length w.hands
prepared_low w namespace key parent labels id slot chain fits e =
    let lowest = lowest_free-Some w.state.slots w.state.records slot (prepared_slot w.state namespace key parent labels id slot chain e) in
    omega (arith, lowest.0, fits.places)
