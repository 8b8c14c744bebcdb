-- The calls on hands and the plain calls, one by one.
use Rattle.std.proofs.Common.{◌≡◌, ◌⊎◌, inl, inr, ℕ, ◌+◌, ◌≤◌, ◌<◌, List, ◌∷◌, length, true, false, Bool, Option, None, Some, refl, sym, ap, ◌∙◌, subst, ⊎_elim, arith}
use Rattle.std.specs.Prelude.{◌↔◌, if◌then◌else◌, Result, Ok, Err, OnOk, OnErr, IfErr}
use Rattle.std.specs.Option.{option_map}
use Rattle.snap_path.specs.Memory.{no_memory}
use Rattle.snap_usage.specs.declared.usage.Usage.{Usage}
use Rattle.snap_usage.specs.Counted.{count_of}
use Rattle.snap_record.specs.Labels.{Bytes, Label}
use Rattle.snap_call.specs.declared.call.Call.{Call}
use Rattle.snap_call.specs.declared.call.Call.TheVariants as calls
use Rattle.snap_call.specs.declared.call.Given.TheVariants.{Nothing, Count, Layer}
use Rattle.snap_call.specs.declared.refusal.Refusal.{Refusal}
use Rattle.snap_call.specs.declared.refusal.Refusal.TheVariants.{JournalFull}
use Rattle.snap_call.specs.declared.reply.Reply.{Reply}
use Rattle.snap_call.specs.declared.reply.Reply.TheVariants.{Refused}
use Rattle.snap_call.specs.Records.{open_count}
use Rattle.snap_call.specs.State.{place_of, ancestors, ids_of, layers_of}
use Rattle.snap_call.specs.Step.{one}
use Rattle.snap_call.specs.declared.config.Namespace.{Namespace}
use Rattle.snap_call.specs.declared.call.Given.{Given}
use Rattle.snap_call.specs.declared.reply.Reply.TheVariants as replies
use Rattle.snap_record.specs.declared.record.Record.{Record}
use Rattle.snap_layer.specs.Tree.{Tree}
use Rattle.snap_merge.specs.declared.error.FsError.{FsError}
use Rattle.snap_merge.specs.declared.error.FsError.TheVariants as errors
use Rattle.snap_upper.specs.declared.op.Op.{Op}
use Rattle.snap_upper.specs.After.{Outcome, lists_names}
use Rattle.snap_book.specs.Files.{worked}
use Rattle.snap_book.specs.Active.{ActiveValue, fresh}
use Rattle.snap_accounts.specs.Entries.{IsPlain}
use Rattle.snap_book.specs.Book.{BookValue, AnsweredBy, IsCommit, Recorded}
use Rattle.snap_world.specs.declared.step.Answer.{Answer}
use Rattle.snap_world.specs.declared.step.Answer.TheVariants as answers
use Rattle.snap_world.specs.declared.step.Step.TheVariants as steps
use Rattle.snap_world.specs.World.{HandValue, WorldValue, Fits, hand_at, with_hand, world_of}
use Rattle.snap_world.specs.Move.{called, charged, committed_hand, with_outcome, new_hand, is_its_session, is_under, is_unsealed, is_working, meets, with_prepared, recorded, sealed_hand}
use Rattle.snap_world.specs.Runs.{CanWant, DoesCall, IsLeft, Moves}
use Rattle.snap_world.proofs.Ends.{ends}
use Rattle.snap_world.proofs.Hold.{placed, under-id}
use Rattle.snap_world.proofs.Places.{with_hand-twice, back_again}
use Rattle.snap_world.proofs.Steps.{admits, charges, found, in_session, missed}

pub charge_does : (old new : BookValue) (hands out after : List (Option HandValue)) (slot n id : ℕ) (need want : Usage) (a b : ActiveValue) (reply : Reply) → Fits (world_of old hands)
    → hand_at slot hands ≡ Some (record { snapshot = a; sealed = false }) → is_under id (record { snapshot = a; sealed = false }) ≡ true
    → AnsweredBy old new n (calls.Charge a.share.slot a.share.id need want) Nothing reply → b ≡ charged a reply → (reply ≡ Refused JournalFull) ↔ (old.limit ≤ length old.journal + open_count old.state.records)
    → out ≡ with_hand slot None hands → after ≡ with_hand slot (Some (record { snapshot = b; sealed = false })) out
    → DoesCall (world_of old hands) n (calls.Charge slot id need want) (answers.Reply reply) (world_of new after)
charge_does old new hands out after slot n id need want a b reply fits at under answered is full gone back =
    let h : HandValue = record { snapshot = a; sealed = false } in
    let slot_is : a.share.slot ≡ slot = placed (world_of old hands) slot h fits at in
    let id_is : a.share.id ≡ id = under-id id h under in
    let here : AnsweredBy old new n (calls.Charge slot id need want) Nothing reply =
    subst (λ (i : ℕ). AnsweredBy old new n (calls.Charge slot i need want) Nothing reply) id_is
    (subst (λ (k : ℕ). AnsweredBy old new n (calls.Charge k a.share.id need want) Nothing reply) slot_is answered) in
    charges old new hands out after slot n id (calls.Charge slot id need want) (λ g. Nothing) a b reply at under here is full gone back

pub trim_does : (old new : BookValue) (hands out after : List (Option HandValue)) (slot n id : ℕ) (a b : ActiveValue) (reply : Reply) → Fits (world_of old hands)
    → hand_at slot hands ≡ Some (record { snapshot = a; sealed = false }) → is_under id (record { snapshot = a; sealed = false }) ≡ true
    → AnsweredBy old new n (calls.Trim a.share.slot a.share.id) (Count (count_of a.layer)) reply → b ≡ charged a reply → (reply ≡ Refused JournalFull) ↔ (old.limit ≤ length old.journal + open_count old.state.records)
    → out ≡ with_hand slot None hands → after ≡ with_hand slot (Some (record { snapshot = b; sealed = false })) out
    → DoesCall (world_of old hands) n (calls.Trim slot id) (answers.Reply reply) (world_of new after)
trim_does old new hands out after slot n id a b reply fits at under answered is full gone back =
    let h : HandValue = record { snapshot = a; sealed = false } in
    let slot_is : a.share.slot ≡ slot = placed (world_of old hands) slot h fits at in
    let id_is : a.share.id ≡ id = under-id id h under in
    let here : AnsweredBy old new n (calls.Trim slot id) (Count (count_of a.layer)) reply =
    subst (λ (i : ℕ). AnsweredBy old new n (calls.Trim slot i) (Count (count_of a.layer)) reply) id_is
    (subst (λ (k : ℕ). AnsweredBy old new n (calls.Trim k a.share.id) (Count (count_of a.layer)) reply) slot_is answered) in
    charges old new hands out after slot n id (calls.Trim slot id) (λ g. Count (count_of g.snapshot.layer)) a b reply at under here is full gone back

committed_does : (old new : BookValue) (hands out after : List (Option HandValue)) (slot n id : ℕ) (name : Bytes) (lease : Option Bytes) (labels : Option (List Label)) (h : HandValue) (a : ActiveValue) (reply : Reply)
    → hand_at slot hands ≡ Some h → is_under id h ≡ true → a ≡ h.snapshot
    → AnsweredBy old new n (calls.Commit slot id name lease labels) (Layer a.layer) reply → (reply ≡ Refused JournalFull) ↔ (old.limit ≤ length old.journal + open_count old.state.records)
    → out ≡ with_hand slot None hands → after ≡ with_hand slot (committed_hand a reply) out
    → DoesCall (world_of old hands) n (calls.Commit slot id name lease labels) (answers.Reply reply) (world_of new after)
committed_does old new hands out after slot n id name lease labels h a reply at under is answered full gone back =
    let call : Call = calls.Commit slot id name lease labels in
    let f : Reply → List (Option HandValue) = λ r. with_hand slot (committed_hand h.snapshot r) hands in
    let left : after ≡ f reply = back ∙ (ap (λ (l : List (Option HandValue)). with_hand slot (committed_hand a reply) l) gone
    ∙ (with_hand-twice slot None (committed_hand a reply) hands ∙ ap (λ (v : ActiveValue). with_hand slot (committed_hand v reply) hands) is)) in
    let full_here : (reply ≡ Refused JournalFull) ↔ (old.limit < length old.journal + open_count old.state.records + 1) = (λ e. (let p = full.0 e in omega arith), λ lt. full.1 (omega (arith, lt))) in
    let here : AnsweredBy old new n call (Layer h.snapshot.layer) reply = subst (λ (v : ActiveValue). AnsweredBy old new n call (Layer v.layer) reply) is answered in
    ⊎_elim
    (λ e. inl (found (world_of old hands) slot (is_under id) _ h at under ∙ e))
    (λ e. inr (ap answers.Reply e.0, inr (ap (meets (is_under id)) at ∙ under, e.1, λ i. world_of (e.2 i) ((left ∙ (ap f e.0 ∙ ap (λ (o : Option HandValue). with_hand slot (option_map (λ g. sealed_hand g.snapshot) o) hands) (sym at))) i))))
    (admits old new hands after (f (Refused JournalFull)) 1 n call (Layer h.snapshot.layer) f reply (ends old new n call (Layer h.snapshot.layer) reply here) full_here left refl)

-- the same by the call that says it
pub commit_does : (old new : BookValue) (hands out after : List (Option HandValue)) (slot n id : ℕ) (call : Call) (h : HandValue) (a : ActiveValue) (reply : Reply) → IsCommit slot id call
    → hand_at slot hands ≡ Some h → is_under id h ≡ true → a ≡ h.snapshot
    → AnsweredBy old new n call (Layer a.layer) reply → (reply ≡ Refused JournalFull) ↔ (old.limit ≤ length old.journal + open_count old.state.records)
    → out ≡ with_hand slot None hands → after ≡ with_hand slot (committed_hand a reply) out
    → DoesCall (world_of old hands) n call (answers.Reply reply) (world_of new after)
commit_does old new hands out after slot n id call h a reply (name, lease, labels, is) at under same answered full gone back =
    subst (λ (k : Call). DoesCall (world_of old hands) n k (answers.Reply reply) (world_of new after)) (sym is)
    (committed_does old new hands out after slot n id name lease labels h a reply at under same (subst (λ (k : Call). AnsweredBy old new n k (Layer a.layer) reply) is answered) full gone back)

-- what want of memory for the seal of a hand leaves
pub unsealed_left : (old new : WorldValue) (call : Call) (slot id : ℕ) → IsCommit slot id call → meets (is_working id) (hand_at slot old.hands) ≡ true → new ≡ old → IsLeft old call new
unsealed_left old new call slot id (name, lease, labels, is) working same = subst (λ (k : Call). IsLeft old k new) (sym is) (inl (working, same))

pub plain_does : (old new : BookValue) (hands : List (Option HandValue)) (n : ℕ) (call : Call) (reply : Reply) → IsPlain call → AnsweredBy old new n call Nothing reply
    → (reply ≡ Refused JournalFull) ↔ (old.limit ≤ length old.journal + open_count old.state.records) → DoesCall (world_of old hands) n call (answers.Reply reply) (world_of new hands)
plain_does old new hands n call reply asks answered full = at call asks answered
  where
    full_here : (reply ≡ Refused JournalFull) ↔ (old.limit < length old.journal + open_count old.state.records + 1)
    full_here = (λ e. (let p = full.0 e in omega arith), λ lt. full.1 (omega (arith, lt)))

    at : (call : Call) → IsPlain call → AnsweredBy old new n call Nothing reply → DoesCall (world_of old hands) n call (answers.Reply reply) (world_of new hands)
    at (calls.Stat namespace key) a h =
        ⊎_elim (λ e. inl e) (λ e. inr (ap answers.Reply e.0, (e.1, ap (λ (b : BookValue). world_of b hands) e.2)))
        (admits old new hands hands hands 1 n (calls.Stat namespace key) Nothing (λ r. hands) reply (ends old new n (calls.Stat namespace key) Nothing reply h) full_here refl refl)
    at (calls.Usage namespace key) a h =
        ⊎_elim (λ e. inl e) (λ e. inr (ap answers.Reply e.0, (e.1, ap (λ (b : BookValue). world_of b hands) e.2)))
        (admits old new hands hands hands 1 n (calls.Usage namespace key) Nothing (λ r. hands) reply (ends old new n (calls.Usage namespace key) Nothing reply h) full_here refl refl)
    at (calls.Mounts namespace key) a h =
        ⊎_elim (λ e. inl e) (λ e. inr (ap answers.Reply e.0, (e.1, ap (λ (b : BookValue). world_of b hands) e.2)))
        (admits old new hands hands hands 1 n (calls.Mounts namespace key) Nothing (λ r. hands) reply (ends old new n (calls.Mounts namespace key) Nothing reply h) full_here refl refl)
    at (calls.View namespace key parent labels) a h =
        ⊎_elim (λ e. inl e) (λ e. inr (ap answers.Reply e.0, (e.1, ap (λ (b : BookValue). world_of b hands) e.2)))
        (admits old new hands hands hands 1 n (calls.View namespace key parent labels) Nothing (λ r. hands) reply (ends old new n (calls.View namespace key parent labels) Nothing reply h) full_here refl refl)
    at (calls.Remove namespace key) a h =
        ⊎_elim (λ e. inl e) (λ e. inr (ap answers.Reply e.0, (e.1, ap (λ (b : BookValue). world_of b hands) e.2)))
        (admits old new hands hands hands 1 n (calls.Remove namespace key) Nothing (λ r. hands) reply (ends old new n (calls.Remove namespace key) Nothing reply h) full_here refl refl)
    at (calls.Update namespace key labels paths) a h =
        ⊎_elim (λ e. inl e) (λ e. inr (ap answers.Reply e.0, (e.1, ap (λ (b : BookValue). world_of b hands) e.2)))
        (admits old new hands hands hands 1 n (calls.Update namespace key labels paths) Nothing (λ r. hands) reply (ends old new n (calls.Update namespace key labels paths) Nothing reply h) full_here refl refl)
    at (calls.Walk namespace after most asked) a h =
        ⊎_elim (λ e. inl e) (λ e. inr (ap answers.Reply e.0, (e.1, ap (λ (b : BookValue). world_of b hands) e.2)))
        (admits old new hands hands hands 1 n (calls.Walk namespace after most asked) Nothing (λ r. hands) reply (ends old new n (calls.Walk namespace after most asked) Nothing reply h) full_here refl refl)
    at (calls.NamespaceCreate namespace limit) a h =
        ⊎_elim (λ e. inl e) (λ e. inr (ap answers.Reply e.0, (e.1, ap (λ (b : BookValue). world_of b hands) e.2)))
        (admits old new hands hands hands 1 n (calls.NamespaceCreate namespace limit) Nothing (λ r. hands) reply (ends old new n (calls.NamespaceCreate namespace limit) Nothing reply h) full_here refl refl)
    at (calls.NamespaceRemove namespace) a h =
        ⊎_elim (λ e. inl e) (λ e. inr (ap answers.Reply e.0, (e.1, ap (λ (b : BookValue). world_of b hands) e.2)))
        (admits old new hands hands hands 1 n (calls.NamespaceRemove namespace) Nothing (λ r. hands) reply (ends old new n (calls.NamespaceRemove namespace) Nothing reply h) full_here refl refl)
    at (calls.SetLimit namespace limit) a h =
        ⊎_elim (λ e. inl e) (λ e. inr (ap answers.Reply e.0, (e.1, ap (λ (b : BookValue). world_of b hands) e.2)))
        (admits old new hands hands hands 1 n (calls.SetLimit namespace limit) Nothing (λ r. hands) reply (ends old new n (calls.SetLimit namespace limit) Nothing reply h) full_here refl refl)
    at (calls.LeaseCreate namespace lease until) a h =
        ⊎_elim (λ e. inl e) (λ e. inr (ap answers.Reply e.0, (e.1, ap (λ (b : BookValue). world_of b hands) e.2)))
        (admits old new hands hands hands 1 n (calls.LeaseCreate namespace lease until) Nothing (λ r. hands) reply (ends old new n (calls.LeaseCreate namespace lease until) Nothing reply h) full_here refl refl)
    at (calls.LeaseAdd namespace lease name) a h =
        ⊎_elim (λ e. inl e) (λ e. inr (ap answers.Reply e.0, (e.1, ap (λ (b : BookValue). world_of b hands) e.2)))
        (admits old new hands hands hands 1 n (calls.LeaseAdd namespace lease name) Nothing (λ r. hands) reply (ends old new n (calls.LeaseAdd namespace lease name) Nothing reply h) full_here refl refl)
    at (calls.LeaseDrop namespace lease name) a h =
        ⊎_elim (λ e. inl e) (λ e. inr (ap answers.Reply e.0, (e.1, ap (λ (b : BookValue). world_of b hands) e.2)))
        (admits old new hands hands hands 1 n (calls.LeaseDrop namespace lease name) Nothing (λ r. hands) reply (ends old new n (calls.LeaseDrop namespace lease name) Nothing reply h) full_here refl refl)
    at (calls.LeaseRelease namespace lease) a h =
        ⊎_elim (λ e. inl e) (λ e. inr (ap answers.Reply e.0, (e.1, ap (λ (b : BookValue). world_of b hands) e.2)))
        (admits old new hands hands hands 1 n (calls.LeaseRelease namespace lease) Nothing (λ r. hands) reply (ends old new n (calls.LeaseRelease namespace lease) Nothing reply h) full_here refl refl)
    at (calls.Sweep namespace moment) a h =
        ⊎_elim (λ e. inl e) (λ e. inr (ap answers.Reply e.0, (e.1, ap (λ (b : BookValue). world_of b hands) e.2)))
        (admits old new hands hands hands 1 n (calls.Sweep namespace moment) Nothing (λ r. hands) reply (ends old new n (calls.Sweep namespace moment) Nothing reply h) full_here refl refl)
    at call a h = absurd a

pub prepare_does : (old new : BookValue) (hands after : List (Option HandValue)) (n : ℕ) (namespace key parent : Bytes) (labels : List Label) (reply : Reply) → AnsweredBy old new n (calls.Prepare namespace key parent labels) Nothing reply
    → after ≡ with_prepared old.state.layer_inodes (place_of namespace old.state.namespaces) key parent old.state.records hands reply → (reply ≡ Refused JournalFull) ↔ (old.limit < length old.journal + open_count old.state.records + 2)
    → DoesCall (world_of old hands) n (calls.Prepare namespace key parent labels) (answers.Reply reply) (world_of new after)
prepare_does old new hands after n namespace key parent labels reply answered left full =
    let f : Reply → List (Option HandValue) = with_prepared old.state.layer_inodes (place_of namespace old.state.namespaces) key parent old.state.records hands in
    ⊎_elim (λ e. inl e) (λ e. inr (ap answers.Reply e.0, (e.1, λ i. world_of (e.2 i) ((left ∙ ap f e.0) i))))
    (admits old new hands after hands 2 n (calls.Prepare namespace key parent labels) Nothing f reply (ends old new n (calls.Prepare namespace key parent labels) Nothing reply answered) full left refl)

-- a call in its session is a step
pub does_moves : (w v : WorldValue) (n : ℕ) (call : Call) (answer : Answer) → is_its_session w.state.sessions n call ≡ true → DoesCall w n call answer v → Moves w (steps.Locked n call) answer v
does_moves w v n call answer own (inl e) = inl (in_session w n call _ own e)
does_moves w v n call answer own (inr e) = inr (e.0, own, e.1)

pub no_session : (w : WorldValue) (n : ℕ) (call : Call) → is_its_session w.state.sessions n call ≡ false → Moves w (steps.Locked n call) answers.NoSession w
no_session w n call not_own = inl (ap (λ (b : Bool). if b then called w n call else (w, answers.NoSession)) not_own)

-- the session that is opened
pub session_does : (w v : WorldValue) (m n : ℕ) (answer : Answer) → n ≡ m → DoesCall w m calls.Session answer v → DoesCall w n calls.Session answer v
session_does w v m n answer e does = subst (λ (k : ℕ). DoesCall w k calls.Session answer v) (sym e) does

same_error : (e x : FsError) → ◌≡◌ {A = Result (Unit {0}) FsError} (Err e) (Err x) → e ≡ x
same_error e x is = cc

-- an error that is certain, or one that stands for want of memory
certain : (op : Op) (layers : List Tree) (o : Outcome) (e : FsError) (b : Bool) → lists_names op layers ≡ b → (lists_names op layers ≡ false → IfErr o (λ x. ◌≡◌ {A = Result (Unit {0}) FsError} (Err e) (Err x)))
    → IfErr o (λ x. lists_names op layers ≡ true) ⊎ (o ≡ Err e)
certain op layers (Ok next) e b lists first = inl tt
certain op layers (Err x) e true lists first = inl lists
certain op layers (Err x) e false lists first = inr (ap (λ (y : FsError). Err y) (sym (same_error e x (first lists))))

pub file_errs : (b : BookValue) (hands after : List (Option HandValue)) (slot : ℕ) (op : Op) (a : ActiveValue) (e : FsError) → hand_at slot hands ≡ Some (record { snapshot = a; sealed = false }) → worked op a.share.usage a.layer a.lowers ≡ Err e
    → after ≡ hands → Moves (world_of b hands) (steps.Hand slot op) (answers.File (Err e)) (world_of b after)
file_errs b hands after slot op a e at err left =
    let h : HandValue = record { snapshot = a; sealed = false } in
    let w = world_of b hands in
    inl (found w slot is_unsealed (λ g. with_outcome w slot g (worked op g.snapshot.share.usage g.snapshot.layer g.snapshot.lowers)) h at refl
    ∙ (ap (with_outcome w slot h) err ∙ (λ i. (world_of b (sym left i), answers.File (Err e)))))

file_wants : (b : BookValue) (hands after : List (Option HandValue)) (slot : ℕ) (op : Op) (a : ActiveValue) (e : FsError) → hand_at slot hands ≡ Some (record { snapshot = a; sealed = false }) → e ≡ errors.OutOfMemory no_memory
    → (lists_names op (a.layer ∷ a.lowers) ≡ false → IfErr (worked op a.share.usage a.layer a.lowers) (λ x. ◌≡◌ {A = Result (Unit {0}) FsError} (Err e) (Err x)))
    → after ≡ hands → Moves (world_of b hands) (steps.Hand slot op) (answers.File (Err e)) (world_of b after)
file_wants b hands after slot op a e at want first left =
    ⊎_elim
    (λ can. inr (ap (λ (x : FsError). answers.File (Err x)) want, ap (meets is_unsealed) at, subst (CanWant op) (sym at) can, ap (λ (l : List (Option HandValue)). world_of b l) left))
    (λ err. file_errs b hands after slot op a e at err left)
    (certain op (a.layer ∷ a.lowers) (worked op a.share.usage a.layer a.lowers) e (lists_names op (a.layer ∷ a.lowers)) refl first)

-- an operation on the hand that was taken out
pub file_moves : (b : BookValue) (hands out after : List (Option HandValue)) (slot : ℕ) (op : Op) (a v : ActiveValue) (outcome : Result (Unit {0}) FsError)
    → hand_at slot hands ≡ Some (record { snapshot = a; sealed = false }) → OnOk outcome (worked op a.share.usage a.layer a.lowers ≡ Ok v.layer) → OnOk outcome (v ≡ record a { layer = v.layer })
    → IfErr outcome (λ e. (e ≡ errors.OutOfMemory no_memory) ⊎ (worked op a.share.usage a.layer a.lowers ≡ Err e)) → OnErr outcome (v ≡ a)
    → (lists_names op (a.layer ∷ a.lowers) ≡ false → IfErr (worked op a.share.usage a.layer a.lowers) (λ x. outcome ≡ Err x))
    → out ≡ with_hand slot None hands → after ≡ with_hand slot (Some (record { snapshot = v; sealed = false })) out
    → Moves (world_of b hands) (steps.Hand slot op) (answers.File outcome) (world_of b after)
file_moves b hands out after slot op a v (Ok tt) at ok same error unchanged first gone back =
    let h : HandValue = record { snapshot = a; sealed = false } in
    let w = world_of b hands in
    let to : HandValue = record { snapshot = v; sealed = false } in
    let left : after ≡ with_hand slot (Some to) hands = back ∙ (ap (λ (l : List (Option HandValue)). with_hand slot (Some to) l) gone ∙ with_hand-twice slot None (Some to) hands) in
    inl (found w slot is_unsealed (λ g. with_outcome w slot g (worked op g.snapshot.share.usage g.snapshot.layer g.snapshot.lowers)) h at refl
    ∙ (ap (with_outcome w slot h) ok ∙ (λ i. (world_of b ((ap (λ (x : ActiveValue). with_hand slot (Some (record { snapshot = x; sealed = false })) hands) (sym same) ∙ sym left) i), answers.File (Ok tt)))))
file_moves b hands out after slot op a v (Err e) at ok same error unchanged first gone back =
    let h : HandValue = record { snapshot = a; sealed = false } in
    let left = back_again hands out after slot h at gone (back ∙ ap (λ (x : ActiveValue). with_hand slot (Some (record { snapshot = x; sealed = false })) out) unchanged) in
    ⊎_elim (λ want. file_wants b hands after slot op a e at want first left) (λ err. file_errs b hands after slot op a e at err left) error

pub no_file : (b : BookValue) (hands : List (Option HandValue)) (slot : ℕ) (op : Op) → meets is_unsealed (hand_at slot hands) ≡ false → Moves (world_of b hands) (steps.Hand slot op) answers.NoHand (world_of b hands)
no_file b hands slot op e =
    let w = world_of b hands in
    inl (missed w slot is_unsealed (λ g. with_outcome w slot g (worked op g.snapshot.share.usage g.snapshot.layer g.snapshot.lowers)) e)

-- the same, where the texts are read first
pub prepare_does_as : (old new : BookValue) (hands after : List (Option HandValue)) (n : ℕ) (a b c namespace key parent : Bytes) (labels : List Label) (reply : Reply) → a ≡ namespace → b ≡ key → c ≡ parent
    → AnsweredBy old new n (calls.Prepare a b c labels) Nothing reply → after ≡ with_prepared old.state.layer_inodes (place_of a old.state.namespaces) b c old.state.records hands reply → (reply ≡ Refused JournalFull) ↔ (old.limit < length old.journal + open_count old.state.records + 2)
    → DoesCall (world_of old hands) n (calls.Prepare namespace key parent labels) (answers.Reply reply) (world_of new after)
prepare_does_as old new hands after n a b c namespace key parent labels reply is_a is_b is_c answered left full =
    subst (λ (x : Bytes). DoesCall (world_of old hands) n (calls.Prepare x key parent labels) (answers.Reply reply) (world_of new after)) is_a
    (subst (λ (x : Bytes). DoesCall (world_of old hands) n (calls.Prepare a x parent labels) (answers.Reply reply) (world_of new after)) is_b
    (subst (λ (x : Bytes). DoesCall (world_of old hands) n (calls.Prepare a b x labels) (answers.Reply reply) (world_of new after)) is_c
    (prepare_does old new hands after n a b c labels reply answered left full)))

-- the hands after a granted prepare
pub prepare_left : (inodes : ℕ) (namespace key parent : Bytes) (ns : List Namespace) (rs : List Record) (hands after : List (Option HandValue)) (a : ActiveValue) (slot : ℕ) (reply : Reply) → reply ≡ replies.Prepared a.share.id a.share.slot (ids_of (ancestors a.namespace parent rs))
    → place_of namespace ns ≡ Some a.namespace → a.key ≡ key → a.lowers ≡ layers_of (ancestors a.namespace parent rs) → a.layer ≡ fresh inodes a.lowers → a.share.usage ≡ one → slot ≡ a.share.slot
    → after ≡ with_hand slot (Some (record { snapshot = a; sealed = false })) hands → after ≡ with_prepared inodes (place_of namespace ns) key parent rs hands reply
prepare_left inodes namespace key parent ns rs hands after a slot reply answer place named lowers layer share at put =
    let share_is : a.share ≡ record { slot = a.share.slot; id = a.share.id; usage = one } = λ i. record { slot = a.share.slot; id = a.share.id; usage = share i } in
    let layer_is : a.layer ≡ fresh inodes (layers_of (ancestors a.namespace parent rs)) = layer ∙ ap (λ (l : List Tree). fresh inodes l) lowers in
    let hand_is : record { snapshot = a; sealed = false } ≡ new_hand inodes key parent rs a.share.id a.share.slot a.namespace =
    λ i. record { snapshot = record { namespace = a.namespace; key = named i; lowers = lowers i; layer = layer_is i; share = share_is i }; sealed = false } in
    put ∙ (λ i. with_hand (at i) (Some (hand_is i)) hands)
    ∙ ap (λ (o : Option ℕ). with_hand a.share.slot (option_map (new_hand inodes key parent rs a.share.id a.share.slot) o) hands) (sym place)
    ∙ ap (λ (r : Reply). with_prepared inodes (place_of namespace ns) key parent rs hands r) (sym answer)

-- a granted prepare, by its reply
pub answered_granted : (old new : BookValue) (n : ℕ) (call : Call) (given : Given) (id slot : ℕ) (chain : List ℕ) (result : Reply) → Recorded old new n call given (replies.Prepared id slot chain)
    → result ≡ replies.Prepared id slot chain → AnsweredBy old new n call given result
answered_granted old new n call given id slot chain result recorded answer = subst (λ (r : Reply). AnsweredBy old new n call given r) (sym answer) recorded

-- a reply that was prepared is no full journal
pub full_granted : {A : Type 0} (a : A) (id slot : ℕ) (chain : List ℕ) (result : Reply) (P : Type 0) → result ≡ replies.Prepared id slot chain → ((◌≡◌ {A = Result A Refusal} (Ok a) (Err JournalFull)) ↔ P) → (result ≡ Refused JournalFull) ↔ P
full_granted {A = A} a id slot chain result P answer full = (λ e. absurd (apart (sym answer ∙ e)), λ p. absurd (no_error (full.1 p)))
  where
    apart : replies.Prepared id slot chain ≡ Refused JournalFull → ⊥
    apart e = cc

    no_error : ◌≡◌ {A = Result A Refusal} (Ok a) (Err JournalFull) → ⊥
    no_error e = cc
