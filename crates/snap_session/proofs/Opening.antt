-- No step changes the state that the round began at.
use Rattle.std.proofs.Common.{◌≡◌, inl, inr, ℕ, Bool, true, false, Option, None, Some, Ok, Err, refl, sym, ap, ◌∙◌}
use Rattle.std.specs.Prelude.{if◌then◌else◌, nat_lt}
use Rattle.std.specs.Option.{option_map_or}
use Rattle.snap_call.specs.declared.call.Call.{Call}
use Rattle.snap_call.specs.declared.call.Call.TheVariants as calls
use Rattle.snap_call.specs.declared.state.State.{State}
use Rattle.snap_call.specs.Records.{max_sessions}
use Rattle.snap_upper.specs.After.{Outcome}
use Rattle.snap_book.specs.Files.{worked}
use Rattle.snap_world.specs.declared.step.Answer.{Answer}
use Rattle.snap_world.specs.declared.step.Step.{Step}
use Rattle.snap_world.specs.declared.step.Step.TheVariants.{Locked, Hand}
use Rattle.snap_world.specs.World.{HandValue, WorldValue, hand_at}
use Rattle.snap_world.specs.Move.{called, is_full, is_its_session, is_under, is_unsealed, is_working, move, with_outcome}
use Rattle.snap_world.specs.Runs.{IsLeft, Moves}

-- what either answer leaves, and what is left with a hand or without one
either : (b : Bool) (x y : WorldValue × Answer) (s : State) → x.0.opening ≡ s → y.0.opening ≡ s → (if b then x else y).0.opening ≡ s
either true x y s h k = h
either false x y s h k = k

with_or_without : (o : Option HandValue) (next : HandValue → WorldValue × Answer) (none : WorldValue × Answer) (s : State) → ((h : HandValue) → (next h).0.opening ≡ s) → none.0.opening ≡ s → (option_map_or next o none).0.opening ≡ s
with_or_without None next none s h k = k
with_or_without (Some hand) next none s h k = h hand

opening-called : (w : WorldValue) (n : ℕ) (call : Call) → (called w n call).0.opening ≡ w.opening
opening-called w n calls.Session = either (is_full w 1) _ _ w.opening refl (either (nat_lt w.state.sessions max_sessions) _ _ w.opening refl refl)
opening-called w n (calls.Prepare namespace key parent labels) = either (is_full w 2) _ _ w.opening refl refl
opening-called w n (calls.Charge slot id need want) = with_or_without (hand_at slot w.hands) _ _ w.opening (λ h. either (is_working id h) _ _ w.opening (either (is_full w 1) _ _ w.opening refl refl) refl) refl
opening-called w n (calls.Trim slot id) = with_or_without (hand_at slot w.hands) _ _ w.opening (λ h. either (is_working id h) _ _ w.opening (either (is_full w 1) _ _ w.opening refl refl) refl) refl
opening-called w n (calls.Commit slot id name lease labels) = with_or_without (hand_at slot w.hands) _ _ w.opening (λ h. either (is_under id h) _ _ w.opening (either (is_full w 1) _ _ w.opening refl refl) refl) refl
opening-called w n (calls.Discard slot id) = with_or_without (hand_at slot w.hands) _ _ w.opening (λ h. either (is_under id h) _ _ w.opening refl refl) refl
opening-called w n (calls.Stat namespace key) = either (is_full w 1) _ _ w.opening refl refl
opening-called w n (calls.Usage namespace key) = either (is_full w 1) _ _ w.opening refl refl
opening-called w n (calls.Mounts namespace key) = either (is_full w 1) _ _ w.opening refl refl
opening-called w n (calls.View namespace key parent labels) = either (is_full w 1) _ _ w.opening refl refl
opening-called w n (calls.Remove namespace key) = either (is_full w 1) _ _ w.opening refl refl
opening-called w n (calls.Update namespace key labels paths) = either (is_full w 1) _ _ w.opening refl refl
opening-called w n (calls.Walk namespace after most asked) = either (is_full w 1) _ _ w.opening refl refl
opening-called w n (calls.NamespaceCreate namespace limit) = either (is_full w 1) _ _ w.opening refl refl
opening-called w n (calls.NamespaceRemove namespace) = either (is_full w 1) _ _ w.opening refl refl
opening-called w n (calls.SetLimit namespace limit) = either (is_full w 1) _ _ w.opening refl refl
opening-called w n (calls.LeaseCreate namespace lease until) = either (is_full w 1) _ _ w.opening refl refl
opening-called w n (calls.LeaseAdd namespace lease name) = either (is_full w 1) _ _ w.opening refl refl
opening-called w n (calls.LeaseDrop namespace lease name) = either (is_full w 1) _ _ w.opening refl refl
opening-called w n (calls.LeaseRelease namespace lease) = either (is_full w 1) _ _ w.opening refl refl
opening-called w n (calls.Sweep namespace moment) = either (is_full w 1) _ _ w.opening refl refl

opening-with_outcome : (w : WorldValue) (slot : ℕ) (h : HandValue) (o : Outcome) → (with_outcome w slot h o).0.opening ≡ w.opening
opening-with_outcome w slot h (Ok next) = refl
opening-with_outcome w slot h (Err e) = refl

opening-move : (w : WorldValue) (s : Step) → (move w s).0.opening ≡ w.opening
opening-move w (Locked n call) = either (is_its_session w.state.sessions n call) _ _ w.opening (opening-called w n call) refl
opening-move w (Hand slot op) =
    with_or_without (hand_at slot w.hands) _ _ w.opening
    (λ h. either (is_unsealed h) _ _ w.opening (opening-with_outcome w slot h (worked op h.snapshot.share.usage h.snapshot.layer h.snapshot.lowers)) refl) refl

-- nor does want of memory
opening-left : (old new : WorldValue) (call : Call) → IsLeft old call new → new.opening ≡ old.opening
opening-left old new calls.Session h = ap (λ (w : WorldValue). w.opening) h.1
opening-left old new (calls.Prepare namespace key parent labels) h = ap (λ (w : WorldValue). w.opening) h.1
opening-left old new (calls.Charge slot id need want) h = ap (λ (w : WorldValue). w.opening) h.2
opening-left old new (calls.Trim slot id) h = ap (λ (w : WorldValue). w.opening) h.2
opening-left old new (calls.Commit slot id name lease labels) (inl h) = ap (λ (w : WorldValue). w.opening) h.1
opening-left old new (calls.Commit slot id name lease labels) (inr h) = ap (λ (w : WorldValue). w.opening) h.2
opening-left old new (calls.Discard slot id) h = absurd h
opening-left old new (calls.Stat namespace key) h = ap (λ (w : WorldValue). w.opening) h.1
opening-left old new (calls.Usage namespace key) h = ap (λ (w : WorldValue). w.opening) h.1
opening-left old new (calls.Mounts namespace key) h = ap (λ (w : WorldValue). w.opening) h.1
opening-left old new (calls.View namespace key parent labels) h = ap (λ (w : WorldValue). w.opening) h.1
opening-left old new (calls.Remove namespace key) h = ap (λ (w : WorldValue). w.opening) h.1
opening-left old new (calls.Update namespace key labels paths) h = ap (λ (w : WorldValue). w.opening) h.1
opening-left old new (calls.Walk namespace after most asked) h = ap (λ (w : WorldValue). w.opening) h.1
opening-left old new (calls.NamespaceCreate namespace limit) h = ap (λ (w : WorldValue). w.opening) h.1
opening-left old new (calls.NamespaceRemove namespace) h = ap (λ (w : WorldValue). w.opening) h.1
opening-left old new (calls.SetLimit namespace limit) h = ap (λ (w : WorldValue). w.opening) h.1
opening-left old new (calls.LeaseCreate namespace lease until) h = ap (λ (w : WorldValue). w.opening) h.1
opening-left old new (calls.LeaseAdd namespace lease name) h = ap (λ (w : WorldValue). w.opening) h.1
opening-left old new (calls.LeaseDrop namespace lease name) h = ap (λ (w : WorldValue). w.opening) h.1
opening-left old new (calls.LeaseRelease namespace lease) h = ap (λ (w : WorldValue). w.opening) h.1
opening-left old new (calls.Sweep namespace moment) h = ap (λ (w : WorldValue). w.opening) h.1

pub opening-kept : (old new : WorldValue) (s : Step) (a : Answer) → Moves old s a new → new.opening ≡ old.opening
opening-kept old new s a (inl e) = sym (ap (λ (p : WorldValue × Answer). p.0.opening) e) ∙ opening-move old s
opening-kept old new (Locked n call) a (inr h) = opening-left old new call h.2
opening-kept old new (Hand slot op) a (inr h) = ap (λ (w : WorldValue). w.opening) h.3
