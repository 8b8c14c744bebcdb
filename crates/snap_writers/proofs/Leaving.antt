-- What an operation on a snapshot by a store's charger leaves, as a run.
use Rattle.std.specs.Prelude.{IfErr, OnErr, OnOk}
use Rattle.std.proofs.Common.{◌≡◌, ◌⊎◌, inl, inr, ◌≤◌, ◌+◌, Option, None, Result, Ok, Err, refl, sym, ap, subst, arith}
use Rattle.snap_path.specs.Memory.{no_memory}
use Rattle.snap_layer.specs.Tree.{Tree}
use Rattle.snap_usage.specs.declared.usage.Usage.{Usage}
use Rattle.snap_merge.specs.declared.error.FsError.{FsError}
use Rattle.snap_merge.specs.declared.error.FsError.TheVariants.{NeedsCharge, OutOfMemory}
use Rattle.snap_call.specs.declared.call.Call.{Call}
use Rattle.snap_call.specs.declared.call.Given.{Given}
use Rattle.snap_call.specs.declared.refusal.Refusal.{Refusal}
use Rattle.snap_call.specs.declared.refusal.Refusal.TheVariants as refusals
use Rattle.snap_upper.specs.declared.op.Op.{Op}
use Rattle.snap_upper.specs.After.{Outcome, after}
use Rattle.snap_book.specs.declared.charger.ApplyFault.{ApplyFault}
use Rattle.snap_book.specs.declared.charger.ApplyFault.TheVariants as faults
use Rattle.snap_book.specs.Active.{ActiveValue}
use Rattle.snap_book.specs.Charging.{HasAppliedBy}
use Rattle.snap_book.specs.Files.{worked}
use Rattle.snap_book.specs.Wanted.{needed_by, wanted_charge}
use Rattle.snap_tape.specs.Tapes.{RefusedOn, SessionValue}
use Rattle.snap_store.specs.Values.{HasChargedShare, HasRefusedShare}
use Rattle.snap_writers.specs.declared.running.RunError.{RunError}
use Rattle.snap_writers.specs.declared.running.RunError.TheVariants.{File, Book}
use Rattle.snap_writers.specs.Run.{HasCharged, HasFailed, HasRun, IsCharged, IsSameSnapshot}
use Rattle.snap_writers.proofs.Needing.{done_after}

-- ---- the first answer, as an outcome

no_error : (next : Tree) (o : Outcome) → o ≡ Ok next → IfErr o (λ x. ◌≡◌ {A = Outcome} (Ok next) (Err x))
no_error next (Ok t) done = tt
no_error next (Err x) done = absurd (cc)

as_outcome : (e : FsError) (o : Outcome) → (e ≡ OutOfMemory no_memory) ⊎ (o ≡ Err e) → (◌≡◌ {A = Outcome} (Err e) (Err (OutOfMemory no_memory))) ⊎ (◌≡◌ {A = Outcome} (Err e) o)
as_outcome e o (inl memory) = inl (ap (λ (x : FsError). Err x) memory)
as_outcome e o (inr failed) = inr (sym failed)

as_error : (e : FsError) (o : Outcome) → IfErr o (λ x. e ≡ x) → IfErr o (λ x. ◌≡◌ {A = Outcome} (Err e) (Err x))
as_error e (Ok t) h = tt
as_error e (Err x) h = ap (λ (y : FsError). Err y) h

own_error : (e : FsError) (o : Outcome) → o ≡ Err e → IfErr o (λ x. ◌≡◌ {A = Outcome} (Err e) (Err x))
own_error e o is = subst (λ (o : Outcome). IfErr o (λ x. ◌≡◌ {A = Outcome} (Err e) (Err x))) (sym is) refl

-- a refused call takes the room of at most one entry
refused_room : (s t : SessionValue) (call : Call) (given : Given) (why : Refusal) → RefusedOn s t call given why → s.spare ≤ t.spare + 1
refused_room s t call given refusals.JournalFull h = omega (arith, h.spare)
refused_room s t call given (refusals.OutOfMemory want) h = omega (arith, h.spare)
refused_room s t call given why h = h.spare

-- ---- by the answer

abbrev pub answer_of : Result Usage (ApplyFault Refusal) → Result Unit RunError
answer_of (Ok count) = Ok tt
answer_of (Err (faults.File e)) = Err (File e)
answer_of (Err (faults.Charge why)) = Err (Book why)

-- what a run leaves besides
pub record Leaves (s t : SessionValue) (old new : ActiveValue) (op : Op) (result : Result Unit RunError) : Type 0 where
  pub done : OnOk result (after op old.layer old.lowers ≡ Ok new.layer)
  pub unchanged : OnErr result (new.layer ≡ old.layer)
  pub same : IsSameSnapshot old new
  pub room : s.spare ≤ t.spare + 1

module _ (s t : SessionValue) (old new : ActiveValue) (op : Op) (extra : Usage) where
  -- an operation that needs a charge has made it, or was refused it
  needed : (need : Usage) (result : Result Unit RunError) → worked op old.share.usage old.layer old.lowers ≡ Err (NeedsCharge need) → HasCharged s t old new op need (wanted_charge need extra) result → HasRun s t old new op extra result
  needed need result needs h = record {
    outcome = Err (NeedsCharge need);
    answer = inr (sym needs);
    first = λ plain. own_error (NeedsCharge need) (worked op old.share.usage old.layer old.lowers) needs;
    follows = h;
  }

  charged : (need : Usage) → HasChargedShare s t old.share need extra new.share.usage → IsCharged s t old need (wanted_charge need extra) new.share.usage
  charged need h = record { taped = h.taped; amount = h.amount }

  pub ran : (r : Result Usage (ApplyFault Refusal)) → HasAppliedBy HasChargedShare HasRefusedShare s t old new op extra r → HasRun s t old new op extra (answer_of r)
  ran (Ok count) (is, inl (done, none, shape)) = record {
    outcome = Ok new.layer;
    answer = inr (sym done);
    first = λ plain. no_error new.layer (worked op old.share.usage old.layer old.lowers) done;
    follows = (refl, none, shape);
  }
  ran (Ok count) (is, inr (need, needs, made, done, shape)) =
      needed need (Ok tt) needs (charged need made, done_after new.share.usage (after op old.layer old.lowers) new.layer done, shape)
  ran (Err (faults.File e)) (inl (free, fault, none, same)) = record {
    outcome = Err e;
    answer = as_outcome e (worked op old.share.usage old.layer old.lowers) fault.error;
    first = λ plain. as_error e (worked op old.share.usage old.layer old.lowers) (fault.first plain);
    follows = subst (λ (o : Option Usage). HasFailed s t old new op extra e o (Err (File e))) (sym free) (refl, none, same);
  }
  ran (Err (faults.File e)) (inr (need, needs, made, next, memory, takes, shape)) =
      needed need (Err (File e)) needs (memory, charged need made, shape)
  ran (Err (faults.Charge why)) (need, needs, refused, same) = needed need (Err (Book why)) needs (refused, same)

  -- the layer and the share alone are others
  another : (layer : Tree) (now : Usage) → new ≡ record { namespace = old.namespace; key = old.key; lowers = old.lowers; layer = layer; share = record old.share { usage = now } } → IsSameSnapshot old new
  another layer now shape = record {
    namespace = ap (λ (a : ActiveValue). a.namespace) shape;
    key = ap (λ (a : ActiveValue). a.key) shape;
    lowers = ap (λ (a : ActiveValue). a.lowers) shape;
    slot = ap (λ (a : ActiveValue). a.share.slot) shape;
    id = ap (λ (a : ActiveValue). a.share.id) shape;
  }

  as_before : new ≡ old → IsSameSnapshot old new
  as_before same = record {
    namespace = ap (λ (a : ActiveValue). a.namespace) same;
    key = ap (λ (a : ActiveValue). a.key) same;
    lowers = ap (λ (a : ActiveValue). a.lowers) same;
    slot = ap (λ (a : ActiveValue). a.share.slot) same;
    id = ap (λ (a : ActiveValue). a.share.id) same;
  }

  room_kept : t ≡ s → s.spare ≤ t.spare + 1
  room_kept none = subst (λ (u : SessionValue). s.spare ≤ u.spare + 1) (sym none) (omega arith)

  pub left : (r : Result Usage (ApplyFault Refusal)) → HasAppliedBy HasChargedShare HasRefusedShare s t old new op extra r → Leaves s t old new op (answer_of r)
  left (Ok count) (is, inl (done, none, shape)) = record {
    done = done_after old.share.usage (after op old.layer old.lowers) new.layer done;
    unchanged = tt;
    same = another new.layer old.share.usage shape;
    room = room_kept none;
  }
  left (Ok count) (is, inr (need, needs, made, done, shape)) = record {
    done = done_after new.share.usage (after op old.layer old.lowers) new.layer done;
    unchanged = tt;
    same = another new.layer new.share.usage shape;
    room = made.taped.spare;
  }
  left (Err (faults.File e)) (inl (free, fault, none, same)) = record {
    done = tt;
    unchanged = ap (λ (a : ActiveValue). a.layer) same;
    same = as_before same;
    room = room_kept none;
  }
  left (Err (faults.File e)) (inr (need, needs, made, next, memory, takes, shape)) = record {
    done = tt;
    unchanged = ap (λ (a : ActiveValue). a.layer) shape;
    same = another old.layer new.share.usage shape;
    room = made.taped.spare;
  }
  left (Err (faults.Charge why)) (need, needs, refused, same) = record {
    done = tt;
    unchanged = ap (λ (a : ActiveValue). a.layer) same;
    same = as_before same;
    room = refused_room s t _ _ why refused;
  }
