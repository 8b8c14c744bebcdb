-- What an operation with its charge leaves on the tape, and why it is not done.
use Rattle.std.specs.Prelude.{if◌then◌else◌}
use Rattle.std.proofs.Common.{◌≡◌, ◌⊎◌, inl, inr, Bool, true, false, [], ◌∷◌, Option, None, Some, Result, Ok, Err, refl, sym, ap, ◌∙◌, subst}
use Rattle.snap_path.specs.Memory.{no_memory}
use Rattle.snap_layer.specs.Tree.{Tree}
use Rattle.snap_usage.specs.declared.usage.Usage.{Usage}
use Rattle.snap_usage.specs.Counted.{count_of, covers}
use Rattle.snap_merge.specs.declared.error.FsError.{FsError}
use Rattle.snap_merge.specs.declared.error.FsError.TheVariants.{NeedsCharge, OutOfMemory}
use Rattle.snap_call.specs.declared.call.Given.TheVariants.{Nothing}
use Rattle.snap_call.specs.declared.reply.Reply.TheVariants as replies
use Rattle.snap_call.specs.Journal.{call_entry}
use Rattle.snap_upper.specs.declared.op.Op.{Op}
use Rattle.snap_upper.specs.After.{Outcome, after, within_share}
use Rattle.snap_upper.proofs.Uncharged.{after_needs_none}
use Rattle.snap_book.specs.Active.{ActiveValue}
use Rattle.snap_book.specs.Files.{worked}
use Rattle.snap_book.specs.Wanted.{needed_by, wanted_charge}
use Rattle.snap_tape.specs.Tapes.{SessionValue}
use Rattle.snap_writers.specs.declared.running.RunError.{RunError}
use Rattle.snap_writers.specs.declared.running.RunError.TheVariants.{File, Book}
use Rattle.snap_writers.specs.Run.{Follows, HasCharged, HasFailed, HasRun}
use Rattle.snap_writers.specs.declared.job.Job.{Job}
use Rattle.snap_writers.specs.Jobs.{charge_call, refused_entry}
use Rattle.snap_writers.specs.Going.{HasTried}
use Rattle.snap_writers.proofs.Calling.{refused, stays, taped}
use Rattle.snap_writers.proofs.Needing.{is_needed, needs_after}

-- the charge that an outcome asks for
abbrev need_in : Outcome → Option Usage
need_in (Ok t) = None
need_in (Err e) = needed_by e

-- an error that asks for none is the operation's own
own_error : (share : Usage) (o : Outcome) (e : FsError) → needed_by e ≡ None → within_share share o ≡ Err e → o ≡ Err e
own_error share (Err own) e plain is = is
own_error share (Ok t) e plain is = by (covers share (count_of t)) is
  where
    by : (b : Bool) → ◌≡◌ {A = Outcome} (if b then Ok t else Err (NeedsCharge (count_of t))) (Err e) → ◌≡◌ {A = Outcome} (Ok t) (Err e)
    by true it = absurd (cc)
    by false it = let wrong : Some (count_of t) ≡ None = ap need_in it ∙ plain in absurd (cc)

-- the first answer is an error: want of memory, or that of the operation within the share
abbrev IsFirst : ActiveValue → Op → FsError → Type 0
IsFirst old op e = (e ≡ OutOfMemory no_memory) ⊎ (worked op old.share.usage old.layer old.lowers ≡ Err e)

-- ---- what a run leaves

module _ (j : Job) (s t : SessionValue) (old new : ActiveValue) (op : Op) where
  -- a charge that is needed is for the next layer
  charge_tried : (need : Usage) (result : Result Unit RunError) → (next : Tree) × (after op old.layer old.lowers ≡ Ok next) × (count_of next ≡ need) → HasCharged s t old new op need (wanted_charge need j.extra) result → HasTried j s t old op result
  charge_tried need (Ok done) (next, made, count) h = (
    call_entry s.number (charge_call j old.share.slot old.share.id need) Nothing (replies.Charged new.share.usage) ∷ [],
    inr (next, new.share.usage, made, ap (λ (u : Usage). call_entry s.number (charge_call j old.share.slot old.share.id u) Nothing (replies.Charged new.share.usage) ∷ []) (sym count)),
    taped s t (charge_call j old.share.slot old.share.id need) Nothing (replies.Charged new.share.usage) h.0.taped,
  )
  charge_tried need (Err (File e)) (next, made, count) h = (
    call_entry s.number (charge_call j old.share.slot old.share.id need) Nothing (replies.Charged new.share.usage) ∷ [],
    [],
    inr (next, new.share.usage, made, ap (λ (u : Usage). call_entry s.number (charge_call j old.share.slot old.share.id u) Nothing (replies.Charged new.share.usage) ∷ []) (sym count)),
    (inl h.0, refl),
    taped s t (charge_call j old.share.slot old.share.id need) Nothing (replies.Charged new.share.usage) h.1.taped,
  )
  charge_tried need (Err (Book why)) (next, made, count) h = (
    [],
    refused_entry s.number (charge_call j old.share.slot old.share.id need) Nothing why,
    inl refl,
    inr (next, made, ap (λ (u : Usage). refused_entry s.number (charge_call j old.share.slot old.share.id u) Nothing why) (sym count)),
    refused s t (charge_call j old.share.slot old.share.id need) Nothing why h.0,
  )

  -- an error that asks for no charge is the answer
  plain_tried : (e : FsError) (result : Result Unit RunError) → needed_by e ≡ None → IsFirst old op e → result ≡ Err (File e) → t ≡ s → HasTried j s t old op result
  plain_tried e result none first is same = subst (HasTried j s t old op) (sym is) ([], [], inl refl, (why first, refl), stays s t same)
    where
      why : IsFirst old op e → (e ≡ OutOfMemory no_memory) ⊎ (after op old.layer old.lowers ≡ Err e)
      why (inl memory) = inl memory
      why (inr failed) = inr (own_error old.share.usage (after op old.layer old.lowers) e none failed)

  error_tried : (e : FsError) (need : Option Usage) (result : Result Unit RunError) → needed_by e ≡ need → IsFirst old op e → HasFailed s t old new op j.extra e need result → HasTried j s t old op result
  error_tried e (Some need) result asked first h =
      charge_tried need result (needs_after old.share.usage need (after op old.layer old.lowers) (after_needs_none need op old.layer old.lowers) (is_needed op old.share.usage need old.layer old.lowers e asked first)) h
  error_tried e None result asked first h = plain_tried e result asked first h.0 h.1

  as_first : (e : FsError) (o : Outcome) → (◌≡◌ {A = Outcome} (Err e) (Err (OutOfMemory no_memory))) ⊎ (◌≡◌ {A = Outcome} (Err e) o) → (e ≡ OutOfMemory no_memory) ⊎ (o ≡ Err e)
  as_first e o (inl memory) = let is : e ≡ OutOfMemory no_memory = cc in inl is
  as_first e o (inr is) = inr (sym is)

  any_tried : (first : Outcome) (result : Result Unit RunError) → (first ≡ Err (OutOfMemory no_memory)) ⊎ (first ≡ worked op old.share.usage old.layer old.lowers) → Follows s t old new op j.extra first result → HasTried j s t old op result
  any_tried (Ok next) result answer h = subst (HasTried j s t old op) (sym h.0) ([], inl refl, stays s t h.1)
  any_tried (Err e) result answer h = error_tried e (needed_by e) result refl (as_first e (worked op old.share.usage old.layer old.lowers) answer) h

  -- the entries of a run are those of an operation of the job
  pub run_tried : (result : Result Unit RunError) → HasRun s t old new op j.extra result → HasTried j s t old op result
  run_tried result h = any_tried h.outcome result h.answer h.follows
