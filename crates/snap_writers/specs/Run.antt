-- An operation on an active snapshot of a store, with the charge that it needs.
use Rattle.std.specs.Prelude.{◌≡◌, ◌⊎◌, ◌∷◌, false, Option, Some, None, Result, Ok, Err, IfErr}
use Rattle.snap_path.specs.Memory.{no_memory}
use Rattle.snap_layer.specs.Tree.{Tree}
use Rattle.snap_usage.specs.declared.usage.Usage.{Usage}
use Rattle.snap_merge.specs.declared.error.FsError.{FsError}
use Rattle.snap_merge.specs.declared.error.FsError.TheVariants.{OutOfMemory}
use Rattle.snap_call.specs.declared.call.Call.TheVariants.{Charge}
use Rattle.snap_call.specs.declared.call.Given.TheVariants.{Nothing}
use Rattle.snap_call.specs.declared.reply.Reply.TheVariants.{Charged}
use Rattle.snap_upper.specs.declared.op.Op.{Op}
use Rattle.snap_upper.specs.After.{Outcome, after, lists_names}
use Rattle.snap_book.specs.Active.{ActiveValue}
use Rattle.snap_book.specs.Applied.{with_layer_and_share}
use Rattle.snap_book.specs.Files.{worked}
use Rattle.snap_book.specs.Wanted.{needed_by, wanted_charge}
use Rattle.snap_tape.specs.Tapes.{RefusedOn, SessionValue, Taped}
use Rattle.snap_store.specs.Values.{IsChargedTo}
use Rattle.snap_writers.specs.declared.running.RunError.{RunError}
use Rattle.snap_writers.specs.declared.running.RunError.TheVariants.{File, Book}

-- the charge was made: its entry is on the tape, and the share is the wanted amount, or else the needed one
pub record IsCharged (s t : SessionValue) (a : ActiveValue) (need want now : Usage) : Type 0 where
  pub taped : Taped s t (Charge a.share.slot a.share.id need want) Nothing (Charged now)
  pub amount : IsChargedTo a.share.usage need want now

-- where a charge is needed: it is made, and the operation done; or memory for that is refused, and the charge stays as spare; or the charge is refused, and the snapshot is as it was
abbrev pub HasCharged : SessionValue → SessionValue → ActiveValue → ActiveValue → Op → Usage → Usage → Result Unit RunError → Type 0
HasCharged s t old new op need want (Ok done) = IsCharged s t old need want new.share.usage × (after op old.layer old.lowers ≡ Ok new.layer) × (new ≡ with_layer_and_share old new.layer new.share.usage)
HasCharged s t old new op need want (Err (File e)) = (e ≡ OutOfMemory no_memory) × IsCharged s t old need want new.share.usage × (new ≡ with_layer_and_share old old.layer new.share.usage)
HasCharged s t old new op need want (Err (Book why)) = RefusedOn s t (Charge old.share.slot old.share.id need want) Nothing why × (new ≡ old)

-- what comes of an error: the charge that it asks for, or it is the answer, no call is made, and all is as it was
abbrev pub HasFailed : SessionValue → SessionValue → ActiveValue → ActiveValue → Op → Usage → FsError → Option Usage → Result Unit RunError → Type 0
HasFailed s t old new op extra e (Some need) result = HasCharged s t old new op need (wanted_charge need extra) result
HasFailed s t old new op extra e None result = (result ≡ Err (File e)) × (t ≡ s) × (new ≡ old)

-- what comes of the operation's first answer: it is done within the share, and no call is made; or its error
abbrev pub Follows : SessionValue → SessionValue → ActiveValue → ActiveValue → Op → Usage → Outcome → Result Unit RunError → Type 0
Follows s t old new op extra (Ok next) result = (result ≡ Ok tt) × (t ≡ s) × (new ≡ with_layer_and_share old next old.share.usage)
Follows s t old new op extra (Err e) result = HasFailed s t old new op extra e (needed_by e) result

-- the first answer is the operation's within the share, or want of memory; where no names of a directory are listed, it is the operation's error where there is one, and never want of memory in its place
pub record HasRun (s t : SessionValue) (old new : ActiveValue) (op : Op) (extra : Usage) (result : Result Unit RunError) : Type 0 where
  pub outcome : Outcome
  pub answer : (outcome ≡ Err (OutOfMemory no_memory)) ⊎ (outcome ≡ worked op old.share.usage old.layer old.lowers)
  pub first : lists_names op (old.layer ∷ old.lowers) ≡ false → IfErr (worked op old.share.usage old.layer old.lowers) (λ e. outcome ≡ Err e)
  pub follows : Follows s t old new op extra outcome result

-- the same snapshot: of the same namespace and key, over the same layers, in its slot under its id
pub record IsSameSnapshot (old new : ActiveValue) : Type 0 where
  pub namespace : new.namespace ≡ old.namespace
  pub key : new.key ≡ old.key
  pub lowers : new.lowers ≡ old.lowers
  pub slot : new.share.slot ≡ old.share.slot
  pub id : new.share.id ≡ old.share.id
