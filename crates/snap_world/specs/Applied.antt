-- An operation on the layer of a hand, with the charge that it needs.
use Rattle.std.specs.Prelude.{◌≡◌, ◌⊎◌, ℕ, Bool, true, false, Option, None, Some, Result, Ok, Err}
use Rattle.snap_usage.specs.declared.usage.Usage.{Usage}
use Rattle.snap_usage.specs.Counted.{count_of}
use Rattle.snap_merge.specs.declared.error.FsError.TheVariants.{NeedsCharge}
use Rattle.snap_call.specs.declared.call.Call.TheVariants as calls
use Rattle.snap_call.specs.declared.reply.Reply.TheVariants as replies
use Rattle.snap_upper.specs.declared.op.Op.{Op}
use Rattle.snap_book.specs.declared.operation.OpFault.{OpFault}
use Rattle.snap_book.specs.declared.operation.OpFault.TheVariants as faults
use Rattle.snap_book.specs.Active.{ActiveValue}
use Rattle.snap_book.specs.Applied.{HasApplied}
use Rattle.snap_book.specs.Book.{BookValue}
use Rattle.snap_book.specs.Wanted.{wanted_charge}
use Rattle.snap_world.specs.declared.applied.Changed.{Changed}
use Rattle.snap_world.specs.declared.applied.Unapplied.{Unapplied}
use Rattle.snap_world.specs.declared.applied.Unapplied.TheVariants.{File, Charge, NoSession, NoHand}
use Rattle.snap_world.specs.declared.step.Answer.{Answer}
use Rattle.snap_world.specs.declared.step.Answer.TheVariants as answers
use Rattle.snap_world.specs.declared.step.Step.TheVariants.{Hand, Locked}
use Rattle.snap_world.specs.Runs.{Moves}
use Rattle.snap_world.specs.World.{HandValue, WorldValue, hand_at}

-- the charge that an operation needs
abbrev pub need_of : Answer → Option Usage
need_of (answers.File (Err (NeedsCharge need))) = Some need
need_of answer = None

-- a charge was granted
abbrev pub is_charged : Answer → Bool
is_charged (answers.Reply (replies.Charged now)) = true
is_charged answer = false

-- the answer of the last step that was taken
abbrev pub last_answer : Result Changed Unapplied → Answer
last_answer (Ok changed) = answers.File (Ok tt)
last_answer (Err (File e)) = answers.File (Err e)
last_answer (Err (Charge why)) = answers.Reply (replies.Refused why)
last_answer (Err NoSession) = answers.NoSession
last_answer (Err NoHand) = answers.NoHand

-- a charge, and where it is granted, the operation
abbrev pub ChargesAndMoves : WorldValue → ℕ → ℕ → ℕ → Op → Usage → Usage → Answer → WorldValue → Type 0
ChargesAndMoves old n slot id op need extra answer new =
    (Moves old (Locked n (calls.Charge slot id need (wanted_charge need extra))) answer new × (is_charged answer ≡ false))
    ⊎ ((now : Usage) × (mid : WorldValue) × Moves old (Locked n (calls.Charge slot id need (wanted_charge need extra))) (answers.Reply (replies.Charged now)) mid × Moves mid (Hand slot op) answer new)

-- the operation; where it needs a charge, that, and then the operation
abbrev pub OperatesWithin : WorldValue → ℕ → ℕ → ℕ → Op → Usage → Answer → WorldValue → Type 0
OperatesWithin old n slot id op extra answer new =
    (Moves old (Hand slot op) answer new × (need_of answer ≡ None))
    ⊎ ((need : Usage) × Moves old (Hand slot op) (answers.File (Err (NeedsCharge need))) old × ChargesAndMoves old n slot id op need extra answer new)

-- where it was done: what the layer takes now, and what the slot is charged
abbrev pub IsToldOf : ℕ → WorldValue → Result Changed Unapplied → Type 0
IsToldOf slot w (Ok changed) = (h : HandValue) × (hand_at slot w.hands ≡ Some h) × (changed.count ≡ count_of h.snapshot.layer) × (changed.share ≡ h.snapshot.share.usage)
IsToldOf slot w (Err why) = Unit {0}

-- an operation with the charge that it needs: the world after it and its answer are those of the steps
pub record Applies (old : WorldValue) (n slot id : ℕ) (op : Op) (extra : Usage) (result : Result Changed Unapplied) (new : WorldValue) : Type 0 where
  pub steps : OperatesWithin old n slot id op extra (last_answer result) new
  pub told : IsToldOf slot new result

-- the book's answer, and what is told of the snapshot
abbrev pub IsAnswerOf : ActiveValue → Result Usage OpFault → Result Changed Unapplied → Type 0
IsAnswerOf a (Ok count) (Ok changed) = (changed.count ≡ count) × (changed.share ≡ a.share.usage)
IsAnswerOf a (Err (faults.File e)) (Err (File x)) = x ≡ e
IsAnswerOf a (Err (faults.Book why)) (Err (Charge x)) = x ≡ why
IsAnswerOf a (Err faults.NoSession) (Err NoSession) = Unit {0}
IsAnswerOf a (Err faults.OtherId) (Err NoHand) = Unit {0}
IsAnswerOf a r result = ⊥

-- an operation on a hand: a sealed one has none; else it is the book's
abbrev pub HandApplied : BookValue → BookValue → ℕ → ℕ → HandValue → HandValue → Op → Usage → Result Changed Unapplied → Type 0
HandApplied b c n id h k op extra result =
    ((h.sealed ≡ true) × (result ≡ Err NoHand) × (c ≡ b) × (k ≡ h))
    ⊎ ((h.sealed ≡ false) × (k.sealed ≡ false) × (r : Result Usage OpFault) × HasApplied b c n id h.snapshot k.snapshot op extra r × IsAnswerOf k.snapshot r result)

-- the same in a place, where a hand may stand
abbrev pub PlaceApplied : BookValue → BookValue → ℕ → ℕ → Option HandValue → Option HandValue → Op → Usage → Result Changed Unapplied → Type 0
PlaceApplied b c n id None q op extra result = (result ≡ Err NoHand) × (c ≡ b) × (q ≡ None)
PlaceApplied b c n id (Some h) q op extra result = (k : HandValue) × (q ≡ Some k) × HandApplied b c n id h k op extra result
