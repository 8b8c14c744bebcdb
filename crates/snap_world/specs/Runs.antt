-- Lists of steps.
use Rattle.std.specs.Prelude.{◌≡◌, ◌⊎◌, ℕ, true, false, List, [], ◌∷◌, Option, None, Some, Err, IfErr}
use Rattle.std.specs.Option.{option_map}
use Rattle.snap_path.specs.Memory.{no_memory}
use Rattle.snap_merge.specs.declared.error.FsError.TheVariants as errors
use Rattle.snap_call.specs.declared.call.Call.{Call}
use Rattle.snap_call.specs.declared.call.Call.TheVariants as calls
use Rattle.snap_call.specs.declared.refusal.Refusal.TheVariants.{OutOfMemory}
use Rattle.snap_call.specs.declared.reply.Reply.TheVariants.{Refused}
use Rattle.snap_world.specs.declared.step.Step.{Step}
use Rattle.snap_world.specs.declared.step.Step.TheVariants as steps
use Rattle.snap_world.specs.declared.step.Answer.{Answer}
use Rattle.snap_world.specs.declared.step.Answer.TheVariants as answers
use Rattle.snap_upper.specs.declared.op.Op.{Op}
use Rattle.snap_upper.specs.After.{lists_names}
use Rattle.snap_book.specs.Files.{worked}
use Rattle.snap_world.specs.World.{HandValue, WorldValue, Fits, hand_at, with_hand}
use Rattle.snap_world.specs.Stacks.{layers_in}
use Rattle.snap_world.specs.Move.{called, is_full, is_its_session, is_under, is_unsealed, is_working, meets, move, sealed_hand}

-- the world with the hand of the slot sealed
abbrev pub with_sealed : WorldValue → ℕ → WorldValue
with_sealed w slot = record w { hands = with_hand slot (option_map (λ h. sealed_hand h.snapshot) (hand_at slot w.hands)) w.hands }

-- what want of memory leaves: the world as it was. It comes only where the journal has room for the call, and at the hand that the call finds, if it names one. A Commit seals its hand first: where memory for that is refused, the hand is as it was, and after that it is sealed. A Discard never wants memory.
abbrev pub IsLeft : WorldValue → Call → WorldValue → Type 0
IsLeft old (calls.Prepare namespace key parent labels) new = (is_full old 2 ≡ false) × (new ≡ old)
IsLeft old (calls.Charge slot id need want) new = (meets (is_working id) (hand_at slot old.hands) ≡ true) × (is_full old 1 ≡ false) × (new ≡ old)
IsLeft old (calls.Trim slot id) new = (meets (is_working id) (hand_at slot old.hands) ≡ true) × (is_full old 1 ≡ false) × (new ≡ old)
IsLeft old (calls.Commit slot id name lease labels) new =
    ((meets (is_working id) (hand_at slot old.hands) ≡ true) × (new ≡ old)) ⊎ ((meets (is_under id) (hand_at slot old.hands) ≡ true) × (is_full old 1 ≡ false) × (new ≡ with_sealed old slot))
IsLeft old (calls.Discard slot id) new = ⊥
IsLeft old call new = (is_full old 1 ≡ false) × (new ≡ old)

-- a call in its session: its answer and the world after it, or want of memory
abbrev pub DoesCall : WorldValue → ℕ → Call → Answer → WorldValue → Type 0
DoesCall old n call answer new = (called old n call ≡ (new, answer)) ⊎ ((answer ≡ answers.Reply (Refused (OutOfMemory no_memory))) × IsLeft old call new)

-- an operation on a hand wants memory only where it has a next layer that the share covers, or where it lists the names of a directory; else its error is certain before
abbrev pub CanWant : Op → Option HandValue → Type 0
CanWant op None = ⊥
CanWant op (Some h) = IfErr (worked op h.snapshot.share.usage h.snapshot.layer h.snapshot.lowers) (λ e. lists_names op (layers_in h) ≡ true)

-- want of memory, and what it leaves; a call in a session that isn't its own wants none, and an operation only on a hand that isn't sealed
abbrev pub IsWant : WorldValue → Step → Answer → WorldValue → Type 0
IsWant old (steps.Locked n call) answer new = (answer ≡ answers.Reply (Refused (OutOfMemory no_memory))) × (is_its_session old.state.sessions n call ≡ true) × IsLeft old call new
IsWant old (steps.Hand slot op) answer new = (answer ≡ answers.File (Err (errors.OutOfMemory no_memory))) × (meets is_unsealed (hand_at slot old.hands) ≡ true) × CanWant op (hand_at slot old.hands) × (new ≡ old)

-- one step: the answer and the world after it are the definition's, or memory was refused
abbrev pub Moves : WorldValue → Step → Answer → WorldValue → Type 0
Moves old step answer new = (move old step ≡ (new, answer)) ⊎ IsWant old step answer new

-- the steps, one after another, each with its answer; the world after each fits
abbrev pub Runs : WorldValue → List Step → List Answer → WorldValue → Type 0
Runs old [] [] new = new ≡ old
Runs old (s ∷ ss) (a ∷ more) new = (mid : WorldValue) × Moves old s a mid × Fits mid × Runs mid ss more new
Runs old ss more new = ⊥
