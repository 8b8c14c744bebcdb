-- An operation on an open snapshot, with the charge that it needs.
use Rattle.std.specs.Prelude.{◌≡◌, ◌⊎◌, ◌↔◌, ℕ, ◌+◌, ◌<◌, ◌≤◌, ◌∷◌, length, true, false, None, Result, Ok, Err, IfErr}
use Rattle.snap_path.specs.Memory.{no_memory}
use Rattle.snap_layer.specs.Tree.{Tree}
use Rattle.snap_usage.specs.declared.usage.Usage.{Usage}
use Rattle.snap_usage.specs.Counted.{Covers, count_of, covers}
use Rattle.snap_ledger.specs.States.{ShareState}
use Rattle.snap_merge.specs.declared.error.FsError.{FsError}
use Rattle.snap_merge.specs.declared.error.FsError.TheVariants.{NeedsCharge, OutOfMemory}
use Rattle.snap_upper.specs.declared.op.Op.{Op}
use Rattle.snap_upper.specs.After.{lists_names}
use Rattle.snap_upper.specs.Memory.{TakesNoMemory}
use Rattle.snap_call.specs.declared.call.Call.{Call}
use Rattle.snap_call.specs.declared.call.Call.TheVariants.{Charge}
use Rattle.snap_call.specs.declared.call.Given.TheVariants.{Nothing}
use Rattle.snap_call.specs.declared.refusal.Refusal.{Refusal}
use Rattle.snap_call.specs.declared.refusal.Refusal.TheVariants.{JournalFull}
use Rattle.snap_call.specs.declared.reply.Reply.TheVariants.{Charged}
use Rattle.snap_call.specs.Records.{open_count}
use Rattle.snap_book.specs.declared.operation.OpFault.{OpFault}
use Rattle.snap_book.specs.declared.operation.OpFault.TheVariants.{File, Book, NoSession, OtherId}
use Rattle.snap_book.specs.Active.{ActiveValue}
use Rattle.snap_book.specs.Book.{BookValue, Recorded, RefusedBy}
use Rattle.snap_book.specs.Files.{worked}
use Rattle.snap_book.specs.Wanted.{needed_by, wanted_charge}

-- the operation needs a charge of this much: what the layer takes after it, which the share doesn't cover
abbrev pub Needs : Op → ActiveValue → Usage → Type 0
Needs op a need = worked op a.share.usage a.layer a.lowers ≡ Err (NeedsCharge need)

-- the call that charges the share's slot for it
abbrev pub need_call : ShareState → Usage → Usage → Call
need_call s need extra = Charge s.slot s.id need (wanted_charge need extra)

-- the session is open, and knows the snapshot by its id
abbrev pub MayCharge : BookValue → ℕ → ℕ → ShareState → Type 0
MayCharge b n id s = (n < b.state.sessions) × (s.id ≡ id)

-- the charge was granted, and the share is `now`
pub record IsGranted (b c : BookValue) (n id : ℕ) (s : ShareState) (need extra now : Usage) : Type 0 where
  pub may : MayCharge b n id s
  pub room : length b.journal + open_count b.state.records < b.limit
  pub recorded : Recorded b c n (need_call s need extra) Nothing (Charged now)

-- the charge was refused
pub record IsRefused (b c : BookValue) (n id : ℕ) (s : ShareState) (need extra : Usage) (why : Refusal) : Type 0 where
  pub may : MayCharge b n id s
  pub refused : RefusedBy b c n (need_call s need extra) Nothing why
  pub full : (why ≡ JournalFull) ↔ (b.limit ≤ length b.journal + open_count b.state.records)

-- why the charge isn't made: it was refused; or the session isn't open; or it is, and knows the snapshot by another id
abbrev pub IsUncharged : BookValue → BookValue → ℕ → ℕ → ShareState → Usage → Usage → OpFault → Type 0
IsUncharged b c n id s need extra (File e) = ⊥
IsUncharged b c n id s need extra (Book why) = IsRefused b c n id s need extra why
IsUncharged b c n id s need extra NoSession = (b.state.sessions ≤ n) × (c ≡ b)
IsUncharged b c n id s need extra OtherId = (n < b.state.sessions) × (s.id ≡ id → ⊥) × (c ≡ b)

-- the snapshot with this layer, and with a share of `now`; all else stays
abbrev pub with_layer_and_share : ActiveValue → Tree → Usage → ActiveValue
with_layer_and_share a layer now = record { namespace = a.namespace; key = a.key; lowers = a.lowers; layer = layer; share = record a.share { usage = now } }

-- the operation's own error, or want of memory; that never stands for an error where no names of a directory are listed, and never comes where the operation takes none
pub record IsFaultOf (op : Op) (a : ActiveValue) (e : FsError) : Type 0 where
  pub error : (e ≡ OutOfMemory no_memory) ⊎ (worked op a.share.usage a.layer a.lowers ≡ Err e)
  pub first : lists_names op (a.layer ∷ a.lowers) ≡ false → IfErr (worked op a.share.usage a.layer a.lowers) (λ x. e ≡ x)
  pub sure : TakesNoMemory op a.layer → worked op a.share.usage a.layer a.lowers ≡ Err e

-- it was done: within the share, and no call was made; or after the charge that it needs
abbrev pub IsDone : BookValue → BookValue → ℕ → ℕ → ActiveValue → ActiveValue → Op → Usage → Type 0
IsDone b c n id old new op extra =
    ((worked op old.share.usage old.layer old.lowers ≡ Ok new.layer) × (c ≡ b) × (new ≡ with_layer_and_share old new.layer old.share.usage))
    ⊎ ((need : Usage) × Needs op old need × IsGranted b c n id old.share need extra new.share.usage × (worked op new.share.usage old.layer old.lowers ≡ Ok new.layer) × (new ≡ with_layer_and_share old new.layer new.share.usage))

-- an error that asks for no charge, and all is as it was; or want of memory after the charge, which stays
abbrev pub IsNotDone : BookValue → BookValue → ℕ → ℕ → ActiveValue → ActiveValue → Op → Usage → FsError → Type 0
IsNotDone b c n id old new op extra e =
    ((needed_by e ≡ None) × IsFaultOf op old e × (c ≡ b) × (new ≡ old))
    ⊎ ((need : Usage) × Needs op old need × IsGranted b c n id old.share need extra new.share.usage × ((next : Tree) × (worked op new.share.usage old.layer old.lowers ≡ Ok next)) × (e ≡ OutOfMemory no_memory) × (TakesNoMemory op old.layer → ⊥) × (new ≡ with_layer_and_share old old.layer new.share.usage))

-- what comes of an operation, by the answer
abbrev pub HasApplied : BookValue → BookValue → ℕ → ℕ → ActiveValue → ActiveValue → Op → Usage → Result Usage OpFault → Type 0
-- done, with the count of the layer
HasApplied b c n id old new op extra (Ok count) = (count ≡ count_of new.layer) × IsDone b c n id old new op extra
HasApplied b c n id old new op extra (Err (File e)) = IsNotDone b c n id old new op extra e
-- the charge that it needs is refused
HasApplied b c n id old new op extra (Err (Book why)) =
    (need : Usage) × Needs op old need × IsRefused b c n id old.share need extra why × (new ≡ old)
-- the charge that it needs isn't made
HasApplied b c n id old new op extra (Err NoSession) = (need : Usage) × Needs op old need × (b.state.sessions ≤ n) × (c ≡ b) × (new ≡ old)
HasApplied b c n id old new op extra (Err OtherId) = (need : Usage) × Needs op old need × (n < b.state.sessions) × (old.share.id ≡ id → ⊥) × (c ≡ b) × (new ≡ old)
