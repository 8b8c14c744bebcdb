-- An operation on an open snapshot, with the charge that it needs, by one who charges; cited by the trait `Charger`.
use Rattle.std.specs.Prelude.{◌≡◌, ◌⊎◌, true, false, None, Result, Ok, Err}
use Rattle.snap_path.specs.Memory.{no_memory}
use Rattle.snap_layer.specs.Tree.{Tree}
use Rattle.snap_usage.specs.declared.usage.Usage.{Usage}
use Rattle.snap_usage.specs.Counted.{Covers, count_of, covers}
use Rattle.snap_ledger.specs.States.{ShareState}
use Rattle.snap_merge.specs.declared.error.FsError.{FsError}
use Rattle.snap_merge.specs.declared.error.FsError.TheVariants.{OutOfMemory}
use Rattle.snap_upper.specs.declared.op.Op.{Op}
use Rattle.snap_upper.specs.Memory.{TakesNoMemory}
use Rattle.snap_book.specs.declared.charger.ApplyFault.{ApplyFault}
use Rattle.snap_book.specs.declared.charger.ApplyFault.TheVariants.{File, Charge}
use Rattle.snap_book.specs.Active.{ActiveValue}
use Rattle.snap_book.specs.Applied.{IsFaultOf, Needs, with_layer_and_share}
use Rattle.snap_book.specs.Files.{worked}
use Rattle.snap_book.specs.Wanted.{needed_by}

-- G: a charge that is made, by the ledger before and after it, the share before it, the need, the extra, and what the share is then; F: one that isn't, and why
module _ {L E : Type 0} (G : L → L → ShareState → Usage → Usage → Usage → Type 0) (F : L → L → ShareState → Usage → Usage → E → Type 0) where
  -- where the share covers the need, no charge is asked for, and all is as it was; else it is, and then the share covers the need, or is as it was
  abbrev pub HasCovered : L → L → ShareState → ShareState → Usage → Usage → Result (Unit {0}) E → Type 0
  HasCovered b c s t need extra (Ok done) = (covers t.usage need ≡ true)
      × (((covers s.usage need ≡ true) × (c ≡ b) × (t ≡ s)) ⊎ ((covers s.usage need ≡ false) × G b c s need extra t.usage × Covers t.usage s.usage × (t ≡ record s { usage = t.usage })))
  HasCovered b c s t need extra (Err fault) = (covers s.usage need ≡ false) × F b c s need extra fault × (t ≡ s)

  -- it was done: within the share, and no charge was asked for; or after the charge that it needs
  abbrev pub IsDoneBy : L → L → ActiveValue → ActiveValue → Op → Usage → Type 0
  IsDoneBy b c old new op extra =
      ((worked op old.share.usage old.layer old.lowers ≡ Ok new.layer) × (c ≡ b) × (new ≡ with_layer_and_share old new.layer old.share.usage))
      ⊎ ((need : Usage) × Needs op old need × G b c old.share need extra new.share.usage × (worked op new.share.usage old.layer old.lowers ≡ Ok new.layer) × (new ≡ with_layer_and_share old new.layer new.share.usage))

  -- an error that asks for no charge, and all is as it was; or want of memory after the charge, which stays
  abbrev pub IsNotDoneBy : L → L → ActiveValue → ActiveValue → Op → Usage → FsError → Type 0
  IsNotDoneBy b c old new op extra e =
      ((needed_by e ≡ None) × IsFaultOf op old e × (c ≡ b) × (new ≡ old))
      ⊎ ((need : Usage) × Needs op old need × G b c old.share need extra new.share.usage × ((next : Tree) × (worked op new.share.usage old.layer old.lowers ≡ Ok next)) × (e ≡ OutOfMemory no_memory) × (TakesNoMemory op old.layer → ⊥) × (new ≡ with_layer_and_share old old.layer new.share.usage))

  -- what comes of an operation, by the answer: it is done, with the count of the layer; it isn't; or the charge that it needs isn't made, and the snapshot is as it was
  abbrev pub HasAppliedBy : L → L → ActiveValue → ActiveValue → Op → Usage → Result Usage (ApplyFault E) → Type 0
  HasAppliedBy b c old new op extra (Ok count) = (count ≡ count_of new.layer) × IsDoneBy b c old new op extra
  HasAppliedBy b c old new op extra (Err (File e)) = IsNotDoneBy b c old new op extra e
  HasAppliedBy b c old new op extra (Err (Charge fault)) = (need : Usage) × Needs op old need × F b c old.share need extra fault × (new ≡ old)
