-- An operation with the charge that it needs.
use Rattle.std.proofs.Common.{◌≡◌, ◌⊎◌, inl, inr, Bool, true, false, ◌∷◌, None, Result, Ok, Err, refl, sym, ap, subst, ◌∙◌}
use Rattle.std.specs.Prelude.{if◌then◌else◌, IfErr}
use Rattle.snap_path.specs.Memory.{no_memory}
use Rattle.snap_layer.specs.Tree.{Tree}
use Rattle.snap_usage.specs.declared.usage.Usage.{Usage}
use Rattle.snap_usage.specs.Counted.{count_of, covers}
use Rattle.snap_merge.specs.declared.error.FsError.{FsError}
use Rattle.snap_merge.specs.declared.error.FsError.TheVariants.{NeedsCharge, OutOfMemory}
use Rattle.snap_upper.specs.declared.op.Op.{Op}
use Rattle.snap_upper.specs.declared.usage.Planned.{Planned}
use Rattle.snap_upper.specs.After.{Outcome, after, lists_names, planned, within_share}
use Rattle.snap_upper.specs.Memory.{TakesNoMemory}
use Rattle.snap_upper.proofs.Sure.{lists_none}
use Rattle.snap_upper.proofs.Uncharged.{after_needs_none}
use Rattle.snap_ledger.specs.States.{ShareState}
use Rattle.snap_book.specs.declared.charger.ApplyFault.TheVariants.{Charge}
use Rattle.snap_book.specs.Active.{ActiveValue}
use Rattle.snap_book.specs.Applied.{IsFaultOf, Needs}
use Rattle.snap_book.specs.Charging.{HasAppliedBy, HasCovered, IsNotDoneBy}
use Rattle.snap_book.specs.Files.{worked}
use Rattle.snap_book.specs.Wanted.{needed_by}

-- an error that no operation has of its own
own : (e : FsError) (o : Outcome) → ((need : Usage) → o ≡ Err (NeedsCharge need) → ⊥) → o ≡ Err e → needed_by e ≡ None
own (NeedsCharge need) o never is = absurd (never need is)
own e o never is = refl

-- the error of a test asks for no charge, and is that of the operation under each share
pub failed_before : (op : Op) (a : ActiveValue) (e : FsError) → (e ≡ OutOfMemory no_memory) ⊎ (after op a.layer a.lowers ≡ Err e) → (lists_names op (a.layer ∷ a.lowers) ≡ false → after op a.layer a.lowers ≡ Err e) → (needed_by e ≡ None) × IsFaultOf op a e
failed_before op a e error sure = (free error, record { error = under error; first = λ none. first (sure none); sure = λ none. ap (within_share a.share.usage) (sure (lists_none op a.layer a.lowers none)) })
  where
    free : (e ≡ OutOfMemory no_memory) ⊎ (after op a.layer a.lowers ≡ Err e) → needed_by e ≡ None
    free (inl memory) = ap needed_by memory
    free (inr is) = own e (after op a.layer a.lowers) (λ need. after_needs_none need op a.layer a.lowers) is

    under : (e ≡ OutOfMemory no_memory) ⊎ (after op a.layer a.lowers ≡ Err e) → (e ≡ OutOfMemory no_memory) ⊎ (worked op a.share.usage a.layer a.lowers ≡ Err e)
    under (inl memory) = inl memory
    under (inr is) = inr (ap (within_share a.share.usage) is)

    first : after op a.layer a.lowers ≡ Err e → IfErr (worked op a.share.usage a.layer a.lowers) (λ x. e ≡ x)
    first is = subst (λ (o : Outcome). IfErr o (λ x. e ≡ x)) (sym (ap (within_share a.share.usage) is)) refl

-- the count of a plan
abbrev count_or : Usage → Result Planned FsError → Usage
count_or need (Ok p) = p.after
count_or need (Err e) = need

-- an operation that has a next layer has one of the count that was told
counted : (o : Outcome) (need : Usage) → planned o ≡ Ok (record { after = need }) → (t : Tree) × (o ≡ Ok t) × (count_of t ≡ need)
counted (Ok t) need is = (t, refl, ap (count_or need) is)
counted (Err e) need is = absurd (cc)

-- where the share doesn't cover that, it is needed
pub needed : (op : Op) (a : ActiveValue) (need : Usage) → planned (after op a.layer a.lowers) ≡ Ok (record { after = need }) → covers a.share.usage need ≡ false → Needs op a need
needed op a need next lacks =
    let found = counted (after op a.layer a.lowers) need next in
    ap (within_share a.share.usage) found.1
    ∙ (ap (λ (b : Bool). if b then Ok found.0 else Err (NeedsCharge (count_of found.0))) (ap (covers a.share.usage) found.2 ∙ lacks)
    ∙ ap (λ (u : Usage). Err (NeedsCharge u)) found.2)

-- where it does, the operation is done
pub done : (op : Op) (a : ActiveValue) (share need : Usage) (v : Tree) → planned (after op a.layer a.lowers) ≡ Ok (record { after = need }) → covers share need ≡ true → after op a.layer a.lowers ≡ Ok v → worked op share a.layer a.lowers ≡ Ok v
done op a share need v next covered is =
    ap (within_share share) is
    ∙ ap (λ (b : Bool). if b then Ok v else Err (NeedsCharge (count_of v))) (ap (covers share) (ap (count_or need) (ap planned (sym is) ∙ next)) ∙ covered)

-- want of memory in an operation that is covered, and takes some
pub wanted_within : (op : Op) (a : ActiveValue) (need : Usage) (e : FsError) → planned (after op a.layer a.lowers) ≡ Ok (record { after = need }) → covers a.share.usage need ≡ true → e ≡ OutOfMemory no_memory → (TakesNoMemory op a.layer → ⊥) → (needed_by e ≡ None) × IsFaultOf op a e
wanted_within op a need e next covered memory takes =
    let found = counted (after op a.layer a.lowers) need next in
    let is : worked op a.share.usage a.layer a.lowers ≡ Ok found.0 = done op a a.share.usage need found.0 next covered found.1 in
    (ap needed_by memory, record { error = inl memory; first = λ none. subst (λ (o : Outcome). IfErr o (λ x. e ≡ x)) (sym is) tt; sure = λ none. absurd (takes none) })

-- the snapshot with another share
abbrev with_share : ActiveValue → ShareState → ActiveValue
with_share a s = record { namespace = a.namespace; key = a.key; lowers = a.lowers; layer = a.layer; share = s }

module _ {L E : Type 0} (G : L → L → ShareState → Usage → Usage → Usage → Type 0) (F : L → L → ShareState → Usage → Usage → E → Type 0) where
  -- the charge wasn't made
  pub uncovered : (b c : L) (op : Op) (a : ActiveValue) (t : ShareState) (need extra : Usage) (fault : E) → planned (after op a.layer a.lowers) ≡ Ok (record { after = need }) → HasCovered G F b c a.share t need extra (Err fault) → HasAppliedBy G F b c a (with_share a t) op extra (Err (Charge fault))
  uncovered b c op a t need extra fault next h = (need, needed op a need next h.0, h.1, ap (with_share a) h.2)

  -- it was covered, and memory was refused then
  pub unmade : (b c : L) (op : Op) (a : ActiveValue) (t : ShareState) (need extra : Usage) (e : FsError) → planned (after op a.layer a.lowers) ≡ Ok (record { after = need }) → HasCovered G F b c a.share t need extra (Ok tt) → e ≡ OutOfMemory no_memory → (TakesNoMemory op a.layer → ⊥) → IsNotDoneBy G F b c a (with_share a t) op extra e
  unmade b c op a t need extra e next (covered, inl within) memory takes =
      let left = wanted_within op a need e next within.0 memory takes in
      inl (left.0, left.1, within.1, ap (with_share a) within.2)
  unmade b c op a t need extra e next (covered, inr charged) memory takes =
      let found = counted (after op a.layer a.lowers) need next in
      inr (need, needed op a need next charged.0, charged.1, (found.0, done op a t.usage need found.0 next covered found.1), memory, takes, ap (with_share a) charged.3)
