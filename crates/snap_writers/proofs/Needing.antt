-- An operation that is done, and one that needs a charge.
use Rattle.std.specs.Prelude.{if◌then◌else◌}
use Rattle.std.proofs.Common.{◌≡◌, ◌≢◌, ◌⊎◌, inl, inr, Bool, true, false, Some, List, Ok, Err, refl, sym, ap, ◌∙◌}
use Rattle.snap_path.specs.Memory.{no_memory}
use Rattle.snap_layer.specs.Tree.{Tree}
use Rattle.snap_usage.specs.declared.usage.Usage.{Usage}
use Rattle.snap_usage.specs.Counted.{count_of, covers}
use Rattle.snap_merge.specs.declared.error.FsError.{FsError}
use Rattle.snap_merge.specs.declared.error.FsError.TheVariants.{NeedsCharge, OutOfMemory}
use Rattle.snap_upper.specs.declared.op.Op.{Op}
use Rattle.snap_upper.specs.After.{Outcome, after, within_share}
use Rattle.snap_book.specs.Files.{worked}
use Rattle.snap_book.specs.Wanted.{needed_by}

-- an operation that is done has its next layer
pub done_after : (share : Usage) (o : Outcome) (next : Tree) → within_share share o ≡ Ok next → o ≡ Ok next
done_after share (Err e) next done = absurd (cc)
done_after share (Ok t) next done = by (covers share (count_of t)) done
  where
    by : (b : Bool) → ◌≡◌ {A = Outcome} (if b then Ok t else Err (NeedsCharge (count_of t))) (Ok next) → ◌≡◌ {A = Outcome} (Ok t) (Ok next)
    by true e = e
    by false e = absurd (cc)

-- one that needs a charge has a next layer, of that count
pub needs_after : (share need : Usage) (o : Outcome) → o ≢ Err (NeedsCharge need) → within_share share o ≡ Err (NeedsCharge need) → (t : Tree) × (o ≡ Ok t) × (count_of t ≡ need)
needs_after share need (Err e) never needs = absurd (never needs)
needs_after share need (Ok t) never needs = by (covers share (count_of t)) needs
  where
    by : (b : Bool) → ◌≡◌ {A = Outcome} (if b then Ok t else Err (NeedsCharge (count_of t))) (Err (NeedsCharge need)) → (u : Tree) × (◌≡◌ {A = Outcome} (Ok t) (Ok u)) × (count_of u ≡ need)
    by true e = absurd (cc)
    by false e = (t, refl, cc)

-- an error that asks for a charge is NeedsCharge
pub asks_for : (e : FsError) (need : Usage) → needed_by e ≡ Some need → e ≡ NeedsCharge need
asks_for (NeedsCharge other) need e = ap (λ (u : Usage). NeedsCharge u) (cc)
asks_for e need asked = absurd (cc)

-- an operation that needs a charge needs it within the share
pub is_needed : (op : Op) (share need : Usage) (layer : Tree) (lowers : List Tree) (e : FsError) → needed_by e ≡ Some need → (e ≡ OutOfMemory no_memory) ⊎ (worked op share layer lowers ≡ Err e) → worked op share layer lowers ≡ Err (NeedsCharge need)
is_needed op share need layer lowers e asked (inl memory) =
    let both : NeedsCharge need ≡ OutOfMemory no_memory = sym (asks_for e need asked) ∙ memory in
    absurd (cc)
is_needed op share need layer lowers e asked (inr failed) = failed ∙ ap (λ (x : FsError). Err x) (asks_for e need asked)
