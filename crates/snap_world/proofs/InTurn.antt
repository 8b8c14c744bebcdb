-- The parts of a saved world, put back one after another.
use Rattle.std.proofs.Common.{◌≡◌, ℕ, ◌+◌, ◌<◌, List, [], ◌∷◌, ◌++◌, length, get_or, drop, map, inl, inr, refl, sym, ap, ◌∙◌, subst, add-one, drop-cons}
use Rattle.std.specs.Prelude.{◌⊎◌, Result, Ok, Err}
use Rattle.snap_path.specs.Memory.{no_memory}
use Rattle.snap_lease.specs.Lease.{Lease}
use Rattle.snap_call.specs.declared.refusal.Refusal.{Refusal}
use Rattle.snap_call.specs.declared.refusal.Refusal.TheVariants as refusals
use Rattle.snap_call.specs.declared.saved_lease.SavedLease.{SavedLease}
use Rattle.snap_call.specs.declared.state.State.{State}
use Rattle.snap_call.specs.Results.{◌>>=◌}
use Rattle.snap_call.specs.SavedLeases.{lease_of, put_lease, put_leases}
use Rattle.snap_world.specs.declared.fault.RestoreFault.{RestoreFault}
use Rattle.snap_world.specs.declared.fault.RestoreFault.TheVariants as faults
use Rattle.snap_world.specs.declared.save.SavedSnapshot.{SavedSnapshot}
use Rattle.snap_world.specs.Restored.{SavedWorldValue, put_leases_from, put_snapshots_from, restored, saved_lease}
use Rattle.snap_world.specs.Saved.{RestoringValue, faulted, finish_answer, open_answer, opened_with, put_snapshot, restored_world}
use Rattle.snap_world.specs.World.{WorldValue}

-- a part that is refused makes the whole so, where memory isn't refused
pub part_refused : {X : Type 0} (whole : Result X RestoreFault) (IsSo : Type 0) (why : Refusal) (part fault : RestoreFault) → (IsSo → whole ≡ Err part)
    → IsSo ⊎ (why ≡ refusals.OutOfMemory no_memory) → (fault ≡ part) ⊎ (why ≡ refusals.OutOfMemory no_memory) → (why ≡ refusals.OutOfMemory no_memory → fault ≡ faults.OutOfMemory no_memory)
    → (whole ≡ Err fault) ⊎ (fault ≡ faults.OutOfMemory no_memory)
part_refused whole IsSo why part fault shows (inl so) (inl same) memory = inl (shows so ∙ ap (λ (f : RestoreFault). Err f) (sym same))
part_refused whole IsSo why part fault shows (inl so) (inr refused) memory = inr (memory refused)
part_refused whole IsSo why part fault shows (inr refused) same memory = inr (memory refused)

-- ---- snapshots

module _ (at : ℕ) (v : RestoringValue) (x : SavedSnapshot) (xs : List SavedSnapshot) where
  -- one that is put back, and those after it
  pub snapshot_put : (next : RestoringValue) → put_snapshot v x.saved x.hand ≡ Ok next → put_snapshots_from at v (x ∷ xs) ≡ put_snapshots_from (at + 1) next xs
  unfolding put_snapshots_from
  snapshot_put next e = ap (λ (o : Result RestoringValue Refusal). faulted (faults.Snapshot at) o >>= λ u. put_snapshots_from (at + 1) u xs) e

  -- one that is refused
  pub snapshot_refused : (why : Refusal) → put_snapshot v x.saved x.hand ≡ Err why → put_snapshots_from at v (x ∷ xs) ≡ Err (faults.Snapshot at why)
  unfolding put_snapshots_from
  snapshot_refused why e = ap (λ (o : Result RestoringValue Refusal). faulted (faults.Snapshot at) o >>= λ u. put_snapshots_from (at + 1) u xs) e

pub no_snapshots : (at : ℕ) (v : RestoringValue) → put_snapshots_from at v [] ≡ Ok v
unfolding put_snapshots_from
no_snapshots at v = refl

pub one_snapshot : (at : ℕ) (v next : RestoringValue) (x : SavedSnapshot) → put_snapshot v x.saved x.hand ≡ Ok next → put_snapshots_from at v (x ∷ []) ≡ Ok next
one_snapshot at v next x e = snapshot_put at v x [] next e ∙ no_snapshots (at + 1) next

-- one list after another
pub snapshots_after : (at : ℕ) (v t : RestoringValue) (xs ys : List SavedSnapshot) (u : RestoringValue) → put_snapshots_from at v xs ≡ Ok t → ((place : ℕ) → put_snapshots_from place t ys ≡ Ok u) → put_snapshots_from at v (xs ++ ys) ≡ Ok u
unfolding put_snapshots_from
snapshots_after at v t [] ys u e more = let same : v ≡ t = cc in subst (λ (s : RestoringValue). put_snapshots_from at s ys ≡ Ok u) (sym same) (more at)
snapshots_after at v t (x ∷ xs) ys u e more = by (put_snapshot v x.saved x.hand) e (λ next is. snapshots_after (at + 1) next t xs ys u is more)
  where
    by : (o : Result RestoringValue Refusal) → (faulted (faults.Snapshot at) o >>= λ next. put_snapshots_from (at + 1) next xs) ≡ Ok t
        → ((next : RestoringValue) → put_snapshots_from (at + 1) next xs ≡ Ok t → put_snapshots_from (at + 1) next (xs ++ ys) ≡ Ok u)
        → (faulted (faults.Snapshot at) o >>= λ next. put_snapshots_from (at + 1) next (xs ++ ys)) ≡ Ok u
    by (Ok next) is goes = goes next is
    by (Err why) is goes = absurd (cc)

-- ---- leases

module _ (at : ℕ) (s : State) (x : SavedLease) (xs : List SavedLease) where
  -- one that is put back, and those after it
  pub lease_put : (next : State) → put_lease s (lease_of x) ≡ Ok next → put_leases_from at s (x ∷ xs) ≡ put_leases_from (at + 1) next xs
  unfolding put_leases_from
  lease_put next e = ap (λ (o : Result State Refusal). faulted (faults.Lease at) o >>= λ t. put_leases_from (at + 1) t xs) e

  -- one that is refused
  pub lease_refused : (why : Refusal) → put_lease s (lease_of x) ≡ Err why → put_leases_from at s (x ∷ xs) ≡ Err (faults.Lease at why)
  unfolding put_leases_from
  lease_refused why e = ap (λ (o : Result State Refusal). faulted (faults.Lease at) o >>= λ t. put_leases_from (at + 1) t xs) e

-- the leases from a place on
pub leases_from : (xs : List SavedLease) (at : ℕ) (x : SavedLease) → at < length xs → x ≡ get_or xs at x → drop at xs ≡ x ∷ drop (at + 1) xs
leases_from xs at x low is = drop-cons xs at x low ∙ (λ i. sym is i ∷ drop (sym (add-one at) i) xs)

pub no_leases : (at : ℕ) (s : State) → put_leases_from at s [] ≡ Ok s
unfolding put_leases_from
no_leases at s = refl

-- what is saved of leases is put back as they are
pub leases_saved : (at : ℕ) (s t : State) (ls : List Lease) → put_leases s ls ≡ Ok t → put_leases_from at s (map saved_lease ls) ≡ Ok t
unfolding put_leases_from
leases_saved at s t [] e = let same : s ≡ t = cc in ap (λ (u : State). Ok u) same
leases_saved at s t (l ∷ ls) e = by (put_lease s l) e (λ next is. leases_saved (at + 1) next t ls is)
  where
    by : (o : Result State Refusal) → (o >>= λ next. put_leases next ls) ≡ Ok t → ((next : State) → put_leases next ls ≡ Ok t → put_leases_from (at + 1) next (map saved_lease ls) ≡ Ok t)
        → (faulted (faults.Lease at) o >>= λ next. put_leases_from (at + 1) next (map saved_lease ls)) ≡ Ok t
    by (Ok next) is goes = goes next is
    by (Err why) is goes = absurd (cc)

-- ---- all of it

module _ (saved : SavedWorldValue) where
  -- once the leases are there
  abbrev pub ending : RestoringValue → Result WorldValue RestoreFault
  ending v = finish_answer v saved.next_id saved.config.journal >>= λ end. Ok (restored_world v saved.next_id saved.config.journal)

  -- once the snapshots are there
  abbrev pub leasing : RestoringValue → Result WorldValue RestoreFault
  leasing v = put_leases_from 0 v.state saved.leases >>= λ state. ending (record v { state = state })

  -- once it is opened
  abbrev pub opened : Result WorldValue RestoreFault
  opened = put_snapshots_from 0 (opened_with saved.config saved.entries) saved.snapshots >>= leasing

  pub past_open : open_answer saved.config saved.entries ≡ Ok tt → restored saved ≡ opened
  past_open e = ap (λ (o : Result Unit RestoreFault). o >>= λ head. opened) e

  pub past_snapshots : (v : RestoringValue) → put_snapshots_from 0 (opened_with saved.config saved.entries) saved.snapshots ≡ Ok v → opened ≡ leasing v
  past_snapshots v e = ap (λ (o : Result RestoringValue RestoreFault). o >>= leasing) e

  pub past_leases : (v : RestoringValue) (s : State) → put_leases_from 0 v.state saved.leases ≡ Ok s → leasing v ≡ ending (record v { state = s })
  past_leases v s e = ap (λ (o : Result State RestoreFault). o >>= λ state. ending (record v { state = state })) e

  pub past_end : (v : RestoringValue) → finish_answer v saved.next_id saved.config.journal ≡ Ok tt → ending v ≡ Ok (restored_world v saved.next_id saved.config.journal)
  past_end v e = ap (λ (o : Result Unit RestoreFault). o >>= λ end. Ok (restored_world v saved.next_id saved.config.journal)) e

  -- the fault of a part
  pub bad_open : (fault : RestoreFault) → open_answer saved.config saved.entries ≡ Err fault → restored saved ≡ Err fault
  bad_open fault e = ap (λ (o : Result Unit RestoreFault). o >>= λ head. opened) e

  pub bad_snapshots : (fault : RestoreFault) → put_snapshots_from 0 (opened_with saved.config saved.entries) saved.snapshots ≡ Err fault → opened ≡ Err fault
  bad_snapshots fault e = ap (λ (o : Result RestoringValue RestoreFault). o >>= leasing) e

  pub bad_leases : (v : RestoringValue) (fault : RestoreFault) → put_leases_from 0 v.state saved.leases ≡ Err fault → leasing v ≡ Err fault
  bad_leases v fault e = ap (λ (o : Result State RestoreFault). o >>= λ state. ending (record v { state = state })) e

  pub bad_end : (v : RestoringValue) (fault : RestoreFault) → finish_answer v saved.next_id saved.config.journal ≡ Err fault → ending v ≡ Err fault
  bad_end v fault e = ap (λ (o : Result Unit RestoreFault). o >>= λ end. Ok (restored_world v saved.next_id saved.config.journal)) e
