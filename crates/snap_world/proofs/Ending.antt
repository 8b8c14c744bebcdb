-- Why a restore that is refused at its end is.
use Rattle.std.proofs.Common.{◌≡◌, ℕ, Bool, true, false, inl, inr, refl, sym, ap, ◌∙◌}
use Rattle.std.specs.Prelude.{◌⊎◌, if◌then◌else◌, nat_lt, Result, Ok, Err}
use Rattle.std.specs.Result.{result_and}
use Rattle.snap_path.specs.Memory.{no_memory}
use Rattle.snap_call.specs.declared.refusal.Refusal.{Refusal}
use Rattle.snap_call.specs.declared.refusal.Refusal.TheVariants.{BadArgument, JournalFull, NumbersSpent, OutOfMemory}
use Rattle.snap_book.specs.Round.{roll_answer}
use Rattle.snap_world.specs.declared.fault.RestoreFault.{RestoreFault}
use Rattle.snap_world.specs.declared.fault.RestoreFault.TheVariants as faults
use Rattle.snap_world.specs.Saved.{RestoringValue, faulted, finish_answer}

-- the answer of the first two tests of a round, and of the third
abbrev first_tests : Bool → Bool → Result (Unit {0}) Refusal
first_tests most spent = if most then Err BadArgument else if spent then Err NumbersSpent else Ok tt

abbrev last_test : Bool → Result (Unit {0}) Refusal
last_test full = if full then Err JournalFull else Ok tt

abbrev tested : Bool → Bool → Bool → Result (Unit {0}) Refusal
tested most spent full = result_and (first_tests most spent) (last_test full)

never_memory : (most spent full : Bool) → ◌≡◌ {A = Result (Unit {0}) Refusal} (tested most spent full) (Err (OutOfMemory no_memory)) → ⊥
never_memory true spent full e = absurd (cc)
never_memory false true full e = absurd (cc)
never_memory false false true e = absurd (cc)
never_memory false false false e = absurd (cc)

-- the fault of a round that can't begin, where memory isn't refused
pub ended_first : (v : RestoringValue) (next_id journal : ℕ) (why : Refusal) (fault answer : RestoreFault) → nat_lt next_id v.state.next_id ≡ false
    → ((w : Refusal) → roll_answer v.state journal ≡ Err w → why ≡ w) → (answer ≡ faults.Journal why) ⊎ (why ≡ OutOfMemory no_memory) → finish_answer v next_id journal ≡ Err fault → answer ≡ fault
ended_first v next_id journal why fault answer above first part e = by (roll_answer v.state journal) refl (sym (ap (λ b. if b then Err faults.NextId else faulted faults.Journal (roll_answer v.state journal)) above) ∙ e) part
  where
    by : (o : Result Unit Refusal) → roll_answer v.state journal ≡ o → faulted faults.Journal o ≡ Err fault → (answer ≡ faults.Journal why) ⊎ (why ≡ OutOfMemory no_memory) → answer ≡ fault
    by (Ok u) is f part = absurd (cc)
    by (Err w) is f (inl same) = let named : faults.Journal w ≡ fault = cc in same ∙ ap (λ (r : Refusal). faults.Journal r) (first w is) ∙ named
    by (Err w) is f (inr refused) = absurd (never_memory _ _ _ (is ∙ ap (λ (r : Refusal). Err r) (sym (first w is) ∙ refused)))
