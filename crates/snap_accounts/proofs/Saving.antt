-- What is kept beside the state, after a saved snapshot is put back.
use Rattle.std.proofs.Common.{◌≡◌, ℕ, ◌+◌, ◌<◌, true, false, List, length, set, None, Some, eq-eqb, refl, sym, ap, ◌∙◌, arith}
use Rattle.snap_usage.specs.declared.usage.Usage.{Usage}
use Rattle.snap_ledger.specs.States.{ChargeState, plus}
use Rattle.snap_record.specs.Records.{usage_of}
use Rattle.snap_record.specs.declared.record.Content.{Content}
use Rattle.snap_record.specs.declared.record.Content.TheVariants.{View, Active, Committed}
use Rattle.snap_record.specs.declared.record.Record.{Record}
use Rattle.snap_call.specs.declared.state.State.{State}
use Rattle.snap_call.specs.Indexes.{slot_of}
use Rattle.snap_call.specs.Records.{charge_of, has_slot, is_slot}
use Rattle.snap_call.specs.Saved.{CanPutBack, with_saved}
use Rattle.snap_call.proofs.Counts.{open_count-with_active, open_count-with_record}
use Rattle.snap_call.proofs.Leasing.{taken-below}
use Rattle.snap_call.proofs.Lists.{active_one, some_same}
use Rattle.snap_call.proofs.Saving.{free_slot, good_saved, low_slot}
use Rattle.snap_call.proofs.Slots.{charge_at-with_record_other}
use Rattle.snap_call.proofs.Sums.{charge_of-with_record_own, charge_of-with_record_other}
use Rattle.snap_accounts.specs.Accounts.{AreAccounts}
use Rattle.snap_accounts.proofs.Accounting.{accounts_added, accounts_total}

-- a record is in the slot that it is active in, and what isn't active is in none
idle_out : (k : ℕ) (c : Content) → slot_of c ≡ None → has_slot k c ≡ false
idle_out k (View layers) idle = refl
idle_out k (Active slot charged) idle = absurd (cc)
idle_out k (Committed layer usage) idle = refl

pub slot_in : (slot : ℕ) (c : Content) → slot_of c ≡ Some slot → has_slot slot c ≡ true
slot_in slot (View layers) own = absurd (cc)
slot_in slot (Active k charged) own = eq-eqb k slot (some_same k slot own)
slot_in slot (Committed layer usage) own = absurd (cc)

idle_none : (c : Content) → slot_of c ≡ None → active_one c ≡ 0
idle_none (View layers) idle = refl
idle_none (Active slot charged) idle = absurd (cc)
idle_none (Committed layer usage) idle = refl

module _ (s : State) (us vs : List Usage) (cs : List ChargeState) (n : ℕ) (r : Record) (accounts : AreAccounts s us cs n) (can : CanPutBack s r) (charged : vs ≡ set us r.namespace (plus (charge_of r.namespace s.records) (usage_of r.content))) where
  inside : r.namespace < length s.namespaces
  inside = taken-below r.namespace s.namespaces can.taken

  -- a view or a committed snapshot
  pub accounts_idle : slot_of r.content ≡ None → AreAccounts (with_saved s r) vs cs n
  accounts_idle idle =
      accounts_total s (with_saved s r) us vs cs n r.namespace (plus (charge_of r.namespace s.records) (usage_of r.content)) accounts (good_saved s r accounts.good can) refl inside
      (charge_of-with_record_own r s.records)
      (λ k apart. charge_of-with_record_other k r s.records apart)
      (λ k. charge_at-with_record_other k r s.records (idle_out k r.content idle))
      (let none = idle_none r.content idle in omega (arith, open_count-with_record r s.records, none))
      charged

  -- one that is active in a slot
  pub accounts_active : (slot : ℕ) (ds : List ChargeState) → slot_of r.content ≡ Some slot → ds ≡ set cs slot (record { slot = slot; id = r.id; usage = usage_of r.content; issued = true }) → AreAccounts (with_saved s r) vs ds (n + 1)
  accounts_active slot ds own issued =
      accounts_added s (with_saved s r) us vs cs ds n (n + 1) slot r accounts (good_saved s r accounts.good can)
      (free_slot s r can slot is) is (omega (arith, low_slot s r can slot is, accounts.good.few_slots.1)) inside refl refl
      (ap (λ (k : ℕ). k + 1) accounts.open_are ∙ sym (open_count-with_active slot r s.records is))
      charged issued
    where
      is : is_slot slot r ≡ true
      is = slot_in slot r.content own
