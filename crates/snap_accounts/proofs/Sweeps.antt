-- What is kept beside the state, after a sweep.
use Rattle.std.proofs.Common.{◌≡◌, ℕ, List, set, refl, ap, ◌∙◌}
use Rattle.snap_usage.specs.declared.usage.Usage.{Usage}
use Rattle.snap_ledger.specs.States.{ChargeState, minus}
use Rattle.snap_record.specs.Labels.{Bytes}
use Rattle.snap_call.specs.declared.state.State.{State}
use Rattle.snap_call.specs.Good.{Good}
use Rattle.snap_call.specs.Reached.{swept}
use Rattle.snap_call.specs.Records.{charge_of, without_keys}
use Rattle.snap_call.specs.Step.{swept_at}
use Rattle.snap_call.proofs.Gathered.{without_keys-unswept}
use Rattle.snap_call.proofs.Keeping.{place_of-below}
use Rattle.snap_call.proofs.Sweeping.{charge_at-unswept, good_swept, open_count-unswept, swept_others, swept_total}
use Rattle.snap_accounts.specs.Accounts.{AreAccounts}
use Rattle.snap_accounts.specs.Changes.{IsSweepAt}
use Rattle.snap_accounts.proofs.Accounting.{accounts_total}
use Rattle.snap_call.proofs.Parts.{unswept}

module _ (s : State) (place : ℕ) (namespace : Bytes) (moment : ℕ) (keys : List Bytes) (freed : Usage) (is : IsSweepAt s place namespace moment keys freed) where
  -- the records that stay
  pub stay : Good s → without_keys place keys s.records ≡ unswept s namespace place moment
  stay good = ap (λ ks. without_keys place ks s.records) is.swept ∙ without_keys-unswept s namespace place moment good

  pub accounts_swept : (us vs : List Usage) (cs : List ChargeState) (n : ℕ) → AreAccounts s us cs n → vs ≡ set us place (minus (charge_of place s.records) freed) → AreAccounts (swept_at s namespace place moment) vs cs n
  accounts_swept us vs cs n accounts is_vs =
      accounts_total s (swept_at s namespace place moment) us vs cs n place (minus (charge_of place s.records) (charge_of place (swept s namespace place moment))) accounts
      (good_swept s namespace place moment accounts.good is.named)
      refl
      (place_of-below namespace s.namespaces place is.named)
      (swept_total s namespace place moment)
      (swept_others s namespace place moment)
      (charge_at-unswept s namespace place moment)
      (open_count-unswept s namespace place moment)
      (is_vs ∙ ap (λ u. set us place (minus (charge_of place s.records) u)) is.charged)
