use Rattle.std.proofs.Common.{◌≡◌, ℕ, ◌<◌, List, length, true, true≢false, Some, refl, sym, ap, ◌∙◌, subst, arith}
use Rattle.std.specs.Prelude.{slice_get, replicate, Result, Ok, Err, IfOk, IsErr}
use Rattle.std.proofs.lemmas.List.{length-replicate, get_or-replicate}
use Rattle.std.proofs.lemmas.Option.{slice_get-get_or}
use Rattle.snap_usage.specs.declared.usage.Usage.{Usage}
use Rattle.snap_usage.specs.Counted.{no_usage}
use Rattle.snap_ledger.specs.States.{ChargeState, free_row}
use Rattle.snap_call.specs.declared.config.Config.{Config}
use Rattle.snap_call.specs.declared.state.State.{State}
use Rattle.snap_call.specs.Forms.{is_saved_config}
use Rattle.snap_call.specs.Records.{max_slots}
use Rattle.snap_call.specs.State.{opening}
use Rattle.snap_call.proofs.Kept.{good_opening}
use Rattle.snap_accounts.specs.Accounts.{AreAccounts}
use Rattle.snap_accounts.proofs.Rows.{free_row-get}
use Rattle.snap_accounts.proofs.accounts.Accounts.opening.Goals as goal

zeros : (n k : ℕ) → k < n → slice_get (replicate n no_usage) k ≡ Some no_usage
zeros n k lt =
    let is : length (replicate n no_usage) ≡ n = length-replicate n no_usage in
    let inside : k < length (replicate n no_usage) = omega (arith, is, lt) in
    slice_get-get_or (replicate n no_usage) k no_usage inside ∙ ap (λ (u : Usage). Some u) (get_or-replicate n k no_usage no_usage lt)

-- nothing is charged, and every slot is free
accounts_opened : (config : Config) (us : List Usage) (cs : List ChargeState) → is_saved_config config ≡ true → us ≡ replicate (length config.namespaces) no_usage → cs ≡ free_row max_slots → AreAccounts (opening config) us cs 0
accounts_opened config us cs formed is_us is_cs = record {
  good = good_opening config formed;
  count = ap length is_us ∙ length-replicate (length config.namespaces) no_usage;
  totals_are = λ place lt. ap (λ (l : List Usage). slice_get l place) is_us ∙ zeros (length config.namespaces) place lt;
  charges_are = λ slot lt. ap (λ (l : List ChargeState). slice_get l slot) is_cs ∙ free_row-get max_slots slot lt;
  open_are = refl;
}

-- what a refusal of memory answers
if_err : {T E : Type 0} (P : T → Type 0) (r : Result T E) → IsErr r → IfOk r P
if_err P (Ok x) is = absurd (true≢false (sym is))
if_err P (Err e) is = tt

pub returns-in_err-state : goal.returns-in_err-state
returns-in_err-state g c = if_err _ c.from_residual-in_err-state.result c.from_residual-in_err-state.ensures.0

pub invariant_of-result : goal.invariant_of-result
invariant_of-result g c =
    let counted = c.in_ok-totals.ensures ∙ ap (λ (n : ℕ). replicate n no_usage) c.len.ensures in
    subst (λ (s : State). AreAccounts s c.in_ok-totals.totals c.in_ok-slots.slots 0) (sym c.in_ok-state.ensures.opening)
    (accounts_opened c.args.config c.in_ok-totals.totals c.in_ok-slots.slots c.requires.config counted c.in_ok-slots.ensures)
