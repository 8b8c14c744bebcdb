-- What is kept beside the state, and that the lease is there, while a saved lease is put back.
use Rattle.std.proofs.Common.{◌≡◌, ℕ, true, false, List, [], ◌∷◌, ◌++◌, Some, IsSome, refl, sym, ◌∙◌, subst}
use Rattle.std.specs.Prelude.{◌||◌, bytes_eq, OnOk, Result, Ok}
use Rattle.std.specs.Option.{is_some}
use Rattle.std.proofs.lemmas.Bool.{and_from, or_left, or_right}
use Rattle.std.proofs.lemmas.Slice.Eq.{bytes_eq-Decides}
use Rattle.snap_usage.specs.declared.usage.Usage.{Usage}
use Rattle.snap_ledger.specs.States.{ChargeState}
use Rattle.snap_lease.specs.Lease.{Lease, empty_lease, is_lease}
use Rattle.snap_lease.specs.Leases.{has_lease, with_name_added}
use Rattle.snap_lease.proofs.ListLemmas.{is_lease-changed}
use Rattle.snap_record.specs.Labels.{Bytes}
use Rattle.snap_call.specs.declared.refusal.Refusal.TheVariants.{NotCommitted, NotFound}
use Rattle.snap_call.specs.declared.state.State.{State}
use Rattle.snap_call.specs.Forms.{is_key}
use Rattle.snap_call.specs.Good.{Good}
use Rattle.snap_call.specs.Records.{committed_at, has_key}
use Rattle.snap_call.specs.SavedLeases.{name_answer, with_empty_lease, with_leases}
use Rattle.snap_call.specs.State.{place_of}
use Rattle.snap_call.specs.Step.{leasing}
use Rattle.snap_call.proofs.Leasing.{good_created, good_named}
use Rattle.snap_call.proofs.Places.{past_needed}
use Rattle.snap_accounts.specs.Accounts.{AreAccounts}
use Rattle.snap_accounts.specs.Saved.{HasLeaseAt}
use Rattle.snap_accounts.proofs.Accounting.{accounts_kept}

-- ---- the lease is there

has_last : (namespace lease : Bytes) (ls : List Lease) (k : Lease) → is_lease namespace lease k ≡ true → has_lease (ls ++ k ∷ []) namespace lease ≡ true
has_last namespace lease [] k is = or_left (is_lease namespace lease k) (has_lease [] namespace lease) is
has_last namespace lease (l ∷ ls) k is = or_right (is_lease namespace lease l) (has_lease (ls ++ k ∷ []) namespace lease) (has_last namespace lease ls k is)

-- as the last one
pub last_there : (s : State) (place : ℕ) (l : Lease) → place_of l.namespace s.namespaces ≡ Some place → HasLeaseAt (with_leases s (with_empty_lease s.leases l)) place l
last_there s place l named = record {
  named = named;
  there = has_last l.namespace l.name s.leases (empty_lease l.namespace l.name l.until) (and_from (bytes_eq l.namespace l.namespace) (bytes_eq l.name l.name) ((bytes_eq-Decides l.namespace l.namespace).1 refl) ((bytes_eq-Decides l.name l.name).1 refl));
}

-- a name more takes no lease away
has_added : (namespace lease name space other : Bytes) (ls : List Lease) → has_lease (with_name_added ls namespace lease name) space other ≡ has_lease ls space other
has_added namespace lease name space other [] = refl
has_added namespace lease name space other (l ∷ ls) = λ i. is_lease-changed namespace lease name space other l i || has_added namespace lease name space other ls i

-- the state with one more name of the lease
abbrev pub with_name : State → Lease → Bytes → State
with_name s l name = with_leases s (with_name_added s.leases l.namespace l.name name)

pub name_there : (s : State) (place : ℕ) (l : Lease) (name : Bytes) → HasLeaseAt s place l → HasLeaseAt (with_name s l name) place l
name_there s place l name at = record { named = at.named; there = has_added l.namespace l.name name l.namespace l.name s.leases ∙ at.there }

-- a fact of a success, where the answer is known
pub on_ok : {E : Type 0} (r t : Result (Unit {0}) E) (P : Type 0) → r ≡ t → OnOk t P → OnOk r P
on_ok r t P is h = subst (λ u. OnOk u P) (sym is) h

-- ---- what is kept beside the state

-- other leases keep a state good, also where no entry is counted
good_uncounted : (s : State) (ls : List Lease) → Good s → Good (leasing s ls) → Good (with_leases s ls)
good_uncounted s ls good led = record {
  root = led.root;
  promised = record {
    parents = led.promised.parents;
    leased = led.promised.leased;
    counted = led.promised.counted;
    within = led.promised.within;
    chains = led.promised.chains;
  };
  named_once = led.named_once;
  lease_names = led.lease_names;
  lease_keys = led.lease_keys;
  limits = led.limits;
  short = led.short;
  distinct = led.distinct;
  spaces = led.spaces;
  few_spaces = led.few_spaces;
  placed = led.placed;
  sorted = led.sorted;
  ids = led.ids;
  numbered = led.numbered;
  rising = led.rising;
  fewer = led.fewer;
  formed = good.formed;
  few_slots = led.few_slots;
  slots = led.slots;
  open_slots = led.open_slots;
  shown = led.shown;
  layers = led.layers;
  most = led.most;
}

module _ (s : State) (us : List Usage) (cs : List ChargeState) (n : ℕ) (accounts : AreAccounts s us cs n) where
  leases_put : (ls : List Lease) → Good (leasing s ls) → AreAccounts (with_leases s ls) us cs n
  leases_put ls good = accounts_kept s (with_leases s ls) us cs n accounts (good_uncounted s ls accounts.good good) refl (λ k. refl) (λ k. refl) refl

  pub accounts_last : (place : ℕ) (l : Lease) → place_of l.namespace s.namespaces ≡ Some place → is_key l.name ≡ true → has_lease s.leases l.namespace l.name ≡ false → AreAccounts (with_leases s (with_empty_lease s.leases l)) us cs n
  accounts_last place l named formed new = leases_put (with_empty_lease s.leases l) (good_created s l.namespace l.name l.until place accounts.good named formed new)

  pub accounts_name : (place : ℕ) (l : Lease) (name : Bytes) → HasLeaseAt s place l → name_answer s place l name ≡ Ok tt → AreAccounts (with_name s l name) us cs n
  accounts_name place l name at passed = leases_put (with_name_added s.leases l.namespace l.name name) (good_named s l.namespace l.name name place accounts.good at.named there)
    where
      there : IsSome (committed_at place name s.records)
      there =
          let found = past_needed (has_key place name s.records) NotFound _ tt passed in
          (past_needed (is_some (committed_at place name s.records)) NotCommitted _ tt found.1).0
