-- A commit of an open snapshot.
use Rattle.std.proofs.Common.{◌≡◌, ℕ, ◌+◌, List, true, false, Some, sym, ap, ◌∙◌}
use Rattle.std.specs.Prelude.{Option}
use Rattle.snap_layer.specs.Tree.{Tree}
use Rattle.snap_record.specs.Labels.{Bytes, Label}
use Rattle.snap_record.specs.declared.record.Record.{Record}
use Rattle.snap_call.specs.declared.state.State.{State}
use Rattle.snap_call.specs.Records.{active_at, has_key, with_record, without_slot, committed_as}
use Rattle.snap_call.specs.Step.{has_named, leases_after}
use Rattle.snap_accounts.specs.Totals.{place_if}

-- the state after it, but for the number of entries
abbrev pub state_after : ℕ → Bytes → Option Bytes → Option (List Label) → Tree → State → Record → State
state_after slot name lease labels layer s r = record s { records = with_record (committed_as name labels layer (s.entries + 1) r) (without_slot slot s.records); leases = leases_after s r.namespace name lease }

pub committed_from : (k slot : ℕ) (name : Bytes) (lease : Option Bytes) (labels : Option (List Label)) (layer : Tree) (s t : State) (r : Record) → k ≡ slot → active_at slot s.records ≡ Some r
    → ((r : Record) → active_at k s.records ≡ Some r → t ≡ state_after k name lease labels layer s r) → t ≡ state_after slot name lease labels layer s r
committed_from k slot name lease labels layer s t r same e done = done r (ap (λ j. active_at j s.records) same ∙ e) ∙ ap (λ j. state_after j name lease labels layer s r) same

-- what is known at the record's place
pub place-free : (k slot : ℕ) (name : Bytes) (s t : State) → k ≡ slot → s ≡ t → has_key (place_if (active_at slot t.records)) name t.records ≡ false → (r : Record) → active_at k s.records ≡ Some r → has_key r.namespace name s.records ≡ false
place-free k slot name s t same is free r e =
    let at : active_at slot s.records ≡ Some r = ap (λ j. active_at j s.records) (sym same) ∙ e in
    ap (λ (o : Option Record). has_key (place_if o) name s.records) (sym at) ∙ ap (λ (u : State). has_key (place_if (active_at slot u.records)) name u.records) is ∙ free

pub place-named : (k slot : ℕ) (lease : Option Bytes) (s t : State) → k ≡ slot → s ≡ t → has_named t (place_if (active_at slot t.records)) lease ≡ true → (r : Record) → active_at k s.records ≡ Some r → has_named s r.namespace lease ≡ true
place-named k slot lease s t same is named r e =
    let at : active_at slot s.records ≡ Some r = ap (λ j. active_at j s.records) (sym same) ∙ e in
    ap (λ (o : Option Record). has_named s (place_if o) lease) (sym at) ∙ ap (λ (u : State). has_named u (place_if (active_at slot u.records)) lease) is ∙ named
