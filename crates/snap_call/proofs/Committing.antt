-- A commit: the committed record comes, and then the active one goes.
use Rattle.std.proofs.Common.{◌≡◌, ℕ, ◌+◌, true, false, List, Some, None, refl, ap, ◌∙◌}
use Rattle.std.specs.List.Sorted.{IsStrictlySortedBy}
use Rattle.std.specs.Prelude.{Option}
use Rattle.snap_layer.specs.Tree.{Tree}
use Rattle.snap_record.specs.Labels.{Bytes, Label}
use Rattle.snap_record.specs.declared.record.Record.{Record}
use Rattle.snap_call.specs.Records.{record_cmp, is_named, is_slot, has_key, with_record, without_key, without_slot, committed_as}
use Rattle.snap_call.specs.Step.{has_named, leases_after}
use Rattle.snap_call.specs.declared.state.State.{State}
use Rattle.snap_call.proofs.InOrder.{own_named, without-with_record, without-with_record_own}
use Rattle.snap_call.proofs.Lists.{none-passes}

-- the leases don't see the records
pub has_named-records : (s : State) (rs : List Record) (place : ℕ) (lease : Option Bytes) → has_named (record s { records = rs }) place lease ≡ has_named s place lease
has_named-records s rs place None = refl
has_named-records s rs place (Some lease) = refl

leases_after-records : (s : State) (rs : List Record) (place : ℕ) (name : Bytes) (lease : Option Bytes) → leases_after (record s { records = rs }) place name lease ≡ leases_after s place name lease
leases_after-records s rs place name None = refl
leases_after-records s rs place name (Some lease) = refl

module _ (s : State) (name : Bytes) (labels : Option (List Label)) (layer : Tree) (a c : Record) (us : List Record) (is : c ≡ committed_as name labels layer (s.entries + 1) a) (came : us ≡ with_record c s.records) where
  -- where the lease refuses the name, the committed record goes again
  pub taken_back : (t : State) (k : Bytes) (ts : List Record) → t ≡ record s { records = us } → k ≡ name → ts ≡ without_key a.namespace k t.records → has_key a.namespace name s.records ≡ false → record t { records = ts } ≡ s
  taken_back t k ts same named left free = λ i. record (same i) { records = back i }
    where
      own : is_named a.namespace name c ≡ true
      own = ap (is_named a.namespace name) is ∙ own_named (committed_as name labels layer (s.entries + 1) a)

      back : ts ≡ s.records
      back =
          left ∙ (λ i. without_key a.namespace (named i) (same i).records) ∙ ap (without_key a.namespace name) came
          ∙ without-with_record_own (is_named a.namespace name) c s.records own (none-passes (is_named a.namespace name) s.records free)

  -- where it takes it, the active one goes
  pub state_committed : (t : State) (slot : ℕ) (lease : Option Bytes) (k : Bytes) (ts : List Record) (r : Record) → IsStrictlySortedBy record_cmp s.records → a ≡ r → k ≡ name
      → t ≡ record s { records = us; leases = leases_after (record s { records = us }) a.namespace k lease } → ts ≡ without_slot slot t.records
      → record t { records = ts } ≡ record s { records = with_record (committed_as name labels layer (s.entries + 1) r) (without_slot slot s.records); leases = leases_after s r.namespace name lease }
  state_committed t slot lease k ts r sorted same named leased left = (λ i. record (leased i) { records = ts }) ∙ (λ i. record s { records = rest i; leases = leases i })
    where
      idle : is_slot slot c ≡ false
      idle = ap (is_slot slot) is

      rest : ts ≡ with_record (committed_as name labels layer (s.entries + 1) r) (without_slot slot s.records)
      rest =
          left ∙ ap (λ (u : State). without_slot slot u.records) leased ∙ ap (without_slot slot) came ∙ without-with_record (is_slot slot) c s.records idle sorted
          ∙ ap (λ x. with_record x (without_slot slot s.records)) (is ∙ ap (committed_as name labels layer (s.entries + 1)) same)

      leases : leases_after (record s { records = us }) a.namespace k lease ≡ leases_after s r.namespace name lease
      leases = leases_after-records s us a.namespace k lease ∙ (λ i. leases_after s (same i).namespace (named i) lease)
