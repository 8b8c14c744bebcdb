-- What a sweep reaches: the snapshots in use, and all that stand above them.
use Rattle.std.proofs.Common.{◌≡◌, ℕ, Bool, true, List, Some, IsSome, sym, ◌∙◌, subst, inl, inr}
use Rattle.std.specs.Prelude.{◌==◌, ◌&&◌, ◌||◌, ◌⊎◌, bytes_eq, find}
use Rattle.std.proofs.lemmas.Bool.{and_parts, and_from, eqb-true, or_cases, or_left, or_right}
use Rattle.std.proofs.lemmas.Slice.Eq.{bytes_eq-Decides}
use Rattle.snap_record.specs.Labels.{Bytes}
use Rattle.snap_record.specs.declared.record.Record.{Record}
use Rattle.snap_call.specs.declared.state.State.{State}
use Rattle.snap_call.specs.Records.{is_named, record_at, committed_at}
use Rattle.snap_call.specs.State.{ancestors, most_ancestors}
use Rattle.snap_call.specs.Reached.{is_in_use, is_reached}
use Rattle.snap_call.specs.Good.{Good}
use Rattle.snap_call.proofs.Lists.{some_same, find-passes, find-all, found-any, any-found, committed_at-record_at}
use Rattle.snap_call.proofs.InOrder.{own_found}
use Rattle.snap_call.proofs.Chains.{chain, OnParent, on_parent-map, KeyOf, IsLink, ancestors-head, ancestors-links}
use Rattle.snap_call.proofs.Keeping.{good_chains}
use Rattle.snap_call.proofs.Parts.{is_ancestor}

-- the reached keys, as a set
abbrev pub IsReached : State → Bytes → ℕ → ℕ → ℕ → Bytes → Type 0
IsReached s namespace place moment p key = is_reached s namespace place moment key ≡ true

-- the record of a key is one
same_record : (rs : List Record) (p q : ℕ) (k l : Bytes) (r t : Record) → p ≡ q → k ≡ l → record_at p k rs ≡ Some r → record_at q l rs ≡ Some t → r ≡ t
same_record rs p q k l r t place key e f = some_same r t (sym e ∙ (λ i. record_at (place i) (key i) rs) ∙ f)

module _ (s : State) (namespace : Bytes) (place moment : ℕ) where
  -- the snapshot is in use, and is that of the key or stands on it
  abbrev reaches : Bytes → Record → Bool
  reaches key r = (r.namespace == place) && is_in_use s namespace moment r && (bytes_eq r.key key || is_ancestor s.records key r)

  -- what a record of the state that is in use stands on is reached
  pub reached_by : (p : Record → Bool) (r : Record) → find p s.records ≡ Some r → (r.namespace == place) ≡ true → is_in_use s namespace moment r ≡ true
      → (key : Bytes) → (bytes_eq r.key key || is_ancestor s.records key r) ≡ true → is_reached s namespace place moment key ≡ true
  reached_by p r e own root key on =
      any-found p (reaches key) s.records r e
      (and_from ((r.namespace == place) && is_in_use s namespace moment r) (bytes_eq r.key key || is_ancestor s.records key r) (and_from (r.namespace == place) (is_in_use s namespace moment r) own root) on)

  module _ (good : Good s) where
    -- the parent of a snapshot in use is none, or is reached
    pub root-above : (p : Record → Bool) (r : Record) → find p s.records ≡ Some r → (r.namespace == place) ≡ true → is_in_use s namespace moment r ≡ true → OnParent (IsReached s namespace place moment) place r.parent
    root-above p r e own root =
        on_parent-map (KeyOf (ancestors r.namespace r.parent s.records)) (IsReached s namespace place moment) r.namespace place r.parent
        (λ h. reached_by p r e own root r.parent (or_right (bytes_eq r.key r.parent) (is_ancestor s.records r.parent r) h))
        (ancestors-head s.records r.namespace r.parent (find-all (λ t. IsSome (chain most_ancestors s.records t)) p s.records r e (good_chains s good)))

    -- so is that of a snapshot that one in use stands on
    ancestor-above : (p : Record → Bool) (r : Record) → find p s.records ≡ Some r → (r.namespace == place) ≡ true → is_in_use s namespace moment r ≡ true → (key : Bytes) → is_ancestor s.records key r ≡ true
        → (t : Record) → committed_at place key s.records ≡ Some t → OnParent (IsReached s namespace place moment) place t.parent
    ancestor-above p r e own root key above t is =
        let rs = s.records in
        let all : List Record = ancestors r.namespace r.parent rs in
        let some : IsSome (chain most_ancestors rs r) = find-all (λ u. IsSome (chain most_ancestors rs u)) p rs r e (good_chains s good) in
        let f = found-any (λ (u : Record). bytes_eq u.key key) all above in
        let named : f.0.key ≡ key = (bytes_eq-Decides f.0.key key).0 (find-passes (λ (u : Record). bytes_eq u.key key) all f.0 f.1) in
        let link : IsLink rs r.namespace all f.0 = find-all (IsLink rs r.namespace all) (λ (u : Record). bytes_eq u.key key) all f.0 f.1 (ancestors-links rs r.namespace r.parent some) in
        let same : f.0 ≡ t =
        same_record rs r.namespace place f.0.key key f.0 t (eqb-true r.namespace place own) named
        (committed_at-record_at r.namespace f.0.key rs f.0 link.0) (committed_at-record_at place key rs t is) in
        subst (λ (u : Record). OnParent (IsReached s namespace place moment) place u.parent) same
        (on_parent-map (KeyOf all) (IsReached s namespace place moment) r.namespace place f.0.parent
        (λ h. reached_by p r e own root f.0.parent (or_right (bytes_eq r.key f.0.parent) (is_ancestor rs f.0.parent r) h)) link.1)

    -- a committed snapshot that is reached has no parent, or one that is reached
    pub reached-above : (key : Bytes) (r : Record) → committed_at place key s.records ≡ Some r → is_reached s namespace place moment key ≡ true → OnParent (IsReached s namespace place moment) place r.parent
    reached-above key r is reached = by (or_cases (bytes_eq f.0.key key) (is_ancestor s.records key f.0) h.1)
      where
        f : (t : Record) × (find (reaches key) s.records ≡ Some t)
        f = found-any (reaches key) s.records reached

        h : (((f.0.namespace == place) && is_in_use s namespace moment f.0) ≡ true) × ((bytes_eq f.0.key key || is_ancestor s.records key f.0) ≡ true)
        h = and_parts ((f.0.namespace == place) && is_in_use s namespace moment f.0) (bytes_eq f.0.key key || is_ancestor s.records key f.0) (find-passes (reaches key) s.records f.0 f.1)

        root : ((f.0.namespace == place) ≡ true) × (is_in_use s namespace moment f.0 ≡ true)
        root = and_parts (f.0.namespace == place) (is_in_use s namespace moment f.0) h.0

        by : (bytes_eq f.0.key key ≡ true) ⊎ (is_ancestor s.records key f.0 ≡ true) → OnParent (IsReached s namespace place moment) place r.parent
        by (inl same) =
            subst (λ (u : Record). OnParent (IsReached s namespace place moment) place u.parent)
            (same_record s.records f.0.namespace place f.0.key key f.0 r (eqb-true f.0.namespace place root.0) ((bytes_eq-Decides f.0.key key).0 same)
            (find-all (λ t. record_at t.namespace t.key s.records ≡ Some t) (reaches key) s.records f.0 f.1 (own_found s.records good.sorted)) (committed_at-record_at place key s.records r is))
            (root-above (reaches key) f.0 f.1 root.0 root.1)
        by (inr above) = ancestor-above (reaches key) f.0 f.1 root.0 root.1 key above r is

    -- a key is reached exactly where a snapshot of the namespace is in use that has it, or stands on it
    pub reached-from : (key : Bytes) → is_reached s namespace place moment key ≡ true
        → (r : Record) × (record_at place r.key s.records ≡ Some r) × (is_in_use s namespace moment r ≡ true) × ((r.key ≡ key) ⊎ (is_ancestor s.records key r ≡ true))
    reached-from key reached =
        let f = found-any (reaches key) s.records reached in
        let h = and_parts ((f.0.namespace == place) && is_in_use s namespace moment f.0) (bytes_eq f.0.key key || is_ancestor s.records key f.0) (find-passes (reaches key) s.records f.0 f.1) in
        let root = and_parts (f.0.namespace == place) (is_in_use s namespace moment f.0) h.0 in
        let own : record_at f.0.namespace f.0.key s.records ≡ Some f.0 = find-all (λ t. record_at t.namespace t.key s.records ≡ Some t) (reaches key) s.records f.0 f.1 (own_found s.records good.sorted) in
        (f.0, subst (λ (n : ℕ). record_at n f.0.key s.records ≡ Some f.0) (eqb-true f.0.namespace place root.0) own, root.1, on f.0 (or_cases (bytes_eq f.0.key key) (is_ancestor s.records key f.0) h.1))
      where
        on : (r : Record) → (bytes_eq r.key key ≡ true) ⊎ (is_ancestor s.records key r ≡ true) → (r.key ≡ key) ⊎ (is_ancestor s.records key r ≡ true)
        on r (inl same) = inl ((bytes_eq-Decides r.key key).0 same)
        on r (inr above) = inr above

  pub from-reached : (key : Bytes) (r : Record) → record_at place r.key s.records ≡ Some r → is_in_use s namespace moment r ≡ true → (r.key ≡ key) ⊎ (is_ancestor s.records key r ≡ true) → is_reached s namespace place moment key ≡ true
  from-reached key r e root on =
      reached_by (is_named place r.key) r e (and_parts (r.namespace == place) (bytes_eq r.key r.key) (find-passes (is_named place r.key) s.records r e)).0 root key (by on)
    where
      by : (r.key ≡ key) ⊎ (is_ancestor s.records key r ≡ true) → (bytes_eq r.key key || is_ancestor s.records key r) ≡ true
      by (inl same) = or_left (bytes_eq r.key key) (is_ancestor s.records key r) ((bytes_eq-Decides r.key key).1 same)
      by (inr above) = or_right (bytes_eq r.key key) (is_ancestor s.records key r) above
