use Rattle.std.proofs.Common.{◌≡◌, ℕ, List, ap, ◌∙◌, subst}
use Rattle.std.specs.Prelude.{IfOk}
use Rattle.snap_record.specs.Labels.{Bytes}
use Rattle.snap_mount.specs.Mounts.{mounts_of}
use Rattle.snap_call.specs.declared.state.State.{State}
use Rattle.snap_call.specs.State.{ancestors, ids_of, is_too_deep, most_ancestors}
use Rattle.snap_accounts.proofs.accounts.Accounts.mounts_as.Goals as goal

pub chain_ids-requires : goal.chain_ids-requires
chain_ids-requires g c =
    let r = c.args.snapshot.now in
    ap (λ (p : Bytes). is_too_deep most_ancestors r.namespace p c.state-state.result.now.records) c.as_str-parent.ensures
    ∙ (ap (λ (u : State). is_too_deep most_ancestors r.namespace r.parent u.records) c.state-state.ensures.same ∙ c.requires.deep)

pub returns : goal.returns
returns g c =
    let s = c.args.self.now in
    let r = c.args.snapshot.now in
    let ids = ids_of (ancestors r.namespace r.parent s.records) in
    let root_is : c.as_str-root.result.now ≡ s.root = c.as_str-root.ensures ∙ ap (λ (u : State). u.root) c.state-state.ensures.same in
    let slice_is = c.as_slice.ensures in
    let found = c.in_ok-parents.ensures in
    let parent_is = c.as_str-parent.ensures in
    let state_is = c.state-state.ensures.same in
    let ids_are : c.as_slice.result.now ≡ ids_of (ancestors r.namespace r.parent s.records) = cc in
    subst (λ (root : Bytes). IfOk c.mounts_of.result (λ m. m ≡ mounts_of root c.args.kind r.id ids)) root_is
    (subst (λ (l : List ℕ). IfOk c.mounts_of.result (λ m. m ≡ mounts_of c.as_str-root.result.now c.args.kind r.id l)) ids_are c.mounts_of.ensures)
