use Rattle.std.proofs.Common.{◌≡◌, ◌+◌, ◌<◌, ℕ, true, set, sym, ap, ◌∙◌, subst, arith}
use Rattle.snap_usage.specs.declared.usage.Usage.{Usage}
use Rattle.snap_ledger.specs.States.{ChargeState, plus}
use Rattle.snap_record.specs.Records.{usage_of}
use Rattle.snap_call.specs.declared.state.State.{State}
use Rattle.snap_call.specs.Records.{charge_of, is_slot, max_slots}
use Rattle.snap_call.specs.Saved.{CanPutBack}
use Rattle.snap_call.specs.State.{limit_at}
use Rattle.snap_call.proofs.Saving.{free_slot, low_slot}
use Rattle.snap_accounts.specs.Accounts.{AreAccounts}
use Rattle.snap_accounts.proofs.Accounting.{few-covered}
use Rattle.snap_accounts.proofs.Prepared.{charge_in-free, open-most}
use Rattle.snap_accounts.proofs.Saving.{accounts_active, slot_in}
use Rattle.snap_accounts.proofs.accounts.Accounts.put_active.Goals as goal

abbrev as_charge : ℕ → ℕ → Usage → ChargeState
as_charge slot id u = record { slot = slot; id = id; usage = u; issued = true }

pub plus-after-requires-clause-blocks : goal.plus-after-requires-clause-blocks
plus-after-requires-clause-blocks g c =
    let s : State = c.args.self.now in
    let r = c.args.added in
    let room = few-covered (limit_at r.namespace s.namespaces) (plus (charge_of r.namespace s.records) (usage_of r.content)) c.total.ensures.limit c.requires.possible.fits in
    omega (arith, room.0, ap (λ (u : Usage). u.blocks) c.total.ensures.total, ap (λ (u : Usage). u.blocks) c.usage-charged.ensures)

pub plus-after-requires-clause-inodes : goal.plus-after-requires-clause-inodes
plus-after-requires-clause-inodes g c =
    let s : State = c.args.self.now in
    let r = c.args.added in
    let room = few-covered (limit_at r.namespace s.namespaces) (plus (charge_of r.namespace s.records) (usage_of r.content)) c.total.ensures.limit c.requires.possible.fits in
    omega (arith, room.1, ap (λ (u : Usage). u.inodes) c.total.ensures.total, ap (λ (u : Usage). u.inodes) c.usage-charged.ensures)

pub overflow_add-self : goal.overflow_add-self
overflow_add-self g c =
    let most = open-most c.self.inside.state c.self.inside.totals c.self.inside.slots c.self.inside.opened c.self.invariant in
    omega (arith, most)

pub issue-requires-clause-free : goal.issue-requires-clause-free
issue-requires-clause-free g c =
    let s : State = c.self.inside.state in
    let r = c.args.added in
    let slot = c.args.slot in
    let can : CanPutBack s r = subst (λ (u : State). CanPutBack u r) (sym c.self.view_is) c.requires.possible in
    let own : is_slot slot r ≡ true = slot_in slot r.content c.requires.active in
    let low : slot < max_slots = omega (arith, low_slot s r can slot own, c.self.invariant.good.few_slots.1) in
    charge_in-free s c.self.inside.totals c.self.inside.slots c.self.inside.opened slot c.self.invariant low (free_slot s r can slot own)

pub invariant_of-self-2 : goal.invariant_of-self-2
invariant_of-self-2 g c =
    let s : State = c.self.inside.state in
    let r = c.args.added in
    let slot = c.args.slot in
    let view : s ≡ c.args.self.now = c.self.view_is in
    let can : CanPutBack s r = subst (λ (u : State). CanPutBack u r) (sym view) c.requires.possible in
    let total : c.total.result ≡ charge_of r.namespace s.records = c.total.ensures.total ∙ ap (λ (u : State). charge_of r.namespace u.records) (sym view) in
    let after : c.plus-after.result ≡ plus (charge_of r.namespace s.records) (usage_of r.content) = c.plus-after.ensures ∙ (λ i. plus (total i) (c.usage-charged.ensures i)) in
    subst (λ (u : State). AreAccounts u c.set.new.self c.issue.new.self (c.self.inside.opened + 1)) (sym c.in_ok-put_saved.ensures.ok)
    (accounts_active s c.self.inside.totals c.set.new.self c.self.inside.slots c.self.inside.opened r c.self.invariant can (c.set.ensures ∙ ap (set c.self.inside.totals r.namespace) after) slot c.issue.new.self c.requires.active
    (c.issue.ensures.charges ∙ (λ i. set c.self.inside.slots slot (as_charge slot r.id (c.usage-charged.ensures i)))))
