use Rattle.std.proofs.Common.{◌≡◌, set, sym, ap, ◌∙◌, subst, arith}
use Rattle.snap_usage.specs.declared.usage.Usage.{Usage}
use Rattle.snap_ledger.specs.States.{plus}
use Rattle.snap_record.specs.Records.{usage_of}
use Rattle.snap_call.specs.declared.state.State.{State}
use Rattle.snap_call.specs.Records.{charge_of}
use Rattle.snap_call.specs.Saved.{CanPutBack}
use Rattle.snap_call.specs.State.{limit_at}
use Rattle.snap_accounts.specs.Accounts.{AreAccounts}
use Rattle.snap_accounts.proofs.Accounting.{few-covered}
use Rattle.snap_accounts.proofs.Saving.{accounts_idle}
use Rattle.snap_accounts.proofs.accounts.Accounts.put_idle.Goals as goal

pub plus-after-requires-clause-blocks : goal.plus-after-requires-clause-blocks
plus-after-requires-clause-blocks g c =
    let s : State = c.args.self.now in
    let r = c.args.added in
    let room = few-covered (limit_at r.namespace s.namespaces) (plus (charge_of r.namespace s.records) (usage_of r.content)) c.total.ensures.limit c.requires.possible.fits in
    omega (arith, room.0, ap (λ (u : Usage). u.blocks) c.total.ensures.total, ap (λ (u : Usage). u.blocks) c.usage.ensures)

pub plus-after-requires-clause-inodes : goal.plus-after-requires-clause-inodes
plus-after-requires-clause-inodes g c =
    let s : State = c.args.self.now in
    let r = c.args.added in
    let room = few-covered (limit_at r.namespace s.namespaces) (plus (charge_of r.namespace s.records) (usage_of r.content)) c.total.ensures.limit c.requires.possible.fits in
    omega (arith, room.1, ap (λ (u : Usage). u.inodes) c.total.ensures.total, ap (λ (u : Usage). u.inodes) c.usage.ensures)

pub invariant_of-self-2 : goal.invariant_of-self-2
invariant_of-self-2 g c =
    let s : State = c.self.inside.state in
    let r = c.args.added in
    let view : s ≡ c.args.self.now = c.self.view_is in
    let total : c.total.result ≡ charge_of r.namespace s.records = c.total.ensures.total ∙ ap (λ (u : State). charge_of r.namespace u.records) (sym view) in
    let after : c.plus-after.result ≡ plus (charge_of r.namespace s.records) (usage_of r.content) = c.plus-after.ensures ∙ (λ i. plus (total i) (c.usage.ensures i)) in
    subst (λ (u : State). AreAccounts u c.set.new.self c.self.inside.slots c.self.inside.opened) (sym c.in_ok-put_saved.ensures.ok)
    (accounts_idle s c.self.inside.totals c.set.new.self c.self.inside.slots c.self.inside.opened r c.self.invariant (subst (λ (u : State). CanPutBack u r) (sym view) c.requires.possible) (c.set.ensures ∙ ap (set c.self.inside.totals r.namespace) after) c.requires.idle)
