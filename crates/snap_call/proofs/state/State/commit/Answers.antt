use Rattle.std.proofs.Common.{◌≡◌, ◌<◌, ◌∙◌, length, ap, sym, Some}
use Rattle.std.specs.Option.{option_copied}
use Rattle.snap_record.specs.declared.record.Record.{Record}
use Rattle.snap_call.specs.Records.{active_at}
use Rattle.snap_call.proofs.Committing.{has_named-records, state_committed, taken_back}
use Rattle.snap_call.proofs.Lists.{active_at-all, some_same}
use Rattle.snap_call.proofs.Keeping.{placed_below}
use Rattle.snap_call.proofs.state.State.commit.Goals as goal

pub name_in-requires-clause-named : goal.name_in-requires-clause-named
name_in-requires-clause-named c =
    let a = c.in-Some.active.now in
    let e : active_at c.args.slot c.args.self.now.records ≡ Some a = sym c.active_at.ensures ∙ ap option_copied c.in-Some.is in
    has_named-records c.args.self.now c.insert.new.self a.namespace c.args.lease.now ∙ c.requires.named a e

pub returns-in-Err-name_in-clause-err : goal.returns-in-Err-name_in-clause-err
returns-in-Err-name_in-clause-err c =
    let a = c.in-Some.active.now in
    let e : active_at c.args.slot c.args.self.now.records ≡ Some a = sym c.active_at.ensures ∙ ap option_copied c.in-Some.is in
    taken_back c.args.self.now c.args.name.now c.args.labels.now c.args.layer.now a c.in_ok-held.held c.insert.new.self (c.in_ok-held.ensures ∙ c.in_ok-committed.ensures) c.in_default-insert.ensures.ok c.name_in.new.self c.as_str-in-Err-name_in.result.now c.take_key.new.self
    c.in-Err-name_in.ensures.err c.as_str-in-Err-name_in.ensures c.take_key.ensures.taken (c.requires.new a e)

pub returns-clause-ok : goal.returns-clause-ok
returns-clause-ok c = λ r f.
    let a = c.in-Some.active.now in
    let e : active_at c.args.slot c.args.self.now.records ≡ Some a = sym c.active_at.ensures ∙ ap option_copied c.in-Some.is in
    state_committed c.args.self.now c.args.name.now c.args.labels.now c.args.layer.now a c.in_ok-held.held c.insert.new.self (c.in_ok-held.ensures ∙ c.in_ok-committed.ensures) c.in_default-insert.ensures.ok c.name_in.new.self c.args.slot c.args.lease.now c.as_str.result.now c.take_slot.new.self r
    c.requires.good.sorted (some_same a r (sym e ∙ f)) c.as_str.ensures c.in_default-name_in.ensures.ok c.take_slot.ensures.taken

pub name_in-requires-clause-place : goal.name_in-requires-clause-place
name_in-requires-clause-place c =
    let a = c.in-Some.active.now in
    let e : active_at c.args.slot c.args.self.now.records ≡ Some a = sym c.active_at.ensures ∙ ap option_copied c.in-Some.is in
    active_at-all (λ (t : Record). t.namespace < length c.args.self.now.namespaces) c.args.slot c.args.self.now.records a e (placed_below c.args.self.now c.requires.good)
