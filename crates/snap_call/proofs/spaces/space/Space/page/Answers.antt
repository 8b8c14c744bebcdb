use Rattle.std.proofs.Common.{sym, ap, ◌∙◌, ◌++◌, ◌-◌, length, filter, arith}
use Rattle.std.specs.Map.{values_of}
use Rattle.snap_call.specs.Spaces.{joined_records, is_key_after, infos_of}
use Rattle.snap_call.proofs.Entries.{page-infos, infos-all, infos-enough}
use Rattle.snap_call.proofs.Groups.{page-begin, page-next}
use Rattle.snap_call.proofs.spaces.space.Space.page.Goals as goal

pub loop-group-init : goal.loop-group-init
loop-group-init c =
    let after = c.args.after.now in
    page-begin c.args.most c.args.asked.now after c.beginning_of.result c.self.inside.map.entries c.into_iter-group-iterator.result c.new-infos.result c.beginning_of.ensures c.self.invariant.0 c.new-infos.ensures
    (c.into_iter-group-iterator.ensures.into_iter_gives ∙ c.range-group-items.ensures.between tt)
    ∙ ap (λ rs. infos_of c.args.most c.args.asked.now (filter (is_key_after after) rs)) c.self.view_is

pub returns-then-len-most : goal.returns-then-len-most
returns-then-len-most c = λ place of.
    infos-enough c.args.most c.args.asked.now (filter (is_key_after c.args.after.now) (joined_records (values_of c.loop-group.group-iterator))) c.loop-group.infos _ (omega (arith, c.if-len-most.true, c.len.ensures)) c.loop-group.invariant
    ∙ sym (page-infos place c.args.after.now c.args.most c.args.asked.now c.args.self.now of)

pub loop-group-preserved : goal.loop-group-preserved
loop-group-preserved c =
    page-next c.args.most c.args.asked.now c.args.after.now c.in-Some.group.now (joined_records (values_of c.next.new.self)) c.loop-group.infos c.in_ok-infos.infos _
    c.in_ok-infos.ensures
    (sym (ap (λ ts. c.loop-group.infos ++ infos_of (c.args.most - length c.loop-group.infos) c.args.asked.now (filter (is_key_after c.args.after.now) (joined_records (values_of ts)))) c.in-Some.ensures.steps) ∙ c.loop-group.invariant)

pub returns : goal.returns
returns c = λ place of.
    infos-all c.args.most c.args.asked.now (filter (is_key_after c.args.after.now) (joined_records (values_of c.loop-group.group-iterator))) c.loop-group.infos _
    (ap (λ ts. filter (is_key_after c.args.after.now) (joined_records (values_of ts))) c.in-None.ensures.steps.0)
    c.loop-group.invariant
    ∙ sym (page-infos place c.args.after.now c.args.most c.args.asked.now c.args.self.now of)
