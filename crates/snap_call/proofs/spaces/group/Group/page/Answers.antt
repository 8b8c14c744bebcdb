use Rattle.std.proofs.Common.{◌≡◌, sym, ap, ◌∙◌, ◌++◌, ◌-◌, length, filter, arith}
use Rattle.std.specs.Map.{values_of}
use Rattle.std.specs.Option.{option_to_list}
use Rattle.snap_record.specs.Records.{info_of}
use Rattle.snap_call.specs.Spaces.{is_key_after, is_asked, infos_of}
use Rattle.snap_call.proofs.Entries.{values-after, infos-pushed}
use Rattle.snap_call.proofs.spaces.group.Group.page.Goals as goal

pub loop-boxed-init : goal.loop-boxed-init
loop-boxed-init c =
    let es = c.self.inside.others.entries in
    let after = c.args.after.now in
    let shown : values_of es ≡ c.args.self.now = ap (λ o. option_to_list o ++ values_of es) (sym c.in_default.is) ∙ c.self.view_is in
    ap (λ l. c.args.before ++ infos_of (c.args.most - length c.args.before) c.args.asked.now l)
    (ap values_of (c.into_iter-boxed-iterator.ensures.into_iter_gives ∙ c.range-boxed-items.ensures.between tt)
    ∙ values-after c.in_ok-start.start es c.self.invariant.1
    ∙ ap (λ t. filter (is_key_after t) (values_of es)) c.in_ok-start.ensures.ok
    ∙ ap (filter (is_key_after after)) shown)

pub loop-boxed-preserved-in_ok-push-2 : goal.loop-boxed-preserved-in_ok-push-2
loop-boxed-preserved-in_ok-push-2 c =
    let r = c.in-Some-2.boxed.now in
    infos-pushed c.args.most c.args.asked.now r (values_of c.loop-boxed.boxed-iterator) (values_of c.next.new.self) c.loop-boxed.infos c.push-then-matches-2.new.self _ c.in_ok-info-2.field-0
    (omega (arith, c.if-len-most-2.false, c.len-in-loop-boxed.ensures))
    (ap (is_asked c.args.asked.now) (sym c.record-in-loop-boxed.ensures) ∙ sym c.matches-in-loop-boxed.ensures ∙ c.if-matches-2.true)
    (ap values_of c.in-Some-2.ensures.steps)
    (c.in_ok-info-2.ensures ∙ ap info_of c.record-then-matches-2.ensures)
    c.in_ok-push-2.ensures.ok
    c.loop-boxed.invariant
