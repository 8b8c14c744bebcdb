use Rattle.std.proofs.Common.{◌≡◌, List, OnOk, ap, sym, subst, ◌∙◌}
use Rattle.std.specs.Option.{option_copied, option_map}
use Rattle.snap_record.specs.Labels.{Label}
use Rattle.snap_script.proofs.Maps.{with_no_member, with_text, with_no_text}
use Rattle.snap_script.proofs.fields.insert_member.Goals as goal

pub returns-in_default : goal.returns-in_default
returns-in_default c = with_no_member c.args.key.now c.args.members.now.entries c.args.labels.now (sym c.get.ensures.value ∙ ap option_copied c.in_default.is)

pub returns-in-Some-as_str : goal.returns-in-Some-as_str
returns-in-Some-as_str c =
    subst (λ (labels : List Label). OnOk c.insert_within.result (c.insert_within.new.labels ≡ labels))
    (with_text c.args.key.now c.in-Some-as_str.value.now c.args.members.now.entries c.args.labels.now c.in-Some.member.now (sym c.get.ensures.value ∙ ap option_copied c.in-Some.is) (sym c.as_str.ensures ∙ ap (option_map (λ text. text.now)) c.in-Some-as_str.is))
    c.insert_within.ensures

pub returns-in-None : goal.returns-in-None
returns-in-None c =
    with_no_text c.args.key.now c.args.members.now.entries c.args.labels.now c.in-Some.member.now (sym c.get.ensures.value ∙ ap option_copied c.in-Some.is) (sym c.as_str.ensures ∙ ap (option_map (λ text. text.now)) c.in-None.is)
