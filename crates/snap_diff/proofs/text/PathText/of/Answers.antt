use Rattle.std.proofs.Common.{◌≡◌, take, arith, append_assoc, ap, ◌∙◌}
use Rattle.std.proofs.lemmas.List.{take_all}
use Rattle.std.proofs.lemmas.Grind.{common_steps}
use Rattle.std.specs.String.{string_bytes}
use Rattle.snap_path.specs.Text.{text_below}
use Rattle.snap_path.proofs.Texts.{text_below_push}
use Rattle.snap_diff.proofs.Texts.{kept_text, told_below}
use Rattle.snap_diff.proofs.text.PathText.of.Goals as goal

pub loop-name-preserved : goal.loop-name-preserved
loop-name-preserved c =
    let pushed = text_below_push (take c.loop-name.name-index c.args.names.now) c.name-item.result in
    grind (arith, common_steps, pushed, append_assoc)

all : (c : goal.After-loop-name) → string_bytes c.loop-name.text ≡ text_below c.args.names.now
all c = c.loop-name.invariant ∙ ap text_below (take_all c.loop-name.name-index c.args.names.now c.loop-name-test.false)

pub invariant_of-result : goal.invariant_of-result
invariant_of-result c = kept_text c.args.names.now (string_bytes c.loop-name.text) c.requires (all c)

pub returns : goal.returns
returns c = told_below c.args.names.now (string_bytes c.loop-name.text) c.requires (all c)
