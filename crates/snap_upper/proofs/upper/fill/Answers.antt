use Rattle.std.proofs.Common.{Option, sym, subst}
use Rattle.snap_layer.specs.declared.node.Body.{Body}
use Rattle.snap_layer.specs.Tree.{body}
use Rattle.snap_layer.specs.Contents.{body_content, IsShort}
use Rattle.snap_upper.proofs.Sure.{no_growth}
use Rattle.snap_upper.proofs.upper.fill.Goals as goal

pub edit_content-requires-clause-short : goal.edit_content-requires-clause-short
edit_content-requires-clause-short c = subst (λ (o : Option Body). IsShort c.args.edit (body_content o)) (sym c.requires.there.2) c.requires.there.3

pub returns-in_err-edit_content-clause-sure : goal.returns-in_err-edit_content-clause-sure
returns-in_err-edit_content-clause-sure c = λ none. absurd (no_growth c.args.edit (body_content (body c.args.layer.now c.args.number)) none c.in_err-edit_content.ensures.grows)
