use Rattle.std.proofs.Common.{◌∙◌, [], ap, sym, unwrap_or}
use Rattle.snap_counts.specs.Counts.{count_in, count_within}
use Rattle.snap_counts.proofs.Reading.{count_within-by_bytes}
use Rattle.snap_counts.proofs.namespaces.NamespaceCounts.count.Goals as goal

pub returns-in-Some : goal.returns-in-Some
returns-in-Some c =
    let space = c.args.namespace.now in
    let text = c.args.text.now in
    c.count.ensures ∙ ap (λ o. count_in text (unwrap_or o [])) c.in-Some.ensures.value ∙ sym (count_within-by_bytes space text c.self.inside.map) ∙ ap (count_within space text) c.self.view_is

pub returns-in-None : goal.returns-in-None
returns-in-None c =
    let space = c.args.namespace.now in
    let text = c.args.text.now in
    ap (λ o. count_in text (unwrap_or o [])) c.in-None.ensures.value ∙ sym (count_within-by_bytes space text c.self.inside.map) ∙ ap (count_within space text) c.self.view_is
