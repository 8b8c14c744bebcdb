use Rattle.std.proofs.Common.{◌∙◌, ap, sym}
use Rattle.snap_counts.specs.Counts.{count_in}
use Rattle.snap_counts.proofs.Reading.{no_entry, none_counted}
use Rattle.snap_counts.proofs.counts.Counts.is_empty.Goals as goal

pub returns : goal.returns
returns c = (
  λ empty q. sym (ap (count_in q) c.self.view_is) ∙ none_counted c.self.inside.map (c.is_empty.ensures.0 empty) q,
  λ none. c.is_empty.ensures.1 (no_entry c.self.inside.map c.self.invariant (λ q. ap (count_in q) c.self.view_is ∙ none q)),
)
