use Rattle.std.proofs.Common.{◌∙◌}
use Rattle.test_parts.proofs.Worked.{page_told}
use Rattle.test_parts.proofs.history.first_page.Goals as goal

pub returns : goal.returns
returns c = page_told _ _ _ c.history-2.result (c.deref.ensures.value ∙ c.in_ok-entries.ensures) c.in_ok-none.ensures c.usage.ensures c.history-2.ensures
