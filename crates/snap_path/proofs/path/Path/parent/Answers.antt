use Rattle.std.proofs.Common.{sym, ◌∙◌}
use Rattle.snap_path.proofs.Texts.{IsPath-front}
use Rattle.snap_path.proofs.path.Path.parent.Goals as goal

pub from_names-requires : goal.from_names-requires
from_names-requires c = IsPath-front _ _ _ c.self.invariant.1 (sym c.deref.ensures.value ∙ c.in-Some.ensures.cases.0)
