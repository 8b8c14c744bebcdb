use Rattle.std.proofs.Common.{sym, ◌∙◌}
use Rattle.snap_path.proofs.Texts.{IsPath-front}
use Rattle.snap_diff.proofs.walk.Walk.front.Goals as goal

pub of-requires : goal.of-requires
of-requires c = IsPath-front c.args.after.now c.split_at.result.0.now c.split_at.result.1.now c.names.ensures.valid (sym c.names.ensures.names ∙ c.split_at.ensures.by_index.0)
