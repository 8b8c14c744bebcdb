use Rattle.std.proofs.Common.{List, sym, ap, ◌∙◌}
use Rattle.snap_pieces.specs.declared.line.Line.{Line}
use Rattle.snap_checkpoint.specs.Lines.{none_left}
use Rattle.snap_checkpoint.proofs.LinesBack.{none_left_of}
use Rattle.snap_checkpoint.proofs.lines.StoreLines.is_empty.Goals as goal

pub returns : goal.returns
returns c = none_left_of c.self.inside.lines c.self.inside.head c.self.inside.pieces c.is_none.result (sym c.is_none.ensures) ∙ ap (λ (l : List Line). none_left l) c.self.view_is
