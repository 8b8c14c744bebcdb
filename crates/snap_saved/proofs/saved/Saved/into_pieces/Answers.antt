use Rattle.std.proofs.Common.{◌≡◌, rules, sym, ap, ◌∙◌}
use Rattle.snap_saved.specs.Pieces.{head_of, layer_of_pieces, pieces_of}
use Rattle.snap_saved.proofs.PiecesBack.{pieces_back}
use Rattle.snap_saved.proofs.saved.Saved.into_pieces.Goals as goal

pub returns-clause-back : goal.returns-clause-back
returns-clause-back c = λ t ok is.
    let head = ap head_of c.self.view_is in
    let pieces : c.push_files.new.pieces.items ≡ pieces_of c.args.self = search rules in
    (λ i. layer_of_pieces (head i) (pieces i)) ∙ (λ i. layer_of_pieces (head_of (sym is i)) (pieces_of (sym is i))) ∙ pieces_back t ok
