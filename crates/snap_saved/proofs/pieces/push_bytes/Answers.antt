use Rattle.std.proofs.Common.{◌≡◌, ◌<◌, length, min, rules}
use Rattle.snap_saved.specs.declared.piece.Piece.TheVariants.{Bytes}
use Rattle.snap_saved.specs.Pieces.{bytes_in_pieces}
use Rattle.snap_saved.proofs.ByPiece.{no_bytes, no_more, one_more_bytes}
use Rattle.snap_saved.proofs.pieces.push_bytes.Goals as goal

pub loop-rest-preserved : goal.loop-rest-preserved
loop-rest-preserved c =
    let rest = c.loop-rest.rest.now in
    let some : 0 < length rest = search rules in
    let least : c.min.result ≡ min (length rest) 262144 = search rules in
    one_more_bytes c.loop-rest.pieces.items c.push.new.self.items _ rest c.in_ok-copy_of.field-0 c.split_at.result.1.now c.min.result some least (search rules) (search rules) c.in_ok-push.ensures.items c.loop-rest.invariant

pub returns : goal.returns
returns c =
    let rest = c.loop-rest.rest.now in
    let none : length rest ≡ 0 = search rules in
    no_more Bytes c.loop-rest.pieces.items _ (bytes_in_pieces rest) (no_bytes rest none) c.loop-rest.invariant
