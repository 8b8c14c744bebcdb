-- A saved store as lines, and what lines make, one after another.
use Rattle.std.specs.Prelude.{ℕ, ◌+◌, ◌-◌, ◌^◌, ◌==◌, min, Bool, true, false, if◌then◌else◌, List, [], ◌∷◌, Option, None, Some, Result, Ok, Err}
use Rattle.std.specs.Option.{option_map_or}
use Rattle.snap_call.specs.Results.{◌>>=◌}
use Rattle.snap_world.specs.Restored.{SavedWorldValue}
use Rattle.snap_pieces.specs.declared.line.Line.{Line}
use Rattle.snap_pieces.specs.declared.line.Line.TheVariants as lines
use Rattle.snap_pieces.specs.declared.piece.StoreHead.{StoreHead}
use Rattle.snap_pieces.specs.declared.piece.StorePiece.{StorePiece}
use Rattle.snap_checkpoint.specs.Gathered.{StoreGatheringValue, begun_store, store_of, with_store_piece}
use Rattle.snap_checkpoint.specs.Pieces.{store_head, store_pieces}
use Rattle.snap_checkpoint.specs.declared.fault.StoreFault.{StoreFault}
use Rattle.snap_checkpoint.specs.declared.fault.StoreFault.TheVariants.{Incomplete, Misplaced}

-- one line more, up to the greatest number
abbrev pub one_more : ℕ → ℕ
one_more n = min (n + 1) (2 ^ 64 - 1)

-- the lines behind as many: the pieces that are left, and the end
abbrev pub lines_behind : ℕ → List StorePiece → List Line
lines_behind n [] = lines.End (one_more n) ∷ []
lines_behind n (p ∷ ps) = lines.Piece p ∷ lines_behind (one_more n) ps

-- those that are left: behind the head, or all
abbrev pub lines_left : ℕ → Option StoreHead → Option (List StorePiece) → List Line
lines_left n head None = []
lines_left n None (Some ps) = lines_behind n ps
lines_left n (Some h) (Some ps) = lines.Head h ∷ lines_behind (one_more n) ps

-- the lines of a store: its head, its pieces, and the end, which says how many there are
abbrev pub store_lines : SavedWorldValue → List Line
store_lines w = lines_left 0 (Some (store_head w)) (Some (store_pieces w))

-- no line is left
abbrev pub none_left : List Line → Bool
none_left [] = true
none_left (line ∷ rest) = false

-- how many lines have come of a store, the head among them, and what is gathered of it
pub record LineGatheringValue : Type 0 where
  pub lines : ℕ
  pub store : StoreGatheringValue

-- the saved store of what is gathered, where that are all lines
abbrev pub all_put : ℕ → LineGatheringValue → Result SavedWorldValue StoreFault
all_put n g = if n == one_more g.lines then store_of g.store else Err Incomplete

-- what is gathered with one more line, and the saved store where it is the end: a head begins anew
abbrev pub line_put : Option LineGatheringValue → Line → Result (Option LineGatheringValue × Option SavedWorldValue) StoreFault
line_put g (lines.Head h) = Ok (Some (record { lines = 1; store = begun_store h }), None)
line_put None (lines.Piece piece) = Err Misplaced
line_put (Some g) (lines.Piece piece) = do
  next ← with_store_piece g.store piece
  Ok (Some (record { lines = one_more g.lines; store = next }), None)
line_put None (lines.End n) = Err Misplaced
line_put (Some g) (lines.End n) = do
  saved ← all_put n g
  Ok (None, Some saved)

-- the saved store of the lines one after another up to the first end, or the first fault
abbrev pub lines_put : Option LineGatheringValue → List Line → Result SavedWorldValue StoreFault
lines_put g [] = Err Misplaced
lines_put g (line ∷ rest) = line_put g line >>= λ after. option_map_or Ok after.1 (lines_put after.0 rest)
