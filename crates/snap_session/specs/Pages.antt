-- The lines of a saved store, in pages; cited by the public clauses of `Stepper`.
use Rattle.std.specs.Prelude.{ℕ, zero, suc, ◌-◌, ◌==◌, nat_le, Bool, ◌&&◌, not, if◌then◌else◌, List, [], ◌∷◌, length, None, Some, Result, Ok, Err}
use Rattle.std.specs.Option.{option_map_or}
use Rattle.snap_path.specs.Text.{text_of}
use Rattle.snap_saved.specs.declared.piece.FileKind.{FileKind}
use Rattle.snap_saved.specs.declared.piece.FileKind.TheVariants as file_kinds
use Rattle.snap_saved.specs.declared.piece.Piece.{Piece}
use Rattle.snap_saved.specs.declared.piece.Piece.TheVariants as layer_pieces
use Rattle.snap_pieces.specs.declared.line.Line.{Line}
use Rattle.snap_pieces.specs.declared.line.Line.TheVariants as lines
use Rattle.snap_pieces.specs.declared.piece.StorePiece.{StorePiece}
use Rattle.snap_pieces.specs.declared.piece.StorePiece.TheVariants as pieces
use Rattle.snap_call.specs.declared.refusal.Refusal.{Refusal}
use Rattle.snap_call.specs.declared.refusal.Refusal.TheVariants.{BadArgument}
use Rattle.snap_book.specs.Round.{roll_answer}
use Rattle.snap_world.specs.World.{WorldValue}
use Rattle.snap_world.specs.Restored.{saved_world}
use Rattle.snap_checkpoint.specs.Lines.{none_left, store_lines}
use Rattle.snap_script.specs.declared.answer.Answer.{Answer}
use Rattle.snap_script.specs.declared.answer.Answer.TheVariants as answers
use Rattle.snap_script.specs.declared.fault.Field.{Field}
use Rattle.snap_script.specs.declared.fault.Field.TheVariants as fields
use Rattle.snap_script.specs.declared.refused.Refused.TheVariants as refused
use Rattle.snap_lines.specs.Transcripts.{next_line}
use Rattle.snap_session.specs.Found.{refusal_answer}

-- how many lines have come, of all stores that were saved, and those that are left of the last one
pub record PagesValue : Type 0 where
  pub at : ℕ
  pub lines : List Line

-- before the first page
abbrev pub no_pages : PagesValue
no_pages = record { at = 0; lines = [] }

-- ---- how much is in a page

-- what room for bytes a file or symlink leaves
abbrev pub room_after_file : ℕ → FileKind → ℕ
room_after_file room (file_kinds.Bytes meta) = room
room_after_file room (file_kinds.Sized meta size digest) = option_map_or (λ d. room - length d) digest room
room_after_file room (file_kinds.Symlink target) = room - length target

-- what room a piece of a layer leaves: less by its path, and the bytes of a file
abbrev pub room_after_layer : ℕ → Piece → ℕ
room_after_layer room (layer_pieces.Dir d) = room - length (text_of d.path)
room_after_layer room (layer_pieces.Whiteout path) = room - length (text_of path)
room_after_layer room (layer_pieces.File n kind) = room_after_file room kind
room_after_layer room (layer_pieces.Bytes bytes) = room - length bytes
room_after_layer room (layer_pieces.Name path) = room - length (text_of path)

-- what room a piece leaves: less by its texts
abbrev pub room_after_piece : ℕ → StorePiece → ℕ
room_after_piece room (pieces.Namespace n) = room - length n.name
room_after_piece room (pieces.Snapshot h) = room - length h.namespace - length h.key - length h.parent
room_after_piece room (pieces.Label key value) = room - length key - length value
room_after_piece room (pieces.Layer piece) = room_after_layer room piece
room_after_piece room (pieces.Lease namespace name until) = room - length namespace - length name
room_after_piece room (pieces.Leased name) = room - length name

-- what room a line leaves
abbrev pub room_after : ℕ → Line → ℕ
room_after room (lines.Head h) = room - length h.root
room_after room (lines.Piece piece) = room_after_piece room piece
room_after room (lines.End n) = room

-- ---- a page

-- a page with this line before the others
abbrev pub page_with : Line → List Line × PagesValue → List Line × PagesValue
page_with line page = (line ∷ page.0, page.1)

-- the next lines, at most `most`, up to the one with which no room is left
abbrev pub taken_within : ℕ → ℕ → ℕ → List Line → List Line × PagesValue
taken_within room zero at rest = ([], record { at = at; lines = rest })
taken_within room (suc most) at [] = ([], record { at = at; lines = [] })
taken_within room (suc most) at (line ∷ rest) =
    page_with line (if room_after room line == 0 then ([], record { at = next_line at; lines = rest }) else taken_within (room_after room line) most (next_line at) rest)

-- a page has room for 1 MiB of bytes and texts
abbrev pub taken : ℕ → PagesValue → List Line × PagesValue
taken most p = taken_within 1048576 most p.at p.lines

-- what is left after a page, and its answer: how many lines have come, where more follow
abbrev pub page_answer : List Line × PagesValue → PagesValue × Answer
page_answer page = (page.1, answers.Saved page.0 (if none_left page.1.lines then None else Some page.1.at))

-- the first page of a world that is saved now, unless a roll to as many entries is refused, as its restoration would be
abbrev pub first_page : ℕ → WorldValue → PagesValue → Result Unit Refusal → PagesValue × Answer
first_page most w p (Ok done) = page_answer (taken most (record { at = p.at; lines = store_lines (saved_world w) }))
first_page most w p (Err why) = (p, refusal_answer why)

-- the page was asked for as it can't be
abbrev pub refused_page : Field → Answer
refused_page field = answers.Refused (refused.Book BadArgument) (Some field)

-- lines are left behind as many
abbrev pub is_behind : ℕ → PagesValue → Bool
is_behind after p = (p.at == after) && not (none_left p.lines)

-- a page has 1 to 1,024 lines
abbrev pub is_most : ℕ → Bool
is_most most = nat_le 1 most && nat_le most 1024

-- a page of lines of the world: what is left of them, and the answer
abbrev pub page_told : WorldValue → PagesValue → ℕ → ℕ → PagesValue × Answer
page_told w p after most =
    if is_most most then
    (if after == 0 then first_page most w p (roll_answer w.state w.limit)
    else if is_behind after p then page_answer (taken most p) else (p, refused_page fields.After))
    else (p, refused_page fields.Most)
