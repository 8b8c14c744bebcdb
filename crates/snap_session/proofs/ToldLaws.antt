-- What is read of the text of a saved line is the command that restores it.
use Rattle.std.proofs.Common.{◌≡◌, ◌≤◌, ℕ, Bool, true, false, List, length, Option, None, Some, Result, Ok, Err, refl, ap, ◌∙◌, arith}
use Rattle.std.specs.Prelude.{if◌then◌else◌, nat_lt, is_some}
use Rattle.std.specs.Option.{ok_or}
use Rattle.std.specs.Str.{is_utf8}
use Rattle.std.proofs.lemmas.Bool.Decides.{nat_tests}
use Rattle.serde_json.specs.Data.{Data}
use Rattle.serde_json.specs.Find.{as_object}
use Rattle.serde_json.specs.Read.{read}
use Rattle.serde_json.specs.Written.{compact_text}
use Rattle.snap_call.specs.Results.{◌>>=◌}
use Rattle.snap_saved.specs.declared.piece.FileKind.TheVariants as file_kinds
use Rattle.snap_saved.specs.declared.piece.Piece.TheVariants as layer_pieces
use Rattle.json.specs.Print.{escape_byte}
use Rattle.snap_marks.specs.Marks.{is_mark_line}
use Rattle.snap_pieces.specs.Read.{line_said}
use Rattle.snap_pieces.specs.Written.{line_data}
use Rattle.snap_pieces.specs.declared.field.LineField.{LineField}
use Rattle.snap_pieces.specs.declared.line.Line.{Line as SavedLine}
use Rattle.snap_pieces.specs.declared.line.Line.TheVariants as saved
use Rattle.snap_pieces.specs.declared.piece.SnapshotKind.{SnapshotKind}
use Rattle.snap_pieces.specs.declared.piece.SnapshotKind.TheVariants as kinds
use Rattle.snap_pieces.specs.declared.piece.StorePiece.TheVariants as pieces
use Rattle.snap_script.specs.declared.command.Command.TheVariants.{Restore}
use Rattle.snap_script.specs.declared.fault.Fault.{Fault}
use Rattle.snap_script.specs.declared.fault.Fault.TheVariants.{NotAnObject, NotJson, TooLong}
use Rattle.snap_script.specs.declared.line.Line.{Line}
use Rattle.snap_script.specs.declared.line.Line.TheVariants.{Command, Empty}
use Rattle.snap_script.specs.declared.unknown.FieldRule.TheVariants.{KnownAndId}
use Rattle.snap_script.specs.Commands.{command_of}
use Rattle.snap_script.specs.Known.{known_fields}
use Rattle.snap_script.specs.Words.{verb_of}
use Rattle.snap_session.specs.Kept.{kept_line}
use Rattle.snap_session.specs.Opened.{OpenedValue, ScriptValue}
use Rattle.snap_script.specs.Lines.{allowed, command_in, command_line, is_empty, json_of, line_of, object_in, object_of, told_by_rule}

-- the value of a line is the command `restore` with what the line says
in_command : (l : SavedLine) → command_in KnownAndId false (line_data l) ≡ Ok (Command 0 (Restore (line_said (line_data l))))
unfolding command_in allowed known_fields command_of verb_of
in_command (saved.Head h) = refl
in_command (saved.End n) = refl
in_command (saved.Piece (pieces.Namespace n)) = refl
in_command (saved.Piece (pieces.Label key value)) = refl
in_command (saved.Piece (pieces.Leased name)) = refl
in_command (saved.Piece (pieces.Lease namespace name None)) = refl
in_command (saved.Piece (pieces.Lease namespace name (Some until))) = refl
in_command (saved.Piece (pieces.Layer (layer_pieces.Dir d))) = refl
in_command (saved.Piece (pieces.Layer (layer_pieces.Whiteout p))) = refl
in_command (saved.Piece (pieces.Layer (layer_pieces.Bytes bs))) = refl
in_command (saved.Piece (pieces.Layer (layer_pieces.Name p))) = refl
in_command (saved.Piece (pieces.Layer (layer_pieces.File n (file_kinds.Bytes meta)))) = refl
in_command (saved.Piece (pieces.Layer (layer_pieces.File n (file_kinds.Sized meta size None)))) = refl
in_command (saved.Piece (pieces.Layer (layer_pieces.File n (file_kinds.Sized meta size (Some digest))))) = refl
in_command (saved.Piece (pieces.Layer (layer_pieces.File n (file_kinds.Symlink target)))) = refl
in_command (saved.Piece (pieces.Snapshot h)) = by h.kind
  where
    by : (k : SnapshotKind) → command_in KnownAndId false (line_data (saved.Piece (pieces.Snapshot (record h { kind = k })))) ≡ Ok (Command 0 (Restore (line_said (line_data (saved.Piece (pieces.Snapshot (record h { kind = k })))))))
    by kinds.View = refl
    by (kinds.Active slot charged None) = refl
    by (kinds.Active slot charged (Some hand)) = refl
    by (kinds.Committed layer) = refl

-- the value of a line is an object, whose text begins with its brace
abbrev pub Begins : SavedLine → Type 0
Begins l = (is_some (as_object (line_data l)) ≡ true) × (is_empty (compact_text (line_data l)) ≡ false)

pub begins : (l : SavedLine) → Begins l
begins (saved.Head h) = (refl, refl)
begins (saved.End n) = (refl, refl)
begins (saved.Piece (pieces.Namespace n)) = (refl, refl)
begins (saved.Piece (pieces.Snapshot h)) = (refl, refl)
begins (saved.Piece (pieces.Label key value)) = (refl, refl)
begins (saved.Piece (pieces.Leased name)) = (refl, refl)
begins (saved.Piece (pieces.Lease namespace name until)) = (refl, refl)
begins (saved.Piece (pieces.Layer (layer_pieces.Dir d))) = (refl, refl)
begins (saved.Piece (pieces.Layer (layer_pieces.Whiteout p))) = (refl, refl)
begins (saved.Piece (pieces.Layer (layer_pieces.Bytes bs))) = (refl, refl)
begins (saved.Piece (pieces.Layer (layer_pieces.Name p))) = (refl, refl)
begins (saved.Piece (pieces.Layer (layer_pieces.File n (file_kinds.Bytes meta)))) = (refl, refl)
begins (saved.Piece (pieces.Layer (layer_pieces.File n (file_kinds.Sized meta size digest)))) = (refl, refl)
begins (saved.Piece (pieces.Layer (layer_pieces.File n (file_kinds.Symlink target)))) = (refl, refl)

abbrev then_command : Result Data Fault → Result Line Fault
then_command r = r >>= λ d. told_by_rule KnownAndId (command_in KnownAndId false d)

-- what is read of its text is the command that restores it
line_told : (l : SavedLine) → is_utf8 (compact_text (line_data l)) ≡ true → length (compact_text (line_data l)) ≤ 16777216 → read (compact_text (line_data l)) ≡ Some (line_data l) → line_said (line_data l) ≡ Ok l
    → line_of KnownAndId false (compact_text (line_data l)) ≡ Ok (Command 0 (Restore (Ok l)))
unfolding line_of command_line object_in json_of
line_told l utf8 low reads said =
    let bytes : List ℕ = compact_text (line_data l) in
    let d : Data = line_data l in
    let fits : nat_lt 16777216 (length bytes) ≡ false = grind (arith, nat_tests) in
    ap (λ (t : Bool). if t then Err TooLong else (if is_empty bytes then Ok Empty else command_line KnownAndId false bytes)) fits
    ∙ ap (λ (t : Bool). if t then Ok Empty else command_line KnownAndId false bytes) (begins l).1
    ∙ ap (λ (t : Bool). then_command ((if t then ok_or (read bytes) NotJson else Err NotJson) >>= λ x. object_of x)) utf8
    ∙ ap (λ (o : Option Data). then_command (ok_or o NotJson >>= λ x. object_of x)) reads
    ∙ ap (λ (t : Bool). then_command (if t then Ok d else Err NotAnObject)) (begins l).0
    ∙ ap (λ (r : Result Line Fault). told_by_rule KnownAndId r) (in_command l)
    ∙ ap (λ (r : Result SavedLine LineField). let out : Result Line Fault = Ok (Command 0 (Restore r)) in out) said

-- and it is no mark
no_mark : (l : SavedLine) → is_mark_line (compact_text (line_data l)) ≡ false
unfolding escape_byte
no_mark (saved.Head h) = refl
no_mark (saved.End n) = refl
no_mark (saved.Piece (pieces.Namespace n)) = refl
no_mark (saved.Piece (pieces.Label key value)) = refl
no_mark (saved.Piece (pieces.Leased name)) = refl
no_mark (saved.Piece (pieces.Lease namespace name until)) = refl
no_mark (saved.Piece (pieces.Layer (layer_pieces.Dir d))) = refl
no_mark (saved.Piece (pieces.Layer (layer_pieces.Whiteout p))) = refl
no_mark (saved.Piece (pieces.Layer (layer_pieces.Bytes bs))) = refl
no_mark (saved.Piece (pieces.Layer (layer_pieces.Name p))) = refl
no_mark (saved.Piece (pieces.Layer (layer_pieces.File n (file_kinds.Bytes meta)))) = refl
no_mark (saved.Piece (pieces.Layer (layer_pieces.File n (file_kinds.Sized meta size None)))) = refl
no_mark (saved.Piece (pieces.Layer (layer_pieces.File n (file_kinds.Sized meta size (Some digest))))) = refl
no_mark (saved.Piece (pieces.Layer (layer_pieces.File n (file_kinds.Symlink target)))) = refl
no_mark (saved.Piece (pieces.Snapshot h)) = by h.kind
  where
    by : (k : SnapshotKind) → is_mark_line (compact_text (line_data (saved.Piece (pieces.Snapshot (record h { kind = k }))))) ≡ false
    by kinds.View = refl
    by (kinds.Active slot charged hand) = refl
    by (kinds.Committed layer) = refl

-- so a server whose changes are kept reads it, while no store stands
pub kept_told : (s : ScriptValue) (l : SavedLine) → s.store ≡ None → is_utf8 (compact_text (line_data l)) ≡ true → length (compact_text (line_data l)) ≤ 16777216 → read (compact_text (line_data l)) ≡ Some (line_data l)
    → line_said (line_data l) ≡ Ok l → kept_line s (compact_text (line_data l)) ≡ Ok (Command 0 (Restore (Ok l)))
kept_told s l none utf8 low reads said =
    ap (λ (t : Bool). if t then Ok Empty else line_of KnownAndId (is_some s.store) (compact_text (line_data l))) (no_mark l)
    ∙ ap (λ (o : Option OpenedValue). line_of KnownAndId (is_some o) (compact_text (line_data l))) none
    ∙ line_told l utf8 low reads said
