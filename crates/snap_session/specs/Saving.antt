-- What is saved of a server's store; cited by the public clauses of `KeptServer::save`.
use Rattle.std.specs.Prelude.{◌≡◌, List, Option, None, Some, Result, Ok, Err, ⊤}
use Rattle.snap_call.specs.declared.refusal.Refusal.{Refusal}
use Rattle.snap_book.specs.Round.{roll_answer}
use Rattle.snap_world.specs.Restored.{saved_world}
use Rattle.snap_world.specs.World.{WorldValue}
use Rattle.snap_checkpoint.specs.Lines.{lines_put, store_lines}
use Rattle.snap_pieces.specs.declared.line.Line.{Line}
use Rattle.snap_session.specs.Commands.{roll}
use Rattle.snap_session.specs.Opened.{OpenedValue}
use Rattle.snap_session.specs.Restoring.{begun_again}
use Rattle.snap_session.specs.declared.saving.Saving.{Saving}
use Rattle.snap_session.specs.declared.saving.Saving.TheVariants.{Lines, NoStore, Refused}

-- of a world, by the answer to a roll to as many entries
abbrev pub saved_by : WorldValue → Result Unit Refusal → Saving
saved_by w (Ok done) = Lines (store_lines (saved_world w))
saved_by w (Err why) = Refused why

-- of the store that stands, or none
abbrev pub saving_of : Option OpenedValue → Saving
saving_of None = NoStore
saving_of (Some s) = saved_by s.world (roll_answer s.world.state s.world.limit)

-- the lines, put one after another, make the very store, with its session 0, that a roll to as many entries leaves
abbrev pub MakesRolled : OpenedValue → List Line → Type 0
MakesRolled s lines = (lines_put None lines ≡ Ok (saved_world s.world)) × (begun_again (saved_world s.world) ≡ Ok (record { world = (roll s.world s.world.limit).0 }, (roll s.world s.world.limit).1))

-- what is saved does so
abbrev pub SavesRolled : Option OpenedValue → Saving → Type 0
SavesRolled (Some s) (Lines lines) = MakesRolled s lines
SavesRolled (Some s) NoStore = ⊤
SavesRolled (Some s) (Refused why) = ⊤
SavesRolled None saving = ⊤
