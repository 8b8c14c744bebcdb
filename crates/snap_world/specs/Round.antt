-- The next round of a world.
use Rattle.std.specs.Prelude.{ℕ, nat_lt, if◌then◌else◌, [], Result, Ok, Err}
use Rattle.snap_call.specs.declared.refusal.Refusal.{Refusal}
use Rattle.snap_call.specs.Records.{open_count}
use Rattle.snap_book.specs.Round.{next_round, round_answer}
use Rattle.snap_world.specs.declared.round.ReopenFault.{ReopenFault}
use Rattle.snap_world.specs.declared.round.ReopenFault.TheVariants.{StillOut, Book}
use Rattle.snap_world.specs.World.{WorldValue}

-- the book's answer, as the world gives it
abbrev pub of_book : Result Unit Refusal → Result Unit ReopenFault
of_book (Ok done) = Ok done
of_book (Err why) = Err (Book why)

-- the answer where a round of at most `journal` entries follows: StillOut where a snapshot is open, else the book's
abbrev pub reopen_answer : WorldValue → ℕ → Result Unit ReopenFault
reopen_answer w journal = if nat_lt 0 (open_count w.state.records) then Err StillOut else of_book (round_answer w.state journal)

-- the world of the next round, without entries; the hands stay, where it is rolled those of open snapshots too
abbrev pub reopened : WorldValue → ℕ → WorldValue
reopened w journal = record { state = next_round w.state; journal = []; opening = next_round w.state; limit = journal; hands = w.hands }
