-- The next round of a book.
use Rattle.std.specs.Prelude.{ℕ, ◌+◌, ◌^◌, nat_le, nat_lt, if◌then◌else◌, Result, Ok, Err}
use Rattle.std.specs.Result.{result_and}
use Rattle.snap_call.specs.declared.refusal.Refusal.{Refusal}
use Rattle.snap_call.specs.declared.refusal.Refusal.TheVariants.{BadArgument, JournalFull, NumbersSpent}
use Rattle.snap_call.specs.declared.state.State.{State}
use Rattle.snap_call.specs.Records.{open_count, max_journal}

-- the state that the next round begins at: without sessions; all else stays, the number of entries too
abbrev pub next_round : State → State
next_round s = record s { sessions = 0 }

-- the answer where a round of at most `journal` entries follows: a journal has at most 1,048,576 of them, and their numbers end at 2^62
abbrev pub round_answer : State → ℕ → Result Unit Refusal
round_answer s journal =
    if nat_lt max_journal journal then Err BadArgument else
    if nat_lt (2 ^ 62) (s.entries + journal) then Err NumbersSpent else
    Ok tt

-- the answer where snapshots may be open: as above, and the journal has an entry for the end of each, and one more
abbrev pub roll_answer : State → ℕ → Result Unit Refusal
roll_answer s journal = result_and (round_answer s journal) (if nat_le journal (open_count s.records) then Err JournalFull else Ok tt)
