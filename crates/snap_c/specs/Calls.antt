-- What a caller in C gets of a store that is kept between calls; cited by the public clauses of these.
use Rattle.std.specs.Prelude.{◌≡◌, ◌≤◌, ◌<◌, ◌⊎◌, ℕ, Bool, true, false, List, ◌++◌, length, drop, Ok}
use Rattle.snap_session.specs.Service.{served}
use Rattle.snap_c.specs.Held.{HeldValue}
use Rattle.snap_c.specs.Run.{no_room}

-- the status of what was done
abbrev pub all_done : ℕ
all_done = 0

-- the status where memory was refused
abbrev pub memory_refused : ℕ
memory_refused = 4

-- the status where a handle has no store
abbrev pub not_open : ℕ
not_open = 7

-- the status where a handle has one already
abbrev pub already_open : ℕ
already_open = 8

-- what the caller gets of a text: in a room that is long enough the text, and what was behind it
pub record TextGiven (text : List ℕ) (status written : ℕ) (before after : List ℕ) : Type 0 where
  pub size : written ≡ length text
  pub fits : length text ≤ length before → (status ≡ all_done) × (after ≡ text ++ drop (length text) before)
  pub lacks : length before < length text → (status ≡ no_room) × (after ≡ before)

-- the caller gets no text
pub record NothingGiven (written : ℕ) (before after : List ℕ) : Type 0 where
  pub size : written ≡ 0
  pub room : after ≡ before

-- a line was given to a store: it is served, and its answer is kept and given; else memory was refused, and no store stands
abbrev pub Called : HeldValue → List ℕ → ℕ → Bool → HeldValue → ℕ → List ℕ → List ℕ → Type 0
Called held line status stands held' written before after =
    ((stands ≡ true) × (served held.server line ≡ Ok (record { value = held'.server; text = held'.answer })) × TextGiven held'.answer status written before after)
    ⊎ ((stands ≡ false) × (status ≡ memory_refused) × NothingGiven written before after)
