-- What stands behind a handle, and what is done with it.
use Rattle.std.specs.Prelude.{◌≡◌, ℕ, List, [], Ok, string_bytes}
use Rattle.snap_session.specs.Service.{ServerValue, idle, served}
use Rattle.snap_c.specs.declared.held.Told.{Told}
use Rattle.snap_c.specs.declared.held.Told.TheVariants.{Text, OutOfMemory}
use Rattle.snap_c.specs.declared.held.Work.{Work}
use Rattle.snap_c.specs.declared.held.Work.TheVariants.{Line, Swap}

-- a server, and the answer that is kept
pub record HeldValue : Type 0 where
  pub server : ServerValue
  pub answer : List ℕ

-- before the first line
abbrev pub unserved : HeldValue
unserved = record { server = idle; answer = [] }

-- what came of it: a line is served, and its text given; a swap keeps the answer that it brings, and gives the one that was kept. Nothing is said where memory was refused, as for a line alone
abbrev pub Worked : HeldValue → Work → HeldValue → Told → Type 0
Worked held (Line alloc line) held' (Text text) = (served held.server line.now ≡ Ok (record { value = held'.server; text = string_bytes text })) × (held'.answer ≡ held.answer)
Worked held (Line alloc line) held' OutOfMemory = Unit {0}
Worked held (Swap answer) held' (Text text) = (held' ≡ record { server = held.server; answer = string_bytes answer }) × (string_bytes text ≡ held.answer)
Worked held (Swap answer) held' OutOfMemory = ⊥
