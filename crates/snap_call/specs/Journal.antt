-- The journal: the calls that were recorded, and what they made of the state.
use Rattle.std.specs.Prelude.{◌≡◌, ℕ, ◌==◌, List, [], ◌∷◌, filter}
use Rattle.snap_call.specs.declared.call.Call.{Call}
use Rattle.snap_call.specs.declared.call.Given.{Given}
use Rattle.snap_call.specs.declared.entry.Entry.{Entry}
use Rattle.snap_call.specs.declared.reply.Reply.{Reply}
use Rattle.snap_call.specs.declared.state.State.{State}
use Rattle.snap_call.specs.Step.{step, IsAllowed}

-- the entry of a call of session n, with what it was given and its reply
abbrev pub call_entry : ℕ → Call → Given → Reply → Entry
call_entry n call given reply = record { session = n; call = call; given = given; reply = reply }

-- the entries, one step each, lead from the state s to the state t: each call's condition holds at its point, and each reply is the step's
abbrev pub Replays : State → List Entry → State → Type 0
Replays s [] t = t ≡ s
Replays s (e ∷ es) t = IsAllowed s e.call e.given × (e.reply ≡ (step s e.call e.given).1) × Replays (step s e.call e.given).0 es t

-- the entries of one session, in order
abbrev pub session_entries : List Entry → ℕ → List Entry
session_entries j n = filter (λ e. e.session == n) j
