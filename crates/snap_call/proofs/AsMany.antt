-- Each call leaves the store as many slots as it has.
use Rattle.std.proofs.Common.{◌≡◌, List, Bool, true, false, refl, ◌∙◌}
use Rattle.std.specs.Prelude.{nat_lt}
use Rattle.snap_call.specs.declared.call.Call.{Call}
use Rattle.snap_call.specs.declared.call.Given.{Given}
use Rattle.snap_call.specs.declared.entry.Entry.{Entry}
use Rattle.snap_call.specs.declared.state.State.{State}
use Rattle.snap_call.specs.Journal.{Replays}
use Rattle.snap_call.specs.Records.{max_sessions}
use Rattle.snap_call.specs.Step.{step}
use Rattle.snap_call.proofs.Replaying.{Replays-over}
use Rattle.snap_call.proofs.Stepping.{opened, stepped}

-- no call changes how many slots the store has
pub step-slots : (s : State) (call : Call) (given : Given) → (step s call given).0.slots ≡ s.slots
step-slots s call given = stepped (λ t u. u.slots ≡ t.slots) (λ t u slots entries. slots) s call given (λ is. by (nat_lt s.sessions max_sessions))
  where
    by : (b : Bool) → (opened s b).0.slots ≡ s.slots
    by true = refl
    by false = refl

-- nor a whole journal
pub Replays-slots : (s : State) (j : List Entry) (t : State) → Replays s j t → t.slots ≡ s.slots
Replays-slots = Replays-over (λ s j t. t.slots ≡ s.slots) (λ s. refl) (λ s e es t allowed rest. rest ∙ step-slots s e.call e.given)
