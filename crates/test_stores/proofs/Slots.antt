-- A store of one slot, which is taken.
use Rattle.std.proofs.Common.{◌≡◌, [], codes, refl, ap, ◌∙◌}
use Rattle.snap_call.specs.declared.call.Call.TheVariants as calls
use Rattle.snap_call.specs.declared.call.Given.TheVariants.{Nothing}
use Rattle.snap_call.specs.declared.refusal.Refusal.TheVariants.{TooManyActives}
use Rattle.snap_call.specs.declared.reply.Reply.TheVariants.{Refused}
use Rattle.snap_call.specs.declared.state.State.{State}
use Rattle.snap_call.specs.Records.{lowest_free, open_count}
use Rattle.snap_call.specs.Step.{step}
use Rattle.test_stores.specs.Stores.{with_taken_slot}

refuses : (step with_taken_slot (calls.Prepare (codes "a") (codes "l") [] []) Nothing).1 ≡ Refused TooManyActives
unfolding lowest_free
refuses = refl

is_open : open_count with_taken_slot.records ≡ 1
unfolding lowest_free
is_open = refl

-- a prepare is refused for want of a slot
pub taken_refuses : (s : State) → s ≡ with_taken_slot → (step s (calls.Prepare (codes "a") (codes "l") [] []) Nothing).1 ≡ Refused TooManyActives
taken_refuses s is = ap (λ (t : State). (step t (calls.Prepare (codes "a") (codes "l") [] []) Nothing).1) is ∙ refuses

pub taken_open : (s : State) → s ≡ with_taken_slot → open_count s.records ≡ 1
taken_open s is = ap (λ (t : State). open_count t.records) is ∙ is_open
