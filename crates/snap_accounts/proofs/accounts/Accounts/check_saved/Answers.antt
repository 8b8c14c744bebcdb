use Rattle.std.proofs.Common.{sym, ◌∙◌}
use Rattle.snap_call.specs.Saved.{room_answer}
use Rattle.snap_call.specs.Step.{place_for}
use Rattle.snap_call.proofs.Saving.{can_put_back}
use Rattle.snap_accounts.proofs.accounts.Accounts.check_saved.Goals as goal

pub returns-clause-possible : goal.returns-clause-possible
returns-clause-possible g c =
    let s = c.args.self.now in
    let saved = c.args.saved.now in
    let place = c.in_ok-place.place in
    can_put_back s saved place c.in_ok-check_numbers.ensures.above
    ((λ i. place_for s (sym c.as_str-namespace.ensures i) (sym c.as_str-key.ensures i) (sym c.as_str.ensures i) saved.labels) ∙ c.in_ok-place.ensures.ok)
    (sym c.in_ok-check_numbers.ensures.answer)
    (sym c.in_ok-check_slot.ensures.answer)
    ((λ i. room_answer s place (sym c.charge_for.ensures i)) ∙ sym c.in_ok-check_room.ensures.answer)
