use Rattle.snap_call.proofs.Keeping.{place_of-below}
use Rattle.snap_call.proofs.Places.{place_for-Ok}
use Rattle.snap_accounts.proofs.Prepared.{vacant}
use Rattle.snap_accounts.proofs.accounts.Accounts.vacancy.Goals as goal

pub slot_for-requires : goal.slot_for-requires
slot_for-requires g c =
    let s = c.args.self.now in
    let place = c.in_ok-place.place in
    let is = place_for-Ok s c.args.namespace.now c.args.key.now c.args.parent.now c.args.labels.now place c.in_ok-place.ensures.ok in
    place_of-below c.args.namespace.now s.namespaces place is.named

pub returns-clause-vacant : goal.returns-clause-vacant
returns-clause-vacant g c =
    vacant c.args.self.now c.args.namespace.now c.args.key.now c.args.parent.now c.args.labels.now c.in_ok-place.place c.in_ok-slot.slot c.in_ok-slot.ensures.few c.in_ok-place.ensures.ok c.in_ok-slot.ensures.ok
