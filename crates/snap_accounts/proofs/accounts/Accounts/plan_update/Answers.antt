use Rattle.std.proofs.Common.{◌≡◌, Some, sym, ap, ◌∙◌}
use Rattle.std.specs.Option.{option_copied}
use Rattle.snap_call.specs.Records.{record_at}
use Rattle.snap_accounts.proofs.Found.{found-labels}
use Rattle.snap_accounts.proofs.accounts.Accounts.plan_update.Goals as goal

pub update_at-requires-clause-own : goal.update_at-requires-clause-own
update_at-requires-clause-own g c =
    let s = c.self.inside.state in
    let place = c.in-Some.place in
    let key = c.as_str-2.result.now in
    let r = c.in-Some-record_at.snapshot.now in
    let e : record_at place key s.records ≡ Some r = sym c.record_at.ensures ∙ ap option_copied c.in-Some-record_at.is in
    found-labels s place key r c.self.invariant.good e
