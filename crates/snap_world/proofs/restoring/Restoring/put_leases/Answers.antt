use Rattle.std.proofs.Common.{◌≡◌, ◌+◌, sym, ap, ◌∙◌, drop}
use Rattle.std.specs.Prelude.{Err}
use Rattle.std.proofs.lemmas.List.{drop_all}
use Rattle.snap_call.specs.SavedLeases.{lease_of, put_lease, with_leases}
use Rattle.snap_world.specs.declared.fault.RestoreFault.TheVariants.{Lease}
use Rattle.snap_world.specs.Restored.{put_leases_from}
use Rattle.snap_world.proofs.InTurn.{lease_put, lease_refused, leases_from, no_leases, part_refused}
use Rattle.snap_world.proofs.restoring.Restoring.put_leases.Goals as goal

pub returns-in-Err-clause-refused : goal.returns-in-Err-clause-refused
returns-in-Err-clause-refused g c =
    let xs = c.args.leases.now in
    let at = c.loop-place.place in
    let was = c.loop-place.self.state in
    let x = c.index-leases-place.result in
    let why = c.in-Err.why in
    part_refused (put_leases_from 0 c.args.self.now.state xs) (put_lease was (lease_of x) ≡ Err why) why (Lease at why) c.fault_of.result
    (λ e. sym c.loop-place.invariant.left ∙ ap (put_leases_from at was) (leases_from xs at x c.loop-place-test.true c.index-leases-place.is) ∙ lease_refused at was x (drop (at + 1) xs) why e)
    c.in-Err.ensures.refused c.fault_of.ensures.part c.fault_of.ensures.memory

pub loop-place-preserved : goal.loop-place-preserved
loop-place-preserved g c =
    let xs = c.args.leases.now in
    let at = c.loop-place.place in
    let was = c.loop-place.self.state in
    let now = c.put_lease.new.self.state in
    let x = c.index-leases-place.result in
    let before = c.loop-place.invariant.rest in
    record {
      left =
          sym (lease_put at was x (drop (at + 1) xs) now c.in_default.ensures.ok)
          ∙ ap (put_leases_from at was) (sym (leases_from xs at x c.loop-place-test.true c.index-leases-place.is))
          ∙ c.loop-place.invariant.left;
      rest = c.put_lease.ensures.rest ∙ (λ i. record { state = with_leases (before i).state now.leases; hands = (before i).hands });
    }

pub returns-clause-ok : goal.returns-clause-ok
returns-clause-ok g c =
    let at = c.loop-place.place in
    let was = c.loop-place.self.state in
    sym c.loop-place.invariant.left ∙ ap (put_leases_from at was) (drop_all at c.args.leases.now c.loop-place-test.false) ∙ no_leases at was
