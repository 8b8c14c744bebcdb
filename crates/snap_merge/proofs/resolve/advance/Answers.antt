use Rattle.std.proofs.Common.{◌≡◌, ◌∷◌, Ok, sym, ap, subst, ◌∙◌}
use Rattle.snap_merge.specs.declared.resolve.Arrival.{Arrival}
use Rattle.snap_merge.specs.declared.resolve.Arrival.TheVariants.{Place, Link}
use Rattle.snap_merge.specs.Resolving.{way}
use Rattle.snap_merge.specs.Arrivals.{Leads}
use Rattle.snap_merge.proofs.resolve.advance.Goals as goal

pub loop-word-preserved : goal.loop-word-preserved
loop-word-preserved c = λ follow.
    let first : c.loop-word.words ≡ c.in-Some.word.now ∷ c.take.new.self = c.in-Some.ensures in
    let leads : Leads follow c.args.stack.now c.take.new.self (way follow c.args.stack.now c.loop-word.place (c.in-Some.word.now ∷ c.take.new.self)) (Ok (Place c.in-Place.next)) =
    subst (λ (a : Arrival). Leads follow c.args.stack.now c.take.new.self (way follow c.args.stack.now c.loop-word.place (c.in-Some.word.now ∷ c.take.new.self)) (Ok a)) c.in-Place.is (c.in_ok-next.ensures follow c.take.new.self)
    in
    sym leads ∙ ap (way follow c.args.stack.now c.loop-word.place) (sym first) ∙ c.loop-word.invariant follow

pub returns-in-Link-clause-leads : goal.returns-in-Link-clause-leads
returns-in-Link-clause-leads c = λ follow.
    let first : c.loop-word.words ≡ c.in-Some.word.now ∷ c.take.new.self = c.in-Some.ensures in
    let leads : Leads follow c.args.stack.now c.take.new.self (way follow c.args.stack.now c.loop-word.place (c.in-Some.word.now ∷ c.take.new.self)) (Ok (Link c.in-Link.directory c.in-Link.target)) =
    subst (λ (a : Arrival). Leads follow c.args.stack.now c.take.new.self (way follow c.args.stack.now c.loop-word.place (c.in-Some.word.now ∷ c.take.new.self)) (Ok a)) c.in-Link.is (c.in_ok-next.ensures follow c.take.new.self)
    in
    sym (c.loop-word.invariant follow) ∙ ap (way follow c.args.stack.now c.loop-word.place) first ∙ leads

pub returns-clause-leads : goal.returns-clause-leads
returns-clause-leads c = λ follow. sym (c.loop-word.invariant follow) ∙ ap (way follow c.args.stack.now c.loop-word.place) (c.in_default.ensures.0 ∙ sym c.in_default.ensures.1)

pub returns-clause-ends : goal.returns-clause-ends
returns-clause-ends c = c.in_default.ensures.1
