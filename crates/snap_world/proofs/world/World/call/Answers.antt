use Rattle.std.proofs.Common.{◌≡◌, true, sym, ◌∙◌, subst}
use Rattle.snap_world.specs.Move.{is_its_session}
use Rattle.snap_world.specs.Runs.{Moves}
use Rattle.snap_world.specs.World.{WorldValue, world_of}
use Rattle.snap_world.specs.declared.step.Step.TheVariants.{Locked}
use Rattle.snap_world.proofs.Does.{does_moves}
use Rattle.snap_world.proofs.Fitting.{fits_locked}
use Rattle.snap_world.proofs.world.World.call.Goals as goal

pub invariant_of-self : goal.invariant_of-self
invariant_of-self g c =
    let was : WorldValue = world_of c.self.inside.book c.self.inside.hands in
    let now : WorldValue = world_of c.call.new.book c.call.new.self in
    let own : is_its_session c.self.inside.book.state.sessions c.args.session c.args.call ≡ true = (λ i. is_its_session (sym c.sessions.ensures i) c.args.session c.args.call) ∙ (sym c.is_its_session.ensures ∙ c.if-not-is_its_session.false) in
    fits_locked was now c.args.session c.args.call c.call.result c.self.invariant (does_moves was now c.args.session c.args.call c.call.result own c.call.ensures)

pub returns-clause-fits : goal.returns-clause-fits
returns-clause-fits g c =
    let was : WorldValue = world_of c.self.inside.book c.self.inside.hands in
    let now : WorldValue = world_of c.call.new.book c.call.new.self in
    let own : is_its_session c.self.inside.book.state.sessions c.args.session c.args.call ≡ true = (λ i. is_its_session (sym c.sessions.ensures i) c.args.session c.args.call) ∙ (sym c.is_its_session.ensures ∙ c.if-not-is_its_session.false) in
    fits_locked was now c.args.session c.args.call c.call.result c.self.invariant (does_moves was now c.args.session c.args.call c.call.result own c.call.ensures)

pub returns-clause-moves : goal.returns-clause-moves
returns-clause-moves g c =
    let was : WorldValue = world_of c.self.inside.book c.self.inside.hands in
    let now : WorldValue = world_of c.call.new.book c.call.new.self in
    let own : is_its_session c.self.inside.book.state.sessions c.args.session c.args.call ≡ true = (λ i. is_its_session (sym c.sessions.ensures i) c.args.session c.args.call) ∙ (sym c.is_its_session.ensures ∙ c.if-not-is_its_session.false) in
    subst (λ (w : WorldValue). Moves w (Locked c.args.session c.args.call) c.call.result now) c.self.view_is (does_moves was now c.args.session c.args.call c.call.result own c.call.ensures)
