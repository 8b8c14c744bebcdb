use Rattle.std.proofs.Common.{List, sym, ap, ◌∙◌, subst}
use Rattle.snap_layer.specs.Tree.{Tree}
use Rattle.snap_call.proofs.Lists.{none_some}
use Rattle.snap_book.specs.Slot.{found_of}
use Rattle.snap_world.specs.World.{Fits, WorldValue, hand_at}
use Rattle.snap_world.specs.Stacks.{IsOver}
use Rattle.snap_world.proofs.Standing.{active_over, stands, view_over}
use Rattle.snap_world.proofs.world.World.stack.Goals as goal

-- a hand stands in the slot that was found
pub unreachable-requires : goal.unreachable-requires
unreachable-requires g c =
    let fits = subst Fits c.self.view_is c.self.invariant in
    let found = ap (λ (x : WorldValue). found_of x.state c.args.namespace.now c.args.key.now) (sym c.self.view_is) ∙ c.in_ok-found.ensures.found in
    let there = stands c.args.self.now fits c.args.namespace.now c.args.key.now c.in_ok-found.found.now found c.in-Active.slot c.in-Active.charged c.in-Active.is in
    let same = ap (λ (w : WorldValue). hand_at c.in-Active.slot w.hands) c.self.view_is in
    none_some there.0 (c.in_default.ensures {u = tt} ∙ same ∙ there.1)

pub returns-in-View-clause-ancestors : goal.returns-in-View-clause-ancestors
returns-in-View-clause-ancestors g c =
    let w = c.args.self.now in
    let fits = subst Fits c.self.view_is c.self.invariant in
    let found = ap (λ (x : WorldValue). found_of x.state c.args.namespace.now c.args.key.now) (sym c.self.view_is) ∙ c.in_ok-found.ensures.found in
    let over = view_over w fits c.args.namespace.now c.args.key.now c.in_ok-found.found.now found c.in-View.layers c.in-View.is in
    subst (λ (layers : List Tree). IsOver w.state.records layers (found_of w.state c.args.namespace.now c.args.key.now)) (sym (c.of.ensures ∙ c.as_slice.ensures)) over

pub returns-in-Some-clause-ancestors : goal.returns-in-Some-clause-ancestors
returns-in-Some-clause-ancestors g c =
    let w = c.args.self.now in
    let fits = subst Fits c.self.view_is c.self.invariant in
    let found = ap (λ (x : WorldValue). found_of x.state c.args.namespace.now c.args.key.now) (sym c.self.view_is) ∙ c.in_ok-found.ensures.found in
    let same = ap (λ (w : WorldValue). hand_at c.in-Active.slot w.hands) c.self.view_is in
    let at = sym (c.in-Some.ensures {u = tt} ∙ same) in
    let over = active_over w fits c.args.namespace.now c.args.key.now c.in_ok-found.found.now found c.in-Active.slot c.in-Active.charged c.in-Some.hand.now c.in-Active.is at in
    subst (λ (layers : List Tree). IsOver w.state.records layers (found_of w.state c.args.namespace.now c.args.key.now)) (sym c.stack.ensures) over
