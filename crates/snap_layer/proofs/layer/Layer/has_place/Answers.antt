use Rattle.std.proofs.Common.{ℕ, List, ◌∷◌, ◌++◌, [], sym, subst}
use Rattle.snap_layer.specs.Tree.{Tree, at}
use Rattle.snap_layer.specs.Edits.{HasParent, IsFree}
use Rattle.snap_layer.proofs.layer.Layer.has_place.Goals as goal

pub returns-clause-place : goal.returns-clause-place
returns-clause-place c =
    let Clear : Tree → Type 0 = λ t. (n : List ℕ) → IsFree (at t (c.args.path.now ++ n ∷ [])) in
    let above : HasParent c.args.self.now c.args.path.now = c.has_parent.ensures.parent.0 c.if-not-has_parent.false in
    (λ t. record { clear = subst Clear c.self.view_is (c.has_clear.ensures.0 t); above = above }, λ place. c.has_clear.ensures.1 (subst Clear (sym c.self.view_is) place.clear))
