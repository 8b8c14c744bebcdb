use Rattle.std.proofs.Common.{◌≡◌, ◌∷◌, ◌++◌, List, Option, sym, ap, subst, ◌∙◌}
use Rattle.std.specs.Option.{option_map, option_copied, option_to_list}
use Rattle.std.specs.Borrow.{Bor}
use Rattle.snap_layer.specs.Tree.{Tree}
use Rattle.snap_merge.specs.Objects.{object}
use Rattle.snap_merge.specs.Reach.{Begun}
use Rattle.snap_merge.proofs.Reaching.{begun_start, begun_on, begun_ends}
use Rattle.snap_merge.proofs.stack.Stack.reach.Goals as goal

pub returns-in_default : goal.returns-in_default
returns-in_default c =
    let layers : c.args.self.now ≡ c.self.inside.lowers.now = sym c.self.view_is ∙ ap (λ (o : Option (Bor Tree)). option_to_list (option_copied o) ++ c.self.inside.lowers.now) c.in_default.is in
    c.reach_below.ensures c.args.self.now (subst (λ (ts : List Tree). Begun c.args.self.now c.args.names.now 0 ts) layers (begun_start c.args.self.now c.args.names.now))

pub returns-in-Ends : goal.returns-in-Ends
returns-in-Ends c =
    let layers : c.args.self.now ≡ c.in-Some.top.now ∷ c.self.inside.lowers.now = sym c.self.view_is ∙ ap (λ (o : Option (Bor Tree)). option_to_list (option_copied o) ++ c.self.inside.lowers.now) c.in-Some.is in
    begun_ends c.args.self.now c.args.names.now 0 c.in-Ends.reach.dirs (option_map object c.in-Ends.reach.seen) c.in-Some.top.now c.self.inside.lowers.now
    (subst (λ (ts : List Tree). Begun c.args.self.now c.args.names.now 0 ts) layers (begun_start c.args.self.now c.args.names.now)) c.in-Ends.ensures

pub returns-in-GoesOn : goal.returns-in-GoesOn
returns-in-GoesOn c =
    let layers : c.args.self.now ≡ c.in-Some.top.now ∷ c.self.inside.lowers.now = sym c.self.view_is ∙ ap (λ (o : Option (Bor Tree)). option_to_list (option_copied o) ++ c.self.inside.lowers.now) c.in-Some.is in
    c.reach_below-in-GoesOn.ensures c.args.self.now
    (begun_on c.args.self.now c.args.names.now 0 c.in-GoesOn.dirs c.in-Some.top.now c.self.inside.lowers.now
    (subst (λ (ts : List Tree). Begun c.args.self.now c.args.names.now 0 ts) layers (begun_start c.args.self.now c.args.names.now)) c.in-GoesOn.ensures)
