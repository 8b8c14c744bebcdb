use Rattle.std.proofs.Common.{◌∙◌, None, IsSome, ap, sym, subst}
use Rattle.snap_path.specs.Text.{Names}
use Rattle.snap_layer.specs.declared.node.Node.{Node}
use Rattle.snap_layer.specs.Layers.{IsLayer}
use Rattle.snap_layer.specs.Edits.{without, IsTakeable}
use Rattle.snap_layer.proofs.Slots.{sure_ok}
use Rattle.snap_layer.proofs.Linked.{IsLeft, covered_left, taken_left, new_there, new_place, new_takeable, taken_layer, covered_layer, left_gone, left_back}
use Rattle.snap_layer.proofs.table.Table.take_back.Goals.{then-covers, else-covers}
use Rattle.snap_layer.proofs.table.Table.take_back.Goals as goal

no_node : IsSome {T = Node} None → ⊥
no_node e = cc

pub whiteout-requires-clause-place : goal.whiteout-requires-clause-place
whiteout-requires-clause-place c = new_place c.args.covers c.args.path.now c.args.self.now c.requires.new.0 c.requires.layer c.requires.new.1

pub whiteout-requires-clause-layer : goal.whiteout-requires-clause-layer
whiteout-requires-clause-layer c = covered_layer c.args.covers c.args.path.now c.args.self.now c.requires.new.0 c.requires.layer c.requires.new.1

pub take-requires-clause-takeable : goal.take-requires-clause-takeable
take-requires-clause-takeable c = subst (IsTakeable c.args.self.now) (sym c.names.ensures.names) (new_takeable c.args.covers c.args.path.now c.args.self.now c.requires.new.0 c.requires.layer c.requires.new.1)

pub take-requires-clause-layer : goal.take-requires-clause-layer
take-requires-clause-layer c = subst (λ (p : Names). IsLayer (without c.args.self.now p)) (sym c.names.ensures.names) (taken_layer c.args.covers c.args.path.now c.args.self.now c.requires.new.0 c.requires.layer c.requires.new.1)

pub give_back_number-requires-clause-gone : goal.give_back_number-requires-clause-gone
give_back_number-requires-clause-gone c =
    let left : IsLeft c.args.covers c.args.path.now c.args.self.now c.if-covers.self = elim c.if-covers.branch [
      | then-covers w ↦ covered_left c.args.covers c.args.path.now c.args.self.now c.if-covers.self w.if-covers.true (w.self-is ∙ sure_ok w.whiteout.result w.whiteout.ensures.ok w.whiteout.ensures.sure (λ none. no_node (subst IsSome none (new_there c.args.covers c.args.path.now c.args.self.now c.requires.new.0 c.requires.layer c.requires.new.1))))
      | else-covers w ↦ taken_left c.args.covers c.args.path.now c.args.self.now c.if-covers.self w.if-covers.false (w.self-is ∙ w.take.ensures ∙ ap (without c.args.self.now) w.names.ensures.names)
    ] in
    let okt : IsLayer c.if-covers.self = elim c.if-covers.branch [
      | then-covers w ↦ subst IsLayer (sym (w.self-is ∙ sure_ok w.whiteout.result w.whiteout.ensures.ok w.whiteout.ensures.sure (λ none. no_node (subst IsSome none (new_there c.args.covers c.args.path.now c.args.self.now c.requires.new.0 c.requires.layer c.requires.new.1))))) (covered_layer c.args.covers c.args.path.now c.args.self.now c.requires.new.0 c.requires.layer c.requires.new.1)
      | else-covers w ↦ subst IsLayer (sym (w.self-is ∙ w.take.ensures ∙ ap (without c.args.self.now) w.names.ensures.names)) (taken_layer c.args.covers c.args.path.now c.args.self.now c.requires.new.0 c.requires.layer c.requires.new.1)
    ] in
    left_gone c.args.covers c.args.path.now c.args.self.now c.requires.new.0 c.requires.layer c.requires.new.1 c.if-covers.self okt left

pub returns : goal.returns
returns c = λ u new.
    let left : IsLeft c.args.covers c.args.path.now c.args.self.now c.if-covers.self = elim c.if-covers.branch [
      | then-covers w ↦ covered_left c.args.covers c.args.path.now c.args.self.now c.if-covers.self w.if-covers.true (w.self-is ∙ sure_ok w.whiteout.result w.whiteout.ensures.ok w.whiteout.ensures.sure (λ none. no_node (subst IsSome none (new_there c.args.covers c.args.path.now c.args.self.now c.requires.new.0 c.requires.layer c.requires.new.1))))
      | else-covers w ↦ taken_left c.args.covers c.args.path.now c.args.self.now c.if-covers.self w.if-covers.false (w.self-is ∙ w.take.ensures ∙ ap (without c.args.self.now) w.names.ensures.names)
    ] in
    let okt : IsLayer c.if-covers.self = elim c.if-covers.branch [
      | then-covers w ↦ subst IsLayer (sym (w.self-is ∙ sure_ok w.whiteout.result w.whiteout.ensures.ok w.whiteout.ensures.sure (λ none. no_node (subst IsSome none (new_there c.args.covers c.args.path.now c.args.self.now c.requires.new.0 c.requires.layer c.requires.new.1))))) (covered_layer c.args.covers c.args.path.now c.args.self.now c.requires.new.0 c.requires.layer c.requires.new.1)
      | else-covers w ↦ subst IsLayer (sym (w.self-is ∙ w.take.ensures ∙ ap (without c.args.self.now) w.names.ensures.names)) (taken_layer c.args.covers c.args.path.now c.args.self.now c.requires.new.0 c.requires.layer c.requires.new.1)
    ] in
    c.give_back_number.ensures ∙ left_back c.args.covers c.args.path.now c.args.self.now u c.requires.layer new c.if-covers.self okt left
