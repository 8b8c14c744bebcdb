use Rattle.std.proofs.Common.{◌≡◌, true, false, sym, ap, ◌∙◌}
use Rattle.std.specs.Prelude.{is_some}
use Rattle.std.specs.Cmp.Lexicographic.{pointwise_decides, bytes_decides}
use Rattle.std.proofs.lemmas.Bool.Decides.{Decides-at}
use Rattle.snap_layer.specs.Tree.{at}
use Rattle.snap_layer.proofs.Totaling.{not_some}
use Rattle.snap_layer.proofs.layer.Layer.has_rooms.Goals as goal

no_bool : true ≡ false → ⊥
no_bool e = cc

pub returns-then-eq : goal.returns-then-eq
returns-then-eq c =
    let same = Decides-at c.eq.result _ c.eq.ensures (pointwise_decides bytes_decides c.args.path.now c.args.link.now) in
    (λ t. absurd (cc), λ rooms. absurd (rooms.apart (same.0 c.if-eq.true)))

pub returns : goal.returns
returns c =
    let same = Decides-at c.eq.result _ c.eq.ensures (pointwise_decides bytes_decides c.args.path.now c.args.link.now) in (
      (λ t. record {
        bare = not_some c.is_some.result (at c.args.self.now c.args.path.now) (c.is_some.ensures ∙ ap is_some c.at.ensures.node) c.if-is_some.false;
        above = c.has_parent.ensures.parent.0 c.if-not-has_parent.false;
        room = c.has_room.ensures.0 t;
        apart = λ e. no_bool (sym (same.1 e) ∙ c.if-eq.false);
      }),
      λ rooms. c.has_room.ensures.1 rooms.room,
    )
