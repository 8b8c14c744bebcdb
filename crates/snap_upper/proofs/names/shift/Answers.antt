use Rattle.std.proofs.Common.{◌≡◌, true, false, refl, sym, ap, subst, ◌∙◌}
use Rattle.std.specs.Prelude.{is_some, not}
use Rattle.snap_layer.specs.Tree.{Tree, at}
use Rattle.snap_layer.specs.Counts.{is_within}
use Rattle.snap_layer.specs.Layers.{IsLayer}
use Rattle.snap_layer.specs.Edits.{IsMovable}
use Rattle.snap_copyup.specs.Copying.{below, with_parents}
use Rattle.snap_upper.specs.After.{before_move, limited, renamed, shifted}
use Rattle.snap_upper.proofs.Outcomes.{limited_fits, layer_fits}
use Rattle.snap_upper.proofs.Movable.{renamable}
use Rattle.snap_upper.proofs.Prepared.{own_copy, prepared_movable}
use Rattle.snap_upper.proofs.Shifted.{refused_same, either_refused, prepared_full}
use Rattle.snap_upper.proofs.names.shift.Goals as goal

pub returns-in_err-shift_lower-clause-error : goal.returns-in_err-shift_lower-clause-error
returns-in_err-shift_lower-clause-error c =
    let f = renamed c.args.layer.now c.args.lowers.now c.args.from.now c.args.to.now in
    refused_same c.from_residual.result c.in_err-shift_lower.field-0.0 f f c.from_residual.ensures.1 refl c.in_err-shift_lower.ensures.error

pub returns-then-is_none-clause-ok : goal.returns-then-is_none-clause-ok
returns-then-is_none-clause-ok c =
    let next = c.shift_lower.new.layer in
    ap limited (sym c.in_ok-shift_lower.ensures.ok) ∙ limited_fits next (layer_fits next c.in_ok-shift_lower.ensures.layer)

pub add_dirs_and_move-requires-clause-way : goal.add_dirs_and_move-requires-clause-way
add_dirs_and_move-requires-clause-way c = (renamable c.args.layer.now c.args.lowers.now c.args.from.now c.args.to.now c.requires.passes c.requires.moves).way_to

pub add_dirs_and_move-requires-clause-movable : goal.add_dirs_and_move-requires-clause-movable
add_dirs_and_move-requires-clause-movable c = λ path okt.
    let u = c.args.layer.now in
    let ls = c.args.lowers.now in
    let from = c.args.from.now in
    let to = c.args.to.now in
    let ok = c.requires.layer in
    let is = renamable u ls from to c.requires.passes c.requires.moves in
    let some : is_some (at u from) ≡ true = ap is_some (sym c.at.ensures.node) ∙ c.is_none.ensures ∙ ap not c.if-is_none.false in
    let same : before_move u ls from to ≡ with_parents u ls to = ap (λ (t : Tree). with_parents t ls to) (own_copy u ls from ok some) in
    subst (λ (t : Tree). IsMovable t from to) same (prepared_movable u ls from to ok c.requires.layers is path (subst IsLayer (sym same) okt))

pub returns-in_err-add_dirs_and_move-clause-error : goal.returns-in_err-add_dirs_and_move-clause-error
returns-in_err-add_dirs_and_move-clause-error c =
    let u = c.args.layer.now in
    let ls = c.args.lowers.now in
    let from = c.args.from.now in
    let to = c.args.to.now in
    let ok = c.requires.layer in
    let is = renamable u ls from to c.requires.passes c.requires.moves in
    let some : is_some (at u from) ≡ true = ap is_some (sym c.at.ensures.node) ∙ c.is_none.ensures ∙ ap not c.if-is_none.false in
    let same : before_move u ls from to ≡ with_parents u ls to = ap (λ (t : Tree). with_parents t ls to) (own_copy u ls from ok some) in
    let leaves : is_some (below u ls from) ≡ c.args.leaves = sym c.requires.leaves in
    let covers : is_some (below u ls to) ≡ c.args.covers = sym c.requires.covers in
    let f = renamed u ls from to in
    let x = c.in_err-add_dirs_and_move.field-0.0 in
    refused_same c.from_residual-in_err-add_dirs_and_move.result x f f c.from_residual-in_err-add_dirs_and_move.ensures.1 refl
    (either_refused x (with_parents u ls to) (shifted (with_parents u ls to) from to c.args.leaves c.args.covers) f (λ full. prepared_full u ls from to ok c.requires.layers is (subst (λ (t : Tree). is_within t ≡ false) (sym same) full)) (λ i. shifted (sym same i) from to (sym leaves i) (sym covers i)) c.in_err-add_dirs_and_move.ensures.error)

pub returns-clause-ok : goal.returns-clause-ok
returns-clause-ok c =
    let u = c.args.layer.now in
    let ls = c.args.lowers.now in
    let from = c.args.from.now in
    let to = c.args.to.now in
    let some : is_some (at u from) ≡ true = ap is_some (sym c.at.ensures.node) ∙ c.is_none.ensures ∙ ap not c.if-is_none.false in
    let same : before_move u ls from to ≡ with_parents u ls to = ap (λ (t : Tree). with_parents t ls to) (own_copy u ls from c.requires.layer some) in
    let leaves : is_some (below u ls from) ≡ c.args.leaves = sym c.requires.leaves in
    let covers : is_some (below u ls to) ≡ c.args.covers = sym c.requires.covers in
    let next = c.add_dirs_and_move.new.layer in
    let shifts : renamed u ls from to ≡ shifted (with_parents u ls to) from to c.args.leaves c.args.covers = λ i. shifted (same i) from to (leaves i) (covers i) in
    ap limited (shifts ∙ sym c.in_ok-add_dirs_and_move.ensures.ok) ∙ limited_fits next (layer_fits next c.in_ok-add_dirs_and_move.ensures.layer)
