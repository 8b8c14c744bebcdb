use Rattle.std.proofs.Common.{◌≡◌, ◌⊎◌, true, false, Err, sym, ap, subst, ◌∙◌}
use Rattle.std.specs.Prelude.{is_some, not}
use Rattle.snap_path.specs.Memory.{no_memory}
use Rattle.snap_layer.specs.declared.error.LayerError.{LayerError}
use Rattle.snap_layer.specs.declared.node.Node.TheVariants.{Whiteout}
use Rattle.snap_layer.specs.Tree.{Tree, at}
use Rattle.snap_layer.specs.Edits.{with_node}
use Rattle.snap_merge.specs.declared.error.FsError.TheVariants.{OutOfMemory}
use Rattle.snap_copyup.specs.Copying.{below}
use Rattle.snap_upper.specs.After.{limited}
use Rattle.snap_upper.proofs.Outcomes.{limited_fits, layer_fits, edit_refused}
use Rattle.snap_upper.proofs.Erased.{place_erased, takeable_erased, erased_covered, erased_bare}
use Rattle.snap_upper.proofs.Outcomes.{no_bool}
use Rattle.snap_upper.proofs.Sure.{covered_sure}
use Rattle.snap_upper.proofs.upper.erase.Goals as goal

pub add_whiteout-requires : goal.add_whiteout-requires
add_whiteout-requires c =
    let u = c.args.layer.now in
    let p = c.args.path.now in
    let some : is_some (at u p) ≡ true = ap is_some (sym c.at.ensures.node) ∙ c.is_none.ensures ∙ ap not c.if-is_none.false in
    place_erased u c.args.lowers.now p c.at.ensures.layer some c.requires.below_root c.requires.clear

pub returns-in-Err-clause-error : goal.returns-in-Err-clause-error
returns-in-Err-clause-error c =
    let u = c.args.layer.now in
    let ls = c.args.lowers.now in
    let p = c.args.path.now in
    let some : is_some (at u p) ≡ true = ap is_some (sym c.at.ensures.node) ∙ c.is_none.ensures ∙ ap not c.if-is_none.false in
    let covers : is_some (below u ls p) ≡ true = sym c.requires.covers ∙ c.if-covers.true in
    subst (λ (t : Tree). (c.from.result ≡ OutOfMemory no_memory) ⊎ (limited t ≡ Err c.from.result)) (sym (erased_covered u ls p c.at.ensures.layer some covers))
    (edit_refused c.in-Err.error c.from.result (with_node u p Whiteout) c.from.ensures (λ full. c.in-Err.ensures.full.0 (ap (λ (x : LayerError). Err x) full)))

pub returns-then-covers-clause-ok : goal.returns-then-covers-clause-ok
returns-then-covers-clause-ok c =
    let u = c.args.layer.now in
    let ls = c.args.lowers.now in
    let p = c.args.path.now in
    let some : is_some (at u p) ≡ true = ap is_some (sym c.at.ensures.node) ∙ c.is_none.ensures ∙ ap not c.if-is_none.false in
    let covers : is_some (below u ls p) ≡ true = sym c.requires.covers ∙ c.if-covers.true in
    let next = c.add_whiteout.new.self in
    ap limited (erased_covered u ls p c.at.ensures.layer some covers ∙ sym c.in_default.ensures.ok) ∙ limited_fits next (layer_fits next c.in_default.ensures.layer)

pub take_name-requires : goal.take_name-requires
take_name-requires c =
    let u = c.args.layer.now in
    let p = c.args.path.now in
    let some : is_some (at u p) ≡ true = ap is_some (sym c.at.ensures.node) ∙ c.is_none.ensures ∙ ap not c.if-is_none.false in
    takeable_erased u c.args.lowers.now p c.at.ensures.layer some c.requires.below_root c.requires.clear

pub returns-clause-ok : goal.returns-clause-ok
returns-clause-ok c =
    let u = c.args.layer.now in
    let ls = c.args.lowers.now in
    let p = c.args.path.now in
    let some : is_some (at u p) ≡ true = ap is_some (sym c.at.ensures.node) ∙ c.is_none.ensures ∙ ap not c.if-is_none.false in
    let bare : is_some (below u ls p) ≡ false = sym c.requires.covers ∙ c.if-covers.false in
    let next = c.take_name.new.self in
    ap limited (erased_bare u ls p c.at.ensures.layer some bare ∙ sym c.take_name.ensures.next) ∙ limited_fits next (layer_fits next c.take_name.ensures.layer)

pub returns-then-is_none-clause-sure : goal.returns-then-is_none-clause-sure
returns-then-is_none-clause-sure c = λ (some : is_some (at c.args.layer.now c.args.path.now) ≡ true). absurd (no_bool (sym some ∙ ap is_some (sym c.at.ensures.node) ∙ c.is_none.ensures ∙ ap not c.if-is_none.true))

pub returns-in-Err-clause-sure : goal.returns-in-Err-clause-sure
returns-in-Err-clause-sure c = λ (some : is_some (at c.args.layer.now c.args.path.now) ≡ true).
    let u = c.args.layer.now in
    let ls = c.args.lowers.now in
    let p = c.args.path.now in
    let covers : is_some (below u ls p) ≡ true = sym c.requires.covers ∙ c.if-covers.true in
    subst (λ (t : Tree). limited t ≡ Err c.from.result) (sym (erased_covered u ls p c.at.ensures.layer some covers))
    (covered_sure c.in-Err.error c.from.result u (with_node u p Whiteout) p c.from.ensures (λ full. c.in-Err.ensures.full.0 (ap (λ (x : LayerError). Err x) full)) (λ want. c.in-Err.ensures.sure (ap (λ (x : LayerError). Err x) want)) some)
