use Rattle.std.proofs.Common.{◌≡◌, ◌∷◌, sym, ap, subst, ◌∙◌, OnOk, IfErr}
use Rattle.snap_layer.specs.Tree.{Tree}
use Rattle.snap_merge.specs.Objects.{seen}
use Rattle.snap_copyup.specs.declared.parents.Last.{Last}
use Rattle.snap_copyup.specs.Copying.{with_parents}
use Rattle.snap_copyup.specs.Places.{with_last, CanStand, IsRefusal}
use Rattle.snap_copyup.proofs.Alone.{OnOk-weaker}
use Rattle.snap_copyup.proofs.Copies.{last_copied, copied_view, copy_fits}
use Rattle.snap_copyup.proofs.lower.copy_up.Goals as goal

pub put-requires-clause-fit : goal.put-requires-clause-fit
put-requires-clause-fit c =
    let u = c.args.layer.now in
    subst (λ (l : Last). CanStand l u c.args.path.now) (sym c.in_ok-last.ensures.last) (copy_fits u c.args.lowers.now c.args.path.now c.in_ok-last.ensures.layer c.show_are_layers.ensures)

pub returns-clause-ok : goal.returns-clause-ok
returns-clause-ok c =
    let u = c.args.layer.now in
    let p = c.args.path.now in
    let t = with_parents u c.args.lowers.now p in
    subst (λ (v : Tree). OnOk c.put.result (c.put.new.layer ≡ v)) (ap (λ (l : Last). with_last l t p) c.in_ok-last.ensures.last ∙ last_copied u c.args.lowers.now p c.requires) c.put.ensures.ok

pub returns-clause-error : goal.returns-clause-error
returns-clause-error c =
    let u = c.args.layer.now in
    let p = c.args.path.now in
    let t = with_parents u c.args.lowers.now p in
    subst (λ (v : Tree). IfErr c.put.result (λ e. IsRefusal v e)) (ap (λ (l : Last). with_last l t p) c.in_ok-last.ensures.last ∙ last_copied u c.args.lowers.now p c.requires) c.put.ensures.error

pub returns-clause-view : goal.returns-clause-view
returns-clause-view c =
    let u = c.args.layer.now in
    let ls = c.args.lowers.now in
    let p = c.args.path.now in
    let t = with_parents u ls p in
    OnOk-weaker c.put.result
    (λ (e : c.put.new.layer ≡ with_last c.in_ok-last.last (with_parents u ls p) p) q.
    ap (λ (v : Tree). seen (v ∷ ls) q) (e ∙ ap (λ (l : Last). with_last l t p) c.in_ok-last.ensures.last ∙ last_copied u ls p c.requires)
    ∙ copied_view u ls p c.requires c.in_ok-last.ensures.layer c.show_are_layers.ensures q)
    c.put.ensures.ok
