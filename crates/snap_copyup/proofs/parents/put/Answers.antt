use Rattle.std.proofs.Common.{◌≡◌, ◌-◌, ◌<◌, OnOk, IfErr, length, sym, ap, ◌∙◌, subst, arith}
use Rattle.snap_layer.specs.Tree.{Tree}
use Rattle.snap_copyup.specs.Copying.{with_parents}
use Rattle.snap_copyup.specs.Places.{with_last, CanStand, IsRefusal, ParentStands}
use Rattle.snap_copyup.specs.Undoing.{fronts, Undoes}
use Rattle.snap_copyup.proofs.Chained.{all_stand, fits_after, full_last, undoes_above}
use Rattle.snap_copyup.proofs.ParentDirs.{parents_stand}
use Rattle.snap_copyup.proofs.Wholes.{IfErr-refused}
use Rattle.snap_copyup.proofs.parents.put.Goals as goal

pub put_last-requires-clause-parent : goal.put_last-requires-clause-parent
put_last-requires-clause-parent c =
    let u = c.args.layer.now in
    let ls = c.args.lowers.now in
    let p = c.args.path.now in
    let n = c.standing_dirs-first.result in
    let stands = c.standing_dirs-first.ensures.above in
    let ok = c.standing_dirs-first.ensures.layer in
    let all = all_stand u ls p n ok c.requires.way stands (omega (arith, ap length c.names.ensures.names)) in
    all.1

pub returns-then-first-names-clause-ok : goal.returns-then-first-names-clause-ok
returns-then-first-names-clause-ok c =
    let u = c.args.layer.now in
    let ls = c.args.lowers.now in
    let p = c.args.path.now in
    let n = c.standing_dirs-first.result in
    let stands = c.standing_dirs-first.ensures.above in
    let ok = c.standing_dirs-first.ensures.layer in
    let all = all_stand u ls p n ok c.requires.way stands (omega (arith, ap length c.names.ensures.names)) in
    subst (λ (t : Tree). OnOk c.put_last.result (c.put_last.new.layer ≡ with_last c.args.last t p)) (sym all.0) c.put_last.ensures.ok

pub returns-then-first-names-clause-error : goal.returns-then-first-names-clause-error
returns-then-first-names-clause-error c =
    let u = c.args.layer.now in
    let ls = c.args.lowers.now in
    let p = c.args.path.now in
    let n = c.standing_dirs-first.result in
    let stands = c.standing_dirs-first.ensures.above in
    let ok = c.standing_dirs-first.ensures.layer in
    let all = all_stand u ls p n ok c.requires.way stands (omega (arith, ap length c.names.ensures.names)) in
    subst (λ (t : Tree). IfErr c.put_last.result (λ e. IsRefusal (with_last c.args.last t p) e)) (sym all.0) c.put_last.ensures.error

pub returns-in_err-add_missing-clause-error : goal.returns-in_err-add_missing-clause-error
returns-in_err-add_missing-clause-error c =
    let u = c.args.layer.now in
    let ls = c.args.lowers.now in
    let p = c.args.path.now in
    let n = c.standing_dirs-first.result in
    let stands = c.standing_dirs-first.ensures.above in
    let ok = c.standing_dirs-first.ensures.layer in
    let less : n < length p = omega (arith, stands.few, ap length c.names.ensures.names) in
    IfErr-refused c.from_residual.result c.in_err-add_missing.field-0.0 (with_parents u ls p) (with_last c.args.last (with_parents u ls p) p) c.from_residual.ensures.1 (full_last u ls p n c.args.last ok c.requires.way stands less) c.in_err-add_missing.ensures.error

pub put_last-requires-2-clause-fit : goal.put_last-requires-2-clause-fit
put_last-requires-2-clause-fit c = subst (λ (t : Tree). CanStand c.args.last t c.args.path.now) (sym c.in_ok-add_missing.ensures.ok) (fits_after c.args.layer.now c.args.lowers.now c.args.path.now c.args.last c.requires.way c.requires.fit)

pub put_last-requires-2-clause-parent : goal.put_last-requires-2-clause-parent
put_last-requires-2-clause-parent c = subst (λ (t : Tree). ParentStands t c.args.path.now) (sym c.in_ok-add_missing.ensures.ok) (parents_stand c.args.layer.now c.args.lowers.now c.args.path.now c.requires.way)

pub take_dirs-requires-clause-undo : goal.take_dirs-requires-clause-undo
take_dirs-requires-clause-undo c =
    let u = c.args.layer.now in
    let ls = c.args.lowers.now in
    let p = c.args.path.now in
    let n = c.standing_dirs-first.result in
    let stands = c.standing_dirs-first.ensures.above in
    let ok = c.standing_dirs-first.ensures.layer in
    (u, subst (λ (t : Tree). Undoes (fronts p n (length p - n)) t u) (sym (c.in-Err.ensures.unchanged ∙ c.in_ok-add_missing.ensures.ok)) (undoes_above u ls p n ok c.requires.way stands))

pub returns-in-Err-clause-unchanged : goal.returns-in-Err-clause-unchanged
returns-in-Err-clause-unchanged c =
    let u = c.args.layer.now in
    let ls = c.args.lowers.now in
    let p = c.args.path.now in
    let n = c.standing_dirs-first.result in
    let stands = c.standing_dirs-first.ensures.above in
    let ok = c.standing_dirs-first.ensures.layer in
    c.take_dirs.ensures u (subst (λ (t : Tree). Undoes (fronts p n (length p - n)) t u) (sym (c.in-Err.ensures.unchanged ∙ c.in_ok-add_missing.ensures.ok)) (undoes_above u ls p n ok c.requires.way stands))
