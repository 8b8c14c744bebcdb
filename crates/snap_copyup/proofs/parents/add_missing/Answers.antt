use Rattle.std.proofs.Common.{◌≡◌, ℕ, ◌-◌, ◌≤◌, List, length, take, drop, sym, ap, subst, ◌∙◌, Err, arith}
use Rattle.std.specs.List.{AllByRecursion}
use Rattle.snap_layer.specs.Layers.{IsMeta}
use Rattle.snap_layer.specs.Tree.{Tree}
use Rattle.snap_layer.specs.Edits.{with_dirs}
use Rattle.snap_layer.specs.declared.error.LayerError.{LayerError}
use Rattle.snap_merge.specs.Objects.{metas_from}
use Rattle.snap_copyup.specs.Copying.{with_parents}
use Rattle.snap_copyup.proofs.Chained.{is_missing, metas_whole}
use Rattle.snap_copyup.proofs.Wholes.{edit_refused}
use Rattle.snap_copyup.proofs.parents.add_missing.Goals as goal

pub returns-in_err-add_dirs-clause-error : goal.returns-in_err-add_dirs-clause-error
returns-in_err-add_dirs-clause-error c =
    let u = c.args.layer.now in
    let ls = c.args.lowers.now in
    let p = c.args.path.now in
    let n = c.args.first in
    let missing = is_missing u ls p n c.requires.layer c.requires.way c.requires.above c.requires.missing in
    let metas : c.deref.result.now ≡ metas_from c.args.lowers.now (take c.args.first c.args.path.now) (drop c.args.first c.args.path.now) = c.deref.ensures.value ∙ c.in_ok-metas.ensures ∙ ap (λ (s : List Tree). metas_from s (take n p) (drop n p)) c.of.ensures in
    edit_refused c.from_residual-in_err-add_dirs.result c.in_err-add_dirs.field-0.0 (with_dirs u (take (n - 1) p) (drop (n - 1) p) c.deref.result.now) (with_parents u ls p) c.from_residual-in_err-add_dirs.ensures.1
    (λ full. c.in_err-add_dirs.ensures.full.0 (ap (λ (x : LayerError). Err x) full))
    (ap (with_dirs u (take (n - 1) p) (drop (n - 1) p)) metas ∙ missing.same)

pub returns-clause-ok : goal.returns-clause-ok
returns-clause-ok c =
    let u = c.args.layer.now in
    let ls = c.args.lowers.now in
    let p = c.args.path.now in
    let n = c.args.first in
    let missing = is_missing u ls p n c.requires.layer c.requires.way c.requires.above c.requires.missing in
    let metas : c.deref.result.now ≡ metas_from c.args.lowers.now (take c.args.first c.args.path.now) (drop c.args.first c.args.path.now) = c.deref.ensures.value ∙ c.in_ok-metas.ensures ∙ ap (λ (s : List Tree). metas_from s (take n p) (drop n p)) c.of.ensures in
    c.in_ok-add_dirs.ensures.ok ∙ ap (with_dirs u (take (n - 1) p) (drop (n - 1) p)) metas ∙ missing.same

pub add_dirs-requires-clause-within : goal.add_dirs-requires-clause-within
add_dirs-requires-clause-within c =
    let u = c.args.layer.now in
    let ls = c.args.lowers.now in
    let p = c.args.path.now in
    let n = c.args.first in
    let missing = is_missing u ls p n c.requires.layer c.requires.way c.requires.above c.requires.missing in
    let metas : c.deref.result.now ≡ metas_from c.args.lowers.now (take c.args.first c.args.path.now) (drop c.args.first c.args.path.now) = c.deref.ensures.value ∙ c.in_ok-metas.ensures ∙ ap (λ (s : List Tree). metas_from s (take n p) (drop n p)) c.of.ensures in
    omega (arith, missing.long, ap length metas)

pub add_dirs-requires-clause-dir : goal.add_dirs-requires-clause-dir
add_dirs-requires-clause-dir c =
    let u = c.args.layer.now in
    let ls = c.args.lowers.now in
    let p = c.args.path.now in
    let n = c.args.first in
    let missing = is_missing u ls p n c.requires.layer c.requires.way c.requires.above c.requires.missing in
    missing.dir

pub add_dirs-requires-clause-metas : goal.add_dirs-requires-clause-metas
add_dirs-requires-clause-metas c =
    let ls = c.args.lowers.now in
    let p = c.args.path.now in
    let n = c.args.first in
    let metas : c.deref.result.now ≡ metas_from c.args.lowers.now (take c.args.first c.args.path.now) (drop c.args.first c.args.path.now) = c.deref.ensures.value ∙ c.in_ok-metas.ensures ∙ ap (λ (s : List Tree). metas_from s (take n p) (drop n p)) c.of.ensures in
    subst (AllByRecursion IsMeta) (sym metas) (metas_whole ls c.requires.layers (take n p) (drop n p))
