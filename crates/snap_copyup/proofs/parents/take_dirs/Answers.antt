use Rattle.std.proofs.Common.{◌≡◌, ℕ, ◌-◌, ◌<◌, ◌≤◌, length, sym, ap, subst, arith}
use Rattle.snap_layer.specs.Tree.{Tree}
use Rattle.snap_copyup.specs.Undoing.{fronts, Undoes}
use Rattle.snap_copyup.proofs.Chained.{undoes_first, undoes_last}
use Rattle.snap_copyup.proofs.parents.take_dirs.Goals as goal

pub loop-names-init : goal.loop-names-init
loop-names-init c = record {
  far = omega (arith, c.requires.within, ap length c.names-names.ensures.names);
  undo = λ u undoes. subst (λ (k : ℕ). Undoes (fronts c.args.path.now c.args.first (k - c.args.first)) c.args.layer.now u) (sym (ap length c.names-names.ensures.names)) undoes;
}

pub take_front-requires-clause-takeable : goal.take_front-requires-clause-takeable
take_front-requires-clause-takeable c =
    let lt : c.args.first < c.loop-names.names = omega arith in
    (undoes_first c.args.path.now c.args.first c.loop-names.names c.loop-names.layer c.requires.undo.0 lt (c.loop-names.invariant.undo c.requires.undo.0 c.requires.undo.1)).0

pub loop-names-preserved : goal.loop-names-preserved
loop-names-preserved c =
    let lt : c.args.first < c.loop-names.names = omega arith in
    record {
      far = omega arith;
      undo = λ u undoes. subst (λ (t : Tree). Undoes (fronts c.args.path.now c.args.first (c.loop-names.names - 1 - c.args.first)) t u) (sym c.take_front.ensures.next) (undoes_first c.args.path.now c.args.first c.loop-names.names c.loop-names.layer u lt (c.loop-names.invariant.undo u undoes)).1;
    }

pub returns : goal.returns
returns c = λ u undoes.
    let end : c.loop-names.names ≤ c.args.first = omega arith in
    undoes_last c.args.path.now c.args.first c.loop-names.names c.loop-names.layer u end (c.loop-names.invariant.undo u undoes)
