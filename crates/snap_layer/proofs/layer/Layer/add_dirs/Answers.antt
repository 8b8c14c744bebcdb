use Rattle.std.proofs.Common.{◌≡◌, ◌+◌, ◌≤◌, length, take, drop, refl, sym, ap, subst, ◌∙◌, arith}
use Rattle.std.proofs.lemmas.Result.{err_from_is_err_and}
use Rattle.snap_layer.specs.Tree.{Tree}
use Rattle.snap_layer.specs.Counts.{inode_count}
use Rattle.snap_layer.specs.Layers.{IsLayer}
use Rattle.snap_layer.specs.Totals.{Counts, IsCounted}
use Rattle.snap_layer.specs.Edits.{with_dirs}
use Rattle.snap_layer.proofs.Filling.{memory_said, ok_said}
use Rattle.snap_layer.proofs.Totaling.{few_blocks}
use Rattle.snap_layer.proofs.Chains.{chained, chain_full}
use Rattle.snap_layer.proofs.layer.Layer.add_dirs.Goals as goal

pub returns-then-count-most_inodes-clause-full : goal.returns-then-count-most_inodes-clause-full
returns-then-count-most_inodes-clause-full c =
    let ok : IsLayer c.args.self.now = c.inodes.ensures.layer in
    (λ e. chain_full c.args.self.now c.args.path.now c.args.front c.args.metas.now ok c.requires.bare c.requires.within (omega (arith, c.inodes.ensures.count, c.most_inodes.ensures.most, ok.few)), λ e. refl)

pub returns-in_err-paths-clause-full : goal.returns-in_err-paths-clause-full
returns-in_err-paths-clause-full c =
    let ok : IsLayer c.args.self.now = c.inodes.ensures.layer in
    let few : inode_count c.args.self.now + length c.args.metas.now ≤ c.args.self.now.most = omega (arith, c.inodes.ensures.count, c.most_inodes.ensures.most, ok.few) in
    let is_chained = chained c.args.self.now c.args.path.now c.args.front c.args.metas.now ok c.requires.bare c.requires.within c.names.ensures.valid c.requires.dir c.requires.metas few in
    let e = err_from_is_err_and c.from_residual.result c.from_residual.ensures.1 in
    memory_said c.from_residual.result e.0 (with_dirs c.args.self.now (take c.args.front c.args.path.now) (drop c.args.front c.args.path.now) c.args.metas.now) e.1 e.2 is_chained.within

pub returns-in_err-put_dirs-clause-full : goal.returns-in_err-put_dirs-clause-full
returns-in_err-put_dirs-clause-full c =
    let ok : IsLayer c.args.self.now = c.inodes.ensures.layer in
    let few : inode_count c.args.self.now + length c.args.metas.now ≤ c.args.self.now.most = omega (arith, c.inodes.ensures.count, c.most_inodes.ensures.most, ok.few) in
    let is_chained = chained c.args.self.now c.args.path.now c.args.front c.args.metas.now ok c.requires.bare c.requires.within c.names.ensures.valid c.requires.dir c.requires.metas few in
    let e = err_from_is_err_and c.from_residual-in_err-put_dirs.result c.from_residual-in_err-put_dirs.ensures.1 in
    memory_said c.from_residual-in_err-put_dirs.result e.0 (with_dirs c.args.self.now (take c.args.front c.args.path.now) (drop c.args.front c.args.path.now) c.args.metas.now) e.1 e.2 is_chained.within

pub overflow_add-self-2 : goal.overflow_add-self-2
overflow_add-self-2 c =
    let ok : IsLayer c.args.self.now = c.inodes.ensures.layer in
    let few : inode_count c.args.self.now + length c.args.metas.now ≤ c.args.self.now.most = omega (arith, c.inodes.ensures.count, c.most_inodes.ensures.most, ok.few) in
    let is_chained = chained c.args.self.now c.args.path.now c.args.front c.args.metas.now ok c.requires.bare c.requires.within c.names.ensures.valid c.requires.dir c.requires.metas few in
    let had : Counts c.self.inside.totals c.args.self.now = subst (Counts c.self.inside.totals) c.self.view_is c.self.invariant.0 in
    omega (arith, had.blocks, is_chained.blocks, few_blocks (with_dirs c.args.self.now (take c.args.front c.args.path.now) (drop c.args.front c.args.path.now) c.args.metas.now) is_chained.layer)

pub invariant_of-self-2 : goal.invariant_of-self-2
invariant_of-self-2 c =
    let ok : IsLayer c.args.self.now = c.inodes.ensures.layer in
    let few : inode_count c.args.self.now + length c.args.metas.now ≤ c.args.self.now.most = omega (arith, c.inodes.ensures.count, c.most_inodes.ensures.most, ok.few) in
    let is_chained = chained c.args.self.now c.args.path.now c.args.front c.args.metas.now ok c.requires.bare c.requires.within c.names.ensures.valid c.requires.dir c.requires.metas few in
    let is : c.put_dirs.new.self ≡ (with_dirs c.args.self.now (take c.args.front c.args.path.now) (drop c.args.front c.args.path.now) c.args.metas.now) = c.in_ok-put_dirs.ensures.ok ∙ ap (λ (u : Tree). with_dirs u (take c.args.front c.args.path.now) (drop c.args.front c.args.path.now) c.args.metas.now) c.self.view_is in
    let had : Counts c.self.inside.totals c.args.self.now = subst (Counts c.self.inside.totals) c.self.view_is c.self.invariant.0 in
    subst (IsCounted _) (sym is) (record { inodes = omega (arith, had.inodes, is_chained.inodes); blocks = omega (arith, had.blocks, is_chained.blocks); paths = omega (arith, had.paths, is_chained.paths, c.in_ok-paths.ensures) }, is_chained.layer)

pub returns-clause-layer : goal.returns-clause-layer
returns-clause-layer c =
    let ok : IsLayer c.args.self.now = c.inodes.ensures.layer in
    let few : inode_count c.args.self.now + length c.args.metas.now ≤ c.args.self.now.most = omega (arith, c.inodes.ensures.count, c.most_inodes.ensures.most, ok.few) in
    let is_chained = chained c.args.self.now c.args.path.now c.args.front c.args.metas.now ok c.requires.bare c.requires.within c.names.ensures.valid c.requires.dir c.requires.metas few in
    let is : c.put_dirs.new.self ≡ (with_dirs c.args.self.now (take c.args.front c.args.path.now) (drop c.args.front c.args.path.now) c.args.metas.now) = c.in_ok-put_dirs.ensures.ok ∙ ap (λ (u : Tree). with_dirs u (take c.args.front c.args.path.now) (drop c.args.front c.args.path.now) c.args.metas.now) c.self.view_is in
    subst IsLayer (sym is) is_chained.layer

pub returns-clause-full : goal.returns-clause-full
returns-clause-full c =
    let ok : IsLayer c.args.self.now = c.inodes.ensures.layer in
    let few : inode_count c.args.self.now + length c.args.metas.now ≤ c.args.self.now.most = omega (arith, c.inodes.ensures.count, c.most_inodes.ensures.most, ok.few) in
    let is_chained = chained c.args.self.now c.args.path.now c.args.front c.args.metas.now ok c.requires.bare c.requires.within c.names.ensures.valid c.requires.dir c.requires.metas few in
    ok_said _ (with_dirs c.args.self.now (take c.args.front c.args.path.now) (drop c.args.front c.args.path.now) c.args.metas.now) is_chained.within
