use Rattle.std.proofs.Common.{◌≡◌, length, take, sym, ap, ◌∙◌, subst, arith}
use Rattle.std.proofs.lemmas.List.{take_all}
use Rattle.snap_path.specs.Text.{Names}
use Rattle.snap_layer.specs.Counts.{inode_count, block_count}
use Rattle.snap_layer.specs.Totals.{path_count, IsClear}
use Rattle.snap_layer.specs.Edits.{without}
use Rattle.snap_layer.proofs.layer.Layer.left.Goals as goal

pub left_front-requires : goal.left_front-requires
left_front-requires c =
    let all : take (length c.names.result.now) c.args.path.now ≡ c.args.path.now = take_all (length c.names.result.now) c.args.path.now (omega (arith, ap length c.names.ensures.names)) in
    record { within = omega (arith, ap length c.names.ensures.names); clear = subst (λ (p : Names). IsClear c.args.self.now p) (sym all) c.requires }

pub returns-clause-inodes : goal.returns-clause-inodes
returns-clause-inodes c =
    let all : take (length c.names.result.now) c.args.path.now ≡ c.args.path.now = take_all (length c.names.result.now) c.args.path.now (omega (arith, ap length c.names.ensures.names)) in
    c.left_front.ensures.inodes ∙ ap (λ (p : Names). inode_count (without c.args.self.now p)) all

pub returns-clause-blocks : goal.returns-clause-blocks
returns-clause-blocks c =
    let all : take (length c.names.result.now) c.args.path.now ≡ c.args.path.now = take_all (length c.names.result.now) c.args.path.now (omega (arith, ap length c.names.ensures.names)) in
    c.left_front.ensures.blocks ∙ ap (λ (p : Names). block_count (without c.args.self.now p)) all

pub returns-clause-paths : goal.returns-clause-paths
returns-clause-paths c =
    let all : take (length c.names.result.now) c.args.path.now ≡ c.args.path.now = take_all (length c.names.result.now) c.args.path.now (omega (arith, ap length c.names.ensures.names)) in
    c.left_front.ensures.paths ∙ ap (λ (p : Names). path_count (without c.args.self.now p)) all
