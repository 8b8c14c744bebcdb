use Rattle.std.proofs.Common.{◌++◌, ◌∷◌, [], Bor, Some, length, sym, take, arith}
use Rattle.std.specs.Bound.{bound_map}
use Rattle.std.specs.List.{flat_map}
use Rattle.std.proofs.lemmas.Bool.{le-ltb}
use Rattle.snap_path.specs.declared.name.Name.{Name}
use Rattle.snap_layer.specs.Directory.{names_from}
use Rattle.snap_diff.specs.Changes.{changes_below}
use Rattle.snap_diff.specs.Places.{directory_names}
use Rattle.snap_diff.proofs.Walks.{put_full}
use Rattle.snap_diff.proofs.walk.Walk.put_rest.Goals as goal

pub returns-then-len-self : goal.returns-then-len-self
returns-then-len-self c =
    sym (put_full c.args.self.now.most (Some c.args.after.now) c.args.rows.now.items (flat_map (λ name. changes_below c.args.depth c.args.self.now.layer.now c.args.self.now.lowers.now (take c.args.names c.args.after.now ++ name ∷ [])) (names_from (bound_map (λ (x : Bor Name). x.now) c.args.from) (directory_names c.args.own.dir))) (le-ltb (length c.args.rows.now.items) c.args.self.now.most (omega (arith, c.len.ensures, c.if-len-self.true))))
