use Rattle.std.proofs.Common.{Bor, subst}
use Rattle.std.specs.Bound.{bound_map}
use Rattle.std.specs.Option.{option_copied}
use Rattle.snap_path.specs.Text.{Names}
use Rattle.snap_path.specs.declared.name.Name.{Name}
use Rattle.snap_layer.specs.Directory.{IsFirstName}
use Rattle.snap_layer.proofs.Dirs.{names_in}
use Rattle.snap_layer.proofs.dir.Dir.first_name.Goals as goal

pub returns : goal.returns
returns c =
    subst (λ (ns : Names). IsFirstName (bound_map (λ (x : Bor Name). x.now) c.args.from) ns (option_copied c.name_at.result))
    (names_in c.self.inside.slots.now c.self.inside.root c.self.inside.key c.self.inside.tree c.self.inside.path c.self.inside.table.now c.self.invariant.2 c.args.self.now c.self.view_is c.self.invariant.0 c.name_at.ensures.order)
    c.name_at.ensures.first
