use Rattle.std.proofs.Common.{◌≡◌, ◌∷◌, Bor, List, ℕ, ap, sym, ◌∙◌}
use Rattle.std.specs.Bound.{bound_map}
use Rattle.std.specs.declared.ops.Bound.{Bound}
use Rattle.std.specs.Map.{keys_of}
use Rattle.snap_path.specs.Text.{Names}
use Rattle.snap_path.specs.declared.name.Name.{Name}
use Rattle.snap_layer.specs.Directory.{names_from}
use Rattle.snap_layer.proofs.Naming.{keys_from, after_first}
use Rattle.snap_layer.proofs.dir.name_from.Goals as goal

pub returns-in-Some-clause-first : goal.returns-in-Some-clause-first
returns-in-Some-clause-first c =
    let from : Bound (List ℕ) = bound_map (λ (x : Bor Name). x.now) c.args.from in
    let names : Names = keys_of c.args.entries.now.entries in
    let first : names_from from names ≡ c.in-Some.name.now ∷ keys_of c.next.new.self = keys_from from c.args.entries.now.entries ∙ ap (λ es. keys_of es) (sym (c.range.ensures.between tt) ∙ c.in-Some.ensures.steps) in
    first ∙ ap (λ (ns : Names). c.in-Some.name.now ∷ ns) (sym (after_first from names c.in-Some.name.now (keys_of c.next.new.self) c.range.ensures.ordered first))

pub returns-in-None-clause-first : goal.returns-in-None-clause-first
returns-in-None-clause-first c =
    let from : Bound (List ℕ) = bound_map (λ (x : Bor Name). x.now) c.args.from in
    keys_from from c.args.entries.now.entries ∙ ap (λ es. keys_of es) (sym (c.range.ensures.between tt) ∙ c.in-None.ensures.steps.0)
