use Rattle.std.proofs.Common.{◌≡◌, ◌∷◌, Bor, ap, sym, ◌∙◌}
use Rattle.std.specs.Option.{option_copied}
use Rattle.std.specs.Bound.{bound_map}
use Rattle.std.specs.BTreeMap.Range.{entries_between}
use Rattle.std.specs.declared.ops.Bound.{Bound}
use Rattle.std.specs.declared.ops.Bound.TheVariants.{Unbounded}
use Rattle.snap_path.specs.declared.name.Name.{Name}
use Rattle.snap_layer.specs.Rows.{name_cmp, bound_of, items_above}
use Rattle.snap_layer.proofs.Ahead.{after_next}
use Rattle.snap_layer.proofs.rows.item_after.Goals as goal
use Rattle.snap_layer.proofs.rows.item_after.Goals.{in-Some, in-None}

pub returns-in-Some-next : goal.returns-in-Some-next
returns-in-Some-next c =
    let start : bound_map (λ (x : Bor Name). x.now) c.match-last.start ≡ bound_of (option_copied c.args.last) = elim c.match-last.branch [
      | in-Some w ↦ ap (λ (b : Bound (Bor Name)). bound_map (λ (x : Bor Name). x.now) b) w.start-is ∙ sym (ap (λ o. bound_of (option_copied o)) w.in-Some.is)
      | in-None w ↦ ap (λ (b : Bound (Bor Name)). bound_map (λ (x : Bor Name). x.now) b) w.start-is ∙ sym (ap (λ o. bound_of (option_copied o)) w.in-None.is)
    ] in
    let first : items_above (option_copied c.args.last) c.args.entries.now.entries ≡ (c.in-Some-next.name.now, c.in-Some-next.target.now) ∷ c.next.new.self = sym (ap (λ b. entries_between name_cmp b Unbounded c.args.entries.now.entries) start) ∙ sym (c.range.ensures.between tt) ∙ c.in-Some-next.ensures.steps in
    first ∙ ap (λ es. (c.in-Some-next.name.now, c.in-Some-next.target.now) ∷ es) (sym (after_next (option_copied c.args.last) c.args.entries.now.entries c.in-Some-next.name.now c.in-Some-next.target.now c.next.new.self c.range.ensures.ordered first))
