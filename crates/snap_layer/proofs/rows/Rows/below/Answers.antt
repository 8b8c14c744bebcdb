use Rattle.std.proofs.Common.{◌≡◌, ◌++◌, refl, sym, ap, subst, ◌∙◌, arith}
use Rattle.std.specs.FinMap as map
use Rattle.snap_layer.specs.contracts.node.Node as node_contracts
use Rattle.snap_layer.specs.Edits.{inside}
use Rattle.snap_layer.specs.Walk.{walk, entry_at, stands, view_of}
use Rattle.snap_layer.specs.Rows.{ahead, spread, own, entered_from, IsWalk}
use Rattle.snap_layer.proofs.Walking.{first_walk, first_text, first_row, same_entries}
use Rattle.snap_layer.proofs.rows.Rows.below.Goals as goal

pub invariant_of-result-2 : goal.invariant_of-result-2
invariant_of-result-2 g c =
    let from = walk (entry_at c.args.slots.now) c.args.root c.args.front.now in
    let walks : IsWalk c.args.slots.now c.args.root (map.entries c.requires.table.0.0) c.args.front.now c.enter_first.new.frames.items =
    subst (IsWalk c.args.slots.now c.args.root (map.entries c.requires.table.0.0) c.args.front.now) (sym c.enter_first.ensures.frames) (first_walk c.args.slots.now c.args.root c.requires.table.0 c.requires.table.1 c.args.front.now from refl c.enter_first.ensures.order) in
    (subst (λ es. IsWalk c.args.slots.now c.args.root es c.args.front.now c.enter_first.new.frames.items) (same_entries (node_contracts.the_row).coded c.args.slots.now c.args.root c.requires.table.0 c.result-1.given.0) walks, first_text c.args.slots.now c.args.root c.requires.table.0 c.requires.table.1 c.args.front.now from refl c.enter_first.ensures.order c.enter_first.new.frames.items c.enter_first.ensures.frames, omega (arith, c.enter_first.ensures.capacity, c.new-frames.ensures.capacity), c.enter_first.ensures.room)

pub returns-clause-rest : goal.returns-clause-rest
returns-clause-rest g c = λ h.
    let from = walk (entry_at c.args.slots.now) c.args.root c.args.front.now in
    let here = own c.args.front.now (stands (view_of c.args.slots.now) c.args.root c.args.front.now) in
    let first : inside c.args.front.now (map.entries c.requires.table.0.0) ≡ here ++ spread (map.entries c.requires.table.0.0) (ahead c.args.slots.now c.args.front.now (entered_from from)) =
    first_row c.args.slots.now c.args.root c.requires.table.0 c.requires.table.1 c.args.front.now from refl c.enter_first.ensures.order in
    subst (λ es. inside c.args.front.now es ≡ here ++ spread (map.entries c.result-1.given.0.0) (ahead c.args.slots.now c.args.front.now c.enter_first.new.frames.items))
    (same_entries (node_contracts.the_row).coded c.args.slots.now c.args.root c.requires.table.0 h)
    (first
    ∙ ap (λ fs. here ++ spread (map.entries c.requires.table.0.0) (ahead c.args.slots.now c.args.front.now fs)) (sym c.enter_first.ensures.frames)
    ∙ ap (λ es. here ++ spread es (ahead c.args.slots.now c.args.front.now c.enter_first.new.frames.items)) (same_entries (node_contracts.the_row).coded c.args.slots.now c.args.root c.requires.table.0 c.result-1.given.0))
