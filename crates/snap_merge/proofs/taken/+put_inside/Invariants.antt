use Rattle.std.proofs.Common.{◌≡◌, ◌+◌, ◌*◌, ◌++◌}
use Rattle.std.specs.List.{flat_map}
use Rattle.std.specs.Vec.Iter.{into_iter_items}
use Rattle.snap_merge.specs.Taken.{with_inside}
use Rattle.snap_merge.specs.Row.{row_at, part_in, parts_in}
use Rattle.snap_merge.proofs.taken.+put_inside.Given as goal

abbrev pub decreases-put_inside : goal.decreases-put_inside
decreases-put_inside l = 3 * l.most

abbrev pub decreases-put_entries : goal.decreases-put_entries
decreases-put_entries l = 3 * l.most + 2

abbrev pub decreases-put_entry : goal.decreases-put_entry
decreases-put_entry l = 3 * l.most + 1

-- the entries so far, and those that are left
abbrev pub invariant-put_entries-loop-name : goal.invariant-put_entries-loop-name
invariant-put_entries-loop-name l =
    l.parts.items ++ flat_map (λ n. with_inside (parts_in l.most (row_at l.row n)) (part_in 0 l.row n)) (into_iter_items l.name-iterator)
    ≡ l.fn.parts.items ++ flat_map (λ n. with_inside (parts_in l.most (row_at l.row n)) (part_in 0 l.row n)) l.fn.names.items
