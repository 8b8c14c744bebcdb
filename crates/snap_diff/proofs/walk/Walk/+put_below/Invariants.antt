use Rattle.std.proofs.Common.{◌≡◌, ◌+◌, ◌*◌, [], ◌∷◌, ◌++◌, Bor, length}
use Rattle.std.specs.Bound.{bound_map}
use Rattle.std.specs.List.{flat_map}
use Rattle.std.specs.Option.{option_copied}
use Rattle.snap_path.specs.declared.name.Name.{Name}
use Rattle.snap_layer.specs.Directory.{names_from}
use Rattle.snap_diff.specs.Changes.{changes_below, put_rows}
use Rattle.snap_diff.specs.Places.{after_here, directory_names}
use Rattle.snap_diff.proofs.walk.Walk.+put_below.Given as goal

abbrev pub decreases-put_below : goal.decreases-put_below
decreases-put_below l = 4 * l.depth

abbrev pub decreases-put_inside : goal.decreases-put_inside
decreases-put_inside l = 4 * l.depth + 3

abbrev pub decreases-put_own : goal.decreases-put_own
decreases-put_own l = 4 * l.depth + 2

abbrev pub decreases-put_both : goal.decreases-put_both
decreases-put_both l = 4 * l.depth + 2

abbrev pub decreases-put_entry : goal.decreases-put_entry
decreases-put_entry l = 4 * l.depth + 1

-- the names from the bound on give what all give
abbrev pub invariant-put_own-loop-name : goal.invariant-put_own-loop-name
invariant-put_own-loop-name l =
    put_rows l.self.most (after_here l.place.path (option_copied l.place.after)) l.rows.items (flat_map (λ name. changes_below l.depth l.self.layer.now l.self.lowers.now (l.place.path ++ name ∷ [])) (names_from (bound_map (λ (x : Bor Name). x.now) l.from) (directory_names l.place.own.dir)))
    ≡ put_rows l.self.most (after_here l.place.path (option_copied l.place.after)) l.initial.rows.items (flat_map (λ name. changes_below l.depth l.self.layer.now l.self.lowers.now (l.place.path ++ name ∷ [])) (names_from (bound_map (λ (x : Bor Name). x.now) l.initial.from) (directory_names l.place.own.dir)))

abbrev pub decreases-put_own-loop-name : goal.decreases-put_own-loop-name
decreases-put_own-loop-name l = length (names_from (bound_map (λ (x : Bor Name). x.now) l.from) (directory_names l.place.own.dir))

-- the names that are left give what all give
abbrev pub invariant-put_both-loop-name : goal.invariant-put_both-loop-name
invariant-put_both-loop-name l =
    put_rows l.self.most (after_here l.place.path (option_copied l.place.after)) l.rows.items (flat_map (λ name. changes_below l.depth l.self.layer.now l.self.lowers.now (l.place.path ++ name ∷ [])) l.name-iterator)
    ≡ put_rows l.self.most (after_here l.place.path (option_copied l.place.after)) l.initial.rows.items (flat_map (λ name. changes_below l.depth l.self.layer.now l.self.lowers.now (l.place.path ++ name ∷ [])) l.initial.name-iterator)
