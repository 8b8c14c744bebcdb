use Rattle.std.proofs.Common.{◌≡◌, ◌-◌, ◌<◌, length, map, get_or, sym, ap, ◌∙◌, arith, []}
use Rattle.std.specs.Ordering.{is_le}
use Rattle.std.proofs.lemmas.List.{get_or-map, length-map}
use Rattle.std.proofs.lemmas.Map.Keys.{sorted_from_all_adjacent}
use Rattle.snap_layer.proofs.Paths.{path_cmp_total}
use Rattle.snap_saved.specs.Saved.{dir_path}
use Rattle.snap_saved.proofs.InTurn.{order_begins, order_breaks, order_ends, order_goes_on}
use Rattle.snap_saved.proofs.Rising.{neighbours, unordered}
use Rattle.snap_saved.proofs.order.unsorted_dirs.Goals as goal

pub loop-place-init : goal.loop-place-init
loop-place-init c = record { rises = λ k below. absurd (omega (arith, below)); left = order_begins (map dir_path c.args.dirs.now) }

pub loop-place-preserved : goal.loop-place-preserved
loop-place-preserved c =
    let ds = c.args.dirs.now in
    let i = c.loop-place.place in
    let here : i < length ds = omega arith in
    let before : i - 1 < length ds = omega arith in
    let x = get_or ds (i - 1) c.index-dirs-place-in-loop-place.result in
    let y = get_or ds i c.index-dirs-place.result in
    let at_x : x.path ≡ get_or (map dir_path ds) (i - 1) x.path = sym (get_or-map dir_path ds (i - 1) c.index-dirs-place-in-loop-place.result x.path before) in
    let at_y : y.path ≡ get_or (map dir_path ds) i y.path = sym (get_or-map dir_path ds i c.index-dirs-place.result y.path here) in
    let after = ap is_le (sym c.cmp.ensures) ∙ sym c.is_le.ensures ∙ c.if-is_le.false in
    record {
      rises = neighbours (map dir_path ds) i x.path y.path (omega arith) (omega (arith, here, length-map ds dir_path)) at_x at_y after c.loop-place.invariant.rises;
      left = order_goes_on (map dir_path ds) i x.path y.path (omega arith) (omega (arith, here, length-map ds dir_path)) at_x at_y c.loop-place.invariant.left after;
    }

pub returns-then-is_le-clause-sorted : goal.returns-then-is_le-clause-sorted
returns-then-is_le-clause-sorted c = λ sorted.
    let ds = c.args.dirs.now in
    let i = c.loop-place.place in
    let here : i < length ds = omega arith in
    let before : i - 1 < length ds = omega arith in
    let x = get_or ds (i - 1) c.index-dirs-place-in-loop-place.result in
    let y = get_or ds i c.index-dirs-place.result in
    let at_x : x.path ≡ get_or (map dir_path ds) (i - 1) x.path = sym (get_or-map dir_path ds (i - 1) c.index-dirs-place-in-loop-place.result x.path before) in
    let at_y : y.path ≡ get_or (map dir_path ds) i y.path = sym (get_or-map dir_path ds i c.index-dirs-place.result y.path here) in
    unordered (map dir_path ds) i x.path y.path (omega arith) (omega (arith, here, length-map ds dir_path)) at_x at_y
    (ap is_le (sym c.cmp.ensures) ∙ sym c.is_le.ensures ∙ c.if-is_le.true)
    sorted

pub returns-then-is_le-clause-first : goal.returns-then-is_le-clause-first
returns-then-is_le-clause-first c =
    let ds = c.args.dirs.now in
    let i = c.loop-place.place in
    let here : i < length ds = omega arith in
    let before : i - 1 < length ds = omega arith in
    let x = get_or ds (i - 1) c.index-dirs-place-in-loop-place.result in
    let y = get_or ds i c.index-dirs-place.result in
    let at_x : x.path ≡ get_or (map dir_path ds) (i - 1) x.path = sym (get_or-map dir_path ds (i - 1) c.index-dirs-place-in-loop-place.result x.path before) in
    let at_y : y.path ≡ get_or (map dir_path ds) i y.path = sym (get_or-map dir_path ds i c.index-dirs-place.result y.path here) in
    sym (order_breaks (map dir_path ds) i x.path y.path (omega arith) (omega (arith, here, length-map ds dir_path)) at_x at_y c.loop-place.invariant.left (ap is_le (sym c.cmp.ensures) ∙ sym c.is_le.ensures ∙ c.if-is_le.true))

pub returns-clause-sorted : goal.returns-clause-sorted
returns-clause-sorted c = sorted_from_all_adjacent path_cmp_total (map dir_path c.args.dirs.now) [] (λ k lt. c.loop-place.invariant.rises k (omega (arith, lt, length-map c.args.dirs.now dir_path)))

pub returns-clause-first : goal.returns-clause-first
returns-clause-first c = sym (order_ends (map dir_path c.args.dirs.now) c.loop-place.place _ (omega (arith, length-map c.args.dirs.now dir_path)) c.loop-place.invariant.left)
