use Rattle.std.proofs.Common.{◌≡◌, ◌-◌, ◌++◌, ◌∷◌, [], List, Option, Some, sym, ap, ◌∙◌, append_assoc}
use Rattle.std.specs.List.{flat_map}
use Rattle.snap_path.specs.Text.{Names}
use Rattle.snap_merge.specs.declared.taken.Part.{Part}
use Rattle.snap_merge.specs.declared.taken.Part.TheVariants as parts
use Rattle.snap_merge.specs.Taken.{with_inside}
use Rattle.snap_merge.specs.Row.{Row, row_at, part_in, parts_in}
use Rattle.snap_merge.proofs.Rows.{level}
use Rattle.snap_merge.proofs.taken.+put_inside.Goals as goal

pub put_inside-returns : goal.put_inside-returns
put_inside-returns t c =
    let r = c.args.row.now in
    c.in_ok-put_entries.ensures
    ∙ ap (λ (ns : Names). c.args.parts.now.items ++ flat_map (λ n. with_inside (parts_in (c.args.most - 1) (row_at r n)) (part_in 0 r n)) ns) c.in_ok-names.ensures
    ∙ ap (λ (ps : List Part). c.args.parts.now.items ++ ps) (sym (level c.args.most r c.if-most-eq0.false))

pub put_entry-returns-in_ok-put_inside-in-Some-Dir : goal.put_entry-returns-in_ok-put_inside-in-Some-Dir
put_entry-returns-in_ok-put_inside-in-Some-Dir t c =
    let r = c.args.row.now in
    let n = c.args.name.now in
    let is : part_in 0 r n ≡ Some parts.Dir = sym c.part_in.ensures ∙ c.in-Some-Dir.is ∙ ap Some c.in-Some-Dir.field-0-is in
    let below : c.put_row.new.rows.items ≡ row_at r n = c.in_ok-put_row-in-Some-Dir.ensures ∙ ap (λ (x : Row). x ++ row_at r n) c.new-below.ensures.items in
    c.in_ok-put_inside-in-Some-Dir.ensures
    ∙ ap (λ (ps : List Part). ps ++ parts_in c.args.most c.as_slice.result.now) c.in_ok-push-in-Some-Dir.ensures.items
    ∙ append_assoc c.args.parts.now.items (parts.Dir ∷ []) (parts_in c.args.most c.as_slice.result.now)
    ∙ ap (λ (x : Row). c.args.parts.now.items ++ parts.Dir ∷ parts_in c.args.most x) (c.as_slice.ensures ∙ below)
    ∙ ap (λ (o : Option Part). c.args.parts.now.items ++ with_inside (parts_in c.args.most (row_at r n)) o) (sym is)
