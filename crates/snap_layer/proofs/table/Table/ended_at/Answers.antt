use Rattle.std.proofs.Common.{◌≡◌, ◌++◌, ◌≤◌, take, sym, ap, subst, ◌∙◌, arith}
use Rattle.std.specs.Option.{option_copied}
use Rattle.snap_layer.specs.Tree.{Entries, at}
use Rattle.snap_layer.specs.Counts.{name_count}
use Rattle.snap_layer.specs.Rows.{own}
use Rattle.snap_layer.proofs.Ending.{all_end, has_last, start_entries, names_inside_few}
use Rattle.snap_layer.proofs.table.Table.ended_at.Goals.{else-links-gt1-via-then-links-gt1+else-names_among-links, else-links-gt1-via-else-links-gt1}
use Rattle.snap_layer.proofs.table.Table.ended_at.Goals as goal

pub returns-in-Some-body : goal.returns-in-Some-body
returns-in-Some-body c = λ rest is.
    let t = c.args.self.now in
    let p = c.args.front.now in
    let k = c.in-Some.number in
    let there = c.requires.there in
    let one : there.0 ≡ rest = start_entries p (at t p) there.0 rest (sym there.3 ∙ is) in
    let number = sym c.number.ensures ∙ c.in-Some.is in
    let few = names_inside_few t p (at t p) (take c.args.many rest) there.2 k (is ∙ ap (λ (es : Entries). own p (at t p) ++ es) (sym one ∙ there.4 ∙ ap (λ (es : Entries). take c.args.many es ++ there.2) one)) in
    let last = subst (λ (es : Entries). 1 ≤ name_count k es) (sym (ap (λ (es : Entries). take c.args.many es) (sym one) ∙ there.6)) (has_last t k there.5 there.1 c.args.node number) in
    let all : name_count k (take c.args.many rest) ≡ name_count k t.entries = elim c.else-links-gt1.branch [
      | else-links-gt1-via-then-links-gt1+else-names_among-links w ↦ omega (arith, w.names_among.ensures rest is, w.if-names_among-links.false, c.link_count-links.ensures)
      | else-links-gt1-via-else-links-gt1 w ↦ omega (arith, w.if-links-gt1.false, c.link_count-links.ensures, few, last)
    ] in
    all_end t c.args.node k c.in-Some-body.body.now c.blocks-in-Some-body.result (take c.args.many rest) number (sym c.body.ensures ∙ ap option_copied c.in-Some-body.is) c.blocks-in-Some-body.ensures all
