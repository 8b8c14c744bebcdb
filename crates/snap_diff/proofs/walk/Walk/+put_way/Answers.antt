use Rattle.std.proofs.Common.{rules, arith, true, false, ◌≡◌, Some, List, OnOk, get_or, length, take, sym, ap, subst, ◌∙◌}
use Rattle.std.specs.Cmp.Lexicographic.{same_text}
use Rattle.snap_path.specs.Text.{Names}
use Rattle.snap_diff.specs.declared.change.Change.{Change}
use Rattle.snap_diff.specs.Changes.{put_rows}
use Rattle.snap_diff.specs.Places.{IsOwnPlace}
use Rattle.snap_diff.proofs.Places.{merged_is, touched_is}
use Rattle.snap_diff.proofs.Walks.{none_deep, untouched}
use Rattle.snap_diff.proofs.Ways.{next_front, some_at, way_next, way_rest}
use Rattle.snap_diff.proofs.walk.Walk.+put_way.Goals as goal

pub returns-then-depth-eq0 : goal.returns-then-depth-eq0
returns-then-depth-eq0 t c =
    sym (ap (put_rows c.args.self.now.most (Some c.args.after.now) c.args.rows.now.items) (none_deep c.args.depth c.args.self.now.layer.now c.args.self.now.lowers.now (take c.args.names c.args.after.now) c.if-depth-eq0.true))

pub returns-then-is_untouched : goal.returns-then-is_untouched
returns-then-is_untouched t c =
    let p : Names = take c.args.names c.args.after.now in
    sym (ap (put_rows c.args.self.now.most (Some c.args.after.now) c.args.rows.now.items) (untouched c.args.depth c.args.self.now.layer.now c.args.self.now.lowers.now c.show_are_layers.ensures p (touched_is c.args.self.now.layer.now p c.args.own.node c.args.own.dir c.args.own.hidden c.requires.own true (sym c.is_untouched.ensures ∙ c.if-is_untouched.true))))

pub put_way-requires : goal.put_way-requires
put_way-requires t c =
    let p : Names = take c.args.names c.args.after.now in
    let there = some_at c.args.after.now c.args.names c.in-Some.place.now (omega (arith, c.in-Some.ensures.lookup.3.0, ap length c.names.ensures.names)) (c.in-Some.ensures.lookup.1 ∙ ap (λ (ns : Names). get_or ns c.args.names c.in-Some.place.now) c.names.ensures.names) in
    (search rules, (omega (arith, c.in-Some.ensures.lookup.3.0, ap length c.names.ensures.names), subst (λ (q : Names). IsOwnPlace c.args.self.now.layer.now q c.entry.result.node c.entry.result.dir c.entry.result.hidden) (sym (next_front c.args.after.now c.args.names c.in-Some.place.now there)) (c.entry.ensures c.args.self.now.layer.now p c.show_are_layers.ensures.0 c.requires.own)))

pub returns-then-eq : goal.returns-then-eq
returns-then-eq t c =
    let u = c.args.self.now.layer.now in
    let p : Names = take c.args.names c.args.after.now in
    let own = c.args.own in
    let touches = touched_is u p own.node own.dir own.hidden c.requires.own false (sym c.is_untouched.ensures ∙ c.if-is_untouched.false) in
    let there = some_at c.args.after.now c.args.names c.in-Some.place.now (omega (arith, c.in-Some.ensures.lookup.3.0, ap length c.names.ensures.names)) (c.in-Some.ensures.lookup.1 ∙ ap (λ (ns : Names). get_or ns c.args.names c.in-Some.place.now) c.names.ensures.names) in
    let merges = sym (merged_is u p own.node own.dir own.hidden c.requires.own) ∙ sym (c.if-not-is_merged.ensures {u = tt}) in
    subst (λ (xs : List Change). OnOk c.put_rest.result (c.put_rest.new.rows.items ≡ xs))
    (way_next c.args.depth u c.args.self.now.lowers.now c.show_are_layers.ensures c.args.self.now.most c.args.after.now c.args.names c.in-Some.place.now there c.args.rows.now.items own.node own.dir own.hidden c.requires.own touches merges c.if-depth-eq0.false
    c.in-Some-first_name.first.now c.put_way.new.rows.items (same_text c.in-Some-first_name.first.now c.in-Some.place.now (sym c.if-eq.true ∙ c.eq.ensures)) c.in-Some-first_name.ensures c.in_ok-put_way.ensures)
    c.put_rest.ensures

pub returns : goal.returns
returns t c =
    let u = c.args.self.now.layer.now in
    let p : Names = take c.args.names c.args.after.now in
    let own = c.args.own in
    let touches = touched_is u p own.node own.dir own.hidden c.requires.own false (sym c.is_untouched.ensures ∙ c.if-is_untouched.false) in
    let there = some_at c.args.after.now c.args.names c.in-Some.place.now (omega (arith, c.in-Some.ensures.lookup.3.0, ap length c.names.ensures.names)) (c.in-Some.ensures.lookup.1 ∙ ap (λ (ns : Names). get_or ns c.args.names c.in-Some.place.now) c.names.ensures.names) in
    let merges = sym (merged_is u p own.node own.dir own.hidden c.requires.own) ∙ sym (c.if-not-is_merged.ensures {u = tt}) in
    subst (λ (xs : List Change). OnOk c.put_rest-2.result (c.put_rest-2.new.rows.items ≡ xs))
    (way_rest c.args.depth u c.args.self.now.lowers.now c.show_are_layers.ensures c.args.self.now.most c.args.after.now c.args.names c.in-Some.place.now there c.args.rows.now.items own.node own.dir own.hidden c.requires.own touches merges c.if-depth-eq0.false)
    c.put_rest-2.ensures
