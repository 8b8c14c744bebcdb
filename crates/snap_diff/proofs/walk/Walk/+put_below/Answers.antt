use Rattle.std.proofs.Common.{rules, arith, true, false, ◌≡◌, ◌++◌, ◌∷◌, [], ℕ, List, Option, Err, OnOk, length, sym, ap, subst, ◌∙◌}
use Rattle.std.specs.List.{flat_map}
use Rattle.std.specs.declared.ops.Bound.{Bound}
use Rattle.std.specs.declared.ops.Bound.TheVariants.{Excluded}
use Rattle.std.specs.Option.{option_copied, option_map}
use Rattle.std.proofs.lemmas.Bool.{le-ltb}
use Rattle.snap_path.specs.Text.{Names}
use Rattle.snap_merge.specs.Objects.{object, seen}
use Rattle.snap_merge.proofs.Above.{nothing_seen}
use Rattle.snap_diff.specs.declared.change.Change.{Change}
use Rattle.snap_diff.specs.Changes.{changes_below, put_rows}
use Rattle.snap_diff.specs.Places.{after_here, directory_names, IsOwnPlace}
use Rattle.snap_layer.specs.Directory.{names_from}
use Rattle.snap_diff.proofs.Afters.{entry_in, entry_out}
use Rattle.snap_diff.proofs.Places.{merged_is, shown_is, touched_is}
use Rattle.snap_diff.proofs.Starts.{from_start, shared_names}
use Rattle.snap_diff.proofs.Walks.{none_deep, put_full, untouched, put_dir, put_other, no_changes, too_long, put_rows-append}
use Rattle.snap_diff.proofs.walk.Walk.+put_below.Goals as goal

pub put_below-returns-then-depth-eq0 : goal.put_below-returns-then-depth-eq0
put_below-returns-then-depth-eq0 t c =
    sym (ap (put_rows c.args.self.now.most (after_here c.args.place.now.path (option_copied c.args.place.now.after)) c.args.rows.now.items) (none_deep c.args.depth c.args.self.now.layer.now c.args.self.now.lowers.now c.args.place.now.path c.if-depth-eq0.true))

pub put_below-returns-then-len-self : goal.put_below-returns-then-len-self
put_below-returns-then-len-self t c =
    sym (put_full c.args.self.now.most (after_here c.args.place.now.path (option_copied c.args.place.now.after)) c.args.rows.now.items (changes_below c.args.depth c.args.self.now.layer.now c.args.self.now.lowers.now c.args.place.now.path) (le-ltb (length c.args.rows.now.items) c.args.self.now.most (omega (arith, c.len.ensures, c.if-len-self.true))))

pub put_below-returns-then-is_untouched : goal.put_below-returns-then-is_untouched
put_below-returns-then-is_untouched t c =
    sym (ap (put_rows c.args.self.now.most (after_here c.args.place.now.path (option_copied c.args.place.now.after)) c.args.rows.now.items) (untouched c.args.depth c.args.self.now.layer.now c.args.self.now.lowers.now c.show_are_layers.ensures c.args.place.now.path (touched_is c.args.self.now.layer.now c.args.place.now.path c.args.place.now.own.node c.args.place.now.own.dir c.args.place.now.own.hidden c.requires.own true (sym c.is_untouched.ensures ∙ c.if-is_untouched.true))))

pub put_below-returns-in_ok-put_inside : goal.put_below-returns-in_ok-put_inside
put_below-returns-in_ok-put_inside t c =
    put_dir c.args.self.now.most (after_here c.args.place.now.path (option_copied c.args.place.now.after)) c.args.rows.now.items c.put_change.new.rows.items c.put_inside.new.rows.items c.args.depth c.args.self.now.layer.now c.args.self.now.lowers.now c.args.place.now.path
    (option_map object c.in_ok-old.old) (option_map object c.seen_over-new.result) c.change_at-kind.result
    c.in_ok-old.ensures
    (shown_is c.args.self.now.layer.now c.args.place.now.path c.args.place.now.own.node c.args.place.now.own.dir c.args.place.now.own.hidden c.requires.own c.args.self.now.lowers.now (option_map object c.in_ok-old.old) c.in_ok-old.ensures (option_map object c.seen_over-new.result) c.seen_over-new.ensures)
    c.change_at-kind.ensures (sym c.is_dir.ensures ∙ c.if-is_dir.true) c.if-depth-eq0.false (touched_is c.args.self.now.layer.now c.args.place.now.path c.args.place.now.own.node c.args.place.now.own.dir c.args.place.now.own.hidden c.requires.own false (sym c.is_untouched.ensures ∙ c.if-is_untouched.false)) c.in_ok-put_change.ensures c.in_ok-put_inside.ensures

pub put_below-returns-else-is_dir : goal.put_below-returns-else-is_dir
put_below-returns-else-is_dir t c =
    put_other c.args.self.now.most (after_here c.args.place.now.path (option_copied c.args.place.now.after)) c.args.rows.now.items c.put_change.new.rows.items c.args.depth c.args.self.now.layer.now c.args.self.now.lowers.now c.args.place.now.path
    (option_map object c.in_ok-old.old) (option_map object c.seen_over-new.result) c.change_at-kind.result
    c.in_ok-old.ensures
    (shown_is c.args.self.now.layer.now c.args.place.now.path c.args.place.now.own.node c.args.place.now.own.dir c.args.place.now.own.hidden c.requires.own c.args.self.now.lowers.now (option_map object c.in_ok-old.old) c.in_ok-old.ensures (option_map object c.seen_over-new.result) c.seen_over-new.ensures)
    c.change_at-kind.ensures (sym c.is_dir.ensures ∙ c.if-is_dir.false) c.if-depth-eq0.false (touched_is c.args.self.now.layer.now c.args.place.now.path c.args.place.now.own.node c.args.place.now.own.dir c.args.place.now.own.hidden c.requires.own false (sym c.is_untouched.ensures ∙ c.if-is_untouched.false)) c.in_ok-put_change.ensures

pub put_entry-returns-in_default : goal.put_entry-returns-in_default
put_entry-returns-in_default t c =
    entry_out c.args.depth c.args.self.now.layer.now c.args.self.now.lowers.now c.args.self.now.most c.args.place.now.path c.args.name.now c.args.rows.now.items (option_copied c.args.place.now.after) (sym (c.in_default.ensures {u = tt}))

pub put_entry-put_below-requires : goal.put_entry-put_below-requires
put_entry-put_below-requires t c =
    let u = c.args.self.now.layer.now in
    let ls = c.args.self.now.lowers.now in
    let p = c.args.place.now.path in
    let own = c.entry-own.result in
    let is : c.in-Ok.path ≡ p ++ c.args.name.now ∷ [] = (c.in-Ok.ensures {u = tt}).ok in
    (search rules, (subst (λ (q : Names). IsOwnPlace u q own.node own.dir own.hidden) (sym is) (c.entry-own.ensures u p c.show_are_layers.ensures.0 c.requires.own), λ off. ap (seen ls) is ∙ nothing_seen ls c.show_are_layers.ensures.1 [] p c.args.name.now (c.requires.below off)))

pub put_entry-returns-in-Ok : goal.put_entry-returns-in-Ok
put_entry-returns-in-Ok t c =
    let most = c.args.self.now.most in
    let u = c.args.self.now.layer.now in
    let ls = c.args.self.now.lowers.now in
    let p = c.args.place.now.path in
    let rows = c.args.rows.now.items in
    let next : Option Names = option_copied c.in-Some.after in
    let is : c.in-Ok.path ≡ p ++ c.args.name.now ∷ [] = (c.in-Ok.ensures {u = tt}).ok in
    subst (λ (xs : List Change). OnOk c.put_below.result (c.put_below.new.rows.items ≡ xs))
    (ap (λ (q : Names). put_rows most (after_here q next) rows (changes_below c.args.depth u ls q)) is
    ∙ entry_in c.args.depth u ls most p c.args.name.now rows (option_copied c.args.place.now.after) next (sym (c.in-Some.ensures {u = tt})))
    c.put_below.ensures

-- at what is no path nothing is changed
pub put_entry-returns-in-Err-BadPath : goal.put_entry-returns-in-Err-BadPath
put_entry-returns-in-Err-BadPath t c =
    let p : Names = c.args.place.now.path ++ c.args.name.now ∷ [] in
    sym (ap (put_rows c.args.self.now.most (after_here c.args.place.now.path (option_copied c.args.place.now.after)) c.args.rows.now.items) (no_changes c.args.depth c.args.self.now.layer.now c.args.self.now.lowers.now c.show_are_layers.ensures p (too_long p ((c.in-Err-BadPath.ensures {u = tt}).bad.0 (ap Err c.in-Err-BadPath.field-0-is)))))

pub put_own-loop-name-preserved : goal.put_own-loop-name-preserved
put_own-loop-name-preserved t c =
    let most = c.args.self.now.most in
    let after : Option Names = after_here c.args.place.now.path (option_copied c.args.place.now.after) in
    let f : List ℕ → List Change = λ name. changes_below c.args.depth c.args.self.now.layer.now c.args.self.now.lowers.now (c.args.place.now.path ++ name ∷ []) in
    let rest : Names = names_from (Excluded c.in-Some.name.now) (directory_names c.args.place.now.own.dir) in
    ap (λ (rs : List Change). put_rows most after rs (flat_map f rest)) c.in_ok-put_entry.ensures
    ∙ sym (put_rows-append most after c.loop-name.rows.items (f c.in-Some.name.now) (flat_map f rest))
    ∙ ap (λ (ns : Names). put_rows most after c.loop-name.rows.items (flat_map f ns)) (sym c.in-Some.ensures)
    ∙ c.loop-name.invariant

pub put_own-loop-name-smaller : goal.put_own-loop-name-smaller
put_own-loop-name-smaller t c = omega (arith, ap (λ (ns : Names). length ns) c.in-Some.ensures)

pub put_own-returns : goal.put_own-returns
put_own-returns t c =
    let most = c.args.self.now.most in
    let after : Option Names = after_here c.args.place.now.path (option_copied c.args.place.now.after) in
    let f : List ℕ → List Change = λ name. changes_below c.args.depth c.args.self.now.layer.now c.args.self.now.lowers.now (c.args.place.now.path ++ name ∷ []) in
    ap (λ (ns : Names). put_rows most after c.loop-name.rows.items (flat_map f ns)) (sym c.in_default.ensures)
    ∙ c.loop-name.invariant

pub put_own-returns-then-len-self : goal.put_own-returns-then-len-self
put_own-returns-then-len-self t c =
    let most = c.args.self.now.most in
    let after : Option Names = after_here c.args.place.now.path (option_copied c.args.place.now.after) in
    let f : List ℕ → List Change = λ name. changes_below c.args.depth c.args.self.now.layer.now c.args.self.now.lowers.now (c.args.place.now.path ++ name ∷ []) in
    let left : Names = c.in-Some.name.now ∷ names_from (Excluded c.in-Some.name.now) (directory_names c.args.place.now.own.dir) in
    sym (put_full most after c.loop-name.rows.items (flat_map f left) (le-ltb (length c.loop-name.rows.items) most (omega (arith, c.len.ensures, c.if-len-self.true))))
    ∙ ap (λ (ns : Names). put_rows most after c.loop-name.rows.items (flat_map f ns)) (sym c.in-Some.ensures)
    ∙ c.loop-name.invariant

pub put_both-loop-name-preserved : goal.put_both-loop-name-preserved
put_both-loop-name-preserved t c =
    let most = c.args.self.now.most in
    let after : Option Names = after_here c.args.place.now.path (option_copied c.args.place.now.after) in
    let f : List ℕ → List Change = λ name. changes_below c.args.depth c.args.self.now.layer.now c.args.self.now.lowers.now (c.args.place.now.path ++ name ∷ []) in
    let left : c.loop-name.name-iterator ≡ c.in-Some.name.now ∷ c.next.new.self = search rules in
    ap (λ (rs : List Change). put_rows most after rs (flat_map f c.next.new.self)) c.in_ok-put_entry.ensures
    ∙ sym (put_rows-append most after c.loop-name.rows.items (f c.in-Some.name.now) (flat_map f c.next.new.self))
    ∙ ap (λ (ns : Names). put_rows most after c.loop-name.rows.items (flat_map f ns)) (sym left)
    ∙ c.loop-name.invariant

pub put_both-returns : goal.put_both-returns
put_both-returns t c =
    let most = c.args.self.now.most in
    let after : Option Names = after_here c.args.place.now.path (option_copied c.args.place.now.after) in
    let f : List ℕ → List Change = λ name. changes_below c.args.depth c.args.self.now.layer.now c.args.self.now.lowers.now (c.args.place.now.path ++ name ∷ []) in
    let none : c.loop-name.name-iterator ≡ [] = search rules in
    ap (λ (ns : Names). put_rows most after c.loop-name.rows.items (flat_map f ns)) (sym none)
    ∙ c.loop-name.invariant
    ∙ ap (λ (ns : Names). put_rows most after c.args.rows.now.items (flat_map f ns)) (c.into_iter-name-iterator.ensures.into_iter_gives ∙ c.range-name-items.ensures.between tt ∙ ap (λ (b : Bound (List ℕ)). names_from b c.in_ok-names.names.keys) c.start.ensures)
    ∙ from_start c.args.depth c.args.self.now.layer.now c.args.self.now.lowers.now most after c.args.rows.now.items c.args.place.now.path c.in_ok-names.names.keys
    ∙ ap (λ (ns : Names). put_rows most after c.args.rows.now.items (flat_map f ns)) c.in_ok-names.ensures

pub put_both-returns-then-len-self : goal.put_both-returns-then-len-self
put_both-returns-then-len-self t c =
    let most = c.args.self.now.most in
    let after : Option Names = after_here c.args.place.now.path (option_copied c.args.place.now.after) in
    let f : List ℕ → List Change = λ name. changes_below c.args.depth c.args.self.now.layer.now c.args.self.now.lowers.now (c.args.place.now.path ++ name ∷ []) in
    sym (put_full most after c.loop-name.rows.items (flat_map f c.loop-name.name-iterator) (le-ltb (length c.loop-name.rows.items) most (omega (arith, c.len.ensures, c.if-len-self.true))))
    ∙ c.loop-name.invariant
    ∙ ap (λ (ns : Names). put_rows most after c.args.rows.now.items (flat_map f ns)) (c.into_iter-name-iterator.ensures.into_iter_gives ∙ c.range-name-items.ensures.between tt ∙ ap (λ (b : Bound (List ℕ)). names_from b c.in_ok-names.names.keys) c.start.ensures)
    ∙ from_start c.args.depth c.args.self.now.layer.now c.args.self.now.lowers.now most after c.args.rows.now.items c.args.place.now.path c.in_ok-names.names.keys
    ∙ ap (λ (ns : Names). put_rows most after c.args.rows.now.items (flat_map f ns)) c.in_ok-names.ensures

pub put_inside-returns-then-is_merged : goal.put_inside-returns-then-is_merged
put_inside-returns-then-is_merged t c =
    let most = c.args.self.now.most in
    let after : Option Names = after_here c.args.place.now.path (option_copied c.args.place.now.after) in
    let u = c.args.self.now.layer.now in
    let ls = c.args.self.now.lowers.now in
    let p = c.args.place.now.path in
    let own = c.args.place.now.own in
    let f : List ℕ → List Change = λ name. changes_below c.args.depth u ls (p ++ name ∷ []) in
    let merges = sym (merged_is u p own.node own.dir own.hidden c.requires.own) ∙ sym c.is_merged.ensures ∙ c.if-is_merged.true in
    subst (λ (xs : List Change). OnOk c.put_own.result (c.put_own.new.rows.items ≡ xs))
    (ap (λ (b : Bound (List ℕ)). put_rows most after c.args.rows.now.items (flat_map f (names_from b (directory_names own.dir)))) c.start.ensures
    ∙ from_start c.args.depth u ls most after c.args.rows.now.items p (directory_names own.dir)
    ∙ ap (put_rows most after c.args.rows.now.items) (shared_names c.args.depth u ls c.show_are_layers.ensures p own.node own.dir own.hidden c.requires.own c.requires.touched merges))
    c.put_own.ensures
