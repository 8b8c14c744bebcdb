use Rattle.std.proofs.Common.{◌≡◌, ◌∷◌, ◌++◌, [], ℕ, ◌+◌, ◌<◌, ◌≤◌, List, length, drop, Some, Bool, true, false, sym, ap, ◌∙◌, arith}
use Rattle.std.proofs.lemmas.Bool.Decides.{nat_tests}
use Rattle.std.proofs.lemmas.List.{drop_more}
use Rattle.std.specs.Prelude.{◌&&◌, nat_lt}
use Rattle.snap_call.specs.declared.entry.Entry.{Entry}
use Rattle.snap_history.specs.Changes.{entry_infos_of}
use Rattle.snap_history.specs.Entries.{entry_info}
use Rattle.snap_history.specs.declared.info.EntryInfo.{EntryInfo}
use Rattle.snap_history.proofs.Pages.{next_infos, next_page, page_with}
use Rattle.snap_history.proofs.charges.infos.Goals as goal
use Rattle.snap_history.proofs.charges.infos.Goals.{then-is_own+then-after-number+then-len-most+in_ok-entry_info+in_ok-push, else-is_own, else-is_own-via-then-is_own+then-after-number+else-len-most, else-is_own-via-then-is_own+else-after-number, else-is_own-via-else-is_own}

-- the test, as its parts were found
all_hold : (own : Bool) (after number len most : ℕ) → own ≡ true → after < number → len < most → (own && nat_lt after number && nat_lt len most) ≡ true
all_hold own after number len most is later room = grind (arith, nat_tests)

is_other : (own : Bool) (after number len most : ℕ) → own ≡ false → (own && nat_lt after number && nat_lt len most) ≡ false
is_other own after number len most is = grind (arith, nat_tests)

is_early : (own : Bool) (after number len most : ℕ) → number ≤ after → (own && nat_lt after number && nat_lt len most) ≡ false
is_early own after number len most early = grind (arith, nat_tests)

is_full : (own : Bool) (after number len most : ℕ) → most ≤ len → (own && nat_lt after number && nat_lt len most) ≡ false
is_full own after number len most full = grind (arith, nat_tests)

pub loop-entry-preserved : goal.loop-entry-preserved
loop-entry-preserved c =
    let number : ℕ = c.loop-entry.number + 1 in
    let item : Entry = c.entry-item.result in
    let e : Entry = c.entry-entry.result.now in
    let es : List Entry = c.args.entries.now in
    let i : ℕ = c.loop-entry.entry-index in
    let infos : List EntryInfo = c.loop-entry.infos in
    let x : EntryInfo = entry_info number e (Some c.turned-charge.result) in
    let test : Bool = c.is_own.result && nat_lt c.args.after number && nat_lt (length infos) c.args.most in
    let found : c.if-is_own.infos ≡ next_infos infos x test =
    elim c.if-is_own.branch [
      | then-is_own+then-after-number+then-len-most+in_ok-entry_info+in_ok-push w ↦
          w.infos-is ∙ w.in_ok-push.ensures.ok ∙ ap (λ (y : EntryInfo). infos ++ y ∷ []) w.in_ok-entry_info.ensures
          ∙ ap (next_infos infos x) (sym (all_hold c.is_own.result c.args.after number (length infos) c.args.most w.if-is_own.true w.if-after-number.true (omega (arith, w.len.ensures))))
      | else-is_own w ↦ w.infos-is ∙ elim w.else-is_own.branch [
        | else-is_own-via-then-is_own+then-after-number+else-len-most v ↦ ap (next_infos infos x) (sym (is_full c.is_own.result c.args.after number (length infos) c.args.most (omega (arith, v.len.ensures))))
        | else-is_own-via-then-is_own+else-after-number v ↦ ap (next_infos infos x) (sym (is_early c.is_own.result c.args.after number (length infos) c.args.most v.if-after-number.false))
        | else-is_own-via-else-is_own v ↦ ap (next_infos infos x) (sym (is_other c.is_own.result c.args.after number (length infos) c.args.most v.if-is_own.false))
      ]
    ] in
    let low : i < length es = omega arith in
    let here : drop i es ≡ e ∷ drop (i + 1) es = drop_more es i item low ∙ ap (λ (y : Entry). y ∷ drop (i + 1) es) (sym c.entry-item.is ∙ sym c.entry-entry.ensures) in
    record {
      number = omega arith;
      page =
          ap (λ (l : List EntryInfo). page_with c.args.after c.args.most l (entry_infos_of c.args.name.now number c.follow.new.self c.turned-charge.result (drop (i + 1) es))) found
          ∙ sym (next_page c.args.after c.args.most c.loop-entry.number c.args.name.now c.loop-entry.shares c.loop-entry.charge infos e (drop (i + 1) es) c.change_of-change.result c.turned-charge.result c.follow.new.self c.is_own.result
          c.change_of-change.ensures c.turned-charge.ensures c.follow.ensures c.is_own.ensures)
          ∙ ap (λ (l : List Entry). page_with c.args.after c.args.most infos (entry_infos_of c.args.name.now c.loop-entry.number c.loop-entry.shares c.loop-entry.charge l)) (sym here)
          ∙ c.loop-entry.invariant.page;
    }
