use Rattle.std.proofs.Common.{◌≡◌, ◌∷◌, ◌++◌, [], ℕ, ◌+◌, ◌<◌, ◌≤◌, List, length, drop, None, Bool, true, false, sym, ap, ◌∙◌, arith}
use Rattle.std.proofs.lemmas.Bool.Decides.{nat_tests}
use Rattle.std.proofs.lemmas.List.{drop_more}
use Rattle.std.specs.Prelude.{◌&&◌, nat_lt}
use Rattle.snap_call.specs.declared.entry.Entry.{Entry}
use Rattle.snap_history.specs.Entries.{entry_info}
use Rattle.snap_history.specs.History.{entries_from}
use Rattle.snap_history.specs.declared.info.EntryInfo.{EntryInfo}
use Rattle.snap_history.proofs.Pages.{next_entry, next_infos, page_with}
use Rattle.snap_history.proofs.charges.page_of.Goals as goal
use Rattle.snap_history.proofs.charges.page_of.Goals.{then-after-number+then-len-most+in_ok-entry_info+in_ok-push, else-after-number, else-after-number-via-then-after-number+else-len-most, else-after-number-via-else-after-number}

-- the test, as its parts were found
both_hold : (after number len most : ℕ) → after < number → len < most → (nat_lt after number && nat_lt len most) ≡ true
both_hold after number len most is_later room = grind (arith, nat_tests)

is_early : (after number len most : ℕ) → number ≤ after → (nat_lt after number && nat_lt len most) ≡ false
is_early after number len most early = grind (arith, nat_tests)

is_full : (after number len most : ℕ) → most ≤ len → (nat_lt after number && nat_lt len most) ≡ false
is_full after number len most full = grind (arith, nat_tests)

pub loop-entry-preserved : goal.loop-entry-preserved
loop-entry-preserved c =
    let number : ℕ = c.loop-entry.number + 1 in
    let item : Entry = c.entry-item.result in
    let es : List Entry = c.args.entries.now in
    let i : ℕ = c.loop-entry.entry-index in
    let infos : List EntryInfo = c.loop-entry.infos in
    let x : EntryInfo = entry_info number item None in
    let test : Bool = nat_lt c.args.after number && nat_lt (length infos) c.args.most in
    let found : c.if-after-number.infos ≡ next_infos infos x test =
    elim c.if-after-number.branch [
      | then-after-number+then-len-most+in_ok-entry_info+in_ok-push w ↦
          w.infos-is ∙ w.in_ok-push.ensures.ok ∙ ap (λ (y : EntryInfo). infos ++ y ∷ []) (w.in_ok-entry_info.ensures ∙ ap (λ (y : Entry). entry_info number y None) w.entry.ensures)
          ∙ ap (next_infos infos x) (sym (both_hold c.args.after number (length infos) c.args.most w.if-after-number.true (omega (arith, w.len.ensures))))
      | else-after-number w ↦ w.infos-is ∙ elim w.else-after-number.branch [
        | else-after-number-via-then-after-number+else-len-most v ↦ ap (next_infos infos x) (sym (is_full c.args.after number (length infos) c.args.most (omega (arith, v.len.ensures))))
        | else-after-number-via-else-after-number v ↦ ap (next_infos infos x) (sym (is_early c.args.after number (length infos) c.args.most v.if-after-number.false))
      ]
    ] in
    let low : i < length es = omega arith in
    let here : drop i es ≡ item ∷ drop (i + 1) es = drop_more es i item low ∙ ap (λ (y : Entry). y ∷ drop (i + 1) es) (sym c.entry-item.is) in
    record {
      number = omega arith;
      page =
          ap (λ (l : List EntryInfo). page_with c.args.after c.args.most l (entries_from number (drop (i + 1) es))) found
          ∙ sym (next_entry c.args.after c.args.most c.loop-entry.number infos item (drop (i + 1) es))
          ∙ ap (λ (l : List Entry). page_with c.args.after c.args.most infos (entries_from c.loop-entry.number l)) (sym here)
          ∙ c.loop-entry.invariant.page;
    }
