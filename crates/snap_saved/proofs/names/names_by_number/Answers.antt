use Rattle.std.proofs.Common.{◌≡◌, ℕ, ◌∷◌, ◌++◌, List, [], Some, inl, inr, sym, ap, ◌∙◌}
use Rattle.std.specs.BTreeMap.{is_at}
use Rattle.std.specs.Ordering.{nat_cmp}
use Rattle.std.proofs.lemmas.Bool.{cond-true, cond-false}
use Rattle.snap_path.specs.Text.{Names}
use Rattle.snap_layer.proofs.Looks.{split_number}
use Rattle.snap_saved.specs.Walked.{saved_name_at, listed_names}
use Rattle.snap_saved.proofs.Walking.{nothing_more, one_more, name_here, name_other, name_none}
use Rattle.snap_saved.proofs.names.names_by_number.Goals as goal
use Rattle.snap_saved.proofs.names.names_by_number.Goals.{in-Some+in_ok-clone+in_ok-add_name, in_default}

pub loop-path-preserved : goal.loop-path-preserved
loop-path-preserved c = λ k.
    let ps = c.args.paths.now in
    let i = c.loop-path.path-index in
    let p = c.path-item.result in
    let read = saved_name_at c.args.layer.now k in
    elim c.match-number_at.branch [
      | in-Some+in_ok-clone+in_ok-add_name w ↦
          let m = c.loop-path.names.entries in
          let n = w.in-Some.number in
          let its : w.in_ok-clone.field-0 ≡ p = w.in_ok-clone.ensures.cases in
          let number = sym c.number_at.ensures ∙ w.in-Some.is in
          let now = (λ j. listed_names (w.names-is j).entries k) ∙ w.in_ok-add_name.ensures k in
          elim (split_number n k) [
            | inl same ↦
                now ∙ cond-true (is_at (nat_cmp n) k) (listed_names m n ++ w.in_ok-clone.field-0 ∷ []) (listed_names m k) same.1
                ∙ (λ j. listed_names m (same.0 j) ++ its j ∷ []) ∙ ap (λ (l : List Names). l ++ p ∷ []) (c.loop-path.invariant k)
                ∙ sym (one_more read ps i p c.loop-path-test.true c.path-item.is p (name_here c.args.layer.now p k (number ∙ ap (λ (x : ℕ). Some x) same.0)))
            | inr apart ↦
                now ∙ cond-false (is_at (nat_cmp n) k) (listed_names m n ++ w.in_ok-clone.field-0 ∷ []) (listed_names m k) apart.1
                ∙ c.loop-path.invariant k
                ∙ sym (nothing_more read ps i p c.loop-path-test.true c.path-item.is (name_other c.args.layer.now p k n number apart.0))
          ]
      | in_default w ↦ (λ j. listed_names (w.names-is j).entries k) ∙ c.loop-path.invariant k ∙ sym (nothing_more read ps i p c.loop-path-test.true c.path-item.is (name_none c.args.layer.now p k (sym c.number_at.ensures ∙ w.in_default.is)))
    ]
