use Rattle.std.proofs.Common.{◌∙◌, ◌≡◌, ◌+◌, None, Some, ap, arith, refl, sym, unwrap_or}
use Rattle.std.specs.BTreeMap.{get_by_text}
use Rattle.std.specs.Option.{option_copied_mut}
use Rattle.snap_counts.specs.Counts.{count_in}
use Rattle.snap_counts.proofs.Reading.{IsSound-Sets, Sets-inserted, Sets-written, count-by_bytes, counts_step, more_some, zero_in}
use Rattle.snap_counts.proofs.counts.Counts.add.Goals as goal

pub overflow_add-number : goal.overflow_add-number
overflow_add-number c =
    let read : c.in-Some.number.now ≡ unwrap_or (get_by_text c.self.inside.map c.args.text.now) 0 = ap (λ o. unwrap_or o 0) c.in-Some.ensures.value in
    let is : c.in-Some.number.now ≡ count_in c.args.text.now c.args.self.now = read ∙ sym (count-by_bytes c.args.text.now c.self.inside.map) ∙ ap (count_in c.args.text.now) c.self.view_is in
    omega (arith, is, c.requires)

pub invariant_of-self : goal.invariant_of-self
invariant_of-self c =
    let m = c.self.inside.map in
    let n = c.in-Some.number.now in
    IsSound-Sets m (c.get_mut.follows.lender _) c.args.text.now (Some _) (Sets-written m (c.get_mut.follows.lender _) c.args.text.now n _ c.in-Some.ensures.value (c.get_mut.follows.holds _).3)
    (more_some n (n + 1) refl) c.self.invariant

pub returns-in-Some-clause-ok : goal.returns-in-Some-clause-ok
returns-in-Some-clause-ok c =
    let m = c.self.inside.map in
    let n = c.in-Some.number.now in
    let read : n ≡ unwrap_or (get_by_text m c.args.text.now) 0 = ap (λ o. unwrap_or o 0) c.in-Some.ensures.value in
    counts_step (λ a b. a + b) (λ a. omega arith) m (c.get_mut.follows.lender _) c.args.self.now c.args.text.now (Some _) c.self.view_is
    (Sets-written m (c.get_mut.follows.lender _) c.args.text.now n _ c.in-Some.ensures.value (c.get_mut.follows.holds _).3) (omega (arith, read))

pub returns-in_err-key-clause-there : goal.returns-in_err-key-clause-there
returns-in_err-key-clause-there c = λ some.
    let absent : get_by_text c.self.inside.map c.args.text.now ≡ None = sym c.get_mut.ensures.value ∙ ap option_copied_mut c.in_default.is in
    let none = zero_in c.self.inside.map c.args.self.now c.args.text.now c.self.view_is absent in
    absurd (omega (arith, none, some))

pub returns-in_err-insert-clause-there : goal.returns-in_err-insert-clause-there
returns-in_err-insert-clause-there c = λ some.
    let absent : get_by_text c.self.inside.map c.args.text.now ≡ None = sym c.get_mut.ensures.value ∙ ap option_copied_mut c.in_default.is in
    let none = zero_in c.self.inside.map c.args.self.now c.args.text.now c.self.view_is absent in
    absurd (omega (arith, none, some))

pub invariant_of-self-2 : goal.invariant_of-self-2
invariant_of-self-2 c =
    let m = c.self.inside.map in
    let sets = Sets-inserted m c.get_mut.follows.lender-at-none c.insert.new.self c.args.text.now c.in_ok-key.key 1 c.get_mut.follows.holds-at-none c.in_ok-key.ensures.ok c.in_ok-insert.ensures.updates in
    IsSound-Sets m c.insert.new.self c.args.text.now (Some 1) sets (more_some 0 1 refl) c.self.invariant

pub returns-clause-ok : goal.returns-clause-ok
returns-clause-ok c =
    let m = c.self.inside.map in
    let absent : get_by_text m c.args.text.now ≡ None = sym c.get_mut.ensures.value ∙ ap option_copied_mut c.in_default.is in
    let sets = Sets-inserted m c.get_mut.follows.lender-at-none c.insert.new.self c.args.text.now c.in_ok-key.key 1 c.get_mut.follows.holds-at-none c.in_ok-key.ensures.ok c.in_ok-insert.ensures.updates in
    counts_step (λ a b. a + b) (λ a. omega arith) m c.insert.new.self c.args.self.now c.args.text.now (Some 1) c.self.view_is sets (ap (λ o. unwrap_or o 0 + 1) (sym absent))
