use Rattle.std.proofs.Common.{◌∙◌, ◌≡◌, ◌≢◌, ◌-◌, ◌<◌, ◌≤◌, ℕ, None, Some, ap, arith, sym, unwrap_or}
use Rattle.std.proofs.lemmas.Bool.Decides.{nat_tests}
use Rattle.std.specs.BTreeMap.{get_by_text}
use Rattle.std.specs.Option.{option_copied_mut}
use Rattle.snap_counts.proofs.Reading.{IsSound-Sets, Sets-none, Sets-removed, Sets-written, counts_step}
use Rattle.snap_counts.proofs.counts.Counts.take.Goals as goal

pub returns-in_default : goal.returns-in_default
returns-in_default c =
    let m = c.self.inside.map in
    let absent : get_by_text m c.args.text.now ≡ None = sym c.get_mut.ensures.value ∙ ap option_copied_mut c.in_default.is in
    counts_step (λ a b. a - b) (λ a. omega arith) m c.get_mut.follows.lender-at-none c.args.self.now c.args.text.now None c.self.view_is
    (Sets-none m c.get_mut.follows.lender-at-none c.args.text.now absent c.get_mut.follows.holds-at-none) (ap (λ o. unwrap_or o 0 - 1) (sym absent))

-- a number that isn't 0
some_left : (n : ℕ) → 0 < n → Some n ≢ Some 0
some_left n more e = let zero : n ≡ 0 = cc in absurd (omega arith)

pub invariant_of-self-then-number-gt1 : goal.invariant_of-self-then-number-gt1
invariant_of-self-then-number-gt1 c =
    let m = c.self.inside.map in
    let n = c.in-Some.number.now in
    let more : 1 < n = grind (arith, nat_tests) in
    IsSound-Sets m (c.get_mut.follows.lender _) c.args.text.now (Some _) (Sets-written m (c.get_mut.follows.lender _) c.args.text.now n _ c.in-Some.ensures.value (c.get_mut.follows.holds _).3)
    (some_left _ (omega (arith, more))) c.self.invariant

pub returns-then-number-gt1 : goal.returns-then-number-gt1
returns-then-number-gt1 c =
    let m = c.self.inside.map in
    let n = c.in-Some.number.now in
    let read : n ≡ unwrap_or (get_by_text m c.args.text.now) 0 = ap (λ o. unwrap_or o 0) c.in-Some.ensures.value in
    counts_step (λ a b. a - b) (λ a. omega arith) m (c.get_mut.follows.lender _) c.args.self.now c.args.text.now (Some _) c.self.view_is
    (Sets-written m (c.get_mut.follows.lender _) c.args.text.now n _ c.in-Some.ensures.value (c.get_mut.follows.holds _).3) (omega (arith, read))

pub invariant_of-self-else-number-gt1 : goal.invariant_of-self-else-number-gt1
invariant_of-self-else-number-gt1 c =
    let m = c.self.inside.map in
    let n = c.in-Some.number.now in
    let kept = Sets-written m (c.get_mut.follows.lender n) c.args.text.now n n c.in-Some.ensures.value (c.get_mut.follows.holds n).3 in
    let sets = Sets-removed m (c.get_mut.follows.lender n) c.remove.new.self c.args.text.now (Some n) kept c.remove.ensures.updates in
    IsSound-Sets m c.remove.new.self c.args.text.now None sets (λ e. cc) c.self.invariant

pub returns-else-number-gt1 : goal.returns-else-number-gt1
returns-else-number-gt1 c =
    let m = c.self.inside.map in
    let n = c.in-Some.number.now in
    let last : n ≤ 1 = grind (arith, nat_tests) in
    let kept = Sets-written m (c.get_mut.follows.lender n) c.args.text.now n n c.in-Some.ensures.value (c.get_mut.follows.holds n).3 in
    let sets = Sets-removed m (c.get_mut.follows.lender n) c.remove.new.self c.args.text.now (Some n) kept c.remove.ensures.updates in
    let none : 0 ≡ n - 1 = omega arith in
    counts_step (λ a b. a - b) (λ a. omega arith) m c.remove.new.self c.args.self.now c.args.text.now None c.self.view_is sets (none ∙ ap (λ o. unwrap_or o 0 - 1) c.in-Some.ensures.value)
