use Rattle.std.proofs.Common.{◌≡◌, ◌+◌, [], ◌<◌, length, not, true, false, Bool, get_or, sym, ap, ◌∙◌, arith}
use Rattle.std.specs.Cmp.Lexicographic.{pointwise, same_text, other_text}
use Rattle.std.specs.Prelude.{nat_eq}
use Rattle.std.proofs.lemmas.List.{get_or-take, get_or_default, take_more_same}
use Rattle.snap_path.specs.Text.{Names}
use Rattle.snap_copyup.proofs.parents.shared_names.Goals as goal

no_test : (b : Bool) → true ≡ not b → false ≡ b
no_test false e = cc
no_test true e = absurd (cc)

yes_test : (b : Bool) → false ≡ not b → true ≡ b
yes_test true e = cc
yes_test false e = absurd (cc)

pub returns-then-ne-clause-most : goal.returns-then-ne-clause-most
returns-then-ne-clause-most c = λ in_one in_other same.
    let xs = c.args.one.now in
    let ys = c.args.other.now in
    let k = c.loop-names.names in
    let x = c.index-one-names.result in
    let y = c.index-other-names.result in
    let item : get_or xs k [] ≡ get_or ys k [] = sym (get_or-take (k + 1) xs k [] (omega arith)) ∙ ap (λ (zs : Names). get_or zs k []) same ∙ get_or-take (k + 1) ys k [] (omega arith) in
    other_text x y (no_test (pointwise nat_eq x y) (sym c.if-ne.true ∙ c.ne.ensures)) (c.index-one-names.is ∙ get_or_default xs k x [] in_one ∙ item ∙ get_or_default ys k [] y in_other ∙ sym c.index-other-names.is)

pub loop-names-preserved : goal.loop-names-preserved
loop-names-preserved c =
    let xs = c.args.one.now in
    let ys = c.args.other.now in
    let k = c.loop-names.names in
    let x = c.index-one-names.result in
    let y = c.index-other-names.result in
    let in_one : k < length xs = omega (arith, c.loop-names-test.true, c.min-most.ensures) in
    let in_other : k < length ys = omega (arith, c.loop-names-test.true, c.min-most.ensures) in
    let same : x ≡ y = same_text x y (yes_test (pointwise nat_eq x y) (sym c.if-ne.false ∙ c.ne.ensures)) in
    take_more_same xs ys k [] in_one in_other c.loop-names.invariant (get_or_default xs k [] x in_one ∙ sym c.index-one-names.is ∙ same ∙ c.index-other-names.is ∙ get_or_default ys k y [] in_other)
