use Rattle.std.proofs.Common.{◌∙◌, ◌≡◌, ◌+◌, [], None, Some, ap, arith, refl, sym, unwrap_or, bytes_eq}
use Rattle.std.proofs.lemmas.Result.{on_ok_weaker, on_err_weaker}
use Rattle.std.specs.BTreeMap.{get_by_text}
use Rattle.std.specs.Option.{option_copied_mut}
use Rattle.snap_counts.specs.Counts.{count_in, count_within, HasCounted}
use Rattle.snap_counts.proofs.Reading.{AllValues-Sets, AllValues-found, HasCounted-either, HasCounted-more, Sets-inserted, Sets-written, count_within-by_bytes, within_step, zero_within}
use Rattle.snap_counts.proofs.Lists.{one_if}
use Rattle.snap_counts.proofs.namespaces.NamespaceCounts.add.Goals as goal

pub returns-in-Some-clause-ok : goal.returns-in-Some-clause-ok
returns-in-Some-clause-ok c =
    let m = c.self.inside.map in
    let more = c.add.new.self in
    let sets = Sets-written m (c.get_mut.follows.lender more) c.args.namespace.now c.in-Some.counts.now more c.in-Some.ensures.value (c.get_mut.follows.holds more).3 in
    on_ok_weaker c.add.result
    (λ counted. within_step (λ a b. a + b) (λ a. omega arith) m (c.get_mut.follows.lender more) c.args.self.now c.args.namespace.now c.args.text.now (Some more) c.self.view_is sets
    (λ q. counted q ∙ ap (λ o. count_in q (unwrap_or o []) + one_if (bytes_eq q c.args.text.now)) c.in-Some.ensures.value))
    c.add.ensures.ok

pub returns-in-Some-clause-there : goal.returns-in-Some-clause-there
returns-in-Some-clause-there c =
    let space = c.args.namespace.now in
    let text = c.args.text.now in
    let is : count_in text c.in-Some.counts.now ≡ count_within space text c.args.self.now =
    ap (λ o. count_in text (unwrap_or o [])) c.in-Some.ensures.value ∙ sym (count_within-by_bytes space text c.self.inside.map) ∙ ap (count_within space text) c.self.view_is in
    λ some. c.add.ensures.there (omega (arith, is, some))

pub add-requires : goal.add-requires
add-requires c =
    let space = c.args.namespace.now in
    let text = c.args.text.now in
    let is : count_in text c.in-Some.counts.now ≡ count_within space text c.args.self.now =
    ap (λ o. count_in text (unwrap_or o [])) c.in-Some.ensures.value ∙ sym (count_within-by_bytes space text c.self.inside.map) ∙ ap (count_within space text) c.self.view_is in
    omega (arith, is, c.requires)

pub returns-in-Some-clause-err : goal.returns-in-Some-clause-err
returns-in-Some-clause-err c =
    let m = c.self.inside.map in
    let more = c.add.new.self in
    let sets = Sets-written m (c.get_mut.follows.lender more) c.args.namespace.now c.in-Some.counts.now more c.in-Some.ensures.value (c.get_mut.follows.holds more).3 in
    on_err_weaker c.add.result
    (λ same. within_step (λ a b. a) (λ a. refl) m (c.get_mut.follows.lender more) c.args.self.now c.args.namespace.now c.args.text.now (Some more) c.self.view_is sets
    (λ q. same q ∙ ap (λ o. count_in q (unwrap_or o [])) c.in-Some.ensures.value))
    c.add.ensures.err

pub invariant_of-self : goal.invariant_of-self
invariant_of-self c =
    let m = c.self.inside.map in
    let more = c.add.new.self in
    let found = c.in-Some.counts.now in
    let sets = Sets-written m (c.get_mut.follows.lender more) c.args.namespace.now found more c.in-Some.ensures.value (c.get_mut.follows.holds more).3 in
    let counted = HasCounted-either c.add.result found more c.args.text.now c.add.ensures.ok c.add.ensures.err (AllValues-found HasCounted m c.args.namespace.now found c.in-Some.ensures.value c.self.invariant) in
    AllValues-Sets HasCounted m (c.get_mut.follows.lender more) c.args.namespace.now (Some more) sets counted c.self.invariant

pub returns-in_err-key-clause-there : goal.returns-in_err-key-clause-there
returns-in_err-key-clause-there c = λ some.
    let absent : get_by_text c.self.inside.map c.args.namespace.now ≡ None = sym c.get_mut.ensures.value ∙ ap option_copied_mut c.in_default.is in
    let none = zero_within c.self.inside.map c.args.self.now c.args.namespace.now c.args.text.now c.self.view_is absent in
    absurd (omega (arith, none, some))

pub returns-in_err-add-clause-there : goal.returns-in_err-add-clause-there
returns-in_err-add-clause-there c = λ some.
    let absent : get_by_text c.self.inside.map c.args.namespace.now ≡ None = sym c.get_mut.ensures.value ∙ ap option_copied_mut c.in_default.is in
    let none = zero_within c.self.inside.map c.args.self.now c.args.namespace.now c.args.text.now c.self.view_is absent in
    absurd (omega (arith, none, some))

pub returns-in_err-insert-clause-there : goal.returns-in_err-insert-clause-there
returns-in_err-insert-clause-there c = λ some.
    let absent : get_by_text c.self.inside.map c.args.namespace.now ≡ None = sym c.get_mut.ensures.value ∙ ap option_copied_mut c.in_default.is in
    let none = zero_within c.self.inside.map c.args.self.now c.args.namespace.now c.args.text.now c.self.view_is absent in
    absurd (omega (arith, none, some))

pub returns-clause-ok : goal.returns-clause-ok
returns-clause-ok c =
    let m = c.self.inside.map in
    let absent : get_by_text m c.args.namespace.now ≡ None = sym c.get_mut.ensures.value ∙ ap option_copied_mut c.in_default.is in
    let first = c.add-2.new.self in
    let sets = Sets-inserted m c.get_mut.follows.lender-at-none c.insert.new.self c.args.namespace.now c.in_ok-key.key first c.get_mut.follows.holds-at-none c.in_ok-key.ensures.ok c.in_ok-insert.ensures.updates in
    within_step (λ a b. a + b) (λ a. omega arith) m c.insert.new.self c.args.self.now c.args.namespace.now c.args.text.now (Some first) c.self.view_is sets
    (λ q. c.in_ok-add.ensures.ok q ∙ ap (λ n. n + one_if (bytes_eq q c.args.text.now)) (c.new-counts.ensures q ∙ ap (λ o. count_in q (unwrap_or o [])) (sym absent)))

pub invariant_of-self-2 : goal.invariant_of-self-2
invariant_of-self-2 c =
    let first = c.add-2.new.self in
    let sets = Sets-inserted c.self.inside.map c.get_mut.follows.lender-at-none c.insert.new.self c.args.namespace.now c.in_ok-key.key first c.get_mut.follows.holds-at-none c.in_ok-key.ensures.ok c.in_ok-insert.ensures.updates in
    AllValues-Sets HasCounted c.self.inside.map c.insert.new.self c.args.namespace.now (Some first) sets (HasCounted-more _ first c.args.text.now c.in_ok-add.ensures.ok) c.self.invariant
