use Rattle.std.proofs.Common.{◌≡◌, ◌-◌, suc, take, get_or, Some, true≢false, sym, ap, ◌∙◌, arith}
use Rattle.std.proofs.lemmas.Slice.Eq.{bytes_eq-Decides}
use Rattle.serde_json.specs.Find.{get, get_member}
use Rattle.snap_json.specs.View.{view, members_view}
use Rattle.snap_json.proofs.Views.{named_last, named_before, view-Object}
use Rattle.snap_json.proofs.value.Value.get.Goals as goal

pub returns-then-eq : goal.returns-then-eq
returns-then-eq c =
    let ms = c.in-Object.members.items in
    let name = c.args.name.now in
    let m = c.index-member.result.now in
    let n = c.loop-left.left - 1 in
    let next : c.loop-left.left ≡ suc n = omega arith in
    let named : (get_or ms n m).0.now ≡ name = ap (λ m. m.0.now) (sym c.index-member.ensures) ∙ (bytes_eq-Decides m.0.now name).0 (sym c.eq.ensures ∙ c.if-eq.true) in
    let seen : get name (view c.args.self.now) ≡ get_member name (members_view ms) = ap (λ v. get name (view v)) c.in-Object.is ∙ ap (get name) (view-Object c.in-Object.members) in
    sym (seen ∙ c.loop-left.invariant.1 ∙ ap (λ k. get_member name (members_view (take k ms))) next ∙ named_last name ms n m (omega (arith, c.loop-left.invariant.0)) named ∙ ap (λ m. Some (view m.1)) (sym c.index-member.ensures))

pub loop-left-preserved : goal.loop-left-preserved
loop-left-preserved c =
    let ms = c.in-Object.members.items in
    let name = c.args.name.now in
    let m = c.index-member.result.now in
    let n = c.loop-left.left - 1 in
    let next : c.loop-left.left ≡ suc n = omega arith in
    let other = λ (h : name ≡ (get_or ms n m).0.now).
    true≢false (sym ((bytes_eq-Decides m.0.now name).1 (ap (λ m. m.0.now) c.index-member.ensures ∙ sym h)) ∙ sym c.eq.ensures ∙ c.if-eq.false) in (
      omega (arith, c.loop-left.invariant.0),
      c.loop-left.invariant.1 ∙ ap (λ k. get_member name (members_view (take k ms))) next ∙ named_before name ms n m (omega (arith, c.loop-left.invariant.0)) other,
    )

pub returns : goal.returns
returns c =
    let ms = c.in-Object.members.items in
    let name = c.args.name.now in
    let none : c.loop-left.left ≡ 0 = omega (arith, c.loop-left-test.false) in
    let seen : get name (view c.args.self.now) ≡ get_member name (members_view ms) = ap (λ v. get name (view v)) c.in-Object.is ∙ ap (get name) (view-Object c.in-Object.members) in
    sym (seen ∙ c.loop-left.invariant.1 ∙ ap (λ k. get_member name (members_view (take k ms))) none)
