use Rattle.std.proofs.Common.{◌≡◌, ◌∙◌, None, Some, Result, Ok, Err, OnOk, position, refl, sym, ap, subst}
use Rattle.snap_counts.proofs.Reading.{Sets-inserted}
use Rattle.snap_call.specs.Namespaces.{ArePlaces, place_of, with_namespace}
use Rattle.snap_call.proofs.Naming.{filled-with, is_free, placed-with, pushed-with}
use Rattle.snap_call.proofs.namespaces.Namespaces.add.Goals as goal

on_ok : {T E P Q : Type 0} (r : Result T E) → (P → Q) → OnOk r P → OnOk r Q
on_ok (Ok x) f p = f p
on_ok (Err e) f p = tt

pub returns-in_default-clause-ok : goal.returns-in_default-clause-ok
returns-in_default-clause-ok c =
    let ns = c.args.self.now in
    let full : position is_free ns ≡ None = sym c.first_free.ensures ∙ c.in_default.is in
    on_ok c.push.result (λ pushed. pushed ∙ (pushed-with c.args.namespace ns full).0) c.push.ensures.ok

pub invariant_of-self-2 : goal.invariant_of-self-2
invariant_of-self-2 c =
    let m = c.self.inside.places in
    let ns = c.self.inside.list in
    let n = c.args.namespace in
    let place = c.in-Some.place in
    let free : position is_free ns ≡ Some place = ap (position is_free) c.self.view_is ∙ sym c.first_free.ensures ∙ c.in-Some.is in
    let filled = filled-with n ns place free in
    subst (ArePlaces c.insert.new.self) (sym (c.set.ensures ∙ filled.0))
    (placed-with m c.insert.new.self ns n place c.self.invariant c.requires.taken (ap (place_of n.name) c.self.view_is ∙ c.requires.new) filled.1
    (Sets-inserted m m c.insert.new.self n.name c.in_ok-name.name place refl (c.in_ok-name.ensures.ok ∙ c.as_str.ensures) c.in_ok-insert.ensures.updates))

pub returns-clause-ok : goal.returns-clause-ok
returns-clause-ok c =
    let ns = c.self.inside.list in
    let n = c.args.namespace in
    let free : position is_free ns ≡ Some c.in-Some.place = ap (position is_free) c.self.view_is ∙ sym c.first_free.ensures ∙ c.in-Some.is in
    c.set.ensures ∙ (filled-with n ns c.in-Some.place free).0 ∙ ap (with_namespace n) c.self.view_is
