use Rattle.std.proofs.Common.{◌∙◌, ◌<◌, List, length, refl, sym, ap, subst}
use Rattle.snap_call.specs.Namespaces.{name_at, place_of, with_limit}
use Rattle.snap_call.specs.declared.config.Namespace.{Namespace}
use Rattle.snap_call.proofs.Leasing.{place_of-limited, set-limited}
use Rattle.snap_call.proofs.namespaces.Namespaces.set_limit.Goals as goal

pub invariant_of-self : goal.invariant_of-self
invariant_of-self c =
    let ns : List Namespace = c.self.inside.list in
    let n = c.args.namespace in
    let low = subst (λ (l : List Namespace). c.args.place < length l) (sym c.self.view_is) c.requires.inside in
    let same = c.requires.same ∙ ap (name_at c.args.place) (sym c.self.view_is) in
    λ q. c.self.invariant q ∙ sym (ap (place_of q) (c.set.ensures ∙ set-limited n.limit c.args.place ns n low same refl) ∙ place_of-limited n.limit q c.args.place ns)

pub returns : goal.returns
returns c =
    let ns : List Namespace = c.self.inside.list in
    let n = c.args.namespace in
    let low = subst (λ (l : List Namespace). c.args.place < length l) (sym c.self.view_is) c.requires.inside in
    let same = c.requires.same ∙ ap (name_at c.args.place) (sym c.self.view_is) in
    c.set.ensures ∙ set-limited n.limit c.args.place ns n low same refl ∙ ap (with_limit c.args.place n.limit) c.self.view_is
