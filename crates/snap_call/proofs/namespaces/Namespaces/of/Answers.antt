use Rattle.std.proofs.Common.{◌<◌, ◌+◌, ◌++◌, ◌∷◌, [], List, length, take, get_or, sym, ap, ◌∙◌, subst, arith}
use lib.Seq.{length-take-le}
use Rattle.std.proofs.lemmas.List.{take_more}
use Rattle.snap_call.specs.declared.config.Namespace.{Namespace}
use Rattle.snap_call.proofs.Naming.{placed-push}
use Rattle.snap_call.proofs.namespaces.Namespaces.of.Goals as goal

pub loop-place-preserved : goal.loop-place-preserved
loop-place-preserved c =
    let ns : List Namespace = c.args.list in
    let i = c.loop-place.place in
    let items = c.as_slice-namespace-items.ensures in
    let low : i < length ns = subst (λ (l : List Namespace). i < length l) items (omega arith) in
    let at = c.namespace-item.is ∙ ap (λ (l : List Namespace). get_or l i c.namespace-item.result) items in
    placed-push c.loop-place.places c.put_place.new.places (take i ns) (take (i + 1) ns) c.namespace-item.result i c.loop-place.invariant
    (sym (length-take-le i ns (omega (arith, low))))
    (take_more ns i c.namespace-item.result low ∙ ap (λ (n : Namespace). take i ns ++ n ∷ []) (sym at)) c.in_ok-put_place.ensures
