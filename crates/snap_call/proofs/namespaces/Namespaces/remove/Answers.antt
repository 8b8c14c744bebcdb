use Rattle.std.proofs.Common.{◌≡◌, ◌∙◌, List, [], None, true, slice_set, get_or, sym, ap, subst}
use Rattle.std.proofs.lemmas.Map.Text.{btree_map_updates_text}
use Rattle.std.proofs.lemmas.Option.{slice_get-get_or}
use Rattle.std.specs.Option.{option_map_or}
use Rattle.snap_call.specs.declared.config.Namespace.{Namespace}
use Rattle.snap_call.specs.Forms.{have_distinct_names}
use Rattle.snap_call.specs.Namespaces.{ArePlaces, is_taken_at}
use Rattle.snap_call.proofs.Leasing.{taken-below}
use Rattle.snap_call.proofs.Naming.{placed-without}
use Rattle.snap_call.proofs.namespaces.Namespaces.remove.Goals as goal

pub invariant_of-self : goal.invariant_of-self
invariant_of-self c =
    let m = c.self.inside.places in
    let ns : List Namespace = c.self.inside.list in
    let name = c.as_str.result.now in
    let place = c.args.place in
    let taken : is_taken_at place ns ≡ true = ap (is_taken_at place) c.self.view_is ∙ c.requires.taken in
    let at : c.in-Some.namespace.now ≡ get_or ns place c.in-Some.namespace.now = c.in-Some.ensures.lookup.1 ∙ ap (λ (l : List Namespace). get_or l place c.in-Some.namespace.now) c.as_slice.ensures in
    let there = slice_get-get_or ns place c.in-Some.namespace.now (taken-below place ns taken) in
    let is = c.as_str.ensures ∙ ap (λ (n : Namespace). n.name) at ∙ sym (ap (λ o. option_map_or (λ (n : Namespace). n.name) o []) there) in
    let left = c.set.ensures ∙ ap (λ name. slice_set ns place (record { name = name; limit = record { blocks = 0; inodes = 0 } })) c.new-name.ensures in
    subst (ArePlaces c.remove.new.self) (sym left)
    (placed-without m c.remove.new.self ns name place c.self.invariant
    (ap have_distinct_names c.self.view_is ∙ c.requires.distinct) taken is
    (btree_map_updates_text name m c.remove.new.self None c.remove.ensures.updates))
