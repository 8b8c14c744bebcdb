use Rattle.std.proofs.Common.{◌≡◌, sym, ap, ◌∙◌}
use Rattle.std.specs.Prelude.{nat_eq}
use Rattle.snap_layer.specs.Tree.{Tree}
use Rattle.snap_layer.proofs.Housed.{differ, by_most}
use Rattle.snap_layer.proofs.table.Table.is_same.Goals as goal

pub returns-then-not-has_entries_of : goal.returns-then-not-has_entries_of
returns-then-not-has_entries_of c = differ c.args.self.now c.args.other.now c.if-not-has_entries_of.true (λ same. c.has_entries_of.ensures.1 (ap (λ (t : Tree). t.entries) same))

pub returns-then-not-has_bodies_of : goal.returns-then-not-has_bodies_of
returns-then-not-has_bodies_of c = differ c.args.self.now c.args.other.now c.if-not-has_bodies_of.true (λ same. c.has_bodies_of.ensures.1 (ap (λ (t : Tree). t.bodies) same))

pub returns : goal.returns
returns c =
    let next : c.args.self.now.next ≡ c.args.other.now.next = sym (ap (λ (t : Tree). t.next) c.self.view_is) ∙ c.if-self-other.false ∙ ap (λ (t : Tree). t.next) c.other.view_is in
    (λ i. nat_eq (c.self.view_is i).most (c.other.view_is i).most) ∙ by_most c.args.self.now c.args.other.now (c.has_entries_of.ensures.0 c.if-not-has_entries_of.false) (c.has_bodies_of.ensures.0 c.if-not-has_bodies_of.false) next
