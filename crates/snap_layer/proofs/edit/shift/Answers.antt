use Rattle.std.proofs.Common.{◌≡◌, Some, None, sym, subst, ◌∙◌}
use Rattle.snap_layer.specs.declared.inode.Target.{Target}
use Rattle.snap_layer.specs.Walk.{Links, view_of, left_at}
use Rattle.snap_layer.proofs.Slots.{puts_other, shifted, sure_ok}
use Rattle.snap_layer.proofs.edit.shift.Goals as goal

no_target : (w : Target) → None ≡ Some w → ⊥
no_target w e = cc

pub returns-then-leaves-clause-ok : goal.returns-then-leaves-clause-ok
returns-then-leaves-clause-ok c =
    let two = sure_ok c.link-then-leaves.result c.link-then-leaves.ensures.ok c.link-then-leaves.ensures.sure (λ none. no_target c.args.target (sym none ∙ puts_other (view_of c.args.slots.now).entries (view_of c.link.new.slots).entries c.args.to c.args.new.now (Some c.args.target) c.args.from c.args.old.now c.requires.apart c.in_ok-link.ensures.ok.entries ∙ c.requires.there)) in
    shifted (view_of c.args.slots.now) (view_of c.link.new.slots) (view_of c.link-then-leaves.new.slots) c.args.from c.args.old.now c.args.to c.args.new.now (Some c.args.target) c.args.leaves c.requires.there c.requires.apart c.in_ok-link.ensures.ok
    (subst (λ b. Links (view_of c.link.new.slots) (view_of c.link-then-leaves.new.slots) c.args.from c.args.old.now (left_at b)) (sym c.if-leaves.true) two)

pub returns-clause-ok : goal.returns-clause-ok
returns-clause-ok c =
    shifted (view_of c.args.slots.now) (view_of c.link.new.slots) (view_of c.unlink.new.slots) c.args.from c.args.old.now c.args.to c.args.new.now (Some c.args.target) c.args.leaves c.requires.there c.requires.apart c.in_ok-link.ensures.ok
    (subst (λ b. Links (view_of c.link.new.slots) (view_of c.unlink.new.slots) c.args.from c.args.old.now (left_at b)) (sym c.if-leaves.false) c.unlink.ensures)
