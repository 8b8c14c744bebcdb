use Rattle.std.proofs.Common.{[], ◌∷◌, ◌++◌, sym, ◌∙◌, subst, true≢false}
use Rattle.snap_tape.specs.Following.{HasFollowed}
use Rattle.snap_tape.proofs.Progressing.{stays, parts, other_there, none_there}
use Rattle.snap_tape.proofs.mismatch.Progress.next.Goals as goal

pub returns-then-self : goal.returns-then-self
returns-then-self c seen h =
    subst (HasFollowed c.args.tape.now (seen ++ c.args.entry.now ∷ []) c.args.self.place) (sym c.if-self.true) (stays _ seen _ c.args.entry.now (subst (HasFollowed c.args.tape.now seen c.args.self.place) c.if-self.true h))

pub returns-in_default : goal.returns-in_default
returns-in_default c seen h =
    parts _ seen _ c.args.entry.now (other_there c.args.tape.now c.args.self.place c.in-Some.copy.now c.args.entry.now c.in-Some.ensures.lookup.0 c.in-Some.ensures.lookup.1 (λ e. true≢false (sym (c.is_same.ensures.1 e) ∙ c.if-is_same.false)))
    (subst (HasFollowed c.args.tape.now seen c.args.self.place) c.if-self.false h)

pub returns-in_default-2 : goal.returns-in_default-2
returns-in_default-2 c seen h =
    parts _ seen _ c.args.entry.now (none_there c.args.tape.now c.args.self.place c.args.entry.now (rw c.in_default.is at c.get.ensures.lookup.0))
    (subst (HasFollowed c.args.tape.now seen c.args.self.place) c.if-self.false h)
