use Rattle.std.proofs.Common.{◌≡◌, None, sym, ap, ◌∙◌, subst}
use Rattle.snap_call.specs.declared.state.State.{State}
use Rattle.snap_call.specs.Indexes.{slot_of}
use Rattle.snap_call.specs.Saved.{CanPutBack, record_of, with_saved}
use Rattle.snap_world.specs.Saved.{FitsSoFar}
use Rattle.snap_world.proofs.PutBack.{fits_idle, idle_answer, share_none}
use Rattle.snap_world.proofs.restoring.Restoring.put_idle.Goals as goal

pub invariant_of-self-2 : goal.invariant_of-self-2
invariant_of-self-2 g c =
    let s : State = c.self.inside.accounts in
    let same : s ≡ c.args.self.now.state = ap (λ v. v.state) c.self.view_is in
    let can : CanPutBack s (record_of s c.args.place c.args.saved) = subst (λ (u : State). CanPutBack u (record_of u c.args.place c.args.saved)) (sym same) c.requires.possible in
    let idle : slot_of (record_of s c.args.place c.args.saved).content ≡ None = share_none (record_of s c.args.place c.args.saved) (sym c.in_ok-put_saved.ensures.share ∙ c.in-None.is) in
    subst (λ (u : State). FitsSoFar (record { state = u; hands = c.self.inside.hands })) (sym c.in_ok-put_saved.ensures.done)
    (fits_idle s (record_of s c.args.place c.args.saved) can c.self.inside.hands c.self.invariant idle)

pub returns-clause-ok : goal.returns-clause-ok
returns-clause-ok g c =
    let s : State = c.self.inside.accounts in
    let same : s ≡ c.args.self.now.state = ap (λ v. v.state) c.self.view_is in
    let idle : slot_of (record_of s c.args.place c.args.saved).content ≡ None = share_none (record_of s c.args.place c.args.saved) (sym c.in_ok-put_saved.ensures.share ∙ c.in-None.is) in
    let state = c.in_ok-put_saved.ensures.done ∙ ap (λ (u : State). with_saved u (record_of u c.args.place c.args.saved)) same in
    let hands = ap (λ v. v.hands) c.self.view_is in
    (idle_answer c.args.saved.content c.args.place c.args.saved.parent s.records idle, λ i. record { state = state i; hands = hands i })

pub returns-clause-first : goal.returns-clause-first
returns-clause-first g c = λ why e.
    let s : State = c.self.inside.accounts in
    let idle : slot_of (record_of s c.args.place c.args.saved).content ≡ None = share_none (record_of s c.args.place c.args.saved) (sym c.in_ok-put_saved.ensures.share ∙ c.in-None.is) in
    absurd (cc (sym (idle_answer c.args.saved.content c.args.place c.args.saved.parent s.records idle) ∙ e))
