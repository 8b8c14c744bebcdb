use Rattle.std.proofs.Common.{◌≡◌, List, ap, ◌∙◌, sym}
use Rattle.std.proofs.lemmas.Bool.{true≢false}
use Rattle.snap_world.specs.Restored.{restored}
use Rattle.snap_record.specs.Labels.{Bytes}
use Rattle.snap_durable.specs.Moved.{holdings_of, moving}
use Rattle.snap_durable.specs.declared.holding.Holding.{Holding}
use Rattle.snap_durable.proofs.moved.check_moved.Goals as goal

-- the store has the same there
pub returns-then-is_same-clause-ok : goal.returns-then-is_same-clause-ok
returns-then-is_same-clause-ok g c =
    let here : c.in_ok-here.here ≡ moving c.args.wanted.now (λ h. h.0) (holdings_of c.args.world.now) =
    c.in_ok-here.ensures ∙ ap (λ (l : List (Bytes × Holding)). moving c.args.wanted.now (λ h. h.0) l) (c.as_slice.ensures ∙ c.in_ok-all.ensures) in
    let (there, restores, are) = c.in-Ok.ensures.there in
    record { there = there; restores = ap restored (sym c.in_ok-saved.ensures.moved) ∙ restores; same = sym are ∙ c.is_same.ensures.0 c.if-is_same.true ∙ here }

-- it hasn't
pub returns-in-Ok-clause-why : goal.returns-in-Ok-clause-why
returns-in-Ok-clause-why g c =
    let here : c.in_ok-here.here ≡ moving c.args.wanted.now (λ h. h.0) (holdings_of c.args.world.now) =
    c.in_ok-here.ensures ∙ ap (λ (l : List (Bytes × Holding)). moving c.args.wanted.now (λ h. h.0) l) (c.as_slice.ensures ∙ c.in_ok-all.ensures) in
    let (there, restores, are) = c.in-Ok.ensures.there in
    record { there = there; restores = ap restored (sym c.in_ok-saved.ensures.moved) ∙ restores; other = λ same. true≢false (sym (c.is_same.ensures.1 (are ∙ same ∙ sym here)) ∙ c.if-is_same.false) }
