use Rattle.std.proofs.Common.{◌≡◌, ℕ, ◌-◌, ◌+◌, ◌<◌, ◌∷◌, List, None, length, drop, sym, ap, ◌∙◌, subst, arith}
use Rattle.std.proofs.lemmas.List.{drop_more}
use Rattle.snap_call.specs.declared.entry.Entry.{Entry}
use Rattle.snap_history.specs.History.{last_made}
use Rattle.snap_history.proofs.Since.{made_at, made_later}
use Rattle.snap_history.proofs.charges.last_made.Goals as goal

pub returns-then-makes : goal.returns-then-makes
returns-then-makes c =
    let k : ℕ = c.loop-left.left - 1 in
    let es : List Entry = c.args.entries.now in
    let e : Entry = c.entry.result.now in
    let low : k < length es = (let h = c.loop-left.invariant.low in omega (arith, h)) in
    let on : c.loop-left.left ≡ k + 1 = omega arith in
    let here : drop k es ≡ e ∷ drop (k + 1) es = drop_more es k _ low ∙ ap (λ (x : Entry). x ∷ drop (k + 1) es) (sym c.index-entries-left.is ∙ sym c.entry.ensures) in
    let none = subst (λ (n : ℕ). last_made c.args.name.now (drop n es) ≡ None) on c.loop-left.invariant.none in
    record { found = sym (made_at c.args.name.now k es e here none (sym c.makes.ensures ∙ c.if-makes.true)); inside = low }

pub loop-left-preserved : goal.loop-left-preserved
loop-left-preserved c =
    let k : ℕ = c.loop-left.left - 1 in
    let es : List Entry = c.args.entries.now in
    let e : Entry = c.entry.result.now in
    let low : k < length es = (let h = c.loop-left.invariant.low in omega (arith, h)) in
    let on : c.loop-left.left ≡ k + 1 = omega arith in
    let here : drop k es ≡ e ∷ drop (k + 1) es = drop_more es k _ low ∙ ap (λ (x : Entry). x ∷ drop (k + 1) es) (sym c.index-entries-left.is ∙ sym c.entry.ensures) in
    let none = subst (λ (n : ℕ). last_made c.args.name.now (drop n es) ≡ None) on c.loop-left.invariant.none in
    record { low = omega arith; none = made_later c.args.name.now k es e here none (sym c.makes.ensures ∙ c.if-makes.false) }
