use Rattle.std.proofs.Common.{◌≡◌, ℕ, ◌+◌, List, Bor, drop, ◌∷◌, map, sym, ap, ◌∙◌}
use Rattle.std.specs.Cmp.Lexicographic.{same_text}
use Rattle.std.proofs.lemmas.List.{drop_more}
use Rattle.snap_merge.proofs.resolve.Words.take_along.Goals as goal

pub returns-then-eq : goal.returns-then-eq
returns-then-eq c =
    let found = c.in_ok-word.ensures.lookup in
    let next = c.self.inside.next in
    let parts : List (Bor (List ℕ)) = c.as_slice.result.now in
    let rest : drop next parts ≡ c.in_ok-word.field-0.now ∷ drop (next + 1) parts = drop_more parts next c.in_ok-word.field-0.now found.3.0 ∙ ap (λ (part : Bor (List ℕ)). part ∷ drop (next + 1) parts) (sym found.1) in
    let all : drop next c.self.inside.parts.items ≡ c.in_ok-word.field-0.now ∷ drop (next + 1) c.self.inside.parts.items =
    ap (drop next) (sym c.as_slice.ensures) ∙ rest ∙ ap (λ (xs : List (Bor (List ℕ))). c.in_ok-word.field-0.now ∷ drop (next + 1) xs) c.as_slice.ensures
    in
    let same : c.in_ok-word.field-0.now.now ≡ c.args.name.now = same_text c.in_ok-word.field-0.now.now c.as_bytes.result.now (sym c.if-eq.true ∙ c.eq.ensures) ∙ c.as_bytes.ensures.value ∙ c.as_str.ensures.value in
    sym c.self.view_is ∙ ap (map (λ (part : Bor (List ℕ)). part.now)) all ∙ ap (λ (w : List ℕ). w ∷ map (λ (part : Bor (List ℕ)). part.now) (drop (next + 1) c.self.inside.parts.items)) same
