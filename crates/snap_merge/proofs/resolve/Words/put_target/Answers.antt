use Rattle.std.proofs.Common.{◌≡◌, ℕ, ◌-◌, ◌++◌, List, Bor, length, drop, take, map, ap, ◌∙◌}
use Rattle.std.proofs.lemmas.List.{map-append, take_rest}
use Rattle.snap_merge.proofs.resolve.Words.put_target.Goals as goal

pub returns : goal.returns
returns c =
    let next = c.self.inside.next in
    let parts : List (Bor (List ℕ)) = c.as_slice.result.now in
    let left : List (Bor (List ℕ)) = take (length parts - next) (drop next parts) in
    let words = map (λ (part : Bor (List ℕ)). part.now) in
    let new : words c.in_ok-split_words.field-0.items ≡ _ = c.in_ok-split_words.ensures in
    let old : words left ≡ c.args.self.now = ap words (take_rest parts next ∙ ap (drop next) c.as_slice.ensures) ∙ c.self.view_is in
    ap words (c.in_ok-extend_from_slice.ensures.ok ∙ ap (λ (xs : List (Bor (List ℕ))). xs ++ left) c.from_vec-parts.ensures.items)
    ∙ map-append (λ (part : Bor (List ℕ)). part.now) c.in_ok-split_words.field-0.items left
    ∙ (λ i. new i ++ old i)
