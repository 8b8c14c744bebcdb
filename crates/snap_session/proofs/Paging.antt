-- Lines that are put into a page, one after another.
use Rattle.std.proofs.Common.{◌≡◌, ℕ, zero, suc, ◌+◌, ◌-◌, ◌<◌, ◌==◌, Bool, false, List, [], ◌∷◌, ◌++◌, refl, sym, ap, ◌∙◌, arith, append_assoc}
use Rattle.std.specs.Prelude.{if◌then◌else◌}
use Rattle.snap_pieces.specs.declared.line.Line.{Line}
use Rattle.snap_lines.specs.Transcripts.{next_line}
use Rattle.snap_session.specs.Pages.{PagesValue, page_with, room_after, taken_within}

-- a page with these lines before the others
abbrev pub behind : List Line → List Line × PagesValue → List Line × PagesValue
behind front page = (front ++ page.0, page.1)

-- no line is left
pub none_taken : (room most at : ℕ) → taken_within room most at [] ≡ ([], record { at = at; lines = [] })
none_taken room zero at = refl
none_taken room (suc most) at = refl

-- what comes behind a line
abbrev pub taken_behind : ℕ → ℕ → ℕ → List Line → List Line × PagesValue
taken_behind room most at rest = if room == 0 then ([], record { at = next_line at; lines = rest }) else taken_within room most (next_line at) rest

moved : (front : List Line) (line : Line) (page : List Line × PagesValue) → behind front (page_with line page) ≡ behind (front ++ line ∷ []) page
moved front line page = ap (λ (l : List Line). (l, page.1)) (sym (append_assoc front (line ∷ []) page.0))

-- one line more
pub one_taken : (front rest : List Line) (line : Line) (room most at : ℕ)
    → behind front (taken_within room (suc most) at (line ∷ rest)) ≡ behind (front ++ line ∷ []) (taken_behind (room_after room line) most at rest)
one_taken front rest line room most at = moved front line (taken_behind (room_after room line) most at rest)

-- the same of the lines that are left, after a number of them
pub more_taken : (page : List Line × PagesValue) (front longer all rest : List Line) (line : Line) (room left most counter at next : ℕ)
    → page ≡ behind front (taken_within room (most - counter) at all) → counter < most → all ≡ line ∷ rest → longer ≡ front ++ line ∷ [] → left ≡ room_after room line → (left == 0) ≡ false → next ≡ next_line at
    → page ≡ behind longer (taken_within left (most - (counter + 1)) next rest)
more_taken page front longer all rest line room left most counter at next was some is added room_is has at_is =
    let m : ℕ = most - (counter + 1) in
    let one_less : most - counter ≡ suc m = omega (arith, some) in
    was
    ∙ ap (λ n. behind front (taken_within room n at all)) one_less
    ∙ ap (λ (l : List Line). behind front (taken_within room (suc m) at l)) is
    ∙ one_taken front rest line room m at
    ∙ ap (λ r. behind (front ++ line ∷ []) (taken_behind r m at rest)) (sym room_is)
    ∙ ap (λ (b : Bool). behind (front ++ line ∷ []) (if b then ([], record { at = next_line at; lines = rest }) else taken_within left m (next_line at) rest)) has
    ∙ ap (λ a. behind (front ++ line ∷ []) (taken_within left m a rest)) (sym at_is)
    ∙ ap (λ (f : List Line). behind f (taken_within left m next rest)) (sym added)
