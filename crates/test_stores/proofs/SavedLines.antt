-- A saved world that is gathered again of its lines.
use Rattle.std.proofs.Common.{◌≡◌, List, [], ◌∷◌, Option, None, Some, sym, ap, ◌∙◌}
use Rattle.std.specs.Prelude.{Result, Ok, Err}
use Rattle.std.specs.Option.{option_map_or}
use Rattle.snap_call.specs.Results.{◌>>=◌}
use Rattle.snap_world.specs.Restored.{SavedWorldValue}
use Rattle.snap_checkpoint.specs.Lines.{LineGatheringValue, line_put, lines_put}
use Rattle.snap_checkpoint.specs.declared.fault.StoreFault.{StoreFault}
use Rattle.snap_checkpoint.specs.declared.fault.StoreFault.TheVariants.{Misplaced}
use Rattle.snap_pieces.specs.declared.line.Line.{Line}

-- what further lines make, where one more has its answer
abbrev made : List Line → Result (Option LineGatheringValue × Option SavedWorldValue) StoreFault → Result SavedWorldValue StoreFault
made rest answer = answer >>= λ after. option_map_or Ok after.1 (lines_put after.0 rest)

-- the first of them
first : (ls rest : List Line) (l : Line) (g : Option LineGatheringValue) (w : SavedWorldValue) → ls ≡ l ∷ rest → lines_put g ls ≡ Ok w → made rest (line_put g l) ≡ Ok w
first ls rest l g w is was = sym (ap (λ (all : List Line). lines_put g all) is) ∙ was

-- after one that isn't the end
pub more_made : (ls rest : List Line) (l : Line) (g h : Option LineGatheringValue) (w : SavedWorldValue) → ls ≡ l ∷ rest → line_put g l ≡ Ok (h, None) → lines_put g ls ≡ Ok w → lines_put h rest ≡ Ok w
more_made ls rest l g h w is put was = sym (ap (made rest) put) ∙ first ls rest l g w is was

-- at the end
pub all_made : (ls rest : List Line) (l : Line) (g h : Option LineGatheringValue) (back w : SavedWorldValue) → ls ≡ l ∷ rest → line_put g l ≡ Ok (h, Some back) → lines_put g ls ≡ Ok w → back ≡ w
all_made ls rest l g h back w is put was = let e : Ok back ≡ Ok w = sym (ap (made rest) put) ∙ first ls rest l g w is was in cc e

-- none is refused
pub none_refused : (ls rest : List Line) (l : Line) (g : Option LineGatheringValue) (f : StoreFault) (w : SavedWorldValue) → ls ≡ l ∷ rest → line_put g l ≡ Err f → lines_put g ls ≡ Ok w → ⊥
none_refused ls rest l g f w is refused was = let e : Err f ≡ Ok w = sym (ap (made rest) refused) ∙ first ls rest l g w is was in absurd (cc e)

-- the end is there
pub has_end : (ls : List Line) (g : Option LineGatheringValue) (w : SavedWorldValue) → ls ≡ [] → lines_put g ls ≡ Ok w → ⊥
has_end ls g w none was = let e : Err Misplaced ≡ Ok w = sym (ap (λ (all : List Line). lines_put g all) none) ∙ was in absurd (cc e)
