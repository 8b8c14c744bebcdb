-- What a log gives back: the laws by which the lines that it keeps lead to the same as all that were answered.
use Rattle.std.specs.Prelude.{◌≡◌, ℕ, Bool, true, false, List, [], ◌∷◌, ◌++◌, Ok}
use Rattle.snap_lines.specs.Effects.{Effect, Effects}
use Rattle.snap_lines.specs.Lines.{is_open}
use Rattle.snap_durable.specs.Parts.{line_read}

-- a part of a value, which a log is kept of: only lines that change something, and are carried out, change it
pub record KeepsPart {A P : Type 0} (effect : Effects A) (changes : A → List ℕ → Bool) (mark : A → List ℕ → List ℕ) (keeping : Bool → A → A) (settled : A → Bool) (part : A → P) : Type 0 where
  -- no line has a fault
  pub served : (v : A) (line : List ℕ) → (e : Effect A) × (effect v line ≡ Ok e)
  -- whether such lines are carried out says nothing of the part nor of which lines they are, and no line changes it
  pub same : (k : Bool) (v : A) → part (keeping k v) ≡ part v
  pub same_changes : (k : Bool) (v : A) (line : List ℕ) → changes (keeping k v) line ≡ changes v line
  pub same_settled : (k : Bool) (v : A) → settled (keeping k v) ≡ settled v
  pub again : (k : Bool) (v : A) → keeping k (keeping k v) ≡ keeping k v
  pub stays : (k : Bool) (v : A) (line : List ℕ) (e : Effect A) → effect (keeping k v) line ≡ Ok e → keeping k e.value ≡ e.value
  -- a line that changes nothing leaves the part, and so does each where they are refused
  pub unchanged : (v : A) (line : List ℕ) (e : Effect A) → changes v line ≡ false → effect v line ≡ Ok e → part e.value ≡ part v
  pub refused : (v : A) (line : List ℕ) (e : Effect A) → effect (keeping false v) line ≡ Ok e → part e.value ≡ part v
  -- what a line makes of the part depends on it alone
  pub alike : (v w : A) (line : List ℕ) (e f : Effect A) → part v ≡ part w → effect (keeping true v) line ≡ Ok e → effect (keeping true w) line ≡ Ok f → part e.value ≡ part f.value
  -- where a value is settled, the lines that change something stay the same ones
  pub settles : (v : A) (line : List ℕ) (e : Effect A) → settled v ≡ true → effect v line ≡ Ok e → settled e.value ≡ true
  pub known : (v : A) (line more : List ℕ) (e : Effect A) → settled v ≡ true → effect v line ≡ Ok e → changes e.value more ≡ changes v more
  -- a mark is one line, and changes nothing
  pub one_line : (v : A) (lines : List ℕ) → is_open (mark v lines) ≡ true
  pub marks : (v w : A) (lines : List ℕ) → changes v (line_read (mark w lines ++ 10 ∷ [])) ≡ false
