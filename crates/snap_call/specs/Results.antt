-- What follows a result.
use Rattle.std.specs.Prelude.{Result, Ok, Err}

-- what follows a value; an error ends. A `do` block is made of these: an action `← a` in it stands for the value of a, and is taken before what it stands in.
infixl 10 ◌>>=◌
abbrev pub ◌>>=◌ : {A B E : Type 0} → Result A E → (A → Result B E) → Result B E
(Ok a) >>= f = f a
(Err e) >>= f = Err e
