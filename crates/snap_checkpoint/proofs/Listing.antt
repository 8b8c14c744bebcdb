-- Items that are added to a list one after another.
use Rattle.std.proofs.Common.{◌≡◌, List, [], ◌∷◌, ◌++◌, map, sym, ap, ◌∙◌, append_assoc, append-nil}

module _ {X Y : Type 0} (f : X → Y) (ps : List Y) where
  pub one_more : (qs all : List Y) (left rest : List X) (x : X) → left ≡ x ∷ rest → qs ≡ ps ++ f x ∷ [] → ps ++ map f left ≡ all → qs ++ map f rest ≡ all
  one_more qs all left rest x is more was = ap (λ (l : List Y). l ++ map f rest) more ∙ append_assoc ps (f x ∷ []) (map f rest) ∙ ap (λ (l : List X). ps ++ map f l) (sym is) ∙ was

  pub no_more : (all : List Y) (left : List X) → left ≡ [] → ps ++ map f left ≡ all → ps ≡ all
  no_more all left none was = sym (append-nil ps) ∙ ap (λ (l : List X). ps ++ map f l) (sym none) ∙ was
