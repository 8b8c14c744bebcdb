-- The pieces of a saved layer as they are added, one after another.
use Rattle.std.proofs.Common.{◌≡◌, ℕ, zero, suc, ◌≤◌, ◌<◌, min, List, [], ◌∷◌, ◌++◌, length, map, take, drop, refl, sym, ap, ◌∙◌, arith, append_assoc, append-nil, length-drop}
use Rattle.std.specs.List.{flat_map}
use Rattle.std.proofs.lemmas.List.{drop_min, take_min}
use Rattle.snap_saved.specs.declared.piece.Piece.{Piece}
use Rattle.snap_saved.specs.declared.piece.Piece.TheVariants.{Bytes}
use Rattle.snap_saved.specs.Pieces.{bytes_in_at_most, bytes_in_pieces}

-- ---- a list of which each has one piece

module _ {X : Type 0} (h : X → Piece) (ps : List Piece) where
  pub one_more_piece : (qs all : List Piece) (left rest : List X) (x : X) → left ≡ x ∷ rest → qs ≡ ps ++ h x ∷ [] → ps ++ map h left ≡ all → qs ++ map h rest ≡ all
  one_more_piece qs all left rest x is more was = ap (λ (l : List Piece). l ++ map h rest) more ∙ append_assoc ps (h x ∷ []) (map h rest) ∙ ap (λ (l : List X). ps ++ map h l) (sym is) ∙ was

  pub no_more : (all : List Piece) (left : List X) → left ≡ [] → ps ++ map h left ≡ all → ps ≡ all
  no_more all left none was = sym (append-nil ps) ∙ ap (λ (l : List X). ps ++ map h l) (sym none) ∙ was

-- ---- a list of which each has pieces

module _ {X : Type 0} (h : X → List Piece) (ps : List Piece) where
  pub more_pieces : (qs all : List Piece) (left rest : List X) (x : X) → left ≡ x ∷ rest → qs ≡ ps ++ h x → ps ++ flat_map h left ≡ all → qs ++ flat_map h rest ≡ all
  more_pieces qs all left rest x is more was = ap (λ (l : List Piece). l ++ flat_map h rest) more ∙ append_assoc ps (h x) (flat_map h rest) ∙ ap (λ (l : List X). ps ++ flat_map h l) (sym is) ∙ was

  pub no_more_pieces : (all : List Piece) (left : List X) → left ≡ [] → ps ++ flat_map h left ≡ all → ps ≡ all
  no_more_pieces all left none was = sym (append-nil ps) ∙ ap (λ (l : List X). ps ++ flat_map h l) (sym none) ∙ was

-- ---- bytes

-- as many pieces as there are bytes are enough
enough_pieces : (n m : ℕ) (bs : List ℕ) → length bs ≤ n → length bs ≤ m → bytes_in_at_most n bs ≡ bytes_in_at_most m bs
unfolding bytes_in_at_most
enough_pieces zero zero bs few fits = refl
enough_pieces zero (suc m) [] few fits = refl
enough_pieces zero (suc m) (b ∷ bs) few fits = absurd (omega arith)
enough_pieces (suc n) zero [] few fits = refl
enough_pieces (suc n) zero (b ∷ bs) few fits = absurd (omega arith)
enough_pieces (suc n) (suc m) [] few fits = refl
enough_pieces (suc n) (suc m) (b ∷ bs) few fits =
    let rest = drop 262144 (b ∷ bs) in
    let shorter : length rest ≤ length bs = omega (arith, length-drop 262144 (b ∷ bs)) in
    ap (λ (l : List (List ℕ)). take 262144 (b ∷ bs) ∷ l) (enough_pieces n m rest (omega arith) (omega arith))

-- no bytes have no pieces
pub no_bytes : (bs : List ℕ) → length bs ≡ 0 → bytes_in_pieces bs ≡ []
unfolding bytes_in_at_most
no_bytes [] none = refl
no_bytes (b ∷ bs) none = absurd (omega arith)

-- the first piece of bytes, and those of the others
next_bytes : (bs : List ℕ) → 0 < length bs → bytes_in_pieces bs ≡ take 262144 bs ∷ bytes_in_pieces (drop 262144 bs)
unfolding bytes_in_at_most
next_bytes [] some = absurd (omega arith)
next_bytes (b ∷ bs) some =
    let rest = drop 262144 (b ∷ bs) in
    ap (λ (l : List (List ℕ)). take 262144 (b ∷ bs) ∷ l) (enough_pieces (length bs) (length rest) rest (omega (arith, length-drop 262144 (b ∷ bs))) (omega arith))

take_least : (n k : ℕ) (bs : List ℕ) → k ≡ min (length bs) n → take k bs ≡ take n bs
take_least n k bs is = let other : k ≡ min n (length bs) = omega arith in ap (λ (j : ℕ). take j bs) other ∙ take_min n bs

drop_least : (n k : ℕ) (bs : List ℕ) → k ≡ min (length bs) n → drop k bs ≡ drop n bs
drop_least n k bs is = let other : k ≡ min n (length bs) = omega arith in ap (λ (j : ℕ). drop j bs) other ∙ drop_min n bs

pub one_more_bytes : (ps qs all : List Piece) (bs first rest : List ℕ) (k : ℕ) → 0 < length bs → k ≡ min (length bs) 262144 → first ≡ take k bs → rest ≡ drop k bs → qs ≡ ps ++ Bytes first ∷ [] → ps ++ map Bytes (bytes_in_pieces bs) ≡ all → qs ++ map Bytes (bytes_in_pieces rest) ≡ all
one_more_bytes ps qs all bs first rest k some least front back more was =
    let its : first ≡ take 262144 bs = front ∙ take_least 262144 k bs least in
    let others : rest ≡ drop 262144 bs = back ∙ drop_least 262144 k bs least in
    one_more_piece Bytes ps qs all (bytes_in_pieces bs) (bytes_in_pieces rest) first (next_bytes bs some ∙ (λ i. sym its i ∷ bytes_in_pieces (sym others i))) more was
