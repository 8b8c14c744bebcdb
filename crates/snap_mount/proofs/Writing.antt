-- Texts that are written one after another, by whatever options.
use Rattle.std.proofs.Common.{◌≡◌, ◌+◌, ◌-◌, ◌<◌, ◌≤◌, ◌++◌, ℕ, List, [], ◌∷◌, codes, drop, flat_map, get_or, length, take, take_all, sym, ap, ◌∙◌, subst, arith}
use Rattle.std.proofs.lemmas.List.{flat_map_more, take_more}
use Rattle.std.proofs.lemmas.List.Folds.{concat-append}
use Rattle.std.specs.Fmt.{HasWrittenStyled, WritesInCalls}
use Rattle.std.specs.List.{FoldsTo, concat}
use Rattle.std.specs.declared.fmt.Formatter.{Formatter}
use Rattle.snap_record.specs.Labels.{Bytes}
use Rattle.snap_mount.specs.Lines.{joined_options}

module _ {W : Type 0} (took : W → List ℕ → W → Type 0) where
  folds_on : (w : W) (xs : List (List ℕ)) (v : W) (ys : List (List ℕ)) (u : W) → FoldsTo took w xs v → FoldsTo took v ys u → FoldsTo took w (xs ++ ys) u
  folds_on w [] v ys u p q = subst (λ (x : W). FoldsTo took x ys u) (sym p) q
  folds_on w (x ∷ xs) v ys u p q = (p.0, p.1, folds_on p.0 xs v ys u p.2 q)

  calls_on : (w : W) (a : List ℕ) (v : W) (b : List ℕ) (u : W) → WritesInCalls took w a v → WritesInCalls took v b u → WritesInCalls took w (a ++ b) u
  calls_on w a v b u p q = record {
    parts = p.parts ++ q.parts;
    calls = folds_on w p.parts v q.parts u p.calls q.calls;
    whole = concat-append p.parts q.parts ∙ (ap (λ l. l ++ concat q.parts) p.whole ∙ ap (λ l. a ++ l) q.whole);
  }

  -- a text, and another one after it
  pub written_on : (f : Formatter W) (a : List ℕ) (g : Formatter W) (b : List ℕ) (h : Formatter W) → HasWrittenStyled took f a g → HasWrittenStyled took g b h → HasWrittenStyled took f (a ++ b) h
  written_on f a g b h p q = record { wrote = calls_on _ a _ b _ p.wrote q.wrote; spec = q.spec ∙ p.spec; flush = q.flush }

  -- the same text in another form
  pub written_as : (f : Formatter W) (a b : List ℕ) (g : Formatter W) → a ≡ b → HasWrittenStyled took f a g → HasWrittenStyled took f b g
  written_as f a b g e = subst (λ (l : List ℕ). HasWrittenStyled took f l g) e

-- an option after others
abbrev after_comma : Bytes → Bytes
after_comma option = codes "," ++ option

pub further_on : (xs : List Bytes) (i : ℕ) (x y : Bytes) → i < length xs → x ≡ get_or xs i x → y ≡ x → flat_map (λ option. codes "," ++ option) (take i xs) ++ (codes "," ++ y) ≡ flat_map (λ option. codes "," ++ option) (take (i + 1) xs)
further_on xs i x y low is same =
    ap (λ z. flat_map after_comma (take i xs) ++ after_comma z) (same ∙ is)
    ∙ (flat_map_more after_comma [] (take i xs) (get_or xs i x)
    ∙ sym (ap (flat_map after_comma) (take_more xs i x low)))

-- the first option, and the others
pub joined_on : (xs : List Bytes) (x y : Bytes) → 1 ≤ length xs → x ≡ get_or xs 0 x → y ≡ x → y ++ flat_map (λ option. codes "," ++ option) (take (length xs - 1) (drop 1 xs)) ≡ joined_options xs
joined_on [] x y some is same = absurd (omega arith)
joined_on (z ∷ zs) x y some is same =
    ap (λ t. t ++ flat_map after_comma (take (length (z ∷ zs) - 1) zs)) (same ∙ is)
    ∙ ap (λ l. z ++ flat_map after_comma l) (take_all (length (z ∷ zs) - 1) zs (omega arith))
