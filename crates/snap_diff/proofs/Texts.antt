-- The text of a path, by which its names are told.
use Rattle.std.proofs.Common.{◌≡◌, ℕ, ◌≤◌, true, false, List, [], ◌∷◌, ◌++◌, length, refl, sym, ap, subst, ◌∙◌}
use Rattle.snap_path.specs.Limits.{most_path_bytes}
use Rattle.snap_path.specs.Text.{Names, is_name, is_path, path_names, text_below, text_of, IsHeld, IsPath}
use Rattle.snap_path.proofs.Texts.{spelling, IsHeld_push}

-- a path's text tells its names
pub told_names : (p : Names) (text : List ℕ) → IsPath p → text ≡ text_of p → path_names text ≡ p
told_names p text valid is = ap path_names is ∙ ((spelling (text_of p)).only p (valid, refl)).1

-- and so does the text that is kept of it
pub told_below : (p : Names) (text : List ℕ) → IsPath p → text ≡ text_below p → path_names text ≡ p
told_below [] text valid is = ap path_names is
told_below (n ∷ p) text valid is = told_names (n ∷ p) text valid is

-- that text is kept of these names
pub kept_text : (p : Names) (text : List ℕ) → IsPath p → text ≡ text_below p → IsHeld text (path_names text)
kept_text p text valid is = let names = sym (told_below p text valid is) in (is ∙ ap text_below names, subst IsPath names valid)

-- one name more
pub longer : (text : List ℕ) (p : Names) (n more : List ℕ) → IsHeld text p → is_name n ≡ true → length (text_below (p ++ n ∷ [])) ≤ most_path_bytes → more ≡ (text ++ 47 ∷ []) ++ n → IsHeld more (p ++ n ∷ [])
longer text p n more held valid short is = subst (λ (t : List ℕ). IsHeld t (p ++ n ∷ [])) (sym is) (IsHeld_push text p n held valid short)

-- the text of a path is read as that path
pub is_read : (p : Names) → IsPath p → (is_path (text_of p) ≡ true) × (path_names (text_of p) ≡ p)
is_read p valid = (spelling (text_of p)).only p (valid, refl)

-- a text that isn't empty is no root's
pub shown_text : (text : List ℕ) → (text ≡ [] → ⊥) → text ≡ text_below (path_names text) → text ≡ text_of (path_names text)
shown_text text more kept = by (path_names text) kept
  where
    by : (p : Names) → text ≡ text_below p → text ≡ text_of p
    by [] is = absurd (more is)
    by (n ∷ p) is = is

pub clash : true ≡ false → ⊥
clash e = cc
