-- What has no name is not seen.
use Rattle.std.proofs.Common.{◌≡◌, ℕ, Bool, true, false, cond, List, [], ◌∷◌, ◌++◌, Option, Some, None, refl, sym, ap, ◌∙◌, arith}
use Rattle.std.specs.Prelude.{is_some}
use Rattle.std.specs.Str.{IsUtf8, is_utf8}
use Rattle.std.proofs.lemmas.Bool.Decides.{nat_tests}
use Rattle.std.proofs.lemmas.Str.{IsUtf8-from_is_utf8}
use Rattle.snap_path.specs.Text.{Names, is_name}
use Rattle.snap_layer.specs.declared.node.Node.{Node}
use Rattle.snap_layer.specs.Tree.{Tree, at, hides}
use Rattle.snap_merge.specs.Objects.{Object, seen, seen_over, AreLayers}
use Rattle.snap_merge.proofs.Ends.{middle_true}

clash : true ≡ false → ⊥
clash e = cc

nothing_else : (b : Bool) → cond {A = Option Object} b None None ≡ None
nothing_else true = refl
nothing_else false = refl

pub no_name_seen : (s : List Tree) → AreLayers s → (p : Names) (n : List ℕ) → is_name n ≡ false → seen s (p ++ n ∷ []) ≡ None
no_name_seen [] ok p n bad = refl
no_name_seen (t ∷ ts) ok p n bad = by (at t (p ++ n ∷ [])) refl (no_name_seen ts ok.1 p n bad)
  where
    by : (o : Option Node) → at t (p ++ n ∷ []) ≡ o → seen ts (p ++ n ∷ []) ≡ None → seen_over t o (p ++ n ∷ []) (seen ts (p ++ n ∷ [])) ≡ None
    by None is later = ap (λ u. cond (hides t (p ++ n ∷ [])) None u) later ∙ nothing_else (hides t (p ++ n ∷ []))
    by (Some x) is later = absurd (clash (sym (middle_true p n [] (ok.0.paths (p ++ n ∷ []) (ap is_some is)).0) ∙ bad))

no_text : (n : List ℕ) → (IsUtf8 n → ⊥) → is_name n ≡ false
no_text n bad = by (is_utf8 n) refl
  where
    by : (b : Bool) → is_utf8 n ≡ b → is_name n ≡ false
    by true e = absurd (bad (IsUtf8-from_is_utf8 n e))
    by false e = grind (arith, nat_tests, e)

-- nor is what is no text
pub no_text_seen : (s : List Tree) → AreLayers s → (p : Names) (n : List ℕ) → (IsUtf8 n → ⊥) → seen s (p ++ n ∷ []) ≡ None
no_text_seen s ok p n bad = no_name_seen s ok p n (no_text n bad)
