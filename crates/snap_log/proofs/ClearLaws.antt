-- What a crash leaves where the gate before the first line is closed.
use Rattle.std.proofs.Common.{◌≡◌, ◌⊎◌, inl, inr, ℕ, zero, suc, ◌≢◌, ◌<◌, List, [], ◌∷◌, ◌++◌, length, take, drop, slice_index, get_or, refl, sym, ◌∙◌, ap, subst, arith, get_or-take}
use Rattle.std.proofs.lemmas.List.{take_at}
use Rattle.std.proofs.lemmas.Bool.{cases_eq}
use Rattle.sqlite_disk.specs.Disk.{Holds, Torn, Follows, Only}
use Rattle.snap_log.specs.Texts.{log_text, AreLines}
use Rattle.snap_log.specs.Kept.{IsGated, IsDurable}
use Rattle.snap_log.proofs.TextLaws.{braced, closed}
use Rattle.snap_log.proofs.GateLaws.{front, stands}

-- a file that doesn't begin with a brace has no line
unopened : (c : List ℕ) → slice_index c 0 ≢ 123 → log_text c ≡ []
unopened [] n = refl
unopened (b ∷ rest) n = closed b rest n

-- where the first byte is a brace again, all is as it was
reopened : (text d c : List ℕ) → 0 < length text → AreLines text → IsGated text d → Torn 0 1 d c → slice_index c 0 ≡ 123 → IsGated text c
reopened text d c some lines is torn brace =
    let size : ℕ = length text in
    let first : slice_index text 0 ≡ 123 = ap (λ (l : List ℕ). get_or l 0 0) (braced text some lines) in
    let whole : c ≡ text ++ drop size c = front text c (omega (arith, is.within, torn.no_shorter)) (λ i below. same first i below) in
    record {
      within = omega (arith, is.within, torn.no_shorter);
      begins = ap (λ (l : List ℕ). take size l) whole ∙ take_at text (drop size c) size refl;
      gate = torn.above size is.within (omega (arith, some)) ∙ is.gate;
    }
  where
    same : slice_index text 0 ≡ 123 → (i : ℕ) → i < length text → slice_index c i ≡ slice_index text i
    same first zero below = brace ∙ sym first
    same first (suc i) below =
        torn.above (suc i) (omega (arith, is.within)) (omega arith) ∙ sym (get_or-take (length text) d (suc i) 0 below) ∙ ap (λ (l : List ℕ). get_or l (suc i) 0) is.begins

-- all lines, or none
closing : (text d c : List ℕ) → 0 < length text → AreLines text → IsGated text d → Torn 0 1 d c → (log_text c ≡ text) ⊎ (log_text c ≡ [])
closing text d c some lines is torn = elim (cases_eq (slice_index c 0) 123) [
  | inl e ↦ inl (stands text c lines (reopened text d c some lines is torn e))
  | inr n ↦ inr (unopened c n)
]

pub closing_crash : (text seen : List ℕ) (old new : List ℕ → Type 0) → 0 < length text → IsDurable text seen old → Follows (Torn 0 1) old new → (c : List ℕ) → new c → (log_text c ≡ text) ⊎ (log_text c ≡ [])
closing_crash text seen old new some is follows c from =
    let step = follows c from in
    closing text step.0 c some is.lines (is.left step.0 step.1) step.2

-- once it is synced, there is none
pub cleared : (last : List ℕ) (new : List ℕ → Type 0) → Holds last 0 (0 ∷ []) → Only last new → IsDurable [] last new
cleared last new holds only =
    let file : IsGated [] last = record { within = omega (arith, holds.within); begins = refl; gate = holds.each 0 (omega arith) } in
    record { lines = record { whole = refl }; file = file; left = λ c from. subst (λ (f : List ℕ). IsGated [] f) (sym (only c from)) file }

-- a text without bytes
pub none_in : (text : List ℕ) → 0 ≡ length text → text ≡ []
none_in [] none = refl
none_in (b ∷ more) none = absurd (omega arith)
