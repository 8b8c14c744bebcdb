-- The value of a text, by whether its bytes are UTF-8.
use Rattle.std.proofs.Common.{◌≡◌, ℕ, List, true, false, refl}
use Rattle.std.specs.Prelude.{if◌then◌else◌}
use Rattle.std.specs.Str.{IsUtf8, is_utf8}
use Rattle.std.proofs.lemmas.Str.{IsUtf8-from_is_utf8, is_utf8-from_IsUtf8}
use Rattle.serde_json.specs.Data.{null, string}
use Rattle.snap_values.specs.Values.{text_data}

pub is_text : (bytes : List ℕ) → IsUtf8 bytes → text_data bytes ≡ string bytes
is_text bytes u = rw (is_utf8-from_IsUtf8 bytes u) refl

pub not_text : (bytes : List ℕ) → ¬ (IsUtf8 bytes) → null ≡ text_data bytes
not_text bytes h = (elim (is_utf8 bytes) as (λ b. is_utf8 bytes ≡ b → null ≡ (if b then string bytes else null)) [
  | true ↦ λ e. absurd (h (IsUtf8-from_is_utf8 bytes e))
  | false ↦ λ e. refl
]) refl
