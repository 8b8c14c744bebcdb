use Rattle.std.proofs.Common.{◌≡◌, ◌+◌, ℕ, ◌∷◌, ◌++◌, [], false, length, sym, ap, ◌∙◌, arith}
use Rattle.std.specs.Prelude.{nat_lt, ◌||◌}
use Rattle.std.proofs.lemmas.Bool.Decides.{nat_tests}
use Rattle.snap_path.specs.Text.{text_below}
use Rattle.snap_path.proofs.Texts.{text_below_push_length}
use Rattle.snap_path.specs.Limits.{most_path_bytes}
use Rattle.snap_merge.proofs.resolve.is_too_long.Goals as goal

pub returns-else-word-gt-MAX_NAME_BYTES : goal.returns-else-word-gt-MAX_NAME_BYTES
returns-else-word-gt-MAX_NAME_BYTES c =
    let short : nat_lt 255 (length c.args.word.now) ≡ false = grind (arith, nat_tests) in
    let whole : length (text_below (c.args.place.now ++ c.args.word.now ∷ [])) ≡ c.text_len.result + 1 + length c.args.word.now =
    text_below_push_length c.args.place.now c.args.word.now ∙ ap (λ (k : ℕ). k + 1 + length c.args.word.now) (sym c.text_len.ensures.length)
    in
    sym (ap (λ b. b || nat_lt most_path_bytes (length (text_below (c.args.place.now ++ c.args.word.now ∷ [])))) short ∙ ap (nat_lt most_path_bytes) whole)
