-- The compact text of a value is one line: it has no line feed.
use Rattle.std.proofs.Common.{◌≡◌, ℕ, pos, negsuc, zero, suc, ◌/◌, ◌%◌, ◌==◌, Bool, true, false, cond, List, [], ◌∷◌, ◌++◌, decimal, refl, arith}
use Rattle.std.proofs.lemmas.Bool.Decides.{nat_tests}
use Rattle.std.specs.Fmt.{digits, digits_onto, digit_glyph}
use Rattle.json.specs.Print.{escape, escape_byte, quoted}
use Rattle.serde_json.specs.Data.{Num, unsigned, negative, float, Data, null, boolean, number, string, array, object, Items, no_items, item, Members, no_members, member}
use Rattle.serde_json.specs.Written.{comma_if, compact_text, items_text, members_text, number_text}
use Rattle.snap_log.specs.Texts.{has_feed}

no_feeds : (a b : List ℕ) → has_feed a ≡ false → has_feed b ≡ false → has_feed (a ++ b) ≡ false
no_feeds [] b left right = right
no_feeds (x ∷ a) b left right =
    let more : has_feed a ≡ false = grind (arith, nat_tests) in
    let all : has_feed (a ++ b) ≡ false = no_feeds a b more right in
    grind (arith, nat_tests)

of_byte : (x : ℕ) → has_feed (escape_byte x) ≡ false
unfolding escape_byte
of_byte x = grind (arith, nat_tests)

of_escape : (s : List ℕ) → has_feed (escape s) ≡ false
of_escape [] = refl
of_escape (x ∷ s) = no_feeds (escape_byte x) (escape s) (of_byte x) (of_escape s)

of_quoted : (s : List ℕ) → has_feed (quoted s) ≡ false
of_quoted s = no_feeds (escape s) (34 ∷ []) (of_escape s) refl

of_digits : (k n : ℕ) (acc : List ℕ) → has_feed acc ≡ false → has_feed (digits_onto k 10 false n acc) ≡ false
of_digits zero n acc none = none
of_digits (suc k) n acc none =
    let one : has_feed (digit_glyph false (n % 10) ∷ acc) ≡ false = grind (arith, nat_tests) in
    let more : has_feed (digits_onto k 10 false (n / 10) (digit_glyph false (n % 10) ∷ acc)) ≡ false = of_digits k (n / 10) (digit_glyph false (n % 10) ∷ acc) one in
    either (n / 10 == 0) (digit_glyph false (n % 10) ∷ acc) (digits_onto k 10 false (n / 10) (digit_glyph false (n % 10) ∷ acc)) one more
  where
    either : (b : Bool) (s t : List ℕ) → has_feed s ≡ false → has_feed t ≡ false → has_feed (cond b s t) ≡ false
    either true s t left right = left
    either false s t left right = right

of_decimal : (n : ℕ) → has_feed (decimal n) ≡ false
unfolding digits
of_decimal n = of_digits 64 n [] refl

of_number : (n : Num) → has_feed (number_text n) ≡ false
of_number (unsigned n) = of_decimal n
of_number (negative (pos n)) = of_decimal n
of_number (negative (negsuc n)) = of_decimal (suc n)
of_number (float x) = refl

of_comma : (later : Bool) → has_feed (comma_if later) ≡ false
of_comma true = refl
of_comma false = refl

mutual
  pub of_value : (d : Data) → has_feed (compact_text d) ≡ false
  of_value null = refl
  of_value (boolean true) = refl
  of_value (boolean false) = refl
  of_value (number n) = of_number n
  of_value (string s) = of_quoted s
  of_value (array ds) = of_items false ds
  of_value (object ms) = of_members false ms

  of_items : (later : Bool) (ds : Items) → has_feed (items_text later ds) ≡ false
  of_items later no_items = refl
  of_items later (item d ds) = no_feeds (comma_if later) (compact_text d ++ items_text true ds) (of_comma later) (no_feeds (compact_text d) (items_text true ds) (of_value d) (of_items true ds))

  of_members : (later : Bool) (ms : Members) → has_feed (members_text later ms) ≡ false
  of_members later no_members = refl
  of_members later (member k d ms) =
      no_feeds (comma_if later) (quoted k ++ 58 ∷ (compact_text d ++ members_text true ms)) (of_comma later)
      (no_feeds (quoted k) (58 ∷ (compact_text d ++ members_text true ms)) (of_quoted k) (no_feeds (compact_text d) (members_text true ms) (of_value d) (of_members true ms)))
