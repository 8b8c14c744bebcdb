-- The text of a flat object reads back as the object.
use Rattle.std.proofs.Common.{◌≡◌, ℕ, ◌<◌, ◌^◌, Bool, true, false, List, [], Option, Some, option_map, option_and_then, refl, sym, ap, ◌∙◌, arith, append-nil}
use Rattle.std.specs.Prelude.{◌&&◌, ⊤}
use Rattle.std.specs.Ordering.{nat_cmp, match_ordering}
use Rattle.std.specs.declared.cmp.Ordering.{Ordering}
use Rattle.std.specs.declared.cmp.Ordering.TheVariants.{Less, Equal, Greater}
use Rattle.std.specs.Cmp.Lexicographic.{slice_cmp}
use Rattle.json.specs.Json as json
use Rattle.json.specs.Lex.{tokens}
use Rattle.json.specs.Tree as tree
use Rattle.json.specs.Tree.{HasNumbers, MembersHaveNumbers}
use Rattle.json.proofs.Printed.Tokens.{tokens-print}
use Rattle.json.proofs.Printed.Trees.{ArePrintable-json_tokens, value-json_tokens}
use Rattle.json.specs.Token.{Token}
use Rattle.json.proofs.Printed.Decimals.{IsNumber-decimal}
use Rattle.serde_json.specs.Data.{unsigned, negative, float, Data, null, boolean, number, string, array, object, Members, no_members, member, put}
use Rattle.serde_json.specs.Read.{read, max_depth, of_json, of_members}
use Rattle.serde_json.specs.Written.{compact_text, outline, members_outline}
use Rattle.serde_json.proofs.Numbers.{number_of-decimal}
use Rattle.serde_json.proofs.Texts.{print-outline}

-- neither an array nor an object, and no number but a natural one of 64 bits
abbrev pub IsFlat : Data → Type 0
IsFlat null = ⊤
IsFlat (boolean b) = ⊤
IsFlat (number (unsigned n)) = n < 2 ^ 64
IsFlat (number (negative z)) = ⊥
IsFlat (number (float x)) = ⊥
IsFlat (string s) = ⊤
IsFlat (array ds) = ⊥
IsFlat (object ms) = ⊥

abbrev pub AreFlat : Members → Type 0
AreFlat no_members = ⊤
AreFlat (member k d ms) = IsFlat d × AreFlat ms

-- members behind others
abbrev pub behind : Members → Members → Members
behind no_members more = more
behind (member k d ms) more = member k d (behind ms more)

-- the key is above those of all members
abbrev pub is_above : List ℕ → Members → Bool
is_above k no_members = true
is_above k (member l e ms) = match_ordering (slice_cmp nat_cmp k l) false false true && is_above k ms

-- each key is above those before it
abbrev pub are_ordered : Members → Members → Bool
are_ordered done no_members = true
are_ordered done (member k d ms) = is_above k done && are_ordered (behind done (member k d no_members)) ms

both : (a b : Bool) → (a && b) ≡ true → (a ≡ true) × (b ≡ true)
both true b h = (refl, h)
both false b h = absurd (cc)

put_last : (k : List ℕ) (d : Data) (done : Members) → is_above k done ≡ true → put k d done ≡ behind done (member k d no_members)
put_last k d no_members above = refl
put_last k d (member l e ms) above =
    let two = both (match_ordering (slice_cmp nat_cmp k l) false false true) (is_above k ms) above in
    by (slice_cmp nat_cmp k l) two.0 (put_last k d ms two.1)
  where
    by : (o : Ordering) → match_ordering o false false true ≡ true → put k d ms ≡ behind ms (member k d no_members)
        → match_ordering o (member k d (member l e ms)) (member l d ms) (member l e (put k d ms)) ≡ member l e (behind ms (member k d no_members))
    by Less h rest = absurd (cc)
    by Equal h rest = absurd (cc)
    by Greater h rest = ap (member l e) rest

behind_none : (done : Members) → behind done no_members ≡ done
behind_none no_members = refl
behind_none (member k d ms) = ap (member k d) (behind_none ms)

behind_one : (done : Members) (k : List ℕ) (d : Data) (ms : Members) → behind (behind done (member k d no_members)) ms ≡ behind done (member k d ms)
behind_one no_members k d ms = refl
behind_one (member l e done) k d ms = ap (member l e) (behind_one done k d ms)

of_flat : (d : Data) → IsFlat d → of_json (outline d) ≡ Some d
of_flat null flat = refl
of_flat (boolean b) flat = refl
of_flat (number (unsigned n)) flat = ap (option_map number) (number_of-decimal n flat)
of_flat (number (negative z)) flat = absurd flat
of_flat (number (float x)) flat = absurd flat
of_flat (string s) flat = refl
of_flat (array ds) flat = absurd flat
of_flat (object ms) flat = absurd flat

of_ordered : (ms done : Members) → AreFlat ms → are_ordered done ms ≡ true → of_members (members_outline ms) done ≡ Some (behind done ms)
of_ordered no_members done flat ordered = ap Some (sym (behind_none done))
of_ordered (member k d ms) done flat ordered =
    let two = both (is_above k done) (are_ordered (behind done (member k d no_members)) ms) ordered in
    ap (option_and_then (λ x. of_members (members_outline ms) (put k x done))) (of_flat d flat.0)
    ∙ ap (of_members (members_outline ms)) (put_last k d done two.0)
    ∙ of_ordered ms (behind done (member k d no_members)) flat.1 two.1
    ∙ ap Some (behind_one done k d ms)

numbers_flat : (d : Data) → IsFlat d → HasNumbers (outline d)
numbers_flat null flat = tt
numbers_flat (boolean b) flat = tt
numbers_flat (number (unsigned n)) flat = IsNumber-decimal n flat
numbers_flat (number (negative z)) flat = absurd flat
numbers_flat (number (float x)) flat = absurd flat
numbers_flat (string s) flat = tt
numbers_flat (array ds) flat = absurd flat
numbers_flat (object ms) flat = absurd flat

numbers_all : (ms : Members) → AreFlat ms → MembersHaveNumbers (members_outline ms)
numbers_all no_members flat = tt
numbers_all (member k d ms) flat = (numbers_flat d flat.0, numbers_all ms flat.1)

depth_flat : (d : Data) → IsFlat d → tree.depth (outline d) ≡ 0
depth_flat null flat = refl
depth_flat (boolean b) flat = refl
depth_flat (number n) flat = refl
depth_flat (string s) flat = refl
depth_flat (array ds) flat = absurd flat
depth_flat (object ms) flat = absurd flat

depth_all : (ms : Members) → AreFlat ms → tree.members_depth (members_outline ms) ≡ 0
depth_all no_members flat = refl
depth_all (member k d ms) flat = omega (arith, depth_flat d flat.0, depth_all ms flat.1)

abbrev whole : Option (json.Json × List Token) → Option Data
whole o = option_and_then of_json (option_and_then (λ p. json.if_last p.0 p.1) o)

-- what is read of the text is the object
pub flat_back : (ms : Members) → AreFlat ms → are_ordered no_members ms ≡ true → read (compact_text (object ms)) ≡ Some (object ms)
flat_back ms flat ordered =
    let d : Data = object ms in
    let ts : List Token = tree.json_tokens (outline d) in
    let same : tokens (compact_text d) ≡ ts = ap tokens (sym (print-outline d)) ∙ tokens-print ts (ArePrintable-json_tokens (outline d) (numbers_all ms flat)) in
    ap whole (ap (json.value max_depth) (same ∙ sym (append-nil ts)) ∙ value-json_tokens (outline d) max_depth [] (omega (arith, depth_all ms flat)))
    ∙ ap (option_map object) (of_ordered ms no_members flat ordered)
