-- The marks of a log: lines that have the sum of the lines before them, and of the answers that these had.
use Rattle.std.specs.Prelude.{ℕ, ◌==◌, Bool, List, [], ◌∷◌, ◌++◌, codes, if◌then◌else◌}
use Rattle.std.specs.List.{starts_with}
use Rattle.hex.specs.Hex.{encode_lower}
use Rattle.sha2.specs.Sha256.{sha256}

-- a mark begins so: it is a question, which a script may ask too
abbrev pub head : List ℕ
head = codes "{\"do\":\"report\",\"lines\":\""

-- between its two sums
abbrev pub middle : List ℕ
middle = codes "\",\"answers\":\""

-- its end
abbrev pub tail : List ℕ
tail = codes "\"}"

-- the end of one by which those before it are not compared any more
abbrev pub tail_rebased : List ℕ
tail_rebased = codes "\",\"rebased\":true}"

-- one from which sums go on, whatever they were, begins so
abbrev pub head_continued : List ℕ
head_continued = codes "{\"do\":\"report\",\"lines\":\"\",\"continued\":\""

-- a line, without its line feed, is a mark
abbrev pub is_mark_line : List ℕ → Bool
is_mark_line line = starts_with (λ a b. a == b) line head

-- it is one from which sums go on
abbrev pub is_continued_line : List ℕ → Bool
is_continued_line line = starts_with (λ a b. a == b) line head_continued

-- its first part, by the sum of lines
abbrev pub first_part : List ℕ → List ℕ
first_part lines = head ++ (encode_lower lines ++ middle)

-- all but its end, by both sums
abbrev pub stem : List ℕ → List ℕ → List ℕ
stem lines answers = first_part lines ++ encode_lower answers

-- the mark from which on sums go on, where they are these
abbrev pub continued_text : List ℕ → List ℕ → List ℕ
continued_text lines answers = head_continued ++ (encode_lower lines ++ (encode_lower answers ++ tail))

-- the SHA-256 of a sum and of the bytes that come next (FIPS 180-4); a sum of lines or of answers goes on by it
abbrev pub chained : List ℕ → List ℕ → List ℕ
chained sum bytes = sha256 (sum ++ bytes)

-- the sum behind whole lines, each with its line feed, where a line has begun with these bytes
abbrev pub chained_from : List ℕ → List ℕ → List ℕ → List ℕ
chained_from sum begun [] = sum
chained_from sum begun (b ∷ bytes) = if b == 10 then chained_from (chained sum (begun ++ 10 ∷ [])) [] bytes else chained_from sum (begun ++ b ∷ []) bytes

-- the sum behind whole lines
abbrev pub chained_lines : List ℕ → List ℕ → List ℕ
chained_lines sum lines = chained_from sum [] lines
