-- How the lines of a text begin.
use Rattle.std.proofs.Common.{◌≡◌, ℕ, ◌≤◌, ◌<◌, List, [], ◌∷◌, ◌++◌, length, true, false, not, refl, ap, ◌∙◌, arith}
use Rattle.std.specs.Prelude.{◌==◌, ◌&&◌, cond}
use Rattle.std.specs.List.{onto_first}
use Rattle.snap_lines.specs.Lines.{lines_of, without_feed, is_open}

pub record OpenCons (b : ℕ) (p : List ℕ) : Type 0 where
  pub head : (b == 10) ≡ false
  pub tail : is_open p ≡ true

pub open_cons : (b : ℕ) (p : List ℕ) → is_open (b ∷ p) ≡ true → OpenCons b p
open_cons b p = (elim (b == 10) as (λ t. (b == 10) ≡ t → not t && is_open p ≡ true → OpenCons b p) [
  | true ↦ λ e h. absurd (cc)
  | false ↦ λ e h. record { head = e; tail = h }
]) refl

pub line_split : (p rest : List ℕ) → is_open p ≡ true → lines_of (p ++ 10 ∷ rest) ≡ (p ++ 10 ∷ []) ∷ lines_of rest
line_split [] rest h = refl
line_split (b ∷ p) rest h =
    let o = open_cons b p h in
    ap (λ t. cond t ((b ∷ []) ∷ lines_of (p ++ 10 ∷ rest)) (onto_first b (lines_of (p ++ 10 ∷ rest)))) o.head
    ∙ ap (onto_first b) (line_split p rest o.tail)

pub line_last : (b : ℕ) (p : List ℕ) → is_open (b ∷ p) ≡ true → lines_of (b ∷ p) ≡ (b ∷ p) ∷ []
line_last b [] h =
    let o = open_cons b [] h in
    ap (λ t. cond t ((b ∷ []) ∷ []) (onto_first b [])) o.head
line_last b (c ∷ p) h =
    let o = open_cons b (c ∷ p) h in
    ap (λ t. cond t ((b ∷ []) ∷ lines_of (c ∷ p)) (onto_first b (lines_of (c ∷ p)))) o.head
    ∙ ap (onto_first b) (line_last c p o.tail)

pub feed_ended : (p : List ℕ) → is_open p ≡ true → without_feed (p ++ 10 ∷ []) ≡ p
feed_ended [] h = refl
feed_ended (b ∷ p) h =
    let o = open_cons b p h in
    ap (λ t. cond t [] (b ∷ without_feed (p ++ 10 ∷ []))) o.head ∙ ap (λ l. b ∷ l) (feed_ended p o.tail)

pub feed_open : (p : List ℕ) → is_open p ≡ true → without_feed p ≡ p
feed_open [] h = refl
feed_open (b ∷ p) h =
    let o = open_cons b p h in
    ap (λ t. cond t [] (b ∷ without_feed p)) o.head ∙ ap (λ l. b ∷ l) (feed_open p o.tail)

-- the first line of an open text and more begins with it
pub record Begins (p rest : List ℕ) : Type 0 where
  pub more : List ℕ
  pub lines : List (List ℕ)
  pub is : lines_of (p ++ rest) ≡ (p ++ more) ∷ lines

first_onto : (b : ℕ) (rest : List ℕ) → (b == 10) ≡ false → Begins (b ∷ []) rest
first_onto b rest e = (elim (lines_of rest) as (λ ls. lines_of rest ≡ ls → Begins (b ∷ []) rest) [
  | [] ↦ λ q. record { more = []; lines = []; is = ap (λ t. cond t ((b ∷ []) ∷ lines_of rest) (onto_first b (lines_of rest))) e ∙ ap (onto_first b) q }
  | l ∷ ls ↦ λ q. record { more = l; lines = ls; is = ap (λ t. cond t ((b ∷ []) ∷ lines_of rest) (onto_first b (lines_of rest))) e ∙ ap (onto_first b) q }
]) refl

pub line_begins : (b : ℕ) (p rest : List ℕ) → is_open (b ∷ p) ≡ true → Begins (b ∷ p) rest
line_begins b [] rest h = let o = open_cons b [] h in first_onto b rest o.head
line_begins b (c ∷ p) rest h =
    let o = open_cons b (c ∷ p) h in
    let more = line_begins c p rest o.tail in
    record {
      more = more.more;
      lines = more.lines;
      is = ap (λ t. cond t ((b ∷ []) ∷ lines_of (c ∷ (p ++ rest))) (onto_first b (lines_of (c ∷ (p ++ rest))))) o.head ∙ ap (onto_first b) more.is;
    }

-- the first lines of an open text and more, without a byte and with it
pub record Both (p : List ℕ) (b : ℕ) (rest : List ℕ) : Type 0 where
  pub more : List ℕ
  pub lines : List (List ℕ)
  pub short : lines_of (p ++ rest) ≡ (p ++ more) ∷ lines
  pub long : lines_of (p ++ b ∷ rest) ≡ (p ++ b ∷ more) ∷ lines

line_of_open : (b : ℕ) (bytes : List ℕ) → (b == 10) ≡ false → lines_of (b ∷ bytes) ≡ onto_first b (lines_of bytes)
line_of_open b bytes e = ap (λ t. cond t ((b ∷ []) ∷ lines_of bytes) (onto_first b (lines_of bytes))) e

both_onto : (c b : ℕ) (rest : List ℕ) → (c == 10) ≡ false → (b == 10) ≡ false → Both (c ∷ []) b rest
both_onto c b rest e f = (elim (lines_of rest) as (λ ls. lines_of rest ≡ ls → Both (c ∷ []) b rest) [
  | [] ↦ λ q. record {
    more = [];
    lines = [];
    short = line_of_open c rest e ∙ ap (onto_first c) q;
    long = line_of_open c (b ∷ rest) e ∙ ap (onto_first c) (line_of_open b rest f ∙ ap (onto_first b) q);
  }
  | l ∷ ls ↦ λ q. record {
    more = l;
    lines = ls;
    short = line_of_open c rest e ∙ ap (onto_first c) q;
    long = line_of_open c (b ∷ rest) e ∙ ap (onto_first c) (line_of_open b rest f ∙ ap (onto_first b) q);
  }
]) refl

both_from : (a b : ℕ) (p rest : List ℕ) → is_open (a ∷ p) ≡ true → (b == 10) ≡ false → Both (a ∷ p) b rest
both_from a b [] rest h e = let o = open_cons a [] h in both_onto a b rest o.head e
both_from a b (c ∷ p) rest h e =
    let o = open_cons a (c ∷ p) h in
    let more = both_from c b p rest o.tail e in
    record {
      more = more.more;
      lines = more.lines;
      short = line_of_open a (c ∷ (p ++ rest)) o.head ∙ ap (onto_first a) more.short;
      long = line_of_open a (c ∷ (p ++ b ∷ rest)) o.head ∙ ap (onto_first a) more.long;
    }

pub begins_both : (p : List ℕ) (b : ℕ) (rest : List ℕ) → is_open p ≡ true → (b == 10) ≡ false → 0 < length p → Both p b rest
begins_both [] b rest o e h = absurd (omega arith)
begins_both (a ∷ p) b rest o e h = both_from a b p rest o e

pub feed_after : (p more : List ℕ) → is_open p ≡ true → without_feed (p ++ more) ≡ p ++ without_feed more
feed_after [] more h = refl
feed_after (b ∷ p) more h =
    let o = open_cons b p h in
    ap (λ t. cond t [] (b ∷ without_feed (p ++ more))) o.head ∙ ap (λ l. b ∷ l) (feed_after p more o.tail)

pub feed_long : (p more : List ℕ) → is_open p ≡ true → length p ≤ length (without_feed (p ++ more))
feed_long [] more h = omega arith
feed_long (b ∷ p) more h =
    let o = open_cons b p h in
    let e : without_feed (b ∷ (p ++ more)) ≡ b ∷ without_feed (p ++ more) = ap (λ t. cond t [] (b ∷ without_feed (p ++ more))) o.head in
    let ind = feed_long p more o.tail in
    rw e (omega arith)

pub open_more : (p : List ℕ) (b : ℕ) → is_open p ≡ true → (b == 10) ≡ false → is_open (p ++ b ∷ []) ≡ true
open_more [] b h e = ap (λ t. not t && true) e
open_more (a ∷ p) b h e =
    let o = open_cons a p h in
    ap (λ t. not t && is_open (p ++ b ∷ [])) o.head ∙ open_more p b o.tail e
