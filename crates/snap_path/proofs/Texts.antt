-- The text below a list of names.
use Rattle.std.proofs.Common.{◌≡◌, ℕ, ◌+◌, ◌<◌, ◌≤◌, List, [], ◌∷◌, ◌++◌, length, take, drop, get_or, refl, sym, ap, subst, ◌∙◌, append_assoc, append-nil, arith, length-append, true, false, Bool, cond}
use Rattle.std.proofs.lemmas.List.Folds.{list_all-append, list_all_at}
use Rattle.std.specs.Cmp.{first_so as first_true}
use Rattle.std.proofs.lemmas.Option.{slice_get-get_or}
use Rattle.std.proofs.Math.Seq.{take-append_seam, get_or-append_seam}
use Rattle.std.specs.List.{list_all, slice_split, onto_first}
use Rattle.std.specs.Str.{bytes_eq}
use Rattle.std.specs.Prelude.{◌-◌, Some, slice_get, nat_le, ◌==◌, ◌&&◌, not}
use Rattle.std.proofs.lemmas.Bool.Decides.{nat_tests}
use Rattle.snap_path.specs.Limits.{most_path_bytes}
use Rattle.snap_path.specs.Text.{Names, text_below, text_of, path_names, is_name, is_name_byte, is_path, IsPath, IsHeld, Spells, IsSpelling, IsJoined, parent_of, last_name}

pub text_below-append : (xs ys : Names) → text_below (xs ++ ys) ≡ text_below xs ++ text_below ys
text_below-append [] ys = refl
text_below-append (x ∷ xs) ys = simp (text_below-append xs ys, append_assoc)

pub text_below_push : (xs : Names) (n : List ℕ) → text_below (xs ++ n ∷ []) ≡ (text_below xs ++ 47 ∷ []) ++ n
text_below_push xs n = text_below-append xs (n ∷ []) ∙ simp (append_assoc, append-nil)

pub text_below_push_length : (xs : Names) (n : List ℕ) → length (text_below (xs ++ n ∷ [])) ≡ length (text_below xs) + 1 + length n
text_below_push_length xs n = ap length (text_below_push xs n) ∙ length-append (text_below xs ++ 47 ∷ []) n ∙ ap (λ k. k + length n) (length-append (text_below xs) (47 ∷ []))

-- a front of a path is a path
pub IsPath-front : (ns xs ys : Names) → IsPath ns → ns ≡ xs ++ ys → IsPath xs
IsPath-front ns xs ys ok e =
    let whole = subst IsPath e ok in
    (first_true (list_all is_name xs) (list_all is_name ys) (sym (list_all-append is_name xs ys) ∙ whole.0), omega (arith, whole.1, ap length (text_below-append xs ys), length-append (text_below xs) (text_below ys)))

-- one name more
pub IsHeld_push : (bs : List ℕ) (ns : Names) (n : List ℕ) → IsHeld bs ns → is_name n ≡ true → length (text_below (ns ++ n ∷ [])) ≤ most_path_bytes → IsHeld ((bs ++ 47 ∷ []) ++ n) (ns ++ n ∷ [])
IsHeld_push bs ns n held valid short =
    (ap (λ b. (b ++ 47 ∷ []) ++ n) held.0 ∙ sym (text_below_push ns n), (list_all-append is_name ns (n ∷ []) ∙ grind (arith, nat_tests, held.1.0), short))

-- one byte before what the rest splits into
onto : (x : ℕ) (xs : List ℕ) (parts : Names) → text_below parts ≡ 47 ∷ xs → text_below (onto_first x parts) ≡ 47 ∷ x ∷ xs
onto x xs [] e = cc
onto x xs (p ∷ ps) e = cc

by_head : (x : ℕ) (xs : List ℕ) (parts : Names) → text_below parts ≡ 47 ∷ xs → (t : Bool) → (x == 47) ≡ t → text_below (cond t ([] ∷ parts) (onto_first x parts)) ≡ 47 ∷ x ∷ xs
by_head x xs parts e true is = let same : x ≡ 47 = grind (arith, nat_tests) in cc
by_head x xs parts e false is = onto x xs parts e

-- what the text splits into spells it
pub text_below-slice_split : (bs : List ℕ) → text_below (slice_split (λ b. b == 47) bs) ≡ 47 ∷ bs
text_below-slice_split [] = refl
text_below-slice_split (x ∷ xs) = by_head x xs (slice_split (λ b. b == 47) xs) (text_below-slice_split xs) (x == 47) refl

pub name_test : (a b c d e f : Bool) → a ≡ true → b ≡ true → d ≡ false → e ≡ false → f ≡ true → c ≡ (a && b && c && not d && not e && f)
name_test a b true d e f h k l m o = grind (arith, nat_tests)
name_test a b false d e f h k l m o = grind (arith, nat_tests)

-- what the test tells of a path that is not the root
pub record IsBelowRoot (bs : List ℕ) : Type 0 where
  pub first : get_or bs 0 0 ≡ 47
  pub text : text_of (path_names bs) ≡ bs
  pub below : text_below (path_names bs) ≡ bs
  pub path : IsPath (path_names bs)
  pub split : path_names bs ≡ slice_split (λ d. d == 47) (drop 1 bs)

text_of-below : (ns : Names) (b : ℕ) (bs : List ℕ) → text_below ns ≡ b ∷ bs → text_of ns ≡ b ∷ bs
text_of-below [] b bs e = cc
text_of-below (n ∷ ns) b bs e = e

pub below_root : (bs : List ℕ) → is_path bs ≡ true → 1 < length bs → IsBelowRoot bs
below_root [] ok long = absurd (omega arith)
below_root (b ∷ []) ok long = absurd (omega arith)
below_root (b ∷ c ∷ bs) ok long =
    let short : length (b ∷ c ∷ bs) ≤ most_path_bytes = grind (arith, nat_tests) in
    let first : b ≡ 47 = grind (arith, nat_tests) in
    let valid : list_all is_name (path_names (b ∷ c ∷ bs)) ≡ true = grind (arith, nat_tests) in
    let text : text_below (path_names (b ∷ c ∷ bs)) ≡ b ∷ c ∷ bs = text_below-slice_split (c ∷ bs) ∙ ap (λ x. x ∷ c ∷ bs) (sym first) in
    record { first = first; text = text_of-below (path_names (b ∷ c ∷ bs)) b (c ∷ bs) text; below = text; path = (valid, subst (λ t. length t ≤ most_path_bytes) (sym text) short); split = refl }

pub path_some : (bs rest : List ℕ) (r : Bool) → bs ≡ 47 ∷ rest → length bs ≤ most_path_bytes → bytes_eq bs (47 ∷ []) ≡ false → r ≡ list_all is_name (slice_split (λ b. b == 47) rest) → r ≡ is_path bs
path_some [] rest r e short other all = cc
path_some (b ∷ []) rest r e short other all =
    let same : b ≡ 47 = cc in absurd (grind (arith, nat_tests))
path_some (b ∷ c ∷ bs) rest r e short other all =
    let same : b ≡ 47 = cc in
    let tail : rest ≡ c ∷ bs = cc in
    let valid : r ≡ list_all is_name (slice_split (λ b. b == 47) (c ∷ bs)) = rw tail at all in
    grind (arith, nat_tests)

pub path_none : (bs : List ℕ) → ((rest : List ℕ) → bs ≡ 47 ∷ rest → ⊥) → bytes_eq bs (47 ∷ []) ≡ false → false ≡ is_path bs
path_none [] none other = refl
path_none (b ∷ []) none other = let differs : (b == 47) ≡ false = grind (arith, nat_tests, λ (e : b ≡ 47). none [] (ap (λ x. x ∷ []) e)) in sym differs
path_none (b ∷ c ∷ bs) none other = let differs : (b == 47) ≡ false = grind (arith, nat_tests, λ (e : b ≡ 47). none (c ∷ bs) (ap (λ x. x ∷ c ∷ bs) e)) in grind (arith, nat_tests)

-- each name of a path passes
pub passes : (ns : Names) (i : ℕ) (d : List ℕ) → list_all is_name ns ≡ true → i < length ns → is_name (get_or ns i d) ≡ true
passes ns i d all lt = elim (is_name (get_or ns i d)) as (λ b. is_name (get_or ns i d) ≡ b → b ≡ true) [ true ↦ λ _. refl | false ↦ λ e. sym (list_all_at is_name ns i d lt e) ∙ all ] refl

-- a name is not split
split-name : (n : List ℕ) → list_all is_name_byte n ≡ true → slice_split (λ b. b == 47) n ≡ n ∷ []
split-name [] valid = refl
split-name (b ∷ bs) valid =
    let other : (b == 47) ≡ false = grind (arith, nat_tests) in
    let rest : list_all is_name_byte bs ≡ true = grind (arith, nat_tests) in
    rw (other, split-name bs rest) refl

-- and ends at the next `/`
split-name-slash : (n rest : List ℕ) → list_all is_name_byte n ≡ true → slice_split (λ b. b == 47) (n ++ 47 ∷ rest) ≡ n ∷ slice_split (λ b. b == 47) rest
split-name-slash [] rest valid = refl
split-name-slash (b ∷ bs) rest valid =
    let other : (b == 47) ≡ false = grind (arith, nat_tests) in
    let tail : list_all is_name_byte bs ≡ true = grind (arith, nat_tests) in
    rw (other, split-name-slash bs rest tail) refl

name_bytes : (n : List ℕ) → is_name n ≡ true → list_all is_name_byte n ≡ true
name_bytes n valid = grind (arith, nat_tests)

-- what names spell splits into them
split-text_below : (n : List ℕ) (ns : Names) → list_all is_name (n ∷ ns) ≡ true → slice_split (λ b. b == 47) (n ++ text_below ns) ≡ n ∷ ns
split-text_below n [] valid =
    let first : is_name n ≡ true = grind (arith, nat_tests) in
    rw (append-nil n) (split-name n (name_bytes n first))
split-text_below n (m ∷ ms) valid =
    let first : is_name n ≡ true = grind (arith, nat_tests) in
    let rest : list_all is_name (m ∷ ms) ≡ true = grind (arith, nat_tests) in
    split-name-slash n (m ++ text_below ms) (name_bytes n first) ∙ ap (λ parts. n ∷ parts) (split-text_below m ms rest)

-- each path's text is accepted, and read as its names
accepted : (ns : Names) → IsPath ns → (is_path (text_of ns) ≡ true) × (path_names (text_of ns) ≡ ns)
accepted [] path = (refl, refl)
accepted ([] ∷ ns) path = absurd (grind (arith, nat_tests, path.0))
accepted ((b ∷ bs) ∷ ns) path =
    let split = split-text_below (b ∷ bs) ns path.0 in
    let short : nat_le (length (text_below ((b ∷ bs) ∷ ns))) most_path_bytes ≡ true = grind (arith, nat_tests, path.1) in
    let valid : list_all is_name (slice_split (λ d. d == 47) ((b ∷ bs) ++ text_below ns)) ≡ true = rw split path.0 in
    (grind (arith, nat_tests), split)

read_back : (text : List ℕ) → is_path text ≡ true → Spells text (path_names text)
read_back [] valid = absurd (grind (arith, nat_tests))
read_back (b ∷ []) valid =
    let slash : b ≡ 47 = grind (arith, nat_tests) in
    ((refl, omega arith), ap (λ x. x ∷ []) (sym slash))
read_back (b ∷ c ∷ bs) valid =
    let below = below_root (b ∷ c ∷ bs) valid (omega arith) in
    (below.path, below.text)

pub spelling : (text : List ℕ) → IsSpelling text
spelling text = record {
  read = read_back text;
  only = λ ns spells.
      let same = accepted ns spells.0 in
      (subst (λ t. is_path t ≡ true) spells.1 same.0, subst (λ t. path_names t ≡ ns) spells.1 same.1);
}

-- a path and one name more, taken apart again
parent_of-joined : (front : Names) (name : List ℕ) → parent_of (front ++ name ∷ []) ≡ Some front
parent_of-joined [] name = refl
parent_of-joined (x ∷ xs) name =
    let count : length (xs ++ name ∷ []) ≡ length (x ∷ xs) = omega (arith, length-append xs (name ∷ [])) in
    ap Some (ap (λ n. take n (x ∷ (xs ++ name ∷ []))) count ∙ take-append_seam (x ∷ xs) (name ∷ []))

last_name-joined : (front : Names) (name : List ℕ) → last_name (front ++ name ∷ []) ≡ Some name
last_name-joined front name =
    let long = length-append front (name ∷ []) in
    let place : length (front ++ name ∷ []) - 1 ≡ length front = omega (arith, long) in
    ap (slice_get (front ++ name ∷ [])) place ∙ slice_get-get_or (front ++ name ∷ []) (length front) [] (omega (arith, long)) ∙ ap Some (get_or-append_seam front name [] [])

pub joined : (front : Names) (name : List ℕ) → IsJoined front name (front ++ name ∷ [])
joined front name = record { parent = parent_of-joined front name; last = last_name-joined front name }

-- the same of an equal list
pub IsJoined-from : (front ns : Names) (name : List ℕ) → ns ≡ front ++ name ∷ [] → IsJoined front name ns
IsJoined-from front ns name same = subst (IsJoined front name) (sym same) (joined front name)
