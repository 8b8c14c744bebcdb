-- Where a way ends.
use Rattle.std.proofs.Common.{◌≡◌, ℕ, ◌+◌, ◌-◌, ◌<◌, ◌≤◌, Bool, true, false, not, List, [], ◌∷◌, ◌++◌, Option, Some, None, Ok, Err, length, take, drop, get_or, refl, sym, ap, inr, subst, ◌∙◌, append_assoc, append-nil, add-one, arith}
use Rattle.std.specs.Prelude.{if◌then◌else◌, is_some, zero, suc, nat_lt, nat_le, ◌&&◌, ◌||◌, ◌==◌}
use Rattle.std.specs.Result.{IsErrAnd}
use Rattle.std.specs.List.{list_all}
use Rattle.std.specs.Str.{bytes_eq, is_utf8}
use Rattle.std.proofs.lemmas.Bool.Decides.{nat_tests}
use Rattle.std.proofs.lemmas.List.{at_drop_more, take_more, take_all, take-append-drop}
use Rattle.snap_path.specs.Text.{Names, IsPath, is_name, is_name_byte, text_below}
use Rattle.snap_path.proofs.Texts.{IsPath-front}
use Rattle.snap_path.specs.Limits.{most_path_bytes}
use Rattle.snap_layer.specs.Tree.{Tree}
use Rattle.snap_merge.specs.declared.error.FsError.{FsError}
use Rattle.snap_merge.specs.declared.error.FsError.TheVariants.{BadPath, NotDir, NotFound}
use Rattle.snap_merge.specs.Objects.{Object, dir, file, symlink, seen, is_shown_dir, AreLayers}
use Rattle.snap_merge.specs.Walk.{walk_on, walk_from, Answers}
use Rattle.snap_merge.specs.Resolving.{Answer, is_here, is_above, above, is_too_long, start_of, words_of, entered, way, following, resolution, met, plain_error, is_shown_end}
use Rattle.snap_merge.specs.Arrivals.{TakesAlong}
use Rattle.snap_merge.specs.Rules.{ResolvingRules}
use Rattle.snap_merge.proofs.Above.{dir_above}
use Rattle.snap_merge.proofs.Ways.{way_enters}

-- ---- a way leads to a directory or a file

abbrev IsEnd : List Tree → Names → Type 0
IsEnd s p = is_shown_end (seen s p) ≡ true

dir_is_end : (o : Option Object) → is_shown_dir o ≡ true → is_shown_end o ≡ true
dir_is_end None e = absurd (cc)
dir_is_end (Some (dir m)) e = refl
dir_is_end (Some (file m b)) e = refl
dir_is_end (Some (symlink t)) e = absurd (cc)

dir_is_some : (o : Option Object) → is_shown_dir o ≡ true → is_some o ≡ true
dir_is_some None e = absurd (cc)
dir_is_some (Some x) e = refl

-- above a directory is one
above_dir : (s : List Tree) → AreLayers s → (p : Names) → is_shown_dir (seen s p) ≡ true → is_shown_dir (seen s (above p)) ≡ true
above_dir s ok [] e = e
above_dir s ok (n ∷ ns) e =
    let parts : n ∷ ns ≡ take (length ns) (n ∷ ns) ++ get_or (n ∷ ns) (length ns) [] ∷ [] =
    sym (take_all (length ns + 1) (n ∷ ns) (omega arith)) ∙ take_more (n ∷ ns) (length ns) [] (omega arith)
    in
    dir_above s ok (take (length ns) (n ∷ ns)) (get_or (n ∷ ns) (length ns) []) (dir_is_some _ (sym (ap (λ (p : Names). is_shown_dir (seen s p)) parts) ∙ e))

start_ends : (s : List Tree) (place : Names) (target : List ℕ) → IsEnd s [] → IsEnd s place → IsEnd s (start_of place target)
start_ends s place [] root here = here
start_ends s place (b ∷ bs) root here = elim (b == 47) as (λ t. IsEnd s (if t then [] else place)) [ true ↦ root | false ↦ here ]

same_end : (s : List Tree) (p q : Names) → IsEnd s p → ◌≡◌ {A = Answer} (Ok p) (Ok q) → IsEnd s q
same_end s p q here e = let same : p ≡ q = cc in subst (IsEnd s) same here

module _ (s : List Tree) (ok : AreLayers s) (root : is_shown_dir (seen s []) ≡ true) (follow : Names → Names → Answer) (goes : (place ws q : Names) → IsEnd s place → follow place ws ≡ Ok q → IsEnd s q) where
  step_ends : (ws : Names) (later : (place q : Names) → IsEnd s place → way follow s place ws ≡ Ok q → IsEnd s q) (place : Names) (w : List ℕ) (q : Names)
      → (d h a l : Bool) → is_shown_dir (seen s place) ≡ d → (o : Option Object) → seen s (place ++ w ∷ []) ≡ o
      → (if not d then Err NotDir else if h then way follow s place ws else if a then way follow s (above place) ws else if l then Err BadPath else entered (λ target. follow (start_of place target) (words_of target ++ ws)) (way follow s (place ++ w ∷ []) ws) o) ≡ Ok q
      → IsEnd s q
  step_ends ws later place w q false h a l there o is e = absurd (cc)
  step_ends ws later place w q true true a l there o is e = later place q (dir_is_end _ there) e
  step_ends ws later place w q true false true l there o is e = later (above place) q (dir_is_end _ (above_dir s ok place there)) e
  step_ends ws later place w q true false false true there o is e = absurd (cc)
  step_ends ws later place w q true false false false there None is e = absurd (cc)
  step_ends ws later place w q true false false false there (Some (dir m)) is e = later (place ++ w ∷ []) q (ap is_shown_end is) e
  step_ends ws later place w q true false false false there (Some (file m b)) is e = later (place ++ w ∷ []) q (ap is_shown_end is) e
  step_ends ws later place w q true false false false there (Some (symlink t)) is e = goes (start_of place t) (words_of t ++ ws) q (start_ends s place t (dir_is_end _ root) (dir_is_end _ there)) e

  way_ends : (ws place q : Names) → IsEnd s place → way follow s place ws ≡ Ok q → IsEnd s q
  way_ends [] place q here e = same_end s place q here e
  way_ends (w ∷ ws) place q here e = step_ends ws (way_ends ws) place w q (is_shown_dir (seen s place)) (is_here w) (is_above w) (is_too_long place w) refl (seen s (place ++ w ∷ [])) refl e

following_ends : (s : List Tree) → AreLayers s → is_shown_dir (seen s []) ≡ true → (k : ℕ) (place ws q : Names) → IsEnd s place → following k s place ws ≡ Ok q → IsEnd s q
following_ends s ok root zero place ws q here e = absurd (cc)
following_ends s ok root (suc k) place ws q here e = way_ends s ok root (following k s) (following_ends s ok root k) ws place q here e

-- ---- a way without symlinks

name_parts : (a b c d e : Bool) → (a && b && c && not d && not e) ≡ true → (a ≡ true) × (b ≡ true) × (d ≡ false) × (e ≡ false)
name_parts true true true false false x = (refl, refl, refl, refl)
name_parts a b c d e x = absurd (cc)

pub middle_true : (xs : Names) (n : List ℕ) (ys : Names) → list_all is_name (xs ++ n ∷ ys) ≡ true → is_name n ≡ true
middle_true [] n ys e = by (is_name n) (list_all is_name ys) e
  where
    by : (a b : Bool) → (a && b) ≡ true → a ≡ true
    by true b f = refl
    by false b f = absurd (cc)
middle_true (x ∷ xs) n ys e = middle_true xs n ys (by (is_name x) (list_all is_name (xs ++ n ∷ ys)) e)
  where
    by : (a b : Bool) → (a && b) ≡ true → b ≡ true
    by true b f = f
    by false b f = absurd (cc)

neither : (a b : Bool) → a ≡ false → b ≡ false → (a || b) ≡ false
neither true b e f = absurd (cc)
neither false b e f = f

front_true : (a b : Bool) → (a && b) ≡ true → a ≡ true
front_true true b e = refl
front_true false b e = absurd (cc)

no_word : (n : List ℕ) → is_name n ≡ true → (is_here n ≡ false) × (is_above n ≡ false) × (length n ≤ 255)
no_word n e =
    let parts = name_parts (nat_lt 0 (length n)) (nat_le (length n) 255) (list_all is_name_byte n) (bytes_eq n (46 ∷ [])) (bytes_eq n (46 ∷ 46 ∷ [])) (front_true _ (is_utf8 n) e) in
    let some : nat_lt 0 (length n) ≡ true = parts.0 in
    let few : nat_le (length n) 255 ≡ true = parts.1 in
    let word : (length n == 0) ≡ false = grind (arith, nat_tests) in
    (neither _ _ word parts.2, parts.3, grind (arith, nat_tests))

passes : (o : Option Object) (later : Option FsError) → walk_on o later ≡ None → (is_shown_dir o ≡ true) × (later ≡ None)
passes None later e = absurd (cc)
passes (Some (dir m)) later e = (refl, e)
passes (Some (file m b)) later e = absurd (cc)
passes (Some (symlink t)) later e = absurd (cc)

goes_on : (follow : List ℕ → Answer) (on : Answer) (o : Option Object) → is_shown_end o ≡ true → entered follow on o ≡ on
goes_on follow on None e = absurd (cc)
goes_on follow on (Some (dir m)) e = refl
goes_on follow on (Some (file m b)) e = refl
goes_on follow on (Some (symlink t)) e = absurd (cc)

next_end : (s : List Tree) (front rest : Names) → walk_from s front rest ≡ None → is_shown_end (seen s (front ++ rest)) ≡ true → is_shown_end (seen s front) ≡ true
next_end s front [] e f = subst (IsEnd s) (append-nil front) f
next_end s front (n ∷ rest) e f = dir_is_end _ (passes (seen s front) (walk_from s (front ++ n ∷ []) rest) e).0

-- the names of a path are words that lead into a directory
names_enter : (front : Names) (n : List ℕ) (rest : Names) → IsPath (front ++ n ∷ rest) → (is_here n ≡ false) × (is_above n ≡ false) × (is_too_long front n ≡ false)
names_enter front n rest ok =
    let whole : (front ++ n ∷ []) ++ rest ≡ front ++ n ∷ rest = append_assoc front (n ∷ []) rest in
    let name = no_word n (middle_true front n rest ok.0) in
    let short : length (text_below (front ++ n ∷ [])) ≤ most_path_bytes = (IsPath-front (front ++ n ∷ rest) (front ++ n ∷ []) rest ok (sym whole)).1 in
    let few : length n ≤ 255 = name.2 in
    let long : nat_lt 255 (length n) ≡ false = grind (arith, nat_tests) in
    let far : nat_lt most_path_bytes (length (text_below (front ++ n ∷ []))) ≡ false = grind (arith, nat_tests) in
    (name.0, name.1, neither _ _ long far)

way_plain : (follow : Names → Names → Answer) (s : List Tree) (rest front : Names) → IsPath (front ++ rest) → walk_from s front rest ≡ None → is_shown_end (seen s (front ++ rest)) ≡ true → way follow s front rest ≡ Ok (front ++ rest)
way_plain follow s [] front ok e f = ap (λ (p : Names). Ok p) (sym (append-nil front))
way_plain follow s (n ∷ rest) front ok e f =
    let whole : (front ++ n ∷ []) ++ rest ≡ front ++ n ∷ rest = append_assoc front (n ∷ []) rest in
    let here = passes (seen s front) (walk_from s (front ++ n ∷ []) rest) e in
    let enters = names_enter front n rest ok in
    let later = way_plain follow s rest (front ++ n ∷ []) (subst IsPath (sym whole) ok) here.1 (subst (IsEnd s) (sym whole) f) in
    way_enters follow s front n rest here.0 enters.0 enters.1 enters.2
    ∙ goes_on _ _ _ (next_end s (front ++ n ∷ []) rest here.1 (subst (IsEnd s) (sym whole) f))
    ∙ later ∙ ap (λ (p : Names). Ok p) whole

-- as far as directories are seen, the way leads through them
pub way_dirs : (follow : Names → Names → Answer) (s : List Tree) (p : Names) (m : ℕ) → IsPath p → ((j : ℕ) → j < m → is_shown_dir (seen s (take j p)) ≡ true) → (k : ℕ) → k ≤ length p → k ≤ m - 1 → way follow s (take k p) (drop k p) ≡ way follow s [] p
way_dirs follow s p m path dirs zero within few = refl
way_dirs follow s p m path dirs (suc j) within few =
    let lt : j < length p = omega (arith, within) in
    let n = get_or p j [] in
    let rest = drop (j + 1) p in
    let next : take (j + 1) p ≡ take j p ++ n ∷ [] = take_more p j [] lt in
    let whole : p ≡ take j p ++ n ∷ rest = sym (take-append-drop j p) ∙ at_drop_more (λ (q : Names). take j p ++ q) p j [] lt in
    let enters = names_enter (take j p) n rest (subst IsPath whole path) in
    let further : is_shown_dir (seen s (take j p ++ n ∷ [])) ≡ true = subst (λ (q : Names). is_shown_dir (seen s q) ≡ true) next (dirs (j + 1) (omega (arith, few))) in
    subst (λ (i : ℕ). way follow s (take i p) (drop i p) ≡ way follow s [] p) (add-one j)
    (ap (λ (q : Names). way follow s q rest) next
    ∙ sym (way_enters follow s (take j p) n rest (dirs j (omega (arith, few))) enters.0 enters.1 enters.2 ∙ goes_on _ _ _ (dir_is_end _ further))
    ∙ sym (at_drop_more (way follow s (take j p)) p j [] lt)
    ∙ way_dirs follow s p m path dirs j (omega (arith, within)) (omega (arith, few)))

-- from one of a path's directories the way by the next name leads to the next directory, and on by other words
way_on : (follow : Names → Names → Answer) (s : List Tree) (p : Names) (m : ℕ) → IsPath p → ((j : ℕ) → j < m → is_shown_dir (seen s (take j p)) ≡ true) → (j : ℕ) → j < length p → j + 1 < m → (ws : Names) → way follow s (take (j + 1) p) ws ≡ way follow s (take j p) (get_or p j [] ∷ ws)
way_on follow s p m path dirs j lt few ws =
    let n = get_or p j [] in
    let rest = drop (j + 1) p in
    let next : take (j + 1) p ≡ take j p ++ n ∷ [] = take_more p j [] lt in
    let whole : p ≡ take j p ++ n ∷ rest = sym (take-append-drop j p) ∙ at_drop_more (λ (q : Names). take j p ++ q) p j [] lt in
    let enters = names_enter (take j p) n rest (subst IsPath whole path) in
    let further : is_shown_dir (seen s (take j p ++ n ∷ [])) ≡ true = subst (λ (q : Names). is_shown_dir (seen s q) ≡ true) next (dirs (j + 1) few) in
    ap (λ (q : Names). way follow s q ws) next
    ∙ sym (way_enters follow s (take j p) n ws (dirs j (omega (arith, few))) enters.0 enters.1 enters.2 ∙ goes_on _ _ _ (dir_is_end _ further))

-- by a word that stands for the directory itself it stays there
way_stays : (follow : Names → Names → Answer) (s : List Tree) (place : Names) (w : List ℕ) (ws : Names) → is_shown_dir (seen s place) ≡ true → is_here w ≡ true → way follow s place ws ≡ way follow s place (w ∷ ws)
way_stays follow s place w ws directory here = sym (λ i.
    if not (directory i) then Err NotDir
    else if here i then way follow s place ws
    else if is_above w then way follow s (above place) ws
    else if is_too_long place w then Err BadPath
    else entered (λ target. follow (start_of place target) (words_of target ++ ws)) (way follow s (place ++ w ∷ []) ws) (seen s (place ++ w ∷ [])))

-- so it does by a word that is taken along
pub way_along : (follow : Names → Names → Answer) (s : List Tree) (p : Names) (m : ℕ) → IsPath p → ((j : ℕ) → j < m → is_shown_dir (seen s (take j p)) ≡ true) → (j : ℕ) → j < length p → j + 1 < m
    → (b : Bool) (k : ℕ) → k ≡ (if b then 1 else 0) → (n : List ℕ) → n ≡ get_or p j [] → (old new : Names) → TakesAlong n b old new → way follow s (take (j + k) p) new ≡ way follow s (take j p) old
way_along follow s p m path dirs j lt few true k is n name old new along =
    ap (λ (i : ℕ). way follow s (take (j + i) p) new) is
    ∙ way_on follow s p m path dirs j lt few new
    ∙ ap (way follow s (take j p)) (ap (λ (x : List ℕ). x ∷ new) (sym name) ∙ sym along)
way_along follow s p m path dirs j lt few false k is n name old new along =
    let still : j + k ≡ j = omega (arith, is) in
    ap (λ (i : ℕ). way follow s (take i p) new) still
    ∙ way_stays follow s (take j p) along.0 new (dirs j (omega (arith, few))) along.2
    ∙ ap (way follow s (take j p)) (sym along.1)

-- a name leads to the error that is met, where it leads to one before a symlink
met_error : (follow : Names → Names → Answer) (s : List Tree) (place : Names) (w : List ℕ) (ws : Names) (e : FsError)
    → (plain_error s (place ++ w ∷ []) ws ≡ Some e → way follow s (place ++ w ∷ []) ws ≡ Err e)
    → (d h a l : Bool) → h ≡ false → a ≡ false → l ≡ false → (o : Option Object)
    → (if not d then Some NotDir else met o (plain_error s (place ++ w ∷ []) ws)) ≡ Some e
    → ◌≡◌ {A = Answer} (if not d then Err NotDir else if h then way follow s place ws else if a then way follow s (above place) ws else if l then Err BadPath else entered (λ target. follow (start_of place target) (words_of target ++ ws)) (way follow s (place ++ w ∷ []) ws) o) (Err e)
met_error follow s place w ws e later false h a l here over long o is = let same : NotDir ≡ e = cc in ap (λ (x : FsError). Err x) same
met_error follow s place w ws e later true true a l here over long o is = absurd (cc)
met_error follow s place w ws e later true false true l here over long o is = absurd (cc)
met_error follow s place w ws e later true false false true here over long o is = absurd (cc)
met_error follow s place w ws e later true false false false here over long None is = let same : NotFound ≡ e = cc in ap (λ (x : FsError). Err x) same
met_error follow s place w ws e later true false false false here over long (Some (dir m)) is = later is
met_error follow s place w ws e later true false false false here over long (Some (file m b)) is = later is
met_error follow s place w ws e later true false false false here over long (Some (symlink t)) is = absurd (cc)

-- the way by a path's names has the error that is met before a symlink
way_refused : (follow : Names → Names → Answer) (s : List Tree) (rest front : Names) (e : FsError) → IsPath (front ++ rest) → plain_error s front rest ≡ Some e → way follow s front rest ≡ Err e
way_refused follow s [] front e ok is = absurd (cc)
way_refused follow s (n ∷ rest) front e ok is =
    let whole : (front ++ n ∷ []) ++ rest ≡ front ++ n ∷ rest = append_assoc front (n ∷ []) rest in
    let enters = names_enter front n rest ok in
    met_error follow s front n rest e (way_refused follow s rest (front ++ n ∷ []) e (subst IsPath (sym whole) ok)) (is_shown_dir (seen s front)) (is_here n) (is_above n) (is_too_long front n) enters.0 enters.1 enters.2 (seen s (front ++ n ∷ [])) is

-- the call answers the error that a path meets before a symlink
pub plain_answers : (s : List Tree) (p : Names) (x : FsError) (r : Answer) → IsPath p → IsErrAnd r (λ e. e ≡ x) → Some x ≡ plain_error s [] p → Answers (resolution s p) r
plain_answers s p x (Ok q) ok same is = absurd same
plain_answers s p x (Err e) ok same is = inr (way_refused (following 40 s) s p [] e ok (sym is ∙ ap (λ (y : FsError). Some y) (sym same)))

pub resolving_rules : (s : List Tree) → AreLayers s → (p : Names) → IsPath p → ResolvingRules s p
resolving_rules s ok p path = record {
  plain = λ e f. way_plain (following 40 s) s p [] path e f;
  ends = λ q root e. way_ends s ok root (following 40 s) (following_ends s ok root 40) p [] q (dir_is_end _ root) e;
}
