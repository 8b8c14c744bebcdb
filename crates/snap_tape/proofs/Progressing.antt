-- How a tape is compared with its session's entries, one by one.
use Rattle.std.specs.Prelude.{slice_get}
use Rattle.std.proofs.Common.{◌≡◌, ◌≢◌, ℕ, zero, suc, ◌+◌, ◌<◌, ◌≤◌, true, false, List, [], ◌∷◌, ◌++◌, length, take, None, Some, refl, sym, ap, ◌∙◌, arith, add-one, length-append, append-nil}
use Rattle.std.proofs.Math.Seq.{take-suc, take-append_seam}
use Rattle.std.proofs.lemmas.List.{length-take-le, take-append-le, take_all}
use Rattle.std.proofs.lemmas.Option.{get_or_from_slice_get, slice_get-get_or, slice_get_past, slice_get_within}
use Rattle.snap_call.specs.declared.entry.Entry.{Entry}
use Rattle.std.specs.Prelude.{cond, ◌==◌, get_or, nat_lt}
use Rattle.std.proofs.lemmas.List.Elements.{filter_more}
use Rattle.std.proofs.lemmas.Bool.Decides.{nat_tests}
use Rattle.snap_call.specs.Journal.{session_entries}
use Rattle.snap_tape.specs.Sessions.{DiffersAt}
use Rattle.snap_tape.specs.Following.{HasFollowed}

-- ---- places in lists

pub slice_get-append : {A : Type 0} (xs ys : List A) (i : ℕ) → i < length xs → slice_get (xs ++ ys) i ≡ slice_get xs i
slice_get-append [] ys i h = absurd (omega arith)
slice_get-append (x ∷ xs) ys zero h = refl
slice_get-append (x ∷ xs) ys (suc i) h = slice_get-append xs ys i (omega arith)

pub slice_get-seam : {A : Type 0} (xs : List A) (y : A) → slice_get (xs ++ y ∷ []) (length xs) ≡ Some y
slice_get-seam [] y = refl
slice_get-seam (x ∷ xs) y = slice_get-seam xs y

take_one_more : {A : Type 0} (xs : List A) (i : ℕ) (x : A) → slice_get xs i ≡ Some x → take (i + 1) xs ≡ take i xs ++ x ∷ []
take_one_more xs i x e =
    rw add-one (take-suc xs i x (slice_get_within xs i x e) ∙ ap (λ y. take i xs ++ y ∷ []) (get_or_from_slice_get xs i x x e))

length-taken : {A : Type 0} (xs seen : List A) (n : ℕ) → take n xs ≡ seen → n ≤ length xs → length seen ≡ n
length-taken xs seen n e h = ap length (sym e) ∙ length-take-le n xs h

-- ---- one entry more

-- tape and entries differed before it
pub stays : (tape seen : List Entry) (place : ℕ) (e : Entry) → HasFollowed tape seen place true → HasFollowed tape (seen ++ e ∷ []) place true
stays tape seen place e h = (
  record {
    same = h.0.same ∙ sym (take-append-le place seen (e ∷ []) (omega (arith, h.1)));
    other = λ eq. h.0.other (eq ∙ slice_get-append seen (e ∷ []) place h.1);
  },
  omega (arith, h.1, length-append seen (e ∷ [])),
)

-- the tape has it too
pub goes : (tape seen : List Entry) (place : ℕ) (e : Entry) → slice_get tape place ≡ Some e → HasFollowed tape seen place false → HasFollowed tape (seen ++ e ∷ []) (place + 1) false
goes tape seen place e there h = (
  take_one_more tape place e there ∙ ap (λ l. l ++ e ∷ []) h.0,
  omega (arith, slice_get_within tape place e there),
)

-- the tape has another one, or none
pub parts : (tape seen : List Entry) (place : ℕ) (e : Entry) → slice_get tape place ≢ Some e → HasFollowed tape seen place false → HasFollowed tape (seen ++ e ∷ []) place true
parts tape seen place e ne h =
    let long : length seen ≡ place = length-taken tape seen place h.0 h.1 in (
      record {
        same = h.0 ∙ sym (ap (λ n. take n (seen ++ e ∷ [])) (sym long) ∙ take-append_seam seen (e ∷ []));
        other = λ eq. ne (eq ∙ (ap (λ n. slice_get (seen ++ e ∷ []) n) (sym long) ∙ slice_get-seam seen e));
      },
      omega (arith, long, length-append seen (e ∷ [])),
    )

-- ---- no more entries

-- the tape has more
pub longer : (tape seen : List Entry) (place : ℕ) → place < length tape → HasFollowed tape seen place false → DiffersAt tape seen place
longer tape seen place more h =
    let long : length seen ≡ place = length-taken tape seen place h.0 h.1 in
    record {
      same = h.0 ∙ sym (take_all place seen (omega (arith, long)));
      other = λ eq. absurd (omega (arith, more, past tape place (eq ∙ slice_get_past seen place (omega (arith, long)))));
    }
  where
    past : (xs : List Entry) (i : ℕ) → slice_get xs i ≡ None → length xs ≤ i
    past [] i e = omega arith
    past (x ∷ xs) zero e = absurd (cc)
    past (x ∷ xs) (suc i) e = omega (arith, past xs i e)

-- it has none left
pub equal : (tape seen : List Entry) (place : ℕ) → length tape ≤ place → HasFollowed tape seen place false → tape ≡ seen
equal tape seen place end h = sym (take_all place tape end) ∙ h.0

-- ---- one entry more of the journal

own_more : (journal : List Entry) (i : ℕ) (e : Entry) (n : ℕ) → i < length journal → e ≡ get_or journal i e → session_entries (take (i + 1) journal) n ≡ session_entries (take i journal) n ++ cond (e.session == n) (e ∷ []) []
own_more journal i e n h is =
    filter_more (λ x. x.session == n) journal i e h ∙ ap (λ (x : Entry). session_entries (take i journal) n ++ cond (x.session == n) (x ∷ []) []) (sym is)

-- it is the session's
pub own_yes : (journal : List Entry) (i : ℕ) (e : Entry) (n : ℕ) → i < length journal → e ≡ get_or journal i e → e.session ≡ n → session_entries (take (i + 1) journal) n ≡ session_entries (take i journal) n ++ e ∷ []
own_yes journal i e n h is same =
    let yes : (e.session == n) ≡ true = grind (arith, nat_tests) in
    own_more journal i e n h is ∙ ap (λ b. session_entries (take i journal) n ++ cond b (e ∷ []) []) yes

-- it is another's
pub own_no : (journal : List Entry) (i : ℕ) (e : Entry) (n : ℕ) → i < length journal → e ≡ get_or journal i e → e.session ≢ n → session_entries (take (i + 1) journal) n ≡ session_entries (take i journal) n
own_no journal i e n h is other =
    let no : (e.session == n) ≡ false = grind (arith, nat_tests) in
    own_more journal i e n h is ∙ (ap (λ b. session_entries (take i journal) n ++ cond b (e ∷ []) []) no ∙ append-nil (session_entries (take i journal) n))

-- ---- what stands at a place

-- another entry
pub other_there : (tape : List Entry) (place : ℕ) (copy e : Entry) → true ≡ nat_lt place (length tape) → copy ≡ get_or tape place copy → (copy ≡ e → ⊥) → slice_get tape place ≢ Some e
other_there tape place copy e within is ne eq =
    let there : slice_get tape place ≡ Some copy = slice_get-get_or tape place copy (grind (arith, nat_tests)) ∙ ap (λ (x : Entry). Some x) (sym is) in
    ne (cc)

-- none
pub none_there : (tape : List Entry) (place : ℕ) (e : Entry) → false ≡ nat_lt place (length tape) → slice_get tape place ≢ Some e
none_there tape place e past eq =
    let none : slice_get tape place ≡ None = slice_get_past tape place (grind (arith, nat_tests)) in
    absurd (cc)
