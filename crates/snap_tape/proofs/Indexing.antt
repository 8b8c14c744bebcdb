-- The places of sessions by their numbers.
use Rattle.std.specs.Prelude.{slice_get, get_or, slice_index_or, All, count_by, option_and_then, IsSome, ◌==◌, cond}
use Rattle.std.proofs.Common.{◌≡◌, ◌≢◌, ◌⊎◌, inl, inr, ℕ, zero, suc, ◌+◌, ◌<◌, ◌≤◌, true, false, List, [], ◌∷◌, ◌++◌, length, take, drop, set, replicate, Option, None, Some, refl, sym, ap, ◌∙◌, subst, arith, add-one, append-nil, length-set}
use Rattle.std.proofs.Math.Seq.{take-append_seam, take-suc}
use Rattle.std.proofs.lemmas.Bool.Decides.{nat_tests}
use Rattle.std.proofs.lemmas.List.Elements.{filter-append, recursion_from_All}
use Rattle.std.proofs.lemmas.List.{length-take, length-take-le}
use Rattle.std.proofs.lemmas.Option.{get_or_from_slice_get, slice_get-get_or, slice_get_within}
use Rattle.snap_call.specs.declared.entry.Entry.{Entry}
use Rattle.snap_call.specs.Journal.{session_entries}
use Rattle.snap_tape.specs.Tapes.{SessionValue}
use Rattle.snap_tape.specs.Sessions.{AreOnce, has_session_number}
use Rattle.snap_tape.specs.Following.{AreFollowed, AreIndexes, IsProgress, index_in}
use Rattle.snap_tape.specs.declared.mismatch.Progress.{Progress}
use Rattle.snap_tape.proofs.Counting.{all-there, one_alone, once_counted, stands}
use Rattle.snap_tape.proofs.Firsts.{slice_get-take, taken_more}
use Rattle.snap_tape.proofs.Progressing.{slice_get-append, slice_get-seam}

-- ---- lists

-- a list that a slice of it was written back to
pub written_back : {A : Type 0} (n : ℕ) (new was : List A) → length new ≡ n → take n (new ++ drop (length new) was) ≡ new
written_back n new was e = subst (λ k. take k (new ++ drop (length new) was) ≡ new) e (take-append_seam new (drop (length new) was))

slice_get-set_same : {A : Type 0} (xs : List A) (i : ℕ) (x : A) → i < length xs → slice_get (set xs i x) i ≡ Some x
slice_get-set_same [] i x h = absurd (omega arith)
slice_get-set_same (y ∷ ys) zero x h = refl
slice_get-set_same (y ∷ ys) (suc i) x h = slice_get-set_same ys i x (omega arith)

slice_get-set_other : {A : Type 0} (xs : List A) (i j : ℕ) (x : A) → j ≢ i → slice_get (set xs i x) j ≡ slice_get xs j
slice_get-set_other [] i j x ne = refl
slice_get-set_other (y ∷ ys) zero zero x ne = absurd (ne refl)
slice_get-set_other (y ∷ ys) zero (suc j) x ne = refl
slice_get-set_other (y ∷ ys) (suc i) zero x ne = refl
slice_get-set_other (y ∷ ys) (suc i) (suc j) x ne = slice_get-set_other ys i j x (λ e. ne (ap suc e))

-- an element of a list with one more is one of the list, or the one more
snoc_cases : {A : Type 0} (xs : List A) (y : A) (j : ℕ) (t : A) → slice_get (xs ++ y ∷ []) j ≡ Some t → (slice_get xs j ≡ Some t) ⊎ ((j ≡ length xs) × (t ≡ y))
snoc_cases [] y zero t e = inr (refl, cc)
snoc_cases [] y (suc j) t e = absurd (cc)
snoc_cases (x ∷ xs) y zero t e = inl e
snoc_cases (x ∷ xs) y (suc j) t e = by (snoc_cases xs y j t e)
  where
    by : (slice_get xs j ≡ Some t) ⊎ ((j ≡ length xs) × (t ≡ y)) → (slice_get xs j ≡ Some t) ⊎ ((suc j ≡ length (x ∷ xs)) × (t ≡ y))
    by (inl h) = inl h
    by (inr h) = inr (omega (arith, h.0), h.1)

same_or_not : (a b : ℕ) → (a ≡ b) ⊎ (a ≢ b)
same_or_not zero zero = inl refl
same_or_not zero (suc b) = inr (λ e. absurd (omega (arith, e)))
same_or_not (suc a) zero = inr (λ e. absurd (omega (arith, e)))
same_or_not (suc a) (suc b) = by (same_or_not a b)
  where
    by : (a ≡ b) ⊎ (a ≢ b) → (suc a ≡ suc b) ⊎ (suc a ≢ suc b)
    by (inl e) = inl (ap suc e)
    by (inr ne) = inr (λ e. ne (omega (arith, e)))

-- ---- one session more

index_of-held : (indexes : List (Option ℕ)) (n i : ℕ) → index_in indexes n ≡ Some i → slice_get indexes n ≡ Some (Some i)
index_of-held indexes n i e = by (slice_get indexes n) refl
  where
    by : (o : Option (Option ℕ)) → slice_get indexes n ≡ o → slice_get indexes n ≡ Some (Some i)
    by None is = absurd (none (sym e ∙ ap (λ o. option_and_then (λ index. index) o) is))
      where
        none : Some i ≡ None → ⊥
        none h = absurd (cc)
    by (Some o) is = is ∙ ap (λ p. Some p) (sym (ap (λ q. option_and_then (λ index. index) q) is) ∙ e)

pub index_more : (seen : List SessionValue) (indexes : List (Option ℕ)) (s : SessionValue) → AreIndexes seen indexes → slice_get indexes s.number ≡ Some None → AreIndexes (seen ++ s ∷ []) (set indexes s.number (Some (length seen)))
index_more seen indexes s at free = record { index = index; held = held }
  where
    within : s.number < length indexes
    within = slice_get_within indexes s.number None free

    vacant : index_in indexes s.number ≡ None
    vacant = ap (λ o. option_and_then (λ index. index) o) free

    after : List (Option ℕ)
    after = set indexes s.number (Some (length seen))

    here : index_in (set indexes s.number (Some (length seen))) s.number ≡ Some (length seen)
    here = ap (λ o. option_and_then (λ index. index) o) (slice_get-set_same indexes s.number (Some (length seen)) within)

    elsewhere : (n : ℕ) → n ≢ s.number → index_in (set indexes s.number (Some (length seen))) n ≡ index_in indexes n
    elsewhere n ne = ap (λ o. option_and_then (λ index. index) o) (slice_get-set_other indexes s.number n (Some (length seen)) ne)

    index : (i : ℕ) (t : SessionValue) → slice_get (seen ++ s ∷ []) i ≡ Some t → index_in (set indexes s.number (Some (length seen))) t.number ≡ Some i
    index i t e = by (snoc_cases seen s i t e)
      where
        by : (slice_get seen i ≡ Some t) ⊎ ((i ≡ length seen) × (t ≡ s)) → index_in (set indexes s.number (Some (length seen))) t.number ≡ Some i
        by (inl h) = elsewhere t.number (λ same. absurd (differ same)) ∙ at.index i t h
          where
            differ : t.number ≡ s.number → ⊥
            differ same = let e : Some i ≡ None = sym (at.index i t h) ∙ (ap (λ n. index_in indexes n) same ∙ vacant) in absurd (cc)
        by (inr h) = ap (λ (x : SessionValue). index_in (set indexes s.number (Some (length seen))) x.number) h.1 ∙ (here ∙ ap (λ n. Some n) (sym h.0))

    held : (n i : ℕ) → index_in (set indexes s.number (Some (length seen))) n ≡ Some i → (t : SessionValue) × (slice_get (seen ++ s ∷ []) i ≡ Some t) × (t.number ≡ n)
    held n i e = by (same_or_not n s.number)
      where
        by : (n ≡ s.number) ⊎ (n ≢ s.number) → (t : SessionValue) × (slice_get (seen ++ s ∷ []) i ≡ Some t) × (t.number ≡ n)
        by (inl same) = (s, ap (λ k. slice_get (seen ++ s ∷ []) k) last ∙ slice_get-seam seen s, sym same)
          where
            last : i ≡ length seen
            last = let f : Some i ≡ Some (length seen) = sym e ∙ (ap (λ k. index_in (set indexes s.number (Some (length seen))) k) same ∙ here) in cc
        by (inr ne) =
            let h = at.held n i (sym (elsewhere n ne) ∙ e) in
            (h.0, slice_get-append seen (s ∷ []) i (slice_get_within seen i h.0 h.1) ∙ h.1, h.2)

pub no_indexes : (n : ℕ) → AreIndexes [] (replicate n None)
no_indexes n = record { index = λ i s e. absurd (cc); held = λ m i e. absurd (none m n i e) }
  where
    none : (m n i : ℕ) → index_in (replicate n None) m ≡ Some i → ⊥
    none m zero i e = absurd (cc)
    none zero (suc n) i e = absurd (cc)
    none (suc m) (suc n) i e = none m n i e

-- ---- sessions that aren't each there once

pub outside : (sessions : List SessionValue) (i : ℕ) (s : SessionValue) → slice_get sessions i ≡ Some s → length sessions ≤ s.number → AreOnce sessions → ⊥
outside sessions i s there over once =
    absurd (omega (arith, over, all-there (λ x. x.number < length sessions) sessions i s there once.inside))

pub passes : (n : ℕ) (s : SessionValue) → s.number ≡ n → has_session_number n s ≡ true
passes n s e = grind (arith, nat_tests)

pub passed : (n : ℕ) (s : SessionValue) → has_session_number n s ≡ true → s.number ≡ n
passed n s e = grind (arith, nat_tests)

pub twice : (sessions : List SessionValue) (i k : ℕ) (s t : SessionValue) → slice_get sessions i ≡ Some s → slice_get sessions k ≡ Some t → t.number ≡ s.number → i ≢ k → AreOnce sessions → ⊥
twice sessions i k s t at_i at_k same ne once =
    let inside = all-there (λ x. x.number < length sessions) sessions i s at_i once.inside in
    ne (one_alone (has_session_number s.number) sessions i k s t (once.once s.number inside) at_i at_k (passes s.number s refl) (passes s.number t same))

pub missing : (sessions : List SessionValue) (indexes : List (Option ℕ)) (n : ℕ) → AreIndexes sessions indexes → n < length sessions → index_in indexes n ≡ None → AreOnce sessions → ⊥
missing sessions indexes n at low none once =
    let found = stands (has_session_number n) sessions (omega (arith, once.once n low)) in
    let e : Some found.0 ≡ None = sym (at.index found.0 found.1 found.2) ∙ (ap (λ m. index_in indexes m) (passed n found.1 found.3) ∙ none) in
    absurd (cc)

none_past : {A : Type 0} (xs : List A) (i : ℕ) → slice_get xs i ≡ None → length xs ≤ i
none_past [] i e = omega arith
none_past (x ∷ xs) zero e = absurd (cc)
none_past (x ∷ xs) (suc i) e = omega (arith, none_past xs i e)

pub refused : (sessions : List SessionValue) (i : ℕ) (s : SessionValue) (indexes : List (Option ℕ)) → AreIndexes (take i sessions) indexes → length indexes ≡ length sessions → slice_get sessions i ≡ Some s
    → (slice_get indexes s.number ≡ Some None → ⊥) → AreOnce sessions → ⊥
refused sessions i s indexes at size there ne once = by (slice_get indexes s.number) refl
  where
    by : (o : Option (Option ℕ)) → slice_get indexes s.number ≡ o → ⊥
    by None e = outside sessions i s there (omega (arith, size, none_past indexes s.number e)) once
    by (Some None) e = ne e
    by (Some (Some k)) e =
        let held = at.held s.number k (ap (λ o. option_and_then (λ index. index) o) e) in
        let low : k < i = omega (arith, slice_get_within (take i sessions) k held.0 held.1, length-take i sessions) in
        twice sessions i k s held.0 there (sym (slice_get-take sessions i k low) ∙ held.1) held.2 (λ same. absurd (omega (arith, same, low))) once

pub indexed_more : (sessions : List SessionValue) (i : ℕ) (s : SessionValue) (indexes : List (Option ℕ)) → i < length sessions → s ≡ get_or sessions i s → AreIndexes (take i sessions) indexes → slice_get indexes s.number ≡ Some None
    → AreIndexes (take (i + 1) sessions) (set indexes s.number (Some i))
indexed_more sessions i s indexes low is at free =
    let long : length (take i sessions) ≡ i = length-take-le i sessions (omega arith) in
    subst (λ l. AreIndexes l (set indexes s.number (Some i))) (sym (taken_more sessions i s low is))
    (subst (λ k. AreIndexes (take i sessions ++ s ∷ []) (set indexes s.number (Some k))) long (index_more (take i sessions) indexes s at free))

-- ---- sessions that are

taken_at : (o : Option ℕ) → IsSome o → (i : ℕ) × (o ≡ Some i)
taken_at None h = absurd (cc)
taken_at (Some i) h = (i, refl)

pub taken_index : (indexes : List (Option ℕ)) (m : ℕ) → length indexes ≡ m → All (λ index. IsSome index) indexes → (n : ℕ) → n < m → (i : ℕ) × (index_in indexes n ≡ Some i)
taken_index indexes m size all n low =
    let h : n < length indexes = omega arith in
    let found = taken_at (get_or indexes n None) (all n None h) in
    (found.0, ap (λ o. option_and_then (λ index. index) o) (slice_get-get_or indexes n None h) ∙ found.1)

is_taken : (o : Option ℕ) (i : ℕ) → o ≡ Some i → IsSome o
is_taken None i e = absurd (cc)
is_taken (Some j) i e = refl

pub all_taken : (sessions : List SessionValue) (indexes : List (Option ℕ)) → AreIndexes sessions indexes → length indexes ≡ length sessions → AreOnce sessions → All (λ index. IsSome index) indexes
all_taken sessions indexes at size once k d h =
    let found = stands (has_session_number k) sessions (omega (arith, once.once k (omega arith))) in
    let index = at.index found.0 found.1 found.2 in
    let held = index_of-held indexes k found.0 (subst (λ n. index_in indexes n ≡ Some found.0) (passed k found.1 found.3) index) in
    is_taken (get_or indexes k d) found.0 (get_or_from_slice_get indexes k (Some found.0) d held)

pub indexed_once : (sessions : List SessionValue) (indexes : List (Option ℕ)) → AreIndexes sessions indexes → length indexes ≡ length sessions → ((n : ℕ) → n < length sessions → (i : ℕ) × (index_in indexes n ≡ Some i)) → AreOnce sessions
indexed_once sessions indexes at size full = record { inside = recursion_from_All (λ s. s.number < length sessions) sessions inside; once = once }
  where
    inside : (k : ℕ) (d : SessionValue) → k < length sessions → (slice_index_or sessions k d).number < length sessions
    inside k d h =
        let there = slice_get-get_or sessions k d h in
        let held = index_of-held indexes (slice_index_or sessions k d).number k (at.index k (slice_index_or sessions k d) there) in
        omega (arith, size, slice_get_within indexes (slice_index_or sessions k d).number (Some k) held)

    once : (n : ℕ) → n < length sessions → count_by (has_session_number n) sessions ≡ 1
    once n low =
        let mine = full n low in
        let held = at.held n mine.0 mine.1 in
        once_counted (has_session_number n) sessions mine.0 held.0 held.1 (passes n held.0 held.2)
        (λ k t there pass. alone mine.0 mine.1 k t there (passed n t pass))
      where
        alone : (i : ℕ) → index_in indexes n ≡ Some i → (k : ℕ) (t : SessionValue) → slice_get sessions k ≡ Some t → t.number ≡ n → k ≡ i
        alone i index k t there is =
            let e : Some k ≡ Some i = sym (at.index k t there) ∙ (ap (λ m. index_in indexes m) is ∙ index) in
            cc

-- ---- one entry more of the journal

own_append : (seen : List Entry) (e : Entry) (n : ℕ) → session_entries (seen ++ e ∷ []) n ≡ session_entries seen n ++ cond (e.session == n) (e ∷ []) []
own_append seen e n = filter-append (λ x. x.session == n) seen (e ∷ [])

own_its : (seen : List Entry) (e : Entry) (n : ℕ) → n ≡ e.session → session_entries (seen ++ e ∷ []) n ≡ session_entries seen n ++ e ∷ []
own_its seen e n same =
    let yes : (e.session == n) ≡ true = grind (arith, nat_tests) in
    own_append seen e n ∙ ap (λ b. session_entries seen n ++ cond b (e ∷ []) []) yes

own_others : (seen : List Entry) (e : Entry) (n : ℕ) → n ≢ e.session → session_entries (seen ++ e ∷ []) n ≡ session_entries seen n
own_others seen e n other =
    let no : (e.session == n) ≡ false = grind (arith, nat_tests) in
    own_append seen e n ∙ (ap (λ b. session_entries seen n ++ cond b (e ∷ []) []) no ∙ append-nil (session_entries seen n))

-- no session has its number
pub follow_none : (sessions : List SessionValue) (indexes : List (Option ℕ)) (progress : List Progress) (e : Entry) → AreIndexes sessions indexes → index_in indexes e.session ≡ None → (seen : List Entry) → AreFollowed seen sessions progress → AreFollowed (seen ++ e ∷ []) sessions progress
follow_none sessions indexes progress e at none seen followed = record { size = followed.size; each = each }
  where
    each : (i : ℕ) (s : SessionValue) (p : Progress) → slice_get sessions i ≡ Some s → slice_get progress i ≡ Some p → IsProgress s.tape (session_entries (seen ++ e ∷ []) s.number) p
    each i s p there here = subst (λ (l : List Entry). IsProgress s.tape l p) (sym (own_others seen e s.number differ)) (followed.each i s p there here)
      where
        differ : s.number ≡ e.session → ⊥
        differ same = let f : Some i ≡ None = sym (at.index i s there) ∙ (ap (λ n. index_in indexes n) same ∙ none) in absurd (cc)

-- the session at a place has it
pub follow_one : (sessions : List SessionValue) (indexes : List (Option ℕ)) (progress : List Progress) (e : Entry) (k : ℕ) (t : SessionValue) (p q : Progress)
    → AreIndexes sessions indexes → index_in indexes e.session ≡ Some k → slice_get sessions k ≡ Some t → slice_get progress k ≡ Some p
    → ((seen : List Entry) → IsProgress t.tape seen p → IsProgress t.tape (seen ++ e ∷ []) q)
    → (seen : List Entry) → AreFollowed seen sessions progress → AreFollowed (seen ++ e ∷ []) sessions (set progress k q)
follow_one sessions indexes progress e k t p q at index there here next seen followed = record { size = length-set progress k q ∙ followed.size; each = each }
  where
    its : t.number ≡ e.session
    its =
        let held = at.held e.session k index in
        let f : Some held.0 ≡ Some t = sym held.1 ∙ there in
        let same : held.0 ≡ t = cc in
        ap (λ (x : SessionValue). x.number) (sym same) ∙ held.2

    now : slice_get (set progress k q) k ≡ Some q
    now = slice_get-set_same progress k q (slice_get_within progress k p here)

    mine : IsProgress t.tape (session_entries (seen ++ e ∷ []) t.number) q
    mine = subst (λ (l : List Entry). IsProgress t.tape l q) (sym (own_its seen e t.number its)) (next (session_entries seen t.number) (followed.each k t p there here))

    each : (i : ℕ) (s : SessionValue) (r : Progress) → slice_get sessions i ≡ Some s → slice_get (set progress k q) i ≡ Some r → IsProgress s.tape (session_entries (seen ++ e ∷ []) s.number) r
    each i s r at_i is_r = by (same_or_not i k)
      where
        by : (i ≡ k) ⊎ (i ≢ k) → IsProgress s.tape (session_entries (seen ++ e ∷ []) s.number) r
        by (inl same) =
            let f : Some s ≡ Some t = sym at_i ∙ (ap (λ j. slice_get sessions j) same ∙ there) in
            let g : Some r ≡ Some q = sym is_r ∙ (ap (λ j. slice_get (set progress k q) j) same ∙ now) in
            let is_s : t ≡ s = cc in
            let is_q : q ≡ r = cc in
            subst (λ (x : Progress). IsProgress s.tape (session_entries (seen ++ e ∷ []) s.number) x) is_q (subst (λ (x : SessionValue). IsProgress x.tape (session_entries (seen ++ e ∷ []) x.number) q) is_s mine)
        by (inr ne) =
            subst (λ (l : List Entry). IsProgress s.tape l r) (sym (own_others seen e s.number (differ ne)))
            (followed.each i s r at_i (sym (slice_get-set_other progress k i q ne) ∙ is_r))
          where
            differ : i ≢ k → s.number ≡ e.session → ⊥
            differ ne same =
                let f : Some i ≡ Some k = sym (at.index i s at_i) ∙ (ap (λ n. index_in indexes n) same ∙ index) in
                ne (cc)

-- no entry yet
pub follow_start : (sessions : List SessionValue) (progress : List Progress) → length progress ≡ length sessions → All (λ (p : Progress). (tape : List Entry) → IsProgress tape [] p) progress → AreFollowed [] sessions progress
follow_start sessions progress size all = record {
  size = size;
  each = λ i s p there here. subst (λ (x : Progress). IsProgress s.tape [] x) (get_or_from_slice_get progress i p p here) (all i p (slice_get_within progress i p here) s.tape);
}

pub entries_more : (journal : List Entry) (i : ℕ) (e : Entry) → i < length journal → e ≡ get_or journal i e → take (i + 1) journal ≡ take i journal ++ e ∷ []
entries_more journal i e h is = rw add-one (take-suc journal i e h ∙ ap (λ (x : Entry). take i journal ++ x ∷ []) (sym is))
