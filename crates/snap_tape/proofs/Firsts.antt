-- The first mismatch of the sessions of one list and of another.
use Rattle.std.specs.Prelude.{slice_get, get_or, Any}
use Rattle.std.specs.List.{AllByRecursion}
use Rattle.std.proofs.Math.Seq.{take-suc}
use Rattle.std.proofs.Common.{◌≡◌, ℕ, zero, suc, ◌+◌, ◌<◌, ◌≤◌, List, [], ◌∷◌, ◌++◌, length, take, Option, None, Some, refl, sym, ap, ◌∙◌, arith, inl, inr, add-one, length-append}
use Rattle.std.proofs.lemmas.List.{get_or_append_left, get_or-append-add}
use Rattle.snap_call.specs.declared.entry.Entry.{Entry}
use Rattle.snap_call.specs.Journal.{session_entries}
use Rattle.snap_call.proofs.Lists.{all-append, all-map}
use Rattle.snap_tape.specs.Tapes.{SessionValue}
use Rattle.snap_tape.specs.Sessions.{DiffersAt, IsBound, IsFirst, IsFirstMismatch, IsMismatch, IsNotAfter, IsOwn}
use Rattle.snap_tape.specs.Following.{IsDifference}
use Rattle.snap_tape.specs.declared.mismatch.Mismatch.{Mismatch}

-- ---- lists

any_left : {A : Type 0} (P : A → Type 0) (xs ys : List A) → Any P xs → Any P (xs ++ ys)
any_left P xs ys h = (h.0, h.1, omega (arith, h.2, length-append xs ys), get_or_append_left xs ys h.1 h.0 h.2 ∙ h.3, h.4)

any_right : {A : Type 0} (P : A → Type 0) (xs ys : List A) → Any P ys → Any P (xs ++ ys)
any_right P xs ys h = (length xs + h.0, h.1, omega (arith, h.2, length-append xs ys), get_or-append-add xs ys h.0 h.1 ∙ h.3, h.4)

pub slice_get-take : {A : Type 0} (xs : List A) (n i : ℕ) → i < n → slice_get (take n xs) i ≡ slice_get xs i
slice_get-take xs zero i h = absurd (omega arith)
slice_get-take [] (suc n) i h = refl
slice_get-take (x ∷ xs) (suc n) zero h = refl
slice_get-take (x ∷ xs) (suc n) (suc i) h = slice_get-take xs n i (omega arith)

-- ---- one session

-- lists differ first at one place alone
no_later : (tape entries : List Entry) (p q : ℕ) → DiffersAt tape entries p → DiffersAt tape entries q → q < p → ⊥
no_later tape entries p q d e h =
    e.other (sym (slice_get-take tape p q h) ∙ (ap (λ l. slice_get l q) d.same ∙ slice_get-take entries p q h))

pub of_one : (journal : List Entry) (s : SessionValue) (place : ℕ) → IsDifference s.tape (session_entries journal s.number) (Some place) → IsFirstMismatch journal (s ∷ []) (Some (record { session = s.number; place = place }))
of_one journal s place d = record {
  there = (0, s, omega arith, refl, (refl, d));
  least = (bound, tt);
}
  where
    not_before : (q : ℕ) → DiffersAt s.tape (session_entries journal s.number) q → place ≤ q
    not_before q e = grind (arith, no_later s.tape (session_entries journal s.number) place q d e)

    bound : IsBound journal (record { session = s.number; place = place }) s
    bound q e = inr (refl, not_before q e)

-- a tape that is its session's own has no mismatch
bound_own : (journal : List Entry) (m : Mismatch) (s : SessionValue) → IsOwn journal s → IsBound journal m s
bound_own journal m s own_is place d = absurd (d.other (ap (λ l. slice_get l place) own_is))

-- ---- two lists

pub of_left : (journal : List Entry) (left right : List SessionValue) (m : Mismatch) → IsFirst journal left m → AllByRecursion (IsOwn journal) right → IsFirst journal (left ++ right) m
of_left journal left right m first rest = record {
  there = any_left (λ s. (s.number ≡ m.session) × IsMismatch journal m.place s) left right first.there;
  least = all-append (IsBound journal m) left right first.least (all-map (IsOwn journal) (IsBound journal m) (bound_own journal m) right rest);
}

pub of_right : (journal : List Entry) (left right : List SessionValue) (m : Mismatch) → AllByRecursion (IsOwn journal) left → IsFirst journal right m → IsFirst journal (left ++ right) m
of_right journal left right m rest first = record {
  there = any_right (λ s. (s.number ≡ m.session) × IsMismatch journal m.place s) left right first.there;
  least = all-append (IsBound journal m) left right (all-map (IsOwn journal) (IsBound journal m) (bound_own journal m) left rest) first.least;
}

not_after-trans : (m n o : Mismatch) → IsNotAfter m n → IsNotAfter n o → IsNotAfter m o
not_after-trans m n o (inl a) (inl b) = inl (omega (arith, a, b))
not_after-trans m n o (inl a) (inr b) = inl (omega (arith, a, b.0))
not_after-trans m n o (inr a) (inl b) = inl (omega (arith, a.0, b))
not_after-trans m n o (inr a) (inr b) = inr (a.0 ∙ b.0, omega (arith, a.1, b.1))

weaker : (journal : List Entry) (m n : Mismatch) → IsNotAfter m n → (s : SessionValue) → IsBound journal n s → IsBound journal m s
weaker journal m n le s bound place d = not_after-trans m n (record { session = s.number; place = place }) le (bound place d)

pub lesser_left : (journal : List Entry) (left right : List SessionValue) (m n : Mismatch) → IsNotAfter m n → IsFirst journal left m → IsFirst journal right n → IsFirst journal (left ++ right) m
lesser_left journal left right m n le first other = record {
  there = any_left (λ s. (s.number ≡ m.session) × IsMismatch journal m.place s) left right first.there;
  least = all-append (IsBound journal m) left right first.least (all-map (IsBound journal n) (IsBound journal m) (weaker journal m n le) right other.least);
}

pub lesser_right : (journal : List Entry) (left right : List SessionValue) (m n : Mismatch) → IsNotAfter n m → IsFirst journal left m → IsFirst journal right n → IsFirst journal (left ++ right) n
lesser_right journal left right m n le first other = record {
  there = any_right (λ s. (s.number ≡ n.session) × IsMismatch journal n.place s) left right other.there;
  least = all-append (IsBound journal n) left right (all-map (IsBound journal m) (IsBound journal n) (weaker journal n m le) left first.least) other.least;
}

pub both : (journal : List Entry) (left right : List SessionValue) → AllByRecursion (IsOwn journal) left → AllByRecursion (IsOwn journal) right → AllByRecursion (IsOwn journal) (left ++ right)
both journal left right a b = all-append (IsOwn journal) left right a b

-- ---- by what was found

pub of_both : (journal : List Entry) (left right : List SessionValue) (m : Option Mismatch) → AllByRecursion (IsOwn journal) left → IsFirstMismatch journal right m → IsFirstMismatch journal (left ++ right) m
of_both journal left right None a b = both journal left right a b
of_both journal left right (Some m) a b = of_right journal left right m a b

-- ---- one session more

pub taken_more : (sessions : List SessionValue) (i : ℕ) (s : SessionValue) → i < length sessions → s ≡ get_or sessions i s → take (i + 1) sessions ≡ take i sessions ++ s ∷ []
taken_more sessions i s h is = rw add-one (take-suc sessions i s h ∙ ap (λ (x : SessionValue). take i sessions ++ x ∷ []) (sym is))
