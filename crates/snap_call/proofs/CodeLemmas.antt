-- What the code's searches through the records find.
use Rattle.std.proofs.Common.{◌≡◌, ℕ, zero, suc, ◌+◌, ◌<◌, List, [], ◌∷◌, length, get_or, Bool, true, false, position, None, sym, refl, ap, ◌∙◌, arith}
use Rattle.std.proofs.lemmas.Iterator.Adapters.{position_from-zero}
use Rattle.std.specs.List.{position_from, insert}
use Rattle.snap_record.specs.declared.record.Record.{Record}
use Rattle.snap_call.specs.Records.{is_later, with_record}

-- an insertion before the first record that comes later
pub with_record_found : (r : Record) (rs : List Record) (i : ℕ) (d : Record) → i < length rs → is_later r (get_or rs i d) ≡ true → ((k : ℕ) → k < i → is_later r (get_or rs k d) ≡ false) → insert rs i r ≡ with_record r rs
with_record_found r [] i d lt here before = absurd (omega arith)
with_record_found r (t ∷ ts) zero d lt here before = rw here refl
with_record_found r (t ∷ ts) (suc i) d lt here before =
    let no : is_later r t ≡ false = before 0 (omega arith) in
    rw no (ap (λ l. t ∷ l) (with_record_found r ts i d (omega arith) here (λ k h. before (suc k) (omega arith))))

with_record_absent : (r : Record) (i : ℕ) (rs : List Record) → position_from (is_later r) i rs ≡ None → insert rs (length rs) r ≡ with_record r rs
with_record_absent r i [] e = refl
with_record_absent r i (t ∷ ts) e = at (is_later r t) refl (with_record_absent r (i + 1) ts)
  where
    at : (b : Bool) → is_later r t ≡ b → (position_from (is_later r) (i + 1) ts ≡ None → insert ts (length ts) r ≡ with_record r ts) → insert (t ∷ ts) (length (t ∷ ts)) r ≡ with_record r (t ∷ ts)
    at true is next = let f = rw is at e in absurd (cc)
    at false is next = let f = rw is at e in rw is (ap (λ l. t ∷ l) (next f))

pub with_record-None : (r : Record) (rs : List Record) → position (is_later r) rs ≡ None → insert rs (length rs) r ≡ with_record r rs
with_record-None r rs e = with_record_absent r 0 rs (sym (position_from-zero (is_later r) rs) ∙ e)
