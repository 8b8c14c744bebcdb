-- Lists of records: what holds of each of them and of any two of them, and what is found, after each change.
use Rattle.std.proofs.Common.{◌≡◌, ℕ, Bool, true, false, true≢false, eqb, cond, List, [], ◌∷◌, ◌++◌, Option, Some, None, refl, sym, ap, ◌∙◌, subst, ◌+◌, length, arith}
use Rattle.std.specs.List.{AllByRecursion, find, list_any}
use Rattle.std.specs.Prelude.{if◌then◌else◌, ◌||◌, filter}
use Rattle.std.specs.Ordering.{is_lt}
use Rattle.std.proofs.lemmas.Bool.{eqb-true, or_parts, or_left, or_right}
use Rattle.std.specs.Option.{option_and_then}
use Rattle.snap_usage.specs.declared.usage.Usage.{Usage}
use Rattle.snap_lease.proofs.ListLemmas.{all-filter}
use Rattle.snap_record.specs.Labels.{Bytes}
use Rattle.snap_record.specs.declared.record.Content.{Content}
use Rattle.snap_record.specs.declared.record.Content.TheVariants.{View, Active, Committed}
use Rattle.snap_record.specs.declared.record.Record.{Record}
use Rattle.snap_call.specs.Records.{record_cmp, is_named, record_at, has_slot, is_slot, active_at, is_committed, committed_at, with_record, without_first, recharged, AllPairwise, is_active, open_count}

-- ---- any list

module _ {X : Type 0} where
  pub all-map : (P Q : X → Type 0) → ((x : X) → P x → Q x) → (xs : List X) → AllByRecursion P xs → AllByRecursion Q xs
  all-map P Q f [] all = tt
  all-map P Q f (x ∷ xs) all = (f x all.0, all-map P Q f xs all.1)

  pub all-each : (P : X → Type 0) → ((x : X) → P x) → (xs : List X) → AllByRecursion P xs
  all-each P f [] = tt
  all-each P f (x ∷ xs) = (f x, all-each P f xs)

  pub all-both : (P Q : X → Type 0) (xs : List X) → AllByRecursion P xs → AllByRecursion Q xs → AllByRecursion (λ x. P x × Q x) xs
  all-both P Q [] p q = tt
  all-both P Q (x ∷ xs) p q = ((p.0, q.0), all-both P Q xs p.1 q.1)

  pub all-append : (P : X → Type 0) (xs ys : List X) → AllByRecursion P xs → AllByRecursion P ys → AllByRecursion P (xs ++ ys)
  all-append P [] ys p q = q
  all-append P (x ∷ xs) ys p q = (p.0, all-append P xs ys p.1 q)

  pub some_same : (x y : X) → ◌≡◌ {A = Option X} (Some x) (Some y) → x ≡ y
  some_same x y e = cc

  pub none_some : (x : X) → ◌≡◌ {A = Option X} None (Some x) → ⊥
  none_some x e = cc

  -- what is found passes
  pub find-passes : (p : X → Bool) (xs : List X) (x : X) → find p xs ≡ Some x → p x ≡ true
  find-passes p [] x e = absurd (none_some x e)
  find-passes p (y ∷ ys) x e = by (p y) refl e (find-passes p ys x)
    where
      by : (b : Bool) → p y ≡ b → cond b (Some y) (find p ys) ≡ Some x → (find p ys ≡ Some x → p x ≡ true) → p x ≡ true
      by true is found next = subst (λ z. p z ≡ true) (some_same y x found) is
      by false is found next = next found

  -- what holds of each holds of what is found
  pub find-all : (P : X → Type 0) (p : X → Bool) (xs : List X) (x : X) → find p xs ≡ Some x → AllByRecursion P xs → P x
  find-all P p [] x e all = absurd (none_some x e)
  find-all P p (y ∷ ys) x e all = by (p y) e (λ found. find-all P p ys x found all.1)
    where
      by : (b : Bool) → cond b (Some y) (find p ys) ≡ Some x → (find p ys ≡ Some x → P x) → P x
      by true found next = subst P (some_same y x found) all.0
      by false found next = next found

  -- where none passes
  pub none-passes : (p : X → Bool) (xs : List X) → list_any p xs ≡ false → AllByRecursion (λ x. p x ≡ false) xs
  none-passes p [] e = tt
  none-passes p (x ∷ xs) e = let h = or_parts (p x) (list_any p xs) e in (h.0, none-passes p xs h.1)

  pub list_any-none : (p : X → Bool) (xs : List X) → AllByRecursion (λ x. p x ≡ false) xs → list_any p xs ≡ false
  list_any-none p [] all = refl
  list_any-none p (x ∷ xs) all = ap (λ b. b || list_any p xs) all.0 ∙ list_any-none p xs all.1

  -- then none is found
  pub find-any : (p : X → Bool) (xs : List X) (x : X) → list_any p xs ≡ false → find p xs ≡ Some x → ⊥
  find-any p xs x none e = true≢false (sym (find-passes p xs x e) ∙ find-all (λ y. p y ≡ false) p xs x e (none-passes p xs none))

  -- where none is found, none passes
  pub find-none : (p : X → Bool) (xs : List X) → find p xs ≡ None → AllByRecursion (λ x. p x ≡ false) xs
  find-none p [] e = tt
  find-none p (x ∷ xs) e = by (p x) refl e (find-none p xs)
    where
      by : (b : Bool) → p x ≡ b → cond b (Some x) (find p xs) ≡ None → (find p xs ≡ None → AllByRecursion (λ y. p y ≡ false) xs) → (p x ≡ false) × AllByRecursion (λ y. p y ≡ false) xs
      by true is found next = absurd (none_some x (sym found))
      by false is found next = (is, next found)

  -- where some pass, one is found
  pub found-any : (p : X → Bool) (xs : List X) → list_any p xs ≡ true → (x : X) × (find p xs ≡ Some x)
  found-any p xs e = by (find p xs) refl
    where
      by : (o : Option X) → find p xs ≡ o → (x : X) × (find p xs ≡ Some x)
      by None is = absurd (true≢false (sym e ∙ list_any-none p xs (find-none p xs is)))
      by (Some x) is = (x, is)

  -- where one of them passes, some pass
  pub all-any : (xs : List X) → AllByRecursion (λ x. (p : X → Bool) → p x ≡ true → list_any p xs ≡ true) xs
  all-any [] = tt
  all-any (x ∷ xs) = (
    λ p e. or_left (p x) (list_any p xs) e,
    all-map (λ y. (p : X → Bool) → p y ≡ true → list_any p xs ≡ true) (λ y. (p : X → Bool) → p y ≡ true → list_any p (x ∷ xs) ≡ true) (λ y h p e. or_right (p x) (list_any p xs) (h p e)) xs (all-any xs),
  )

  pub any-found : (p q : X → Bool) (xs : List X) (x : X) → find p xs ≡ Some x → q x ≡ true → list_any q xs ≡ true
  any-found p q xs x e is = find-all (λ y. (r : X → Bool) → r y ≡ true → list_any r xs ≡ true) p xs x e (all-any xs) q is

-- ---- those of a list that pass a test

module _ {X : Type 0} (keep : X → Bool) where
  -- what holds of each that passes
  pub all-kept : (P : X → Type 0) (xs : List X) → AllByRecursion (λ x. keep x ≡ true → P x) xs → AllByRecursion P (filter keep xs)
  all-kept P [] all = tt
  all-kept P (x ∷ xs) all = by (keep x) refl (all-kept P xs all.1)
    where
      by : (b : Bool) → keep x ≡ b → AllByRecursion P (filter keep xs) → AllByRecursion P (cond b (x ∷ filter keep xs) (filter keep xs))
      by true is next = (all.0 is, next)
      by false is next = next

  pub pairwise-filter : (R : X → X → Type 0) (xs : List X) → AllPairwise R xs → AllPairwise R (filter keep xs)
  pairwise-filter R [] all = tt
  pairwise-filter R (x ∷ xs) all =
      elim (keep x) as (λ b. AllPairwise R (cond b (x ∷ filter keep xs) (filter keep xs))) [ true ↦ (all-filter (R x) keep xs all.0, pairwise-filter R xs all.1) | false ↦ pairwise-filter R xs all.1 ]

  -- what is found and passes is found among them
  pub find-filter : (p : X → Bool) (xs : List X) (x : X) → keep x ≡ true → find p xs ≡ Some x → find p (filter keep xs) ≡ Some x
  find-filter p [] x is e = absurd (none_some x e)
  find-filter p (y ∷ ys) x is e = by (p y) refl e (find-filter p ys x is)
    where
      by : (b : Bool) → p y ≡ b → cond b (Some y) (find p ys) ≡ Some x → (find p ys ≡ Some x → find p (filter keep ys) ≡ Some x) → find p (filter keep (y ∷ ys)) ≡ Some x
      by true here found next =
          let kept : keep y ≡ true = ap keep (some_same y x found) ∙ is in
          ap (λ b. find p (cond b (y ∷ filter keep ys) (filter keep ys))) kept ∙ ap (λ b. cond b (Some y) (find p (filter keep ys))) here ∙ found
      by false past found next =
          elim (keep y) as (λ b. find p (cond b (y ∷ filter keep ys) (filter keep ys)) ≡ Some x) [ true ↦ ap (λ b. cond b (Some y) (find p (filter keep ys))) past ∙ next found | false ↦ next found ]

  -- a test that only those pass finds the same
  pub find-filter_same : (p : X → Bool) → ((x : X) → keep x ≡ false → p x ≡ false) → (xs : List X) → find p (filter keep xs) ≡ find p xs
  find-filter_same p out [] = refl
  find-filter_same p out (x ∷ xs) = by (keep x) refl (find-filter_same p out xs)
    where
      by : (b : Bool) → keep x ≡ b → find p (filter keep xs) ≡ find p xs → find p (cond b (x ∷ filter keep xs) (filter keep xs)) ≡ cond (p x) (Some x) (find p xs)
      by true is next = ap (λ o. cond (p x) (Some x) o) next
      by false is next = next ∙ sym (ap (λ b. cond b (Some x) (find p xs)) (out x is))

-- ---- a slot

-- the record, active in the slot and charged `to`
abbrev pub with_charge : ℕ → Usage → Record → Record
with_charge slot to r = record r { content = Active slot to }

-- a record that is active in a slot has no other
pub same_slot : (slot k : ℕ) (to : Usage) (c : Content) → has_slot slot c ≡ true → has_slot k (Active slot to) ≡ has_slot k c
same_slot slot k to (View layers) e = absurd (true≢false (sym e))
same_slot slot k to (Active s u) e = ap (λ (n : ℕ). eqb n k) (sym (eqb-true s slot e))
same_slot slot k to (Committed l u) e = absurd (true≢false (sym e))

-- the record that is active in a slot is in it
pub active_at-is_slot : (slot : ℕ) (rs : List Record) (r : Record) → active_at slot rs ≡ Some r → is_slot slot r ≡ true
active_at-is_slot slot rs r e = find-passes (is_slot slot) rs r e

pub active_at-all : (P : Record → Type 0) (slot : ℕ) (rs : List Record) (r : Record) → active_at slot rs ≡ Some r → AllByRecursion P rs → P r
active_at-all P slot rs r e all = find-all P (is_slot slot) rs r e all

-- ---- a key

pub record_at-is_named : (place : ℕ) (key : Bytes) (rs : List Record) (r : Record) → record_at place key rs ≡ Some r → is_named place key r ≡ true
record_at-is_named place key rs r e = find-passes (is_named place key) rs r e

pub record_at-all : (P : Record → Type 0) (place : ℕ) (key : Bytes) (rs : List Record) (r : Record) → record_at place key rs ≡ Some r → AllByRecursion P rs → P r
record_at-all P place key rs r e all = find-all P (is_named place key) rs r e all

-- the committed record of a key is the record of that key
abbrev pub if_committed : Record → Option Record
if_committed r = if is_committed r.content then Some r else None

pub committed-parts : (o : Option Record) (r : Record) → option_and_then if_committed o ≡ Some r → (o ≡ Some r) × (is_committed r.content ≡ true)
committed-parts None r e = absurd (none_some r e)
committed-parts (Some t) r e = by (is_committed t.content) refl e
  where
    by : (b : Bool) → is_committed t.content ≡ b → (if b then Some t else None) ≡ Some r → (Some t ≡ Some r) × (is_committed r.content ≡ true)
    by true is found = (found, subst (λ (z : Record). is_committed z.content ≡ true) (some_same t r found) is)
    by false is found = absurd (none_some r found)

pub committed-from : (o : Option Record) (r : Record) → o ≡ Some r → is_committed r.content ≡ true → option_and_then if_committed o ≡ Some r
committed-from o r e is = ap (option_and_then if_committed) e ∙ ap (λ b. if b then Some r else None) is

pub committed_at-record_at : (place : ℕ) (key : Bytes) (rs : List Record) (r : Record) → committed_at place key rs ≡ Some r → record_at place key rs ≡ Some r
committed_at-record_at place key rs r e = (committed-parts (record_at place key rs) r e).0

pub committed_at-is_named : (place : ℕ) (key : Bytes) (rs : List Record) (r : Record) → committed_at place key rs ≡ Some r → is_named place key r ≡ true
committed_at-is_named place key rs r e = record_at-is_named place key rs r (committed_at-record_at place key rs r e)

-- ---- one record more

module _ (r : Record) where
  pub all-with_record : (P : Record → Type 0) (rs : List Record) → P r → AllByRecursion P rs → AllByRecursion P (with_record r rs)
  all-with_record P [] here all = (here, tt)
  all-with_record P (t ∷ ts) here all =
      elim (is_lt (record_cmp r t)) as (λ b. AllByRecursion P (if b then r ∷ t ∷ ts else t ∷ with_record r ts)) [ true ↦ (here, all) | false ↦ (all.0, all-with_record P ts here all.1) ]

  pub pairwise-with_record : (R : Record → Record → Type 0) (rs : List Record) → AllByRecursion (R r) rs → AllByRecursion (λ t. R t r) rs → AllPairwise R rs → AllPairwise R (with_record r rs)
  pairwise-with_record R [] after before all = (tt, tt)
  pairwise-with_record R (t ∷ ts) after before all =
      elim (is_lt (record_cmp r t)) as (λ b. AllPairwise R (if b then r ∷ t ∷ ts else t ∷ with_record r ts)) [
        | true ↦ (after, all)
        | false ↦ (all-with_record (R t) ts before.0 all.0, pairwise-with_record R ts after.1 before.1 all.1)
      ]

  -- what is found among the others
  pub find-with_record : (p : Record → Bool) (rs : List Record) → p r ≡ false → find p (with_record r rs) ≡ find p rs
  find-with_record p [] other = ap (λ b. cond b (Some r) None) other
  find-with_record p (t ∷ ts) other =
      elim (is_lt (record_cmp r t)) as (λ b. find p (if b then r ∷ t ∷ ts else t ∷ with_record r ts) ≡ cond (p t) (Some t) (find p ts)) [
        | true ↦ ap (λ b. cond b (Some r) (find p (t ∷ ts))) other
        | false ↦ ap (λ o. cond (p t) (Some t) o) (find-with_record p ts other)
      ]

  -- it is found by a test that no other passes
  pub find-with_record_own : (p : Record → Bool) (rs : List Record) → p r ≡ true → list_any p rs ≡ false → find p (with_record r rs) ≡ Some r
  find-with_record_own p [] is none = rw is refl
  find-with_record_own p (t ∷ ts) is none = at (is_lt (record_cmp r t)) refl (p t) refl (find-with_record_own p ts is)
    where
      at : (b : Bool) → is_lt (record_cmp r t) ≡ b → (c : Bool) → p t ≡ c → (list_any p ts ≡ false → find p (with_record r ts) ≡ Some r) → find p (with_record r (t ∷ ts)) ≡ Some r
      at true lt c here next = rw lt (rw is refl)
      at false lt true here next = let f = rw here at none in absurd (true≢false f)
      at false lt false here next = rw lt (rw here (next (rw here at none)))

-- ---- without the first record that passes a test

module _ (p : Record → Bool) where
  pub all-without : (P : Record → Type 0) (rs : List Record) → AllByRecursion P rs → AllByRecursion P (without_first p rs)
  all-without P [] all = tt
  all-without P (r ∷ rs) all =
      elim (p r) as (λ b. AllByRecursion P (if b then rs else r ∷ without_first p rs)) [ true ↦ all.1 | false ↦ (all.0, all-without P rs all.1) ]

  pub pairwise-without : (R : Record → Record → Type 0) (rs : List Record) → AllPairwise R rs → AllPairwise R (without_first p rs)
  pairwise-without R [] all = tt
  pairwise-without R (r ∷ rs) all =
      elim (p r) as (λ b. AllPairwise R (if b then rs else r ∷ without_first p rs)) [ true ↦ all.1 | false ↦ (all-without (R r) rs all.0, pairwise-without R rs all.1) ]

  -- those that are left, beside the one that goes
  pub all-beside : (R : Record → Record → Type 0) (S : Record → Type 0) (rs : List Record) (r : Record) → find p rs ≡ Some r
      → ((t : Record) → R r t → S t) → ((t : Record) → R t r → S t) → AllPairwise R rs → AllByRecursion S (without_first p rs)
  all-beside R S [] r e after before all = absurd (none_some r e)
  all-beside R S (t ∷ ts) r e after before all = by (p t) e (λ found. all-beside R S ts r found after before all.1)
    where
      by : (b : Bool) → cond b (Some t) (find p ts) ≡ Some r → (find p ts ≡ Some r → AllByRecursion S (without_first p ts)) → AllByRecursion S (if b then ts else t ∷ without_first p ts)
      by true found next = all-map (R t) S (λ u h. after u (subst (λ z. R z u) (some_same t r found) h)) ts all.0
      by false found next = (before t (find-all (R t) p ts r found all.0), next found)

  -- what is found by another test, and doesn't pass this one, stays
  pub find-without : (q : Record → Bool) (rs : List Record) (r : Record) → p r ≡ false → find q rs ≡ Some r → find q (without_first p rs) ≡ Some r
  find-without q [] r out e = absurd (none_some r e)
  find-without q (t ∷ ts) r out e = by (q t) refl e (find-without q ts r out)
    where
      by : (c : Bool) → q t ≡ c → cond c (Some t) (find q ts) ≡ Some r → (find q ts ≡ Some r → find q (without_first p ts) ≡ Some r) → find q (without_first p (t ∷ ts)) ≡ Some r
      by true is found next =
          let apart : p t ≡ false = ap p (some_same t r found) ∙ out in
          ap (λ b. find q (if b then ts else t ∷ without_first p ts)) apart ∙ ap (λ c. cond c (Some t) (find q (without_first p ts))) is ∙ found
      by false is found next =
          elim (p t) as (λ b. find q (if b then ts else t ∷ without_first p ts) ≡ Some r) [ true ↦ found | false ↦ ap (λ c. cond c (Some t) (find q (without_first p ts))) is ∙ next found ]

  -- a test that doesn't find the one that goes finds what it found before
  pub find-without_other : (q : Record → Bool) (rs : List Record) (r : Record) → find p rs ≡ Some r → q r ≡ false → find q (without_first p rs) ≡ find q rs
  find-without_other q [] r e out = refl
  find-without_other q (t ∷ ts) r e out = by (p t) e (λ found. find-without_other q ts r found out)
    where
      by : (b : Bool) → cond b (Some t) (find p ts) ≡ Some r → (find p ts ≡ Some r → find q (without_first p ts) ≡ find q ts) → find q (if b then ts else t ∷ without_first p ts) ≡ cond (q t) (Some t) (find q ts)
      by true found next = ap (λ c. cond c (Some t) (find q ts)) (sym (ap q (some_same t r found) ∙ out))
      by false found next = ap (λ o. cond (q t) (Some t) o) (next found)

-- ---- the record of a slot charged anew

module _ (slot : ℕ) (to : Usage) where
  pub all-recharged : (P : Record → Type 0) (rs : List Record) → ((r : Record) → is_slot slot r ≡ true → P r → P (with_charge slot to r)) → AllByRecursion P rs → AllByRecursion P (recharged slot to rs)
  all-recharged P [] f all = tt
  all-recharged P (r ∷ rs) f all = by (is_slot slot r) refl (all-recharged P rs f all.1)
    where
      by : (b : Bool) → is_slot slot r ≡ b → AllByRecursion P (recharged slot to rs) → AllByRecursion P (if b then with_charge slot to r ∷ rs else r ∷ recharged slot to rs)
      by true is next = (f r is all.0, all.1)
      by false is next = (all.0, next)

  pub pairwise-recharged : (R : Record → Record → Type 0) (rs : List Record)
      → ((r t : Record) → is_slot slot r ≡ true → R r t → R (with_charge slot to r) t)
      → ((r t : Record) → is_slot slot t ≡ true → R r t → R r (with_charge slot to t))
      → AllPairwise R rs → AllPairwise R (recharged slot to rs)
  pairwise-recharged R [] f g all = tt
  pairwise-recharged R (r ∷ rs) f g all = by (is_slot slot r) refl (pairwise-recharged R rs f g all.1)
    where
      by : (b : Bool) → is_slot slot r ≡ b → AllPairwise R (recharged slot to rs) → AllPairwise R (if b then with_charge slot to r ∷ rs else r ∷ recharged slot to rs)
      by true is next = (all-map (R r) (R (with_charge slot to r)) (λ t. f r t is) rs all.0, all.1)
      by false is next = (all-recharged (R r) rs (λ t. g r t) all.0, next)

  -- what is found and isn't in the slot is found again, by a test that doesn't see the charge
  pub find-recharged : (p : Record → Bool) (rs : List Record) (r : Record) → ((t : Record) → p (with_charge slot to t) ≡ p t) → is_slot slot r ≡ false → find p rs ≡ Some r → find p (recharged slot to rs) ≡ Some r
  find-recharged p [] r same out e = absurd (none_some r e)
  find-recharged p (t ∷ ts) r same out e = by (p t) refl e (find-recharged p ts r same out)
    where
      by : (c : Bool) → p t ≡ c → cond c (Some t) (find p ts) ≡ Some r → (find p ts ≡ Some r → find p (recharged slot to ts) ≡ Some r) → find p (recharged slot to (t ∷ ts)) ≡ Some r
      by true is found next =
          let apart : is_slot slot t ≡ false = ap (is_slot slot) (some_same t r found) ∙ out in
          ap (λ b. find p (if b then with_charge slot to t ∷ ts else t ∷ recharged slot to ts)) apart ∙ ap (λ c. cond c (Some t) (find p (recharged slot to ts))) is ∙ found
      by false is found next =
          elim (is_slot slot t) as (λ b. find p (if b then with_charge slot to t ∷ ts else t ∷ recharged slot to ts) ≡ Some r) [
            | true ↦ ap (λ c. cond c (Some (with_charge slot to t)) (find p ts)) (same t ∙ is) ∙ found
            | false ↦ ap (λ c. cond c (Some t) (find p (recharged slot to ts))) is ∙ next found
          ]

-- ---- how many are active

-- one for an active record
abbrev pub active_one : Content → ℕ
active_one (Active slot charged) = 1
active_one content = 0

pub open_count-cons : (r : Record) (rs : List Record) → open_count (r ∷ rs) ≡ active_one r.content + open_count rs
open_count-cons r rs = by r.content
  where
    by : (c : Content) → length (cond (is_active c) (r ∷ filter (λ t. is_active t.content) rs) (filter (λ t. is_active t.content) rs)) ≡ active_one c + open_count rs
    by (View layers) = omega arith
    by (Active slot charged) = omega arith
    by (Committed layer usage) = omega arith
