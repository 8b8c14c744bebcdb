-- What each change of the records does to the charge of a namespace.
use Rattle.std.proofs.Common.{◌≡◌, ◌≢◌, ℕ, List, [], ◌∷◌, Bool, true, false, not, cond, Some, eq-eqb, refl, sym, ap, ◌∙◌, subst, ⊎_elim, arith}
use Rattle.std.proofs.lemmas.Bool.Decides.{eqb_tells}
use Rattle.std.specs.Prelude.{◌==◌, if◌then◌else◌, Option, find, filter}
use Rattle.std.specs.List.{AllByRecursion}
use Rattle.std.specs.Ordering.{is_lt}
use Rattle.snap_layer.specs.Tree.{Tree}
use Rattle.snap_usage.specs.declared.usage.Usage.{Usage}
use Rattle.snap_usage.specs.Counted.{count_of, Covers, no_usage}
use Rattle.snap_ledger.specs.States.{plus, minus}
use Rattle.snap_record.specs.Labels.{Bytes, Label}
use Rattle.snap_record.specs.Records.{usage_of}
use Rattle.snap_record.specs.declared.record.Content.TheVariants.{Active}
use Rattle.snap_record.specs.declared.record.Record.{Record}
use Rattle.snap_call.specs.Records.{record_cmp, is_slot, active_at, charge_of, with_record, without_first, without_slot, recharged, committed_as}

-- what the record adds to the charge of the namespace at this place
abbrev pub part_of : ℕ → Record → Usage
part_of place r = if r.namespace == place then usage_of r.content else no_usage

-- the namespace's charge, once the record is charged `to`
abbrev pub charge_with : Record → Usage → List Record → Usage
charge_with r to rs = plus (minus (charge_of r.namespace rs) (usage_of r.content)) to

-- two usages are one where both quantities agree
pub usage : (u v : Usage) → u.blocks ≡ v.blocks → u.inodes ≡ v.inodes → u ≡ v
usage u v p q = λ i. record { blocks = p i; inodes = q i }

pub blocks : {u v : Usage} → u ≡ v → u.blocks ≡ v.blocks
blocks e = ap (λ (u : Usage). u.blocks) e

pub inodes : {u v : Usage} → u ≡ v → u.inodes ≡ v.inodes
inodes e = ap (λ (u : Usage). u.inodes) e

pub plus-none : (u : Usage) → plus u no_usage ≡ u
plus-none u = usage _ _ (omega arith) (omega arith)

pub none-plus : (u : Usage) → plus no_usage u ≡ u
none-plus u = usage _ _ (omega arith) (omega arith)

pub plus-turned : (u v : Usage) → plus u v ≡ plus v u
plus-turned u v = usage _ _ (omega arith) (omega arith)

pub plus-joined : (u v w : Usage) → plus u (plus v w) ≡ plus (plus u v) w
plus-joined u v w = usage _ _ (omega arith) (omega arith)

-- what is left of a sum without its second part is the first one
pub minus-plus : (u v : Usage) → minus (plus u v) v ≡ u
minus-plus u v = usage _ _ (omega arith) (omega arith)

pub Covers-plus : (u v : Usage) → Covers (plus u v) v
Covers-plus u v = record { blocks = omega arith; inodes = omega arith }

-- a record is a part of its own namespace's charge alone
pub part_of-own : (r : Record) → part_of r.namespace r ≡ usage_of r.content
part_of-own r = rw (eq-eqb r.namespace r.namespace refl) refl

pub part_of-other : (place : ℕ) (r : Record) → place ≢ r.namespace → part_of place r ≡ no_usage
part_of-other place r ne =
    ⊎_elim
    (λ (h : ((r.namespace == place) ≡ true) × (r.namespace ≡ place)). absurd (ne (sym h.1)))
    (λ (h : ((r.namespace == place) ≡ false) × (r.namespace ≢ place)). rw h.0 refl)
    (eqb_tells r.namespace place)

-- one record more
pub charge_of-with_record : (place : ℕ) (r : Record) (rs : List Record) → charge_of place (with_record r rs) ≡ plus (charge_of place rs) (part_of place r)
charge_of-with_record place r [] = plus-turned (part_of place r) no_usage
charge_of-with_record place r (t ∷ ts) = at (is_lt (record_cmp r t)) refl (charge_of-with_record place r ts)
  where
    at : (b : Bool) → is_lt (record_cmp r t) ≡ b → charge_of place (with_record r ts) ≡ plus (charge_of place ts) (part_of place r) → charge_of place (with_record r (t ∷ ts)) ≡ plus (charge_of place (t ∷ ts)) (part_of place r)
    at true is next = rw is (plus-turned (part_of place r) (plus (part_of place t) (charge_of place ts)))
    at false is next = rw is (ap (plus (part_of place t)) next ∙ plus-joined (part_of place t) (charge_of place ts) (part_of place r))

-- what is found is the first that passes
pub find-here : (p : Record → Bool) (t : Record) (ts : List Record) (r : Record) → p t ≡ true → find p (t ∷ ts) ≡ Some r → t ≡ r
find-here p t ts r is e = let f : ◌≡◌ {A = Option Record} (Some t) (Some r) = rw is at e in cc

pub find-past : (p : Record → Bool) (t : Record) (ts : List Record) (r : Record) → p t ≡ false → find p (t ∷ ts) ≡ Some r → find p ts ≡ Some r
find-past p t ts r is e = rw is at e

-- the record that is found less
pub charge_of-without : (place : ℕ) (p : Record → Bool) (rs : List Record) (r : Record) → find p rs ≡ Some r → charge_of place rs ≡ plus (charge_of place (without_first p rs)) (part_of place r)
charge_of-without place p [] r e = absurd (cc)
charge_of-without place p (t ∷ ts) r e = at (p t) refl (charge_of-without place p ts r)
  where
    at : (b : Bool) → p t ≡ b → (find p ts ≡ Some r → charge_of place ts ≡ plus (charge_of place (without_first p ts)) (part_of place r)) → charge_of place (t ∷ ts) ≡ plus (charge_of place (without_first p (t ∷ ts))) (part_of place r)
    at true is next = rw is (ap (λ (x : Record). plus (part_of place x) (charge_of place ts)) (find-here p t ts r is e) ∙ plus-turned (part_of place r) (charge_of place ts))
    at false is next = rw is (ap (plus (part_of place t)) (next (find-past p t ts r is e)) ∙ plus-joined (part_of place t) (charge_of place (without_first p ts)) (part_of place r))

-- the record of a slot charged anew
pub charge_of-recharged : (place slot : ℕ) (to : Usage) (rs : List Record) (r : Record) → active_at slot rs ≡ Some r
    → charge_of place (recharged slot to rs) ≡ plus (charge_of place (without_slot slot rs)) (part_of place (record r { content = Active slot to }))
charge_of-recharged place slot to [] r e = absurd (cc)
charge_of-recharged place slot to (t ∷ ts) r e = at (is_slot slot t) refl (charge_of-recharged place slot to ts r)
  where
    at : (b : Bool) → is_slot slot t ≡ b → (active_at slot ts ≡ Some r → charge_of place (recharged slot to ts) ≡ plus (charge_of place (without_slot slot ts)) (part_of place (record r { content = Active slot to })))
        → charge_of place (recharged slot to (t ∷ ts)) ≡ plus (charge_of place (without_slot slot (t ∷ ts))) (part_of place (record r { content = Active slot to }))
    at true is next = rw is (ap (λ (x : Record). plus (part_of place (record x { content = Active slot to })) (charge_of place ts)) (find-here (is_slot slot) t ts r is e) ∙ plus-turned (part_of place (record r { content = Active slot to })) (charge_of place ts))
    at false is next = rw is (ap (plus (part_of place t)) (next (find-past (is_slot slot) t ts r is e)) ∙ plus-joined (part_of place t) (charge_of place (without_slot slot ts)) (part_of place (record r { content = Active slot to })))

-- the records that pass a test, and those that don't
plus-past : (u v w : Usage) → plus u (plus v w) ≡ plus v (plus u w)
plus-past u v w = usage _ _ (omega arith) (omega arith)

pub charge_of-filter : (place : ℕ) (p : Record → Bool) (rs : List Record) → charge_of place rs ≡ plus (charge_of place (filter (λ r. not (p r)) rs)) (charge_of place (filter p rs))
charge_of-filter place p [] = sym (plus-none no_usage)
charge_of-filter place p (t ∷ ts) =
    ap (plus (part_of place t)) (charge_of-filter place p ts)
    ∙ elim (p t) as (λ b. plus (part_of place t) (plus (charge_of place stay) (charge_of place go)) ≡ plus (charge_of place (cond (not b) (t ∷ stay) stay)) (charge_of place (cond b (t ∷ go) go))) [
      | true ↦ plus-past (part_of place t) (charge_of place stay) (charge_of place go)
      | false ↦ plus-joined (part_of place t) (charge_of place stay) (charge_of place go)
    ]
  where
    stay : List Record
    stay = filter (λ r. not (p r)) ts

    go : List Record
    go = filter p ts

-- records of other namespaces
pub charge_of-elsewhere : (place : ℕ) (rs : List Record) → AllByRecursion (λ r. place ≢ r.namespace) rs → charge_of place rs ≡ no_usage
charge_of-elsewhere place [] all = refl
charge_of-elsewhere place (r ∷ rs) all = ap (λ (u : Usage). plus u (charge_of place rs)) (part_of-other place r all.0) ∙ none-plus (charge_of place rs) ∙ charge_of-elsewhere place rs all.1

-- with_record, in the record's own namespace and in another one
pub charge_of-with_record_own : (r : Record) (rs : List Record) → charge_of r.namespace (with_record r rs) ≡ plus (charge_of r.namespace rs) (usage_of r.content)
charge_of-with_record_own r rs = charge_of-with_record r.namespace r rs ∙ ap (plus (charge_of r.namespace rs)) (part_of-own r)

pub charge_of-with_record_other : (place : ℕ) (r : Record) (rs : List Record) → place ≢ r.namespace → charge_of place (with_record r rs) ≡ charge_of place rs
charge_of-with_record_other place r rs ne = charge_of-with_record place r rs ∙ ap (plus (charge_of place rs)) (part_of-other place r ne) ∙ plus-none (charge_of place rs)

-- one record fewer
charge_of-without_sum : (p : Record → Bool) (rs : List Record) (r : Record) → find p rs ≡ Some r → charge_of r.namespace rs ≡ plus (charge_of r.namespace (without_first p rs)) (usage_of r.content)
charge_of-without_sum p rs r e = charge_of-without r.namespace p rs r e ∙ ap (plus (charge_of r.namespace (without_first p rs))) (part_of-own r)

pub charge_of-covers : (p : Record → Bool) (rs : List Record) (r : Record) → find p rs ≡ Some r → Covers (charge_of r.namespace rs) (usage_of r.content)
charge_of-covers p rs r e = subst (λ (u : Usage). Covers u (usage_of r.content)) (sym (charge_of-without_sum p rs r e)) (Covers-plus (charge_of r.namespace (without_first p rs)) (usage_of r.content))

pub charge_of-without_own : (p : Record → Bool) (rs : List Record) (r : Record) → find p rs ≡ Some r → charge_of r.namespace (without_first p rs) ≡ minus (charge_of r.namespace rs) (usage_of r.content)
charge_of-without_own p rs r e = sym (ap (λ (u : Usage). minus u (usage_of r.content)) (charge_of-without_sum p rs r e) ∙ minus-plus (charge_of r.namespace (without_first p rs)) (usage_of r.content))

pub charge_of-without_other : (place : ℕ) (p : Record → Bool) (rs : List Record) (r : Record) → find p rs ≡ Some r → place ≢ r.namespace → charge_of place (without_first p rs) ≡ charge_of place rs
charge_of-without_other place p rs r e ne = sym (charge_of-without place p rs r e ∙ ap (plus (charge_of place (without_first p rs))) (part_of-other place r ne) ∙ plus-none (charge_of place (without_first p rs)))

-- recharged
pub charge_of-recharged_own : (slot : ℕ) (to : Usage) (rs : List Record) (r : Record) → active_at slot rs ≡ Some r → charge_of r.namespace (recharged slot to rs) ≡ charge_with r to rs
charge_of-recharged_own slot to rs r e =
    charge_of-recharged r.namespace slot to rs r e
    ∙ ap (plus (charge_of r.namespace (without_slot slot rs))) (part_of-own (record r { content = Active slot to }))
    ∙ ap (λ (u : Usage). plus u to) (charge_of-without_own (is_slot slot) rs r e)

pub charge_of-recharged_other : (place slot : ℕ) (to : Usage) (rs : List Record) (r : Record) → active_at slot rs ≡ Some r → place ≢ r.namespace → charge_of place (recharged slot to rs) ≡ charge_of place rs
charge_of-recharged_other place slot to rs r e ne =
    charge_of-recharged place slot to rs r e
    ∙ ap (plus (charge_of place (without_slot slot rs))) (part_of-other place (record r { content = Active slot to }) ne)
    ∙ plus-none (charge_of place (without_slot slot rs))
    ∙ charge_of-without_other place (is_slot slot) rs r e ne

-- the record of a slot committed
pub charge_of-committed_own : (slot : ℕ) (name : Bytes) (labels : Option (List Label)) (layer : Tree) (number : ℕ) (rs : List Record) (r : Record) → active_at slot rs ≡ Some r
    → charge_of r.namespace (with_record (committed_as name labels layer number r) (without_slot slot rs)) ≡ charge_with r (count_of layer) rs
charge_of-committed_own slot name labels layer number rs r e =
    charge_of-with_record_own (committed_as name labels layer number r) (without_slot slot rs)
    ∙ ap (λ (u : Usage). plus u (count_of layer)) (charge_of-without_own (is_slot slot) rs r e)

pub charge_of-committed_other : (place slot : ℕ) (name : Bytes) (labels : Option (List Label)) (layer : Tree) (number : ℕ) (rs : List Record) (r : Record) → active_at slot rs ≡ Some r → place ≢ r.namespace
    → charge_of place (with_record (committed_as name labels layer number r) (without_slot slot rs)) ≡ charge_of place rs
charge_of-committed_other place slot name labels layer number rs r e ne =
    charge_of-with_record_other place (committed_as name labels layer number r) (without_slot slot rs) ne
    ∙ charge_of-without_other place (is_slot slot) rs r e ne
