-- Weights and origins of records after each change.
use Rattle.std.proofs.Common.{◌≡◌, ℕ, ◌+◌, Bool, true, false, true≢false, List, [], ◌∷◌, Some, refl, sym, ap, ◌∙◌, arith}
use Rattle.std.specs.List.{AllByRecursion}
use Rattle.std.specs.Ordering.{is_lt}
use Rattle.std.specs.Prelude.{if◌then◌else◌, zero, suc}
use Rattle.snap_usage.specs.declared.usage.Usage.{Usage}
use Rattle.snap_record.specs.Labels.{Bytes, Label}
use Rattle.snap_record.specs.declared.record.Content.{Content}
use Rattle.snap_record.specs.declared.record.Content.TheVariants.{View, Active, Committed}
use Rattle.snap_record.specs.declared.record.Record.{Record}
use Rattle.snap_call.specs.declared.config.Namespace.{Namespace}
use Rattle.snap_call.specs.declared.state.State.{State}
use Rattle.snap_call.specs.Records.{record_cmp, has_slot, is_slot, open_count, active_at, with_record, without_slot, recharged, is_named, with_labels, relabelled}
use Rattle.snap_call.specs.State.{name_at, with_limit}
use Rattle.snap_call.proofs.Alike.{all-relabelled}
use Rattle.snap_call.proofs.Lists.{all-map, all-recharged, active_at-is_slot, active_at-all, active_one, open_count-cons}
use Rattle.snap_grants.specs.Grants.{Stored, Origin, weight, weights}

-- ---- weights

-- one more record, in its place
pub weights-with_record : (h : Stored → ℕ) (ns : List Namespace) (r : Record) (rs : List Record) → weights h ns (with_record r rs) ≡ weight h ns r r.content + weights h ns rs
weights-with_record h ns r [] = refl
weights-with_record h ns r (t ∷ ts) = at (is_lt (record_cmp r t)) (weights-with_record h ns r ts)
  where
    at : (b : Bool) → weights h ns (with_record r ts) ≡ weight h ns r r.content + weights h ns ts → weights h ns (if b then r ∷ t ∷ ts else t ∷ with_record r ts) ≡ weight h ns r r.content + (weight h ns t t.content + weights h ns ts)
    at true more = refl
    at false more = omega (arith, more)

-- a record that is active in a slot weighs nothing
slot_weighs : (h : Stored → ℕ) (ns : List Namespace) (r : Record) (slot : ℕ) (c : Content) → has_slot slot c ≡ true → weight h ns r c ≡ 0
slot_weighs h ns r slot (View layers) is = refl
slot_weighs h ns r slot (Active at charged) is = refl
slot_weighs h ns r slot (Committed layer usage) is = absurd (true≢false (sym is))

pub weights-without_slot : (h : Stored → ℕ) (ns : List Namespace) (slot : ℕ) (rs : List Record) → weights h ns (without_slot slot rs) ≡ weights h ns rs
weights-without_slot h ns slot [] = refl
weights-without_slot h ns slot (r ∷ rs) = at (is_slot slot r) refl (weights-without_slot h ns slot rs)
  where
    at : (b : Bool) → is_slot slot r ≡ b → weights h ns (without_slot slot rs) ≡ weights h ns rs → weights h ns (if b then rs else r ∷ without_slot slot rs) ≡ weight h ns r r.content + weights h ns rs
    at true is rest = let none = slot_weighs h ns r slot r.content is in omega (arith, none)
    at false is rest = ap (λ n. weight h ns r r.content + n) rest

pub weights-recharged : (h : Stored → ℕ) (ns : List Namespace) (slot : ℕ) (to : Usage) (rs : List Record) → weights h ns (recharged slot to rs) ≡ weights h ns rs
weights-recharged h ns slot to [] = refl
weights-recharged h ns slot to (r ∷ rs) = at (is_slot slot r) refl (weights-recharged h ns slot to rs)
  where
    at : (b : Bool) → is_slot slot r ≡ b → weights h ns (recharged slot to rs) ≡ weights h ns rs → weights h ns (if b then record r { content = Active slot to } ∷ rs else r ∷ recharged slot to rs) ≡ weight h ns r r.content + weights h ns rs
    at true is rest = let none = slot_weighs h ns r slot r.content is in omega (arith, none)
    at false is rest = ap (λ n. weight h ns r r.content + n) rest

-- labels weigh nothing
label_weighs : (h : Stored → ℕ) (ns : List Namespace) (labels : List Label) (number : ℕ) (r : Record) (c : Content) → weight h ns (with_labels labels number r) c ≡ weight h ns r c
label_weighs h ns labels number r (View layers) = refl
label_weighs h ns labels number r (Active slot charged) = refl
label_weighs h ns labels number r (Committed layer usage) = refl

pub weights-relabelled : (h : Stored → ℕ) (ns : List Namespace) (place : ℕ) (key : Bytes) (labels : List Label) (number : ℕ) (rs : List Record) → weights h ns (relabelled place key labels number rs) ≡ weights h ns rs
weights-relabelled h ns place key labels number [] = refl
weights-relabelled h ns place key labels number (r ∷ rs) =
    elim (is_named place key r) as (λ b. weights h ns (if b then with_labels labels number r ∷ rs else r ∷ relabelled place key labels number rs) ≡ weight h ns r r.content + weights h ns rs) [
      | true ↦ ap (λ n. n + weights h ns rs) (label_weighs h ns labels number r r.content)
      | false ↦ ap (λ n. weight h ns r r.content + n) (weights-relabelled h ns place key labels number rs)
    ]

-- nor do limits, which leave the names
name_at-limited : (limit : Usage) (place : ℕ) (ns : List Namespace) (p : ℕ) → name_at p (with_limit place limit ns) ≡ name_at p ns
name_at-limited limit place [] p = refl
name_at-limited limit zero (n ∷ ns) zero = refl
name_at-limited limit zero (n ∷ ns) (suc p) = refl
name_at-limited limit (suc place) (n ∷ ns) zero = refl
name_at-limited limit (suc place) (n ∷ ns) (suc p) = name_at-limited limit place ns p

limit_weighs : (h : Stored → ℕ) (ns ms : List Namespace) (r : Record) (c : Content) → name_at r.namespace ms ≡ name_at r.namespace ns → weight h ms r c ≡ weight h ns r c
limit_weighs h ns ms r (View layers) same = refl
limit_weighs h ns ms r (Active slot charged) same = refl
limit_weighs h ns ms r (Committed layer usage) same = ap (λ (n : Bytes). h (record { namespace = n; name = r.key; parent = r.parent; id = r.id; layer = layer })) same

pub weights-limited : (h : Stored → ℕ) (limit : Usage) (place : ℕ) (ns : List Namespace) (rs : List Record) → weights h (with_limit place limit ns) rs ≡ weights h ns rs
weights-limited h limit place ns [] = refl
weights-limited h limit place ns (r ∷ rs) =
    let here = limit_weighs h ns (with_limit place limit ns) r r.content (name_at-limited limit place ns r.namespace) in
    let rest = weights-limited h limit place ns rs in
    omega (arith, here, rest)

-- ---- origins

-- the record has the namespace and the parent of its id's origin
abbrev pub HasOrigin : (ℕ → Origin) → List Namespace → Record → Type 0
HasOrigin origin ns r = origin r.id ≡ record { namespace = name_at r.namespace ns; parent = r.parent }

-- it has, if it is active
abbrev pub ComesBy : (ℕ → Origin) → List Namespace → Record → Content → Type 0
ComesBy origin ns r (Active slot charged) = HasOrigin origin ns r
ComesBy origin ns r content = Unit {0}

abbrev pub Comes : (ℕ → Origin) → List Namespace → Record → Type 0
Comes origin ns r = ComesBy origin ns r r.content

-- each active record of the state has
abbrev pub AllCome : (ℕ → Origin) → State → Type 0
AllCome origin s = AllByRecursion (Comes origin s.namespaces) s.records

slot_comes : (origin : ℕ → Origin) (ns : List Namespace) (r : Record) (slot : ℕ) (c : Content) → has_slot slot c ≡ true → ComesBy origin ns r c → HasOrigin origin ns r
slot_comes origin ns r slot (View layers) is here = absurd (true≢false (sym is))
slot_comes origin ns r slot (Active at charged) is here = here
slot_comes origin ns r slot (Committed layer usage) is here = absurd (true≢false (sym is))

pub comes-recharged : (origin : ℕ → Origin) (ns : List Namespace) (slot : ℕ) (to : Usage) (rs : List Record) → AllByRecursion (Comes origin ns) rs → AllByRecursion (Comes origin ns) (recharged slot to rs)
comes-recharged origin ns slot to rs all = all-recharged slot to (Comes origin ns) rs (λ r is here. slot_comes origin ns r slot r.content is here) all

pub active_at-origin : (origin : ℕ → Origin) (ns : List Namespace) (slot : ℕ) (rs : List Record) (r : Record) → AllByRecursion (Comes origin ns) rs → active_at slot rs ≡ Some r → HasOrigin origin ns r
active_at-origin origin ns slot rs r all found = slot_comes origin ns r slot r.content (active_at-is_slot slot rs r found) (active_at-all (Comes origin ns) slot rs r found all)

label_comes : (origin : ℕ → Origin) (ns : List Namespace) (labels : List Label) (number : ℕ) (r : Record) (c : Content) → ComesBy origin ns r c → ComesBy origin ns (with_labels labels number r) c
label_comes origin ns labels number r (View layers) here = tt
label_comes origin ns labels number r (Active slot charged) here = here
label_comes origin ns labels number r (Committed layer usage) here = tt

pub comes-relabelled : (origin : ℕ → Origin) (ns : List Namespace) (place : ℕ) (key : Bytes) (labels : List Label) (number : ℕ) (rs : List Record) → AllByRecursion (Comes origin ns) rs → AllByRecursion (Comes origin ns) (relabelled place key labels number rs)
comes-relabelled origin ns place key labels number rs all = all-relabelled place key labels number (Comes origin ns) rs (λ r here. label_comes origin ns labels number r r.content here) all

limit_comes : (origin : ℕ → Origin) (ns ms : List Namespace) (r : Record) (c : Content) → name_at r.namespace ms ≡ name_at r.namespace ns → ComesBy origin ns r c → ComesBy origin ms r c
limit_comes origin ns ms r (View layers) same here = tt
limit_comes origin ns ms r (Active slot charged) same here = here ∙ ap (λ (n : Bytes). record { namespace = n; parent = r.parent }) (sym same)
limit_comes origin ns ms r (Committed layer usage) same here = tt

pub comes-limited : (origin : ℕ → Origin) (limit : Usage) (place : ℕ) (ns : List Namespace) (rs : List Record) → AllByRecursion (Comes origin ns) rs → AllByRecursion (Comes origin (with_limit place limit ns)) rs
comes-limited origin limit place ns rs all =
    all-map (Comes origin ns) (Comes origin (with_limit place limit ns)) (λ r here. limit_comes origin ns (with_limit place limit ns) r r.content (name_at-limited limit place ns r.namespace) here) rs all

-- where none is active
none_comes : (origin : ℕ → Origin) (ns : List Namespace) (r : Record) (c : Content) → active_one c ≡ 0 → ComesBy origin ns r c
none_comes origin ns r (View layers) idle = tt
none_comes origin ns r (Active slot charged) idle = absurd (omega (arith, idle))
none_comes origin ns r (Committed layer usage) idle = tt

pub comes-idle : (origin : ℕ → Origin) (ns : List Namespace) (rs : List Record) → open_count rs ≡ 0 → AllByRecursion (Comes origin ns) rs
comes-idle origin ns [] idle = tt
comes-idle origin ns (r ∷ rs) idle = let one = open_count-cons r rs in (none_comes origin ns r r.content (omega (arith, idle, one)), comes-idle origin ns rs (omega (arith, idle, one)))
