-- What goes, summed over the marked records, and the records without those of some keys.
use Rattle.std.proofs.Common.{◌≡◌, ℕ, ◌+◌, ◌<◌, ◌≤◌, Bool, true, false, List, [], ◌∷◌, ◌++◌, length, map, drop, get_or, refl, sym, ap, ◌∙◌, subst, arith, append_assoc}
use Rattle.std.proofs.lemmas.Bool.{and_from, and_left, and_parts, and_right, eqb-true, ne_eqb, eq-eqb}
use Rattle.std.proofs.lemmas.List.{drop_more}
use Rattle.std.specs.List.{AllByRecursion, filter}
use Rattle.std.specs.List.Sorted.{IsStrictlySortedBy}
use Rattle.std.specs.declared.cmp.Ordering.TheVariants.{Less}
use Rattle.std.specs.Prelude.{◌==◌, ◌&&◌, not, cond, if◌then◌else◌}
use Rattle.snap_ledger.specs.States.{plus}
use Rattle.snap_usage.specs.Counted.{no_usage}
use Rattle.snap_usage.specs.declared.usage.Usage.{Usage}
use Rattle.snap_record.specs.Labels.{Bytes}
use Rattle.snap_record.specs.Records.{usage_of}
use Rattle.snap_record.specs.declared.record.Record.{Record}
use Rattle.snap_call.specs.declared.state.State.{State}
use Rattle.snap_call.specs.declared.sweep.Sweep.{Sweep}
use Rattle.snap_call.specs.Good.{Good}
use Rattle.snap_call.specs.Marked.{marked}
use Rattle.snap_call.specs.Reached.{is_reached, is_swept, swept_keys}
use Rattle.snap_call.specs.Records.{charge_of, is_committed, is_named, record_cmp, without_key, without_keys}
use Rattle.snap_call.proofs.Lists.{all-map}
use Rattle.snap_call.proofs.InOrder.{own_named, unnamed_before}
use Rattle.snap_call.proofs.Sums.{blocks, inodes, part_of, plus-joined}
use Rattle.snap_call.proofs.Parts.{unswept}

-- ---- the marked records

-- one step along the lists
module _ (place : ℕ) (rs : List Record) (bs : List Bool) (i : ℕ) (r : Record) (within : i < length rs) (same : length bs ≡ length rs) (at : r ≡ get_or rs i r) where
  abbrev rest_of : List Record
  rest_of = marked place (drop (i + 1) rs) (drop (i + 1) bs)

  abbrev with_first : Bool → List Record
  with_first c = if c then r ∷ rest_of else rest_of

  step : (b : Bool) → get_or bs i false ≡ b → marked place (drop i rs) (drop i bs) ≡ with_first ((r.namespace == place) && b)
  step b mark =
      ap (λ ts. marked place ts (drop i bs)) (drop_more rs i r within ∙ ap (λ t. t ∷ drop (i + 1) rs) (sym at))
      ∙ ap (λ cs. marked place (r ∷ drop (i + 1) rs) cs) (drop_more bs i false (omega (arith, same)) ∙ ap (λ c. c ∷ drop (i + 1) bs) mark)

  -- a record of another namespace
  pub marked-other : (r.namespace ≡ place → ⊥) → marked place (drop i rs) (drop i bs) ≡ rest_of
  marked-other ne = step (get_or bs i false) refl ∙ ap with_first (and_left (r.namespace == place) (get_or bs i false) (ne_eqb r.namespace place ne))

  -- one that isn't marked
  pub marked-passes : get_or bs i false ≡ false → marked place (drop i rs) (drop i bs) ≡ rest_of
  marked-passes mark = step false mark ∙ ap with_first (and_right (r.namespace == place) false refl)

  -- one that is
  pub marked-takes : r.namespace ≡ place → get_or bs i false ≡ true → marked place (drop i rs) (drop i bs) ≡ r ∷ rest_of
  marked-takes e mark = step true mark ∙ ap with_first (and_from (r.namespace == place) true (eq-eqb r.namespace place e) refl)

-- they are charged at most as much as all
pub record IsWithin (u v : Usage) : Type 0 where
  pub blocks : u.blocks ≤ v.blocks
  pub inodes : u.inodes ≤ v.inodes

pub marked-charge : (place : ℕ) (rs : List Record) (bs : List Bool) → IsWithin (charge_of place (marked place rs bs)) (charge_of place rs)
marked-charge place [] bs = record { blocks = omega arith; inodes = omega arith }
marked-charge place (r ∷ rs) [] = record { blocks = omega arith; inodes = omega arith }
marked-charge place (r ∷ rs) (b ∷ bs) = by ((r.namespace == place) && b) (marked-charge place rs bs)
  where
    by : (c : Bool) → IsWithin (charge_of place (marked place rs bs)) (charge_of place rs) → IsWithin (charge_of place (if c then r ∷ marked place rs bs else marked place rs bs)) (charge_of place (r ∷ rs))
    by true rest = record { blocks = omega (arith, rest.blocks); inodes = omega (arith, rest.inodes) }
    by false rest = record { blocks = omega (arith, rest.blocks); inodes = omega (arith, rest.inodes) }

-- ---- the sums so far

-- with what the rest of the records adds, the sums are those over all
pub record IsGathered (place : ℕ) (all rest : List Record) (w : Sweep) : Type 0 where
  pub removed : w.removed ++ map (λ (r : Record). r.key) rest ≡ map (λ (r : Record). r.key) all
  pub freed : plus w.freed (charge_of place rest) ≡ charge_of place all

module _ (place : ℕ) (all : List Record) where
  module _ (r : Record) (rest : List Record) (w : Sweep) (own : r.namespace ≡ place) (at : IsGathered place all (r ∷ rest) w) where
    part : part_of place r ≡ usage_of r.content
    part = ap (λ b. if b then usage_of r.content else no_usage) (eq-eqb r.namespace place own)

    pub gather-fits : IsWithin (plus w.freed (usage_of r.content)) (charge_of place all)
    gather-fits =
        let whole : plus w.freed (plus (usage_of r.content) (charge_of place rest)) ≡ charge_of place all = ap (λ (u : Usage). plus w.freed (plus u (charge_of place rest))) (sym part) ∙ at.freed in
        record { blocks = omega (arith, blocks whole); inodes = omega (arith, inodes whole) }

    pub gather-takes : (v : Sweep) → v.removed ≡ w.removed ++ r.key ∷ [] → v.freed ≡ plus w.freed (usage_of r.content) → IsGathered place all rest v
    gather-takes v removed freed = record {
      removed = ap (λ ks. ks ++ map (λ (r : Record). r.key) rest) removed ∙ append_assoc w.removed (r.key ∷ []) (map (λ (r : Record). r.key) rest) ∙ at.removed;
      freed = ap (λ (u : Usage). plus u (charge_of place rest)) freed ∙ sym (plus-joined w.freed (usage_of r.content) (charge_of place rest)) ∙ ap (λ (u : Usage). plus w.freed (plus u (charge_of place rest))) (sym part) ∙ at.freed;
    }

-- ---- the records without those of some keys

-- no record after this one has its key in its namespace
apart_names : (place : ℕ) (r : Record) (ts : List Record) → AllByRecursion (λ t. record_cmp r t ≡ Less) ts → AllByRecursion (λ t. t.namespace ≡ place → is_named place t.key r ≡ false) ts
apart_names place r ts later = all-map (λ t. record_cmp r t ≡ Less) (λ t. t.namespace ≡ place → is_named place t.key r ≡ false) each ts later
  where
    each : (t : Record) → record_cmp r t ≡ Less → t.namespace ≡ place → is_named place t.key r ≡ false
    each t less at = subst (λ n. is_named n t.key r ≡ false) at (unnamed_before r t less)

-- the keys of those that pass are none of this record's
abbrev AreOthers : ℕ → Record → List Bytes → Type 0
AreOthers place r keys = AllByRecursion (λ key. is_named place key r ≡ false) keys

others : (place : ℕ) (p : Record → Bool) → ((t : Record) → p t ≡ true → t.namespace ≡ place) → (r : Record) (ts : List Record) → AllByRecursion (λ t. t.namespace ≡ place → is_named place t.key r ≡ false) ts → AreOthers place r (map (λ (t : Record). t.key) (filter p ts))
others place p own r [] all = tt
others place p own r (t ∷ ts) all = by (p t) refl (others place p own r ts all.1)
  where
    by : (b : Bool) → p t ≡ b → AreOthers place r (map (λ (t : Record). t.key) (filter p ts)) → AreOthers place r (map (λ (t : Record). t.key) (cond b (t ∷ filter p ts) (filter p ts)))
    by true is rest = (all.0 (own t is), rest)
    by false is rest = rest

-- a record that has none of the keys stays
keys_past : (place : ℕ) (keys : List Bytes) (r : Record) (ts : List Record) → AreOthers place r keys → without_keys place keys (r ∷ ts) ≡ r ∷ without_keys place keys ts
keys_past place [] r ts all = refl
keys_past place (key ∷ keys) r ts all = ap (λ b. without_keys place keys (if b then ts else r ∷ without_key place key ts)) all.0 ∙ keys_past place keys r (without_key place key ts) all.1

-- without the keys of those that pass, the records are those that don't
pub without_keys-filter : (place : ℕ) (p : Record → Bool) → ((t : Record) → p t ≡ true → t.namespace ≡ place) → (rs : List Record) → IsStrictlySortedBy record_cmp rs → without_keys place (map (λ (t : Record). t.key) (filter p rs)) rs ≡ filter (λ t. not (p t)) rs
unfolding IsStrictlySortedBy
without_keys-filter place p own [] sorted = refl
without_keys-filter place p own (r ∷ ts) sorted = by (p r) refl (without_keys-filter place p own ts sorted.1)
  where
    keys : List Bytes
    keys = map (λ (t : Record). t.key) (filter p ts)

    by : (b : Bool) → p r ≡ b → without_keys place keys ts ≡ filter (λ t. not (p t)) ts
        → without_keys place (map (λ (t : Record). t.key) (cond b (r ∷ filter p ts) (filter p ts))) (r ∷ ts) ≡ cond (not b) (r ∷ filter (λ t. not (p t)) ts) (filter (λ t. not (p t)) ts)
    by true is rest =
        let named : is_named place r.key r ≡ true = subst (λ n. is_named n r.key r ≡ true) (own r is) (own_named r) in
        ap (λ b. without_keys place keys (if b then ts else r ∷ without_key place r.key ts)) named ∙ rest
    by false is rest = keys_past place keys r ts (others place p own r ts (apart_names place r ts sorted.0)) ∙ ap (λ l. r ∷ l) rest

-- without the swept ones' keys, the records are those that stay
pub without_keys-unswept : (s : State) (namespace : Bytes) (place moment : ℕ) → Good s → without_keys place (swept_keys s namespace place moment) s.records ≡ unswept s namespace place moment
without_keys-unswept s namespace place moment good = without_keys-filter place (is_swept s namespace place moment) own s.records good.sorted
  where
    own : (r : Record) → is_swept s namespace place moment r ≡ true → r.namespace ≡ place
    own r is = eqb-true r.namespace place (and_parts (r.namespace == place) (is_committed r.content) (and_parts ((r.namespace == place) && is_committed r.content) (not (is_reached s namespace place moment r.key)) is).0).0
