-- What stands on committed records stands while they do: parents, leases and chains.
use Rattle.std.proofs.Common.{◌≡◌, ℕ, zero, suc, ◌<◌, ◌≤◌, Bool, true, false, true≢false, List, [], ◌∷◌, Option, Some, None, IsSome, refl, sym, ap, ◌∙◌, subst, arith}
use Rattle.std.specs.List.{AllByRecursion, list_any}
use Rattle.std.specs.Option.{option_map, is_some}
use Rattle.std.specs.Prelude.{bytes_eq, ◌==◌, ◌&&◌, option_and_then, unwrap_or, IsSomeAnd}
use Rattle.std.proofs.lemmas.Bool.{and_parts, eqb-true, false_from_ne_true, not-false, or_left, or_right}
use Rattle.std.proofs.lemmas.Slice.Eq.{bytes_eq-Decides}
use Rattle.snap_usage.specs.declared.usage.Usage.{Usage}
use Rattle.snap_record.specs.Labels.{Bytes}
use Rattle.snap_record.specs.declared.record.Content.{Content}
use Rattle.snap_record.specs.declared.record.Content.TheVariants.{View, Active, Committed}
use Rattle.snap_record.specs.declared.record.Record.{Record}
use Rattle.snap_call.specs.Records.{is_named, record_at, has_key, has_slot, is_slot, is_child, has_children, is_committed, committed_at, with_record, without_slot, without_key, recharged}
use Rattle.snap_call.specs.State.{chain_from, ancestors, is_base, is_too_deep, most_ancestors}
use Rattle.snap_call.specs.Good.{HasOlderParent}
use Rattle.snap_call.proofs.Lists.{all-map, some_same, none_some, committed-parts, committed-from, committed_at-is_named, find-any, find-passes, find-all, none-passes, all-both, find-with_record, find-without, find-recharged}

-- the record's parent is none, or a committed record
abbrev pub HasParent : List Record → Record → Type 0
HasParent rs r = is_base r.namespace r.parent rs ≡ true

-- the record's id is above its parent's
abbrev pub IsRising : List Record → Record → Type 0
IsRising rs r = HasOlderParent rs r.namespace r.parent r.id

-- the names are those of committed records of the namespace, if there is one
abbrev pub NamesStand : List Record → Option ℕ → List Bytes → Type 0
NamesStand rs o names = IsSomeAnd o (λ place. AllByRecursion (λ name. IsSome (committed_at place name rs)) names)

-- the committed ancestors of a snapshot, where there are at most `most` of them
abbrev pub chain : ℕ → List Record → Record → Option (List Record)
chain most rs r = chain_from most rs r.namespace r.parent

-- the record before those of the next chain
abbrev pub chain_over : Option Record → (Record → Option (List Record)) → Option (List Record)
chain_over o next = option_and_then (λ r. option_map (λ above. r ∷ above) (next r)) o

-- each committed record of the one list is that of its key in the other
abbrev pub Keeps : List Record → List Record → Type 0
Keeps rs ts = (place : ℕ) (key : Bytes) (r : Record) → committed_at place key rs ≡ Some r → committed_at place key ts ≡ Some r

-- the parent is none, or is in the set
abbrev pub OnParent : (ℕ → Bytes → Type 0) → ℕ → Bytes → Type 0
OnParent P place [] = Unit {0}
OnParent P place (b ∷ bs) = P place (b ∷ bs)

-- a key of the set is one that a record may be on
pub on_parent : (P : ℕ → Bytes → Type 0) (place : ℕ) (p : Bytes) → P place p → OnParent P place p
on_parent P place [] m = tt
on_parent P place (b ∷ bs) m = m

pub on_parent-map : (P Q : ℕ → Bytes → Type 0) (m n : ℕ) (p : Bytes) → (P m p → Q n p) → OnParent P m p → OnParent Q n p
on_parent-map P Q m n [] f on = tt
on_parent-map P Q m n (b ∷ bs) f on = f on

-- each committed record of the one list whose key is in a set is that of its key in the other, and its parent is none or in the set
pub record KeepsFor (P : ℕ → Bytes → Type 0) (rs ts : List Record) : Type 0 where
  pub same : (place : ℕ) (key : Bytes) (r : Record) → P place key → committed_at place key rs ≡ Some r → committed_at place key ts ≡ Some r
  pub above : (place : ℕ) (key : Bytes) (r : Record) → P place key → committed_at place key rs ≡ Some r → OnParent P place r.parent

-- the set of all keys
abbrev pub Every : ℕ → Bytes → Type 0
Every place key = Unit {0}

pub every : (rs ts : List Record) → Keeps rs ts → KeepsFor Every rs ts
every rs ts keeps = record { same = λ place key r m e. keeps place key r e; above = λ place key r m e. on_parent Every place r.parent tt }

-- the records' parents are none, or in the set
abbrev pub AreOn : (ℕ → Bytes → Type 0) → List Record → Type 0
AreOn P rs = AllByRecursion (λ r. OnParent P r.namespace r.parent) rs

pub all_on : (rs : List Record) → AreOn Every rs
all_on [] = tt
all_on (r ∷ rs) = (on_parent Every r.namespace r.parent tt, all_on rs)

-- a committed record is in no slot
committed_no_slot : (slot : ℕ) (c : Content) → is_committed c ≡ true → has_slot slot c ≡ false
committed_no_slot slot (View layers) e = refl
committed_no_slot slot (Active s u) e = absurd (true≢false (sym e))
committed_no_slot slot (Committed l u) e = refl

-- ---- the changes

keeps_found : (rs ts : List Record) → ((place : ℕ) (key : Bytes) (r : Record) → record_at place key rs ≡ Some r → is_committed r.content ≡ true → record_at place key ts ≡ Some r) → Keeps rs ts
keeps_found rs ts f place key r e =
    let h = committed-parts (record_at place key rs) r e in
    committed-from (record_at place key ts) r (f place key r h.0 h.1) h.1

pub Keeps-after : (rs ts us : List Record) → Keeps rs ts → Keeps ts us → Keeps rs us
Keeps-after rs ts us f g place key r e = g place key r (f place key r e)

-- a record whose key is free is not found under a key that has one
apart_from_found : (new : Record) (rs : List Record) → has_key new.namespace new.key rs ≡ false → (place : ℕ) (key : Bytes) (r : Record) → record_at place key rs ≡ Some r → is_named place key new ≡ false
apart_from_found new rs free place key r e = false_from_ne_true (is_named place key new) (λ is. find-any (is_named place key) rs r (none is) e)
  where
    none : is_named place key new ≡ true → has_key place key rs ≡ false
    none is =
        let h = and_parts (new.namespace == place) (bytes_eq new.key key) is in
        let at : new.namespace ≡ place = eqb-true new.namespace place h.0 in
        let named : new.key ≡ key = (bytes_eq-Decides new.key key).0 h.1 in
        subst (λ (k : Bytes). has_key place k rs ≡ false) named (subst (λ (n : ℕ). has_key n new.key rs ≡ false) at free)

pub Keeps-with_record : (new : Record) (rs : List Record) → has_key new.namespace new.key rs ≡ false → Keeps rs (with_record new rs)
Keeps-with_record new rs free = keeps_found rs (with_record new rs) (λ place key r e is. find-with_record new (is_named place key) rs (apart_from_found new rs free place key r e) ∙ e)

pub Keeps-without_slot : (slot : ℕ) (rs : List Record) → Keeps rs (without_slot slot rs)
Keeps-without_slot slot rs = keeps_found rs (without_slot slot rs) (λ place key r e is. find-without (is_slot slot) (is_named place key) rs r (committed_no_slot slot r.content is) e)

pub Keeps-recharged : (slot : ℕ) (to : Usage) (rs : List Record) → Keeps rs (recharged slot to rs)
Keeps-recharged slot to rs = keeps_found rs (recharged slot to rs) (λ place key r e is. find-recharged slot to (is_named place key) rs r (λ t. refl) (committed_no_slot slot r.content is) e)

-- ---- without a key that no record has as its parent

-- the other keys
abbrev pub IsOther : ℕ → Bytes → ℕ → Bytes → Type 0
IsOther place key p k = ((p == place) && bytes_eq k key) ≡ false

module _ (place : ℕ) (key : Bytes) (rs : List Record) (childless : has_children place key rs ≡ false) where
  -- all records are on other ones
  pub on_other : AreOn (IsOther place key) rs
  on_other =
      all-map (λ r. is_child place key r ≡ false) (λ r. OnParent (IsOther place key) r.namespace r.parent) (λ r other. on_parent (IsOther place key) r.namespace r.parent other)
      rs (none-passes (is_child place key) rs childless)

  -- a record of another key is another record
  other_named : (p : ℕ) (k : Bytes) (r : Record) → is_named p k r ≡ true → IsOther place key p k → is_named place key r ≡ false
  other_named p k r is other =
      let h = and_parts (r.namespace == p) (bytes_eq r.key k) is in
      subst (λ (n : ℕ). IsOther place key n r.key) (sym (eqb-true r.namespace p h.0)) (subst (λ (b : Bytes). IsOther place key p b) (sym ((bytes_eq-Decides r.key k).0 h.1)) other)

  pub keeps-without_key : KeepsFor (IsOther place key) rs (without_key place key rs)
  keeps-without_key = record {
    same = λ p k r other e.
        let h = committed-parts (record_at p k rs) r e in
        committed-from (record_at p k (without_key place key rs)) r
        (find-without (is_named place key) (is_named p k) rs r (other_named p k r (find-passes (is_named p k) rs r h.0) other) h.0) h.1;
    above = λ p k r other e.
        let h = committed-parts (record_at p k rs) r e in
        let named = and_parts (r.namespace == p) (bytes_eq r.key k) (find-passes (is_named p k) rs r h.0) in
        subst (λ (n : ℕ). OnParent (IsOther place key) n r.parent) (eqb-true r.namespace p named.0) (find-all (λ t. OnParent (IsOther place key) t.namespace t.parent) (is_named p k) rs r h.0 on_other);
  }

-- ---- what stands on the records that are kept

module _ (P : ℕ → Bytes → Type 0) (rs ts : List Record) (keeps : KeepsFor P rs ts) where
  pub keeps-some : (place : ℕ) (key : Bytes) → P place key → IsSome (committed_at place key rs) → IsSome (committed_at place key ts)
  keeps-some place key m some = by (committed_at place key rs) refl some
    where
      by : (o : Option Record) → committed_at place key rs ≡ o → IsSome o → IsSome (committed_at place key ts)
      by None e is = absurd (true≢false (sym is))
      by (Some r) e is = ap is_some (keeps.same place key r m e)

  keeps_parent : (place : ℕ) (p : Bytes) → OnParent P place p → is_base place p rs ≡ true → is_base place p ts ≡ true
  keeps_parent place [] m h = refl
  keeps_parent place (b ∷ bs) m h = keeps-some place (b ∷ bs) m h

  pub keeps-HasParent : (r : Record) → OnParent P r.namespace r.parent → HasParent rs r → HasParent ts r
  keeps-HasParent r m h = keeps_parent r.namespace r.parent m h

  older_parent : (place : ℕ) (p : Bytes) (id : ℕ) → OnParent P place p → HasOlderParent rs place p id → HasOlderParent ts place p id
  older_parent place [] id m h = h
  older_parent place (b ∷ bs) id m h = by (committed_at place (b ∷ bs) rs) refl h
    where
      by : (o : Option Record) → committed_at place (b ∷ bs) rs ≡ o → IsSomeAnd o (λ r. r.id < id) → HasOlderParent ts place (b ∷ bs) id
      by None e below = absurd below
      by (Some r) e below = subst (λ (o : Option Record). IsSomeAnd o (λ t. t.id < id)) (sym (keeps.same place (b ∷ bs) r m e)) below

  pub keeps-IsRising : (r : Record) → OnParent P r.namespace r.parent → IsRising rs r → IsRising ts r
  keeps-IsRising r m h = older_parent r.namespace r.parent r.id m h

  -- the names of a lease, where all are in the set
  pub keeps-NamesStand : (o : Option ℕ) (names : List Bytes) → ((place : ℕ) → o ≡ Some place → AllByRecursion (P place) names) → NamesStand rs o names → NamesStand ts o names
  keeps-NamesStand None names m h = h
  keeps-NamesStand (Some place) names m h =
      all-map (λ name. P place name × IsSome (committed_at place name rs)) (λ name. IsSome (committed_at place name ts)) (λ name g. keeps-some place name g.0 g.1)
      names (all-both (P place) (λ name. IsSome (committed_at place name rs)) names (m place refl) h)

  pub keeps-chain_from : (n : ℕ) (place : ℕ) (p : Bytes) (c : List Record) → OnParent P place p → chain_from n rs place p ≡ Some c → chain_from n ts place p ≡ Some c
  keeps-chain_from n place [] c m e = e
  keeps-chain_from zero place (b ∷ bs) c m e = absurd (none_some c e)
  keeps-chain_from (suc n) place (b ∷ bs) c m e = by (committed_at place (b ∷ bs) rs) refl e (λ r d on. keeps-chain_from n place r.parent d on)
    where
      by : (o : Option Record) → committed_at place (b ∷ bs) rs ≡ o → chain_over o (λ r. chain_from n rs place r.parent) ≡ Some c
          → ((r : Record) (d : List Record) → OnParent P place r.parent → chain_from n rs place r.parent ≡ Some d → chain_from n ts place r.parent ≡ Some d)
          → chain_from (suc n) ts place (b ∷ bs) ≡ Some c
      by None is found next = absurd (none_some c found)
      by (Some r) is found next = ap (λ o. chain_over o (λ t. chain_from n ts place t.parent)) (keeps.same place (b ∷ bs) r m is) ∙ over (chain_from n rs place r.parent) refl found
        where
          over : (o : Option (List Record)) → chain_from n rs place r.parent ≡ o → option_map (λ d. r ∷ d) o ≡ Some c → option_map (λ d. r ∷ d) (chain_from n ts place r.parent) ≡ Some c
          over None h made = absurd (none_some c made)
          over (Some d) h made = ap (option_map (λ l. r ∷ l)) (next r d (keeps.above place (b ∷ bs) r m is) h) ∙ made

  some_chain : (n place : ℕ) (p : Bytes) → OnParent P place p → IsSome (chain_from n rs place p) → IsSome (chain_from n ts place p)
  some_chain n place p m some = by (chain_from n rs place p) refl some
    where
      by : (o : Option (List Record)) → chain_from n rs place p ≡ o → IsSome o → IsSome (chain_from n ts place p)
      by None e is = absurd (true≢false (sym is))
      by (Some c) e is = ap is_some (keeps-chain_from n place p c m e)

  pub keeps-some_chain : (most : ℕ) (r : Record) → OnParent P r.namespace r.parent → IsSome (chain most rs r) → IsSome (chain most ts r)
  keeps-some_chain most r m some = some_chain most r.namespace r.parent m some

  -- the ancestors of a snapshot that has a chain
  pub keeps-ancestors : (place : ℕ) (p : Bytes) → OnParent P place p → IsSome (chain_from most_ancestors rs place p) → ancestors place p ts ≡ ancestors place p rs
  keeps-ancestors place p m some = by (chain_from most_ancestors rs place p) refl some
    where
      by : (o : Option (List Record)) → chain_from most_ancestors rs place p ≡ o → IsSome o → ancestors place p ts ≡ ancestors place p rs
      by None e is = absurd (true≢false (sym is))
      by (Some c) e is = ap (λ o. unwrap_or o []) (keeps-chain_from most_ancestors place p c m e ∙ sym e)

-- ---- a parent that was tested

-- there is a chain from it upwards
pub chain-found : (most : ℕ) (rs : List Record) (place : ℕ) (p : Bytes) → is_too_deep most place p rs ≡ false → IsSome (chain_from most rs place p)
chain-found most rs place p e = not-false (is_some (chain_from most rs place p)) e

-- ---- a chain that fits a limit, and those above it

chain-within : (m n : ℕ) (rs : List Record) (place : ℕ) (p : Bytes) (c : List Record) → m ≤ n → chain_from m rs place p ≡ Some c → chain_from n rs place p ≡ Some c
chain-within m n rs place [] c le e = e
chain-within zero n rs place (b ∷ bs) c le e = absurd (none_some c e)
chain-within (suc m) zero rs place (b ∷ bs) c le e = absurd (omega (arith, le))
chain-within (suc m) (suc n) rs place (b ∷ bs) c le e = by (committed_at place (b ∷ bs) rs) e (λ r d. chain-within m n rs place r.parent d (omega (arith, le)))
  where
    by : (o : Option Record) → chain_over o (λ r. chain_from m rs place r.parent) ≡ Some c → ((r : Record) (d : List Record) → chain_from m rs place r.parent ≡ Some d → chain_from n rs place r.parent ≡ Some d)
        → chain_over o (λ r. chain_from n rs place r.parent) ≡ Some c
    by None found next = absurd (none_some c found)
    by (Some r) found next = over (chain_from m rs place r.parent) refl found
      where
        over : (o : Option (List Record)) → chain_from m rs place r.parent ≡ o → option_map (λ d. r ∷ d) o ≡ Some c → option_map (λ d. r ∷ d) (chain_from n rs place r.parent) ≡ Some c
        over None h made = absurd (none_some c made)
        over (Some d) h made = ap (option_map (λ l. r ∷ l)) (next r d h) ∙ made

-- a chain of the one limit is one of a greater
pub some-within : (m n : ℕ) (rs : List Record) (place : ℕ) (p : Bytes) → m ≤ n → IsSome (chain_from m rs place p) → IsSome (chain_from n rs place p)
some-within m n rs place p le some = by (chain_from m rs place p) refl some
  where
    by : (o : Option (List Record)) → chain_from m rs place p ≡ o → IsSome o → IsSome (chain_from n rs place p)
    by None e is = absurd (true≢false (sym is))
    by (Some c) e is = ap is_some (chain-within m n rs place p c le e)

pub all-within : (m n : ℕ) (rs us : List Record) → m ≤ n → AllByRecursion (λ r. IsSome (chain m rs r)) us → AllByRecursion (λ r. IsSome (chain n rs r)) us
all-within m n rs us le all = all-map (λ r. IsSome (chain m rs r)) (λ r. IsSome (chain n rs r)) (λ r some. some-within m n rs r.namespace r.parent le some) us all

-- ---- a chain, record by record

-- a record of the list has this key
abbrev pub is_in : Bytes → List Record → Bool
is_in key rs = list_any (λ r. bytes_eq r.key key) rs

-- the set of the keys of the list's records
abbrev pub KeyOf : List Record → ℕ → Bytes → Type 0
KeyOf rs place key = is_in key rs ≡ true

later : (r : Record) (c : List Record) (place : ℕ) (p : Bytes) → OnParent (KeyOf c) place p → OnParent (KeyOf (r ∷ c)) place p
later r c place p on = on_parent-map (KeyOf c) (KeyOf (r ∷ c)) place place p (λ h. or_right (bytes_eq r.key p) (is_in p c) h) on

-- the first record of a chain from a parent, and the chain above it
chain_parts : (n : ℕ) (rs : List Record) (place b : ℕ) (bs : Bytes) (c : List Record) → chain_from (suc n) rs place (b ∷ bs) ≡ Some c
    → (r : Record) × (d : List Record) × (committed_at place (b ∷ bs) rs ≡ Some r) × (chain_from n rs place r.parent ≡ Some d) × (r ∷ d ≡ c)
chain_parts n rs place b bs c e = by (committed_at place (b ∷ bs) rs) refl e
  where
    by : (o : Option Record) → committed_at place (b ∷ bs) rs ≡ o → chain_over o (λ r. chain_from n rs place r.parent) ≡ Some c
        → (r : Record) × (d : List Record) × (committed_at place (b ∷ bs) rs ≡ Some r) × (chain_from n rs place r.parent ≡ Some d) × (r ∷ d ≡ c)
    by None is found = absurd (none_some c found)
    by (Some r) is found = over (chain_from n rs place r.parent) refl found
      where
        over : (o : Option (List Record)) → chain_from n rs place r.parent ≡ o → option_map (λ d. r ∷ d) o ≡ Some c
            → (t : Record) × (d : List Record) × (committed_at place (b ∷ bs) rs ≡ Some t) × (chain_from n rs place t.parent ≡ Some d) × (t ∷ d ≡ c)
        over None h made = absurd (none_some c made)
        over (Some d) h made = (r, d, is, h, some_same (r ∷ d) c made)

-- the first record of a chain has the parent's key
chain-head : (n : ℕ) (rs : List Record) (place : ℕ) (p : Bytes) (c : List Record) → chain_from n rs place p ≡ Some c → OnParent (KeyOf c) place p
chain-head n rs place [] c e = tt
chain-head zero rs place (b ∷ bs) c e = absurd (none_some c e)
chain-head (suc n) rs place (b ∷ bs) c e =
    let h = chain_parts n rs place b bs c e in
    let named = and_parts (h.0.namespace == place) (bytes_eq h.0.key (b ∷ bs)) (committed_at-is_named place (b ∷ bs) rs h.0 h.2) in
    subst (λ (l : List Record). is_in (b ∷ bs) l ≡ true) h.4 (or_left (bytes_eq h.0.key (b ∷ bs)) (is_in (b ∷ bs) h.1) named.1)

-- the record is the committed one of its key, and its parent is none or in the chain
abbrev pub IsLink : List Record → ℕ → List Record → Record → Type 0
IsLink rs place c r = (committed_at place r.key rs ≡ Some r) × OnParent (KeyOf c) place r.parent

chain-links : (n : ℕ) (rs : List Record) (place : ℕ) (p : Bytes) (c : List Record) → chain_from n rs place p ≡ Some c → AllByRecursion (IsLink rs place c) c
chain-links n rs place [] c e = subst (λ (l : List Record). AllByRecursion (IsLink rs place l) l) (some_same [] c e) tt
chain-links zero rs place (b ∷ bs) c e = absurd (none_some c e)
chain-links (suc n) rs place (b ∷ bs) c e =
    let h = chain_parts n rs place b bs c e in
    let named = and_parts (h.0.namespace == place) (bytes_eq h.0.key (b ∷ bs)) (committed_at-is_named place (b ∷ bs) rs h.0 h.2) in
    let own : committed_at place h.0.key rs ≡ Some h.0 = subst (λ (k : Bytes). committed_at place k rs ≡ Some h.0) (sym ((bytes_eq-Decides h.0.key (b ∷ bs)).0 named.1)) h.2 in
    let on : OnParent (KeyOf (h.0 ∷ h.1)) place h.0.parent = later h.0 h.1 place h.0.parent (chain-head n rs place h.0.parent h.1 h.3) in
    subst (λ (l : List Record). AllByRecursion (IsLink rs place l) l) h.4
    ((own, on), all-map (IsLink rs place h.1) (IsLink rs place (h.0 ∷ h.1)) (λ t g. (g.0, later h.0 h.1 place t.parent g.1)) h.1 (chain-links n rs place h.0.parent h.1 h.3))

-- the ancestors of a snapshot that has a chain
module _ (rs : List Record) (place : ℕ) (p : Bytes) (some : IsSome (chain_from most_ancestors rs place p)) where
  of_chain : (P : List Record → Type 0) → ((c : List Record) → chain_from most_ancestors rs place p ≡ Some c → P c) → P (ancestors place p rs)
  of_chain P f = by (chain_from most_ancestors rs place p) refl some
    where
      by : (o : Option (List Record)) → chain_from most_ancestors rs place p ≡ o → IsSome o → P (ancestors place p rs)
      by None e is = absurd (true≢false (sym is))
      by (Some c) e is = subst P (sym (ap (λ o. unwrap_or o []) e)) (f c e)

  -- the first is its parent
  pub ancestors-head : OnParent (KeyOf (ancestors place p rs)) place p
  ancestors-head = of_chain (λ c. OnParent (KeyOf c) place p) (λ c e. chain-head most_ancestors rs place p c e)

  -- each is a committed record, whose parent is none or one of them
  pub ancestors-links : AllByRecursion (IsLink rs place (ancestors place p rs)) (ancestors place p rs)
  ancestors-links = of_chain (λ c. AllByRecursion (IsLink rs place c) c) (λ c e. chain-links most_ancestors rs place p c e)
