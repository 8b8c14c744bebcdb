-- The forms of what a state has: of a snapshot's texts, id and numbers after each change, and of what stands at a place.
use Rattle.std.proofs.Common.{◌≡◌, ℕ, ◌+◌, ◌≤◌, Bool, true, false, true≢false, cond, List, [], ◌∷◌, length, Option, Some, None, refl, sym, ◌∙◌, subst, inl, inr, arith}
use Rattle.std.specs.List.{AllByRecursion, cons_option, list_all}
use Rattle.std.specs.Map.{keys_of, lookup}
use Rattle.std.specs.Option.{option_map, option_map_or}
use Rattle.std.specs.Prelude.{if◌then◌else◌, ◌&&◌, ◌==◌, bytes_eq, filter_map, nat_le, not, unwrap_or}
use Rattle.std.proofs.lemmas.Bool.{and_from, and_parts, not-true, or_cases, or_left}
use Rattle.std.proofs.lemmas.List.Folds.{list_all-append}
use Rattle.std.proofs.lemmas.Slice.Eq.{bytes_eq-Decides}
use Rattle.snap_layer.specs.Tree.{Tree}
use Rattle.snap_usage.specs.declared.usage.Usage.{Usage}
use Rattle.snap_record.specs.Labels.{Bytes, Label, are_labels, is_key_among, is_label}
use Rattle.snap_record.specs.Updates.{given_label, have_forms, is_granted, is_update_path, label_after, named_keys, new_keys, replaces_all, updated as labels_after, with_named}
use Rattle.snap_record.specs.declared.record.Content.{Content}
use Rattle.snap_record.specs.declared.record.Record.{Record}
use Rattle.snap_call.specs.declared.config.Namespace.{Namespace}
use Rattle.snap_call.specs.declared.state.State.{State}
use Rattle.snap_call.specs.Forms.{is_key, is_limit, is_namespace, is_parent, is_space, is_text}
use Rattle.snap_call.specs.Good.{Good, IsFormed}
use Rattle.snap_call.specs.Records.{committed_as, with_labels}
use Rattle.snap_call.specs.State.{is_taken}
use Rattle.snap_call.specs.Step.{are_formed, new_record}
use Rattle.snap_call.proofs.Lists.{all-each, all-map, with_charge}

-- ---- lists that pass a test

module _ {X : Type 0} (p : X → Bool) where
  -- each of them passes
  pub all-listed : (xs : List X) → list_all p xs ≡ true → AllByRecursion (λ x. p x ≡ true) xs
  all-listed [] all = tt
  all-listed (x ∷ xs) all = let h = and_parts (p x) (list_all p xs) all in (h.0, all-listed xs h.1)

module _ {X Y : Type 0} (p : Y → Bool) (f : X → Option Y) where
  -- those that come of others pass where each does that comes of one
  listed-filter_map : (xs : List X) → AllByRecursion (λ x. option_map_or p (f x) true ≡ true) xs → list_all p (filter_map f xs) ≡ true
  listed-filter_map [] all = refl
  listed-filter_map (x ∷ xs) all = by (f x) all.0 (listed-filter_map xs all.1)
    where
      by : (o : Option Y) → option_map_or p o true ≡ true → list_all p (filter_map f xs) ≡ true → list_all p (cons_option o (filter_map f xs)) ≡ true
      by None is rest = rest
      by (Some y) is rest = and_from (p y) (list_all p (filter_map f xs)) is rest

-- ---- labels after an update

-- a label that is given
given_formed : (key : Bytes) (given : List Label) → list_all is_label given ≡ true → option_map_or is_label (given_label given key) true ≡ true
given_formed key [] all = refl
given_formed key (l ∷ ls) all =
    let h = and_parts (is_label l) (list_all is_label ls) all in
    by (bytes_eq key l.0) refl h.0 (given_formed key ls h.1)
  where
    by : (b : Bool) → bytes_eq key l.0 ≡ b → is_label l ≡ true → option_map_or is_label (given_label ls key) true ≡ true
        → option_map_or is_label (option_map (λ value. (key, value)) (cond b (Some l.1) (lookup (bytes_eq key) ls))) true ≡ true
    by true same is rest = subst (λ (k : Bytes). is_label (k, l.1) ≡ true) (sym ((bytes_eq-Decides key l.0).0 same)) is
    by false other is rest = rest

-- a label that was there
after_formed : (given : List Label) (named : List Bytes) → list_all is_label given ≡ true → (l : Label) → is_label l ≡ true → option_map_or is_label (label_after given named l) true ≡ true
after_formed given named all l is = by (is_key_among l.0 named)
  where
    by : (b : Bool) → option_map_or is_label (if b then given_label given l.0 else Some l) true ≡ true
    by true = given_formed l.0 given all
    by false = is

-- the labels that an update leaves have their forms, and there are few enough of them
pub labels_formed : (old given : List Label) (paths : List Bytes) → are_labels old ≡ true → is_granted old given paths ≡ true → are_labels (labels_after old given paths) ≡ true
labels_formed old given paths formed granted =
    let few = and_parts (have_forms given paths) (nat_le (length (labels_after old given paths)) 64) granted in
    let forms = and_parts (list_all is_label given) (list_all is_update_path paths) few.0 in
    let before = and_parts (list_all is_label old) (nat_le (length old) 64) formed in
    and_from (list_all is_label (labels_after old given paths)) (nat_le (length (labels_after old given paths)) 64) (by (replaces_all paths) forms.0 before.0) few.1
  where
    by : (b : Bool) → list_all is_label given ≡ true → list_all is_label old ≡ true → list_all is_label (if b then given else with_named old given (named_keys paths)) ≡ true
    by true new all = new
    by false new all =
        let named = named_keys paths in
        let stay : list_all is_label (filter_map (label_after given named) old) ≡ true =
        listed-filter_map is_label (label_after given named) old
        (all-map (λ l. is_label l ≡ true) (λ l. option_map_or is_label (label_after given named l) true ≡ true) (after_formed given named new) old (all-listed is_label old all)) in
        let come : list_all is_label (filter_map (given_label given) (new_keys (keys_of old) named)) ≡ true =
        listed-filter_map is_label (given_label given) (new_keys (keys_of old) named)
        (all-each (λ key. option_map_or is_label (given_label given key) true ≡ true) (λ key. given_formed key given new) (new_keys (keys_of old) named)) in
        list_all-append is_label (filter_map (label_after given named) old) (filter_map (given_label given) (new_keys (keys_of old) named)) ∙ (λ i. stay i && come i)

-- ---- a snapshot

-- the parts of its texts' forms
pub texts_parts : (n : ℕ) (r : Record) → IsFormed n r → (is_key r.key ≡ true) × (is_parent r.parent ≡ true) × (are_labels r.labels ≡ true)
texts_parts n r formed =
    let p = and_parts (is_key r.key && is_parent r.parent) (are_labels r.labels) formed.texts in
    let q = and_parts (is_key r.key) (is_parent r.parent) p.0 in
    (q.0, q.1, p.1)

texts_from : (key parent : Bytes) (labels : List Label) → is_key key ≡ true → is_parent parent ≡ true → are_labels labels ≡ true → (is_key key && is_parent parent && are_labels labels) ≡ true
texts_from key parent labels e f g = and_from (is_key key && is_parent parent) (are_labels labels) (and_from (is_key key) (is_parent parent) e f) g

-- with more entries
pub formed_later : (m n : ℕ) → m ≤ n → (r : Record) → IsFormed m r → IsFormed n r
formed_later m n more r formed =
    let changed = formed.known.2 in
    record { texts = formed.texts; above = formed.above; known = (formed.known.0, formed.known.1, omega (arith, changed, more)) }

pub all_later : (m n : ℕ) → m ≤ n → (rs : List Record) → AllByRecursion (IsFormed m) rs → AllByRecursion (IsFormed n) rs
all_later m n more rs all = all-map (IsFormed m) (IsFormed n) (formed_later m n more) rs all

-- with one more
pub all_next : (s : State) → Good s → AllByRecursion (IsFormed (s.entries + 1)) s.records
all_next s good = all_later s.entries (s.entries + 1) (omega arith) s.records good.formed

-- a new one, made by the next entry
pub formed_new : (s : State) (place : ℕ) (key parent : Bytes) (labels : List Label) (content : Content) → Good s → (is_key key && is_parent parent && are_labels labels) ≡ true → IsFormed (s.entries + 1) (new_record s place key parent labels content)
formed_new s place key parent labels content good texts = record { texts = texts; above = omega (arith, good.fewer); known = (omega arith, omega arith, omega arith) }

-- one that is charged anew
pub formed_charged : (n slot : ℕ) (to : Usage) (r : Record) → IsFormed n r → IsFormed n (with_charge slot to r)
formed_charged n slot to r formed = record { texts = formed.texts; above = formed.above; known = formed.known }

-- one that is committed by the entry of this number
pub formed_committed : (n : ℕ) (name : Bytes) (lease : Option Bytes) (labels : Option (List Label)) (layer : Tree) (r : Record) → are_formed name lease labels ≡ true → IsFormed n r → IsFormed n (committed_as name labels layer n r)
formed_committed n name lease labels layer r given formed =
    let h = and_parts (is_key name && option_map_or is_key lease true) (option_map_or are_labels labels true) given in
    let k = and_parts (is_key name) (option_map_or is_key lease true) h.0 in
    let own = texts_parts n r formed in
    let made = formed.known.0 in
    let order = formed.known.1 in
    let changed = formed.known.2 in
    record { texts = texts_from name r.parent (unwrap_or labels r.labels) k.0 own.1 (chosen labels h.1 own.2); above = formed.above; known = (omega (arith, made, order, changed), omega arith, omega arith) }
  where
    chosen : (o : Option (List Label)) → option_map_or are_labels o true ≡ true → are_labels r.labels ≡ true → are_labels (unwrap_or o r.labels) ≡ true
    chosen None is old = old
    chosen (Some l) is old = is

-- one with other labels, by the entry of this number
pub formed_labelled : (n : ℕ) (labels : List Label) → are_labels labels ≡ true → (r : Record) → IsFormed n r → IsFormed n (with_labels labels n r)
formed_labelled n labels formed r own =
    let texts = texts_parts n r own in
    let order = own.known.1 in
    let changed = own.known.2 in
    record { texts = texts_from r.key r.parent labels texts.0 texts.1 formed; above = own.above; known = (own.known.0, omega (arith, order, changed), omega arith) }

-- ---- what stands at a place

-- a namespace that has another limit
pub space_limited : (limit : Usage) → is_limit limit ≡ true → (n : Namespace) → is_taken n ≡ true → is_space n ≡ true → is_space (record n { limit = limit }) ≡ true
space_limited limit is n taken space = elim (or_cases (is_namespace n) (not (is_taken n) && (n.limit.blocks == 0) && (n.limit.inodes == 0)) space) [
  | inl formed ↦ or_left (is_namespace (record n { limit = limit })) (not (is_taken n) && (limit.blocks == 0) && (limit.inodes == 0)) (and_from (is_text 255 n.name) (is_limit limit) (and_parts (is_text 255 n.name) (is_limit n.limit) formed).0 is)
  | inr none ↦ absurd (true≢false (sym taken ∙ not-true (is_taken n) (and_parts (not (is_taken n)) (n.limit.blocks == 0) (and_parts (not (is_taken n) && (n.limit.blocks == 0)) (n.limit.inodes == 0) none).0).0))
]
