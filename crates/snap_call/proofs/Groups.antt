-- The records of one namespace, in groups by how their keys begin: what a change of one group makes of them.
use Rattle.std.proofs.Common.{◌≡◌, ◌≢◌, ℕ, zero, suc, ◌-◌, Bool, true, false, cond, List, [], ◌∷◌, ◌++◌, length, take, map, Option, Some, None, refl, sym, ap, ◌∙◌, subst, arith, append_assoc}
use Rattle.std.proofs.lemmas.List.{length-append, length-map, map-append}
use Rattle.std.specs.Prelude.{if◌then◌else◌, ◌==◌, ◌&&◌, not, bytes_eq, filter, option_and_then}
use Rattle.std.specs.List.{AllByRecursion}
use Rattle.std.specs.List.Sorted.{IsStrictlySortedBy}
use Rattle.std.specs.Map.{keys_of, values_of, lookup, set_value, remove_entry}
use Rattle.std.specs.BTreeMap.{is_at, insert_entry}
use Rattle.std.specs.declared.cmp.Ordering.{Ordering}
use Rattle.std.specs.declared.cmp.Ordering.TheVariants.{Less, Equal, Greater}
use Rattle.std.specs.Ordering.{is_lt, is_le, is_eq, nat_cmp, ordering_then, match_ordering}
use Rattle.std.specs.Cmp.{IsTotalOrder}
use Rattle.std.specs.Cmp.Lexicographic.{slice_cmp}
use Rattle.std.specs.Option.{unwrap_or}
use Rattle.std.proofs.lemmas.Bool.{and_parts, false_from_ne_true}
use Rattle.std.proofs.lemmas.Cmp.{nat_cmp_total, nat_list_cmp_total, on_total, tied_itself}
use Rattle.std.proofs.lemmas.Map.Lookups.{exact_bytes}
use Rattle.std.proofs.lemmas.Slice.Eq.{bytes_eq-Decides}
use Rattle.arrayvec.specs.ArrayVec.{ArrayVec}
use Rattle.snap_record.specs.Labels.{Bytes}
use Rattle.snap_record.specs.Records.{info_of}
use Rattle.snap_record.specs.declared.filter.Filter.{Filter}
use Rattle.snap_record.specs.declared.info.Info.{Info}
use Rattle.snap_record.specs.declared.record.Record.{Record}
use Rattle.snap_call.specs.Records.{record_cmp, is_named, record_at, has_key, with_record, without_first, without_key}
use Rattle.snap_call.specs.Spaces.{IsOf, AreOfOne, first_place_of, AreGroups, joined_records, beginning, beginning_cmp, is_key_after, is_asked, infos_of, amended}
use Rattle.snap_call.proofs.Lists.{all-append, all-map, all-with_record, all-without, list_any-none, none-passes, some_same, none_some}
use Rattle.snap_call.proofs.Entries.{without-none, infos-begin}
use Rattle.snap_call.proofs.Joined.{all-amended, amended-stops, without-stops, find-others, find-stops, filter-append, filter-none}

-- a group with the bytes that its keys begin with
abbrev pub Entry : Type 0
Entry = ArrayVec ℕ × List Record

-- ---- how keys begin

-- texts that begin otherwise are ordered as their beginnings
begun-apart : (n : ℕ) (a b : Bytes) (o : Ordering) → (o ≡ Equal → ⊥) → slice_cmp nat_cmp (take n a) (take n b) ≡ o → slice_cmp nat_cmp a b ≡ o
begun-apart zero a b o apart is = absurd (apart (sym is))
begun-apart (suc n) [] [] o apart is = is
begun-apart (suc n) [] (y ∷ ys) o apart is = is
begun-apart (suc n) (x ∷ xs) [] o apart is = is
begun-apart (suc n) (x ∷ xs) (y ∷ ys) o apart is = step (nat_cmp x y) is (begun-apart n xs ys o apart)
  where
    step : (c : Ordering) → ordering_then c (slice_cmp nat_cmp (take n xs) (take n ys)) ≡ o → (slice_cmp nat_cmp (take n xs) (take n ys) ≡ o → slice_cmp nat_cmp xs ys ≡ o) → ordering_then c (slice_cmp nat_cmp xs ys) ≡ o
    step Less here next = here
    step Equal here next = next here
    step Greater here next = here

less-equal : Less ≡ Equal → ⊥
less-equal e = cc

greater-equal : Greater ≡ Equal → ⊥
greater-equal e = cc

beginning_total : IsTotalOrder beginning_cmp
beginning_total = on_total (λ (b : ArrayVec ℕ). b.items) nat_list_cmp_total

-- the bytes compare so with those that the records' keys begin with
abbrev AreBegunBy : Ordering → ArrayVec ℕ → List Record → Type 0
AreBegunBy o p rs = AllByRecursion (λ r. slice_cmp nat_cmp p.items (beginning r.key) ≡ o) rs

-- the records' keys begin with the bytes
abbrev AreIn : ArrayVec ℕ → List Record → Type 0
AreIn p rs = AllByRecursion (λ r. beginning r.key ≡ p.items) rs

-- those of each group begin with its own
abbrev AreBegun : List Entry → Type 0
AreBegun es = AllByRecursion (λ e. AreIn e.0 e.1) es

begun-by : (o : Ordering) (p b : ArrayVec ℕ) (rs : List Record) → beginning_cmp p b ≡ o → AreIn b rs → AreBegunBy o p rs
begun-by o p b rs is all = all-map (λ r. beginning r.key ≡ b.items) (λ r. slice_cmp nat_cmp p.items (beginning r.key) ≡ o) (λ r e. ap (slice_cmp nat_cmp p.items) e ∙ is) rs all

-- the keys of later groups are greater
abbrev AreLater : ArrayVec ℕ → List Entry → Type 0
AreLater p es = AllByRecursion (λ k. beginning_cmp p k ≡ Less) (keys_of es)

later-begun : (p : ArrayVec ℕ) (es : List Entry) → AreLater p es → AreBegun es → AreBegunBy Less p (joined_records (values_of es))
later-begun p [] later begun = tt
later-begun p (e ∷ es) later begun =
    all-append (λ r. slice_cmp nat_cmp p.items (beginning r.key) ≡ Less) e.1 (joined_records (values_of es)) (begun-by Less p e.0 e.1 later.0 begun.0) (later-begun p es later.1 begun.1)

later-than : (p : ArrayVec ℕ) (b : ArrayVec ℕ) (es : List Entry) → beginning_cmp p b ≡ Less → AreLater b es → AreLater p es
later-than p b [] is later = tt
later-than p b (e ∷ es) is later = (beginning_total.trans p b e.0 is later.0, later-than p b es is later.1)

later-same : (p : ArrayVec ℕ) (b : ArrayVec ℕ) (es : List Entry) → beginning_cmp p b ≡ Equal → AreLater b es → AreLater p es
later-same p b [] is later = tt
later-same p b (e ∷ es) is later = (beginning_total.congr p b e.0 is ∙ later.0, later-same p b es is later.1)

-- the test of such bytes, as the map's calls have it
abbrev pub at_beginning : ArrayVec ℕ → ArrayVec ℕ → Bool
at_beginning p = is_at (beginning_cmp p)

later-none : (p : ArrayVec ℕ) (es : List Entry) → AreLater p es → lookup (at_beginning p) es ≡ None
later-none p [] later = refl
later-none p (e ∷ es) later = ap (λ o. cond (is_eq o) (Some e.1) (lookup (at_beginning p) es)) later.0 ∙ later-none p es later.1

all-split : (P : Record → Type 0) (rs ts : List Record) → AllByRecursion P (rs ++ ts) → AllByRecursion P rs × AllByRecursion P ts
all-split P [] ts all = (tt, all)
all-split P (r ∷ rs) ts all = let h = all-split P rs ts all.1 in ((all.0, h.0), h.1)

-- the records of all groups
abbrev pub all_of : List Entry → List Record
all_of es = joined_records (values_of es)

-- ---- a change of what one group has

module _ (place : ℕ) (p : ArrayVec ℕ) (f : List Record → List Record)
    (skips : (rs ts : List Record) → IsOf place rs → AreBegunBy Greater p rs → f (rs ++ ts) ≡ rs ++ f ts)
    (stops : (rs ts : List Record) → IsOf place ts → AreBegunBy Less p ts → f (rs ++ ts) ≡ f rs ++ ts) where
  changed : (es : List Entry) (g : List Record) → IsStrictlySortedBy beginning_cmp (keys_of es) → AreBegun es → IsOf place (all_of es) → lookup (at_beginning p) es ≡ Some g
      → all_of (set_value (at_beginning p) es (f g)) ≡ f (all_of es)
  unfolding IsStrictlySortedBy
  changed [] g sorted begun of found = absurd (none_some g found)
  changed (e ∷ es) g sorted begun of found = step (beginning_cmp p e.0) refl found (changed es g sorted.1 begun.1 parts.1)
    where
      parts : IsOf place e.1 × IsOf place (all_of es)
      parts = all-split (λ r. r.namespace ≡ place) e.1 (all_of es) of

      step : (o : Ordering) → beginning_cmp p e.0 ≡ o → cond (is_eq o) (Some e.1) (lookup (at_beginning p) es) ≡ Some g → (lookup (at_beginning p) es ≡ Some g → all_of (set_value (at_beginning p) es (f g)) ≡ f (all_of es))
          → all_of (cond (is_eq o) ((e.0, f g) ∷ es) (e ∷ set_value (at_beginning p) es (f g))) ≡ f (e.1 ++ all_of es)
      step Less is here next = absurd (none_some g (sym (later-none p es (later-than p e.0 es is sorted.0)) ∙ here))
      step Equal is here next = ap (λ l. f l ++ all_of es) (sym (some_same e.1 g here)) ∙ sym (stops e.1 (all_of es) parts.1 (later-begun p es (later-same p e.0 es is sorted.0) begun.1))
      step Greater is here next = ap (λ l. e.1 ++ l) (next here) ∙ sym (skips e.1 (all_of es) parts.0 (begun-by Greater p e.0 e.1 is begun.0))

  unchanged : (es : List Entry) → f [] ≡ [] → IsStrictlySortedBy beginning_cmp (keys_of es) → AreBegun es → IsOf place (all_of es) → lookup (at_beginning p) es ≡ None → f (all_of es) ≡ all_of es
  unfolding IsStrictlySortedBy
  unchanged [] none sorted begun of absent = none
  unchanged (e ∷ es) none sorted begun of absent = step (beginning_cmp p e.0) refl absent (unchanged es none sorted.1 begun.1 parts.1)
    where
      parts : IsOf place e.1 × IsOf place (all_of es)
      parts = all-split (λ r. r.namespace ≡ place) e.1 (all_of es) of

      step : (o : Ordering) → beginning_cmp p e.0 ≡ o → cond (is_eq o) (Some e.1) (lookup (at_beginning p) es) ≡ None → (lookup (at_beginning p) es ≡ None → f (all_of es) ≡ all_of es) → f (e.1 ++ all_of es) ≡ e.1 ++ all_of es
      step Less is here next =
          stops [] (e.1 ++ all_of es) of
          (all-append (λ r. slice_cmp nat_cmp p.items (beginning r.key) ≡ Less) e.1 (all_of es) (begun-by Less p e.0 e.1 is begun.0) (later-begun p es (later-than p e.0 es is sorted.0) begun.1))
          ∙ ap (λ l. l ++ (e.1 ++ all_of es)) none
      step Equal is here next = absurd (none_some e.1 (sym here))
      step Greater is here next = skips e.1 (all_of es) parts.0 (begun-by Greater p e.0 e.1 is begun.0) ∙ ap (λ l. e.1 ++ l) (next here)

-- ---- by name

module _ (place : ℕ) (key : Bytes) (p : ArrayVec ℕ) (own : p.items ≡ beginning key) where
  -- a record whose key begins otherwise has another name
  unnamed : (o : Ordering) (rs : List Record) → (o ≡ Equal → ⊥) → AreBegunBy o p rs → AllByRecursion (λ r. is_named place key r ≡ false) rs
  unnamed o rs apart all = all-map (λ r. slice_cmp nat_cmp p.items (beginning r.key) ≡ o) (λ r. is_named place key r ≡ false) (λ r e. false_from_ne_true (is_named place key r) (other r e)) rs all
    where
      other : (r : Record) → slice_cmp nat_cmp p.items (beginning r.key) ≡ o → is_named place key r ≡ true → ⊥
      other r e is =
          let same : r.key ≡ key = (bytes_eq-Decides r.key key).0 (and_parts (r.namespace == place) (bytes_eq r.key key) is).1 in
          apart (sym e ∙ ap (λ k. slice_cmp nat_cmp p.items (beginning k)) same ∙ ap (slice_cmp nat_cmp p.items) (sym own) ∙ tied_itself nat_list_cmp_total p.items)

  abbrev named : Record → Bool
  named r = is_named place key r

  without-skips : (rs ts : List Record) → IsOf place rs → AreBegunBy Greater p rs → without_first named (rs ++ ts) ≡ rs ++ without_first named ts
  without-skips [] ts of all = refl
  without-skips (r ∷ rs) ts of all =
      ap (λ b. if b then rs ++ ts else r ∷ without_first named (rs ++ ts)) (unnamed Greater (r ∷ []) greater-equal (all.0, tt)).0 ∙ ap (λ l. r ∷ l) (without-skips rs ts of.1 all.1)

  without-ends : (rs ts : List Record) → IsOf place ts → AreBegunBy Less p ts → without_first named (rs ++ ts) ≡ without_first named rs ++ ts
  without-ends rs ts of all = without-stops named rs ts (unnamed Less ts less-equal all)

  module _ (f : Record → Record) where
    amended-skips : (rs ts : List Record) → IsOf place rs → AreBegunBy Greater p rs → amended named f (rs ++ ts) ≡ rs ++ amended named f ts
    amended-skips [] ts of all = refl
    amended-skips (r ∷ rs) ts of all =
        ap (λ b. if b then f r ∷ (rs ++ ts) else r ∷ amended named f (rs ++ ts)) (unnamed Greater (r ∷ []) greater-equal (all.0, tt)).0 ∙ ap (λ l. r ∷ l) (amended-skips rs ts of.1 all.1)

    amended-ends : (rs ts : List Record) → IsOf place ts → AreBegunBy Less p ts → amended named f (rs ++ ts) ≡ amended named f rs ++ ts
    amended-ends rs ts of all = amended-stops named f rs ts (unnamed Less ts less-equal all)

  module _ (es : List Entry) (groups : AreGroups es) (of : IsOf place (all_of es)) where
    pub groups-without : (g : List Record) → lookup (at_beginning p) es ≡ Some g → all_of (set_value (at_beginning p) es (without_first named g)) ≡ without_first named (all_of es)
    groups-without g found = changed place p (without_first named) without-skips without-ends es g groups.ordered groups.begun of found

    pub groups-without_none : lookup (at_beginning p) es ≡ None → without_first named (all_of es) ≡ all_of es
    groups-without_none absent = unchanged place p (without_first named) without-skips without-ends es refl groups.ordered groups.begun of absent

    pub groups-amended : (f : Record → Record) (g : List Record) → lookup (at_beginning p) es ≡ Some g → all_of (set_value (at_beginning p) es (amended named f g)) ≡ amended named f (all_of es)
    groups-amended f g found = changed place p (amended named f) (amended-skips f) (amended-ends f) es g groups.ordered groups.begun of found

    pub groups-amended_none : (f : Record → Record) → lookup (at_beginning p) es ≡ None → amended named f (all_of es) ≡ all_of es
    groups-amended_none f absent = unchanged place p (amended named f) (amended-skips f) (amended-ends f) es refl groups.ordered groups.begun of absent

  found-in : (es : List Entry) → IsStrictlySortedBy beginning_cmp (keys_of es) → AreBegun es → record_at place key (all_of es) ≡ option_and_then (record_at place key) (lookup (at_beginning p) es)
  unfolding IsStrictlySortedBy
  found-in [] sorted begun = refl
  found-in (e ∷ es) sorted begun = step (beginning_cmp p e.0) refl (found-in es sorted.1 begun.1)
    where
      step : (o : Ordering) → beginning_cmp p e.0 ≡ o → record_at place key (all_of es) ≡ option_and_then (record_at place key) (lookup (at_beginning p) es)
          → record_at place key (e.1 ++ all_of es) ≡ option_and_then (record_at place key) (cond (is_eq o) (Some e.1) (lookup (at_beginning p) es))
      step Less is next = find-others named e.1 (all_of es) (unnamed Less e.1 less-equal (begun-by Less p e.0 e.1 is begun.0)) ∙ next
      step Equal is next = find-stops named e.1 (all_of es) (unnamed Less (all_of es) less-equal (later-begun p es (later-same p e.0 es is sorted.0) begun.1))
      step Greater is next = find-others named e.1 (all_of es) (unnamed Greater e.1 greater-equal (begun-by Greater p e.0 e.1 is begun.0)) ∙ next

  pub groups-found : (es : List Entry) (g : List Record) → AreGroups es → lookup (at_beginning p) es ≡ Some g → record_at place key g ≡ record_at place key (all_of es)
  groups-found es g groups found = sym (found-in es groups.ordered groups.begun ∙ ap (option_and_then (record_at place key)) found)

  pub groups-found_none : (es : List Entry) → AreGroups es → lookup (at_beginning p) es ≡ None → record_at place key (all_of es) ≡ None
  groups-found_none es groups absent = found-in es groups.ordered groups.begun ∙ ap (option_and_then (record_at place key)) absent

-- ---- the groups of a changed map

-- what holds of all records holds of those of a group
pub all-found : (P : Record → Type 0) (test : ArrayVec ℕ → Bool) (es : List Entry) (g : List Record) → lookup test es ≡ Some g → AllByRecursion P (all_of es) → AllByRecursion P g
all-found P test [] g found all = absurd (none_some g found)
all-found P test (e ∷ es) g found all = step (test e.0) found (λ later. all-found P test es g later parts.1)
  where
    parts : AllByRecursion P e.1 × AllByRecursion P (all_of es)
    parts = all-split P e.1 (all_of es) all

    step : (b : Bool) → cond b (Some e.1) (lookup test es) ≡ Some g → (lookup test es ≡ Some g → AllByRecursion P g) → AllByRecursion P g
    step true here next = subst (AllByRecursion P) (some_same e.1 g here) parts.0
    step false here next = next here

in-same : (p b : ArrayVec ℕ) (rs : List Record) → beginning_cmp p b ≡ Equal → AreIn p rs → AreIn b rs
in-same p b rs is all = subst (λ bs. AllByRecursion (λ r. beginning r.key ≡ bs) rs) (exact_bytes p.items b.items is) all

in-back : (p b : ArrayVec ℕ) (rs : List Record) → beginning_cmp p b ≡ Equal → AreIn b rs → AreIn p rs
in-back p b rs is all = subst (λ bs. AllByRecursion (λ r. beginning r.key ≡ bs) rs) (sym (exact_bytes p.items b.items is)) all

module _ (p : ArrayVec ℕ) where
  begun-found : (es : List Entry) (g : List Record) → lookup (at_beginning p) es ≡ Some g → AreBegun es → AreIn p g
  begun-found [] g found begun = absurd (none_some g found)
  begun-found (e ∷ es) g found begun = step (beginning_cmp p e.0) refl found (λ later. begun-found es g later begun.1)
    where
      step : (o : Ordering) → beginning_cmp p e.0 ≡ o → cond (is_eq o) (Some e.1) (lookup (at_beginning p) es) ≡ Some g → (lookup (at_beginning p) es ≡ Some g → AreIn p g) → AreIn p g
      step Less is here next = next here
      step Equal is here next = subst (AreIn p) (some_same e.1 g here) (in-back p e.0 e.1 is begun.0)
      step Greater is here next = next here

  begun-set : (es : List Entry) (w : List Record) → AreIn p w → AreBegun es → AreBegun (set_value (at_beginning p) es w)
  begun-set [] w all begun = tt
  begun-set (e ∷ es) w all begun = step (beginning_cmp p e.0) refl (begun-set es w all begun.1)
    where
      step : (o : Ordering) → beginning_cmp p e.0 ≡ o → AreBegun (set_value (at_beginning p) es w) → AreBegun (cond (is_eq o) ((e.0, w) ∷ es) (e ∷ set_value (at_beginning p) es w))
      step Less is next = (begun.0, next)
      step Equal is next = (in-same p e.0 w is all, begun.1)
      step Greater is next = (begun.0, next)

  begun-insert : (es : List Entry) (w : List Record) → AreIn p w → AreBegun es → AreBegun (insert_entry beginning_cmp es p w)
  begun-insert [] w all begun = (all, tt)
  begun-insert (e ∷ es) w all begun = step (beginning_cmp p e.0) refl (begun-insert es w all begun.1)
    where
      step : (o : Ordering) → beginning_cmp p e.0 ≡ o → AreBegun (insert_entry beginning_cmp es p w) → AreBegun (match_ordering o ((p, w) ∷ e ∷ es) ((e.0, w) ∷ es) (e ∷ insert_entry beginning_cmp es p w))
      step Less is next = (all, begun)
      step Equal is next = (in-same p e.0 w is all, begun.1)
      step Greater is next = (begun.0, next)

-- what holds of each entry holds of those that are left
left-remove : (P : Entry → Type 0) (test : ArrayVec ℕ → Bool) (es : List Entry) → AllByRecursion P es → AllByRecursion P (remove_entry test es)
left-remove P test [] all = tt
left-remove P test (e ∷ es) all = elim (test e.0) as (λ b. AllByRecursion P (cond b es (e ∷ remove_entry test es))) [ true ↦ all.1 | false ↦ (all.0, left-remove P test es all.1) ]

-- what holds of each group
module _ (P : List Record → Type 0) (test : ArrayVec ℕ → Bool) where
  each-found : (es : List Entry) (g : List Record) → lookup test es ≡ Some g → AllByRecursion (λ e. P e.1) es → P g
  each-found [] g found all = absurd (none_some g found)
  each-found (e ∷ es) g found all = step (test e.0) found (λ later. each-found es g later all.1)
    where
      step : (b : Bool) → cond b (Some e.1) (lookup test es) ≡ Some g → (lookup test es ≡ Some g → P g) → P g
      step true here next = subst P (some_same e.1 g here) all.0
      step false here next = next here

  each-set : (es : List Entry) (w : List Record) → P w → AllByRecursion (λ e. P e.1) es → AllByRecursion (λ e. P e.1) (set_value test es w)
  each-set [] w here all = tt
  each-set (e ∷ es) w here all = elim (test e.0) as (λ b. AllByRecursion (λ x. P x.1) (cond b ((e.0, w) ∷ es) (e ∷ set_value test es w))) [ true ↦ (here, all.1) | false ↦ (all.0, each-set es w here all.1) ]

each-insert : (P : List Record → Type 0) (p : ArrayVec ℕ) (es : List Entry) (w : List Record) → P w → AllByRecursion (λ e. P e.1) es → AllByRecursion (λ e. P e.1) (insert_entry beginning_cmp es p w)
each-insert P p [] w here all = (here, tt)
each-insert P p (e ∷ es) w here all =
    elim (beginning_cmp p e.0) as (λ o. AllByRecursion (λ x. P x.1) (match_ordering o ((p, w) ∷ e ∷ es) ((e.0, w) ∷ es) (e ∷ insert_entry beginning_cmp es p w))) [
      | Less ↦ (here, all)
      | Equal ↦ (here, all.1)
      | Greater ↦ (all.0, each-insert P p es w here all.1)
    ]

-- there is a record
abbrev HasOne : List Record → Type 0
HasOne rs = rs ≢ []

one-more : (r : Record) (rs : List Record) → HasOne (r ∷ rs)
one-more r rs none = cc

one-with_record : (r : Record) (rs : List Record) → HasOne (with_record r rs)
one-with_record r [] = one-more r []
one-with_record r (t ∷ ts) = elim (is_lt (record_cmp r t)) as (λ b. HasOne (if b then r ∷ t ∷ ts else t ∷ with_record r ts)) [ true ↦ one-more r (t ∷ ts) | false ↦ one-more t (with_record r ts) ]

one-amended : (test : Record → Bool) (f : Record → Record) (rs : List Record) → HasOne rs → HasOne (amended test f rs)
one-amended test f [] some = some
one-amended test f (r ∷ rs) some = elim (test r) as (λ b. HasOne (if b then f r ∷ rs else r ∷ amended test f rs)) [ true ↦ one-more (f r) rs | false ↦ one-more r (amended test f rs) ]

remove-set : (test : ArrayVec ℕ → Bool) (es : List Entry) (w : List Record) → remove_entry test (set_value test es w) ≡ remove_entry test es
remove-set test [] w = refl
remove-set test (e ∷ es) w = step (test e.0) refl (remove-set test es w)
  where
    step : (b : Bool) → test e.0 ≡ b → remove_entry test (set_value test es w) ≡ remove_entry test es → remove_entry test (cond b ((e.0, w) ∷ es) (e ∷ set_value test es w)) ≡ cond b es (e ∷ remove_entry test es)
    step true is next = ap (λ b. cond b es ((e.0, w) ∷ remove_entry test es)) is
    step false is next = ap (λ b. cond b (set_value test es w) (e ∷ remove_entry test (set_value test es w))) is ∙ ap (λ l. e ∷ l) next

-- records of a namespace are of one
pub one-of : (place : ℕ) (rs : List Record) → IsOf place rs → AreOfOne rs
one-of place [] of = tt
one-of place (r ∷ rs) of = subst (λ n. IsOf n (r ∷ rs)) (sym of.0) of

pub set-same : (test : ArrayVec ℕ → Bool) (es : List Entry) (g : List Record) → lookup test es ≡ Some g → set_value test es g ≡ es
set-same test [] g found = refl
set-same test (e ∷ es) g found = step (test e.0) found (set-same test es g)
  where
    step : (b : Bool) → cond b (Some e.1) (lookup test es) ≡ Some g → (lookup test es ≡ Some g → set_value test es g ≡ es) → cond b ((e.0, g) ∷ es) (e ∷ set_value test es g) ≡ e ∷ es
    step true here next = ap (λ x. (e.0, x) ∷ es) (sym (some_same e.1 g here))
    step false here next = ap (λ l. e ∷ l) (next here)

-- a group without records is no loss
pub groups-less : (test : ArrayVec ℕ → Bool) (es : List Entry) (g : List Record) → lookup test es ≡ Some g → g ≡ [] → all_of (remove_entry test es) ≡ all_of es
groups-less test [] g found none = absurd (none_some g found)
groups-less test (e ∷ es) g found none = step (test e.0) found (λ later. groups-less test es g later none)
  where
    step : (b : Bool) → cond b (Some e.1) (lookup test es) ≡ Some g → (lookup test es ≡ Some g → all_of (remove_entry test es) ≡ all_of es) → all_of (cond b es (e ∷ remove_entry test es)) ≡ e.1 ++ all_of es
    step true here next = sym (ap (λ l. l ++ all_of es) (some_same e.1 g here ∙ none))
    step false here next = ap (λ l. e.1 ++ l) (next here)

lookup-set : (test : ArrayVec ℕ → Bool) (es : List Entry) (g w : List Record) → lookup test es ≡ Some g → lookup test (set_value test es w) ≡ Some w
lookup-set test [] g w found = absurd (none_some g found)
lookup-set test (e ∷ es) g w found = step (test e.0) refl found (lookup-set test es g w)
  where
    step : (b : Bool) → test e.0 ≡ b → cond b (Some e.1) (lookup test es) ≡ Some g → (lookup test es ≡ Some g → lookup test (set_value test es w) ≡ Some w) → lookup test (cond b ((e.0, w) ∷ es) (e ∷ set_value test es w)) ≡ Some w
    step true is here next = ap (λ b. cond b (Some w) (lookup test es)) is
    step false is here next = ap (λ b. cond b (Some e.1) (lookup test (set_value test es w))) is ∙ next here

-- a group that another takes the place of
module _ (es ts : List Entry) (p : ArrayVec ℕ) (g w : List Record) (groups : AreGroups es) (found : lookup (at_beginning p) es ≡ Some g) (is : ts ≡ set_value (at_beginning p) es w) (sorted : IsStrictlySortedBy beginning_cmp (keys_of ts)) (key : Bytes) (own : p.items ≡ beginning key) where
  of-group : (place : ℕ) → IsOf place (all_of es) → IsOf place g
  of-group place of = all-found (λ r. r.namespace ≡ place) (at_beginning p) es g found of

  abbrev here : ℕ
  here = first_place_of (all_of es)

  module _ (f : Record → Record) (changes : (place : ℕ) → IsOf place g → w ≡ amended (is_named place key) f g) where
    pub put-amended : (place : ℕ) → IsOf place (all_of es) → all_of ts ≡ amended (is_named place key) f (all_of es)
    put-amended place of = ap all_of (is ∙ ap (set_value (at_beginning p) es) (changes place (of-group place of))) ∙ groups-amended place key p own es groups of f g found

    pub groups-put_amended : ((r : Record) → (f r).key ≡ r.key) → ((r : Record) → (f r).namespace ≡ r.namespace) → AreGroups ts
    groups-put_amended same stays = record {
      begun = subst AreBegun (sym is) (begun-set p es w (subst (AreIn p) (sym (changes here (of-group here groups.alike)))
          (all-amended (is_named here key) f (λ r. beginning r.key ≡ p.items) g (λ r e. ap beginning (same r) ∙ e) (begun-found p es g found groups.begun))) groups.begun);
      full = subst (AllByRecursion (λ e. HasOne e.1)) (sym is) (each-set HasOne (at_beginning p) es w (subst HasOne (sym (changes here (of-group here groups.alike))) (one-amended (is_named here key) f g (each-found HasOne (at_beginning p) es g found groups.full))) groups.full);
      ordered = sorted;
      alike = one-of here (all_of ts) (subst (IsOf here) (sym (put-amended here groups.alike)) (all-amended (is_named here key) f (λ r. r.namespace ≡ here) (all_of es) (λ r e. stays r ∙ e) groups.alike));
    }

  module _ (taken : (place : ℕ) → IsOf place g → w ≡ without_key place key g) where
    pub put-without : (place : ℕ) → IsOf place (all_of es) → all_of ts ≡ without_key place key (all_of es)
    put-without place of = ap all_of (is ∙ ap (set_value (at_beginning p) es) (taken place (of-group place of))) ∙ groups-without place key p own es groups of g found

    alike-without : AreOfOne (all_of ts)
    alike-without = one-of here (all_of ts) (subst (IsOf here) (sym (put-without here groups.alike)) (all-without (is_named here key) (λ r. r.namespace ≡ here) (all_of es) groups.alike))

    -- some records are left
    pub groups-put_without : w ≢ [] → AreGroups ts
    groups-put_without some = record {
      begun = subst AreBegun (sym is) (begun-set p es w (subst (AreIn p) (sym (taken here (of-group here groups.alike))) (all-without (is_named here key) (λ r. beginning r.key ≡ p.items) g (begun-found p es g found groups.begun))) groups.begun);
      full = subst (AllByRecursion (λ e. HasOne e.1)) (sym is) (each-set HasOne (at_beginning p) es w some groups.full);
      ordered = sorted;
      alike = alike-without;
    }

    -- none went
    pub groups-put_none : ((place : ℕ) → IsOf place g → record_at place key g ≡ None) → AreGroups ts
    groups-put_none none =
        let same : w ≡ g = taken here (of-group here groups.alike) ∙ without-none (is_named here key) g (none here (of-group here groups.alike)) in
        subst AreGroups (sym (is ∙ ap (set_value (at_beginning p) es) same ∙ set-same (at_beginning p) es g found)) groups

    -- none are left, and the group goes
    module _ (us : List Entry) (none : w ≡ []) (gone : us ≡ remove_entry (at_beginning p) ts) where
      pub all-removed : all_of us ≡ all_of ts
      all-removed = ap all_of gone ∙ groups-less (at_beginning p) ts w (ap (lookup (at_beginning p)) is ∙ lookup-set (at_beginning p) es g w found) none

      rest : us ≡ remove_entry (at_beginning p) es
      rest = gone ∙ ap (remove_entry (at_beginning p)) is ∙ remove-set (at_beginning p) es w

      pub groups-removed : IsStrictlySortedBy beginning_cmp (keys_of us) → AreGroups us
      groups-removed still = record {
        begun = subst AreBegun (sym rest) (left-remove (λ e. AreIn e.0 e.1) (at_beginning p) es groups.begun);
        full = subst (AllByRecursion (λ e. HasOne e.1)) (sym rest) (left-remove (λ e. HasOne e.1) (at_beginning p) es groups.full);
        ordered = still;
        alike = subst AreOfOne (sym all-removed) alike-without;
      }

-- a name that no record has, none of a group has
pub absent-in : (place : ℕ) (key : Bytes) (test : ArrayVec ℕ → Bool) (es : List Entry) (g : List Record) → lookup test es ≡ Some g → has_key place key (all_of es) ≡ false → has_key place key g ≡ false
absent-in place key test es g found none = list_any-none (is_named place key) g (all-found (λ r. is_named place key r ≡ false) test es g found (none-passes (is_named place key) (all_of es) none))

-- ---- one record more

module _ (r : Record) (p : ArrayVec ℕ) (own : p.items ≡ beginning r.key) where
  -- it stands to a record whose key begins otherwise as their beginnings do
  stands : (o : Ordering) (t : Record) → (o ≡ Equal → ⊥) → t.namespace ≡ r.namespace → slice_cmp nat_cmp p.items (beginning t.key) ≡ o → record_cmp r t ≡ o
  stands o t apart of is =
      ap (λ n. ordering_then (nat_cmp r.namespace n) (slice_cmp nat_cmp r.key t.key)) of
      ∙ ap (λ c. ordering_then c (slice_cmp nat_cmp r.key t.key)) (tied_itself nat_cmp_total r.namespace)
      ∙ begun-apart 16 r.key t.key o apart (ap (λ b. slice_cmp nat_cmp b (beginning t.key)) (sym own) ∙ is)

  with-skips : (rs ts : List Record) → IsOf r.namespace rs → AreBegunBy Greater p rs → with_record r (rs ++ ts) ≡ rs ++ with_record r ts
  with-skips [] ts of all = refl
  with-skips (t ∷ rs) ts of all =
      ap (λ o. if is_lt o then r ∷ t ∷ (rs ++ ts) else t ∷ with_record r (rs ++ ts)) (stands Greater t greater-equal of.0 all.0) ∙ ap (λ l. t ∷ l) (with-skips rs ts of.1 all.1)

  with-first : (ts : List Record) → IsOf r.namespace ts → AreBegunBy Less p ts → with_record r ts ≡ r ∷ ts
  with-first [] of all = refl
  with-first (t ∷ ts) of all = ap (λ o. if is_lt o then r ∷ t ∷ ts else t ∷ with_record r ts) (stands Less t less-equal of.0 all.0)

  with-ends : (rs ts : List Record) → IsOf r.namespace ts → AreBegunBy Less p ts → with_record r (rs ++ ts) ≡ with_record r rs ++ ts
  with-ends [] ts of all = with-first ts of all
  with-ends (t ∷ rs) ts of all =
      elim (is_lt (record_cmp r t)) as (λ b. (if b then r ∷ t ∷ (rs ++ ts) else t ∷ with_record r (rs ++ ts)) ≡ (if b then r ∷ t ∷ rs else t ∷ with_record r rs) ++ ts) [
        | true ↦ refl
        | false ↦ ap (λ l. t ∷ l) (with-ends rs ts of all)
      ]

  -- the records that its group has
  abbrev pub group_of : List Entry → List Record
  group_of es = unwrap_or (lookup (at_beginning p) es) []

  group-begun : (es : List Entry) → AreBegun es → AreIn p (group_of es)
  group-begun es begun = by (lookup (at_beginning p) es) refl
    where
      by : (o : Option (List Record)) → lookup (at_beginning p) es ≡ o → AreIn p (unwrap_or o [])
      by None is = tt
      by (Some g) is = begun-found p es g is begun

  added-in : (es : List Entry) → IsStrictlySortedBy beginning_cmp (keys_of es) → AreBegun es → IsOf r.namespace (all_of es) → all_of (insert_entry beginning_cmp es p (with_record r (group_of es))) ≡ with_record r (all_of es)
  unfolding IsStrictlySortedBy
  added-in [] sorted begun of = refl
  added-in (e ∷ es) sorted begun of = step (beginning_cmp p e.0) refl (added-in es sorted.1 begun.1 parts.1)
    where
      parts : IsOf r.namespace e.1 × IsOf r.namespace (all_of es)
      parts = all-split (λ t. t.namespace ≡ r.namespace) e.1 (all_of es) of

      step : (o : Ordering) → beginning_cmp p e.0 ≡ o → all_of (insert_entry beginning_cmp es p (with_record r (group_of es))) ≡ with_record r (all_of es)
          → (let w = with_record r (unwrap_or (cond (is_eq o) (Some e.1) (lookup (at_beginning p) es)) []) in
          all_of (match_ordering o ((p, w) ∷ e ∷ es) ((e.0, w) ∷ es) (e ∷ insert_entry beginning_cmp es p w))) ≡ with_record r (e.1 ++ all_of es)
      step Less is next =
          ap (λ g. with_record r (unwrap_or g []) ++ (e.1 ++ all_of es)) (later-none p es (later-than p e.0 es is sorted.0))
          ∙ sym (with-first (e.1 ++ all_of es) of (all-append (λ t. slice_cmp nat_cmp p.items (beginning t.key) ≡ Less) e.1 (all_of es) (begun-by Less p e.0 e.1 is begun.0) (later-begun p es (later-than p e.0 es is sorted.0) begun.1)))
      step Equal is next = sym (with-ends e.1 (all_of es) parts.1 (later-begun p es (later-same p e.0 es is sorted.0) begun.1))
      step Greater is next = ap (λ l. e.1 ++ l) next ∙ sym (with-skips e.1 (all_of es) parts.0 (begun-by Greater p e.0 e.1 is begun.0))

  -- a group that is there takes the place of itself
  insert-set : (es : List Entry) (g w : List Record) → IsStrictlySortedBy beginning_cmp (keys_of es) → lookup (at_beginning p) es ≡ Some g → insert_entry beginning_cmp es p w ≡ set_value (at_beginning p) es w
  unfolding IsStrictlySortedBy
  insert-set [] g w sorted found = absurd (none_some g found)
  insert-set (e ∷ es) g w sorted found = step (beginning_cmp p e.0) refl found (insert-set es g w sorted.1)
    where
      step : (o : Ordering) → beginning_cmp p e.0 ≡ o → cond (is_eq o) (Some e.1) (lookup (at_beginning p) es) ≡ Some g → (lookup (at_beginning p) es ≡ Some g → insert_entry beginning_cmp es p w ≡ set_value (at_beginning p) es w)
          → match_ordering o ((p, w) ∷ e ∷ es) ((e.0, w) ∷ es) (e ∷ insert_entry beginning_cmp es p w) ≡ cond (is_eq o) ((e.0, w) ∷ es) (e ∷ set_value (at_beginning p) es w)
      step Less is here next = absurd (none_some g (sym (later-none p es (later-than p e.0 es is sorted.0)) ∙ here))
      step Equal is here next = refl
      step Greater is here next = ap (λ l. e ∷ l) (next here)

  pub is-inserted : (es ts : List Entry) (g w : List Record) → AreGroups es → lookup (at_beginning p) es ≡ Some g → ts ≡ set_value (at_beginning p) es w → ts ≡ insert_entry beginning_cmp es p w
  is-inserted es ts g w groups found is = is ∙ sym (insert-set es g w groups.ordered found)

  pub added-to : (es : List Entry) (g w : List Record) → lookup (at_beginning p) es ≡ Some g → w ≡ with_record r g → w ≡ with_record r (group_of es)
  added-to es g w found is = is ∙ ap (λ o. with_record r (unwrap_or o [])) (sym found)

  pub added-alone : (es : List Entry) (w : List Record) → lookup (at_beginning p) es ≡ None → w ≡ r ∷ [] → w ≡ with_record r (group_of es)
  added-alone es w absent is = is ∙ ap (λ o. with_record r (unwrap_or o [])) (sym absent)

  module _ (es ts : List Entry) (w : List Record) (groups : AreGroups es) (of : IsOf r.namespace (all_of es)) (is : ts ≡ insert_entry beginning_cmp es p w) (put : w ≡ with_record r (group_of es)) where
    pub all-added : all_of ts ≡ with_record r (all_of es)
    all-added = ap all_of (is ∙ ap (insert_entry beginning_cmp es p) put) ∙ added-in es groups.ordered groups.begun of

    pub groups-added : IsStrictlySortedBy beginning_cmp (keys_of ts) → AreGroups ts
    groups-added sorted = record {
      begun = subst AreBegun (sym is) (begun-insert p es w (subst (AreIn p) (sym put) (all-with_record r (λ t. beginning t.key ≡ p.items) (group_of es) (sym own) (group-begun es groups.begun))) groups.begun);
      full = subst (AllByRecursion (λ e. HasOne e.1)) (sym is) (each-insert HasOne p es w (subst HasOne (sym put) (one-with_record r (group_of es))) groups.full);
      ordered = sorted;
      alike = one-of r.namespace (all_of ts) (subst (IsOf r.namespace) (sym all-added) (all-with_record r (λ t. t.namespace ≡ r.namespace) (all_of es) refl of));
    }

-- ---- pages

-- the group doesn't stand before the bytes
abbrev is_from : ArrayVec ℕ → Entry → Bool
is_from start e = is_le (beginning_cmp start e.0) && not false

-- the groups before that of the text have no key after it
pub groups-after : (after : Bytes) (start : ArrayVec ℕ) (es : List Entry) → start.items ≡ beginning after → AreBegun es
    → filter (is_key_after after) (all_of (filter (λ (e : Entry). is_le (beginning_cmp start e.0) && not false) es)) ≡ filter (is_key_after after) (all_of es)
groups-after after start [] own begun = refl
groups-after after start (e ∷ es) own begun = step (beginning_cmp start e.0) refl (groups-after after start es own begun.1)
  where
    none : beginning_cmp start e.0 ≡ Greater → AllByRecursion (λ r. is_key_after after r ≡ false) e.1
    none is = all-map (λ r. beginning r.key ≡ e.0.items) (λ r. is_key_after after r ≡ false)
        (λ r b. ap is_lt (begun-apart 16 after r.key Greater greater-equal (ap (λ x. slice_cmp nat_cmp x (beginning r.key)) (sym own) ∙ ap (slice_cmp nat_cmp start.items) b ∙ is)))
        e.1 begun.0

    kept : filter (is_key_after after) (all_of (filter (is_from start) es)) ≡ filter (is_key_after after) (all_of es) → filter (is_key_after after) (e.1 ++ all_of (filter (is_from start) es)) ≡ filter (is_key_after after) (e.1 ++ all_of es)
    kept next = filter-append (is_key_after after) e.1 (all_of (filter (is_from start) es)) ∙ ap (λ l. filter (is_key_after after) e.1 ++ l) next ∙ sym (filter-append (is_key_after after) e.1 (all_of es))

    step : (o : Ordering) → beginning_cmp start e.0 ≡ o → filter (is_key_after after) (all_of (filter (is_from start) es)) ≡ filter (is_key_after after) (all_of es)
        → filter (is_key_after after) (all_of (cond (is_le o && not false) (e ∷ filter (is_from start) es) (filter (is_from start) es))) ≡ filter (is_key_after after) (e.1 ++ all_of es)
    step Less is next = kept next
    step Equal is next = kept next
    step Greater is next = next ∙ sym (filter-append (is_key_after after) e.1 (all_of es) ∙ ap (λ l. l ++ filter (is_key_after after) (all_of es)) (filter-none (is_key_after after) e.1 (none is)))

take-append : {X : Type 0} (n : ℕ) (xs ys : List X) → take n (xs ++ ys) ≡ take n xs ++ take (n - length (take n xs)) ys
take-append zero xs ys = refl
take-append (suc n) [] ys = let e : suc n ≡ suc n - 0 = omega arith in ap (λ k. take k ys) e
take-append (suc n) (x ∷ xs) ys =
    let e : n - length (take n xs) ≡ suc n - suc (length (take n xs)) = omega arith in
    ap (λ l. x ∷ l) (take-append n xs ys) ∙ ap (λ k. x ∷ (take n xs ++ take k ys)) e

-- the infos of two lists, one after the other
infos-append : (n : ℕ) (asked : Filter) (rs ts : List Record) → infos_of n asked (rs ++ ts) ≡ infos_of n asked rs ++ infos_of (n - length (infos_of n asked rs)) asked ts
infos-append n asked rs ts =
    ap (λ l. map info_of (take n l)) (filter-append (is_asked asked) rs ts)
    ∙ ap (map info_of) (take-append n (filter (is_asked asked) rs) (filter (is_asked asked) ts))
    ∙ map-append info_of (take n (filter (is_asked asked) rs)) _
    ∙ ap (λ k. infos_of n asked rs ++ map info_of (take (n - k) (filter (is_asked asked) ts))) (sym (length-map (take n (filter (is_asked asked) rs)) info_of))

-- a walk: the infos so far, and those of the groups that are left
pub page-begin : (most : ℕ) (asked : Filter) (after : Bytes) (start : ArrayVec ℕ) (es ts : List Entry) (infos : List Info) → start.items ≡ beginning after → AreGroups es → infos ≡ []
    → ts ≡ filter (λ (e : Entry). is_le (beginning_cmp start e.0) && not false) es → infos ++ infos_of (most - length infos) asked (filter (is_key_after after) (all_of ts)) ≡ infos_of most asked (filter (is_key_after after) (all_of es))
page-begin most asked after start es ts infos own groups none is =
    infos-begin most asked (filter (is_key_after after) (all_of ts)) (filter (is_key_after after) (all_of es)) infos none (ap (λ l. filter (is_key_after after) (all_of l)) is ∙ groups-after after start es own groups.begun)

pub page-next : (most : ℕ) (asked : Filter) (after : Bytes) (g rest : List Record) (infos more all : List Info) → more ≡ infos ++ infos_of (most - length infos) asked (filter (is_key_after after) g)
    → infos ++ infos_of (most - length infos) asked (filter (is_key_after after) (g ++ rest)) ≡ all → more ++ infos_of (most - length more) asked (filter (is_key_after after) rest) ≡ all
page-next most asked after g rest infos more all is so_far =
    let added = infos_of (most - length infos) asked (filter (is_key_after after) g) in
    let left : most - length (infos ++ added) ≡ most - length infos - length added = omega (arith, length-append infos added) in
    ap (λ l. l ++ infos_of (most - length l) asked (filter (is_key_after after) rest)) is
    ∙ append_assoc infos added (infos_of (most - length (infos ++ added)) asked (filter (is_key_after after) rest))
    ∙ ap (λ n. infos ++ (added ++ infos_of n asked (filter (is_key_after after) rest))) left
    ∙ ap (λ l. infos ++ l) (sym (infos-append (most - length infos) asked (filter (is_key_after after) g) (filter (is_key_after after) rest)))
    ∙ sym (ap (λ l. infos ++ infos_of (most - length infos) asked l) (filter-append (is_key_after after) g rest))
    ∙ so_far

-- ---- whether there are records

first_none : (rs ts : List Record) → rs ++ ts ≡ [] → rs ≡ []
first_none [] ts e = refl
first_none (r ∷ rs) ts e = absurd (cc)

pub groups-empty : {K : Type 0} (es : List (K × List Record)) → AllByRecursion (λ e. e.1 ≢ []) es → joined_records (values_of es) ≡ [] → length es ≡ 0
groups-empty [] full none = refl
groups-empty (e ∷ es) full none = absurd (full.0 (first_none e.1 (joined_records (values_of es)) none))

pub groups-none : {K : Type 0} (es : List (K × List Record)) → length es ≡ 0 → joined_records (values_of es) ≡ []
groups-none [] none = refl
groups-none (e ∷ es) none = absurd (omega (arith, none))
