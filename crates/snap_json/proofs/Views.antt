-- A value, level by level, and the members of an object.
use Rattle.std.proofs.Common.{◌≡◌, ℕ, zero, suc, ◌<◌, List, [], ◌∷◌, ◌++◌, length, map, take, drop, get_or, Some, Vec, Global, Bor, Ordering, Less, Equal, Greater, nat_cmp, refl, ap, ◌∙◌, arith, rules}
use Rattle.std.specs.BTreeMap.{insert_entry}
use Rattle.std.specs.Cmp.Lexicographic.{slice_cmp}
use Rattle.std.specs.Ordering.{match_ordering}
use Rattle.serde_json.specs.Data.{array, object, Members, no_members, put}
use Rattle.serde_json.specs.Find.{get_member}
use Rattle.serde_json.proofs.Views.{get_member-put, get_member-put_other}
use Rattle.snap_json.specs.View.{view, items_view, members_with, members_view, members_of}
use Rattle.snap_json.specs.declared.value.Value.{Value, Array, Object, the_lemmas}

abbrev pub Entry : Type 0
Entry = Bor (List ℕ) × Value

pub view-Array : (v : Vec Value Global) → view (Array v) ≡ array (items_view v.items)
view-Array v = search (rules, the_lemmas)

pub view-Object : (v : Vec Entry Global) → view (Object v) ≡ object (members_view v.items)
view-Object v = search (rules, the_lemmas)

-- a member that comes last is put in last
pub members_push : (found : Members) (ms : List Entry) (m : Entry)
    → members_with found (map (λ m. (m.0, view m.1)) (ms ++ m ∷ [])) ≡ put m.0.now (view m.1) (members_with found (map (λ m. (m.0, view m.1)) ms))
members_push found [] m = refl
members_push found (first ∷ ms) m = members_push (put first.0.now (view first.1) found) ms m

members_take : (found : Members) (ms : List Entry) (n : ℕ) (d : Entry) → n < length ms
    → members_with found (map (λ m. (m.0, view m.1)) (take (suc n) ms)) ≡ put (get_or ms n d).0.now (view (get_or ms n d).1) (members_with found (map (λ m. (m.0, view m.1)) (take n ms)))
members_take found [] n d h = absurd (omega arith)
members_take found (m ∷ ms) zero d h = refl
members_take found (m ∷ ms) (suc n) d h = members_take (put m.0.now (view m.1) found) ms n d (omega arith)

-- the first of those that are left goes in next
pub members_drop : (found : Members) (ms : List Entry) (n : ℕ) (d : Entry) → n < length ms
    → members_with found (map (λ m. (m.0, view m.1)) (drop n ms)) ≡ members_with (put (get_or ms n d).0.now (view (get_or ms n d).1) found) (map (λ m. (m.0, view m.1)) (drop (suc n) ms))
members_drop found [] n d h = absurd (omega arith)
members_drop found (m ∷ ms) zero d h = refl
members_drop found (m ∷ ms) (suc n) d h = members_drop found ms n d (omega arith)

-- the last of some members has the name
pub named_last : (name : List ℕ) (ms : List Entry) (n : ℕ) (d : Entry) → n < length ms → (get_or ms n d).0.now ≡ name → get_member name (members_view (take (suc n) ms)) ≡ Some (view (get_or ms n d).1)
named_last name ms n d h is = ap (get_member name) (members_take no_members ms n d h) ∙ rw is (get_member-put name _ _)

-- it has another
pub named_before : (name : List ℕ) (ms : List Entry) (n : ℕ) (d : Entry) → n < length ms → (name ≡ (get_or ms n d).0.now → ⊥) → get_member name (members_view (take (suc n) ms)) ≡ get_member name (members_view (take n ms))
named_before name ms n d h other = ap (get_member name) (members_take no_members ms n d h) ∙ get_member-put_other name _ _ _ other

by_order : (o : Ordering) (a b c : List (Bor (List ℕ) × Bor Value)) → members_of (match_ordering o a b c) ≡ match_ordering o (members_of a) (members_of b) (members_of c)
by_order Less a b c = refl
by_order Equal a b c = refl
by_order Greater a b c = refl

-- a map with one more entry
pub members_of_insert_entry : (entries : List (Bor (List ℕ) × Bor Value)) (key : Bor (List ℕ)) (v : Bor Value)
    → members_of (insert_entry (λ k l. slice_cmp nat_cmp k.now l.now) entries key v) ≡ put key.now (view v.now) (members_of entries)
members_of_insert_entry [] key v = refl
members_of_insert_entry (entry ∷ rest) key v = by_order (slice_cmp nat_cmp key.now entry.0.now) _ _ _ ∙ rw (members_of_insert_entry rest key v)
