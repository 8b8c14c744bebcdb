-- The labels of an object, by a map of its members.
use Rattle.std.proofs.Common.{◌≡◌, ℕ, List, [], ◌∷◌, Ordering, Less, Equal, Greater, Option, Some, None, option_map, cond, nat_cmp, Bor, refl, sym, ap, ◌∙◌}
use Rattle.std.specs.BTreeMap.{is_at}
use Rattle.std.specs.Cmp.Lexicographic.{slice_cmp}
use Rattle.std.specs.Map.{lookup}
use Rattle.std.specs.Option.{option_map_or, option_and_then}
use Rattle.std.specs.Ordering.{is_eq, match_ordering}
use Rattle.serde_json.specs.Find.{as_str, get_member}
use Rattle.snap_record.specs.Labels.{Label}
use Rattle.snap_json.specs.View.{members_of, view}
use Rattle.snap_json.specs.declared.value.Value.{Value}
use Rattle.snap_script.specs.Fields.{with_label_within, with_member}

member_by_order : (key : List ℕ) (o : Ordering) (v : Bor Value) (rest : List (Bor (List ℕ) × Bor Value)) → option_map (λ x. view x.now) (lookup (is_at (λ k. slice_cmp nat_cmp key k.now)) rest) ≡ get_member key (members_of rest)
    → option_map (λ (x : Bor Value). view x.now) (cond (is_eq o) (Some v) (lookup (is_at (λ k. slice_cmp nat_cmp key k.now)) rest)) ≡ match_ordering o (get_member key (members_of rest)) (Some (view v.now)) (get_member key (members_of rest))
member_by_order key Less v rest same = same
member_by_order key Equal v rest same = refl
member_by_order key Greater v rest same = same

-- the value of a key in a map is its member's
pub member_of_map : (key : List ℕ) (entries : List (Bor (List ℕ) × Bor Value)) → option_map (λ x. view x.now) (lookup (is_at (λ k. slice_cmp nat_cmp key k.now)) entries) ≡ get_member key (members_of entries)
member_of_map key [] = refl
member_of_map key (entry ∷ rest) = member_by_order key (slice_cmp nat_cmp key entry.0.now) entry.1 rest (member_of_map key rest)

abbrev among : List (Bor (List ℕ) × Bor Value) → List ℕ → Option (Bor Value)
among entries key = lookup (is_at (λ k. slice_cmp nat_cmp key k.now)) entries

as_labelled : (key : List ℕ) (entries : List (Bor (List ℕ) × Bor Value)) (found : List Label) (o : Option (Bor Value)) → among entries key ≡ o
    → option_map_or (with_label_within found key) (option_and_then as_str (option_map (λ x. view x.now) o)) found ≡ with_member (members_of entries) found key
as_labelled key entries found o is = ap (λ d. option_map_or (with_label_within found key) (option_and_then as_str d) found) (sym (ap (option_map (λ (x : Bor Value). view x.now)) is) ∙ member_of_map key entries)

-- the labels with the member of a key: there is none, it is a text, or something else
pub with_no_member : (key : List ℕ) (entries : List (Bor (List ℕ) × Bor Value)) (found : List Label) → among entries key ≡ None → found ≡ with_member (members_of entries) found key
with_no_member key entries found is = as_labelled key entries found None is

pub with_text : (key value : List ℕ) (entries : List (Bor (List ℕ) × Bor Value)) (found : List Label) (v : Bor Value) → among entries key ≡ Some v → as_str (view v.now) ≡ Some value
    → with_label_within found key value ≡ with_member (members_of entries) found key
with_text key value entries found v is text = ap (λ o. option_map_or (with_label_within found key) o found) (sym text) ∙ as_labelled key entries found (Some v) is

pub with_no_text : (key : List ℕ) (entries : List (Bor (List ℕ) × Bor Value)) (found : List Label) (v : Bor Value) → among entries key ≡ Some v → as_str (view v.now) ≡ None
    → found ≡ with_member (members_of entries) found key
with_no_text key entries found v is none = ap (λ o. option_map_or (with_label_within found key) o found) (sym none) ∙ as_labelled key entries found (Some v) is
