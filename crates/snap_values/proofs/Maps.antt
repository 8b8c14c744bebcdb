-- The members of maps, and members that may be absent.
use Rattle.std.proofs.Common.{◌≡◌, ℕ, List, [], ◌∷◌, Ordering, Less, Equal, Greater, Option, Some, None, nat_cmp, Bor, refl, ◌∙◌}
use Rattle.std.specs.BTreeMap.{insert_entry}
use Rattle.std.specs.Cmp.Lexicographic.{slice_cmp}
use Rattle.std.specs.Ordering.{match_ordering}
use Rattle.json.specs.Token.{Token}
use Rattle.serde_json.specs.Data.{Data, Members, put}
use Rattle.snap_json.specs.Tokens.{with_members}
use Rattle.snap_values.specs.Values.{maybe}
use Rattle.snap_values.specs.Written.{written_members_of, with_maybe}

by_order : {A : Type 0} (value : A → Data) (o : Ordering) (a b c : List (Bor (List ℕ) × A))
    → written_members_of value (match_ordering o a b c) ≡ match_ordering o (written_members_of value a) (written_members_of value b) (written_members_of value c)
by_order value Less a b c = refl
by_order value Equal a b c = refl
by_order value Greater a b c = refl

-- a map with one more entry
pub members_of_insert_entry : {A : Type 0} (value : A → Data) (entries : List (Bor (List ℕ) × A)) (key : Bor (List ℕ)) (a : A)
    → written_members_of value (insert_entry (λ k l. slice_cmp nat_cmp k.now l.now) entries key a) ≡ put key.now (value a) (written_members_of value entries)
members_of_insert_entry value [] key a = refl
members_of_insert_entry value (entry ∷ rest) key a = by_order value (slice_cmp nat_cmp key.now entry.0.now) _ _ _ ∙ rw (members_of_insert_entry value rest key a)

pub with_members_maybe : (key : List ℕ) (value : Option Data) (rest : Members) (before : List Token) → with_members (maybe key value rest) before ≡ with_members rest (with_maybe key value before)
with_members_maybe key None rest before = refl
with_members_maybe key (Some value) rest before = refl
