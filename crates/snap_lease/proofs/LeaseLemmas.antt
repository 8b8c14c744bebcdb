-- Lemmas on one lease, whose names are the bytes of the keys of a map.
use Rattle.std.proofs.Common.{◌≡◌, ℕ, ◌+◌, ◌<◌, Bool, true, false, List, [], ◌∷◌, ◌++◌, ◌||◌, map, length, get_or, take, refl, sym, ap, ◌∙◌, true≢false, String, string_bytes, if◌then◌else◌}
use Rattle.std.proofs.lemmas.List.{map-append, take_more}
use Rattle.std.specs.List.{list_any}
use Rattle.std.specs.Map.{keys_of}
use Rattle.std.specs.Str.{bytes_eq}
use Rattle.std.specs.String.{string_eq}
use Rattle.indexmap.specs.IndexMap.{insert_entry}
use Rattle.std.proofs.lemmas.Slice.Eq.{bytes_eq-Decides}
use Rattle.snap_lease.specs.Lease.{Lease, does_name, with_lease_name}
use Rattle.snap_lease.specs.Live.{is_among, with_added_name}

-- a test of each element of a mapped list
pub list_any-map : {X Y : Type 0} (p : Y → Bool) (f : X → Y) (xs : List X) → list_any p (map f xs) ≡ list_any (λ x. p (f x)) xs
list_any-map p f [] = refl
list_any-map p f (x ∷ xs) = ap (λ b. p (f x) || b) (list_any-map p f xs)

module _ {Z : Type 0} where
  -- the map has the name where the lease names it
  pub list_any-names : (name : List ℕ) (keys : List (String Z)) → list_any (bytes_eq name) (map string_bytes keys) ≡ list_any (λ k. bytes_eq name (string_bytes k)) keys
  list_any-names name keys = list_any-map (bytes_eq name) string_bytes keys

  module _ {X : Type 0} (k : String Z) (v : X) where
    -- the names after a new key is inserted
    pub names-insert_entry : (es : List (String Z × X)) → list_any (bytes_eq (string_bytes k)) (map string_bytes (keys_of es)) ≡ false → map string_bytes (keys_of (insert_entry string_eq es k v)) ≡ map string_bytes (keys_of es) ++ string_bytes k ∷ []
    names-insert_entry [] absent = refl
    names-insert_entry (e ∷ es) absent = by (string_eq k e.0) absent (names-insert_entry es)
      where
        by : (b : Bool) → (b || list_any (bytes_eq (string_bytes k)) (map string_bytes (keys_of es))) ≡ false
            → (list_any (bytes_eq (string_bytes k)) (map string_bytes (keys_of es)) ≡ false → map string_bytes (keys_of (insert_entry string_eq es k v)) ≡ map string_bytes (keys_of es) ++ string_bytes k ∷ [])
            → map string_bytes (keys_of (if b then (e.0, v) ∷ es else e ∷ insert_entry string_eq es k v)) ≡ string_bytes e.0 ∷ (map string_bytes (keys_of es) ++ string_bytes k ∷ [])
        by true there rest = absurd (true≢false there)
        by false there rest = ap (λ ns. string_bytes e.0 ∷ ns) (rest there)

-- a lease that lacks the name has it last
pub with_name-new : (name : List ℕ) (l : Lease) → does_name name l ≡ false → with_lease_name name l ≡ record l { names = l.names ++ name ∷ [] }
with_name-new name l absent = ap (λ b. if b then l else record l { names = l.names ++ name ∷ [] }) absent

-- a lease that has the name stays as it is
pub with_name-there : (name : List ℕ) (l : Lease) → does_name name l ≡ true → with_lease_name name l ≡ l
with_name-there name l there = ap (λ b. if b then l else record l { names = l.names ++ name ∷ [] }) there

-- a list with a name more is the copy of a list with an element more
pub map-push : {X Y : Type 0} (f : X → Y) (xs ys : List X) (k x : X) (i : ℕ) → i < length xs → x ≡ get_or xs i x → f k ≡ f x → map f ys ≡ map f (take i xs) → map f (ys ++ k ∷ []) ≡ map f (take (i + 1) xs)
map-push f xs ys k x i within at same copied =
    let grown : map f (take (i + 1) xs) ≡ map f (take i xs) ++ f (get_or xs i x) ∷ [] = ap (map f) (take_more xs i x within) ∙ map-append f (take i xs) (get_or xs i x ∷ []) in
    let last : f k ≡ f (get_or xs i x) = same ∙ ap f at in
    map-append f ys (k ∷ []) ∙ ap (λ l. l ++ f k ∷ []) copied ∙ ap (λ y. map f (take i xs) ++ y ∷ []) last ∙ sym grown

-- a lease over the keys of a map, after a new key is inserted
pub with_name-inserted : {Z X : Type 0} (name : List ℕ) (l : Lease) (es new : List (String Z × X)) (k : String Z) (v : X)
    → does_name name l ≡ false → l.names ≡ map string_bytes (keys_of es) → string_bytes k ≡ name → new ≡ insert_entry string_eq es k v
    → record l { names = map string_bytes (keys_of new) } ≡ with_lease_name name l
with_name-inserted name l es new k v absent seen is inserted =
    let lacks : list_any (bytes_eq (string_bytes k)) (map string_bytes (keys_of es)) ≡ false = ap (λ n. list_any (bytes_eq n) (map string_bytes (keys_of es))) is ∙ ap (list_any (bytes_eq name)) (sym seen) ∙ absent in
    let grown : map string_bytes (keys_of new) ≡ l.names ++ name ∷ [] = ap (λ e. map string_bytes (keys_of e)) inserted ∙ names-insert_entry k v es lacks ∙ ap (λ ns. ns ++ string_bytes k ∷ []) (sym seen) ∙ ap (λ n. l.names ++ n ∷ []) is in
    ap (λ ns. record l { names = ns }) grown ∙ sym (with_name-new name l absent)

-- ---- sets of names

-- the names after a new key is inserted
pub names-inserted : {Z X : Type 0} (name : List ℕ) (names : List (List ℕ)) (es new : List (String Z × X)) (k : String Z) (v : X)
    → is_among name names ≡ false → names ≡ map string_bytes (keys_of es) → string_bytes k ≡ name → new ≡ insert_entry string_eq es k v → map string_bytes (keys_of new) ≡ with_added_name name names
names-inserted name names es new k v absent seen is inserted =
    let lacks : list_any (bytes_eq (string_bytes k)) (map string_bytes (keys_of es)) ≡ false = ap (λ n. list_any (bytes_eq n) (map string_bytes (keys_of es))) is ∙ ap (list_any (bytes_eq name)) (sym seen) ∙ absent in
    let grown : map string_bytes (keys_of new) ≡ names ++ name ∷ [] = ap (λ e. map string_bytes (keys_of e)) inserted ∙ names-insert_entry k v es lacks ∙ ap (λ ns. ns ++ string_bytes k ∷ []) (sym seen) ∙ ap (λ n. names ++ n ∷ []) is in
    grown ∙ sym (ap (λ b. if b then names else names ++ name ∷ []) absent)

or_none : (a : Bool) → (a || false) ≡ a
or_none true = refl
or_none false = refl

or_joined : (a b c : Bool) → (a || (b || c)) ≡ ((a || b) || c)
or_joined true b c = refl
or_joined false b c = refl

-- a test of a list with one element more
pub list_any-push : {X : Type 0} (p : X → Bool) (xs : List X) (x : X) → list_any p (xs ++ x ∷ []) ≡ (list_any p xs || p x)
list_any-push p [] x = or_none (p x)
list_any-push p (y ∷ ys) x = ap (λ b. p y || b) (list_any-push p ys x) ∙ or_joined (p y) (list_any p ys) (p x)

-- what is among the names with one more
pub is_among-with_name : (name new : List ℕ) (names : List (List ℕ)) → is_among name (with_added_name new names) ≡ (is_among name names || bytes_eq name new)
is_among-with_name name new names = by (is_among new names) refl
  where
    same : (b : Bool) → bytes_eq name new ≡ b → is_among new names ≡ true → is_among name names ≡ (is_among name names || b)
    same true e there = let at : name ≡ new = (bytes_eq-Decides name new).0 e in let here : is_among name names ≡ true = ap (λ n. is_among n names) at ∙ there in here ∙ ap (λ b. b || true) (sym here)
    same false e there = sym (or_none (is_among name names))

    by : (b : Bool) → is_among new names ≡ b → is_among name (if b then names else names ++ new ∷ []) ≡ (is_among name names || bytes_eq name new)
    by true there = same (bytes_eq name new) refl there
    by false there = list_any-push (bytes_eq name) names new

-- what is among the names of a set and the first names of a list
pub among_more : (name new : List ℕ) (set names : List (List ℕ)) (b : Bool) → is_among name set ≡ (b || is_among name names) → is_among name (with_added_name new set) ≡ (b || is_among name (names ++ new ∷ []))
among_more name new set names b before =
    is_among-with_name name new set ∙ ap (λ a. a || bytes_eq name new) before ∙ sym (or_joined b (is_among name names) (bytes_eq name new)) ∙ ap (λ a. b || a) (sym (list_any-push (bytes_eq name) names new))
