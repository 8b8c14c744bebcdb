-- What is kept of an object, a member at a time.
use Rattle.std.proofs.Common.{◌≡◌, ℕ, List, Bool, true, false, Option, Some, None, option_map, Ordering, Less, Equal, Greater, nat_cmp, refl, sym, ap, ◌∙◌}
use Rattle.std.proofs.lemmas.Map.Lookups.{exact_bytes}
use Rattle.std.specs.Cmp.Lexicographic.{slice_cmp}
use Rattle.std.specs.Ordering.{match_ordering}
use Rattle.json.specs.Token.{Token}
use Rattle.json.specs.Json.{parse_map}
use Rattle.serde_json.specs.Data.{Data, array, object, Items, no_items, Members, no_members, member, put}
use Rattle.serde_json.specs.Find.{get_member}
use Rattle.snap_json.specs.Objects.{object_read, rest_of}
use Rattle.snap_json.specs.Shallow.{items_if, members_if, value_if, shallow_members, shallow, shallow_read}

module _ (whole : List ℕ → Bool) where
  put_at : (o : Ordering) (k l : List ℕ) (d e : Data) (ms : Members) → slice_cmp nat_cmp k l ≡ o → shallow_members whole (put k d ms) ≡ put k (value_if (whole k) d) (shallow_members whole ms)
      → shallow_members whole (match_ordering o (member k d (member l e ms)) (member l d ms) (member l e (put k d ms)))
      ≡ match_ordering o (member k (value_if (whole k) d) (shallow_members whole (member l e ms))) (member l (value_if (whole k) d) (shallow_members whole ms)) (member l (value_if (whole l) e) (put k (value_if (whole k) d) (shallow_members whole ms)))
  put_at Less k l d e ms is later = refl
  put_at Equal k l d e ms is later = ap (λ name. member l (value_if (whole name) d) (shallow_members whole ms)) (sym (exact_bytes k l is))
  put_at Greater k l d e ms is later = ap (member l (value_if (whole l) e)) later

  -- a member that is put in
  pub shallow_members-put : (k : List ℕ) (d : Data) (ms : Members) → shallow_members whole (put k d ms) ≡ put k (value_if (whole k) d) (shallow_members whole ms)
  shallow_members-put k d no_members = refl
  shallow_members-put k d (member l e ms) = put_at (slice_cmp nat_cmp k l) k l d e ms refl (shallow_members-put k d ms)

  get_at : (o : Ordering) (k l : List ℕ) (e : Data) (ms : Members) → slice_cmp nat_cmp k l ≡ o → get_member k (shallow_members whole ms) ≡ option_map (value_if (whole k)) (get_member k ms)
      → match_ordering o (get_member k (shallow_members whole ms)) (Some (value_if (whole l) e)) (get_member k (shallow_members whole ms)) ≡ option_map (value_if (whole k)) (match_ordering o (get_member k ms) (Some e) (get_member k ms))
  get_at Less k l e ms is later = later
  get_at Equal k l e ms is later = ap (λ name. Some (value_if (whole name) e)) (sym (exact_bytes k l is))
  get_at Greater k l e ms is later = later

  -- a member that is looked up
  pub get_member-shallow : (k : List ℕ) (ms : Members) → get_member k (shallow_members whole ms) ≡ option_map (value_if (whole k)) (get_member k ms)
  get_member-shallow k no_members = refl
  get_member-shallow k (member l e ms) = get_at (slice_cmp nat_cmp k l) k l e ms refl (get_member-shallow k ms)

-- ---- what was read

pub value_if-array : (whole : Bool) (r : Option (Items × List Token)) → parse_map (value_if whole) (parse_map array r) ≡ parse_map array (parse_map (items_if whole) r)
value_if-array whole None = refl
value_if-array whole (Some p) = refl

pub value_if-object : (whole : Bool) (r : Option (Members × List Token)) → parse_map (value_if whole) (parse_map object r) ≡ parse_map object (parse_map (members_if whole) r)
value_if-object whole None = refl
value_if-object whole (Some p) = refl

pub items_whole : (whole : Bool) (r : Option (Items × List Token)) → whole ≡ true → parse_map (items_if whole) r ≡ r
items_whole true None e = refl
items_whole true (Some p) e = refl
items_whole false r e = absurd (cc)

pub members_whole : (whole : Bool) (r : Option (Members × List Token)) → whole ≡ true → parse_map (members_if whole) r ≡ r
members_whole true None e = refl
members_whole true (Some p) e = refl
members_whole false r e = absurd (cc)

pub items_left : (whole : Bool) (r : Option (Items × List Token)) (ts : List Token) → whole ≡ false → rest_of r ≡ Some ts → parse_map (items_if whole) r ≡ Some (no_items, ts)
items_left true r ts e h = absurd (cc)
items_left false None ts e h = absurd (cc)
items_left false (Some p) ts e h = ap (λ o. option_map {U = Items × List Token} (λ t. (no_items, t)) o) h

pub members_left : (whole : Bool) (r : Option (Members × List Token)) (ts : List Token) → whole ≡ false → rest_of r ≡ Some ts → parse_map (members_if whole) r ≡ Some (no_members, ts)
members_left true r ts e h = absurd (cc)
members_left false None ts e h = absurd (cc)
members_left false (Some p) ts e h = ap (λ o. option_map {U = Members × List Token} (λ t. (no_members, t)) o) h

pub shallow_object : (whole : List ℕ → Bool) (r : Option (Members × List Token)) → shallow_read whole (object_read (parse_map object r)) ≡ option_map {U = Option Data × List Token} (λ p. (Some (object p.0), p.1)) (parse_map (shallow_members whole) r)
shallow_object whole None = refl
shallow_object whole (Some p) = refl

-- what was read, of what it became
pub mapped : {A B : Type 0} (f : A → B) (o : Option (A × List Token)) (b : B) (r : List Token) → parse_map f o ≡ Some (b, r) → (a : A) × (o ≡ Some (a, r)) × (f a ≡ b)
mapped f None b r e = absurd (cc)
mapped f (Some p) b r e = (p.0, ap (λ q. Some (p.0, pick p.1 (option_map (λ s. s.1) q))) e, ap (λ q. pick (f p.0) (option_map (λ s. s.0) q)) e)
  where
    pick : {T : Type 0} → T → Option T → T
    pick t None = t
    pick t (Some u) = u
