-- Where the name of each member is known, the object has no unknown field.
use Rattle.std.proofs.Common.{◌≡◌, ℕ, List, [], ◌∷◌, map, Option, Some, None, Bool, true, false, Ordering, Less, Equal, Greater, Bor, nat_cmp, refl, ap, ◌∙◌}
use Rattle.std.specs.Prelude.{◌&&◌, cond}
use Rattle.std.specs.Cmp.Lexicographic.{slice_cmp}
use Rattle.std.specs.List.{list_all}
use Rattle.std.specs.Ordering.{match_ordering}
use Rattle.serde_json.specs.Data.{Data, Members, no_members, member, put}
use Rattle.snap_json.specs.View.{view, members_view, members_with}
use Rattle.snap_json.specs.declared.value.Value.{Value}
use Rattle.snap_script.specs.declared.fault.Field.{Field}
use Rattle.snap_script.specs.Known.{is_known, unknown_among}

by_order : (common own : List Field) (o : Ordering) (a b c : Members) → unknown_among common own a ≡ None → unknown_among common own b ≡ None → unknown_among common own c ≡ None
    → unknown_among common own (match_ordering o a b c) ≡ None
by_order common own Less a b c p q r = p
by_order common own Equal a b c p q r = q
by_order common own Greater a b c p q r = r

behind : (known : Bool) (name : List ℕ) (before after : Option (List ℕ)) → cond known before (Some name) ≡ None → (before ≡ None → after ≡ None) → cond known after (Some name) ≡ None
behind true name before after h f = f h
behind false name before after h f = absurd (cc h)

known_put : (common own : List Field) (name : List ℕ) (d : Data) (ms : Members) → is_known common own name ≡ true → unknown_among common own ms ≡ None → unknown_among common own (put name d ms) ≡ None
known_put common own name d no_members k h = ap (λ b. cond b None (Some name)) k
known_put common own name d (member other e ms) k h =
    by_order common own (slice_cmp nat_cmp name other) (member name d (member other e ms)) (member other d ms) (member other e (put name d ms))
    (ap (λ b. cond b (unknown_among common own (member other e ms)) (Some name)) k ∙ h) h
    (behind (is_known common own other) other (unknown_among common own ms) (unknown_among common own (put name d ms)) h (λ g. known_put common own name d ms k g))

split : (a b : Bool) → (a && b) ≡ true → (a ≡ true) × (b ≡ true)
split true b h = (refl, h)
split false b h = absurd (cc h)

all_known : (common own : List Field) (found : Members) (ms : List (Bor (List ℕ) × Value)) → unknown_among common own found ≡ None → list_all (λ m. is_known common own m.0.now) ms ≡ true
    → unknown_among common own (members_with found (map (λ m. (m.0, view m.1)) ms)) ≡ None
all_known common own found [] u h = u
all_known common own found (m ∷ ms) u h =
    let both = split (is_known common own m.0.now) (list_all (λ m. is_known common own m.0.now) ms) h in
    all_known common own (put m.0.now (view m.1) found) ms (known_put common own m.0.now (view m.1) found both.0 u) both.1

pub none_unknown : (common own : List Field) (ms : List (Bor (List ℕ) × Value)) → list_all (λ m. is_known common own m.0.now) ms ≡ true → unknown_among common own (members_view ms) ≡ None
none_unknown common own ms h = all_known common own no_members ms refl h
