-- Entries by their names.
use Rattle.std.proofs.Common.{◌≡◌, ℕ, Bool, true, false, cond, List, [], ◌∷◌, ◌++◌, Option, Some, None, Bor, refl, sym, ap, ◌∙◌, take, option_copied, arith, bytes_eq, length, get_or, ◌<◌, ◌+◌, filter_map, not}
use Rattle.std.specs.BTreeMap.{BTreeMap, UpdatesBy, get_by}
use Rattle.std.specs.Cmp.Lexicographic.{slice_cmp, nat_list_eq_equiv}
use Rattle.std.specs.Ordering.{nat_cmp}
use Rattle.std.proofs.lemmas.Map.Text.{btree_map_updates_str}
use Rattle.std.proofs.lemmas.Grind.{common_steps}
use Rattle.std.proofs.lemmas.List.Elements.{filter_map-append}
use Rattle.std.specs.Option.{is_some}
use Rattle.snap_durable.specs.Differences.{value_named, second_difference}
use Rattle.snap_durable.specs.declared.differ.Found.TheVariants.{OnlyB}

-- with one more entry
pub value_named-more : {A : Type 0} (q : List ℕ) (es : List (List ℕ × A)) (e : List ℕ × A) → value_named q (es ++ e ∷ []) ≡ cond (bytes_eq q e.0) (Some e.1) (value_named q es)
value_named-more q es e = grind (arith, common_steps)

-- a map with one more entry
pub by_name-more : {A : Type 0} (m n : BTreeMap (Bor (List ℕ)) (Bor A)) (es : List (List ℕ × A)) (e : List ℕ × A) (key : List ℕ) (v : Bor A) → key ≡ e.0 → v.now ≡ e.1
    → UpdatesBy (λ x y. slice_cmp nat_cmp x.now y.now) (λ k. slice_cmp nat_cmp key k.now) m n (Some v)
    → ((q : List ℕ) → option_copied (get_by (λ k. slice_cmp nat_cmp q k.now) m) ≡ value_named q es)
    → (q : List ℕ) → option_copied (get_by (λ k. slice_cmp nat_cmp q k.now) n) ≡ value_named q (es ++ e ∷ [])
by_name-more m n es e key v at is updates same q =
    ap option_copied (btree_map_updates_str key m n (Some v) updates q) ∙ by (bytes_eq key q)
    ∙ ap (λ k. cond (bytes_eq k q) (Some e.1) (value_named q es)) at ∙ ap (λ b. cond b (Some e.1) (value_named q es)) (nat_list_eq_equiv.symm e.0 q) ∙ sym (value_named-more q es e)
  where
    by : (b : Bool) → option_copied (cond b (Some v) (get_by (λ k. slice_cmp nat_cmp q k.now) m)) ≡ cond b (Some e.1) (value_named q es)
    by true = ap Some is
    by false = same q

-- behind others, those of one more entry
pub filter_map-some : {X Y : Type 0} (f : X → Option Y) (xs : List X) (i : ℕ) (x : X) (y : Y) (before old : List Y) → i < length xs → x ≡ get_or xs i x
    → f x ≡ Some y → old ≡ before ++ filter_map f (take i xs) → old ++ y ∷ [] ≡ before ++ filter_map f (take (i + 1) xs)
filter_map-some f xs i x y before old below is some so = grind (arith, common_steps, filter_map-append)

pub filter_map-none : {X Y : Type 0} (f : X → Option Y) (xs : List X) (i : ℕ) (x : X) (before old : List Y) → i < length xs → x ≡ get_or xs i x
    → f x ≡ None → old ≡ before ++ filter_map f (take i xs) → old ≡ before ++ filter_map f (take (i + 1) xs)
filter_map-none f xs i x before old below is none so = grind (arith, common_steps, filter_map-append)

-- an entry of the second list, as it was looked up in the first
pub second-none : {A D : Type 0} (e : List ℕ × A) (o : Option (Bor (Bor A))) (b : Bool) → is_some o ≡ not b → b ≡ true → second_difference {D = D} e (option_copied (option_copied o)) ≡ Some (record { name = e.0; found = OnlyB })
second-none e None b is so = refl
second-none e (Some x) b is so = cc (is ∙ ap not so)

pub second-some : {A D : Type 0} (e : List ℕ × A) (o : Option (Bor (Bor A))) (b : Bool) → is_some o ≡ not b → b ≡ false → second_difference {D = D} e (option_copied (option_copied o)) ≡ None
second-some e None b is so = cc (is ∙ ap not so)
second-some e (Some x) b is so = refl
