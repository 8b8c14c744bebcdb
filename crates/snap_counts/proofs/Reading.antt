-- What a map of texts says by the bytes of its keys, before and after one key changes.
use Rattle.std.proofs.Common.{◌≡◌, ◌≢◌, ℕ, ◌+◌, Bool, true, false, cond, List, [], ◌∷◌, ◌&&◌, length, Option, None, Some, String, BTreeMap, string_bytes, refl, sym, ap, ◌∙◌, arith, unwrap_or, bytes_eq, subst, Result, Ok, Err, IfSome, OnOk, OnErr}
use Rattle.std.specs.BTreeMap.{get_by_text, btree_map_len, is_at}
use Rattle.std.specs.Cmp.Lexicographic.{slice_cmp, nat_list_eq_equiv}
use Rattle.std.specs.Map.{lookup, update}
use Rattle.std.specs.Option.{IsSome, SomeIff, is_some}
use Rattle.std.specs.BTreeMap as tree
use Rattle.std.specs.String.{string_cmp}
use Rattle.std.specs.Ordering.{nat_cmp}
use Rattle.std.proofs.lemmas.Map.{update-update}
use Rattle.std.proofs.lemmas.Map.Text.{btree_map_updates_text, is_eq-slice_cmp}
use Rattle.std.proofs.lemmas.Slice.Eq.{bytes_eq-Decides}
use Rattle.snap_counts.specs.Counts.{by_bytes, count_in, count_within, HasCounted}
use Rattle.snap_counts.proofs.Lists.{one_if}

-- a change of a number by another, which 0 leaves as it is: a sum or a difference
abbrev pub IsStep : (ℕ → ℕ → ℕ) → Type 0
IsStep step = (n : ℕ) → step n 0 ≡ n

-- a step of a count at the text alone
step_at : (step : ℕ → ℕ → ℕ) → IsStep step → (f : List ℕ → ℕ) (text q : List ℕ) (n : ℕ) → n ≡ step (f text) 1 → cond (bytes_eq q text) n (f q) ≡ step (f q) (one_if (bytes_eq q text))
step_at step none f text q n one = by (bytes_eq q text) refl
  where
    by : (b : Bool) → bytes_eq q text ≡ b → cond b n (f q) ≡ step (f q) (one_if b)
    by true same = one ∙ ap (λ t. step (f t) 1) (sym ((bytes_eq-Decides q text).0 same))
    by false differ = sym (none (f q))

module _ {Z : Type 0} where
  -- a text is found among the bytes as among the keys
  pub lookup-by_bytes : {X : Type 0} (q : List ℕ) (es : List (String Z × X)) → lookup (bytes_eq q) (by_bytes es) ≡ lookup (is_at (λ k. slice_cmp nat_cmp q (string_bytes k))) es
  lookup-by_bytes q [] = refl
  lookup-by_bytes q (e ∷ es) =
      ap (λ b. cond b (Some e.1) (lookup (bytes_eq q) (by_bytes es))) (sym (is_eq-slice_cmp q (string_bytes e.0)))
      ∙ ap (cond (is_at (λ k. slice_cmp nat_cmp q (string_bytes k)) e.0) (Some e.1)) (lookup-by_bytes q es)

  pub count-by_bytes : (q : List ℕ) (m : BTreeMap (String Z) ℕ) → count_in q (by_bytes m.entries) ≡ unwrap_or (get_by_text m q) 0
  count-by_bytes q m = ap (λ o. unwrap_or o 0) (lookup-by_bytes q m.entries)

  pub count_within-by_bytes : (space q : List ℕ) (m : BTreeMap (String Z) (List (List ℕ × ℕ))) → count_within space q (by_bytes m.entries) ≡ count_in q (unwrap_or (get_by_text m space) [])
  count_within-by_bytes space q m = ap (λ o. count_in q (unwrap_or o [])) (lookup-by_bytes space m.entries)

  -- a map that has the value w at the text, and everything else as before
  abbrev pub Sets : {X : Type 0} (old new : BTreeMap (String Z) X) → List ℕ → Option X → Type 0
  Sets old new text w = (q : List ℕ) → get_by_text new q ≡ update bytes_eq (get_by_text old) text w q

  -- what is read of it
  pub read-Sets : {X Y : Type 0} (f : Option X → Y) (old new : BTreeMap (String Z) X) (text : List ℕ) (w : Option X) → Sets old new text w
      → (q : List ℕ) → f (get_by_text new q) ≡ cond (bytes_eq q text) (f w) (f (get_by_text old q))
  read-Sets f old new text w sets q =
      ap f (sets q) ∙ ap (λ b. f (cond b w (get_by_text old q))) (nat_list_eq_equiv.symm text q) ∙ by (bytes_eq q text)
    where
      by : (b : Bool) → f (cond b w (get_by_text old q)) ≡ cond b (f w) (f (get_by_text old q))
      by true = refl
      by false = refl

  -- after a write through `get_mut`, which found v
  pub Sets-written : {X : Type 0} (m n : BTreeMap (String Z) X) (text : List ℕ) (v w : X) → Some v ≡ get_by_text m text
      → (IsSome (get_by_text m text) → tree.UpdatesBy string_cmp (λ k. slice_cmp nat_cmp text (string_bytes k)) m n (Some w)) → Sets m n text (Some w)
  Sets-written m n text v w found writes = btree_map_updates_text text m n (Some w) (writes (ap is_some (sym found)))

  -- after `get_mut` found none
  pub Sets-none : {X : Type 0} (m n : BTreeMap (String Z) X) (text : List ℕ) → get_by_text m text ≡ None → n ≡ m → Sets m n text None
  Sets-none m n text absent same q = ap (λ k. get_by_text k q) same ∙ by (bytes_eq text q) refl
    where
      by : (b : Bool) → bytes_eq text q ≡ b → get_by_text m q ≡ cond b None (get_by_text m q)
      by true is = ap (get_by_text m) (sym ((bytes_eq-Decides text q).0 is)) ∙ absent
      by false is = refl

  -- after an insertion into such a map
  pub Sets-inserted : {X : Type 0} (m old new : BTreeMap (String Z) X) (text : List ℕ) (k : String Z) (w : X) → old ≡ m → string_bytes k ≡ text
      → tree.UpdatesBy string_cmp (string_cmp k) old new (Some w) → Sets m new text (Some w)
  Sets-inserted m old new text k w same is updates q =
      btree_map_updates_text (string_bytes k) old new (Some w) updates q
      ∙ ap (λ t. update bytes_eq (get_by_text old) t (Some w) q) is ∙ ap (λ o. update bytes_eq (get_by_text o) text (Some w) q) same

  -- after a removal from a map that differs at the text alone
  pub Sets-removed : {X : Type 0} (m old new : BTreeMap (String Z) X) (text : List ℕ) (v : Option X) → Sets m old text v
      → tree.UpdatesBy string_cmp (λ k. slice_cmp nat_cmp text (string_bytes k)) old new None → Sets m new text None
  Sets-removed m old new text v sets updates q =
      btree_map_updates_text text old new None updates q ∙ ap (cond (bytes_eq text q) None) (sets q) ∙ update-update bytes_eq (get_by_text m) text v None q

  -- the counts where the text's number has become n
  pub counts_step : (step : ℕ → ℕ → ℕ) → IsStep step → (old new : BTreeMap (String Z) ℕ) (seen : List (List ℕ × ℕ)) (text : List ℕ) (w : Option ℕ) → by_bytes old.entries ≡ seen → Sets old new text w
      → unwrap_or w 0 ≡ step (unwrap_or (get_by_text old text) 0) 1 → (q : List ℕ) → count_in q (by_bytes new.entries) ≡ step (count_in q seen) (one_if (bytes_eq q text))
  counts_step step none old new seen text w view sets one q =
      count-by_bytes q new ∙ read-Sets (λ o. unwrap_or o 0) old new text w sets q
      ∙ step_at step none (λ t. unwrap_or (get_by_text old t) 0) text q (unwrap_or w 0) one
      ∙ ap (λ n. step n (one_if (bytes_eq q text))) (sym (count-by_bytes q old) ∙ ap (count_in q) view)

  -- no text has a 0 beside it
  abbrev pub IsSound : BTreeMap (String Z) ℕ → Type 0
  IsSound m = (q : List ℕ) → get_by_text m q ≢ Some 0

  pub IsSound-Sets : (old new : BTreeMap (String Z) ℕ) (text : List ℕ) (w : Option ℕ) → Sets old new text w → w ≢ Some 0 → IsSound old → IsSound new
  IsSound-Sets old new text w sets some sound q zero =
      by (bytes_eq text q) (sym (sets q) ∙ zero)
    where
      by : (b : Bool) → cond b w (get_by_text old q) ≡ Some 0 → ⊥
      by true e = some e
      by false e = sound q e

  -- each value of the map has the property
  abbrev pub AllValues : {X : Type 0} → (X → Type 0) → BTreeMap (String Z) X → Type 0
  AllValues P m = (q : List ℕ) → IfSome (get_by_text m q) P

  pub AllValues-Sets : {X : Type 0} (P : X → Type 0) (old new : BTreeMap (String Z) X) (text : List ℕ) (w : Option X) → Sets old new text w → IfSome w P → AllValues P old → AllValues P new
  AllValues-Sets P old new text w sets written all q = subst (λ o. IfSome o P) (sym (sets q)) (by (bytes_eq text q))
    where
      by : (b : Bool) → IfSome (cond b w (get_by_text old q)) P
      by true = written
      by false = all q

  -- so has the one that is found
  pub AllValues-found : {X : Type 0} (P : X → Type 0) (m : BTreeMap (String Z) X) (text : List ℕ) (found : X) → Some found ≡ get_by_text m text → AllValues P m → P found
  AllValues-found P m text found is all = subst (λ o. IfSome o P) (sym is) (all text)

  -- no text is counted exactly where there is no entry
  pub none_counted : (m : BTreeMap (String Z) ℕ) → btree_map_len m ≡ 0 → (q : List ℕ) → count_in q (by_bytes m.entries) ≡ 0
  none_counted m empty q = by m.entries empty
    where
      by : (es : List (String Z × ℕ)) → length es ≡ 0 → count_in q (by_bytes es) ≡ 0
      by [] e = refl
      by (x ∷ es) e = absurd (omega arith)

  pub no_entry : (m : BTreeMap (String Z) ℕ) → IsSound m → ((q : List ℕ) → count_in q (by_bytes m.entries) ≡ 0) → btree_map_len m ≡ 0
  no_entry m sound none = by m.entries (λ q. sym (lookup-by_bytes q m.entries)) none
    where
      by : (es : List (String Z × ℕ)) → ((q : List ℕ) → get_by_text m q ≡ lookup (bytes_eq q) (by_bytes es)) → ((q : List ℕ) → count_in q (by_bytes es) ≡ 0) → length es ≡ 0
      by [] read counts = refl
      by (e ∷ es) read counts =
          let text = string_bytes e.0 in
          let same : bytes_eq text text ≡ true = (bytes_eq-Decides text text).1 refl in
          let found : lookup (bytes_eq text) (by_bytes (e ∷ es)) ≡ Some e.1 = ap (λ b. cond b (Some e.1) (lookup (bytes_eq text) (by_bytes es))) same in
          let zero : e.1 ≡ 0 = sym (ap (λ o. unwrap_or o 0) found) ∙ counts text in
          absurd (sound text (read text ∙ found ∙ ap Some zero))

  -- a text that isn't found has the count 0
  pub zero_in : (m : BTreeMap (String Z) ℕ) (seen : List (List ℕ × ℕ)) (text : List ℕ) → by_bytes m.entries ≡ seen → get_by_text m text ≡ None → count_in text seen ≡ 0
  zero_in m seen text view absent = sym (ap (count_in text) view) ∙ count-by_bytes text m ∙ ap (λ o. unwrap_or o 0) absent

  pub zero_within : (m : BTreeMap (String Z) (List (List ℕ × ℕ))) (seen : List (List ℕ × List (List ℕ × ℕ))) (namespace text : List ℕ) → by_bytes m.entries ≡ seen → get_by_text m namespace ≡ None → count_within namespace text seen ≡ 0
  zero_within m seen namespace text view absent = sym (ap (count_within namespace text) view) ∙ count_within-by_bytes namespace text m ∙ ap (λ o. count_in text (unwrap_or o [])) absent

  -- the counts of a namespace where its list has become w
  pub within_step : (step : ℕ → ℕ → ℕ) → IsStep step → (old new : BTreeMap (String Z) (List (List ℕ × ℕ))) (seen : List (List ℕ × List (List ℕ × ℕ))) (namespace text : List ℕ) (w : Option (List (List ℕ × ℕ)))
      → by_bytes old.entries ≡ seen → Sets old new namespace w
      → ((q : List ℕ) → count_in q (unwrap_or w []) ≡ step (count_in q (unwrap_or (get_by_text old namespace) [])) (one_if (bytes_eq q text)))
      → (space q : List ℕ) → count_within space q (by_bytes new.entries) ≡ step (count_within space q seen) (one_if (bytes_eq space namespace && bytes_eq q text))
  within_step step none old new seen namespace text w view sets one space q =
      count_within-by_bytes space q new ∙ read-Sets (λ o. count_in q (unwrap_or o [])) old new namespace w sets space ∙ by (bytes_eq space namespace) refl
      ∙ ap (λ n. step n (one_if (bytes_eq space namespace && bytes_eq q text))) (sym (count_within-by_bytes space q old) ∙ ap (count_within space q) view)
    where
      by : (b : Bool) → bytes_eq space namespace ≡ b
          → cond b (count_in q (unwrap_or w [])) (count_in q (unwrap_or (get_by_text old space) [])) ≡ step (count_in q (unwrap_or (get_by_text old space) [])) (one_if (b && bytes_eq q text))
      by true same = one q ∙ ap (λ s. step (count_in q (unwrap_or (get_by_text old s) [])) (one_if (bytes_eq q text))) (sym ((bytes_eq-Decides space namespace).0 same))
      by false differ = sym (none (count_in q (unwrap_or (get_by_text old space) [])))

-- a text is counted that was counted once more
pub HasCounted-more : (before after : List (List ℕ × ℕ)) (text : List ℕ) → ((q : List ℕ) → count_in q after ≡ count_in q before + one_if (bytes_eq q text)) → HasCounted after
HasCounted-more before after text more zero =
    let same : one_if (bytes_eq text text) ≡ 1 = ap one_if ((bytes_eq-Decides text text).1 refl) in
    absurd (omega (arith, same, more text, zero text))

-- where the counts stay
pub HasCounted-same : (before after : List (List ℕ × ℕ)) → ((q : List ℕ) → count_in q after ≡ count_in q before) → HasCounted before → HasCounted after
HasCounted-same before after same counted zero = counted (λ q. sym (same q) ∙ zero q)

-- whatever became of the call that counts one more
pub HasCounted-either : {A B : Type 0} (r : Result A B) (before after : List (List ℕ × ℕ)) (text : List ℕ)
    → OnOk r ((q : List ℕ) → count_in q after ≡ count_in q before + one_if (bytes_eq q text)) → OnErr r ((q : List ℕ) → count_in q after ≡ count_in q before) → HasCounted before → HasCounted after
HasCounted-either (Ok a) before after text more same counted = HasCounted-more before after text more
HasCounted-either (Err b) before after text more same counted = HasCounted-same before after same counted

-- what `checked_add` says where it gives none
pub no_sum : (o : Option ℕ) (P : Type 0) (n : ℕ) → SomeIff o P n → o ≡ None → P → ⊥
no_sum None P n none is p = none p
no_sum (Some x) P n some is p = cc

pub sum_is : (o : Option ℕ) (P : Type 0) (n m : ℕ) → SomeIff o P n → o ≡ Some m → m ≡ n
sum_is None P n m none is = cc
sum_is (Some x) P n m some is = let same : x ≡ m = cc in sym same ∙ some.1

-- numbers that aren't 0
pub more_some : (n m : ℕ) → m ≡ n + 1 → Some m ≢ Some 0
more_some n m is e = let zero : m ≡ 0 = cc in absurd (omega arith)
