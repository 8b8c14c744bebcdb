-- A page of the entries, entry by entry, and the changes from the last one on.
use Rattle.std.proofs.Common.{◌≡◌, ℕ, zero, suc, ◌+◌, ◌-◌, ◌<◌, List, [], ◌∷◌, ◌++◌, length, take, Bool, true, false, refl, sym, ap, ◌∙◌, arith, get_or, Option, None, Some}
use Rattle.std.proofs.Common.{append_assoc}
use Rattle.std.proofs.lemmas.Bool.Decides.{nat_tests}
use Rattle.std.proofs.lemmas.List.{take_more}
use Rattle.std.specs.Prelude.{◌&&◌, filter, nat_lt, if◌then◌else◌}
use Rattle.snap_usage.specs.declared.usage.Usage.{Usage}
use Rattle.snap_record.specs.Labels.{Bytes}
use Rattle.snap_call.specs.declared.entry.Entry.{Entry}
use Rattle.snap_history.specs.Changes.{change_of, charge_before, entry_infos_of, is_own, shares_after, turned}
use Rattle.snap_history.specs.Entries.{entry_info}
use Rattle.snap_history.specs.History.{entries_from}
use Rattle.snap_history.specs.declared.change.Change.{Change}
use Rattle.snap_history.specs.declared.info.EntryInfo.{EntryInfo}

-- what has a greater number
abbrev pub is_later : ℕ → EntryInfo → Bool
is_later after info = nat_lt after info.number

-- what follows, as far as there is room
abbrev pub page_with : ℕ → ℕ → List EntryInfo → List EntryInfo → List EntryInfo
page_with after most infos rest = infos ++ take (most - length infos) (filter (is_later after) rest)

length-last : (infos : List EntryInfo) (x : EntryInfo) → length (infos ++ x ∷ []) ≡ suc (length infos)
length-last [] x = refl
length-last (i ∷ infos) x = ap suc (length-last infos x)

-- room for one more
taken : (infos : List EntryInfo) (x : EntryInfo) (rest : List EntryInfo) (most room : ℕ) → most - length infos ≡ suc room → infos ++ take (most - length infos) (x ∷ rest) ≡ (infos ++ x ∷ []) ++ take (most - length (infos ++ x ∷ [])) rest
taken infos x rest most room e =
    ap (λ (n : ℕ). infos ++ take n (x ∷ rest)) e
    ∙ sym (append_assoc infos (x ∷ []) (take room rest))
    ∙ ap (λ (n : ℕ). (infos ++ x ∷ []) ++ take n rest) (let l = length-last infos x in let h : room ≡ most - length (infos ++ x ∷ []) = omega arith in h)

-- no room
full : (infos : List EntryInfo) (x : EntryInfo) (rest : List EntryInfo) (most : ℕ) → most - length infos ≡ zero → infos ++ take (most - length infos) (x ∷ rest) ≡ infos ++ take (most - length infos) rest
full infos x rest most e = ap (λ (n : ℕ). infos ++ take n (x ∷ rest)) e ∙ sym (ap (λ (n : ℕ). infos ++ take n rest) e)

-- one entry more
page_step : (after most : ℕ) (infos : List EntryInfo) (own : Bool) (x : EntryInfo) (rest : List EntryInfo)
    → page_with after most infos (if own then x ∷ rest else rest)
    ≡ (if own && nat_lt after x.number && nat_lt (length infos) most then page_with after most (infos ++ x ∷ []) rest else page_with after most infos rest)
page_step after most infos false x rest = refl
page_step after most infos true x rest = at (nat_lt after x.number) refl
  where
    into : (n : ℕ) → most - length infos ≡ n → (c : Bool) → nat_lt (length infos) most ≡ c
        → infos ++ take (most - length infos) (x ∷ filter (is_later after) rest) ≡ (if c then page_with after most (infos ++ x ∷ []) rest else page_with after most infos rest)
    into (suc room) e true is = taken infos x (filter (is_later after) rest) most room e
    into zero e false is = full infos x (filter (is_later after) rest) most e
    into zero e true is = absurd (grind (arith, nat_tests))
    into (suc room) e false is = absurd (grind (arith, nat_tests))

    at : (b : Bool) → nat_lt after x.number ≡ b
        → infos ++ take (most - length infos) (filter (is_later after) (x ∷ rest)) ≡ (if nat_lt after x.number && nat_lt (length infos) most then page_with after most (infos ++ x ∷ []) rest else page_with after most infos rest)
    at true is = rw is (into (most - length infos) refl (nat_lt (length infos) most) refl)
    at false is = rw is refl

-- with this entry, or without it
abbrev pub next_infos : List EntryInfo → EntryInfo → Bool → List EntryInfo
next_infos infos x b = if b then infos ++ x ∷ [] else infos

page_if : (after most : ℕ) (infos : List EntryInfo) (rest : List EntryInfo) (x : EntryInfo) (b : Bool)
    → (if b then page_with after most (infos ++ x ∷ []) rest else page_with after most infos rest) ≡ page_with after most (next_infos infos x b) rest
page_if after most infos rest x true = refl
page_if after most infos rest x false = refl

-- one step over the entries, where these are the entry's change, the charge and the shares after it, and whether it is one of the namespace
pub next_page : (after most number : ℕ) (name : Bytes) (shares : List (Option Usage)) (charge : Usage) (infos : List EntryInfo) (e : Entry) (es : List Entry) (change : Change) (now : Usage) (later : List (Option Usage)) (own : Bool)
    → change ≡ change_of name shares e → now ≡ turned charge change.found change.left → later ≡ shares_after name shares e → own ≡ is_own name shares e.call
    → page_with after most infos (entry_infos_of name number shares charge (e ∷ es))
    ≡ page_with after most (next_infos infos (entry_info (number + 1) e (Some now)) (own && nat_lt after (number + 1) && nat_lt (length infos) most)) (entry_infos_of name (number + 1) later now es)
next_page after most number name shares charge infos e es change now later own is_change is_now is_later_shares mine =
    let amount : Usage = turned charge (change_of name shares e).found (change_of name shares e).left in
    let charged : amount ≡ now = sym (is_now ∙ ap (λ (c : Change). turned charge c.found c.left) is_change) in
    let shared : shares_after name shares e ≡ later = sym is_later_shares in
    let belongs : is_own name shares e.call ≡ own = sym mine in
    let x : EntryInfo = entry_info (number + 1) e (Some amount) in
    let rest : List EntryInfo = entry_infos_of name (number + 1) (shares_after name shares e) amount es in
    page_step after most infos (is_own name shares e.call) x rest
    ∙ page_if after most infos rest x _
    ∙ (λ j. page_with after most (next_infos infos (entry_info (number + 1) e (Some (charged j))) (belongs j && nat_lt after (number + 1) && nat_lt (length infos) most)) (entry_infos_of name (number + 1) (shared j) (charged j) es))

-- one step over the entries, whichever they are of
pub next_entry : (after most number : ℕ) (infos : List EntryInfo) (e : Entry) (es : List Entry)
    → page_with after most infos (entries_from number (e ∷ es))
    ≡ page_with after most (next_infos infos (entry_info (number + 1) e None) (nat_lt after (number + 1) && nat_lt (length infos) most)) (entries_from (number + 1) es)
next_entry after most number infos e es =
    let x : EntryInfo = entry_info (number + 1) e None in
    page_step after most infos true x (entries_from (number + 1) es) ∙ page_if after most infos (entries_from (number + 1) es) x _

-- the changes from the last one on
charge_before-append : (now : Usage) (cs : List Change) (c : Change) → charge_before now (cs ++ c ∷ []) ≡ charge_before (turned now c.left c.found) cs
charge_before-append now [] c = refl
charge_before-append now (d ∷ ds) c = ap (λ (u : Usage). turned u d.left d.found) (charge_before-append now ds c)

pub charge_before-take : (now : Usage) (cs : List Change) (k : ℕ) (d : Change) → k < length cs → charge_before (turned now (get_or cs k d).left (get_or cs k d).found) (take k cs) ≡ charge_before now (take (k + 1) cs)
charge_before-take now cs k d low = sym (ap (charge_before now) (take_more cs k d low) ∙ charge_before-append now (take k cs) (get_or cs k d))
