-- The records of one namespace: what a name, a chain or a test of the namespace's finds in all records is found among them.
use Rattle.std.proofs.Common.{◌≡◌, ℕ, zero, suc, Bool, true, false, List, [], ◌∷◌, Option, None, Some, IsSome, cond, refl, sym, ap, ◌∙◌, subst}
use Rattle.std.proofs.lemmas.Bool.{eqb-true}
use Rattle.std.specs.List.{AllByRecursion, find, filter, list_any}
use Rattle.std.specs.Option.{option_map}
use Rattle.std.specs.Prelude.{bytes_eq, ◌==◌, ◌&&◌, ◌||◌, option_and_then, unwrap_or, if◌then◌else◌}
use Rattle.snap_usage.specs.Counted.{no_usage}
use Rattle.snap_ledger.specs.States.{plus}
use Rattle.snap_record.specs.Labels.{Bytes}
use Rattle.snap_record.specs.Records.{usage_of}
use Rattle.snap_record.specs.declared.record.Record.{Record}
use Rattle.snap_call.specs.Records.{is_named, record_at, is_committed, committed_at, charge_of}
use Rattle.snap_call.specs.State.{chain_from, most_ancestors}
use Rattle.snap_call.proofs.Parts.{is_ancestor}
use Rattle.snap_call.proofs.Sums.{none-plus}

-- the records of the namespace at the place
abbrev pub own : ℕ → List Record → List Record
own place rs = filter (λ r. r.namespace == place) rs

-- the test passes records of the namespace alone
abbrev pub IsOfOwn : ℕ → (Record → Bool) → Type 0
IsOfOwn place q = (r : Record) → (r.namespace == place) ≡ false → q r ≡ false

module _ (place : ℕ) where
  -- ---- by a test

  module _ (q : Record → Bool) (other : IsOfOwn place q) where
    pub filter-own : (rs : List Record) → filter q (own place rs) ≡ filter q rs
    filter-own [] = refl
    filter-own (r ∷ rs) = by (r.namespace == place) refl (filter-own rs)
      where
        by : (b : Bool) → (r.namespace == place) ≡ b → filter q (own place rs) ≡ filter q rs → filter q (cond b (r ∷ own place rs) (own place rs)) ≡ filter q (r ∷ rs)
        by true is rest = ap (λ l. cond (q r) (r ∷ l) l) rest
        by false is rest = rest ∙ sym (ap (λ c. cond c (r ∷ filter q rs) (filter q rs)) (other r is))

    pub find-own : (rs : List Record) → find q (own place rs) ≡ find q rs
    find-own [] = refl
    find-own (r ∷ rs) = by (r.namespace == place) refl (find-own rs)
      where
        by : (b : Bool) → (r.namespace == place) ≡ b → find q (own place rs) ≡ find q rs → find q (cond b (r ∷ own place rs) (own place rs)) ≡ find q (r ∷ rs)
        by true is rest = ap (λ o. cond (q r) (Some r) o) rest
        by false is rest = rest ∙ sym (ap (λ c. cond c (Some r) (find q rs)) (other r is))

    pub any-own : (rs : List Record) → list_any q (own place rs) ≡ list_any q rs
    any-own [] = refl
    any-own (r ∷ rs) = by (r.namespace == place) refl (any-own rs)
      where
        by : (b : Bool) → (r.namespace == place) ≡ b → list_any q (own place rs) ≡ list_any q rs → list_any q (cond b (r ∷ own place rs) (own place rs)) ≡ list_any q (r ∷ rs)
        by true is rest = ap (λ c. q r || c) rest
        by false is rest = rest ∙ sym (ap (λ c. c || list_any q rs) (other r is))

  -- ---- by a name

  pub found-own : (key : Bytes) (rs : List Record) → record_at place key (own place rs) ≡ record_at place key rs
  found-own key rs = find-own (is_named place key) (λ r is. ap (λ b. b && bytes_eq r.key key) is) rs

  pub committed-own : (key : Bytes) (rs : List Record) → committed_at place key (own place rs) ≡ committed_at place key rs
  committed-own key rs = ap (option_and_then (λ r. if is_committed r.content then Some r else None)) (found-own key rs)

  -- ---- a chain

  pub chain-own : (rs : List Record) (m : ℕ) (p : Bytes) → chain_from m (own place rs) place p ≡ chain_from m rs place p
  chain-own rs m [] = refl
  chain-own rs zero (b ∷ bs) = refl
  chain-own rs (suc m) (b ∷ bs) =
      ap (option_and_then (λ r. option_map (λ above. r ∷ above) (chain_from m (own place rs) place r.parent))) (committed-own (b ∷ bs) rs)
      ∙ over (committed_at place (b ∷ bs) rs) (λ r. chain-own rs m r.parent)
    where
      over : (o : Option Record) → ((r : Record) → chain_from m (own place rs) place r.parent ≡ chain_from m rs place r.parent)
          → option_and_then (λ r. option_map (λ above. r ∷ above) (chain_from m (own place rs) place r.parent)) o ≡ option_and_then (λ r. option_map (λ above. r ∷ above) (chain_from m rs place r.parent)) o
      over None next = refl
      over (Some r) next = ap (option_map (λ above. r ∷ above)) (next r)

  chain-at : (rs : List Record) (n : ℕ) → n ≡ place → (p : Bytes) → chain_from most_ancestors (own place rs) n p ≡ chain_from most_ancestors rs n p
  chain-at rs n e p = subst (λ k. chain_from most_ancestors (own place rs) k p ≡ chain_from most_ancestors rs k p) (sym e) (chain-own rs most_ancestors p)

  pub chains-own : (all rs : List Record) → AllByRecursion (λ r. IsSome (chain_from most_ancestors all r.namespace r.parent)) rs → AllByRecursion (λ r. IsSome (chain_from most_ancestors (own place all) r.namespace r.parent)) (own place rs)
  chains-own all [] chains = tt
  chains-own all (r ∷ rs) chains = by (r.namespace == place) refl (chains-own all rs chains.1)
    where
      by : (b : Bool) → (r.namespace == place) ≡ b → AllByRecursion (λ t. IsSome (chain_from most_ancestors (own place all) t.namespace t.parent)) (own place rs)
          → AllByRecursion (λ t. IsSome (chain_from most_ancestors (own place all) t.namespace t.parent)) (cond b (r ∷ own place rs) (own place rs))
      by true is rest = (subst IsSome (sym (chain-at all r.namespace (eqb-true r.namespace place is) r.parent)) chains.0, rest)
      by false is rest = rest

  pub ancestor-own : (rs : List Record) (key : Bytes) (t : Record) → (t.namespace == place) ≡ true → is_ancestor (own place rs) key t ≡ is_ancestor rs key t
  ancestor-own rs key t is = ap (λ o. list_any (λ u. bytes_eq u.key key) (unwrap_or o [])) (chain-at rs t.namespace (eqb-true t.namespace place is) t.parent)

  -- ---- what is reached

  any-same : (f g : Record → Bool) → ((r : Record) → f r ≡ g r) → (rs : List Record) → list_any f rs ≡ list_any g rs
  any-same f g same [] = refl
  any-same f g same (r ∷ rs) = ap (λ b. b || list_any f rs) (same r) ∙ ap (λ b. g r || b) (any-same f g same rs)

  -- a record of the key is in use by the test, or is an ancestor of one that is
  abbrev reaches_in : (Record → Bool) → List Record → Bytes → Record → Bool
  reaches_in root rs key t = (t.namespace == place) && root t && (bytes_eq t.key key || is_ancestor rs key t)

  pub reached-own : (root : Record → Bool) (rs : List Record) (key : Bytes) → list_any (reaches_in root (own place rs) key) (own place rs) ≡ list_any (reaches_in root rs key) rs
  reached-own root rs key = any-same (reaches_in root (own place rs) key) (reaches_in root rs key) same (own place rs) ∙ any-own (reaches_in root rs key) (λ r is. ap (λ b. b && root r && (bytes_eq r.key key || is_ancestor rs key r)) is) rs
    where
      same : (r : Record) → reaches_in root (own place rs) key r ≡ reaches_in root rs key r
      same r = by (r.namespace == place) refl
        where
          by : (b : Bool) → (r.namespace == place) ≡ b → (b && root r && (bytes_eq r.key key || is_ancestor (own place rs) key r)) ≡ (b && root r && (bytes_eq r.key key || is_ancestor rs key r))
          by true is = ap (λ c. root r && (bytes_eq r.key key || c)) (ancestor-own rs key r is)
          by false is = refl

  -- ---- the charge

  pub charge-own : (rs : List Record) → charge_of place (own place rs) ≡ charge_of place rs
  charge-own [] = refl
  charge-own (r ∷ rs) = by (r.namespace == place) refl (charge-own rs)
    where
      none_more : plus no_usage (charge_of place rs) ≡ charge_of place rs
      none_more = none-plus (charge_of place rs)

      by : (b : Bool) → (r.namespace == place) ≡ b → charge_of place (own place rs) ≡ charge_of place rs
          → charge_of place (cond b (r ∷ own place rs) (own place rs)) ≡ charge_of place (r ∷ rs)
      by true is rest = ap (λ u. plus (if r.namespace == place then usage_of r.content else no_usage) u) rest
      by false is rest = rest ∙ sym (ap (λ c. plus (if c then usage_of r.content else no_usage) (charge_of place rs)) is ∙ none_more)
