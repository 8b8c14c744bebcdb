-- What a granted prepare or view hands out.
use Rattle.std.specs.Prelude.{if◌then◌else◌, option_and_then, unwrap_or, IsSomeAnd, Bool, true, false}
use Rattle.std.specs.List.{cons_option}
use Rattle.std.specs.Option.{option_map}
use Rattle.std.proofs.Common.{◌≡◌, ◌⊎◌, inl, inr, ℕ, zero, suc, List, [], ◌∷◌, length, Option, None, Some, refl, sym, ap, ◌∙◌, subst}
use Rattle.snap_layer.specs.Edits.{root_only}
use Rattle.snap_layer.specs.Tree.{Tree}
use Rattle.snap_record.specs.Labels.{Bytes}
use Rattle.snap_record.specs.declared.record.Content.{Content}
use Rattle.snap_record.specs.declared.record.Content.TheVariants.{View, Active, Committed}
use Rattle.snap_record.specs.declared.record.Record.{Record}
use Rattle.snap_call.specs.Records.{is_committed, record_at}
use Rattle.snap_call.specs.State.{ancestors, chain_from, ids_of, layer_of, layers_of, or_empty, shown_layers, most_ancestors}

-- ---- a chain has a layer for each id

one_more : (c : Content) (ls : List Tree) → is_committed c ≡ true → length (cons_option (layer_of c) ls) ≡ suc (length ls)
one_more (Committed layer usage) ls e = refl
one_more (View layers) ls e = absurd (cc)
one_more (Active slot charged) ls e = absurd (cc)

abbrev HasLayers : Option (List Record) → Type 0
HasLayers None = Unit {0}
HasLayers (Some cs) = length (layers_of cs) ≡ length cs

on_top : (r : Record) (o : Option (List Record)) → is_committed r.content ≡ true → HasLayers o → HasLayers (option_map (λ above. r ∷ above) o)
on_top r None e h = tt
on_top r (Some above) e h = one_more r.content (layers_of above) e ∙ ap suc h

if_committed : (rest : Bytes → Option (List Record)) (r : Record) (b : Bool) → is_committed r.content ≡ b → ((parent : Bytes) → HasLayers (rest parent))
    → HasLayers (option_and_then (λ q. option_map (λ above. q ∷ above) (rest q.parent)) (if b then Some r else None))
if_committed rest r true e h = on_top r (rest r.parent) e (h r.parent)
if_committed rest r false e h = tt

from_record : (rest : Bytes → Option (List Record)) (o : Option Record) → ((parent : Bytes) → HasLayers (rest parent))
    → HasLayers (option_and_then (λ q. option_map (λ above. q ∷ above) (rest q.parent)) (option_and_then (λ r. if is_committed r.content then Some r else None) o))
from_record rest None h = tt
from_record rest (Some r) h = if_committed rest r (is_committed r.content) refl h

has_layers : (n : ℕ) (rs : List Record) (place : ℕ) (parent : Bytes) → HasLayers (chain_from n rs place parent)
has_layers n rs place [] = refl
has_layers zero rs place (b ∷ bs) = tt
has_layers (suc n) rs place (b ∷ bs) = from_record (λ parent. chain_from n rs place parent) (record_at place (b ∷ bs) rs) (λ parent. has_layers n rs place parent)

of_chain : (o : Option (List Record)) → HasLayers o → length (layers_of (unwrap_or o [])) ≡ length (unwrap_or o [])
of_chain None h = refl
of_chain (Some cs) h = h

length-ids : (rs : List Record) → length (ids_of rs) ≡ length rs
length-ids [] = refl
length-ids (r ∷ rs) = ap suc (length-ids rs)

pub one_for_each : (place : ℕ) (parent : Bytes) (rs : List Record) → length (layers_of (ancestors place parent rs)) ≡ length (ids_of (ancestors place parent rs))
one_for_each place parent rs = of_chain (chain_from most_ancestors rs place parent) (has_layers most_ancestors rs place parent) ∙ sym (length-ids (ancestors place parent rs))

-- ---- without a parent there are none

pub no_base : (place : ℕ) (parent : Bytes) (rs : List Record) → parent ≡ [] → layers_of (ancestors place parent rs) ≡ []
no_base place [] rs e = refl
no_base place (b ∷ bs) rs e = absurd (cc)

-- ---- a place that was found

pub placed : (o : Option ℕ) (P Q : ℕ → Type 0) → IsSomeAnd o P → IsSomeAnd o Q → (place : ℕ) × (o ≡ Some place) × P place × Q place
placed None P Q p q = absurd p
placed (Some place) P Q p q = (place, refl, p, q)

-- ---- a view shows them, or one empty layer

shown_or_empty : (ls : List Tree) (n : ℕ) → length ls ≡ n → (length (or_empty ls) ≡ n) ⊎ (or_empty ls ≡ root_only (record { mode = 493 }) 1 ∷ [])
shown_or_empty [] n e = inr refl
shown_or_empty (l ∷ ls) n e = inl e

pub view_shows : (place : ℕ) (parent : Bytes) (rs : List Record) (lowers : List Tree) → lowers ≡ shown_layers place parent rs
    → (length lowers ≡ length (ids_of (ancestors place parent rs))) ⊎ (lowers ≡ root_only (record { mode = 493 }) 1 ∷ [])
view_shows place parent rs lowers is =
    subst (λ (l : List Tree). (length l ≡ length (ids_of (ancestors place parent rs))) ⊎ (l ≡ root_only (record { mode = 493 }) 1 ∷ [])) (sym is)
    (shown_or_empty (layers_of (ancestors place parent rs)) (length (ids_of (ancestors place parent rs))) (one_for_each place parent rs))
