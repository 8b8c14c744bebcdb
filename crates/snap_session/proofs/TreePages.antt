-- A page of a tree is what a walk has, each found once more by its key.
use Rattle.std.proofs.Common.{◌≡◌, ℕ, zero, suc, Bool, true, false, cond, List, [], ◌∷◌, map, take, Option, Some, Result, Ok, Err, refl, sym, ap, ◌∙◌}
use Rattle.std.specs.List.{AllByRecursion, cons_option}
use Rattle.std.specs.List.Sorted.{IsStrictlySortedBy}
use Rattle.std.specs.Option.{option_map}
use Rattle.std.specs.Prelude.{◌==◌, ◌&&◌, IfOk, filter, filter_map}
use Rattle.std.specs.Cmp.Lexicographic.{slice_cmp}
use Rattle.std.specs.Ordering.{is_lt, nat_cmp}
use Rattle.std.proofs.lemmas.Bool.{eqb-true}
use Rattle.snap_record.specs.Filters.{is_match, no_filter}
use Rattle.snap_record.specs.Labels.{Bytes}
use Rattle.snap_record.specs.Records.{info_of}
use Rattle.snap_record.specs.declared.record.Record.{Record}
use Rattle.snap_call.specs.Records.{record_at, record_cmp}
use Rattle.snap_call.proofs.InOrder.{own_found}
use Rattle.snap_script.specs.declared.answer.TreeNode.{TreeNode}
use Rattle.snap_script.specs.declared.command.Page.{Page}
use Rattle.snap_session.specs.Tree.{forest, forest_page, forest_part, is_node_after, tree_node, tree_node_of, walked_page}

module _ (place : ℕ) (after : Bytes) (rs : List Record) where
  abbrev is_here : Record → Bool
  is_here r = r.namespace == place

  abbrev is_later : Record → Bool
  is_later r = is_lt (slice_cmp nat_cmp after r.key)

  abbrev walked_by : List Record → List Record
  walked_by xs = filter (λ r. is_here r && is_later r && is_match (info_of r) no_filter) xs

  abbrev paged_of : List Record → List TreeNode
  paged_of xs = filter (is_node_after after) (map (tree_node rs) (filter is_here xs))

  walked : (n : ℕ) (xs : List Record) → AllByRecursion (λ r. record_at r.namespace r.key rs ≡ Some r) xs
      → filter_map (tree_node_of place rs) (map info_of (take n (walked_by xs))) ≡ take n (paged_of xs)
  unfolding tree_node
  walked zero xs own = refl
  walked (suc n) [] own = refl
  walked (suc n) (r ∷ xs) own = by (is_here r) refl (walked n xs own.1) (walked (suc n) xs own.1)
    where
      Same : ℕ → Type 0
      Same n = filter_map (tree_node_of place rs) (map info_of (take n (walked_by xs))) ≡ take n (paged_of xs)

      found : r.namespace ≡ place → tree_node_of place rs (info_of r) ≡ Some (tree_node rs r)
      found at = ap (option_map (tree_node rs)) (ap (λ p. record_at p r.key rs) (sym at) ∙ own.0)

      within : (later : Bool) → r.namespace ≡ place → Same n → Same (suc n)
          → filter_map (tree_node_of place rs) (map info_of (take (suc n) (cond (true && later && is_match (info_of r) no_filter) (r ∷ walked_by xs) (walked_by xs))))
          ≡ take (suc n) (cond later (tree_node rs r ∷ paged_of xs) (paged_of xs))
      within true at one all = λ i. cons_option (found at i) (one i)
      within false at one all = all

      by : (here : Bool) → is_here r ≡ here → Same n → Same (suc n)
          → filter_map (tree_node_of place rs) (map info_of (take (suc n) (cond (here && is_later r && is_match (info_of r) no_filter) (r ∷ walked_by xs) (walked_by xs))))
          ≡ take (suc n) (filter (is_node_after after) (map (tree_node rs) (cond here (r ∷ filter is_here xs) (filter is_here xs))))
      by true is one all = within (is_later r) (eqb-true r.namespace place is) one all
      by false is one all = all

  pub walked_whole : (most : ℕ) → IsStrictlySortedBy record_cmp rs → walked_page place after most rs ≡ forest_page after most (forest place rs)
  walked_whole most sorted = walked most rs (own_found rs sorted)

-- the same of the page that is asked for, where a walk found one
pub part_walked : {E : Type 0} (place : ℕ) (rs found : List Record) (page : Option Page) (p : Page) → page ≡ Some p → found ≡ rs → IsStrictlySortedBy record_cmp rs
    → (r : Result (List TreeNode) E) → IfOk r (λ nodes. nodes ≡ walked_page place p.after p.most found) → IfOk r (λ nodes. nodes ≡ forest_part page (forest place rs))
part_walked place rs found page p is same sorted (Ok nodes) h =
    h ∙ ap (walked_page place p.after p.most) same ∙ walked_whole place p.after rs p.most sorted ∙ sym (ap (λ o. forest_part o (forest place rs)) is)
part_walked place rs found page p is same sorted (Err e) h = tt
