-- What one layer does to what is seen at a path.
use Rattle.std.proofs.Common.{◌≡◌, Bool, true, false, cond, List, [], ◌∷◌, ◌++◌, Option, Some, None, refl, sym, ap, ◌∙◌, append-nil}
use Rattle.snap_path.specs.Text.{Names}
use Rattle.snap_layer.specs.declared.node.Node.{Node}
use Rattle.snap_layer.specs.declared.node.Node.TheVariants.{Dir, Whiteout}
use Rattle.snap_layer.specs.Tree.{Tree, at, hides}
use Rattle.snap_merge.specs.Objects.{shown, seen, seen_over}
use Rattle.snap_merge.specs.Walk.{walk_on, walk_from}
use Rattle.snap_merge.specs.Rules.{AreAlike, LayerRules}
use Rattle.snap_merge.proofs.Hiding.{hidden_by, hides_from_above, hides_alike}

-- layers under which the same is seen
pub seen_under : (over s z : List Tree) (p : Names) → seen s p ≡ seen z p → seen (over ++ s) p ≡ seen (over ++ z) p
seen_under [] s z p e = e
seen_under (t ∷ over) s z p e = ap (seen_over t (at t p) p) (seen_under over s z p e)

-- a node decides, whatever is below
pub seen_node : (t : Tree) (under : List Tree) (p : Names) (n : Node) → at t p ≡ Some n → seen (t ∷ under) p ≡ shown t n
seen_node t under p n e = ap (λ o. seen_over t o p (seen under p)) e

-- without a node the layer hides the path or not
pub seen_through : (t : Tree) (under : List Tree) (p : Names) (b : Bool) → at t p ≡ None → hides t p ≡ b → seen (t ∷ under) p ≡ cond b None (seen under p)
seen_through t under p b none e = ap (λ o. seen_over t o p (seen under p)) none ∙ ap (λ h. cond h None (seen under p)) e

whited : (t : Tree) (p : Names) (over under : List Tree) → at t p ≡ Some Whiteout → seen (over ++ t ∷ under) p ≡ seen over p
whited t p over under e = seen_under over (t ∷ under) [] p (seen_node t under p Whiteout e) ∙ ap (λ (s : List Tree). seen s p) (append-nil over)

alone : (t : Tree) (p : Names) (under : List Tree) → hides t p ≡ true → seen (t ∷ under) p ≡ seen (t ∷ []) p
alone t p under e = by (at t p) refl
  where
    by : (o : Option Node) → at t p ≡ o → seen (t ∷ under) p ≡ seen (t ∷ []) p
    by None is = seen_through t under p true is e ∙ sym (seen_through t [] p true is e)
    by (Some n) is = seen_node t under p n is ∙ sym (seen_node t [] p n is)

-- layers that are alike at a path and above it show the same there
pub seen_alike : (t u : Tree) (under : List Tree) (p : Names) → AreAlike t u p → seen (u ∷ under) p ≡ seen (t ∷ under) p
seen_alike t u under p same = ap (λ o. seen_over u o p (seen under p)) same.here ∙ by (at t p) refl
  where
    by : (o : Option Node) → at t p ≡ o → seen_over u o p (seen under p) ≡ seen_over t o p (seen under p)
    by None e = ap (λ h. cond h None (seen under p)) (hides_alike t u p [] same.above)
    by (Some n) e = same.shows n e

pub layer_rules : (t : Tree) (p : Names) → LayerRules t p
layer_rules t p = record {
  hiding = (hidden_by t p, hides_from_above t p);
  whiteout = λ over under e. whited t p over under e;
  hidden = λ over under e. seen_under over (t ∷ under) (t ∷ []) p (alone t p under e);
  directory = λ under meta opaque e. seen_node t under p (Dir meta opaque) e;
  untouched = λ over under none e. seen_under over (t ∷ under) under p (seen_through t under p false none e);
  elsewhere = λ u under same. seen_alike t u under p same;
}

-- stacks that show the same have the same walks
pub walk_same : (s z : List Tree) → ((q : Names) → seen z q ≡ seen s q) → (front rest : Names) → walk_from z front rest ≡ walk_from s front rest
walk_same s z same front [] = refl
walk_same s z same front (n ∷ rest) = λ i. walk_on (same front i) (walk_same s z same (front ++ n ∷ []) rest i)
