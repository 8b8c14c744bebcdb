-- A change that is made.
use Rattle.std.proofs.Common.{◌≡◌, ◌⊎◌, inl, inr, Bool, true, false, List, ◌∷◌, Some, Result, Ok, Err, IfErr, refl, sym, ap, subst, ◌∙◌}
use Rattle.std.specs.Prelude.{if◌then◌else◌}
use Rattle.std.specs.Result.{IsErrAnd}
use Rattle.snap_layer.specs.Tree.{Tree, at}
use Rattle.snap_layer.specs.Counts.{is_within}
use Rattle.snap_layer.specs.Edits.{with_mode, with_opaque}
use Rattle.snap_layer.specs.Layers.{IsLayer}
use Rattle.snap_layer.specs.Contents.{edited}
use Rattle.snap_merge.specs.declared.error.FsError.{FsError}
use Rattle.snap_merge.specs.declared.error.FsError.TheVariants.{LayerFull}
use Rattle.snap_merge.specs.Objects.{seen}
use Rattle.snap_copyup.specs.Copying.{with_parents}
use Rattle.snap_copyup.specs.Places.{with_last}
use Rattle.snap_upper.specs.declared.op.Op.{Op}
use Rattle.snap_upper.specs.declared.op.Op.TheVariants as op
use Rattle.snap_upper.specs.declared.change.Change.{Change}
use Rattle.snap_upper.specs.declared.change.Change.TheVariants.{Nothing, Put, Fill, SetMode, SetOpaque, Erase, EraseTree, Link, Move}
use Rattle.snap_upper.specs.After.{Outcome, after, limited, with_content, erased, tree_erased, renamed, next_layer}
use Rattle.snap_upper.specs.Changed.{changed}
use Rattle.snap_upper.specs.Changes.{IsChange, as_last, outcome}
use Rattle.snap_upper.proofs.Changing.{after_changes}

pub made_after : (a b c : Outcome) → a ≡ b → a ≡ c → b ≡ c
made_after a b c e f = sym e ∙ f

pub made_changes : (op : Op) (u : Tree) (ls : List Tree) (v : Tree) (c : Change) → IsLayer u → IsChange c op u ls → outcome c u ls ≡ Ok v → changed op u (seen (u ∷ ls)) (seen (v ∷ ls))
made_changes op u ls v c ok is made = after_changes op u ls v ok is.layers (made_after (outcome c u ls) (after op u ls) (Ok v) is.same made)

-- ---- the order of errors

limited_err : (t : Tree) → IfErr (limited t) (λ e. e ≡ LayerFull)
limited_err t = by (is_within t)
  where
    by : (b : Bool) → IfErr (if b then Ok t else Err LayerFull) (λ e. e ≡ LayerFull)
    by true = tt
    by false = refl

-- the only error of a change is that of a layer that passes the limits
outcome_err : (c : Change) (u : Tree) (ls : List Tree) → IfErr (outcome c u ls) (λ e. e ≡ LayerFull)
outcome_err Nothing u ls = tt
outcome_err (Put path new) u ls = limited_err (with_last (as_last new) (with_parents u ls path.now) path.now)
outcome_err (Fill number size edit) u ls = limited_err (with_content u (Some number) (edited edit))
outcome_err (SetMode path mode) u ls = limited_err (with_mode u path.now (at u path.now) mode)
outcome_err (SetOpaque path) u ls = limited_err (with_opaque u path.now (at u path.now) true)
outcome_err (Erase path covers) u ls = limited_err (erased u ls path.now)
outcome_err (EraseTree path covers) u ls = limited_err (tree_erased u ls path.now)
outcome_err (Link from to) u ls = limited_err (next_layer (op.Link from.now to.now) u ls)
outcome_err (Move from to leaves covers) u ls = limited_err (renamed u ls from.now to.now)

-- where there is a change, the operation has a next layer, or one that passes the limits
pub made_first : (op : Op) (u : Tree) (ls : List Tree) (c : Change) (r : Result (Unit {0}) FsError) → IsChange c op u ls → IfErr (after op u ls) (λ e. (e ≡ LayerFull) ⊎ (r ≡ Err e))
made_first op u ls c r is = by (after op u ls) (subst (λ (o : Outcome). IfErr o (λ e. e ≡ LayerFull)) is.same (outcome_err c u ls))
  where
    by : (o : Outcome) → IfErr o (λ e. e ≡ LayerFull) → IfErr o (λ e. (e ≡ LayerFull) ⊎ (r ≡ Err e))
    by (Ok t) h = tt
    by (Err e) h = inl h

-- an operation that its rule refuses has the rule's error
pub refused_first : (o : Outcome) (x : FsError) (r : Result (Unit {0}) FsError) → IsErrAnd r (λ e. e ≡ x) → o ≡ Err x → IfErr o (λ e. (e ≡ LayerFull) ⊎ (r ≡ Err e))
refused_first (Ok t) x r same is = absurd (cc)
refused_first (Err e) x (Ok a) same is = absurd same
refused_first (Err e) x (Err y) same is = let one : x ≡ e = cc in inr (ap (λ (z : FsError). Err z) (same ∙ one))
