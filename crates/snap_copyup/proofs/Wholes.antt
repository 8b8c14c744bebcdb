-- What layers show is within the limits of a layer.
use Rattle.std.proofs.Common.{◌≡◌, inl, inr, ◌≤◌, Bool, true, false, List, [], ◌∷◌, Option, Some, None, Result, Ok, Err, IfErr, IsErrAnd, refl, sym, subst}
use Rattle.std.specs.Prelude.{if◌then◌else◌}
use Rattle.snap_path.specs.Text.{Names}
use Rattle.snap_layer.specs.declared.node.Node.{Node}
use Rattle.snap_layer.specs.declared.node.Node.TheVariants.{Dir, File, Symlink, Whiteout}
use Rattle.snap_layer.specs.declared.node.Body.{Body}
use Rattle.snap_layer.specs.declared.node.Body.TheVariants as body_kinds
use Rattle.snap_layer.specs.Tree.{Tree, IsDirAt, at, body, hides}
use Rattle.snap_layer.specs.Contents.{IsContent}
use Rattle.snap_layer.specs.Counts.{is_within}
use Rattle.snap_layer.specs.Layers.{IsLayer, IsWhole, IsFile, IsSymlink, is_target, IsMeta}
use Rattle.snap_layer.specs.Edits.{IsFree}
use Rattle.snap_merge.specs.Objects.{Object, dir, file, symlink, seen, seen_over, shown, shown_body, AreLayers}
use Rattle.snap_layer.specs.declared.error.LayerError.{LayerError}
use Rattle.snap_layer.specs.declared.error.LayerError.TheVariants as layer_errors
use Rattle.snap_merge.specs.Errors.{OfLayer}
use Rattle.snap_merge.specs.declared.error.FsError.{FsError}
use Rattle.snap_copyup.specs.Copying.{below}
use Rattle.snap_copyup.specs.Places.{IsFreePlace, IsRefusal}

-- the object's meta, content or target is within the limits
abbrev pub IsWholeObject : Option Object → Type 0
IsWholeObject None = Unit {0}
IsWholeObject (Some (dir meta)) = IsMeta meta
IsWholeObject (Some (file meta content)) = IsMeta meta × IsContent content
IsWholeObject (Some (symlink target)) = is_target target ≡ true

whole_file : (o : Option Body) → IsFile o → IsWholeObject (shown_body o)
whole_file None is = tt
whole_file (Some (body_kinds.File meta content)) is = is
whole_file (Some (body_kinds.Symlink target)) is = absurd is

whole_symlink : (o : Option Body) → IsSymlink o → IsWholeObject (shown_body o)
whole_symlink None is = tt
whole_symlink (Some (body_kinds.File meta content)) is = absurd is
whole_symlink (Some (body_kinds.Symlink target)) is = is

whole_shown : (t : Tree) (n : Node) → IsWhole t n → IsWholeObject (shown t n)
whole_shown t (Dir meta opaque) is = is
whole_shown t (File k) is = whole_file (body t k) is
whole_shown t (Symlink k) is = whole_symlink (body t k) is
whole_shown t Whiteout is = tt

whole_unless : (b : Bool) (o : Option Object) → IsWholeObject o → IsWholeObject (if b then None else o)
whole_unless true o is = tt
whole_unless false o is = is

pub whole_seen : (s : List Tree) → AreLayers s → (p : Names) → IsWholeObject (seen s p)
whole_seen [] ok p = tt
whole_seen (t ∷ ts) ok p = by (at t p) refl (whole_seen ts ok.1 p)
  where
    by : (o : Option Node) → at t p ≡ o → IsWholeObject (seen ts p) → IsWholeObject (seen_over t o p (seen ts p))
    by None e under = whole_unless (hides t p) (seen ts p) under
    by (Some n) e under = whole_shown t n (ok.0.nodes p n e)

pub whole_below : (u : Tree) (ls : List Tree) → AreLayers ls → (p : Names) → IsWholeObject (below u ls p)
whole_below u ls ok p = whole_unless (hides u p) (seen ls p) (whole_seen ls ok p)

-- nothing stands there
pub vacant : (u : Tree) (p : Names) → IsLayer u → at u p ≡ None → IsFreePlace u p
vacant u p ok none = record {
  below_root = λ e. subst IsDirAt none (subst (λ (q : Names). IsDirAt (at u q)) (sym e) ok.root);
  free = subst IsFree (sym none) tt;
}

-- ---- refusals

-- why a layer was not made is why a later one was not, where that would pass the limits too
pub refused_later : (e : FsError) (v t : Tree) → (is_within v ≡ false → is_within t ≡ false) → IsRefusal v e → IsRefusal t e
refused_later e v t full (inl memory) = inl memory
refused_later e v t full (inr many) = inr (many.0, full many.1)

-- the same at the exit of a `?`
pub IfErr-refused : {A : Type 0} (r : Result A FsError) (x : FsError) (v t : Tree) → IsErrAnd r (λ e. e ≡ x) → (is_within v ≡ false → is_within t ≡ false) → IsRefusal v x → IfErr r (λ e. IsRefusal t e)
IfErr-refused (Ok y) x v t same full of = absurd same
IfErr-refused (Err e) x v t same full of = refused_later e v t full (subst (IsRefusal v) (sym same) of)

-- why an edit was not made is why a layer with the same limits was not
pub edit_refused : {A : Type 0} (r : Result A FsError) (x : LayerError) (v t : Tree) → IsErrAnd r (λ e. OfLayer x e) → (x ≡ layer_errors.LayerFull → is_within v ≡ false) → v ≡ t → IfErr r (λ e. IsRefusal t e)
edit_refused (Ok y) x v t of full same = absurd of
edit_refused (Err e) layer_errors.LayerFull v t of full same = inr (of, subst (λ (z : Tree). is_within z ≡ false) same (full refl))
edit_refused (Err e) (layer_errors.OutOfMemory want) v t of full same = inl of
