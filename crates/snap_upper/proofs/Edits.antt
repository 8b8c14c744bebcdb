-- A file that is edited.
use Rattle.std.proofs.Common.{◌≡◌, ℕ, List, ◌∷◌, Option, Some, None, sym, ap, subst, ◌∙◌}
use Rattle.snap_path.specs.Text.{Names}
use Rattle.snap_layer.specs.declared.content.Content.{Content}
use Rattle.snap_layer.specs.declared.node.Meta.{Meta}
use Rattle.snap_layer.specs.declared.node.Body.{Body}
use Rattle.snap_layer.specs.declared.node.Body.TheVariants as body_kinds
use Rattle.snap_layer.specs.Tree.{Tree, body, number_at}
use Rattle.snap_layer.specs.Layers.{IsLayer, IsMeta}
use Rattle.snap_layer.specs.Edits.{with_filled}
use Rattle.snap_layer.specs.Contents.{body_content, edited, size_of, IsContent, IsShort}
use Rattle.snap_merge.specs.Objects.{file, seen, AreLayers}
use Rattle.snap_merge.specs.Walk.{walk_error}
use Rattle.snap_copyup.specs.declared.parents.Last.TheVariants as last
use Rattle.snap_copyup.specs.Copying.{below, copied_up, with_parents}
use Rattle.snap_copyup.specs.Places.{with_last, CanStand}
use Rattle.snap_copyup.proofs.Alone.{below_seen}
use Rattle.snap_copyup.proofs.Wholes.{IsWholeObject, whole_seen, vacant}
use Rattle.snap_layer.specs.declared.bytes.Edit.{Edit}
use Rattle.snap_upper.specs.After.{limited, with_content}
use Rattle.snap_layer.proofs.Contents.{edited_short}
use Rattle.snap_upper.proofs.Writing.{own_file, no_own, own_filled, copy_filled}

module _ (u : Tree) (ls : List Tree) (p : Names) (e : Edit) (ok : IsLayer u) (layers : AreLayers ls) (m : Meta) (old : Content) (was : seen (u ∷ ls) p ≡ Some (file m old)) (is_short : (x : Meta) (y : Content) → seen (u ∷ ls) p ≡ Some (file x y) → IsShort e y) where
  whole : IsMeta m × IsContent old
  whole = subst IsWholeObject was (whole_seen (u ∷ ls) (ok, layers) p)

  -- the layer's own file
  pub own_edit : (k size : ℕ) → size ≡ size_of old → number_at u p ≡ Some k → ((x : Meta) × (y : Content) × (body u k ≡ Some (body_kinds.File x y)) × (size ≡ size_of y) × IsShort e y × IsContent (edited e y)) × (limited (with_content u (Some k) (edited e)) ≡ limited (with_content (copied_up u ls p) (number_at (copied_up u ls p) p) (edited e)))
  own_edit k size sized number =
      let there = own_file u ls p m old ok was k number in
      let fill : with_content u (Some k) (edited e) ≡ with_content (copied_up u ls p) (number_at (copied_up u ls p) p) (edited e) = ap (λ (o : Option Body). with_filled u k o (edited e (body_content o))) there.1 ∙ sym (own_filled u ls p k m old (edited e) ok there.0 there.1) in
      ((m, old, there.1, sized, is_short m old was, edited_short e old (is_short m old was) whole.1), ap limited fill)

  -- a lower file, which is copied up
  pub lower_edit : walk_error (u ∷ ls) p ≡ None → number_at u p ≡ None → (x : Meta) (y : Content) → below u ls p ≡ Some (file x y) → ((walk_error (u ∷ ls) p ≡ None) × CanStand (last.File x (edited e y)) u p × (IsShort e y × IsContent (edited e y))) × (limited (with_last (last.File x (edited e y)) (with_parents u ls p) p) ≡ limited (with_content (copied_up u ls p) (number_at (copied_up u ls p) p) (edited e)))
  lower_edit way number x y is =
      let none = no_own u ls p m old ok was number in
      let here : seen (u ∷ ls) p ≡ Some (file x y) = below_seen u ls p none ∙ is in
      let parts = subst IsWholeObject here (whole_seen (u ∷ ls) (ok, layers) p) in
      let short = edited_short e y (is_short x y here) parts.1 in
      ((way, (vacant u p ok none, parts.0, short), (is_short x y here, short)), ap limited (sym (copy_filled u ls p x y (edited e) way none here)))
