use Rattle.std.proofs.Common.{◌≡◌, ◌∷◌, ◌+◌, ◌≤◌, ℕ, List, length, None, Option, Ok, Err, Result, IfOk, ap, refl, sym, subst, ◌∙◌}
use Rattle.snap_path.specs.Text.{Names}
use Rattle.snap_layer.specs.Contents.{most_bytes, written}
use Rattle.snap_layer.specs.Tree.{Tree, number_at}
use Rattle.snap_layer.specs.declared.content.Content.{Content}
use Rattle.snap_merge.specs.declared.error.FsError.{FsError}
use Rattle.snap_merge.specs.Objects.{AreLayers, Object, seen}
use Rattle.snap_copyup.specs.Copying.{copied_up}
use Rattle.snap_upper.specs.declared.change.Change.{Change}
use Rattle.snap_upper.specs.declared.op.Op.{Op}
use Rattle.snap_upper.specs.declared.op.Op.TheVariants as op
use Rattle.snap_upper.specs.After.{first_error, limited, most_of, next_layer, tests, with_content}
use Rattle.snap_upper.specs.Changes.{outcome, IsChange, IsInPlace, IsReady}
use Rattle.snap_upper.specs.Memory.{IsNoGrowth, TakesNoMemory}
use Rattle.snap_upper.proofs.Outcomes.{after_passes, stack_passes}
use Rattle.snap_upper.proofs.Writing.{IsWritable-passed, seen_file}
use Rattle.snap_upper.proofs.rules.write.Goals as goal

-- an edit of the file that is seen is the operation's change
edit_change : (op : Op) (u : Tree) (ls : List Tree) (p : Names) (f g : Content → Content) (r : Result Change FsError) → AreLayers ls → first_error (tests op (u ∷ ls)) ≡ None → f ≡ g
    → next_layer op u ls ≡ with_content (copied_up u ls p) (number_at (copied_up u ls p) p) g → (TakesNoMemory op u → IsNoGrowth u (number_at u p) g)
    → IfOk r (λ c. IsReady c u ls × (outcome c u ls ≡ limited (with_content (copied_up u ls p) (number_at (copied_up u ls p) p) f)))
    → IfOk r (λ c. IsNoGrowth u (number_at u p) f → IsInPlace c u) → IfOk r (λ c. IsChange c op u ls)
edit_change op u ls p f g (Err x) layers passes same next takes made spare = tt
edit_change op u ls p f g (Ok c) layers passes same next takes made spare = record {
  layers = layers;
  ready = made.0;
  same = made.1 ∙ ap (λ (h : Content → Content). limited (with_content (copied_up u ls p) (number_at (copied_up u ls p) p) h)) same ∙ ap limited (sym next) ∙ sym (after_passes op u ls passes);
  in_place = λ none. spare (subst (λ (h : Content → Content). IsNoGrowth u (number_at u p) h) (sym same) (takes none));
}

pub editing-requires-clause-there : goal.editing-requires-clause-there
editing-requires-clause-there c =
    let s = c.args.layer.now ∷ c.args.lowers.now in
    let p = c.args.path.now in
    let passes = stack_passes (op.Write p c.args.offset c.args.bytes.now) _ s c.over.ensures c.in_ok-old.ensures.error in
    seen_file (seen s p) (IsWritable-passed s p c.args.offset c.args.bytes.now passes).file

pub editing-requires-clause-short : goal.editing-requires-clause-short
editing-requires-clause-short c = λ m old was.
    let s = c.args.layer.now ∷ c.args.lowers.now in
    let p = c.args.path.now in
    let passes = stack_passes (op.Write p c.args.offset c.args.bytes.now) _ s c.over.ensures c.in_ok-old.ensures.error in
    let short = (IsWritable-passed s p c.args.offset c.args.bytes.now passes).short in
    subst (λ (bs : List ℕ). c.args.offset + length bs ≤ most_bytes old) (sym c.as_slice.ensures)
    (subst (λ (o : Option Object). c.args.offset + length c.args.bytes.now ≤ most_of o) was short)

pub returns-clause-ok : goal.returns-clause-ok
returns-clause-ok c =
    let u = c.args.layer.now in
    let ls = c.args.lowers.now in
    let p = c.args.path.now in
    let passes = stack_passes (op.Write p c.args.offset c.args.bytes.now) _ (u ∷ ls) c.over.ensures c.in_ok-old.ensures.error in
    let with = λ (bs : List ℕ) (old : Content). written old c.args.offset bs in
    edit_change (op.Write p c.args.offset c.args.bytes.now) u ls p (with c.as_slice.result.now) (with c.args.bytes.now) c.editing.result (subst AreLayers c.over.ensures c.in_ok-old.ensures.layers).1 passes (ap with c.as_slice.ensures) refl (λ none. none) c.editing.ensures.ok c.editing.ensures.in_place
