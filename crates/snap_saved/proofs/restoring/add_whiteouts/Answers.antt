use Rattle.snap_saved.proofs.Rising.{more_whiteouts, next_whiteout}
use Rattle.std.proofs.Common.{◌≡◌, ℕ, sym, ◌∙◌, arith, subst}
use Rattle.std.specs.List.Sorted.{IsStrictlySortedBy}
use Rattle.snap_layer.specs.declared.node.Node.TheVariants.{Whiteout}
use Rattle.snap_layer.specs.Tree.{Tree, path_cmp}
use Rattle.snap_saved.specs.Saved.{dirs_of, whiteouts_of}
use Rattle.snap_saved.specs.Refusing.{LacksNodeWithRoom, HasSameRoot}
use Rattle.snap_saved.proofs.Under.{whiteouts_sorted}
use Rattle.snap_saved.proofs.Fitting.{whiteout_fits}
use Rattle.snap_saved.proofs.Refuting.{refutes_later}
use Rattle.snap_saved.specs.declared.error.Part.TheVariants as parts
use Rattle.snap_saved.specs.Restored.{put_whiteout, put_whiteouts, put_each}
use Rattle.snap_saved.proofs.InTurn.{all_put, refused_later, sorted_goes, there_put, there_refused}
use Rattle.snap_saved.proofs.restoring.add_whiteouts.Goals as goal

pub add_whiteout-requires-clause-rises : goal.add_whiteout-requires-clause-rises
add_whiteout-requires-clause-rises c = next_whiteout c.args.layer.now c.loop-place.layer c.args.whiteouts.now c.loop-place.place c.index-whiteouts-place.result c.loop-place-test.true c.index-whiteouts-place.is c.loop-place.invariant.is c.in_default.ensures.sorted

pub returns-in-Some-clause-malformed : goal.returns-in-Some-clause-malformed
returns-in-Some-clause-malformed c = λ t ok such. c.in-Some.ensures.sorted (subst (IsStrictlySortedBy path_cmp) such.2 (whiteouts_sorted t ok))

pub returns-in_err-add_whiteout-clause-malformed : goal.returns-in_err-add_whiteout-clause-malformed
returns-in_err-add_whiteout-clause-malformed c =
    let u0 = c.args.layer.now in
    let u = c.loop-place.layer in
    let ps = c.args.whiteouts.now in
    let p = c.index-whiteouts-place.result in
    refutes_later c.from_residual.result c.in_err-add_whiteout.field-0.0 (λ (t : Tree). LacksNodeWithRoom u t p Whiteout) (λ (t : Tree). HasSameRoot u0 t × (dirs_of u0.entries ≡ dirs_of t.entries) × (whiteouts_of t.entries ≡ ps)) c.from_residual.ensures.1
    (λ t ok such. whiteout_fits u0 u t c.requires.layer c.loop-place.invariant.layer ok c.requires.bare such.0 such.1 ps c.loop-place.place p c.loop-place-test.true c.index-whiteouts-place.is such.2 c.loop-place.invariant.is c.in_default.ensures.sorted)
    c.in_err-add_whiteout.ensures.malformed

pub returns-in_err-add_whiteout-clause-refused : goal.returns-in_err-add_whiteout-clause-refused
returns-in_err-add_whiteout-clause-refused c =
    let u0 = c.args.layer.now in
    let u = c.loop-place.layer in
    let i = c.loop-place.place in
    let xs = c.args.whiteouts.now in
    let x = c.index-whiteouts-place.result in
    let why = c.in_err-add_whiteout.field-0.0 in
    let put = λ (place : ℕ). put_whiteout (parts.Whiteout place) in
    refused_later c.from_residual.result why (put i u x) (put_whiteouts u0 xs) c.from_residual.ensures.1
    (λ e. sorted_goes parts.Whiteout (xs) u0 (λ (w : Tree). put_each put 0 w xs) (sym c.in_default.ensures.first) ∙ sym c.loop-place.invariant.left ∙ there_refused put i u xs i x c.loop-place-test.true c.index-whiteouts-place.is why e)
    c.in_err-add_whiteout.ensures.refused

pub loop-place-preserved : goal.loop-place-preserved
loop-place-preserved c =
    let u0 = c.args.layer.now in
    let u = c.loop-place.layer in
    let v = c.add_whiteout.new.layer in
    let i = c.loop-place.place in
    let xs = c.args.whiteouts.now in
    let x = c.index-whiteouts-place.result in
    let was = c.loop-place.invariant in
    let now = c.in_ok-add_whiteout.ensures in
    let put = λ (place : ℕ). put_whiteout (parts.Whiteout place) in
    record {
      layer = now.layer;
      is = more_whiteouts u0 u xs i x c.loop-place-test.true c.index-whiteouts-place.is was.is v now.ok;
      left = there_put put i u xs i x c.loop-place-test.true c.index-whiteouts-place.is v now.made ∙ was.left;
    }

pub returns-clause-made : goal.returns-clause-made
returns-clause-made c =
    let u = c.loop-place.layer in
    let i = c.loop-place.place in
    let xs = c.args.whiteouts.now in
    let put = λ (place : ℕ). put_whiteout (parts.Whiteout place) in
    sorted_goes parts.Whiteout (xs) c.args.layer.now (λ (w : Tree). put_each put 0 w xs) (sym c.in_default.ensures.first) ∙ sym c.loop-place.invariant.left ∙ all_put put i u xs i (omega arith)
