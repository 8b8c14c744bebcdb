use Rattle.snap_saved.proofs.Rising.{more_dirs, next_dir}
use Rattle.std.proofs.Common.{◌≡◌, ℕ, sym, ◌∙◌, arith, map, subst}
use Rattle.std.specs.Prelude.{List}
use Rattle.std.specs.List.Sorted.{IsStrictlySortedBy}
use Rattle.snap_layer.specs.declared.node.Node.TheVariants.{Dir}
use Rattle.snap_layer.specs.Tree.{Tree, path_cmp}
use Rattle.snap_saved.specs.declared.dir.SavedDir.{SavedDir}
use Rattle.snap_saved.specs.Saved.{dir_path, dirs_of}
use Rattle.snap_saved.specs.Refusing.{LacksNodeWithRoom, HasSameRoot}
use Rattle.snap_saved.proofs.Under.{dirs_sorted}
use Rattle.snap_saved.proofs.Fitting.{dir_fits}
use Rattle.snap_saved.proofs.Refuting.{refutes_later}
use Rattle.snap_saved.specs.declared.error.Part.TheVariants as parts
use Rattle.snap_saved.specs.Restored.{put_dir, put_dirs, put_each}
use Rattle.snap_saved.proofs.InTurn.{all_put, refused_later, sorted_goes, there_put, there_refused}
use Rattle.snap_saved.proofs.restoring.add_dirs.Goals as goal

pub add_dir-requires-clause-rises : goal.add_dir-requires-clause-rises
add_dir-requires-clause-rises c = next_dir c.args.layer.now c.loop-place.layer c.args.dirs.now c.loop-place.place c.index-dirs-place.result c.loop-place-test.true c.index-dirs-place.is c.loop-place.invariant.is c.in_default.ensures.sorted

pub returns-in-Some-clause-malformed : goal.returns-in-Some-clause-malformed
returns-in-Some-clause-malformed c = λ t ok such. c.in-Some.ensures.sorted (subst (λ (ds : List SavedDir). IsStrictlySortedBy path_cmp (map dir_path ds)) such.1 (dirs_sorted t ok))

pub returns-in_err-add_dir-clause-malformed : goal.returns-in_err-add_dir-clause-malformed
returns-in_err-add_dir-clause-malformed c =
    let u0 = c.args.layer.now in
    let u = c.loop-place.layer in
    let ds = c.args.dirs.now in
    let d = c.index-dirs-place.result in
    refutes_later c.from_residual.result c.in_err-add_dir.field-0.0 (λ (t : Tree). LacksNodeWithRoom u t d.path (Dir d.meta d.opaque)) (λ (t : Tree). HasSameRoot u0 t × (dirs_of t.entries ≡ ds)) c.from_residual.ensures.1
    (λ t ok such. dir_fits u0 u t c.requires.layer c.loop-place.invariant.layer ok c.requires.bare such.0 ds c.loop-place.place d c.loop-place-test.true c.index-dirs-place.is such.1 c.loop-place.invariant.is c.in_default.ensures.sorted)
    c.in_err-add_dir.ensures.malformed

pub returns-in_err-add_dir-clause-refused : goal.returns-in_err-add_dir-clause-refused
returns-in_err-add_dir-clause-refused c =
    let u0 = c.args.layer.now in
    let u = c.loop-place.layer in
    let i = c.loop-place.place in
    let xs = c.args.dirs.now in
    let x = c.index-dirs-place.result in
    let why = c.in_err-add_dir.field-0.0 in
    let put = λ (place : ℕ). put_dir (parts.Dir place) in
    refused_later c.from_residual.result why (put i u x) (put_dirs u0 xs) c.from_residual.ensures.1
    (λ e. sorted_goes parts.Dir (map dir_path xs) u0 (λ (w : Tree). put_each put 0 w xs) (sym c.in_default.ensures.first) ∙ sym c.loop-place.invariant.left ∙ there_refused put i u xs i x c.loop-place-test.true c.index-dirs-place.is why e)
    c.in_err-add_dir.ensures.refused

pub loop-place-preserved : goal.loop-place-preserved
loop-place-preserved c =
    let u0 = c.args.layer.now in
    let u = c.loop-place.layer in
    let v = c.add_dir.new.layer in
    let i = c.loop-place.place in
    let xs = c.args.dirs.now in
    let x = c.index-dirs-place.result in
    let was = c.loop-place.invariant in
    let now = c.in_ok-add_dir.ensures in
    let put = λ (place : ℕ). put_dir (parts.Dir place) in
    record {
      layer = now.layer;
      is = more_dirs u0 u xs i x c.loop-place-test.true c.index-dirs-place.is was.is v now.ok;
      left = there_put put i u xs i x c.loop-place-test.true c.index-dirs-place.is v now.made ∙ was.left;
    }

pub returns-clause-made : goal.returns-clause-made
returns-clause-made c =
    let u = c.loop-place.layer in
    let i = c.loop-place.place in
    let xs = c.args.dirs.now in
    let put = λ (place : ℕ). put_dir (parts.Dir place) in
    sorted_goes parts.Dir (map dir_path xs) c.args.layer.now (λ (w : Tree). put_each put 0 w xs) (sym c.in_default.ensures.first) ∙ sym c.loop-place.invariant.left ∙ all_put put i u xs i (omega arith)
