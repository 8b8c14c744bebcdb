use Rattle.std.proofs.Common.{◌≡◌, ◌++◌, ◌∷◌, List, [], length, length-append, append_assoc, arith, rules, sym, ap, ◌∙◌}
use Rattle.std.proofs.lemmas.List.{nil_from_length}
use Rattle.std.specs.Vec.Iter.{into_iter_items}
use Rattle.snap_layer.specs.Tree.{Tree}
use Rattle.snap_saved.specs.Values.{SavedFileValue}
use Rattle.snap_saved.specs.Saved.{files_of}
use Rattle.snap_saved.specs.Refusing.{HasSameDirs, HasNext}
use Rattle.snap_saved.proofs.Refuting.{next_from, refutes_later, tight_after}
use Rattle.snap_saved.specs.Restored.{put_each, put_file}
use Rattle.snap_saved.proofs.InTurn.{next_put, next_refused, none_put, refused_later}
use Rattle.snap_saved.proofs.restoring.add_files.Goals as goal

pub returns-in_err-add_file-clause-malformed : goal.returns-in_err-add_file-clause-malformed
returns-in_err-add_file-clause-malformed c =
    let u0 = c.args.layer.now in
    let u = c.loop-file.layer in
    let f = c.in-Some.file in
    let was = c.loop-file.invariant in
    let rest : List SavedFileValue = into_iter_items c.next.new.self in
    let left : into_iter_items c.loop-file.file-iterator ≡ f ∷ rest = search rules in
    refutes_later c.from_residual.result c.in_err-add_file.field-0.0 (λ (t : Tree). HasNext u t f) (λ (t : Tree). HasSameDirs u0 t × (files_of t.entries t.bodies ≡ c.args.files.items)) c.from_residual.ensures.1
    (λ t ok such. next_from u0 u t c.requires.layer was.layer ok such.0 c.loop-file.yielded f rest was.is (such.1 ∙ sym was.files ∙ ap (λ (l : List SavedFileValue). c.loop-file.yielded ++ l) left) was.tight)
    c.in_err-add_file.ensures.malformed

pub loop-file-preserved : goal.loop-file-preserved
loop-file-preserved c =
    let u = c.loop-file.layer in
    let f = c.in-Some.file in
    let v = c.add_file.new.layer in
    let was = c.loop-file.invariant in
    let now = c.in_ok-add_file.ensures in
    let rest : List SavedFileValue = into_iter_items c.next.new.self in
    let left : into_iter_items c.loop-file.file-iterator ≡ f ∷ rest = search rules in
    record {
      layer = now.layer;
      is = now.ok ∙ (λ i. record (was.is i) { files = (was.is i).files ++ f ∷ []; next = v.next });
      tight = tight_after u v f now.ok now.next;
      files = append_assoc c.loop-file.yielded (f ∷ []) rest ∙ (ap (λ (l : List SavedFileValue). c.loop-file.yielded ++ l) (sym left) ∙ was.files);
      left = sym (next_put put_file c.loop-file.place u f rest v now.made) ∙ ap (put_each put_file c.loop-file.place u) (sym left) ∙ was.left;
      count = omega (arith, was.count, c.in-Some.ensures.steps.1, ap length left);
      place = omega (arith, was.place, length-append c.loop-file.yielded (f ∷ []));
    }

pub returns-in_err-add_file-clause-refused : goal.returns-in_err-add_file-clause-refused
returns-in_err-add_file-clause-refused c =
    let u = c.loop-file.layer in
    let f = c.in-Some.file in
    let place = c.loop-file.place in
    let why = c.in_err-add_file.field-0.0 in
    let rest : List SavedFileValue = into_iter_items c.next.new.self in
    let left : into_iter_items c.loop-file.file-iterator ≡ f ∷ rest = search rules in
    refused_later c.from_residual.result why (put_file place u f) (put_each put_file 0 c.args.layer.now c.args.files.items) c.from_residual.ensures.1
    (λ e. sym c.loop-file.invariant.left ∙ ap (put_each put_file place u) left ∙ next_refused put_file place u f rest why e)
    c.in_err-add_file.ensures.refused

pub returns-clause-made : goal.returns-clause-made
returns-clause-made c =
    let none : into_iter_items c.loop-file.file-iterator ≡ [] = nil_from_length (into_iter_items c.loop-file.file-iterator) (omega (arith, c.loop-file.invariant.count, c.in-None.ensures.steps.0)) in
    sym c.loop-file.invariant.left ∙ ap (put_each put_file c.loop-file.place c.loop-file.layer) none ∙ none_put put_file c.loop-file.place c.loop-file.layer
