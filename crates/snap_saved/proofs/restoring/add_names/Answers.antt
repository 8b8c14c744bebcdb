use Rattle.snap_saved.proofs.Rising.{next_name, more_names}
use Rattle.snap_layer.specs.declared.node.Body.{Body}
use Rattle.snap_layer.specs.Tree.{Tree, body, leaf_node}
use Rattle.snap_saved.specs.Refusing.{LacksNode, HasNames}
use Rattle.snap_saved.proofs.Fitting.{name_fits, under_next}
use Rattle.snap_saved.proofs.Refuting.{refutes_later}
use Rattle.std.proofs.Common.{ℕ, ◌+◌, arith, sym, ap, ◌∙◌}
use Rattle.snap_saved.specs.declared.error.Part.TheVariants.{Name}
use Rattle.snap_saved.specs.Restored.{put_name, put_other_names}
use Rattle.snap_saved.proofs.InTurn.{all_put, refused_later, there_put, there_refused}
use Rattle.snap_saved.proofs.restoring.add_names.Goals as goal

pub add_name-requires-clause-rises : goal.add_name-requires-clause-rises
add_name-requires-clause-rises c = next_name c.args.layer.now c.loop-place.layer c.args.number c.args.names.now c.loop-place.place c.index-names-place.result c.loop-place-test.true c.index-names-place.is c.loop-place.invariant.named c.requires.rises

pub returns-in_err-add_name-clause-malformed : goal.returns-in_err-add_name-clause-malformed
returns-in_err-add_name-clause-malformed c =
    let u0 = c.args.layer.now in
    let k = c.args.number in
    let ps = c.args.names.now in
    let p = c.index-names-place.result in
    refutes_later c.from_residual.result c.in_err-add_name.field-0.0 (λ (t : Tree). (b : Body) × LacksNode c.loop-place.layer t p (leaf_node k b)) (λ (t : Tree). HasNames u0 t k ps) c.from_residual.ensures.1
    (λ t ok await. (await.content, name_fits u0 c.loop-place.layer t k ps c.loop-place.place p c.loop-place-test.true c.index-names-place.is await c.loop-place.invariant.named (c.loop-place.invariant.under t ok await) c.requires.rises))
    c.in_err-add_name.ensures.malformed

pub loop-place-preserved : goal.loop-place-preserved
loop-place-preserved c =
    let u0 = c.args.layer.now in
    let u = c.loop-place.layer in
    let v = c.add_name.new.layer in
    let k = c.args.number in
    let ps = c.args.names.now in
    let p = c.index-names-place.result in
    let was = c.loop-place.invariant in
    let now = c.in_ok-add_name.ensures in
    record {
      layer = now.layer;
      named = more_names u0 u k ps c.loop-place.place p c.loop-place-test.true c.index-names-place.is was.named v now.names;
      under = λ t ok await. under_next u0 u t k ps c.loop-place.place p c.loop-place-test.true c.index-names-place.is await was.named (was.under t ok await) c.requires.rises v (now.put await.content (ap (λ (x : Tree). body x k) was.rest ∙ await.there));
      rest = now.rest ∙ ap (λ (x : Tree). record x { entries = v.entries }) was.rest;
      left = λ b there. there_put (λ (place : ℕ). put_name (Name c.args.file place) k b) (c.loop-place.place + 1) u ps c.loop-place.place p c.loop-place-test.true c.index-names-place.is v (now.made b (ap (λ (x : Tree). body x k) was.rest ∙ there)) ∙ was.left b there;
    }

pub returns-in_err-add_name-clause-refused : goal.returns-in_err-add_name-clause-refused
returns-in_err-add_name-clause-refused c = λ b there.
    let u = c.loop-place.layer in
    let i = c.loop-place.place in
    let k = c.args.number in
    let ps = c.args.names.now in
    let p = c.index-names-place.result in
    let why = c.in_err-add_name.field-0.0 in
    let was = c.loop-place.invariant in
    let put = λ (place : ℕ). put_name (Name c.args.file place) k b in
    refused_later c.from_residual.result why (put (i + 1) u p) (put_other_names c.args.file k b c.args.layer.now ps) c.from_residual.ensures.1
    (λ e. sym (was.left b there) ∙ there_refused put (i + 1) u ps i p c.loop-place-test.true c.index-names-place.is why e)
    (c.in_err-add_name.ensures.refused b (ap (λ (x : Tree). body x k) was.rest ∙ there))

pub returns-clause-made : goal.returns-clause-made
returns-clause-made c = λ b there.
    let i = c.loop-place.place in
    sym (c.loop-place.invariant.left b there) ∙ all_put (λ (place : ℕ). put_name (Name c.args.file place) c.args.number b) (i + 1) c.loop-place.layer c.args.names.now i (omega arith)
