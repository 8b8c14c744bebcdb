use Rattle.std.proofs.Common.{◌≡◌, ◌+◌, ◌≤◌, Some, length, refl, arith, ◌++◌, ◌∷◌, List, [], sym, ap, subst, ◌∙◌}
use Rattle.std.specs.Prelude.{IsSome}
use Rattle.std.specs.List.Sorted.{IsStrictlySortedBy}
use Rattle.std.specs.Map.{lookup}
use Rattle.std.specs.BTreeMap.{is_at}
use Rattle.std.specs.Ordering.{nat_cmp}
use Rattle.snap_path.specs.Text.{Names}
use Rattle.snap_layer.specs.Tree.{Bodies, path_cmp}
use Rattle.snap_saved.specs.Values.{SavedFileValue}
use Rattle.snap_saved.specs.Saved.{files_of, saved}
use Rattle.snap_saved.proofs.Adding.{last_there, first_names, file_added, on_ok_both}
use Rattle.std.proofs.lemmas.Result.{IfErr-weaker, on_ok_weaker}
use Rattle.snap_layer.specs.Tree.{Tree, body, leaf_node}
use Rattle.snap_saved.specs.declared.error.RestoreError.{RestoreError}
use Rattle.snap_saved.specs.Refusing.{Refutes, LacksNodeWithRoom, HasNext, HasNames}
use Rattle.snap_saved.proofs.Under.{names_sorted}
use Rattle.snap_saved.proofs.Fitting.{has_file, file_reads, named_file, first_fits, last_body, others_await}
use Rattle.snap_saved.proofs.Refuting.{refutes_later, refutes_more}
use Rattle.snap_saved.specs.Restored.{put_file, put_named, put_other_names, unsorted}
use Rattle.snap_saved.proofs.InTurn.{named_goes, refused_same}
use Rattle.snap_saved.proofs.restoring.add_file.Goals as goal

empty : (ps : List Names) → length ps ≡ 0 → ps ≡ []
empty [] e = refl
empty (p ∷ ps) e = absurd (omega arith)

pub add_names-requires-clause-body : goal.add_names-requires-clause-body
add_names-requires-clause-body c =
    let k = c.file.inside.number in
    subst (λ (bs : Bodies). IsSome (lookup (is_at (nat_cmp k)) bs)) (sym c.in_ok-add_first.ensures.bodies) (last_there c.args.layer.now.bodies k c.file.inside.body)

pub add_names-requires-clause-rises : goal.add_names-requires-clause-rises
add_names-requires-clause-rises c =
    let first = c.in-Some.first.now in
    let others = c.in-Some.others.now in
    let names = first_names c.args.layer.now c.add_first.new.layer c.file.inside.number first c.requires.layer c.in_ok-add_first.ensures.numbers c.in_ok-add_first.ensures.names in
    let all : c.deref-2.result.now ≡ first ∷ others = c.deref-2.ensures.value ∙ sym c.deref.ensures.value ∙ c.in-Some.ensures.cases.0 in
    subst (IsStrictlySortedBy path_cmp) (all ∙ ap (λ (l : List Names). l ++ others) (sym names)) c.in_default-unsorted.ensures.sorted

pub returns-clause-ok : goal.returns-clause-ok
returns-clause-ok c =
    let t = c.args.layer.now in
    let first = c.in-Some.first.now in
    let others = c.in-Some.others.now in
    let its : record { number = c.file.inside.number; body = c.file.inside.body; names = first ∷ others } ≡ c.args.file = (λ i. record { number = c.file.inside.number; body = c.file.inside.body; names = (sym c.in-Some.ensures.cases.0 ∙ c.deref.ensures.value) i }) ∙ c.file.view_is in
    on_ok_both c.add_names.result
    (λ more rest.
    file_added t c.add_first.new.layer c.add_names.new.layer c.requires.layer c.file.inside.number c.file.inside.body first others c.in_ok-add_first.ensures.numbers c.in_ok-add_first.ensures.bodies c.in_ok-add_first.ensures.most c.in_ok-add_first.ensures.names more rest
    ∙ (λ i. record (saved t) { files = files_of t.entries t.bodies ++ its i ∷ []; next = c.add_names.new.layer.next }))
    c.add_names.ensures.names
    c.add_names.ensures.rest

pub returns-in_default-clause-malformed : goal.returns-in_default-clause-malformed
returns-in_default-clause-malformed c = λ t ok next.
    let f = c.args.file in
    named_file t ok f (has_file c.args.layer.now t c.requires.layer ok f next) (ap (λ (g : SavedFileValue). g.names) (sym c.file.view_is) ∙ sym c.deref.ensures.value ∙ empty c.deref.result.now c.in_default.ensures.cases)

pub returns-in-Some-unsorted-clause-malformed : goal.returns-in-Some-unsorted-clause-malformed
returns-in-Some-unsorted-clause-malformed c = λ t ok next.
    let f = c.args.file in
    let names = (file_reads t ok f (has_file c.args.layer.now t c.requires.layer ok f next)).1 in
    let listed : f.names ≡ c.deref-2.result.now = ap (λ (g : SavedFileValue). g.names) (sym c.file.view_is) ∙ sym c.deref-2.ensures.value in
    c.in-Some-unsorted.ensures.sorted (subst (IsStrictlySortedBy path_cmp) (names ∙ listed) (names_sorted t ok f.number))

pub returns-in_err-add_first-clause-malformed : goal.returns-in_err-add_first-clause-malformed
returns-in_err-add_first-clause-malformed c =
    let u = c.args.layer.now in
    let f : SavedFileValue = record { number = c.file.inside.number; body = c.file.inside.body; names = c.file.inside.names.items } in
    let first = c.in-Some.first.now in
    let splits : f.names ≡ first ∷ c.in-Some.others.now = sym c.deref.ensures.value ∙ c.in-Some.ensures.cases.0 in
    refutes_later c.from_residual.result c.in_err-add_first.field-0.0
    (λ (t : Tree). (u.next ≤ f.number) × (body t f.number ≡ Some f.body) × LacksNodeWithRoom u t first (leaf_node f.number f.body)) (λ (t : Tree). HasNext u t c.args.file) c.from_residual.ensures.1
    (λ t ok next.
    let its = subst (HasNext u t) (sym c.file.view_is) next in
    (its.free, (file_reads t ok f (has_file u t c.requires.layer ok f its)).0, first_fits u t c.requires.layer ok f its first c.in-Some.others.now splits))
    c.in_err-add_first.ensures.malformed

pub returns-clause-malformed : goal.returns-clause-malformed
returns-clause-malformed c =
    let u = c.args.layer.now in
    let v = c.add_first.new.layer in
    let f : SavedFileValue = record { number = c.file.inside.number; body = c.file.inside.body; names = c.file.inside.names.items } in
    let first = c.in-Some.first.now in
    let others = c.in-Some.others.now in
    let splits : f.names ≡ first ∷ others = sym c.deref.ensures.value ∙ c.in-Some.ensures.cases.0 in
    let done = c.in_ok-add_first.ensures in
    IfErr-weaker c.add_names.result (λ (e : RestoreError). Refutes e (λ (t : Tree). HasNames v t f.number others)) (λ (e : RestoreError). Refutes e (λ (t : Tree). HasNext u t c.args.file))
    (λ e. refutes_more e (λ (t : Tree). HasNames v t f.number others) (λ (t : Tree). HasNext u t c.args.file)
    (λ t ok next. others_await u t c.requires.layer ok f (subst (HasNext u t) (sym c.file.view_is) next) first others splits v done.layer done.bodies done.names))
    c.add_names.ensures.malformed

pub returns-clause-next : goal.returns-clause-next
returns-clause-next c =
    on_ok_weaker c.add_names.result (λ rest. ap (λ (x : Tree). x.next) rest ∙ c.in_ok-add_first.ensures.next ∙ ap (λ (g : SavedFileValue). g.number + 1) c.file.view_is) c.add_names.ensures.rest

pub returns-clause-made : goal.returns-clause-made
returns-clause-made c =
    let u = c.args.layer.now in
    let v = c.add_first.new.layer in
    let k = c.file.inside.number in
    let b = c.file.inside.body in
    let first = c.in-Some.first.now in
    let others = c.in-Some.others.now in
    let splits : c.file.inside.names.items ≡ first ∷ others = sym c.deref.ensures.value ∙ c.in-Some.ensures.cases.0 in
    let listed : c.deref-2.result.now ≡ first ∷ others = c.deref-2.ensures.value ∙ splits in
    let there : body v k ≡ Some b = last_body u.bodies v c.in_ok-add_first.ensures.layer k b c.in_ok-add_first.ensures.bodies in
    let goes = named_goes c.args.place k b u first others (ap unsorted (sym listed) ∙ sym c.in_default-unsorted.ensures.first) v c.in_ok-add_first.ensures.made in
    on_ok_weaker c.add_names.result
    (λ made. ap (put_file c.args.place u) (sym c.file.view_is) ∙ ap (put_named c.args.place k b u) splits ∙ goes ∙ made)
    (c.add_names.ensures.made b there)

pub returns-clause-refused : goal.returns-clause-refused
returns-clause-refused c =
    let u = c.args.layer.now in
    let v = c.add_first.new.layer in
    let k = c.file.inside.number in
    let b = c.file.inside.body in
    let first = c.in-Some.first.now in
    let others = c.in-Some.others.now in
    let splits : c.file.inside.names.items ≡ first ∷ others = sym c.deref.ensures.value ∙ c.in-Some.ensures.cases.0 in
    let listed : c.deref-2.result.now ≡ first ∷ others = c.deref-2.ensures.value ∙ splits in
    let there : body v k ≡ Some b = last_body u.bodies v c.in_ok-add_first.ensures.layer k b c.in_ok-add_first.ensures.bodies in
    let goes = named_goes c.args.place k b u first others (ap unsorted (sym listed) ∙ sym c.in_default-unsorted.ensures.first) v c.in_ok-add_first.ensures.made in
    refused_same c.add_names.result (put_other_names c.args.place k b v others) (put_file c.args.place u c.args.file)
    (ap (put_file c.args.place u) (sym c.file.view_is) ∙ ap (put_named c.args.place k b u) splits ∙ goes)
    (c.add_names.ensures.refused b there)
