use Rattle.std.proofs.Common.{◌≡◌, List, IsSome, sym, ap, subst, ◌∙◌}
use Rattle.std.specs.Ordering.{nat_cmp}
use Rattle.std.specs.Map.{lookup}
use Rattle.std.specs.BTreeMap.{is_at}
use Rattle.snap_path.specs.Text.{Names}
use Rattle.snap_layer.specs.Tree.{Tree, Bodies, body, number_at}
use Rattle.snap_layer.specs.Edits.{HasPlace, with_name, named_node}
use Rattle.snap_copyup.specs.Undoing.{Undoes}
use Rattle.snap_copyup.proofs.ParentDirs.{adds_parents}
use Rattle.snap_upper.proofs.names.add_dirs_and_name.Goals as goal

pub add_name-requires-clause-place : goal.add_name-requires-clause-place
add_name-requires-clause-place c = subst (λ (t : Tree). HasPlace t c.args.to.now) (sym c.in_ok-dirs.ensures.ok) c.requires.place

pub add_name-requires-clause-there : goal.add_name-requires-clause-there
add_name-requires-clause-there c =
    let u = c.args.layer.now in
    let ls = c.args.lowers.now in
    let same : body c.add_dirs.new.layer c.args.number ≡ body u c.args.number = ap (λ (t : Tree). body t c.args.number) c.in_ok-dirs.ensures.ok ∙ ap (λ (bs : Bodies). lookup (is_at (nat_cmp c.args.number)) bs) (adds_parents u ls c.args.to.now c.requires.way).bodies in
    subst IsSome (sym same) c.requires.there

pub add_name-requires-clause-apart : goal.add_name-requires-clause-apart
add_name-requires-clause-apart c = λ e. c.requires.apart (sym ((adds_parents c.args.layer.now c.args.lowers.now c.args.to.now c.requires.way).numbers c.args.to.now) ∙ ap (λ (t : Tree). number_at t c.args.to.now) (sym c.in_ok-dirs.ensures.ok) ∙ e)

pub take_all-requires : goal.take_all-requires
take_all-requires c =
    let undo = subst (λ (ps : List Names). Undoes ps c.add_dirs.new.layer c.args.layer.now) (sym c.deref.ensures.value) c.in_ok-dirs.ensures.undo in
    (c.args.layer.now, subst (λ (t : Tree). Undoes c.deref.result.now t c.args.layer.now) (sym c.in-Err.ensures.err) undo)

pub returns-in-Err-clause-unchanged : goal.returns-in-Err-clause-unchanged
returns-in-Err-clause-unchanged c =
    let undo = subst (λ (ps : List Names). Undoes ps c.add_dirs.new.layer c.args.layer.now) (sym c.deref.ensures.value) c.in_ok-dirs.ensures.undo in
    c.take_all.ensures c.args.layer.now (subst (λ (t : Tree). Undoes c.deref.result.now t c.args.layer.now) (sym c.in-Err.ensures.err) undo)

pub returns-clause-ok : goal.returns-clause-ok
returns-clause-ok c =
    let u = c.args.layer.now in
    let ls = c.args.lowers.now in
    let to = c.args.to.now in
    let k = c.args.number in
    let same : body c.add_dirs.new.layer k ≡ body u k = ap (λ (t : Tree). body t k) c.in_ok-dirs.ensures.ok ∙ ap (λ (bs : Bodies). lookup (is_at (nat_cmp k)) bs) (adds_parents u ls to c.requires.way).bodies in
    c.in_default.ensures.ok ∙ (λ i. with_name (c.in_ok-dirs.ensures.ok i) to (named_node k (same i)))
