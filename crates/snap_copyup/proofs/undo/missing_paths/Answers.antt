use Rattle.std.proofs.Common.{◌≡◌, ◌∷◌, ◌++◌, [], ℕ, ◌+◌, ◌-◌, ◌<◌, ◌≤◌, List, length, take, sym, ap, subst, ◌∙◌, arith}
use Rattle.std.proofs.lemmas.List.{take_all}
use Rattle.snap_path.specs.Text.{Names}
use Rattle.snap_layer.specs.Tree.{Tree}
use Rattle.snap_copyup.specs.Copying.{with_parents}
use Rattle.snap_copyup.specs.Undoing.{Undoes}
use Rattle.snap_copyup.proofs.Standing.{none_past}
use Rattle.snap_copyup.proofs.Undoing.{undoes_more, fronts_there, front_takeable, front_taken}
use Rattle.snap_copyup.proofs.undo.missing_paths.Goals as goal

pub loop-names-init : goal.loop-names-init
loop-names-init c = record {
  far = omega (arith, c.standing_dirs-first.ensures.above.few, ap length c.names-names.ensures.names);
  undo = λ lowers way. subst (λ (ps : List Names). Undoes ps (with_parents c.args.layer.now lowers c.args.path.now) (with_parents c.args.layer.now lowers (take (length c.names-names.result.now) c.args.path.now))) (sym c.new-missing.ensures.items) (ap (λ (q : Names). with_parents c.args.layer.now lowers q) (sym (take_all (length c.names-names.result.now) c.args.path.now (omega (arith, ap length c.names-names.ensures.names)))));
}

pub loop-names-preserved : goal.loop-names-preserved
loop-names-preserved c = record {
  far = omega arith;
  undo = λ lowers way.
      let u = c.args.layer.now in
      let p = c.args.path.now in
      let ok = c.standing_dirs-first.ensures.layer in
      let n = c.standing_dirs-first.result in
      let k = c.loop-names.names - 1 in
      let lt : k < length p = omega (arith, ap length c.names-names.ensures.names) in
      let past : n ≤ k = omega arith in
      let names : c.loop-names.names ≡ k + 1 = omega arith in
      let none = none_past u p n ok c.standing_dirs-first.ensures.above k past lt in
      let v = with_parents u lowers p in
      let found : Undoes c.loop-names.missing.items v (with_parents u lowers (take (k + 1) p)) = subst (λ (i : ℕ). Undoes c.loop-names.missing.items v (with_parents u lowers (take i p))) names (c.loop-names.invariant.undo lowers way) in
      subst (λ (ps : List Names). Undoes ps v (with_parents u lowers (take k p))) (sym (c.in_ok-push.ensures.items ∙ ap (λ (f : Names). c.loop-names.missing.items ++ f ∷ []) c.in_ok-front.ensures.ok))
      (undoes_more c.loop-names.missing.items (take k p) v (with_parents u lowers (take (k + 1) p)) (with_parents u lowers (take k p)) found (front_takeable u lowers p k lt ok way none) (front_taken u lowers p k lt ok way none));
}

pub returns-clause-dirs : goal.returns-clause-dirs
returns-clause-dirs c = λ lowers way.
    let u = c.args.layer.now in
    let p = c.args.path.now in
    let n = c.standing_dirs-first.result in
    let stands = c.standing_dirs-first.ensures.above in
    let end : c.loop-names.names ≡ n = omega (arith, c.loop-names.invariant.far) in
    subst (λ (t : Tree). Undoes c.loop-names.missing.items (with_parents u lowers p) t)
    (ap (λ (k : ℕ). with_parents u lowers (take k p)) end ∙ fronts_there u lowers p n c.standing_dirs-first.ensures.layer way stands.few stands.there)
    (c.loop-names.invariant.undo lowers way)
