use Rattle.std.proofs.Common.{◌≡◌, ◌<◌, ◌≤◌, ◌++◌, ◌∷◌, [], List, length, refl, sym, ap, subst, ◌∙◌, arith}
use Rattle.std.specs.Map.{keys_of}
use Rattle.snap_path.specs.Text.{Names}
use Rattle.snap_layer.specs.Tree.{Tree, at, IsDirAt}
use Rattle.snap_layer.specs.Edits.{inside, without, without_tree}
use Rattle.snap_layer.specs.Layers.{IsLayer}
use Rattle.snap_layer.proofs.Trees.{last_step, alone_paths}
use Rattle.snap_layer.proofs.layer.Layer.take_below.Goals as goal

pub loop-paths-init : goal.loop-paths-init
loop-paths-init c = record { paths = sym c.requires.paths; same = refl; rest = refl; layer = c.requires.layer }

pub take_name-requires : goal.take_name-requires
take_name-requires c =
    let t = c.loop-paths.self in
    let p = c.args.path.now in
    let long : 1 < length (c.pop.new.self.items ++ c.in-Some.last ∷ []) = omega (arith, c.loop-paths-test.true, c.len.ensures, ap (λ (ks : List Names). length ks) c.in-Some.ensures.items) in
    (last_step t c.loop-paths.invariant.layer p c.in-Some.last c.pop.new.self.items (c.loop-paths.invariant.paths ∙ c.in-Some.ensures.items) long).takeable

pub loop-paths-preserved-in-Some : goal.loop-paths-preserved-in-Some
loop-paths-preserved-in-Some c =
    let t = c.loop-paths.self in
    let p = c.args.path.now in
    let long : 1 < length (c.pop.new.self.items ++ c.in-Some.last ∷ []) = omega (arith, c.loop-paths-test.true, c.len.ensures, ap (λ (ks : List Names). length ks) c.in-Some.ensures.items) in
    let step = last_step t c.loop-paths.invariant.layer p c.in-Some.last c.pop.new.self.items (c.loop-paths.invariant.paths ∙ c.in-Some.ensures.items) long in
    let made : c.take_name.new.self ≡ without t c.in-Some.last = c.take_name.ensures.next in
    record {
      paths = ap (λ (u : Tree). keys_of (inside p u.entries)) made ∙ step.paths;
      same = ap (λ (u : Tree). at u p) made ∙ step.same ∙ c.loop-paths.invariant.same;
      rest = ap (λ (u : Tree). without_tree u p) made ∙ step.rest ∙ c.loop-paths.invariant.rest;
      layer = subst IsLayer (sym made) step.layer;
    }

pub returns-clause-below : goal.returns-clause-below
returns-clause-below c =
    let few : length (keys_of (inside c.args.path.now c.loop-paths.self.entries)) ≤ 1 = omega (arith, ap (λ (ks : List Names). length ks) c.loop-paths.invariant.paths, c.len.ensures, c.loop-paths-test.false) in
    alone_paths c.loop-paths.self c.args.path.now (subst IsDirAt (sym c.loop-paths.invariant.same) c.requires.dir) few
