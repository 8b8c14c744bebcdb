use Rattle.std.proofs.Common.{◌≡◌, ◌++◌, ◌∷◌, [], ℕ, true, length, take, drop, refl, sym, ap, subst, ◌∙◌}
use Rattle.std.specs.Option.{option_map}
use Rattle.snap_path.specs.Text.{Names, begins}
use Rattle.snap_layer.proofs.Paths.{begins_rest}
use Rattle.snap_merge.specs.Objects.{object}
use Rattle.snap_merge.specs.Reach.{Reached}
use Rattle.snap_merge.specs.Resolving.{way}
use Rattle.snap_merge.proofs.resolve.leap.Goals as goal

take_front : (q r : Names) → take (length q) (q ++ r) ≡ q
take_front [] r = refl
take_front (x ∷ q) r = ap (λ (z : Names). x ∷ z) (take_front q r)

pub returns-clause-ok : goal.returns-clause-ok
returns-clause-ok c = λ follow.
    let s = c.args.stack.now in
    let q : Names = c.args.place in
    let p : Names = c.in-Ok.path in
    let begun : begins q p ≡ true = sym c.begins.ensures.value ∙ c.if-not-begins.false in
    let head : take (length q) p ≡ q = ap (take (length q)) (begins_rest q p begun) ∙ take_front q (drop (length q) p) in
    let dirs = subst (λ (x : Names). Reached s x c.reach-reach.result.dirs (option_map object c.reach-reach.result.seen)) c.names.ensures.names c.reach-reach.ensures in
    ap (λ (x : Names). way follow s x c.follow_names-names.new.words) c.in_ok-front.ensures.ok
    ∙ c.follow_names-names.ensures.way s dirs.dirs follow
    ∙ ap (λ (x : Names). way follow s x c.args.words.now) (ap (λ (k : ℕ). take k p) (ap length c.names-2.ensures.names) ∙ head)
