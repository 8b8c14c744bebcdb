use Rattle.std.proofs.Common.{◌≡◌, ◌+◌, Bool, true, false, refl, sym, ap, subst, ◌∙◌, arith}
use mir.Val.{bool_byte}
use Rattle.snap_path.specs.Text.{Names}
use Rattle.std.specs.Prelude.{is_some, not, if◌then◌else◌}
use Rattle.snap_layer.specs.declared.node.Node.TheVariants.{Whiteout}
use Rattle.snap_layer.specs.Tree.{Tree, at}
use Rattle.snap_layer.specs.Counts.{inode_count}
use Rattle.snap_layer.specs.Edits.{HasPlace, IsFree, with_node, without}
use Rattle.snap_usage.specs.declared.usage.Usage.{Usage}
use Rattle.snap_copyup.specs.declared.parents.Last.TheVariants as last
use Rattle.snap_copyup.proofs.Wholes.{vacant}
use Rattle.snap_upper.specs.After.{planned, limited}
use Rattle.snap_upper.proofs.Erased.{none_from, erased_lower, erased_own}
use Rattle.snap_upper.proofs.Freed.{erasing_next}
use Rattle.snap_upper.proofs.usage.plan_erasing.Goals as goal

byte_of : (b : Bool) → bool_byte b ≡ (if b then 1 else 0)
byte_of true = refl
byte_of false = refl

pub plan_growth-requires-clause-free : goal.plan_growth-requires-clause-free
plan_growth-requires-clause-free c =
    let none = none_from (at c.args.layer.now c.args.path.now) (ap is_some (sym c.at.ensures.node) ∙ c.is_none.ensures ∙ ap not c.if-is_none.true) in
    subst IsFree (sym none) tt

pub returns-then-is_none : goal.returns-then-is_none
returns-then-is_none c =
    let u = c.args.layer.now in
    let p = c.args.path.now in
    let none = none_from (at u p) (ap is_some (sym c.at.ensures.node) ∙ c.is_none.ensures ∙ ap not c.if-is_none.true) in
    λ ls layers way there covers.
    c.plan_growth.ensures last.Whiteout ls (refl, refl) layers way (vacant u p c.at.ensures.layer none)
    ∙ ap (λ (t : Tree). planned (limited t)) (sym (erased_lower u ls p none there))

pub returns : goal.returns
returns c =
    let u = c.args.layer.now in
    let p = c.args.path.now in
    let ok = c.at.ensures.layer in
    let covers = c.args.covers in
    let some : is_some (at u p) ≡ true = ap is_some (sym c.at.ensures.node) ∙ c.is_none.ensures ∙ ap not c.if-is_none.false in
    let place : HasPlace u p = record {
      clear = c.requires.clear;
      above = record { below_root = c.requires.below_root; parent = λ q n is. ok.parents q n (subst (λ (r : Names). is_some (at u r) ≡ true) is some) };
    } in
    let inodes : c.count_without-left.result.inodes + c.from.result ≡ inode_count (without u p) + (if covers then 1 else 0) = omega (arith, ap (λ (n : Usage). n.inodes) c.count_without-left.ensures.count, c.from.ensures, byte_of covers) in
    λ ls layers way there covered.
    c.fitting.ensures (if covers then with_node u p Whiteout else without u p)
    (erasing_next u ok p c.at.ensures.path place covers (record { blocks = c.count_without-left.result.blocks; inodes = c.count_without-left.result.inodes + c.from.result }) inodes (ap (λ (n : Usage). n.blocks) c.count_without-left.ensures.count))
    ∙ ap (λ (t : Tree). planned (limited t)) (sym (erased_own u ls p covers ok some covered))
