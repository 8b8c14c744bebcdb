use Rattle.std.proofs.Common.{◌≡◌, ◌⊎◌, inl, List, ◌∷◌, false, Err, refl, sym, ap, subst, ◌∙◌}
use Rattle.snap_path.specs.Memory.{no_memory}
use Rattle.snap_layer.specs.Tree.{Tree}
use Rattle.snap_merge.specs.declared.error.FsError.TheVariants.{OutOfMemory}
use Rattle.snap_upper.specs.After.{after, lists_names, planned}
use Rattle.snap_book.specs.Active.{ActiveValue}
use Rattle.snap_book.specs.Charging.{HasAppliedBy, IsNotDoneBy}
use Rattle.snap_book.specs.declared.charger.ApplyFault.TheVariants.{Charge}
use Rattle.snap_book.proofs.Applying.{failed_before, uncovered, unmade}
use Rattle.snap_book.proofs.active.Active.apply_by.Goals as goal

pub returns-in-Err : goal.returns-in-Err
returns-in-Err g c =
    let G = g.C.Charger.grants c.args.charger.now in
    let F = g.C.Charger.refuses c.args.charger.now in
    let b = c.args.ledger.now in
    let op = c.args.op.now in
    let layer = c.self.inside.layer in
    let e = c.in-Err.error in
    let same = c.as_slice-lowers.ensures in
    let a : ActiveValue = record { namespace = c.self.inside.namespace; key = c.self.inside.key; lowers = c.self.inside.lowers; layer = layer; share = c.self.inside.share } in
    let is : a ≡ c.args.self.now = c.self.view_is in
    let failed = failed_before op a e
    (subst (λ (ls : List Tree). (e ≡ OutOfMemory no_memory) ⊎ (after op layer ls ≡ Err e)) same c.in-Err.ensures.error)
    (subst (λ (ls : List Tree). lists_names op (layer ∷ ls) ≡ false → after op layer ls ≡ Err e) same c.in-Err.ensures.sure) in
    subst (λ (x : ActiveValue). IsNotDoneBy G F b b x x op c.args.extra e) is (inl (failed.0, failed.1, refl, refl))

pub returns-in-Err-cover : goal.returns-in-Err-cover
returns-in-Err-cover g c =
    let G = g.C.Charger.grants c.args.charger.now in
    let F = g.C.Charger.refuses c.args.charger.now in
    let op = c.args.op.now in
    let layer = c.self.inside.layer in
    let a : ActiveValue = record { namespace = c.self.inside.namespace; key = c.self.inside.key; lowers = c.self.inside.lowers; layer = layer; share = c.self.inside.share } in
    let is : a ≡ c.args.self.now = c.self.view_is in
    let next = ap (λ (ls : List Tree). planned (after op layer ls)) (sym c.as_slice-lowers.ensures) ∙ c.in-Ok.ensures.ok.next in
    let v : ActiveValue = record { namespace = a.namespace; key = a.key; lowers = a.lowers; layer = layer; share = c.cover.new.share } in
    subst (λ (x : ActiveValue). HasAppliedBy G F c.args.ledger.now c.cover.new.ledger x v op c.args.extra (Err (Charge c.in-Err-cover.fault))) is
    (uncovered G F c.args.ledger.now c.cover.new.ledger op a c.cover.new.share c.in-Ok.ready.after c.args.extra c.in-Err-cover.fault next c.in-Err-cover.ensures)

pub returns-in-Err-perform_op : goal.returns-in-Err-perform_op
returns-in-Err-perform_op g c =
    let G = g.C.Charger.grants c.args.charger.now in
    let F = g.C.Charger.refuses c.args.charger.now in
    let op = c.args.op.now in
    let layer = c.self.inside.layer in
    let a : ActiveValue = record { namespace = c.self.inside.namespace; key = c.self.inside.key; lowers = c.self.inside.lowers; layer = layer; share = c.self.inside.share } in
    let is : a ≡ c.args.self.now = c.self.view_is in
    let next = ap (λ (ls : List Tree). planned (after op layer ls)) (sym c.as_slice-lowers.ensures) ∙ c.in-Ok.ensures.ok.next in
    let made : Tree → ActiveValue = λ t. record { namespace = a.namespace; key = a.key; lowers = a.lowers; layer = t; share = c.cover.new.share } in
    subst (λ (t : Tree). IsNotDoneBy G F c.args.ledger.now c.cover.new.ledger c.args.self.now (made t) op c.args.extra c.in-Err-perform_op.error) (sym c.in-Err-perform_op.ensures.unchanged)
    (subst (λ (x : ActiveValue). IsNotDoneBy G F c.args.ledger.now c.cover.new.ledger x (made layer) op c.args.extra c.in-Err-perform_op.error) is
    (unmade G F c.args.ledger.now c.cover.new.ledger op a c.cover.new.share c.in-Ok.ready.after c.args.extra c.in-Err-perform_op.error next c.in-Ok-cover.ensures c.in-Err-perform_op.ensures.error (c.in-Err-perform_op.ensures.sure op c.in-Ok.ensures.ok)))
