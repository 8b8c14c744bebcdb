use Rattle.std.proofs.Common.{◌≡◌, [], IsTrue, ap, ◌∙◌}
use Rattle.snap_usage.specs.Counted.{count_of}
use Rattle.snap_call.specs.State.{ancestors, ids_of}
use Rattle.snap_book.specs.Active.{ActiveValue}
use Rattle.test_stores.specs.FirstExample.{used}
use Rattle.test_stores.proofs.FirstLayer.{first_count, true_is}
use Rattle.test_stores.proofs.FirstTape.{tape_of}
use Rattle.test_stores.proofs.first_example.is_committed.Goals as goal

pub returns-in-Ok-commit : goal.returns-in-Ok-commit
returns-in-Ok-commit g c =
    let p = c.in-Ok.ensures.granted in
    let told : IsTrue c.are_run.result = true_is c.are_run.result c.if-not-are_run.false in
    let at = c.are_run.ensures.at told in
    let s : c.in-Ok-seal.sealed ≡ c.are_run.new.active = c.in-Ok-seal.ensures.ok in
    let layer : c.in-Ok-seal.sealed.layer ≡ c.are_run.new.active.layer = ap (λ (a : ActiveValue). a.layer) s in
    let count : count_of c.in-Ok-seal.sealed.layer ≡ used 4 3 = ap count_of (layer ∙ at.layer_is) ∙ first_count in
    let last = c.in-Ok-commit.ensures.granted in
    record {
      tape = λ _. (
        c.in-Ok.active.share.slot,
        c.in-Ok.active.share.id,
        ids_of (ancestors c.in-Ok.active.namespace [] p.met.records),
        c.in-Ok-seal.sealed.layer,
        count,
        tape_of c.args.session.now.number c.reserve.new.self.number c.prepare.new.session.number c.are_run.new.session.number c.commit.new.session.number
            c.args.session.now.tape c.reserve.new.self.tape c.prepare.new.session.tape c.are_run.new.session.tape c.commit.new.session.tape
            c.in-Ok.active.share.slot c.in-Ok.active.share.id c.in-Ok-seal.sealed.share.slot c.in-Ok-seal.sealed.share.id (ids_of (ancestors c.in-Ok.active.namespace [] p.met.records)) c.args.labels.now c.in-Ok-seal.sealed.layer c.in-Ok-commit.usage
            c.requires.opened c.reserve.ensures.same.number c.reserve.ensures.same.tape p.taped.number p.taped.tape c.requires.labels
            (c.are_run.ensures.number told) (c.are_run.ensures.tape told) last.number last.tape
            (ap (λ (a : ActiveValue). a.share.slot) s ∙ at.slot_is) (ap (λ (a : ActiveValue). a.share.id) s ∙ at.id_is) (c.in-Ok-commit.ensures.count ∙ count),
      );
    }

pub is_four_three-requires : goal.is_four_three-requires
is_four_three-requires g c =
    let at = c.are_run.ensures.at (true_is c.are_run.result c.if-not-are_run.false) in
    c.in-Ok-commit.ensures.count ∙ ap count_of (ap (λ (a : ActiveValue). a.layer) c.in-Ok-seal.ensures.ok ∙ at.layer_is) ∙ first_count
