use Rattle.std.proofs.Common.{◌≡◌, ℕ, sym, ap, ◌∙◌, subst, arith}
use Rattle.snap_call.specs.declared.call.Call.TheVariants as calls
use Rattle.snap_call.specs.declared.call.Given.TheVariants.{Layer}
use Rattle.snap_call.specs.declared.entry.Entry.{Entry}
use Rattle.snap_call.specs.declared.reply.Reply.TheVariants.{Committed, Refused}
use Rattle.snap_call.specs.declared.state.State.{State}
use Rattle.snap_call.specs.Journal.{call_entry}
use Rattle.snap_call.specs.Records.{open_count}
use Rattle.snap_layer.specs.Tree.{Tree}
use Rattle.snap_ledger.specs.States.{ShareState}
use Rattle.snap_accounts.specs.Commits.{CanCommit}
use Rattle.snap_book.specs.Active.{ActiveValue}
use Rattle.snap_book.specs.Book.{BookValue, Kept, Recorded}
use Rattle.snap_book.proofs.Commits.{granted_commit, refused_commit, retold}
use Rattle.snap_book.proofs.Keeping.{kept_push, recorded_push, refused_by}
use Rattle.snap_book.proofs.book.Book.commit_as.Goals as goal

pub invariant_of-self-in-Err-checked : goal.invariant_of-self-in-Err-checked
invariant_of-self-in-Err-checked g c =
    let share = c.meet.new.share in
    let back : share ≡ c.args.sealed.share = c.meet.ensures.share ∙ ap (λ (v : ActiveValue). v.share) c.sealed.view_is in
    let is : c.args.call ≡ calls.Commit share.slot share.id c.requires.0 c.requires.1 c.requires.2 = c.requires.3 ∙ (λ i. calls.Commit (sym back i).slot (sym back i).id c.requires.0 c.requires.1 c.requires.2) in
    let kept : Kept c.meet.new.self c.self.inside.journal = subst (λ (s : State). Kept s c.self.inside.journal) (sym c.meet.ensures.same) c.self.invariant in
    let e : Entry = call_entry c.args.session c.args.call (Layer c.sealed.inside.parts.layer) (Refused c.in-Err-checked.why) in
    let made = refused_commit c.meet.new.self c.count_entry.new.self c.self.inside.accounts share c.sealed.inside.share c.slot.result c.args.session c.args.call c.requires.0 c.requires.1 c.requires.2 c.sealed.inside.parts.layer
    c.check-checked.result c.in-Err-checked.why c.in-Ok.pair.0 c.meet.ensures.same c.meet.ensures.share c.slot.ensures c.meet.ensures.met c.sealed.invariant.1 is
    c.in-Ok.ensures.first c.in-Err-checked.is (c.in-Err-checked.ensures.refused _ _ _ _ _ c.requires.3 c.sealed.inside.parts.layer) c.count_entry.ensures in
    let opened = ap (λ (s : State). open_count s.records) c.count_entry.ensures in
    kept_push _ _ _ _ _ e _ kept c.in_default.ensures.same c.push.ensures.entry made.0 made.1 made.2
    (omega (arith, opened, c.open_slots.ensures, c.in_default.ensures.below))
    (omega (arith, opened, c.open_slots.ensures, c.in_default.ensures.room, c.push.ensures.room))

pub returns-in-Err-checked-clause-refused : goal.returns-in-Err-checked-clause-refused
returns-in-Err-checked-clause-refused g c =
    let share = c.meet.new.share in
    let back : share ≡ c.args.sealed.share = c.meet.ensures.share ∙ ap (λ (v : ActiveValue). v.share) c.sealed.view_is in
    let is : c.args.call ≡ calls.Commit share.slot share.id c.requires.0 c.requires.1 c.requires.2 = c.requires.3 ∙ (λ i. calls.Commit (sym back i).slot (sym back i).id c.requires.0 c.requires.1 c.requires.2) in
    let j = c.self.inside.journal in
    let old : BookValue = c.args.self.now in
    let k = c.push.new.self in
    let new : BookValue = record { state = c.count_entry.new.self; journal = k.entries; opening = k.opening; limit = k.limit; copy = k.copy } in
    let e : Entry = call_entry c.args.session c.args.call (Layer c.sealed.inside.parts.layer) (Refused c.in-Err-checked.why) in
    let made = refused_commit c.meet.new.self c.count_entry.new.self c.self.inside.accounts share c.sealed.inside.share c.slot.result c.args.session c.args.call c.requires.0 c.requires.1 c.requires.2 c.sealed.inside.parts.layer
    c.check-checked.result c.in-Err-checked.why c.in-Ok.pair.0 c.meet.ensures.same c.meet.ensures.share c.slot.ensures c.meet.ensures.met c.sealed.invariant.1 is
    c.in-Ok.ensures.first c.in-Err-checked.is (c.in-Err-checked.ensures.refused _ _ _ _ _ c.requires.3 c.sealed.inside.parts.layer) c.count_entry.ensures in
    let is_old = (λ i. record { state = c.meet.ensures.same i; journal = j.entries; opening = j.opening; limit = j.limit; copy = j.copy }) ∙ c.self.view_is in
    let layer : c.sealed.inside.parts.layer ≡ c.args.sealed.layer = ap (λ (v : ActiveValue). v.layer) c.sealed.view_is in
    let noted = recorded_push old c.meet.new.self c.count_entry.new.self j c.admit.new.self k e c.in-Ok.pair.0 is_old c.in_default.ensures.same c.push.ensures.entry made.0 made.1 made.2 in
    refused_by c.in-Err-checked.why old new c.args.session c.args.call (Layer c.args.sealed.layer) c.in-Err-checked.ensures.recorded
    (subst (λ (t : Tree). Recorded old new c.args.session c.args.call (Layer t) (Refused c.in-Err-checked.why)) layer noted)

pub check-checked-requires-clause-commit : goal.check-checked-requires-clause-commit
check-checked-requires-clause-commit g c =
    let back : c.meet.new.share ≡ c.args.sealed.share = c.meet.ensures.share ∙ ap (λ (v : ActiveValue). v.share) c.sealed.view_is in
    (c.args.sealed.share.id, (c.requires.0, c.requires.1, c.requires.2, c.requires.3 ∙ ap (λ (k : ℕ). calls.Commit k c.args.sealed.share.id c.requires.0 c.requires.1 c.requires.2) (sym (c.slot.ensures ∙ ap (λ (s : ShareState). s.slot) back))))

pub commit-requires-clause-possible : goal.commit-requires-clause-possible
commit-requires-clause-possible g c =
    let call : c.args.call ≡ calls.Commit c.in-Commit.slot c.in-Commit.id c.in-Commit.name c.in-Commit.lease c.in-Commit.labels = sym (ap (λ (e : Entry). e.call) c.entry-2.ensures ∙ ap (λ (e : Entry). e.call) c.in-Ok.ensures.first) ∙ c.in-Commit.is in
    subst (λ (k : ℕ). CanCommit c.meet.new.self k c.in-Commit.name c.in-Commit.lease c.in-Commit.labels) c.slot.ensures (c.in_default-checked.ensures.ok _ _ _ _ _ call)

pub invariant_of-self-in-Ok-commit : goal.invariant_of-self-in-Ok-commit
invariant_of-self-in-Ok-commit g c =
    let share = c.meet.new.share in
    let back : share ≡ c.args.sealed.share = c.meet.ensures.share ∙ ap (λ (v : ActiveValue). v.share) c.sealed.view_is in
    let asked : c.args.call ≡ calls.Commit share.slot share.id c.requires.0 c.requires.1 c.requires.2 = c.requires.3 ∙ (λ i. calls.Commit (sym back i).slot (sym back i).id c.requires.0 c.requires.1 c.requires.2) in
    let call : c.args.call ≡ calls.Commit c.in-Commit.slot c.in-Commit.id c.in-Commit.name c.in-Commit.lease c.in-Commit.labels = sym (ap (λ (e : Entry). e.call) c.entry-2.ensures ∙ ap (λ (e : Entry). e.call) c.in-Ok.ensures.first) ∙ c.in-Commit.is in
    let kept : Kept c.meet.new.self c.self.inside.journal = subst (λ (s : State). Kept s c.self.inside.journal) (sym c.meet.ensures.same) c.self.invariant in
    let e : Entry = call_entry c.args.session c.args.call (Layer c.sealed.inside.parts.layer) (Committed share.id c.in-Ok-commit.usage) in
    let made = granted_commit c.meet.new.self c.commit.new.self share c.args.session c.args.call c.in-Commit.name c.in-Commit.lease c.in-Commit.labels c.sealed.inside.parts.layer c.in-Ok-commit.usage
    c.check-checked.result _ c.in-Ok.pair.0 (retold _ _ _ _ _ _ _ _ _ _ _ asked call) c.in-Ok.ensures.first c.in_default-checked.is c.in-Ok-commit.ensures.count c.commit.ensures.allowed c.in-Ok-commit.ensures.step in
    kept_push _ _ _ _ _ e _ kept c.in_default.ensures.same c.push-in-Ok-commit.ensures.entry made.0 made.1 made.2
    (omega (arith, c.in-Ok-commit.ensures.open, c.open_slots.ensures, c.in_default.ensures.below))
    (omega (arith, c.in-Ok-commit.ensures.open, c.open_slots.ensures, c.in_default.ensures.room, c.push-in-Ok-commit.ensures.room))

pub returns-in-Ok-commit-clause-granted : goal.returns-in-Ok-commit-clause-granted
returns-in-Ok-commit-clause-granted g c =
    let share = c.meet.new.share in
    let back : share ≡ c.args.sealed.share = c.meet.ensures.share ∙ ap (λ (v : ActiveValue). v.share) c.sealed.view_is in
    let asked : c.args.call ≡ calls.Commit share.slot share.id c.requires.0 c.requires.1 c.requires.2 = c.requires.3 ∙ (λ i. calls.Commit (sym back i).slot (sym back i).id c.requires.0 c.requires.1 c.requires.2) in
    let call : c.args.call ≡ calls.Commit c.in-Commit.slot c.in-Commit.id c.in-Commit.name c.in-Commit.lease c.in-Commit.labels = sym (ap (λ (e : Entry). e.call) c.entry-2.ensures ∙ ap (λ (e : Entry). e.call) c.in-Ok.ensures.first) ∙ c.in-Commit.is in
    let j = c.self.inside.journal in
    let old : BookValue = c.args.self.now in
    let k = c.push-in-Ok-commit.new.self in
    let new : BookValue = record { state = c.commit.new.self; journal = k.entries; opening = k.opening; limit = k.limit; copy = k.copy } in
    let e : Entry = call_entry c.args.session c.args.call (Layer c.sealed.inside.parts.layer) (Committed share.id c.in-Ok-commit.usage) in
    let made = granted_commit c.meet.new.self c.commit.new.self share c.args.session c.args.call c.in-Commit.name c.in-Commit.lease c.in-Commit.labels c.sealed.inside.parts.layer c.in-Ok-commit.usage
    c.check-checked.result _ c.in-Ok.pair.0 (retold _ _ _ _ _ _ _ _ _ _ _ asked call) c.in-Ok.ensures.first c.in_default-checked.is c.in-Ok-commit.ensures.count c.commit.ensures.allowed c.in-Ok-commit.ensures.step in
    let is_old = (λ i. record { state = c.meet.ensures.same i; journal = j.entries; opening = j.opening; limit = j.limit; copy = j.copy }) ∙ c.self.view_is in
    let layer : c.sealed.inside.parts.layer ≡ c.args.sealed.layer = ap (λ (v : ActiveValue). v.layer) c.sealed.view_is in
    subst (λ (t : Tree). Recorded old new c.args.session c.args.call (Layer t) (Committed c.args.sealed.share.id c.in-Ok-commit.usage)) layer
    (subst (λ (h : ShareState). Recorded old new c.args.session c.args.call (Layer c.sealed.inside.parts.layer) (Committed h.id c.in-Ok-commit.usage)) back
    (recorded_push old c.meet.new.self c.commit.new.self j c.admit.new.self k e c.in-Ok.pair.0 is_old c.in_default.ensures.same c.push-in-Ok-commit.ensures.entry made.0 made.1 made.2))
