use Rattle.std.proofs.Common.{◌+◌, [], List, length, replicate, take, sym, ap, ◌∙◌, subst}
use Rattle.std.proofs.lemmas.List.{length-replicate}
use Rattle.std.proofs.lemmas.List.Elements.{All-replicate}
use Rattle.snap_call.specs.declared.entry.Entry.{Entry}
use Rattle.snap_tape.specs.Following.{AreFollowed, IsProgress}
use Rattle.snap_tape.specs.declared.mismatch.Progress.{Progress}
use Rattle.snap_tape.proofs.Indexing.{follow_start, written_back, entries_more}
use Rattle.snap_tape.proofs.mismatch.follow.Goals as goal

pub loop-entry-init : goal.loop-entry-init
loop-entry-init c =
    let n = length c.args.sessions.now in
    let items = (c.in_ok-progress.ensures).items_if_clones_equal (λ y e. e) in
    let P : Progress → Type 0 = λ p. (tape : List Entry) → IsProgress tape [] p in
    let at : AreFollowed [] c.args.sessions.now (replicate n c.start.result) = follow_start c.args.sessions.now (replicate n c.start.result) (length-replicate n c.start.result) (All-replicate P n c.start.result c.start.ensures) in
    record {
      size = ap length items ∙ length-replicate n c.start.result;
      followed = subst (λ (l : List Progress). AreFollowed [] c.args.sessions.now l) (sym items) at;
    }

pub loop-entry-preserved : goal.loop-entry-preserved
loop-entry-preserved c =
    let sessions = c.args.sessions.now in
    let journal = c.args.journal.now in
    let i = c.loop-entry.entry-index in
    let now = c.follow_entry.new.progress in
    let was = c.loop-entry.progress.items in
    let long = c.follow_entry.ensures.size ∙ c.as_mut_slice.ensures.len in
    let back = written_back c.loop-entry.progress.len now was long in
    let before = subst (λ (l : List Progress). AreFollowed (take i journal) sessions l) (sym c.as_mut_slice.ensures.value) c.loop-entry.invariant.followed in
    let after = c.follow_entry.ensures.followed (take i journal) before in
    let more = subst (λ (l : List Entry). AreFollowed l sessions now) (sym (entries_more journal i c.entry-item.result c.loop-entry-test.true c.entry-item.is)) after in
    record {
      size = ap length back ∙ (c.follow_entry.ensures.size ∙ (ap length c.as_mut_slice.ensures.value ∙ c.loop-entry.invariant.size));
      followed = subst (λ (l : List Progress). AreFollowed (take (i + 1) journal) sessions l) (sym back) more;
    }
