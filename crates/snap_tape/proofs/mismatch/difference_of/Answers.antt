use Rattle.std.proofs.Common.{◌+◌, List, take, sym, subst, ap, ◌∙◌}
use Rattle.std.proofs.lemmas.List.{take_all}
use Rattle.snap_call.specs.declared.entry.Entry.{Entry}
use Rattle.snap_call.specs.Journal.{session_entries}
use Rattle.snap_tape.specs.Following.{IsProgress, IsDifference}
use Rattle.snap_tape.specs.declared.mismatch.Progress.{Progress}
use Rattle.snap_tape.proofs.Progressing.{own_yes, own_no}
use Rattle.snap_tape.proofs.mismatch.difference_of.Goals.{then-entry-number, else-entry-number}
use Rattle.snap_tape.proofs.mismatch.difference_of.Goals as goal

pub loop-entry-init : goal.loop-entry-init
loop-entry-init c = c.start-progress.ensures _

pub loop-entry-preserved : goal.loop-entry-preserved
loop-entry-preserved c =
    let journal = c.args.journal.now in
    let i = c.loop-entry.entry-index in
    let e = c.entry-item.result in
    let n = c.number-number.result in
    let tape = c.tape-tape.result.now in
    elim c.if-entry-number.branch as (λ w. IsProgress tape (session_entries (take (i + 1) journal) n) c.if-entry-number.progress) [
      | then-entry-number w ↦
          subst (λ (p : Progress). IsProgress tape (session_entries (take (i + 1) journal) n) p) (sym w.progress-is)
          (subst (λ (l : List Entry). IsProgress tape l w.next-progress.result) (sym (own_yes journal i e n c.loop-entry-test.true c.entry-item.is (ap (λ (x : Entry). x.session) (sym c.entry.ensures) ∙ w.if-entry-number.true))) (w.next-progress.ensures (session_entries (take i journal) n) c.loop-entry.invariant))
      | else-entry-number w ↦
          subst (λ (p : Progress). IsProgress tape (session_entries (take (i + 1) journal) n) p) (sym w.progress-is)
          (subst (λ (l : List Entry). IsProgress tape l c.loop-entry.progress) (sym (own_no journal i e n c.loop-entry-test.true c.entry-item.is (λ h. w.if-entry-number.false (ap (λ (x : Entry). x.session) c.entry.ensures ∙ h)))) c.loop-entry.invariant)
    ]

pub returns : goal.returns
returns c =
    let journal = c.args.journal.now in
    let all = ap (λ (l : List Entry). session_entries l c.number-number.result) (take_all c.loop-entry.entry-index journal c.loop-entry-test.false) in
    let ended = c.end.ensures (session_entries (take c.loop-entry.entry-index journal) c.number-number.result) c.loop-entry.invariant in
    let whole = subst (λ (l : List Entry). IsDifference c.tape-tape.result.now l c.end.result) all ended in
    subst (λ (t : List Entry). IsDifference t (session_entries journal c.args.session.now.number) c.end.result) c.tape-tape.ensures (subst (λ n. IsDifference c.tape-tape.result.now (session_entries journal n) c.end.result) c.number-number.ensures whole)
