use Rattle.std.specs.Prelude.{slice_get}
use Rattle.std.proofs.Common.{◌≡◌, ◌+◌, List, Option, Some, None, length, take, set, sym, ap, ◌∙◌, subst, true≢false, length-set}
use Rattle.std.proofs.lemmas.Option.{slice_get-get_or}
use Rattle.std.specs.Prelude.{ℕ}
use Rattle.snap_tape.specs.Tapes.{SessionValue}
use Rattle.snap_tape.specs.Following.{AreIndexes}
use Rattle.snap_tape.proofs.Indexing.{refused, indexed_more, written_back}
use Rattle.snap_tape.proofs.indexes.indexes_of.Goals as goal

pub returns-then-not-set_index-clause-none : goal.returns-then-not-set_index-clause-none
returns-then-not-set_index-clause-none c once =
    let sessions = c.args.sessions.now in
    let i = c.loop-place.place in
    let s = c.index-sessions-place.result in
    let indexes = c.loop-place.indexes.items in
    let there : slice_get sessions i ≡ Some s = slice_get-get_or sessions i s c.loop-place-test.true ∙ ap (λ (x : SessionValue). Some x) (sym c.index-sessions-place.is) in
    refused sessions i s indexes c.loop-place.invariant.indexed c.loop-place.invariant.size there
    (λ free.
    let e = ap (λ (l : List (Option ℕ)). slice_get l c.number.result) c.as_mut_slice.ensures.value ∙ (ap (λ n. slice_get indexes n) c.number.ensures ∙ free) in
    true≢false (sym (c.set_index.ensures.free.1 e) ∙ c.if-not-set_index.true))
    once

pub loop-place-preserved : goal.loop-place-preserved
loop-place-preserved c =
    let sessions = c.args.sessions.now in
    let i = c.loop-place.place in
    let s = c.index-sessions-place.result in
    let indexes = c.loop-place.indexes.items in
    let now = c.set_index.new.indexes in
    let free = c.set_index.ensures.free.0 c.if-not-set_index.false in
    let empty : slice_get indexes s.number ≡ Some None =
    sym (ap (λ (l : List (Option ℕ)). slice_get l c.number.result) c.as_mut_slice.ensures.value ∙ ap (λ n. slice_get indexes n) c.number.ensures) ∙ free in
    let taken = (c.if-not-set_index.ensures).taken in
    let is : now ≡ set indexes s.number (Some i) =
    taken ∙ (ap (λ (l : List (Option ℕ)). set l c.number.result (Some i)) c.as_mut_slice.ensures.value ∙ ap (λ n. set indexes n (Some i)) c.number.ensures) in
    let long = ap length taken ∙ (length-set c.as_mut_slice.result.now c.number.result (Some i) ∙ c.as_mut_slice.ensures.len) in
    let back = written_back c.loop-place.indexes.len now indexes long in
    record {
      size = ap length back ∙ (ap length is ∙ (length-set indexes s.number (Some i) ∙ c.loop-place.invariant.size));
      indexed = subst (λ (l : List (Option ℕ)). AreIndexes (take (i + 1) sessions) l) (sym (back ∙ is)) (indexed_more sessions i s indexes c.loop-place-test.true c.index-sessions-place.is c.loop-place.invariant.indexed empty);
    }
