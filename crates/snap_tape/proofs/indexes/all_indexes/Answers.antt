use Rattle.std.specs.Prelude.{All, IsSome, ℕ}
use Rattle.std.proofs.Common.{List, Option, sym, subst, ◌∙◌, true≢false}
use Rattle.snap_tape.proofs.Indexing.{all_taken, indexed_once, taken_index}
use Rattle.snap_tape.proofs.indexes.all_indexes.Goals as goal

pub returns-then-are_taken-clause-indexes : goal.returns-then-are_taken-clause-indexes
returns-then-are_taken-clause-indexes c =
    let h = c.in_ok-indexes.ensures in
    let at = rw c.in-Some.is at h.indexes in
    let size = rw c.in-Some.is at h.size in
    let all = subst (λ (l : List (Option ℕ)). All (λ index. IsSome index) l) c.as_slice.ensures.value (c.are_taken.ensures.0 c.if-are_taken.true) in
    (at, indexed_once c.args.sessions.now c.in-Some.indexes.items at size (taken_index c.in-Some.indexes.items _ size all))

pub returns-else-are_taken-clause-none : goal.returns-else-are_taken-clause-none
returns-else-are_taken-clause-none c once =
    let h = c.in_ok-indexes.ensures in
    let at = rw c.in-Some.is at h.indexes in
    let size = rw c.in-Some.is at h.size in
    let all = subst (λ (l : List (Option ℕ)). All (λ index. IsSome index) l) (sym c.as_slice.ensures.value) (all_taken c.args.sessions.now c.in-Some.indexes.items at size once) in
    true≢false (sym (c.are_taken.ensures.1 all) ∙ c.if-are_taken.false)
