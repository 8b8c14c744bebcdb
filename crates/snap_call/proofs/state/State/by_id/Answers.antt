use Rattle.std.proofs.Common.{rules, ◌≡◌, ◌∙◌, ℕ, ◌≤◌, List, [], map, subst, sym}
use Rattle.std.specs.Prelude.{IsPermutation, Ok}
use Rattle.std.proofs.lemmas.List.Sorted.{IsNonDecreasingBy-from_sort_by_key}
use Rattle.snap_record.specs.declared.record.Record.{Record}
use Rattle.snap_call.specs.Saved.{put_all_back, saved_of, without_snapshots}
use Rattle.snap_call.proofs.Back.{put_back_all}
use Rattle.snap_call.proofs.ById.{by_id-of_sorted}
use Rattle.snap_call.proofs.state.State.by_id.Goals as goal

pub returns-clause-records : goal.returns-clause-records
returns-clause-records c =
    let s = c.args.self.now in
    let ordered = c.sort_by_key.new.self.items in
    by_id-of_sorted s.next_id s.records ordered c.requires.ids c.requires.numbered
    (subst (λ (rs : List Record). IsPermutation rs ordered) (c.in_ok-list.ensures ∙ c.in_ok-held.ensures) c.sort_by_key.ensures.permutation)
    (IsNonDecreasingBy-from_sort_by_key (λ (r : Record). r.id) ordered (c.in_ok-sort_by_key.ensures.sorted) (λ a r q k. search rules))

pub returns-clause-back : goal.returns-clause-back
returns-clause-back c charged =
    let s = c.args.self.now in
    subst (λ (rs : List Record). (next : ℕ) × (next ≤ s.next_id) × (put_all_back (without_snapshots s) (map (saved_of s.namespaces) rs) ≡ Ok (record s { leases = []; next_id = next })))
    (sym (returns-clause-records c)) (put_back_all s c.requires charged)
