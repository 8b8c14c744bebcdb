use Rattle.std.proofs.Common.{◌≡◌, true≢false, None, Some, subst, sym, ap, ◌∙◌}
use Rattle.std.specs.Map.{lookup, values_of}
use Rattle.std.specs.BTreeMap.{values}
use Rattle.std.specs.Option.{option_copied_mut}
use Rattle.snap_call.specs.Spaces.{AreGroups, joined_records}
use Rattle.snap_call.proofs.Groups.{at_beginning, all-found, groups-found, groups-found_none, groups-without_none, put-without, groups-put_without, groups-put_none, all-removed, groups-removed}
use Rattle.snap_call.proofs.spaces.space.take_out.Goals as goal
use Rattle.snap_call.proofs.spaces.space.take_out.Goals.{then-is_empty+in-Some-1, then-is_empty+in-None-1, else-is_empty}

pub returns-in_err-group-clause-taken : goal.returns-in_err-group-clause-taken
returns-in_err-group-clause-taken c = λ place of.
    let es = c.args.map.now.entries in
    let p = c.beginning_of-beginning.result in
    let absent : lookup (at_beginning p) es ≡ None = sym c.get_mut.ensures.value ∙ ap option_copied_mut c.in_err-group.was in
    ap (λ vs. joined_records vs) (ap values c.get_mut.follows.holds-at-none)
    ∙ sym (groups-without_none place c.args.key.now p c.beginning_of-beginning.ensures es c.requires of absent)

pub returns-in_err-group-clause-record_taken : goal.returns-in_err-group-clause-record_taken
returns-in_err-group-clause-record_taken c = λ place of.
    let es = c.args.map.now.entries in
    let p = c.beginning_of-beginning.result in
    let absent : lookup (at_beginning p) es ≡ None = sym c.get_mut.ensures.value ∙ ap option_copied_mut c.in_err-group.was in
    c.from_residual.ensures
    ∙ sym (groups-found_none place c.args.key.now p c.beginning_of-beginning.ensures es c.requires absent)

pub returns-in_err-removed-clause-groups : goal.returns-in_err-removed-clause-groups
returns-in_err-removed-clause-groups c =
    let es = c.args.map.now.entries in
    let p = c.beginning_of-beginning.result in
    let g = c.in_ok-group.group.now in
    let w = c.remove.new.self in
    let found : lookup (at_beginning p) es ≡ Some g = sym c.get_mut.ensures.value ∙ ap option_copied_mut c.in_ok-group.was in
    let h = c.get_mut.follows.holds w in
    groups-put_none es _ p g w c.requires found h.0 h.4 c.args.key.now c.beginning_of-beginning.ensures c.remove.ensures.taken (λ place of. sym (c.remove.ensures.record_taken place of) ∙ c.in_err-removed.was)

pub returns-in_err-removed-clause-taken : goal.returns-in_err-removed-clause-taken
returns-in_err-removed-clause-taken c = λ place of.
    let es = c.args.map.now.entries in
    let p = c.beginning_of-beginning.result in
    let g = c.in_ok-group.group.now in
    let w = c.remove.new.self in
    let found : lookup (at_beginning p) es ≡ Some g = sym c.get_mut.ensures.value ∙ ap option_copied_mut c.in_ok-group.was in
    let h = c.get_mut.follows.holds w in
    put-without es _ p g w c.requires found h.0 h.4 c.args.key.now c.beginning_of-beginning.ensures c.remove.ensures.taken place of

pub returns-in_err-removed-clause-record_taken : goal.returns-in_err-removed-clause-record_taken
returns-in_err-removed-clause-record_taken c = λ place of.
    let es = c.args.map.now.entries in
    let p = c.beginning_of-beginning.result in
    let g = c.in_ok-group.group.now in
    let found : lookup (at_beginning p) es ≡ Some g = sym c.get_mut.ensures.value ∙ ap option_copied_mut c.in_ok-group.was in
    c.from_residual-in_err-removed.ensures
    ∙ sym c.in_err-removed.was
    ∙ c.remove.ensures.record_taken place (all-found (λ r. r.namespace ≡ place) (at_beginning p) es g found of)
    ∙ groups-found place c.args.key.now p c.beginning_of-beginning.ensures es g c.requires found

pub returns-clause-groups : goal.returns-clause-groups
returns-clause-groups c =
    let es = c.args.map.now.entries in
    let p = c.beginning_of-beginning.result in
    let g = c.in_ok-group.group.now in
    let w = c.remove.new.self in
    let found : lookup (at_beginning p) es ≡ Some g = sym c.get_mut.ensures.value ∙ ap option_copied_mut c.in_ok-group.was in
    let h = c.get_mut.follows.holds w in
    elim c.if-is_empty.branch [
      | then-is_empty+in-Some-1 b ↦ subst (λ m. AreGroups m.entries) (sym b.map-is) (groups-removed es _ p g w c.requires found h.0 h.4 c.args.key.now c.beginning_of-beginning.ensures c.remove.ensures.taken _ (c.is_empty.ensures.0 b.if-is_empty.true) b.remove-then-is_empty.ensures.entries b.remove-then-is_empty.ensures.ordered)
      | then-is_empty+in-None-1 b ↦ subst (λ m. AreGroups m.entries) (sym b.map-is) (groups-removed es _ p g w c.requires found h.0 h.4 c.args.key.now c.beginning_of-beginning.ensures c.remove.ensures.taken _ (c.is_empty.ensures.0 b.if-is_empty.true) b.remove-then-is_empty.ensures.entries b.remove-then-is_empty.ensures.ordered)
      | else-is_empty b ↦ subst (λ m. AreGroups m.entries) (sym b.map-is) (groups-put_without es _ p g w c.requires found h.0 h.4 c.args.key.now c.beginning_of-beginning.ensures c.remove.ensures.taken (λ none. true≢false (sym (c.is_empty.ensures.1 none) ∙ b.if-is_empty.false)))
    ]

pub returns-clause-taken : goal.returns-clause-taken
returns-clause-taken c = λ place of.
    let es = c.args.map.now.entries in
    let p = c.beginning_of-beginning.result in
    let g = c.in_ok-group.group.now in
    let w = c.remove.new.self in
    let found : lookup (at_beginning p) es ≡ Some g = sym c.get_mut.ensures.value ∙ ap option_copied_mut c.in_ok-group.was in
    let h = c.get_mut.follows.holds w in
    let rest = put-without es _ p g w c.requires found h.0 h.4 c.args.key.now c.beginning_of-beginning.ensures c.remove.ensures.taken place of in
    elim c.if-is_empty.branch [
      | then-is_empty+in-Some-1 b ↦ ap (λ m. joined_records (values_of m.entries)) b.map-is ∙ all-removed es _ p g w c.requires found h.0 h.4 c.args.key.now c.beginning_of-beginning.ensures c.remove.ensures.taken _ (c.is_empty.ensures.0 b.if-is_empty.true) b.remove-then-is_empty.ensures.entries
      | then-is_empty+in-None-1 b ↦ ap (λ m. joined_records (values_of m.entries)) b.map-is ∙ all-removed es _ p g w c.requires found h.0 h.4 c.args.key.now c.beginning_of-beginning.ensures c.remove.ensures.taken _ (c.is_empty.ensures.0 b.if-is_empty.true) b.remove-then-is_empty.ensures.entries
      | else-is_empty b ↦ ap (λ m. joined_records (values_of m.entries)) b.map-is
    ]
    ∙ rest

pub returns-clause-record_taken : goal.returns-clause-record_taken
returns-clause-record_taken c = λ place of.
    let es = c.args.map.now.entries in
    let p = c.beginning_of-beginning.result in
    let g = c.in_ok-group.group.now in
    let found : lookup (at_beginning p) es ≡ Some g = sym c.get_mut.ensures.value ∙ ap option_copied_mut c.in_ok-group.was in
    sym c.in_ok-removed.was
    ∙ c.remove.ensures.record_taken place (all-found (λ r. r.namespace ≡ place) (at_beginning p) es g found of)
    ∙ groups-found place c.args.key.now p c.beginning_of-beginning.ensures es g c.requires found
