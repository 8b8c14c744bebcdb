use Rattle.std.proofs.Common.{◌≡◌, None, Some, subst, sym, ap, ◌∙◌}
use Rattle.std.specs.Map.{lookup, values_of, set_value}
use Rattle.std.specs.BTreeMap.{insert_entry}
use Rattle.std.specs.Option.{option_copied_mut}
use Rattle.snap_record.specs.declared.record.Record.{Record}
use Rattle.snap_call.specs.Spaces.{AreGroups, joined_records, beginning, beginning_cmp}
use Rattle.snap_call.proofs.Groups.{at_beginning, all-found, absent-in, set-same, is-inserted, added-to, added-alone, all-added, groups-added}
use Rattle.snap_call.proofs.spaces.space.put.Goals as goal

pub returns-in_default-insert-clause-groups : goal.returns-in_default-insert-clause-groups
returns-in_default-insert-clause-groups c =
    let r = c.args.added in
    let es = c.args.map.now.entries in
    let p = c.beginning_of-beginning.result in
    let w = c.of-alone.result in
    let own : p.items ≡ beginning r.key = c.beginning_of-beginning.ensures ∙ ap beginning (c.as_str.ensures ∙ ap (λ (x : Record). x.key) c.record.ensures) in
    let absent : lookup (at_beginning p) es ≡ None = sym c.get_mut.ensures.value ∙ ap option_copied_mut c.in_default.is in
    let put = added-alone r p own es w absent (c.of-alone.ensures) in
    groups-added r p own es _ w c.requires.groups c.requires.of (c.in_default-insert.ensures.entries ∙ ap (λ m. insert_entry beginning_cmp m.entries p w) c.get_mut.follows.holds-at-none) put c.insert.ensures.ordered

pub returns-in_default-insert-clause-ok : goal.returns-in_default-insert-clause-ok
returns-in_default-insert-clause-ok c =
    let r = c.args.added in
    let es = c.args.map.now.entries in
    let p = c.beginning_of-beginning.result in
    let w = c.of-alone.result in
    let own : p.items ≡ beginning r.key = c.beginning_of-beginning.ensures ∙ ap beginning (c.as_str.ensures ∙ ap (λ (x : Record). x.key) c.record.ensures) in
    let absent : lookup (at_beginning p) es ≡ None = sym c.get_mut.ensures.value ∙ ap option_copied_mut c.in_default.is in
    let put = added-alone r p own es w absent (c.of-alone.ensures) in
    all-added r p own es _ w c.requires.groups c.requires.of (c.in_default-insert.ensures.entries ∙ ap (λ m. insert_entry beginning_cmp m.entries p w) c.get_mut.follows.holds-at-none) put

pub insert-requires-2-clause-of : goal.insert-requires-2-clause-of
insert-requires-2-clause-of c =
    let r = c.args.added in
    let es = c.args.map.now.entries in
    let p = c.beginning_of-beginning.result in
    let g = c.in-Some.group.now in
    let found : lookup (at_beginning p) es ≡ Some g = sym c.get_mut.ensures.value ∙ ap option_copied_mut c.in-Some.is in
    (all-found (λ t. t.namespace ≡ r.namespace) (at_beginning p) es g found c.requires.of)

pub insert-requires-2-clause-absent : goal.insert-requires-2-clause-absent
insert-requires-2-clause-absent c =
    let r = c.args.added in
    let es = c.args.map.now.entries in
    let p = c.beginning_of-beginning.result in
    let g = c.in-Some.group.now in
    let found : lookup (at_beginning p) es ≡ Some g = sym c.get_mut.ensures.value ∙ ap option_copied_mut c.in-Some.is in
    absent-in r.namespace r.key (at_beginning p) es g found c.requires.absent

pub returns-in_default-insert-2-clause-groups : goal.returns-in_default-insert-2-clause-groups
returns-in_default-insert-2-clause-groups c =
    let r = c.args.added in
    let es = c.args.map.now.entries in
    let p = c.beginning_of-beginning.result in
    let g = c.in-Some.group.now in
    let w = c.insert-2.new.self in
    let own : p.items ≡ beginning r.key = c.beginning_of-beginning.ensures ∙ ap beginning (c.as_str.ensures ∙ ap (λ (x : Record). x.key) c.record.ensures) in
    let found : lookup (at_beginning p) es ≡ Some g = sym c.get_mut.ensures.value ∙ ap option_copied_mut c.in-Some.is in
    let h = c.get_mut.follows.holds w in
    let put = added-to r p own es g w found (c.in_default-insert-2.ensures.ok) in
    groups-added r p own es _ w c.requires.groups c.requires.of (is-inserted r p own es _ g w c.requires.groups found h.0) put h.4

pub returns-in_default-insert-2-clause-ok : goal.returns-in_default-insert-2-clause-ok
returns-in_default-insert-2-clause-ok c =
    let r = c.args.added in
    let es = c.args.map.now.entries in
    let p = c.beginning_of-beginning.result in
    let g = c.in-Some.group.now in
    let w = c.insert-2.new.self in
    let own : p.items ≡ beginning r.key = c.beginning_of-beginning.ensures ∙ ap beginning (c.as_str.ensures ∙ ap (λ (x : Record). x.key) c.record.ensures) in
    let found : lookup (at_beginning p) es ≡ Some g = sym c.get_mut.ensures.value ∙ ap option_copied_mut c.in-Some.is in
    let h = c.get_mut.follows.holds w in
    let put = added-to r p own es g w found (c.in_default-insert-2.ensures.ok) in
    all-added r p own es _ w c.requires.groups c.requires.of (is-inserted r p own es _ g w c.requires.groups found h.0) put

pub returns-clause-groups : goal.returns-clause-groups
returns-clause-groups c =
    let es = c.args.map.now.entries in
    let p = c.beginning_of-beginning.result in
    let g = c.in-Some.group.now in
    let found : lookup (at_beginning p) es ≡ Some g = sym c.get_mut.ensures.value ∙ ap option_copied_mut c.in-Some.is in
    let h = c.get_mut.follows.holds c.insert-2.new.self in
    subst AreGroups (sym (h.0 ∙ ap (λ x. set_value (at_beginning p) es x) c.in-Err-insert.ensures.err ∙ set-same (at_beginning p) es g found)) c.requires.groups

pub returns-clause-err : goal.returns-clause-err
returns-clause-err c =
    let es = c.args.map.now.entries in
    let p = c.beginning_of-beginning.result in
    let g = c.in-Some.group.now in
    let found : lookup (at_beginning p) es ≡ Some g = sym c.get_mut.ensures.value ∙ ap option_copied_mut c.in-Some.is in
    let h = c.get_mut.follows.holds c.insert-2.new.self in
    ap (λ l. joined_records (values_of l)) (h.0 ∙ ap (λ x. set_value (at_beginning p) es x) c.in-Err-insert.ensures.err ∙ set-same (at_beginning p) es g found)
