use Rattle.std.proofs.Common.{◌≡◌, None, Some, subst, sym, ap, ◌∙◌}
use Rattle.std.specs.Map.{lookup, values_of}
use Rattle.std.specs.BTreeMap.{values}
use Rattle.std.specs.Option.{option_copied_mut}
use Rattle.snap_call.specs.Records.{is_named, record_at}
use Rattle.snap_call.specs.Spaces.{IsOf, first_place_of, joined_records, edited_record, edited_at}
use Rattle.snap_call.proofs.Entries.{edited-key, edited-namespace, edited-parent, parents-kept}
use Rattle.snap_call.proofs.Groups.{all-found, at_beginning, groups-amended_none, groups-found, put-amended, groups-put_amended}
use Rattle.snap_call.proofs.spaces.space.Space.edit.Goals as goal

pub returns-in_default : goal.returns-in_default
returns-in_default c = λ place of.
    let es = c.self.inside.map.entries in
    let p = c.beginning_of.result in
    let absent : lookup (at_beginning p) es ≡ None = sym c.get_mut.ensures.value ∙ ap option_copied_mut c.in_default.is in
    ap (λ vs. joined_records vs) (ap values c.get_mut.follows.holds-at-none)
    ∙ sym (groups-amended_none place c.args.key.now p c.beginning_of.ensures es c.self.invariant.0 (subst (IsOf place) (sym c.self.view_is) of) (edited_record c.args.edit) absent)
    ∙ ap (edited_at place c.args.key.now c.args.edit) c.self.view_is

pub invariant_of-self-2 : goal.invariant_of-self-2
invariant_of-self-2 c =
    let es = c.self.inside.map.entries in
    let rs = joined_records (values_of es) in
    let n = first_place_of rs in
    let p = c.beginning_of.result in
    let g = c.in-Some.group.now in
    let w = c.edit.new.self in
    let found : lookup (at_beginning p) es ≡ Some g = sym c.get_mut.ensures.value ∙ ap option_copied_mut c.in-Some.is in
    let h = c.get_mut.follows.holds w in
    let groups = c.self.invariant.0 in (
      groups-put_amended es _ p g w groups found h.0 h.4 c.args.key.now c.beginning_of.ensures (edited_record c.args.edit) c.edit.ensures (edited-key c.args.edit) (edited-namespace c.args.edit),
      parents-kept (is_named n c.args.key.now) (edited_record c.args.edit) rs _ c.self.inside.parents (edited-parent c.args.edit) c.self.invariant.1
          (put-amended es _ p g w groups found h.0 h.4 c.args.key.now c.beginning_of.ensures (edited_record c.args.edit) c.edit.ensures n groups.alike),
    )

pub returns : goal.returns
returns c = λ place of.
    let es = c.self.inside.map.entries in
    let p = c.beginning_of.result in
    let g = c.in-Some.group.now in
    let w = c.edit.new.self in
    let found : lookup (at_beginning p) es ≡ Some g = sym c.get_mut.ensures.value ∙ ap option_copied_mut c.in-Some.is in
    let h = c.get_mut.follows.holds w in
    put-amended es _ p g w c.self.invariant.0 found h.0 h.4 c.args.key.now c.beginning_of.ensures (edited_record c.args.edit) c.edit.ensures place (subst (IsOf place) (sym c.self.view_is) of)
    ∙ ap (edited_at place c.args.key.now c.args.edit) c.self.view_is

pub edit-requires : goal.edit-requires
edit-requires c =
    let place = c.requires.0 in
    let es = c.self.inside.map.entries in
    let p = c.beginning_of.result in
    let g = c.in-Some.group.now in
    let found : lookup (at_beginning p) es ≡ Some g = sym c.get_mut.ensures.value ∙ ap option_copied_mut c.in-Some.is in (
      place,
      all-found (λ r. r.namespace ≡ place) (at_beginning p) es g found (subst (IsOf place) (sym c.self.view_is) c.requires.1),
      λ r e. c.requires.2 r (sym (groups-found place c.args.key.now p c.beginning_of.ensures es g c.self.invariant.0 found ∙ ap (record_at place c.args.key.now) c.self.view_is) ∙ e),
    )
