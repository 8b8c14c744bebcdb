use Rattle.std.proofs.Common.{◌≡◌, Some, subst, sym, ap, ◌∙◌}
use Rattle.std.specs.Map.{lookup}
use Rattle.std.specs.Option.{option_copied}
use Rattle.snap_call.specs.Records.{record_at}
use Rattle.snap_call.specs.Spaces.{IsOf}
use Rattle.snap_call.proofs.Groups.{at_beginning, all-found, groups-found, groups-found_none}
use Rattle.snap_call.proofs.spaces.space.Space.get.Goals as goal

pub returns-in-None : goal.returns-in-None
returns-in-None c = λ place of.
    sym (groups-found_none place c.args.key.now c.beginning_of.result c.beginning_of.ensures c.self.inside.map.entries c.self.invariant.0 (sym c.get.ensures.value ∙ ap option_copied c.in-None.is))
    ∙ ap (record_at place c.args.key.now) c.self.view_is

pub returns-in-Some : goal.returns-in-Some
returns-in-Some c = λ place of.
    let es = c.self.inside.map.entries in
    let p = c.beginning_of.result in
    let g = c.in-Some.group.now in
    let found : lookup (at_beginning p) es ≡ Some g = sym c.get.ensures.value ∙ ap option_copied c.in-Some.is in
    c.get-in-Some.ensures place (all-found (λ r. r.namespace ≡ place) (at_beginning p) es g found (subst (IsOf place) (sym c.self.view_is) of))
    ∙ groups-found place c.args.key.now p c.beginning_of.ensures es g c.self.invariant.0 found
    ∙ ap (record_at place c.args.key.now) c.self.view_is
