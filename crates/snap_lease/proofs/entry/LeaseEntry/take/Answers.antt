use Rattle.std.proofs.Common.{◌∙◌, ap, is_some, map, string_bytes, subst, sym}
use Rattle.std.proofs.lemmas.Map.Made.{is_some-lookup}
use Rattle.std.specs.List.{IsDistinct}
use Rattle.std.specs.Map.{keys_of}
use Rattle.std.specs.Str.{bytes_eq}
use Rattle.snap_lease.specs.Lease.{Lease, without_lease_name}
use Rattle.snap_lease.specs.contracts.entry.LeaseEntry.{the_view}
use Rattle.snap_lease.proofs.DropLemmas.{names-removed}
use Rattle.snap_lease.proofs.LeaseLemmas.{list_any-names}
use Rattle.snap_lease.proofs.entry.LeaseEntry.take.Goals as goal

pub returns-clause-there : goal.returns-clause-there
returns-clause-there c =
    let es = c.self.inside.names.entries in
    rw (← c.self.view_is) (c.is_some.ensures ∙ ap is_some c.shift_remove.ensures.value ∙ is_some-lookup _ es ∙ sym (list_any-names c.args.name.now (keys_of es)))

pub returns-clause-left : goal.returns-clause-left
returns-clause-left c =
    let es = c.self.inside.names.entries in
    let once : IsDistinct bytes_eq (map string_bytes (keys_of es)) = subst (λ (l : Lease). IsDistinct bytes_eq l.names) (sym c.self.view_is) c.requires in
    ap (λ ns. record (the_view c.self.inside) { names = ns }) (ap (λ e. map string_bytes (keys_of e)) c.shift_remove.ensures.entries ∙ names-removed c.args.name.now es once)
    ∙ ap (without_lease_name c.args.name.now) c.self.view_is
