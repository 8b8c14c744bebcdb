use Rattle.std.proofs.Common.{◌∙◌, sym}
use Rattle.std.proofs.lemmas.Map.Made.{is_some-lookup}
use Rattle.std.specs.Map.{keys_of}
use Rattle.snap_lease.proofs.LeaseLemmas.{list_any-names}
use Rattle.snap_lease.proofs.entry.LeaseEntry.does_name.Goals as goal

pub returns : goal.returns
returns c =
    let es = c.self.inside.names.entries in
    rw (← c.self.view_is) (c.contains_key.ensures ∙ is_some-lookup _ es ∙ sym (list_any-names c.args.name.now (keys_of es)))
