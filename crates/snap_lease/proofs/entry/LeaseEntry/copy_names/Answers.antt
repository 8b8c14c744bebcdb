use Rattle.std.proofs.Common.{◌∙◌, rules, string_bytes}
use Rattle.snap_lease.proofs.LeaseLemmas.{map-push}
use Rattle.snap_lease.proofs.entry.LeaseEntry.copy_names.Goals as goal

pub loop-name-preserved : goal.loop-name-preserved
loop-name-preserved c =
    rw c.in_ok-push.ensures.items
    (map-push string_bytes c.as_slice-name-items.result.now c.loop-name.names.items c.in_ok-from_str.field-0 c.name-item.result
    c.loop-name.name-index (search rules) c.name-item.is (c.in_ok-from_str.ensures.ok ∙ c.as_str.ensures.value) c.loop-name.invariant)
