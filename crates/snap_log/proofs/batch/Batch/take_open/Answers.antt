use Rattle.std.proofs.Common.{◌≤◌, ◌-◌, ◌++◌, length, sym, ap, ◌∙◌, subst, arith}
use Rattle.snap_log.specs.Batches.{Batched}
use Rattle.snap_log.proofs.OpenLaws.{open_batched}
use Rattle.snap_log.proofs.batch.Batch.take_open.Goals as goal

pub returns : goal.returns
returns c =
    let s : Batched = c.args.self.now in
    let held = c.self.inside.held.items in
    let bytes = c.args.bytes.now in
    let room : length bytes ≤ c.self.inside.limit - length held = omega (arith, c.if-bytes-left.false, c.saturating_sub-left.ensures, c.len.ensures) in
    ap (λ l. record { limit = c.self.inside.limit; whole = c.self.inside.whole.items; held = l }) c.in_ok-extend_from_slice.ensures.items
    ∙ ap (λ (z : Batched). record z { held = z.held ++ bytes }) c.self.view_is
    ∙ sym (open_batched s bytes c.requires (sym c.begins_blank.ensures ∙ c.if-begins_blank.false) (subst (λ (z : Batched). length bytes ≤ z.limit - length z.held) c.self.view_is room))
