use Rattle.std.proofs.Common.{◌∙◌, ◌≡◌, false, sym}
use Rattle.snap_lease.specs.Live.{is_among}
use Rattle.snap_lease.proofs.LeaseLemmas.{names-inserted}
use Rattle.snap_lease.proofs.live.LiveNames.add.Goals as goal

pub returns : goal.returns
returns c =
    let absent : is_among c.args.name.now c.args.self.now ≡ false = sym c.has.ensures ∙ c.if-has.false in
    names-inserted c.args.name.now c.args.self.now c.self.inside.names.entries c.insert.new.self.entries c.in_ok-name.name tt
    absent (sym c.self.view_is) c.in_ok-name.ensures.ok c.in_ok-insert.ensures.entries
