use Rattle.std.proofs.Common.{◌∙◌, ◌≡◌, ap, arith, sym}
use Rattle.std.specs.BTreeMap.{get_by_text}
use Rattle.snap_lease.specs.Numbers.{number_in}
use Rattle.snap_lease.proofs.NumberLemmas.{number_among, number_in-index_of}
use Rattle.snap_lease.proofs.numbers.LeaseNumbers.get.Goals as goal

pub returns-in-Some : goal.returns-in-Some
returns-in-Some c =
    let space = c.args.namespace.now in
    let lease = c.args.lease.now in
    let read : c.copied.result ≡ get_by_text c.in-Some.leases.now lease = grind arith in
    read ∙ ap (number_among lease) c.in-Some.ensures.value ∙ sym (number_in-index_of space lease c.self.inside.map) ∙ ap (number_in space lease) c.self.view_is

pub returns-in-None : goal.returns-in-None
returns-in-None c =
    let space = c.args.namespace.now in
    let lease = c.args.lease.now in
    ap (number_among lease) c.in-None.ensures.value ∙ sym (number_in-index_of space lease c.self.inside.map) ∙ ap (number_in space lease) c.self.view_is
