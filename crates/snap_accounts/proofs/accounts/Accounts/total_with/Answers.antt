use Rattle.std.proofs.Common.{ap, arith}
use Rattle.snap_usage.specs.declared.usage.Usage.{Usage}
use Rattle.snap_call.specs.State.{limit_at}
use Rattle.snap_accounts.proofs.Accounting.{few-within}
use Rattle.snap_accounts.proofs.accounts.Accounts.total_with.Goals as goal

pub plus-requires-clause-blocks : goal.plus-requires-clause-blocks
plus-requires-clause-blocks g c =
    let few = few-within (limit_at c.args.place c.args.self.now.namespaces) c.total.result c.total.ensures.limit c.total.ensures.within in
    omega (arith, few.0, c.requires.held.blocks, c.requires.count.blocks, ap (λ (u : Usage). u.blocks) c.total.ensures.total, ap (λ (u : Usage). u.blocks) c.difference-rest.ensures)

pub plus-requires-clause-inodes : goal.plus-requires-clause-inodes
plus-requires-clause-inodes g c =
    let few = few-within (limit_at c.args.place c.args.self.now.namespaces) c.total.result c.total.ensures.limit c.total.ensures.within in
    omega (arith, few.1, c.requires.held.inodes, c.requires.count.inodes, ap (λ (u : Usage). u.inodes) c.total.ensures.total, ap (λ (u : Usage). u.inodes) c.difference-rest.ensures)
