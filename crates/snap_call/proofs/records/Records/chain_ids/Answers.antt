use Rattle.snap_call.specs.State.{most_ancestors}
use Rattle.snap_call.proofs.Chains.{chain-found}
use Rattle.snap_call.proofs.records.Records.chain_ids.Goals as goal

pub put_ids-requires : goal.put_ids-requires
put_ids-requires c = chain-found most_ancestors c.args.self.now c.args.place c.args.parent.now c.requires
