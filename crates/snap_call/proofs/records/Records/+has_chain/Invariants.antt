use Rattle.snap_call.proofs.records.Records.+has_chain.Given as goal

abbrev pub decreases-has_chain : goal.decreases-has_chain
decreases-has_chain l = l.most
