use Rattle.snap_call.proofs.records.Records.+put_chain.Given as goal

abbrev pub decreases-put_chain : goal.decreases-put_chain
decreases-put_chain l = l.most
