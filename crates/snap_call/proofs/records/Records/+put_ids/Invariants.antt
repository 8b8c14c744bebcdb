use Rattle.snap_call.proofs.records.Records.+put_ids.Given as goal

abbrev pub decreases-put_ids : goal.decreases-put_ids
decreases-put_ids l = l.most
