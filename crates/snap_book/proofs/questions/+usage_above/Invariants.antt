use Rattle.snap_book.proofs.questions.+usage_above.Given as goal

abbrev pub decreases-usage_above : goal.decreases-usage_above
decreases-usage_above l = l.most
